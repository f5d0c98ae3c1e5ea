-- The rewriting of a plan made before kind 08 (rules A7, H1 to H7) as one value: the number and the lent bytes. Definitions only.
use Rattle.std.specs.Prelude.{cond, ◌&&◌, List, ℕ, ◌%◌, eqb, length, get_or}
use Rattle.lists.specs.Seq.{table}
use Rattle.plan.specs.Check.{fit_number}
use Rattle.plan.specs.Replaced.{Replaced, replaced_by}

-- A7: a node's kind 03 becomes 08; its other kinds and all parents stay
unfoldable pub rewritten_byte : List ℕ → ℕ → ℕ
rewritten_byte p i = cond (eqb (i % 2) 0 && eqb (get_or p i 0) 3) 8 (get_or p i 0)

unfoldable pub rewritten : List ℕ → List ℕ
rewritten p = table (rewritten_byte p) (length p)

-- H0: 1 to 6 of the plan, then 7 where the lent bytes have not its length
unfoldable pub rewrite_number : List ℕ → List ℕ → ℕ
rewrite_number p out = fit_number p (eqb (length out) (length p))

-- A7, H0: a refused call leaves the lent bytes; any other leaves the rewritten plan
unfoldable pub rewrite_of : List ℕ → List ℕ → Replaced
rewrite_of p out = replaced_by (rewrite_number p out) out (rewritten p)
