-- A guard's shape against a site's row (rule C1); only private functions' contracts cite it. Definitions only.
use Rattle.std.specs.Prelude.{Bool, true, cond, ◌&&◌, List, ℕ, eqb}
use Rattle.lists.specs.Seq.{all, any}
use Rattle.guard.specs.Put.{codes_of}
use Rattle.guard.specs.declared.table.Shape.{Shape}
use Rattle.row.specs.Row.{heard_in}

-- C1: [code of node]. What a shape leaves out holds
unfoldable pub one_holds : List ℕ → Shape → Bool
one_holds row s = cond (eqb s.code 0) true (cond (eqb s.each 0) (heard_in row s.code s.node) true)

-- C1: [codes of c]
unfoldable pub clause_holds : List ℕ → List ℕ → ℕ → Bool
clause_holds row ks c = any (λ k. heard_in row k c) ks

-- C1: the first `each` of [code, abort, turned down], for each of cs
unfoldable pub each_holds : List ℕ → Shape → List ℕ → Bool
each_holds row s cs = cond (eqb s.each 0) true (all (clause_holds row (codes_of s.code s.each)) cs)

-- C1: [any of cs]
unfoldable pub any_holds : List ℕ → Shape → List ℕ → Bool
any_holds row s cs = cond (eqb s.any 0) true (any (heard_in row s.any) cs)

-- C1: each of cs, and any of ds; a guard that leaves a node out has no clause for each
unfoldable pub family_holds : List ℕ → Shape → List ℕ → List ℕ → Bool
family_holds row s cs ds = each_holds row s cs && any_holds row s ds
