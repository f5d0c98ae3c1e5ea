-- A rewritten plan has the plan's nodes, parents and children, its kinds but for the and, and its number of the check. Assumes nothing.
use mathlib.Core.Path.{◌≡◌, refl, ap, ◌∙◌}
use mathlib.Core.Bool.{Bool, true, false, cond, ◌&&◌, not, and-false}
use mathlib.Core.List.{List}
use Prim.Native.Nat.{ℕ, zero, suc, pred, ◌+◌, ◌*◌, ◌/◌, ◌%◌, ◌≤◌}
use native.Mathlib.Omega.{arith}
use lib.Dec.{eqb, leb, ltb}
use lib.ListN.{length, get_or, get_or-eq_default}
use borrow.Author.Tests.{eq-eqb, ne_eqb, eqb-true, ltb-true, ltb-false}
use Rattle.lists.specs.Seq.{keep, up_from, all_below}
use Rattle.lists.proofs.Logic.{cases, decided}
use Rattle.lists.proofs.Table.{table-length, table_at}
use Rattle.plan.specs.Plan.{kind_number, is_kind, kind_of, size, kind_byte, kind, parent, children_below, children, child_count, others, above, in_xor, depth_within, depth}
use Rattle.plan.specs.declared.kinds.Kind.{Kind}
use Rattle.plan.specs.declared.kinds.Kind.TheVariants.{Task as task, Serial as serial, And as and, Or as or, Xor as xor, Contingency as contingency, Conditional as conditional, Waiting as waiting}
use Rattle.plan.specs.Check.{length_ok, kind_ok, parent_ok, under_block, fits, count_ok, depth_ok, at_all, check_number}
use Rattle.plan.proofs.KindLaws.{is-kind}
use Rattle.rewrite.specs.Rewrite.{rewritten_byte, rewritten}

-- an and becomes a waiting one
unfoldable pub renewed : Kind → Kind
renewed k = cond (is_kind and k) waiting k

fits-renewed : (k : Kind) (n : ℕ) → fits (renewed k) n ≡ fits k n
unfolding renewed is_kind kind_number fits
fits-renewed task n = refl
fits-renewed serial n = refl
fits-renewed and n = refl
fits-renewed or n = refl
fits-renewed xor n = refl
fits-renewed contingency n = refl
fits-renewed conditional n = refl
fits-renewed waiting n = refl

pub xor-renewed : (k : Kind) → is_kind xor (renewed k) ≡ is_kind xor k
unfolding renewed is_kind kind_number
xor-renewed task = refl
xor-renewed serial = refl
xor-renewed and = refl
xor-renewed or = refl
xor-renewed xor = refl
xor-renewed contingency = refl
xor-renewed conditional = refl
xor-renewed waiting = refl

-- a test that 3 and 8 pass alike does not see the change
byte-renewed : (f : ℕ → Bool) → f 3 ≡ f 8 → (b : ℕ) → f (cond (eqb b 3) 8 b) ≡ f b
byte-renewed f h b = cases (decided (eqb b 3)) (λ e. rw (e, eqb-true b 3 e, h)) (λ e. rw e)

module _ (p : List ℕ) where
  long_kept : length (rewritten p) ≡ length p
  unfolding rewritten
  long_kept = table-length (rewritten_byte p) (length p)

  byte_at : (i : ℕ) → get_or (rewritten p) i 0 ≡ cond (eqb (i % 2) 0 && eqb (get_or p i 0) 3) 8 (get_or p i 0)
  unfolding rewritten rewritten_byte
  byte_at i = cases (decided (ltb i (length p)))
      (λ l. table_at (rewritten_byte p) (length p) i (ltb-true i (length p) l))
      (λ l. let past : length p ≤ i = ltb-false i (length p) l in
      rw (get_or-eq_default p 0 past, and-false (eqb (i % 2) 0)) (get_or-eq_default (rewritten p) 0 (omega (arith, long_kept))))

  pub size-kept : size (rewritten p) ≡ size p
  unfolding size
  size-kept = ap (λ n. n / 2) long_kept

  pub parent-at : (v : ℕ) → parent (rewritten p) v ≡ parent p v
  unfolding parent
  parent-at v = byte_at (2 * v + 1) ∙ rw (ne_eqb ((2 * v + 1) % 2) 0 (λ e. omega arith))

  kind-byte : (v : ℕ) → kind_byte (rewritten p) v ≡ cond (eqb (kind_byte p v) 3) 8 (kind_byte p v)
  unfolding kind_byte
  kind-byte v = byte_at (2 * v) ∙ rw (eq-eqb ((2 * v) % 2) 0 (omega arith))

  pub kind_at : (v : ℕ) → kind (rewritten p) v ≡ renewed (kind p v)
  unfolding kind renewed kind_number kind_of
  kind_at v = ap kind_of (kind-byte v) ∙ rw (is-kind and (kind_byte p v) (omega arith)) (go (eqb (kind_byte p v) 3))
    where
      go : (b : Bool) → kind_of (cond b 8 (kind_byte p v)) ≡ cond b waiting (kind_of (kind_byte p v))
      go true = refl
      go false = refl

  pub above_at : (v : ℕ) → above (rewritten p) v ≡ renewed (above p v)
  unfolding above renewed is_kind kind_number
  above_at v = rw (parent-at v, kind_at (parent p v)) (go (eqb v 0))
    where
      go : (b : Bool) → cond b task (renewed (kind p (parent p v))) ≡ renewed (cond b task (kind p (parent p v)))
      go true = refl
      go false = refl

  pub xor-at : (v : ℕ) → in_xor (rewritten p) v ≡ in_xor p v
  unfolding in_xor
  xor-at v = ap (is_kind xor) (above_at v) ∙ xor-renewed (above p v)

  pub children-at : (u : ℕ) → children (rewritten p) u ≡ children p u
  unfolding children children_below
  children-at u = λ i. keep (λ c. eqb (parent-at c i) u) (up_from 1 (pred (size-kept i)))

  pub others-at : (v : ℕ) → others (rewritten p) v ≡ others p v
  unfolding others
  others-at v = rw (parent-at v, children-at (parent p v))

  -- the tests of the check
  all-kept : (ok : List ℕ → ℕ → Bool) → ((v : ℕ) → ok (rewritten p) v ≡ ok p v) → at_all ok (rewritten p) ≡ at_all ok p
  unfolding at_all
  all-kept ok h = λ i. all_below (λ v. h v i) (size-kept i)

  length-kept : length_ok (rewritten p) ≡ length_ok p
  unfolding length_ok
  length-kept = rw long_kept

  kinds_kept : (v : ℕ) → kind_ok (rewritten p) v ≡ kind_ok p v
  unfolding kind_ok
  kinds_kept v = rw (kind-byte v) (byte-renewed (λ b. leb 1 b && leb b 8) refl (kind_byte p v))

  parents-kept : (v : ℕ) → parent_ok (rewritten p) v ≡ parent_ok p v
  unfolding parent_ok
  parents-kept v = rw (parent-at v)

  blocks-kept : (v : ℕ) → under_block (rewritten p) v ≡ under_block p v
  unfolding under_block
  blocks-kept v = rw (parent-at v, kind-byte (parent p v), byte-renewed (λ b. not (eqb b 1)) refl (kind_byte p (parent p v)))

  counts-kept : (v : ℕ) → count_ok (rewritten p) v ≡ count_ok p v
  unfolding count_ok child_count
  counts-kept v = rw (kind_at v, children-at v) (fits-renewed (kind p v) (length (children p v)))

  within-kept : (nodes v : ℕ) → depth_within nodes (rewritten p) v ≡ depth_within nodes p v
  unfolding depth_within
  within-kept zero v = refl
  within-kept (suc nodes) v = rw (parent-at v, within-kept nodes (parent p v))

  depths-kept : (v : ℕ) → depth_ok (rewritten p) v ≡ depth_ok p v
  unfolding depth_ok depth
  depths-kept v = rw (within-kept (suc v) v)

  pub check-kept : check_number (rewritten p) ≡ check_number p
  unfolding check_number
  check-kept = rw (
    length-kept,
    all-kept kind_ok kinds_kept,
    all-kept parent_ok parents-kept,
    all-kept under_block blocks-kept,
    all-kept count_ok counts-kept,
    all-kept depth_ok depths-kept,
  )
