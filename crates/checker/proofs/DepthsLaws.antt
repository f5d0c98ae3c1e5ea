-- What a call of the second form comes to, by the test that fails first. Assumes nothing.
use mathlib.Core.Path.{◌≡◌, refl, sym, ◌∙◌, ap}
use mathlib.Core.Bool.{Bool, true, false, cond, not, ◌&&◌}
use mathlib.Core.List.{List, ◌++◌}
use mathlib.Core.Logic.{◌⊎◌, inl, inr}
use Prim.Native.Nat.{ℕ, ◌≤◌}
use native.Mathlib.Omega.{arith}
use lib.Dec.{eqb}
use lib.ListN.{length, take, drop, replicate, length-append}
use lib.Seq.{take_at}
use borrow.Author.Tests.{eqb-true, eq-eqb, ne_eqb}
use Rattle.lists.specs.Seq.{table}
use Rattle.lists.proofs.Logic.{decided}
use Rattle.lists.proofs.Parts.{copied-over}
use Rattle.lists.proofs.Table.{table-length}
use Rattle.plan.specs.Plan.{size, depth}
use Rattle.plan.specs.Check.{check_number, fit_number}
use Rattle.plan.proofs.FitLaws.{fit-right}
use Rattle.checker.specs.Depths.{checked, depths_front, depths_number, depths_of}

-- s, of which n bytes were lent as d, holds the depths now
pub front-left : (p d s : List ℕ) (n : ℕ) → d ≡ replicate 160 0 → n ≡ size p → s ≡ table (depth p) (size p) → s ++ drop n d ≡ depths_front p
unfolding depths_front
front-left p d s n z e f = rw (z, e, f)

-- k is what `check_into` answered
module _ (p d : List ℕ) (k : ℕ) (told : k ≡ check_number p) where
  refused-is : (k ≡ 0 → ⊥) → depths_number p d ≡ k
  unfolding depths_number fit_number
  refused-is h = rw (← told, ne_eqb k 0 h)

  pub depths-refused : (k ≡ 0 → ⊥) → depths_of p d ≡ checked d k
  unfolding depths_of
  depths-refused h = rw (refused-is h, ne_eqb k 0 h)

  -- the plan is accepted; n is the node count
  module _ (none : k ≡ 0) (n : ℕ) (count : n ≡ size p) where
    accepted-is : depths_number p d ≡ cond (not (eqb (length d) n)) 7 0
    unfolding depths_number fit_number
    accepted-is = rw (← told, none, count)

    pub depths-wrong : (length d ≡ n → ⊥) → depths_of p d ≡ checked d 7
    unfolding depths_of
    depths-wrong h = rw (accepted-is, ne_eqb (length d) n h)

    -- the front of s, which holds the depths, is copied over d
    module _ (s : List ℕ) (front : s ≡ depths_front p) where
      front-is : take n s ≡ table (depth p) (size p)
      unfolding depths_front
      front-is = rw front (take_at (table (depth p) (size p)) _ n (table-length (depth p) (size p) ∙ sym count))

      pub front_length : n ≡ length (take n s)
      front_length = sym (ap length front-is ∙ table-length (depth p) (size p) ∙ sym count)

      pub front-room : n ≤ length s
      unfolding depths_front
      front-room = rw front (omega (arith, length-append (table (depth p) (size p)) (drop (size p) (replicate 160 0)), table-length (depth p) (size p)))

      module _ (long : length d ≡ n) where
        pub front_fits : length (take n s) ≤ length d
        front_fits = omega (arith, front_length)

        pub depths-done : (d' : List ℕ) → d' ≡ take (length (take n s)) (take n s) ++ drop (length (take n s)) d → depths_of p d ≡ checked d' 0
        unfolding depths_of
        depths-done d' f = rw (accepted-is, eq-eqb (length d) n long, f ∙ copied-over (take n s) d (sym front_length ∙ sym long) ∙ front-is)

-- the tests in one line
fit_is : (p : List ℕ) (b long : Bool) → eqb (check_number p) 0 ≡ b → fit_number p long ≡ cond (eqb (check_number p) 0 && not long) 7 (check_number p)
unfolding fit_number
fit_is p true true e = rw e (sym (eqb-true (check_number p) 0 e))
fit_is p true false e = rw e
fit_is p false long e = rw e

module _ (p d : List ℕ) where
  number_is : (depths_of p d).number ≡ fit_number p (eqb (length d) (size p))
  unfolding depths_of depths_number
  number_is = go (fit_number p (eqb (length d) (size p))) (decided (eqb (fit_number p (eqb (length d) (size p))) 0))
    where
      go : (n : ℕ) → (eqb n 0 ≡ true) ⊎ (eqb n 0 ≡ false) → (cond (not (eqb n 0)) (checked d n) (checked (table (depth p) (size p)) 0)).number ≡ n
      go n (inl e) = rw e (sym (eqb-true n 0 e))
      go n (inr e) = rw e

  pub number_same : (depths_of p d).number ≡ cond (eqb (check_number p) 0 && not (eqb (length d) (size p))) 7 (check_number p)
  number_same = number_is ∙ fit_is p (eqb (check_number p) 0) (eqb (length d) (size p)) refl

  pub number_fits : length d ≡ size p → (depths_of p d).number ≡ check_number p
  number_fits e = number_is ∙ rw (eq-eqb (length d) (size p) e) (fit-right p)
