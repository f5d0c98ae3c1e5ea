-- A byte of the rewritten plan, and the call's answers, in the terms of the code. Assumes nothing.
use mathlib.Core.Path.{◌≡◌, sym, ◌∙◌}
use mathlib.Core.List.{List}
use Prim.Native.Nat.{ℕ, ◌%◌}
use lib.Dec.{eqb}
use lib.ListN.{length, get_or}
use borrow.Author.Tests.{eq-eqb, ne_eqb, eqb-true}
use Rattle.lists.proofs.Logic.{cases, decided}
use Rattle.plan.specs.Check.{fit_number}
use Rattle.plan.specs.Replaced.{replaced}
use Rattle.plan.proofs.FitLaws.{fit_none}
use Rattle.rewrite.specs.Rewrite.{rewritten_byte, rewritten, rewrite_number, rewrite_of}

-- b is the plan's byte
module _ (p : List ℕ) (i b : ℕ) (read : b ≡ get_or p i 0) where
  pub byte-new : i % 2 ≡ 0 → b ≡ 3 → 8 ≡ rewritten_byte p i
  unfolding rewritten_byte
  byte-new e h = rw (eq-eqb (i % 2) 0 e, eq-eqb (get_or p i 0) 3 (sym read ∙ h))

  pub byte-old : (i % 2 ≡ 0 → b ≡ 3 → ⊥) → b ≡ rewritten_byte p i
  unfolding rewritten_byte
  byte-old n = cases (decided (eqb (i % 2) 0))
      (λ e. rw (e, ← read, ne_eqb b 3 (n (eqb-true (i % 2) 0 e))))
      (λ e. rw (e, ← read))

-- n is what `fit` answered
module _ (p out : List ℕ) (n : ℕ) (told : n ≡ fit_number p (eqb (length out) (length p))) where
  pub rewrite-refused : (n ≡ 0 → ⊥) → rewrite_of p out ≡ replaced n out
  unfolding rewrite_of rewrite_number
  rewrite-refused h = rw (← told, ne_eqb n 0 h)

  module _ (fine : n ≡ 0) where
    pub rewrite-long : length out ≡ length p
    rewrite-long = eqb-true (length out) (length p) (fit_none p _ (sym told ∙ fine)).1

    pub rewrite-done : (new : List ℕ) → new ≡ rewritten p → rewrite_of p out ≡ replaced 0 new
    unfolding rewrite_of rewrite_number
    rewrite-done new e = rw (← told, fine, e)
