-- Two bytes a node: lengths and places. Assumes nothing.
use mathlib.Core.Path.{◌≡◌, refl, sym, ◌∙◌, ap}
use mathlib.Core.List.{[], ◌∷◌, ◌++◌}
use Prim.Native.Nat.{ℕ, zero, suc, ◌+◌, ◌*◌, ◌<◌}
use native.Mathlib.Omega.{arith}
use lib.Dec.{eqb}
use lib.ListN.{length, get_or, length-append, get_or-append}
use lib.Seq.{get_or-append-add}
use borrow.Author.Tests.{eqb-true, eqb-false}
use Rattle.lists.proofs.Logic.{cases, decided}
use Rattle.plan.specs.Plan.{size, kind_byte, parent}
use Rattle.depth_form.specs.Form.{pairs}

module _ (f g : ℕ → ℕ) where
  pub pairs-length : (n : ℕ) → length (pairs f g n) ≡ 2 * n
  unfolding pairs
  pairs-length zero = refl
  pairs-length (suc n) = omega (arith, length-append (pairs f g n) (f n ∷ g n ∷ []), pairs-length n)

  pub pairs-size : (n : ℕ) → size (pairs f g n) ≡ n
  unfolding size
  pairs-size n = omega (arith, pairs-length n)

  pairs-at : (n v : ℕ) → v < n → (get_or (pairs f g n) (2 * v) 0 ≡ f v) × (get_or (pairs f g n) (2 * v + 1) 0 ≡ g v)
  unfolding pairs
  pairs-at zero v l = absurd (omega arith)
  pairs-at (suc n) v l = cases (decided (eqb v n))
      (λ z. let e = eqb-true v n z in
      let len = pairs-length n in
      let s : 2 * v ≡ length (pairs f g n) + 0 = omega arith in
      let s' : 2 * v + 1 ≡ length (pairs f g n) + 1 = omega arith in (
        ap (λ i. get_or (pairs f g n ++ (f n ∷ g n ∷ [])) i 0) s ∙ get_or-append-add (pairs f g n) (f n ∷ g n ∷ []) 0 0 ∙ ap f (sym e),
        ap (λ i. get_or (pairs f g n ++ (f n ∷ g n ∷ [])) i 0) s' ∙ get_or-append-add (pairs f g n) (f n ∷ g n ∷ []) 1 0 ∙ ap g (sym e),
      ))
      (λ z. let e = eqb-false v n z in
      let len = pairs-length n in
      let r = pairs-at n v (omega arith) in (
        get_or-append (pairs f g n) (f n ∷ g n ∷ []) 0 (2 * v) (omega arith) ∙ r.0,
        get_or-append (pairs f g n) (f n ∷ g n ∷ []) 0 (2 * v + 1) (omega arith) ∙ r.1,
      ))

  pub pairs-kind : (n v : ℕ) → v < n → kind_byte (pairs f g n) v ≡ f v
  unfolding kind_byte
  pairs-kind n v l = (pairs-at n v l).0

  pub pairs-parent : (n v : ℕ) → v < n → parent (pairs f g n) v ≡ g v
  unfolding parent
  pairs-parent n v l = (pairs-at n v l).1
