-- One step written, and the loop over the steps. Assumes nothing.
use Rattle.std.proofs.Common.{◌≡◌, ℕ, suc, ◌+◌, ◌-◌, ◌*◌, ◌%◌, ◌<◌, ◌≤◌, cond, eqb, List, [], ◌∷◌, ◌++◌, length, set, refl, ap, ◌∙◌, append-nil, arith, drop_of_length-le}
use Rattle.lists.specs.Put.{Put}
use Rattle.lists.proofs.PutLaws.{put_one, put_two, put-append, put_front_lem, Left, left-all, left-none, left-put}
use Rattle.workload.specs.Load.{moved, after, draw, step_at, load}
use Rattle.workload.proofs.LoadLaws.{load-long}

put_three : (x y z : ℕ) (out : List ℕ) (at : ℕ) → Put (x ∷ y ∷ z ∷ []) out at (set (set (set out at x) (at + 1) y) (at + 2) z) (at + 3)
put_three x y z out at = put-append (x ∷ y ∷ []) (z ∷ []) out at (put_two x y out at) (rw (let e : at + 3 ≡ at + 2 + 1 = omega arith in e) (put_one z (set (set out at x) (at + 1) y) (at + 2)))

-- the numbers that the generator comes to, and what is drawn of them
module _ (s s₁ s₂ s₃ s₄ : ℕ) (m₁ : s₁ ≡ moved s) (m₂ : s₂ ≡ moved s₁) (m₃ : s₃ ≡ moved s₂) (m₄ : s₄ ≡ moved s₃) where
  pub four-moves : s₄ ≡ after 4 s
  unfolding after
  four-moves = rw (m₄, m₃, m₂, m₁) refl

  pub step-put : (n x y z : ℕ) → x ≡ draw s₂ % 8 → y ≡ draw s₃ % n → z ≡ cond (eqb (draw s₁ % 2) 0) 255 (draw s₄ % n) → (out : List ℕ) (at : ℕ) →
      Put (step_at n s) out at (set (set (set out at (x + 1)) (at + 1) y) (at + 2) z) (at + 3)
  unfolding step_at after
  step-put n x y z ex ey ez out at = rw (ex, ey, ez, m₄, m₃, m₂, m₁) (put_three _ _ _ out at)

-- i of c steps are written
pub record Loading (n c seed : ℕ) (out₀ out : List ℕ) (s i : ℕ) : Type 0 where
  pub within : i ≤ c
  pub left : Left (load n (c - i) s) (load n c seed) out₀ 0 out (3 * i)

pub loading-first : (n c seed : ℕ) (out : List ℕ) → Loading n c seed out out seed 0
loading-first n c seed out = record { within = omega arith; left = rw (let z : c - 0 ≡ c = omega arith in z, (let z : 3 * 0 ≡ 0 = omega arith in z)) (left-all (load n c seed) out 0) }

module _ (n c seed : ℕ) (out₀ out : List ℕ) (s i : ℕ) (h : Loading n c seed out₀ out s i) where
  pub loading-turn : i < c → (out' : List ℕ) → Put (step_at n s) out (3 * i) out' (3 * i + 3) → (s' : ℕ) → s' ≡ after 4 s → Loading n c seed out₀ out' s' (i + 1)
  unfolding load
  loading-turn l out' p s' e =
      let more : c - i ≡ suc (c - (i + 1)) = omega arith in
      record {
        within = omega arith;
        left = rw (e, (let z : 3 * (i + 1) ≡ 3 * i + 3 = omega arith in z)) (left-put (step_at n s) (load n (c - (i + 1)) (after 4 s)) (rw more at h.left) p);
      }

  pub loading-done : c ≤ i → length out₀ ≡ 3 * c → out ≡ load n c seed
  unfolding load
  loading-done l long =
      let none_left : c - i ≡ 0 = omega (arith, h.within) in
      let put = left-none (rw none_left at h.left) in
      put.held ∙ put_front_lem (load n c seed) out₀ (omega (arith, load-long n c seed)) ∙ ap (λ t. load n c seed ++ t) (drop_of_length-le out₀ {i = length (load n c seed)} (omega (arith, load-long n c seed))) ∙ append-nil (load n c seed)

  pub loading-room : i < c → length out₀ ≡ 3 * c → 3 * i + 3 ≤ length out
  loading-room l long = omega (arith, h.left.long)
