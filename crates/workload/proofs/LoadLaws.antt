-- The load, step by step. Assumes nothing.
use Rattle.std.proofs.Common.{◌≡◌, ℕ, zero, suc, ◌+◌, ◌*◌, ◌%◌, ◌<◌, Bool, true, false, cond, eqb, ◌⊎◌, List, ◌++◌, length, get_or, sym, refl, ap, inl, inr, append_assoc, mod-lt, arith, length-append}
use Rattle.workload.specs.Load.{moved, after, draw, step_at, load}
use Rattle.workload.specs.Claim.{IsFrame, LoadGoesOn, LoadFrames}

after_on : (j k s : ℕ) → after (j + k) s ≡ after k (after j s)
unfolding after
after_on zero k s = rw (let z : zero + k ≡ k = omega arith in z) refl
after_on (suc j) k s = rw (let z : suc j + k ≡ suc (j + k) = omega arith in z) (after_on j k (moved s))

pub load-goes-on : LoadGoesOn
unfolding load after
load-goes-on n zero d s = ap (λ k. load n k s) (let z : zero + d ≡ d = omega arith in z)
load-goes-on n (suc c) d s =
    rw (let z : suc c + d ≡ suc (c + d) = omega arith in z, load-goes-on n c d (after 4 s), (let z : 4 * suc c ≡ 4 + 4 * c = omega arith in z), after_on 4 (4 * c) s)
    (sym (append_assoc (step_at n s) (load n c (after 4 s)) (load n d (after (4 * c) (after 4 s)))))

step-long : (n s : ℕ) → length (step_at n s) ≡ 3
unfolding step_at
step-long n s = refl

pub load-long : (n c s : ℕ) → length (load n c s) ≡ 3 * c
unfolding load
load-long n zero s = omega arith
load-long n (suc c) s = omega (arith, length-append (step_at n s) (load n c (after 4 s)), step-long n s, load-long n c (after 4 s))

module _ (n : ℕ) (some : 0 < n) where
  site-told : (b : Bool) (k : ℕ) → (cond b 255 (k % n) ≡ 255) ⊎ (cond b 255 (k % n) < n)
  site-told true k = inl refl
  site-told false k = inr (mod-lt k some)

  step-frame : (s : ℕ) (rest : List ℕ) → IsFrame n (get_or (step_at n s ++ rest) 0 0) (get_or (step_at n s ++ rest) 1 0) (get_or (step_at n s ++ rest) 2 0)
  unfolding step_at
  step-frame s rest = record {
    low = omega arith;
    high = omega arith;
    known = mod-lt (draw (after 3 s)) some;
    told = site-told (eqb (draw (after 1 s) % 2) 0) (draw (after 4 s));
  }

  -- behind the first step
  behind : (s i : ℕ) (rest : List ℕ) → get_or (step_at n s ++ rest) (3 + i) 0 ≡ get_or rest i 0
  unfolding step_at
  behind s i rest = rw (let z : 3 + i ≡ suc (suc (suc i)) = omega arith in z) refl

  each : (c s i : ℕ) → i < c → IsFrame n (get_or (load n c s) (3 * i) 0) (get_or (load n c s) (3 * i + 1) 0) (get_or (load n c s) (3 * i + 2) 0)
  unfolding load
  each zero s i l = absurd (omega arith)
  each (suc c) s zero l = step-frame s (load n c (after 4 s))
  each (suc c) s (suc i) l =
      let h = each c (after 4 s) i (omega arith) in
      let rest = load n c (after 4 s) in
      rw (
        let z : 3 * suc i ≡ 3 + 3 * i = omega arith in z,
        (let z : 3 + 3 * i + 1 ≡ 3 + (3 * i + 1) = omega arith in z),
        (let z : 3 + 3 * i + 2 ≡ 3 + (3 * i + 2) = omega arith in z),
        behind s (3 * i) rest,
        behind s (3 * i + 1) rest,
        behind s (3 * i + 2) rest,
      ) h

pub load-frames : LoadFrames
load-frames n some c s = record { long = load-long n c s; each = each n some c s }
