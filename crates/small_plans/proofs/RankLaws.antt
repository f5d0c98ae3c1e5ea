-- Lists of bytes as numbers: what comes later has the greater number. Assumes nothing.
use mathlib.Core.Path.{◌≡◌, ap}
use mathlib.Core.List.{List, [], ◌∷◌}
use mathlib.Core.Logic.{inl, inr}
use Prim.Native.Nat.{ℕ, zero, suc, ◌+◌, ◌-◌, ◌*◌, ◌≤◌, ◌<◌}
use native.Mathlib.Nat.{mul-le-mul_right, suc-mul}
use native.Mathlib.Omega.{arith}
use lib.ListN.{length, get_or}
use Rattle.lists.specs.Bytes.{Bytes}
use Rattle.lists.specs.Smallest.{Less, here, there}
use Rattle.plan.specs.Plan.{size}
use Rattle.small_plans.specs.Order.{Before}

-- 256 times itself, so many times
power : ℕ → ℕ
power zero = 1
power (suc n) = 256 * power n

-- a list of bytes as a number
value : List ℕ → ℕ
value [] = 0
value (b ∷ l) = b * power (length l) + value l

product : (a b n : ℕ) → a < b → a * n + n ≤ b * n
product a b n h = rw (← suc-mul a n) (mul-le-mul_right n h)

value_low : (l : List ℕ) → ((i : ℕ) → get_or l i 0 < 256) → value l < power (length l)
unfolding value power
value_low [] h = omega arith
value_low (b ∷ l) h = omega (arith, product b 256 (power (length l)) (h 0), value_low l (λ i. h (suc i)))

value-less : (l m : List ℕ) → length l ≡ length m → ((i : ℕ) → get_or l i 0 < 256) → Less l m → value l < value m
unfolding value
value-less (b ∷ l) [] e s x7 = elim x7 [ ]
value-less [] m e s x3 = elim x3 [ ]
value-less (b ∷ l) (c ∷ m) e s (here h) =
    let same : power (length m) ≡ power (length l) = ap power (let z : length m ≡ length l = omega arith in z) in
    rw same (omega (arith, product b c (power (length l)) h, value_low l (λ i. s (suc i))))
value-less (b ∷ l) (c ∷ m) e s (there q h) =
    let same : power (length m) ≡ power (length l) = ap power (let z : length m ≡ length l = omega arith in z) in
    let below = value-less l m (omega arith) (λ i. s (suc i)) h in
    rw (same, q) (omega arith)

power-some : (n : ℕ) → 1 ≤ power n
unfolding power
power-some zero = omega arith
power-some (suc n) = omega (arith, power-some n)

power-up : (d n : ℕ) → power n ≤ power (d + n)
unfolding power
power-up zero n = rw (let z : zero + n ≡ n = omega arith in z) (omega arith)
power-up (suc d) n = rw (let z : suc d + n ≡ suc (d + n) = omega arith in z) (omega (arith, power-up d n, power-some (d + n)))

-- the place of a list among all: shorter lists are before longer ones
pub rank : List ℕ → ℕ
rank q = power (length q) + value q

-- no list of so many bytes has that place or a later one
pub rank_above : ℕ → ℕ
rank_above n = power n + power n

pub rank-low : (n : ℕ) (q : List ℕ) → ((i : ℕ) → get_or q i 0 < 256) → length q ≤ n → rank q < rank_above n
unfolding rank rank_above
rank-low n q s l =
    let e : (n - length q) + length q ≡ n = omega arith in
    let up : power (length q) ≤ power n = rw e at (power-up (n - length q) (length q)) in
    omega (arith, value_low q s)

pub rank-before : (p q : List ℕ) → Bytes (2 * size p) p → Bytes (2 * size q) q → Before p q → rank p < rank q
unfolding rank power
rank-before p q c d (inr h) =
    let same : length p ≡ length q = omega (arith, h.0, c.long, d.long) in
    let low = value-less p q same c.small h.1 in
    rw same (omega arith)
rank-before p q c d (inl l) =
    let e : (length q - length p - 2) + (length p + 2) ≡ length q = omega (arith, c.long, d.long) in
    let up : power (length p + 2) ≤ power (length q) = rw e at (power-up (length q - length p - 2) (length p + 2)) in
    let two : power (length p + 2) ≡ 256 * (256 * power (length p)) = rw (let z : length p + 2 ≡ suc (suc (length p)) = omega arith in z) in
    let low = value_low p c.small in
    omega (arith, power-some (length p))
