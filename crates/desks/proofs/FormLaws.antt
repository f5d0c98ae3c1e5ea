-- Neither form of a plan is taken for the other (rule N11): the root has one child at least where a length fits both forms, and what is read as a node's
-- kind is then the number of the root. Assumes nothing.
use mathlib.Core.Path.{◌≡◌, sym, ◌∙◌, ap}
use mathlib.Core.List.{List}
use mathlib.Core.Logic.{◌⊎◌, inl, inr}
use Prim.Native.Nat.{ℕ, ◌*◌, ◌/◌, ◌%◌, ◌<◌}
use native.Mathlib.Omega.{arith}
use lib.Dec.{ltb}
use lib.ListN.{length}
use borrow.Author.Tests.{eqb-true, ltb-true, ltb-false}
use Rattle.lists.proofs.Logic.{cases, decided, and_left}
use Rattle.lists.proofs.Below.{below-stop}
use Rattle.plan.specs.Plan.{size, kind_byte, parent}
use Rattle.plan.specs.Check.{length_ok, kind_ok, at_all, check_number, Accepted}
use Rattle.plan.proofs.CheckLaws.{check-1, check-2}
use Rattle.desks.specs.Desk.{nodes, plain, threes, desk_check, DeskAccepted}
use Rattle.desks.proofs.DeskLaws.{same_nodes, plain-kind, plain-parent, whole-threes, check-short, check-by-plain}

-- a length that fits both forms is more than one node's
more-than-one : (n s : ℕ) → 0 < n → 3 * n ≡ 2 * s → 1 < n
more-than-one n s some e = cases (decided (ltb 1 n))
    (λ h. ltb-true 1 n h)
    (λ h. let one : n ≡ 1 = let l = ltb-false 1 n h in omega arith in
    let even : 2 * s % 2 ≡ 0 = omega arith in
    let odd : 3 * n % 2 ≡ 1 = rw one in
    absurd (omega (arith, ap (λ (k : ℕ). k % 2) e)))

-- a node whose kind byte is 0
no_kind : (p : List ℕ) (v : ℕ) → v < size p → kind_byte p v ≡ 0 → (check_number p ≡ 1) ⊎ (check_number p ≡ 2)
unfolding at_all kind_ok
no_kind p v l z = cases (decided (length_ok p))
    (λ h. inr (sym (check-2 p h (below-stop (kind_ok p) (size p) v l (rw z)))))
    (λ h. inl (sym (check-1 p h)))

pub plain-read : (p : List ℕ) → Accepted p → (desk_check p ≡ 1) ⊎ (desk_check p ≡ 2)
unfolding kind_byte parent
plain-read p ok = cases (decided (threes p))
    (λ t. let w = whole-threes p t in
    let some = ok.some in
    let even = ok.even in
    let m = more-than-one (nodes p) (size p) (omega arith) (omega arith) in
    let k : kind_byte (plain p) 1 ≡ parent p 1 = plain-kind p 1 (omega arith) in
    let b : parent p 1 < 1 = ok.below 1 (omega arith) (omega arith) in
    let n = no_kind (plain p) 1 (omega (arith, same_nodes p)) (omega (arith, k)) in
    let by = check-by-plain p w (λ z. cases n (λ e. absurd (omega arith)) (λ e. absurd (omega arith))) in
    cases n (λ e. inl (by ∙ e)) (λ e. inr (by ∙ e)))
    (λ t. inl (check-short p t))

pub desks-read : (p : List ℕ) → DeskAccepted p → (check_number p ≡ 1) ⊎ (check_number p ≡ 2)
unfolding kind_byte parent size length_ok
desks-read p ok = cases (decided (length_ok p))
    (λ h. let e = eqb-true (length p % 2) 0 (and_left _ _ (and_left _ _ h)) in
    let w = ok.whole in
    let some = ok.accepted.some in
    let s = same_nodes p in
    let m = more-than-one (nodes p) (length p / 2) (omega arith) (omega arith) in
    let k : parent (plain p) 1 ≡ kind_byte p 2 = plain-parent p 1 (omega arith) in
    let b : parent (plain p) 1 < 1 = ok.accepted.below 1 (omega arith) (omega arith) in
    no_kind p 2 (omega arith) (omega (arith, k)))
    (λ h. inl (sym (check-1 p h)))
