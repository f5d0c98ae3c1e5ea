-- Marks by their bytes: what a byte, and a set of marks, says of the state. Tests over all marks are computed. Assumes nothing.
use mathlib.Core.Path.{◌≡◌, refl, sym, ap, fun_ext}
use mathlib.Core.Bool.{Bool, true, false, ◌||◌, not, beq}
use mathlib.Core.List.{List, [], ◌∷◌}
use Prim.Native.Nat.{ℕ, zero, suc, ◌-◌, ◌^◌, ◌/◌, ◌%◌, ◌≤◌, ◌<◌}
use native.Mathlib.Omega.{arith}
use Rattle.std.proofs.Common.{min}
use lib.Dec.{eqb, leb}
use lib.ListN.{get_or}
use borrow.Author.Tests.{ne_eqb, leb-true, leb-false}
use Rattle.lists.proofs.Logic.{cases, decided}
use Rattle.lists.specs.Seq.{all, up_from}
use Rattle.lists.specs.Member.{In, here, there}
use Rattle.lists.proofs.Members.{all-at, in-up}
use Rattle.event.proofs.BitLaws.{beq-true}
use Rattle.central.specs.Mark.{Mark, idle, running, offered, committed, failed, turned_down, mark_number, is_mark, mark_of}
use Rattle.central.specs.Central.{marked}
use Rattle.central.specs.Rule.{state_of}
use Rattle.central.specs.Scan.{in_set, mark_in}

pub mark-back : (m : Mark) → mark_of (mark_number m) ≡ m
unfolding mark_of mark_number
mark-back idle = refl
mark-back running = refl
mark-back offered = refl
mark-back committed = refl
mark-back failed = refl
mark-back turned_down = refl

mark-low : (b : ℕ) → b ≤ 5 → mark_number (mark_of b) ≡ b
unfolding mark_of mark_number
mark-low zero l = refl
mark-low (suc zero) l = refl
mark-low (suc (suc zero)) l = refl
mark-low (suc (suc (suc zero))) l = refl
mark-low (suc (suc (suc (suc zero)))) l = refl
mark-low (suc (suc (suc (suc (suc zero))))) l = refl
mark-low (suc (suc (suc (suc (suc (suc b)))))) l = absurd (omega arith)

mark-high : (b : ℕ) → 5 < b → mark_of b ≡ turned_down
unfolding mark_of
mark-high b l =
    simp (
      ne_eqb b 0 (λ e. omega arith),
      ne_eqb b 1 (λ e. omega arith),
      ne_eqb b 2 (λ e. omega arith),
      ne_eqb b 3 (λ e. omega arith),
      ne_eqb b 4 (λ e. omega arith),
    )

-- a byte, read at v
pub byte-read : (set : ℕ) (marks : List ℕ) (v b : ℕ) → b ≡ min (get_or marks v 0) 5 → eqb (set / 2 ^ b % 2) 1 ≡ mark_in set marks v
unfolding mark_in in_set mark_number
byte-read set marks v b e = cases (decided (leb (get_or marks v 0) 5))
    (λ f. let l = leb-true (get_or marks v 0) 5 f in
    let m : b ≡ get_or marks v 0 = omega (arith, e) in rw (m, mark-low (get_or marks v 0) l))
    (λ f. let l = leb-false (get_or marks v 0) 5 f in
    let m : b ≡ 5 = omega (arith, e) in rw (m, mark-high (get_or marks v 0) l))

-- all there are
unfoldable pub marks : List Mark
marks = idle ∷ running ∷ offered ∷ committed ∷ failed ∷ turned_down ∷ []

pub in-marks : (m : Mark) → In m marks
unfolding marks
in-marks idle = here refl
in-marks running = there (here refl)
in-marks offered = there (there (here refl))
in-marks committed = there (there (there (here refl)))
in-marks failed = there (there (there (there (here refl))))
in-marks turned_down = there (there (there (there (there (here refl)))))

same : (Mark → Bool) → (Mark → Bool) → Bool
same f g = all (λ m. beq (f m) (g m)) marks

same_at_lem : (f g : Mark → Bool) → same f g ≡ true → (m : Mark) → f m ≡ g m
unfolding same
same_at_lem f g h m = beq-true (f m) (g m) (all-at (λ m. beq (f m) (g m)) (in-marks m) h)

read : (bytes : List ℕ) (set : ℕ) (f : Mark → Bool) → same (in_set set) f ≡ true → mark_in set bytes ≡ (λ v. f (mark_of (get_or bytes v 0)))
unfolding mark_in
read bytes set f h = fun_ext (λ v. same_at_lem (in_set set) f h (mark_of (get_or bytes v 0)))

pub in-none : (bytes : List ℕ) → mark_in 0 bytes ≡ (λ v. false)
unfolding same all marks in_set mark_number
in-none bytes = read bytes 0 (λ m. false) refl

-- the sets of src/lib.rt against the state
module _ (bytes notes : List ℕ) where
  pub at-idle : (v : ℕ) → marked (state_of bytes notes) idle v ≡ mark_in 1 bytes v
  unfolding same all marks in_set is_mark mark_number state_of
  at-idle v = ap (λ f. f v) (sym (read bytes 1 (is_mark idle) refl))

  pub at-running : (v : ℕ) → marked (state_of bytes notes) running v ≡ mark_in 2 bytes v
  unfolding same all marks in_set is_mark mark_number state_of
  at-running v = ap (λ f. f v) (sym (read bytes 2 (is_mark running) refl))

  pub at-offered : (v : ℕ) → marked (state_of bytes notes) offered v ≡ mark_in 4 bytes v
  unfolding same all marks in_set is_mark mark_number state_of
  at-offered v = ap (λ f. f v) (sym (read bytes 4 (is_mark offered) refl))

  pub in-committed : mark_in 8 bytes ≡ marked (state_of bytes notes) committed
  unfolding same all marks in_set is_mark mark_number state_of
  in-committed = read bytes 8 (is_mark committed) refl

  pub in-failed : mark_in 16 bytes ≡ marked (state_of bytes notes) failed
  unfolding same all marks in_set is_mark mark_number state_of
  in-failed = read bytes 16 (is_mark failed) refl

  pub in-ended : mark_in 24 bytes ≡ (λ v. marked (state_of bytes notes) committed v || marked (state_of bytes notes) failed v)
  unfolding same all marks in_set is_mark mark_number state_of
  in-ended = read bytes 24 (λ m. is_mark committed m || is_mark failed m) refl

  pub in-settled : mark_in 56 bytes ≡ (λ v. marked (state_of bytes notes) committed v || marked (state_of bytes notes) failed v || marked (state_of bytes notes) turned_down v)
  unfolding same all marks in_set is_mark mark_number state_of
  in-settled = read bytes 56 (λ m. is_mark committed m || is_mark failed m || is_mark turned_down m) refl

-- all other marks
opposites : all (λ set. same (in_set (255 - set)) (λ m. not (in_set set m))) (up_from 0 256) ≡ true
unfolding same all up_from marks in_set mark_number
opposites = refl

pub in-opposite : (bytes : List ℕ) (set : ℕ) → set < 256 → mark_in (255 - set) bytes ≡ (λ v. not (mark_in set bytes v))
unfolding mark_in
in-opposite bytes set l =
    read bytes (255 - set) (λ m. not (in_set set m))
    (all-at (λ set. same (in_set (255 - set)) (λ m. not (in_set set m))) (in-up 0 256 set (omega arith) l) opposites)
