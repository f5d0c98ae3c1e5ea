-- What the simulation's calls leave where their buffers fit. Assumes nothing.
use mathlib.Core.Path.{◌≡◌, refl, sym, ◌∙◌, ap}
use mathlib.Core.Bool.{true}
use mathlib.Core.List.{List, [], ◌∷◌}
use Prim.Native.Nat.{ℕ, zero, suc, ◌+◌, ◌*◌, ◌/◌, ◌%◌, ◌≤◌}
use native.Mathlib.Nat.{le_trans, mul-le-mul_left, mul-le-mul_right}
use native.Mathlib.Omega.{arith}
use borrow.Author.Tests.{eq-eqb, eqb-true}
use lib.Dec.{eqb}
use lib.ListN.{length, take, replicate, length-replicate}
use Rattle.lists.proofs.Logic.{cases, decided}
use Rattle.lists.proofs.Table.{table-length}
use Rattle.lists.proofs.Lent.{fresh-zeros}
use Rattle.plan.specs.Plan.{size}
use Rattle.plan.specs.Check.{check_number}
use Rattle.plan.proofs.FitLaws.{fit-right}
use Rattle.plan.proofs.Main.{check-exact}
use Rattle.event.specs.Site.{own}
use Rattle.retention.specs.Record.{table_number, record_of, Recorded, recorded}
use Rattle.job.specs.Simulation.{Step, simulate, state_fits, zeros, replay, numbers_from, end_marks}
use Rattle.script.specs.Script.{AllZero}
use Rattle.lists.proofs.Parts.{part_length, Back}
use Rattle.simulation.specs.Run.{record_number, record_by_number, record_by_on, record_by_into, steps_of, steps_from, Ran, ran, run_number, run_of}

-- the record of an accepted plan, in the fronts of two buffers: n is the code's number of nodes
pub plan-few : (p : List ℕ) → check_number p ≡ 0 → size p ≤ 160
plan-few p ok = ((check-exact p).0 ok).few

pub record RecordTold (p tab st : List ℕ) (n : ℕ) (y z m' c' : List ℕ) : Type 0 where
  pub marks : m' ≡ (record_of p tab (end_marks p (own p) st)).marks
  pub classes : c' ≡ (record_of p tab (end_marks p (own p) st)).classes
  pub marks-back : Back m' y n
  pub classes-back : Back c' z n

module _ (p tab st : List ℕ) (right : table_number tab ≡ 0) (ok : check_number p ≡ 0) (fits : length st ≡ size p * size p) (n : ℕ) (count : n ≡ size p) (y z : List ℕ) (ly : 160 ≡ length y) (lz : 160 ≡ length z) where
  pub node-room : n ≤ 160
  node-room = omega (arith, plan-few p ok)

  long : (x : List ℕ) → 160 ≡ length x → eqb (length (take n x)) (size p) ≡ true
  long x l = eq-eqb (length (take n x)) (size p) (sym (part_length x n (omega (arith, node-room))) ∙ count)

  recordable : record_by_number p (own p) tab st (take n y) (take n z) ≡ 0
  unfolding record_by_number record_number state_fits own
  recordable = rw (right, eq-eqb (length st) (size p * size p) fits, long y ly, long z lz) (fit-right p ∙ ok)

  pub record-told : (r : ℕ) (m' c' : List ℕ) → record_by_into p tab st (take n y) (take n z) ≡ recorded r m' c' → RecordTold p tab st n y z m' c'
  unfolding record_by_on record_of end_marks
  record-told r m' c' h =
      let q = rw recordable at h in
      let a = sym (ap (λ (x : Recorded). x.marks) q) in
      let b = sym (ap (λ (x : Recorded). x.classes) q) in
      record {
        marks = a;
        classes = b;
        marks-back = record { long = ap length a ∙ table-length _ (size p) ∙ sym count };
        classes-back = record { long = ap length b ∙ table-length _ (size p) ∙ sym count };
      }

pub zeros-are : (m : ℕ) → AllZero m (replicate m 0)
zeros-are m = record { long = length-replicate m 0; front = λ n l. fresh-zeros m n n refl l }

-- a list of steps from a state of zeros, whatever the plan: its buffers are the fronts of z and y
pub record RunTold (p bs : List ℕ) (n : ℕ) (z y : List ℕ) (r : ℕ) (st' ns' : List ℕ) : Type 0 where
  pub count : n ≡ size p
  pub number : r ≡ check_number p
  pub state : check_number p ≡ 0 → st' ≡ replay p (own p) (steps_of bs)
  pub numbers : check_number p ≡ 0 → ns' ≡ numbers_from p (own p) (zeros p (own p)) (steps_of bs)
  pub state-back : Back st' z (n * n)
  pub numbers-back : Back ns' y (length bs / 3)

module _ (p : List ℕ) (few : length p ≤ 320) (n : ℕ) (count : n ≡ size p) where
  pub cells-few : n * n ≤ 25600
  unfolding size
  cells-few = let l : n ≤ 160 = omega (arith, count) in le_trans (mul-le-mul_left n l) (mul-le-mul_right 160 l)

  module _ (z : List ℕ) (hz : AllZero 25600 z) (bs y : List ℕ) (hy : 4681 ≡ length y) (short : length bs ≤ 14043) (whole : length bs % 3 ≡ 0) where
    zero-state : take (n * n) z ≡ zeros p (own p)
    unfolding zeros own
    zero-state = hz.front (n * n) cells-few ∙ rw count

    cells-long : n * n ≡ length (take (n * n) z)
    cells-long = part_length z (n * n) (omega (arith, cells-few, hz.long))

    numbers-long : length bs / 3 ≡ length (take (length bs / 3) y)
    numbers-long = part_length y (length bs / 3) (omega arith)

    number_is : run_number p bs (take (n * n) z) (take (length bs / 3) y) ≡ check_number p
    unfolding run_number state_fits own
    number_is =
        rw (
          eq-eqb (length (take (n * n) z)) (size p * size p) (sym cells-long ∙ rw count),
          eq-eqb (length bs % 3) 0 whole,
          eq-eqb (length (take (length bs / 3) y)) (length bs / 3) (sym numbers-long),
        ) (fit-right p)

    module _ {r : ℕ} {st' ns' : List ℕ} (h : run_of p bs (take (n * n) z) (take (length bs / 3) y) ≡ ran r st' ns') where
      told-number : r ≡ check_number p
      unfolding run_of
      told-number = cases (decided (eqb (check_number p) 0))
          (λ e. let q = rw (number_is, e) at h in sym (ap (λ (x : Ran). x.number) q) ∙ sym (eqb-true (check_number p) 0 e))
          (λ e. let q = rw (number_is, e) at h in sym (ap (λ (x : Ran). x.number) q))

      told-left : check_number p ≡ 0 → ran 0 (replay p (own p) (steps_of bs)) (numbers_from p (own p) (zeros p (own p)) (steps_of bs)) ≡ ran r st' ns'
      unfolding run_of replay
      told-left e = rw (number_is, e, zero-state) at h

      -- the lengths of lent buffers are kept
      pub run-told : length st' ≡ length (take (n * n) z) → length ns' ≡ length (take (length bs / 3) y) → RunTold p bs n z y r st' ns'
      run-told ls ln =
          record {
            count = count;
            number = told-number;
            state = λ e. sym (ap (λ (x : Ran). x.state) (told-left e));
            numbers = λ e. sym (ap (λ (x : Ran). x.numbers) (told-left e));
            state-back = record { long = ls ∙ sym cells-long };
            numbers-back = record { long = ln ∙ sym numbers-long };
          }

-- as many numbers as steps, as many steps as frames
pub numbers-count : (p st : List ℕ) (ts : List Step) → length (numbers_from p (own p) st ts) ≡ length ts
unfolding numbers_from
numbers-count p st [] = refl
numbers-count p st (t ∷ ts) = ap suc (numbers-count p (simulate p (own p) st t).state ts)

steps-count : (n : ℕ) (bs : List ℕ) (i : ℕ) → length (steps_from n bs i) ≡ n
unfolding steps_from
steps-count zero bs i = refl
steps-count (suc n) bs i = ap suc (steps-count n bs (i + 3))

pub frames-count : (bs : List ℕ) → length (steps_of bs) ≡ length bs / 3
unfolding steps_of
frames-count bs = steps-count (length bs / 3) bs 0
