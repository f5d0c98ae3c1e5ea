-- Laws of a byte's bits, by tests that are computed over all bytes and codes. Assumes nothing.
use mathlib.Core.Path.{◌≡◌, refl}
use mathlib.Core.Bool.{Bool, true, false, cond, ◌&&◌, ◌||◌, beq, false≢true}
use Prim.Native.Nat.{ℕ, ◌+◌, ◌*◌, ◌-◌, ◌^◌, ◌%◌, ◌≤◌, ◌<◌}
use lib.Dec.{eqb, ltb, leb}
use borrow.Author.Tests.{ltb-true, leb-true, eqb-true}
use native.Mathlib.Omega.{arith}
use Rattle.lists.specs.Seq.{all, up_from}
use Rattle.lists.proofs.Logic.{and_left, and_right}
use Rattle.lists.proofs.Members.{all-at, in-up}
use Rattle.event.specs.Event.{Code, start, offer, commit, abort, answered-yes, answered-no, pick, down, code_number, is_code, same_code}
use Rattle.event.specs.Bit.{weight, has_bit, with_bit, without_bit}
use Rattle.event.proofs.CodeLaws.{codes, in-codes, code-range}

pub beq-true : (a b : Bool) → beq a b ≡ true → a ≡ b
beq-true true true h = refl
beq-true true false h = absurd (false≢true h)
beq-true false true h = absurd (false≢true h)
beq-true false false h = refl

test : Code → Code → ℕ → Bool
test c d b =
    beq (has_bit (with_bit b (code_number c)) (code_number d)) (same_code c d || has_bit b (code_number d)) && ltb (with_bit b (code_number c)) 256

-- all pairs of codes, all bytes
tests : all (λ c. all (λ d. all (test c d) (up_from 0 256)) codes) codes ≡ true
unfolding all up_from codes test weight has_bit with_bit is_code code_number same_code
tests = refl

tested : (c d : Code) (b : ℕ) → b < 256 → test c d b ≡ true
tested c d b l =
    all-at (test c d) (in-up 0 256 b (omega arith) (omega arith))
    (all-at (λ d. all (test c d) (up_from 0 256)) (in-codes d) (all-at (λ c. all (λ d. all (test c d) (up_from 0 256)) codes) (in-codes c) tests))

-- setting a bit sets that bit and no other
pub with-bit : (c d : Code) (b : ℕ) → b < 256 → has_bit (with_bit b (code_number c)) (code_number d) ≡ (same_code c d || has_bit b (code_number d))
unfolding test
with-bit c d b l = beq-true _ _ (and_left _ _ (tested c d b l))

pub with-small : (c : Code) (b : ℕ) → b < 256 → with_bit b (code_number c) < 256
unfolding test
with-small c b l = ltb-true _ _ (and_right (beq (has_bit (with_bit b (code_number c)) (code_number c)) (same_code c c || has_bit b (code_number c))) _ (tested c c b l))

pub no-bit : (c : Code) → has_bit 0 (code_number c) ≡ false
unfolding has_bit is_code weight code_number
no-bit start = refl
no-bit offer = refl
no-bit commit = refl
no-bit abort = refl
no-bit answered-yes = refl
no-bit answered-no = refl
no-bit pick = refl
no-bit down = refl

-- the weight is a 1 shifted; a byte whose bit is set has it, and one whose bit is not set has room for it and is had again by clearing the bit
weighed : ℕ → ℕ → Bool
weighed k b = eqb (1 * 2 ^ (k - 1) % 256) (weight k) && cond (has_bit b k) (leb (weight k) b) (ltb (b + weight k) 256 && eqb (without_bit (with_bit b k) k) b)

all-weighed : all (λ k. all (weighed k) (up_from 0 256)) (up_from 1 8) ≡ true
unfolding all up_from weighed has_bit with_bit without_bit is_code weight
all-weighed = refl

module _ (b code : ℕ) (small : b < 256) (low : 1 ≤ code) (high : code ≤ 8) where
  weighed-at : weighed code b ≡ true
  weighed-at = all-at (weighed code) (in-up 0 256 b (omega arith) small) (all-at (λ k. all (weighed k) (up_from 0 256)) (in-up 1 8 code low (omega arith)) all-weighed)

  pub shift-weight : 1 * 2 ^ (code - 1) % 256 ≡ weight code
  unfolding weighed
  shift-weight = eqb-true _ _ (and_left _ _ weighed-at)

  weights : cond (has_bit b code) (leb (weight code) b) (ltb (b + weight code) 256 && eqb (without_bit (with_bit b code) code) b) ≡ true
  unfolding weighed
  weights = and_right (eqb (1 * 2 ^ (code - 1) % 256) (weight code)) _ weighed-at

  pub bit-weight : has_bit b code ≡ true → weight code ≤ b
  bit-weight h = leb-true _ _ (rw h at weights)

  module _ (unset : has_bit b code ≡ false) where
    apart : (ltb (b + weight code) 256 && eqb (without_bit (with_bit b code) code) b) ≡ true
    apart = rw unset at weights

    pub with-fits : b + weight code < 256
    with-fits = ltb-true _ _ (and_left _ _ apart)

    -- set and cleared again
    pub with-without : without_bit (with_bit b code) code ≡ b
    with-without = eqb-true _ _ (and_right (ltb (b + weight code) 256) _ apart)

-- a bit that is set is a code's
pub bit-code : (b code : ℕ) → has_bit b code ≡ true → (1 ≤ code) × (code ≤ 8)
unfolding has_bit
bit-code b code h = code-range code (and_left _ _ h)
