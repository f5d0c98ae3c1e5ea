-- What bars an event, as the code reads it: codes of the node itself, and for a pick those of its parent's children. Assumes nothing.
use Rattle.std.proofs.Common.{◌≡◌, refl, sym, ap, ◌∙◌, Bool, ◌||◌, ⊎_elim, List, [], ◌∷◌, map, ℕ, ◌≤◌, get_or}
use mathlib.Core.Bool.{or_assoc, or-false}
use Rattle.lists.specs.Seq.{any}
use Rattle.lists.proofs.Members.{any-map}
use Rattle.plan.specs.Plan.{parent, children}
use Rattle.event.specs.Event.{Code, answered-yes, answered-no, pick, down, code_number, code_of, at, event_of}
use Rattle.event.specs.Bit.{has_bit}
use Rattle.event.proofs.CodeLaws.{two, code-down}
use Rattle.guard.specs.Guard.{bars_by, bars, barred}
use Rattle.row.specs.Row.{heard_in, heard}

-- three tests
pub any-three : (f : ℕ → Bool) (i j k : ℕ) → ((f i || f j) || f k) ≡ any f (i ∷ j ∷ k ∷ [])
unfolding any
any-three f i j k = rw (or-false, or_assoc (f i) (f j) (f k))

module _ (p row : List ℕ) (n v : ℕ) where
  by_code : (c : Code) → code_of n ≡ c → barred p (heard row) (event_of n v) ≡ any (heard row) (bars_by p c v)
  unfolding barred bars
  by_code c e = rw e

  own : (ks : List Code) → any (heard row) (map (λ k. at k v) ks) ≡ any (λ k. heard_in row k v) (map code_number ks)
  unfolding any heard
  own [] = refl
  own (k ∷ ks) = rw (own ks)

  -- b is the node's byte, and the codes ks of the node itself bar the event
  module _ {b : ℕ} (read : b ≡ get_or row v 0) where
    by-own : (c : Code) (ks : List Code) → code_of n ≡ c → bars_by p c v ≡ map (λ k. at k v) ks → any (has_bit b) (map code_number ks) ≡ barred p (heard row) (event_of n v)
    unfolding heard_in
    by-own c ks e f = rw read (sym (by_code c e ∙ rw f (own ks)))

    pub barred-own : (m : ℕ) (ks : List Code) → n ≡ m → bars_by p (code_of m) v ≡ map (λ k. at k v) ks → any (has_bit b) (map code_number ks) ≡ barred p (heard row) (event_of n v)
    barred-own m ks e f = by-own (code_of m) ks (ap code_of e) f

    -- yes and no bar each other
    pub barred-answer : 5 ≤ n → n ≤ 6 → any (has_bit b) (5 ∷ 6 ∷ []) ≡ barred p (heard row) (event_of n v)
    unfolding code_of code_number bars_by
    barred-answer l h =
        let both = answered-yes ∷ answered-no ∷ [] in
        ⊎_elim (λ e. barred-own 5 both e refl) (λ e. barred-own 6 both e refl) (two 5 n l h)

    pub barred-down : (1 ≤ n → n ≤ 7 → ⊥) → any (has_bit b) (8 ∷ []) ≡ barred p (heard row) (event_of n v)
    unfolding code_number bars_by
    barred-down h = by-own down (down ∷ []) (code-down n h) refl

  pub barred-pick : n ≡ 7 → barred p (heard row) (event_of n v) ≡ any (heard_in row 7) (children p (parent p v))
  unfolding code_of bars_by heard code_number
  barred-pick e = by_code pick (ap code_of e) ∙ any-map (heard row) (at pick) (children p (parent p v))
