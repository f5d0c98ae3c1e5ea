-- How many events are new, in a byte and in a row. Assumes nothing.
use Rattle.std.proofs.Common.{◌≡◌, refl, sym, ◌∙◌, ap, Bool, true, ◌&&◌, not, List, ℕ, ◌≤◌, ◌<◌, arith, bit_or, bit_xor, eqb, length, get_or, eqb-true}
use mathlib.Core.Path.{fun_ext}
use lib.Count.{ones, ones_in}
use Rattle.lists.specs.Seq.{all, keep, up_from, sum_below}
use Rattle.merge.proofs.Count.{count_map, count-below}
use Rattle.lists.proofs.Keep.{keep-short, keep_same}
use Rattle.lists.proofs.Members.{all-at, in-up}
use Rattle.plan.specs.Plan.{size}
use Rattle.event.specs.Event.{code_number, is_code, Event, at}
use Rattle.event.specs.Bit.{weight, has_bit}
use Rattle.row.specs.Row.{heard_in, heard}
use Rattle.merge.specs.Events.{all_codes, events_at, every}
use Rattle.merge.specs.Merge.{new_events}
use Rattle.merge.specs.Bytes.{new_bits, new_below}
use Rattle.merge.proofs.ByteLaws.{new-has, new-small}

-- a byte's bits are the codes that it has
counted : all (λ b. eqb (ones b) (length (keep (has_bit b) (up_from 1 8)))) (up_from 0 256) ≡ true
unfolding all keep up_from ones ones_in has_bit weight is_code
counted = refl

ones-bits : (b : ℕ) → b < 256 → ones b ≡ length (keep (has_bit b) (up_from 1 8))
ones-bits b l = eqb-true _ _ (all-at (λ b. eqb (ones b) (length (keep (has_bit b) (up_from 1 8)))) (in-up 0 256 b (omega arith) (omega arith)) counted)

pub new-bits : (x y : ℕ) → x < 256 → y < 256 → ones (bit_xor (bit_or x y) x) ≡ new_bits x y
unfolding new_bits
new-bits x y a b =
    ones-bits (bit_xor (bit_or x y) x) (new-small x y a b)
    ∙ ap length (keep_same (has_bit (bit_xor (bit_or x y) x)) (λ code. has_bit y code && not (has_bit x code)) (up_from 1 8) (λ code i. new-has x y code))

pub new-few : (x y : ℕ) → new_bits x y ≤ 8
unfolding new_bits up_from
new-few x y = keep-short (λ code. has_bit y code && not (has_bit x code)) (up_from 1 8)

-- a node's events are its byte's bits
events-bits : (f : ℕ → Bool) (v : ℕ) → length (keep (λ (e : Event). f (code_number e.code)) (events_at v)) ≡ length (keep f (up_from 1 8))
unfolding events_at all_codes code_number up_from
events-bits f v = count_map (λ (e : Event). f (code_number e.code)) (λ c. at c v) all_codes ∙ sym (count_map f code_number all_codes)

node_at : (v : ℕ) (f : ℕ → ℕ → Bool) → keep (λ (e : Event). f (code_number e.code) e.node) (events_at v) ≡ keep (λ (e : Event). f (code_number e.code) v) (events_at v)
unfolding events_at all_codes keep
node_at v f = refl

new-at : (row other : List ℕ) (v : ℕ) → length (keep (λ e. heard other e && not (heard row e)) (events_at v)) ≡ new_bits (get_or row v 0) (get_or other v 0)
unfolding new_bits heard heard_in
new-at row other v =
    ap length (node_at v (λ code w. has_bit (get_or other w 0) code && not (has_bit (get_or row w 0) code)))
    ∙ events-bits (λ code. has_bit (get_or other v 0) code && not (has_bit (get_or row v 0) code)) v

pub new-below : (p row other : List ℕ) → new_events p row other ≡ new_below row other (size p)
unfolding new_events new_below every
new-below p row other =
    count-below (λ e. heard other e && not (heard row e)) events_at (size p)
    ∙ ap (λ f. sum_below f (size p)) (fun_ext (new-at row other))
