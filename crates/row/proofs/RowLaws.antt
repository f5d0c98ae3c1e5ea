-- What a row has after an event is set in it (rules B5 and H17). Assumes nothing.
use Rattle.std.proofs.Common.{◌≡◌, sym, ◌∙◌, true, List, ℕ, ◌≤◌, length, get_or}
use lib.Seq.{set-get_or, set_out}
use Rattle.lists.proofs.Logic.{cases, decided}
use Rattle.event.specs.Event.{event_of, is_code}
use Rattle.event.specs.Bit.{has_bit, with_bit}
use Rattle.event.proofs.CodeLaws.{code-number}
use Rattle.row.specs.Row.{heard_in, heard, hear}

module _ (row : List ℕ) (code node : ℕ) where
  -- past the end nothing is set
  pub hear-past : length row ≤ node → hear row code node ≡ row
  unfolding hear
  hear-past l = set_out row node (with_bit (get_or row node 0) code) l

  -- an event is heard if the bit of its code's number is set
  pub heard-number : is_code code ≡ true → heard row (event_of code node) ≡ heard_in row code node
  unfolding heard
  heard-number c = rw (code-number code c)

  -- a repeat changes nothing
  pub hear-again : heard row (event_of code node) ≡ true → hear row code node ≡ row
  unfolding hear heard_in with_bit has_bit
  hear-again h = cases (decided (is_code code))
      (λ c. let b = sym (heard-number c) ∙ h in rw b (set-get_or row node 0))
      (λ c. rw c (set-get_or row node 0))
