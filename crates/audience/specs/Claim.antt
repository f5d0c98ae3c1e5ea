-- THE CLAIMS on whom to tell (rules V6, V7): the closed form, and how many at most. What telling just these is good for is claimed in the crate
-- line. Definitions only.
use Rattle.std.specs.Prelude.{◌≡◌, true, List, ◌↔◌, ℕ, ◌≤◌, length}
use Rattle.lists.specs.Member.{In}
use Rattle.plan.specs.Check.{Accepted}
use Rattle.event.specs.Event.{start, pick, Event, applies}
use Rattle.event.specs.Site.{Layout, Housed, own, site_of}
use Rattle.audience.specs.Audience.{audience}
use Rattle.central.specs.Central.{is_run}
use Rattle.audience.specs.Hearers.{hearers}
use Rattle.audience.specs.Messages.{messages, messages_most}

-- CLAIM (V6). The sites to tell are those of the hearers, besides the event's own, whatever rows the nodes have
abbrev pub ClosedForm : Type 0
ClosedForm = (p : List ℕ) → Accepted p → (lay : Layout) → Housed p lay → (e : Event) → applies p e ≡ true →
    (q : ℕ) → In q (audience p lay e) ↔ ((v : ℕ) × In v (hearers p e) × (lay.home v ≡ q) × (q ≡ site_of p lay e → ⊥))

-- CLAIM (V6). Each node its own row: just the hearers, in the same order
abbrev pub OwnClosedForm : Type 0
OwnClosedForm = (p : List ℕ) → Accepted p → (e : Event) → applies p e ≡ true → audience p (own p) e ≡ hearers p e

-- V7: at most 32, and at most one for every event but a start and a pick
pub record Few (p : List ℕ) (e : Event) : Type 0 where
  pub most : length (audience p (own p) e) ≤ 32
  pub one : (e.code ≡ start → ⊥) → (e.code ≡ pick → ⊥) → length (audience p (own p) e) ≤ 1

-- CLAIM (V7)
abbrev pub FewToTell : Type 0
FewToTell = (p : List ℕ) → Accepted p → (e : Event) → applies p e ≡ true → Few p e

-- CLAIM (V7). A whole job needs few messages, however it goes
abbrev pub FewMessages : Type 0
FewMessages = (p : List ℕ) → Accepted p → (es : List Event) → is_run p es ≡ true → messages p (own p) es ≤ messages_most p
