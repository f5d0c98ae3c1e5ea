-- The call that writes whom to tell (rule V10) as one value: the number, how many sites, and the lent bytes. Definitions only.
use Rattle.std.specs.Prelude.{true, cond, not, List, ℕ, eqb, length}
use Rattle.event.specs.Event.{event_of}
use Rattle.event.specs.Site.{own}
use Rattle.event.specs.Valid.{invalid}
use Rattle.audience.specs.Audience.{audience}
use Rattle.merge.specs.Output.{Output, output, put_front}

-- V5: the sites to tell of an event, where each node has its own
abbrev pub own_audience : List ℕ → ℕ → ℕ → List ℕ
own_audience p code node = audience p (own p) (event_of code node)

-- V10, H0: 1 to 6 of the plan, 8 and 9 of the event, then 7. The value is how many there are
unfoldable pub audience_of : List ℕ → ℕ → ℕ → List ℕ → Output
audience_of p code node out =
    cond (not (eqb (invalid p true true code node) 0)) (output (invalid p true true code node) 0 out)
    (put_front (length (own_audience p code node)) (own_audience p code node) out)
