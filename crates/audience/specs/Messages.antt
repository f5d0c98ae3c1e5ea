-- How many messages a whole run needs, each event told to its audience (rule V7). Definitions only.
use Rattle.std.specs.Prelude.{cond, List, [], ◌∷◌, ℕ, pred, ◌+◌, length}
use Rattle.lists.specs.Seq.{up_from}
use Rattle.plan.specs.Plan.{size, in_xor}
use Rattle.event.specs.Event.{Event}
use Rattle.event.specs.Site.{Layout}
use Rattle.audience.specs.Audience.{audience}

-- V7: a sum over a list
unfoldable pub total : (ℕ → ℕ) → List ℕ → ℕ
total f [] = 0
total f (x ∷ xs) = f x + total f xs

-- V7: of a list of events
unfoldable pub messages : List ℕ → Layout → List Event → ℕ
messages p lay [] = 0
messages p lay (e ∷ es) = length (audience p lay e) + messages p lay es

-- V7: two for each node but the root, and four for a child of an xor
unfoldable pub messages_most : List ℕ → ℕ
messages_most p = total (λ v. cond (in_xor p v) 4 2) (up_from 1 (pred (size p)))
