-- Whom to tell of an event (rule V5): the sites whose guards name it. Definitions only.
use Rattle.std.specs.Prelude.{Bool, ◌&&◌, not, List, ℕ, eqb}
use Rattle.lists.specs.Seq.{any, keep, up_from}
use Rattle.event.specs.Event.{Event, among}
use Rattle.event.specs.Site.{Layout, site_of}
use Rattle.guard.specs.Guard.{guard}
use Rattle.merge.specs.Events.{events}

-- V5: the guard of e names f: f stands in one of its clauses
unfoldable pub mentions : List ℕ → Event → Event → Bool
mentions p e f = any (λ c. among c f) (guard p e)

-- V5: the guards of site q name f: some event that applies and happens at q has a guard that names it
unfoldable pub names : List ℕ → Layout → ℕ → Event → Bool
names p lay q f = any (λ e. eqb (site_of p lay e) q && mentions p e f) (events p)

-- V5: the sites to tell of f, rising: those whose guards name it, besides its own
unfoldable pub audience : List ℕ → Layout → Event → List ℕ
audience p lay f = keep (λ q. names p lay q f && not (eqb q (site_of p lay f))) (up_from 0 lay.rows)
