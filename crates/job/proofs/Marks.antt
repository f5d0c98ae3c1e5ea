-- A node's mark by its own site's row is the one that the run of the list's events leaves. Assumes nothing.
use mathlib.Core.Path.{◌≡◌, refl, ◌∙◌, subst}
use mathlib.Core.Bool.{Bool, not, ◌&&◌, ◌||◌, cond, and-false}
use mathlib.Core.List.{List}
use Prim.Native.Nat.{ℕ}
use Rattle.plan.specs.Plan.{parent, in_xor}
use Rattle.event.specs.Event.{Code, start, offer, commit, abort, down, Event, at}
use Rattle.event.specs.Site.{host_by, host_of, Layout, site_of}
use Rattle.central.specs.Mark.{Mark, idle, running, offered, committed, failed, turned_down, mark_number, is_mark}
use Rattle.central.specs.Central.{Central, fresh, reaches}
use Rattle.runs.proofs.Said.{said_by, said, history}
use Rattle.runs.proofs.Safe.{InStep, own_row}
use Rattle.job.specs.Simulation.{mark_by}

mark-said : (p : List ℕ) (s : Central) (v : ℕ) → mark_by (said p s) v ≡ s.mark v
unfolding mark_by said said_by is_mark mark_number
mark-said p s v = go (in_xor p v) (s.mark v)
  where
    go : (x : Bool) (m : Mark) → cond (is_mark committed m) committed (cond (is_mark failed m) failed (cond (is_mark turned_down m) turned_down
        (cond (is_mark offered m || is_mark turned_down m || (x && is_mark committed m)) offered (cond (not (is_mark idle m)) running idle)))) ≡ m
    go x idle = rw and-false
    go x running = rw and-false
    go x offered = refl
    go x committed = refl
    go x failed = refl
    go x turned_down = refl

pub mark-by-row : (p : List ℕ) (lay : Layout) (es : List Event) (rows : ℕ → Event → Bool) → InStep p lay es rows → (v : ℕ) →
    mark_by (rows (lay.home v)) v ≡ (reaches fresh es).mark v
unfolding mark_by site_of host_of host_by
mark-by-row p lay es rows h v = rw (row start refl, row offer refl, row commit refl, row abort refl, row down refl) (mark-said p (reaches fresh es) v)
  where
    row : (c : Code) → host_by c v (parent p v) ≡ v → rows (lay.home v) (at c v) ≡ said p (reaches fresh es) (at c v)
    row c q = subst (λ (w : ℕ). rows (lay.home w) (at c v) ≡ said p (reaches fresh es) (at c v)) q
        (own_row p lay es rows h (at c v) ∙ history p es (at c v) h.run)
