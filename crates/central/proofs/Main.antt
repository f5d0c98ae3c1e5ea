-- MAIN CLAIM (specs/Replay.antt), by the induction of ReplayLaws. Assumes nothing.
use mathlib.Core.Path.{◌≡◌, ap, ◌∙◌}
use mathlib.Core.Bool.{true}
use mathlib.Core.List.{List}
use Prim.Native.Nat.{ℕ}
use Rattle.lists.specs.Seq.{table}
use Rattle.lists.proofs.Table.{table-by}
use Rattle.plan.specs.Plan.{size}
use Rattle.plan.specs.Check.{Accepted}
use Rattle.event.specs.Event.{Event}
use Rattle.central.specs.Mark.{mark_number}
use Rattle.central.specs.Central.{fresh, is_run, reaches}
use Rattle.central.specs.Rule.{state_of}
use Rattle.central.specs.Replay.{all_allowed, marks_left, notes_left, blank_bytes, ReplayExact}
use Rattle.central.proofs.StateLaws.{advance-exact}
use Rattle.central.proofs.ReplayLaws.{Proper, blank-proper, blank-fresh, runs-from, left_by}

module _ (p : List ℕ) (ok : Accepted p) (es : List Event) where
  runs : all_allowed p es (blank_bytes p) (blank_bytes p) ≡ is_run p es
  unfolding is_run
  runs = runs-from p ok es (blank_bytes p) (blank_bytes p) (blank-proper p) ∙ rw (blank-fresh p)

  module _ (run : is_run p es ≡ true) where
    left : Proper p (marks_left p es (blank_bytes p) (blank_bytes p)) (notes_left p es (blank_bytes p) (blank_bytes p))
        × (state_of (marks_left p es (blank_bytes p) (blank_bytes p)) (notes_left p es (blank_bytes p) (blank_bytes p)) ≡ reaches fresh es)
    unfolding is_run
    left = rw (blank-fresh p) at (left_by p ok es (blank_bytes p) (blank_bytes p) (blank-proper p) (rw (blank-fresh p) run))

    marks : marks_left p es (blank_bytes p) (blank_bytes p) ≡ table (λ v. mark_number ((reaches fresh es).mark v)) (size p)
    unfolding state_of
    marks = table-by _ (size p) _ left.0.marks-long (λ v l. left.0.plain v ∙ ap (λ s. mark_number (s.mark v)) left.1)

pub replay-exact : ReplayExact
replay-exact = record { advances = advance-exact; runs = runs; marks = marks; state = λ p ok es run. (left p ok es run).1 }
