-- The theorems of the journal (specs/Session.antt). Assumes nothing.
use mathlib.Core.Path.{◌≡◌, refl, ◌∙◌}
use mathlib.Core.Bool.{true}
use mathlib.Core.List.{List}
use Prim.Native.Nat.{ℕ, suc}
use native.Mathlib.Omega.{arith}
use Rattle.event.specs.Site.{Layout, own}
use Rattle.job.specs.Simulation.{Step, passed, heard_at}
use Rattle.job.specs.Claim.{Informed, Claim}
use Rattle.job.proofs.Main.{demand3}
use Rattle.journal.specs.declared.Entry.{Entry}
use Rattle.journal.specs.Journal.{is_set, entry_of, keep_of}
use Rattle.journal.specs.Session.{begun, session, remaining, kept_number, Journaled, OwnJournaled}
use Rattle.journal.proofs.UndoLaws.{undo-kept, keep-room, keep-passed, keep-told, repeat-same}
use Rattle.journal.proofs.ChangeLaws.{event-turns}
use Rattle.journal.proofs.SessionLaws.{all-well, all-had}

informed-by : (p : List ℕ) (lay : Layout) (q : ℕ) (ts us : List Step) → passed p lay us ≡ passed p lay ts → heard_at p lay q us ≡ heard_at p lay q ts →
    Informed p lay ts q → Informed p lay us q
informed-by p lay q ts us e h i f m = rw h (i f (rw e at m))

repeat-kept : (p : List ℕ) (lay : Layout) (row : ℕ → ℕ) (st : List ℕ) (es : List Entry) (k code node site : ℕ) → is_set p lay row st code node site ≡ true →
    kept_number p lay row st es k code node site ≡ 0 →
    ((keep_of p lay row st es k code node site).count ≡ suc k) × ((entry_of p lay row st code node site).changed ≡ 0) × ((keep_of p lay row st es k code node site).step.state ≡ st)
unfolding entry_of
repeat-kept p lay row st es k code node site h z =
    let t = keep-told p lay row st es k code node site z in
    rw (keep-passed p lay row st es k code node site t.0 t.1) (refl, rw h, repeat-same p lay row st code node site t.1 h)

pub journaled : Journaled
journaled p ok lay housed row named =
    let claim : Claim p lay = demand3 p ok lay housed in
    record {
      kept-well = all-well p lay row claim;
      undone-step = undo-kept p lay row;
      repeated = repeat-kept p lay row;
      event-turns = λ st es k code node. event-turns p lay row st code node es k;
      room = keep-room p lay row;
      had = λ run h.
          let r = claim.had run h in
          let s = all-had p lay row named r.0 in (
            s.0,
            λ es l. let w = s.1 es l in
                (w.0, w.1 ∙ r.1, λ q i. informed-by p lay q r.0 (remaining p lay row (session p lay row (begun p lay es) w.0)) w.1 (w.2 q) (r.2 q i)),
          );
    }

pub own-journaled : OwnJournaled
unfolding own
own-journaled p ok =
    journaled p ok (own p) (λ v l. l) (λ q. q)
    (record { number = λ q. q; named = λ q l. refl; no-event = λ q l e. let few = ok.few in absurd (omega arith) })
