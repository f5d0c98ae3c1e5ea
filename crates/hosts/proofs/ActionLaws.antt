-- An action of hosts that keep the rules is a step of the simulation: it has the step's number and leaves the step's rows. Assumes nothing.
use mathlib.Core.Path.{◌≡◌, refl, sym, ◌∙◌, ap, ap₂, subst}
use mathlib.Core.Bool.{Bool, true, false, cond, and-true}
use mathlib.Core.List.{List, [], ◌∷◌, ◌++◌, append-nil}
use Prim.Native.Nat.{ℕ, ◌*◌, ◌<◌}
use lib.Dec.{eqb, ltb}
use lib.ListN.{length, length-set}
use borrow.Author.Tests.{eqb-true, eq-eqb, lt-ltb, ltb-true}
use Rattle.lists.proofs.Logic.{cases, decided, and_left, and_right}
use Rattle.plan.specs.Plan.{size}
use Rattle.plan.specs.Check.{Accepted}
use Rattle.event.specs.Event.{is_code, Event, event_of, among, applies}
use Rattle.event.specs.Site.{Layout, Housed, site_of}
use Rattle.event.specs.Valid.{invalid}
use Rattle.central.specs.Central.{update}
use Rattle.row.specs.Row.{hear}
use Rattle.site.specs.Verdict.{report_of, verdict_number}
use Rattle.site.specs.Step.{step_invalid, site_at}
use Rattle.site.proofs.StepLaws.{step-tested, step-passes, step-leaves, number-any-site}
use Rattle.lists.specs.Bytes.{Bytes}
use Rattle.runs.proofs.Net.{passed_in}
use Rattle.runs.proofs.Safe.{InStep, steps_on, own_row}
use Rattle.runs.proofs.Full.{site-in}
use Rattle.job.specs.Simulation.{row_of, with_row, Step, state_fits, happen, tell, simulate, step_number, replay_from, passed_of, passed_from}
use Rattle.job.proofs.View.{view}
use Rattle.job.proofs.StepLaws.{happen-leaves, tell-leaves, valid-is}
use Rattle.job.proofs.Bridge.{decode_all, did-all}
use Rattle.hosts.specs.Hosts.{Rows, Action, try, send, try_number, send_number, action_number, acted, step_for, is_event, keeps}
use Rattle.hosts.proofs.RowLaws.{row-heard, step-refused, hear-number, hear-leaves}

module _ (p : List ℕ) (ok : Accepted p) (lay : Layout) (housed : Housed p lay) where
  -- es have happened, the sites keep these rows, and the simulation has the state st
  pub record Alike (es : List Event) (rows : Rows) (st : List ℕ) : Type 0 where
    pub fine : Bytes (lay.rows * size p) st
    pub long : (q : ℕ) → length (rows q) ≡ size p
    pub same : (q : ℕ) → q < lay.rows → rows q ≡ row_of p st q
    pub sound : InStep p lay es (view p st)

  -- the tests 8 and 9
  event-valid : (code node : ℕ) → eqb (invalid p true true code node) 0 ≡ is_event p code node
  unfolding is_event
  event-valid code node = valid-is p ok true code node ∙ and-true _

  row-valid : (code node : ℕ) (row : List ℕ) → length row ≡ size p → step_invalid p code node row ≡ invalid p true true code node
  unfolding step_invalid
  row-valid code node row l = rw (eq-eqb (length row) (size p) l)

  module _ (es : List Event) (rows : Rows) (st : List ℕ) (alike : Alike es rows st) where
    fitting : state_fits p lay st ≡ true
    unfolding state_fits
    fitting = eq-eqb (length st) (lay.rows * size p) alike.fine.long

    -- site q hears an event where b says so, with its host and in the simulation
    module _ (code node q : ℕ) (b : Bool) where
      abbrev host-row : List ℕ
      host-row = cond b (hear (rows q) code node) (rows q)

      abbrev new-state : List ℕ
      new-state = cond b (with_row p st q (hear (row_of p st q) code node)) st

    long_after : (code node q : ℕ) (b : Bool) (r : ℕ) → length (update rows q (host-row code node q b) r) ≡ size p
    unfolding hear
    long_after code node q b r = go b (eqb q r)
      where
        go : (b c : Bool) → length (cond c (host-row code node q b) (rows r)) ≡ size p
        go b false = alike.long r
        go false true = alike.long q
        go true true = length-set (rows q) node _ ∙ alike.long q

    same_after : (code node q : ℕ) (b : Bool) → (b ≡ true → (q < lay.rows) × (node < size p)) → (r : ℕ) → r < lay.rows →
        update rows q (host-row code node q b) r ≡ row_of p (new-state code node q b) r
    same_after code node q true h r l =
        ap₂ (λ (x y : List ℕ). cond (eqb q r) (hear x code node) y) (alike.same q (h refl).0) (alike.same r l)
        ∙ sym (row-heard p st q node code (h refl).1 r)
    same_after code node q false h r l = cases (decided (eqb q r))
        (λ e. rw (e, eqb-true q r e) (alike.same r l))
        (λ e. rw e (alike.same r l))

    -- the simulation's side of a step
    alike-after : (t : Step) (new : Rows) → ((q : ℕ) → length (new q) ≡ size p) → ((q : ℕ) → q < lay.rows → new q ≡ row_of p (simulate p lay st t).state q) →
        Alike (es ++ passed_of t (step_number p lay st t)) new (simulate p lay st t).state
    unfolding replay_from passed_from
    alike-after t new long same =
        let d = did-all p ok lay housed st alike.fine (t ∷ []) in
        let e : passed_of t (step_number p lay st t) ≡ passed_in p lay (view p st) (decode_all (t ∷ [])) = sym (append-nil _) ∙ d.events in
        record { fine = d.bytes; long = long; same = same; sound = rw (e, d.seen) (steps_on p ok lay es (view p st) (decode_all (t ∷ [])) alike.sound) }

    -- an event is tried
    module _ (code node q : ℕ) (kept : keeps p lay es (try code node q) ≡ true) where
      abbrev site : ℕ
      site = site_of p lay (event_of code node)

      own-site : is_event p code node ≡ true → q ≡ site
      unfolding keeps
      own-site e = eqb-true q site (rw e at kept)

      placed : is_event p code node ≡ true → site < lay.rows
      unfolding is_event
      placed e = site-in p ok lay housed (event_of code node) (and_right (is_code code) _ e)

      try-number : try_number p code node (rows q) ≡ verdict_number (happen p lay st code node).verdict
      unfolding try_number happen report_of
      try-number = cases (decided (eqb (invalid p true true code node) 0))
          (λ z. let e = sym (event-valid code node) ∙ z in
          rw (fitting, z, own-site e, alike.same site (placed e)) (number-any-site p (site_at p code node) site code node (row_of p st site)))
          (λ z. let v = row-valid code node (rows q) (alike.long q) in
          step-refused p code node (rows q) (rw v z) ∙ v ∙ sym (rw (fitting, z)))

      -- an event that passes is one, so that q is its site
      passing : eqb (try_number p code node (rows q)) 0 ≡ true → is_event p code node ≡ true
      unfolding try_number
      passing z = sym (event-valid code node) ∙ rw (row-valid code node (rows q) (alike.long q)) at
          (and_left (eqb (step_invalid p code node (rows q)) 0) _ (sym (step-passes p (site_at p code node) code node (rows q)) ∙ z))

      try-state : (happen p lay st code node).state ≡ new-state code node q (eqb (try_number p code node (rows q)) 0)
      try-state =
          happen-leaves p lay st code node
          ∙ ap (λ (n : ℕ). cond (eqb n 0) (with_row p st site (hear (row_of p st site) code node)) st) (sym try-number)
          ∙ go (eqb (try_number p code node (rows q)) 0) (λ z. own-site (passing z))
        where
          go : (b : Bool) → (b ≡ true → q ≡ site) → cond b (with_row p st site (hear (row_of p st site) code node)) st ≡ new-state code node q b
          go true e = ap (λ (r : ℕ). with_row p st r (hear (row_of p st r) code node)) (sym (e refl))
          go false e = refl

      try-inside : eqb (try_number p code node (rows q)) 0 ≡ true → (q < lay.rows) × (node < size p)
      unfolding is_event applies
      try-inside z = let e = passing z in (
        subst (λ (r : ℕ). r < lay.rows) (sym (own-site e)) (placed e),
        ltb-true node (size p) (and_left _ _ (and_right (is_code code) _ e)),
      )

    -- a site is told
    module _ (code node q : ℕ) (kept : keeps p lay es (send code node q) ≡ true) where
      inside : q < lay.rows
      unfolding keeps
      inside = ltb-true q lay.rows (and_left _ _ kept)

      true-word : is_event p code node ≡ true → among es (event_of code node) ≡ true
      unfolding keeps
      true-word e = rw e at (and_right (ltb q lay.rows) _ kept)

      send-number : send_number p code node (rows q) ≡ verdict_number (tell p lay st code node q).verdict
      unfolding tell report_of
      send-number = hear-number p code node (rows q) ∙ row-valid code node (rows q) (alike.long q) ∙ cases (decided (eqb (invalid p true true code node) 0))
          (λ z. let e = sym (event-valid code node) ∙ z in
          eqb-true _ 0 z ∙ sym (rw (fitting, lt-ltb q lay.rows inside, z, own_row p lay es (view p st) alike.sound (event_of code node), true-word e)))
          (λ z. sym (rw (fitting, lt-ltb q lay.rows inside, z)))

      send-state : (tell p lay st code node q).state ≡ new-state code node q (eqb (send_number p code node (rows q)) 0)
      send-state = tell-leaves p lay st code node q ∙ ap (λ (n : ℕ). new-state code node q (eqb n 0)) (sym send-number)

      send-inside : eqb (send_number p code node (rows q)) 0 ≡ true → (q < lay.rows) × (node < size p)
      send-inside z = (inside, (step-tested p code node (rows q) (sym (hear-number p code node (rows q)) ∙ eqb-true _ 0 z)).node_in)

    -- one action
    pub record Did (x : Action) : Type 0 where
      pub number : action_number p rows x ≡ step_number p lay st (step_for x)
      pub after : Alike (es ++ passed_of (step_for x) (action_number p rows x)) (acted p rows x) (simulate p lay st (step_for x)).state

    -- where the action has the step's number, and a row that follows it
    did-by : (x : Action) (code node q : ℕ) → action_number p rows x ≡ step_number p lay st (step_for x) →
        acted p rows x ≡ update rows q (host-row code node q (eqb (action_number p rows x) 0)) →
        (simulate p lay st (step_for x)).state ≡ new-state code node q (eqb (action_number p rows x) 0) →
        (eqb (action_number p rows x) 0 ≡ true → (q < lay.rows) × (node < size p)) → Did x
    did-by x code node q number row state in-plan =
        let b = eqb (action_number p rows x) 0 in
        record {
          number = number;
          after = subst (λ (n : ℕ). Alike (es ++ passed_of (step_for x) n) (acted p rows x) (simulate p lay st (step_for x)).state) (sym number)
              (alike-after (step_for x) (acted p rows x)
              (λ r. ap (λ (w : Rows). length (w r)) row ∙ long_after code node q b r)
              (λ r l. ap (λ (w : Rows). w r) row ∙ same_after code node q b in-plan r l ∙ ap (λ (w : List ℕ). row_of p w r) (sym state)));
        }

    pub did : (x : Action) → keeps p lay es x ≡ true → Did x
    unfolding action_number try_number acted step_for simulate
    did (try code node q) kept = did-by (try code node q) code node q (try-number code node q kept)
        (ap (update rows q) (step-leaves p (site_at p code node) code node (rows q))) (try-state code node q kept) (try-inside code node q kept)
    did (send code node q) kept = did-by (send code node q) code node q (send-number code node q kept)
        (ap (update rows q) (hear-leaves p code node (rows q))) (send-state code node q kept) (send-inside code node q kept)
