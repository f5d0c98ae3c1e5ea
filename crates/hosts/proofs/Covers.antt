-- Lists of actions: one that keeps the rules is a list of steps of the simulation, and every list of steps is followed by one. Assumes nothing.
use mathlib.Core.Path.{◌≡◌, refl, sym, ◌∙◌, ap, ap₂}
use mathlib.Core.Bool.{Bool, true, false, cond}
use mathlib.Core.List.{List, [], ◌∷◌, ◌++◌, map}
use Prim.Native.Nat.{ℕ, ◌<◌}
use lib.Dec.{eqb, ltb}
use lib.ListN.{length-replicate}
use borrow.Author.Tests.{eq-eqb, eqb-false}
use Rattle.lists.proofs.Logic.{cases, decided, and_left, and_right, and-join, parts}
use Rattle.plan.specs.Plan.{size}
use Rattle.plan.specs.Check.{Accepted}
use Rattle.event.specs.Event.{is_code, Event, event_of, applies}
use Rattle.event.specs.Site.{Layout, Housed, site_of}
use Rattle.runs.proofs.Net.{relayed, passed_in, moved_all}
use Rattle.runs.proofs.Safe.{safe, own_row}
use Rattle.job.specs.Simulation.{row_of, Step, event, message, simulate, step_number, replay_from, numbers_from, passed_of, passed_from, zeros}
use Rattle.job.proofs.View.{view, zero-bytes, zero-view}
use Rattle.job.proofs.StepLaws.{refused-leaves, message-passes}
use Rattle.hosts.specs.Hosts.{Rows, fresh_rows, Action, try, send, action_number, acted, step_for, rows_from, action_numbers_from, happened_from, is_event, keeps, keeps_from}
use Rattle.hosts.proofs.RowLaws.{row_fresh}
use Rattle.hosts.proofs.ActionLaws.{Alike, did}

module _ (p : List ℕ) (ok : Accepted p) (lay : Layout) (housed : Housed p lay) where
  pub alike-fresh : Alike p ok lay housed [] (fresh_rows p) (zeros p lay)
  unfolding fresh_rows passed_in moved_all
  alike-fresh = record {
    fine = zero-bytes p lay;
    long = λ q. length-replicate (size p) 0;
    same = λ q l. sym (row_fresh p lay q l);
    sound = rw (zero-view p lay) (safe p ok lay []);
  }

  -- a list that keeps the rules
  pub record CoveredFrom (rows : Rows) (st : List ℕ) (xs : List Action) : Type 0 where
    pub same : (q : ℕ) → q < lay.rows → rows_from p rows xs q ≡ row_of p (replay_from p lay st (map step_for xs)) q
    pub numbers : action_numbers_from p rows xs ≡ numbers_from p lay st (map step_for xs)
    pub events : happened_from p rows xs ≡ passed_from p lay st (map step_for xs)

  pub covers : (es : List Event) (rows : Rows) (st : List ℕ) → Alike p ok lay housed es rows st → (xs : List Action) →
      keeps_from p lay es rows xs ≡ true → CoveredFrom rows st xs
  unfolding rows_from action_numbers_from happened_from keeps_from replay_from numbers_from passed_from
  covers es rows st alike [] kept = record { same = alike.same; numbers = refl; events = refl }
  covers es rows st alike (x ∷ xs) kept =
      let d = did p ok lay housed es rows st alike x (and_left _ _ kept) in
      let r = covers (es ++ passed_of (step_for x) (action_number p rows x)) (acted p rows x) (simulate p lay st (step_for x)).state d.after xs
      (and_right (keeps p lay es x) _ kept) in
      record {
        same = r.same;
        numbers = ap₂ (λ (n : ℕ) (ns : List ℕ). n ∷ ns) d.number r.numbers;
        events = ap₂ ◌++◌ (ap (passed_of (step_for x)) d.number) r.events;
      }

  -- the actions that follow a list of steps: every event is tried at its own site, and every message that passes is sent
  unfoldable pub actions_for : Step → ℕ → List Action
  actions_for (event code node) n = try code node (site_of p lay (event_of code node)) ∷ []
  actions_for (message code node q) n = cond (eqb n 0) (send code node q ∷ []) []

  unfoldable pub actions_from : List ℕ → List Step → List Action
  actions_from st [] = []
  actions_from st (t ∷ ts) = actions_for t (step_number p lay st t) ++ actions_from (simulate p lay st t).state ts

  pub record FollowedFrom (es : List Event) (rows : Rows) (st : List ℕ) (ts : List Step) (xs : List Action) : Type 0 where
    pub kept : keeps_from p lay es rows xs ≡ true
    pub events : happened_from p rows xs ≡ passed_from p lay st ts
    pub same : (q : ℕ) → q < lay.rows → rows_from p rows xs q ≡ row_of p (replay_from p lay st ts) q

  module _ (es : List Event) (rows : Rows) (st : List ℕ) (alike : Alike p ok lay housed es rows st) where
    -- an event can be tried at its site, and a message that passes in the simulation can be sent
    try-keeps : (code node : ℕ) → keeps p lay es (try code node (site_of p lay (event_of code node))) ≡ true
    unfolding keeps
    try-keeps code node = go (is_event p code node)
      where
        go : (b : Bool) → cond b (eqb (site_of p lay (event_of code node)) (site_of p lay (event_of code node))) true ≡ true
        go true = eq-eqb (site_of p lay (event_of code node)) _ refl
        go false = refl

    send-keeps : (code node q : ℕ) → eqb (step_number p lay st (message code node q)) 0 ≡ true → keeps p lay es (send code node q) ≡ true
    unfolding keeps is_event relayed simulate
    send-keeps code node q z =
        let k = sym (message-passes p ok lay housed st alike.fine.long code node q) ∙ z in
        let c : is_code code ≡ true = search parts in
        let w = and_right (is_code code) _ k in
        let a : applies p (event_of code node) ≡ true = search parts in
        let l : ltb q lay.rows ≡ true = search parts in
        let h : view p st (site_of p lay (event_of code node)) (event_of code node) ≡ true = search parts in
        rw (c, a, l) (sym (own_row p lay es (view p st) alike.sound (event_of code node)) ∙ h)

    -- one action more
    follow-on : (x : Action) (ts : List Step) (xs : List Action) → keeps p lay es x ≡ true →
        FollowedFrom (es ++ passed_of (step_for x) (action_number p rows x)) (acted p rows x) (simulate p lay st (step_for x)).state ts xs →
        FollowedFrom es rows st (step_for x ∷ ts) (x ∷ xs)
    unfolding rows_from happened_from keeps_from replay_from passed_from
    follow-on x ts xs k r = record {
      kept = and-join _ _ k r.kept;
      events = ap₂ ◌++◌ (ap (passed_of (step_for x)) (did p ok lay housed es rows st alike x k).number) r.events;
      same = r.same;
    }

  pub follow : (es : List Event) (rows : Rows) (st : List ℕ) → Alike p ok lay housed es rows st → (ts : List Step) → FollowedFrom es rows st ts (actions_from st ts)
  unfolding rows_from happened_from keeps_from replay_from passed_from passed_of actions_from actions_for step_for
  follow es rows st alike [] = record { kept = refl; events = refl; same = alike.same }
  follow es rows st alike (event code node ∷ ts) =
      let x = try code node (site_of p lay (event_of code node)) in
      let k = try-keeps es rows st alike code node in
      follow-on es rows st alike x ts _ k (follow (es ++ passed_of (step_for x) (action_number p rows x)) (acted p rows x) (simulate p lay st (step_for x)).state (did p ok lay housed es rows st alike x k).after ts)
  follow es rows st alike (message code node q ∷ ts) = cases (decided (eqb (step_number p lay st (message code node q)) 0))
      (λ z. let x = send code node q in
      let k = send-keeps es rows st alike code node q z in
      rw z (follow-on es rows st alike x ts _ k (follow (es ++ passed_of (step_for x) (action_number p rows x)) (acted p rows x) (simulate p lay st (step_for x)).state (did p ok lay housed es rows st alike x k).after ts)))
      (λ z. let s : (simulate p lay st (message code node q)).state ≡ st = refused-leaves p lay st (message code node q) (eqb-false _ 0 z) in
      let r = follow es rows st alike ts in
      rw (z, s) (record { kept = r.kept; events = rw s r.events; same = rw s r.same }))
