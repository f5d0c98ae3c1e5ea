-- Steps over bytes are moves of sites that are tests on events (crate runs, Net.antt): one step, and then a list of steps. Assumes nothing.
use mathlib.Core.Path.{◌≡◌, refl, sym, ◌∙◌, ap, ap₂}
use mathlib.Core.Bool.{Bool, true, false, ◌&&◌, ◌||◌, cond, or-false}
use mathlib.Core.List.{List, [], ◌∷◌, ◌++◌, map}
use Prim.Native.Nat.{ℕ, ◌*◌, ◌<◌}
use lib.Dec.{eqb}
use borrow.Author.Tests.{ltb-true}
use Rattle.lists.specs.Seq.{any}
use Rattle.lists.proofs.Logic.{cases, and_right, parts, decided}
use Rattle.lists.proofs.Members.{any_append}
use Rattle.plan.specs.Plan.{size}
use Rattle.plan.specs.Check.{Accepted}
use Rattle.event.specs.Event.{code_number, code_of, is_code, Event, event_of, same, among, applies}
use Rattle.event.specs.Site.{Layout, Housed, site_of}
use Rattle.event.proofs.CodeLaws.{code-back, code_is, code-number}
use Rattle.row.specs.Row.{hear}
use Rattle.lists.specs.Bytes.{Bytes}
use Rattle.runs.proofs.Net.{Move, occur, relay, learn, passes, relayed, moved, passed_by, passed_in, moved_all}
use Rattle.runs.proofs.Full.{passed_in-append, moved-append, site-in}
use Rattle.job.specs.Simulation.{row_of, with_row, Step, event, message, simulate, step_number, replay_from, passed_of, passed_from, heard_of, heard_from}
use Rattle.job.proofs.View.{view, hear-bytes, view-hear}
use Rattle.job.proofs.StepLaws.{happen-leaves, tell-leaves, event-passes, message-passes}

-- a step whose code is none is no move
unfoldable pub decode : Step → List Move
decode (event code node) = cond (is_code code) (occur (event_of code node) ∷ []) []
decode (message code node q) = cond (is_code code) (relay (event_of code node) q ∷ []) []

unfoldable pub decode_all : List Step → List Move
decode_all [] = []
decode_all (t ∷ ts) = decode t ++ decode_all ts

unfoldable pub step_of_move : Move → Step
step_of_move (occur e) = event (code_number e.code) e.node
step_of_move (relay e q) = message (code_number e.code) e.node q

pub event-back : (e : Event) → event_of (code_number e.code) e.node ≡ e
event-back e = λ i. record { code = code-back e.code i; node = e.node }

move-back : (m : Move) → decode (step_of_move m) ≡ m ∷ []
unfolding decode step_of_move
move-back (occur e) = rw (code_is e.code, event-back e)
move-back (relay e q) = rw (code_is e.code, event-back e)

pub moves-back : (ms : List Move) → decode_all (map step_of_move ms) ≡ ms
unfolding decode_all
moves-back [] = refl
moves-back (m ∷ ms) = rw (move-back m, moves-back ms)

-- what a move needs
goes : List ℕ → Layout → (ℕ → Event → Bool) → Move → Bool
goes p lay rows (occur e) = passes p lay rows e
goes p lay rows (relay e q) = relayed p lay rows e q

-- a step that is no move, or one that can't go
module _ (p : List ℕ) (lay : Layout) (rows : ℕ → Event → Bool) where
  stays : (m : Move) → goes p lay rows m ≡ false → (moved p lay rows m ≡ rows) × (passed_by p lay rows m ≡ [])
  unfolding goes moved passed_by
  stays (occur e) h = (rw h, rw h)
  stays (relay e q) h = (rw h, refl)

  quiet : (m : Move) (c : Bool) → (c && goes p lay rows m) ≡ false →
      (rows ≡ moved_all p lay rows (cond c (m ∷ []) [])) × ([] ≡ passed_in p lay rows (cond c (m ∷ []) []))
  unfolding moved_all passed_in
  quiet m true h = let r = stays m h in (sym r.0, sym (rw r.1))
  quiet m false h = (refl, refl)

among_one : (b : Bool) (e f : Event) → among (cond b (e ∷ []) []) f ≡ (b && same e f)
unfolding among any
among_one true e f = rw or-false
among_one false e f = refl

both-heard : (es fs : List Event) (f : Event) (b : Bool) → (among fs f || (among es f || b)) ≡ (among (es ++ fs) f || b)
unfolding among
both-heard es fs f b = go (any (λ g. same g f) es) (any (λ g. same g f) fs) ∙ sym (rw (any_append (λ g. same g f) es fs))
  where
    go : (x y : Bool) → (y || (x || b)) ≡ ((x || y) || b)
    go true true = refl
    go true false = refl
    go false true = refl
    go false false = refl

module _ (p : List ℕ) (ok : Accepted p) (lay : Layout) (housed : Housed p lay) where
  abbrev pub Fine : List ℕ → Type 0
  Fine st = Bytes (lay.rows * size p) st

  node_in : (e : Event) → applies p e ≡ true → e.node < size p
  unfolding applies
  node_in e h = ltb-true e.node (size p) (search parts)

  passing : (rows : ℕ → Event → Bool) (e : Event) → passes p lay rows e ≡ true → applies p e ≡ true
  unfolding passes
  passing rows e h = search parts

  relaying : (rows : ℕ → Event → Bool) (e : Event) (q : ℕ) → relayed p lay rows e q ≡ true → (applies p e ≡ true) × (q < lay.rows)
  unfolding relayed
  relaying rows e q h = (search parts, ltb-true q lay.rows (search parts))

  -- what one step did: t, with the number n, took st to new
  record Did (st : List ℕ) (t : Step) (n : ℕ) (new : List ℕ) : Type 0 where
    bytes : Fine new
    seen : view p new ≡ moved_all p lay (view p st) (decode t)
    events : passed_of t n ≡ passed_in p lay (view p st) (decode t)
    hears : (q : ℕ) (f : Event) → view p new q f ≡ (among (heard_of p lay q t n) f || view p st q f)

  module _ (st : List ℕ) (fine : Fine st) (code node : ℕ) where
    -- site r hears of the event
    module _ (c : is_code code ≡ true) (a : applies p (event_of code node) ≡ true) (r : ℕ) (l : r < lay.rows) where
      abbrev heard-at : List ℕ
      heard-at = with_row p st r (hear (row_of p st r) code node)

      by_code : heard-at ≡ with_row p st r (hear (row_of p st r) (code_number (code_of code)) node)
      by_code = ap (λ (k : ℕ). with_row p st r (hear (row_of p st r) k node)) (sym (code-number code c))

      then-bytes : Fine heard-at
      then-bytes = rw by_code (hear-bytes p lay.rows st fine r l (event_of code node) (node_in (event_of code node) a))

      then-seen : view p heard-at ≡ learn (view p st) r (event_of code node)
      then-seen = rw by_code (view-hear p lay.rows st fine r l (event_of code node) (node_in (event_of code node) a))

      then-hears : (q : ℕ) (f : Event) → view p heard-at q f ≡ (among (cond (eqb r q) (event_of code node ∷ []) []) f || view p st q f)
      unfolding learn
      then-hears q f =
          ap (λ (g : ℕ → Event → Bool). g q f) then-seen
          ∙ ap (λ (b : Bool). b || view p st q f) (sym (among_one (eqb r q) (event_of code node) f))

    event-did : (n : ℕ) → eqb n 0 ≡ (is_code code && passes p lay (view p st) (event_of code node)) →
        Did st (event code node) n (cond (eqb n 0) (with_row p st (site_of p lay (event_of code node)) (hear (row_of p st (site_of p lay (event_of code node))) code node)) st)
    unfolding decode moved_all moved passed_of passed_in passed_by heard_of goes among any
    event-did n test = cases (decided (is_code code && passes p lay (view p st) (event_of code node)))
        (λ k. let c : is_code code ≡ true = search parts in
        let w : passes p lay (view p st) (event_of code node) ≡ true = and_right (is_code code) _ k in
        let a = passing (view p st) (event_of code node) w in
        let l = site-in p ok lay housed (event_of code node) a in
        let s = site_of p lay (event_of code node) in
        let z : eqb n 0 ≡ true = test ∙ k in
        rw z (record {
          bytes = then-bytes c a s l;
          seen = then-seen c a s l ∙ sym (rw (c, w));
          events = rw (z, c, w);
          hears = λ q f. rw z (then-hears c a s l q f);
        }))
        (λ k. let z : eqb n 0 ≡ false = test ∙ k in
        let r = quiet p lay (view p st) (occur (event_of code node)) (is_code code) k in
        rw z (record { bytes = fine; seen = r.0; events = rw z r.1; hears = λ q f. rw z }))

    message-did : (q n : ℕ) → eqb n 0 ≡ (is_code code && relayed p lay (view p st) (event_of code node) q) →
        Did st (message code node q) n (cond (eqb n 0) (with_row p st q (hear (row_of p st q) code node)) st)
    unfolding decode moved_all moved passed_of passed_in passed_by heard_of goes among any
    message-did q n test = cases (decided (is_code code && relayed p lay (view p st) (event_of code node) q))
        (λ k. let c : is_code code ≡ true = search parts in
        let w : relayed p lay (view p st) (event_of code node) q ≡ true = and_right (is_code code) _ k in
        let a = relaying (view p st) (event_of code node) q w in
        let z : eqb n 0 ≡ true = test ∙ k in
        rw z (record {
          bytes = then-bytes c a.0 q a.1;
          seen = then-seen c a.0 q a.1 ∙ sym (rw (c, w));
          events = rw c;
          hears = λ r f. rw z (then-hears c a.0 q a.1 r f);
        }))
        (λ k. let z : eqb n 0 ≡ false = test ∙ k in
        let r = quiet p lay (view p st) (relay (event_of code node) q) (is_code code) k in
        rw z (record { bytes = fine; seen = r.0; events = r.1; hears = λ r f. rw z }))

  did : (st : List ℕ) → Fine st → (t : Step) → Did st t (step_number p lay st t) (simulate p lay st t).state
  unfolding simulate
  did st fine (event code node) = rw (happen-leaves p lay st code node) (event-did st fine code node _ (event-passes p ok lay housed st fine.long code node))
  did st fine (message code node q) = rw (tell-leaves p lay st code node q) (message-did st fine code node q _ (message-passes p ok lay housed st fine.long code node q))

  -- a list of steps
  pub record DidAll (st : List ℕ) (ts : List Step) (new : List ℕ) : Type 0 where
    pub bytes : Fine new
    pub seen : view p new ≡ moved_all p lay (view p st) (decode_all ts)
    pub events : passed_from p lay st ts ≡ passed_in p lay (view p st) (decode_all ts)
    pub hears : (q : ℕ) (f : Event) → view p new q f ≡ (among (heard_from p lay q st ts) f || view p st q f)

  pub did-all : (st : List ℕ) → Fine st → (ts : List Step) → DidAll st ts (replay_from p lay st ts)
  unfolding replay_from passed_from heard_from decode_all moved_all passed_in among any
  did-all st fine [] = record { bytes = fine; seen = refl; events = refl; hears = λ q f. refl }
  did-all st fine (t ∷ ts) =
      let d = did st fine t in
      let r = did-all (simulate p lay st t).state d.bytes ts in
      record {
        bytes = r.bytes;
        seen = r.seen ∙ ap (λ (w : ℕ → Event → Bool). moved_all p lay w (decode_all ts)) d.seen ∙ sym (moved-append p lay (view p st) (decode t) (decode_all ts));
        events = ap₂ ◌++◌ d.events (r.events ∙ ap (λ (w : ℕ → Event → Bool). passed_in p lay w (decode_all ts)) d.seen)
            ∙ sym (passed_in-append p lay (view p st) (decode t) (decode_all ts));
        hears = λ q f.
            r.hears q f
            ∙ ap (λ (b : Bool). among (heard_from p lay q (simulate p lay st t).state ts) f || b) (d.hears q f)
            ∙ both-heard (heard_of p lay q t (step_number p lay st t)) (heard_from p lay q (simulate p lay st t).state ts) f (view p st q f);
      }
