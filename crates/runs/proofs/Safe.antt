-- Every list of steps: the events that pass are a run, each site has heard nothing else, and what happened at a site is heard there.
-- Assumes nothing.
use mathlib.Core.Path.{◌≡◌, refl, sym, ◌∙◌, ap, subst}
use mathlib.Core.Bool.{Bool, true, false, not, ◌&&◌, cond, or-true}
use mathlib.Core.List.{List, [], ◌∷◌, ◌++◌, append_assoc, append-nil}
use Prim.Native.Nat.{ℕ}
use lib.Dec.{eqb}
use borrow.Author.Tests.{eq-eqb, not-true}
use Rattle.lists.specs.Seq.{any}
use Rattle.lists.specs.Member.{In, here, there}
use Rattle.lists.proofs.Logic.{cases, same_bool, no_bool, both, either, and-join, parts, clash}
use Rattle.lists.proofs.Members.{any-by, any_at}
use Rattle.lists.proofs.Points.{all-grows, any-grows, in_map}
use Rattle.plan.specs.Plan.{parent, children}
use Rattle.plan.specs.Check.{Accepted}
use Rattle.plan.proofs.PlanLaws.{child-of}
use Rattle.event.specs.Event.{Code, start, offer, commit, abort, answered-yes, answered-no, pick, down, Event, at, same, among}
use Rattle.event.specs.Site.{host_by, host_of, Layout, site_of}
use Rattle.guard.specs.Guard.{guard, holds, bars_by, bars, barred}
use Rattle.central.specs.Central.{fresh, allowed, run_from, is_run, reaches}
use Rattle.runs.proofs.Said.{same-event}
use Rattle.runs.proofs.Fits.{guards-follow}
use Rattle.runs.proofs.RunLaws.{run_more, among-more}
use Rattle.runs.proofs.Net.{Move, occur, relay, learn, passes, relayed, moved, passed_by, passed_in, moved_all, silence}

-- what bars an event happens at the event's own site
bars-host : (p : List ℕ) (c : Code) (v : ℕ) {f : Event} → In f (bars_by p c v) → host_of p f ≡ host_by c v (parent p v)
unfolding bars_by host_of host_by
bars-host p abort v {f = f} (there (there (there x13))) = elim x13 [ ]
bars-host p answered-no v {f = f} (there (there x12)) = elim x12 [ ]
bars-host p answered-yes v {f = f} (there (there x11)) = elim x11 [ ]
bars-host p commit v {f = f} (there (there x9)) = elim x9 [ ]
bars-host p down v {f = f} (there x10) = elim x10 [ ]
bars-host p offer v {f = f} (there (there x8)) = elim x8 [ ]
bars-host p start v {f = f} (there x4) = elim x4 [ ]
bars-host p start v (here q) = ap (host_of p) q
bars-host p offer v (here q) = ap (host_of p) q
bars-host p offer v (there (here q)) = ap (host_of p) q
bars-host p commit v (here q) = ap (host_of p) q
bars-host p commit v (there (here q)) = ap (host_of p) q
bars-host p abort v (here q) = ap (host_of p) q
bars-host p abort v (there (here q)) = ap (host_of p) q
bars-host p abort v (there (there (here q))) = ap (host_of p) q
bars-host p answered-yes v (here q) = ap (host_of p) q
bars-host p answered-yes v (there (here q)) = ap (host_of p) q
bars-host p answered-no v (here q) = ap (host_of p) q
bars-host p answered-no v (there (here q)) = ap (host_of p) q
bars-host p pick v i =
    let r = in_map (at pick) (children p (parent p v)) i in
    ap (host_of p) r.2 ∙ (child-of p (parent p v) r.1).of
bars-host p down v (here q) = ap (host_of p) q

bars-site : (p : List ℕ) (lay : Layout) (e : Event) {f : Event} → In f (bars p e) → site_of p lay f ≡ site_of p lay e
unfolding site_of host_of bars
bars-site p lay e i = ap lay.home (bars-host p e.code e.node i)

holds-grows : (H K : Event → Bool) (g : List (List Event)) → ((f : Event) → H f ≡ true → K f ≡ true) → holds H g ≡ true → holds K g ≡ true
unfolding holds
holds-grows H K g h = all-grows (any H) (any K) g (λ es. any-grows H K es h)

-- es are the events so far, rows what the sites have heard
pub record InStep (p : List ℕ) (lay : Layout) (es : List Event) (rows : ℕ → Event → Bool) : Type 0 where
  pub run : is_run p es ≡ true
  pub true-to : (q : ℕ) (f : Event) → rows q f ≡ true → among es f ≡ true
  pub own : (f : Event) → among es f ≡ true → rows (site_of p lay f) f ≡ true

module _ (p : List ℕ) (ok : Accepted p) (lay : Layout) (es : List Event) (rows : ℕ → Event → Bool) (sound : InStep p lay es rows) where
  -- an event that its site lets pass is allowed
  pass-allowed : (e : Event) → passes p lay rows e ≡ true → allowed p (reaches fresh es) e ≡ true
  unfolding passes barred
  pass-allowed e h = sym (guards-follow p ok es sound.run (among es) (λ f. refl) e (search parts)) ∙ and-join _ _ not-barred guarded
    where
      guarded : holds (among es) (guard p e) ≡ true
      guarded = holds-grows (rows (site_of p lay e)) (among es) (guard p e) (sound.true-to (site_of p lay e)) (search parts)

      bars-heard : barred p (among es) e ≡ true → barred p (rows (site_of p lay e)) e ≡ true
      bars-heard b =
          let r = any_at (among es) (bars p e) b in
          any-by (rows (site_of p lay e)) r.1
          (subst (λ (q : ℕ). rows q r.0 ≡ true) (bars-site p lay e r.1) (sound.own r.0 r.2))

      not-barred : not (barred p (among es) e) ≡ true
      not-barred = ap not (no_bool (barred p (among es) e) (λ b. clash _ (bars-heard b) (not-true _ (search parts))))

  happens : (e : Event) → passes p lay rows e ≡ true → InStep p lay (es ++ (e ∷ [])) (learn rows (site_of p lay e) e)
  unfolding learn
  happens e h = record {
    run = run_more p es e sound.run (pass-allowed e h);
    true-to = λ q f k. among-more es e f ∙ cases ((either (eqb (site_of p lay e) q && same e f) (rows q f)).0 k)
        (λ a. rw ((simp both at a).1, or-true))
        (λ b. rw (sound.true-to q f b));
    own = λ f k. cases ((either (among es f) (same e f)).0 (sym (among-more es e f) ∙ k))
        (λ a. rw (sound.own f a, or-true))
        (λ b. rw (b, eq-eqb (site_of p lay e) (site_of p lay f) (ap (site_of p lay) (same-event e f b))));
  }

  hears : (e : Event) (q : ℕ) → relayed p lay rows e q ≡ true → InStep p lay es (learn rows q e)
  unfolding learn relayed
  hears e q h = record {
    run = sound.run;
    true-to = λ r f k. cases ((either (eqb q r && same e f) (rows r f)).0 k)
        (λ a. subst (λ (g : Event). among es g ≡ true) (same-event e f (simp both at a).1) (sound.true-to (site_of p lay e) e (search parts)))
        (sound.true-to r f);
    own = λ f k. rw (sound.own f k, or-true);
  }

  pub step-on : (t : Move) → InStep p lay (es ++ passed_by p lay rows t) (moved p lay rows t)
  unfolding passed_by moved
  step-on (occur e) = go (passes p lay rows e) refl
    where
      go : (b : Bool) → passes p lay rows e ≡ b → InStep p lay (es ++ cond b (e ∷ []) []) (cond b (learn rows (site_of p lay e) e) rows)
      go true h = happens e h
      go false h = rw append-nil sound
  step-on (relay e q) = rw append-nil (go (relayed p lay rows e q) refl)
    where
      go : (b : Bool) → relayed p lay rows e q ≡ b → InStep p lay es (cond b (learn rows q e) rows)
      go true h = hears e q h
      go false h = sound

pub steps_on : (p : List ℕ) → Accepted p → (lay : Layout) (es : List Event) (rows : ℕ → Event → Bool) (ts : List Move) → InStep p lay es rows →
    InStep p lay (es ++ passed_in p lay rows ts) (moved_all p lay rows ts)
unfolding passed_in moved_all
steps_on p ok lay es rows [] h = rw append-nil h
steps_on p ok lay es rows (t ∷ ts) h = rw append_assoc at (steps_on p ok lay (es ++ passed_by p lay rows t) (moved p lay rows t) ts (step-on p ok lay es rows h t))

-- The first part of demand 3, for every list of steps from the silent state
pub safe : (p : List ℕ) → Accepted p → (lay : Layout) (ts : List Move) → InStep p lay (passed_in p lay silence ts) (moved_all p lay silence ts)
unfolding silence among any is_run run_from
safe p ok lay ts = steps_on p ok lay [] silence ts (record { run = refl; true-to = λ q f h. h; own = λ f h. h })

pub own_row : (p : List ℕ) (lay : Layout) (es : List Event) (rows : ℕ → Event → Bool) → InStep p lay es rows → (f : Event) → rows (site_of p lay f) f ≡ among es f
own_row p lay es rows h f = same_bool _ _ (h.true-to (site_of p lay f) f) (h.own f)
