-- Every run is the events of some list of steps, after which every site has heard them all: each event happens, and then every site is told.
-- Assumes nothing.
use mathlib.Core.Path.{◌≡◌, refl, sym, ◌∙◌, ap, subst}
use mathlib.Core.Bool.{Bool, true, false, cond, or-true}
use mathlib.Core.List.{List, [], ◌∷◌, ◌++◌, map, append_assoc, append-nil}
use Prim.Native.Nat.{ℕ, ◌<◌}
use borrow.Author.Tests.{eq-eqb, lt-ltb, ltb-true}
use native.Mathlib.Omega.{arith}
use Rattle.lists.specs.Seq.{any, up_from}
use Rattle.lists.specs.Member.{In, here, there}
use Rattle.lists.proofs.Logic.{cases, same_bool, either, parts}
use Rattle.lists.proofs.Members.{in-up}
use Rattle.plan.specs.Plan.{size, kind, parent, in_xor}
use Rattle.plan.specs.Check.{Accepted}
use Rattle.event.specs.Event.{Code, start, offer, commit, abort, answered-yes, answered-no, pick, down, Event, same, among, applies_by, applies}
use Rattle.event.specs.Site.{host_by, host_of, Layout, Housed, site_of}
use Rattle.central.specs.Central.{fresh, allowed, run_from, is_run, reaches}
use Rattle.runs.proofs.Said.{same-event, same_self}
use Rattle.runs.proofs.Family.{xor-child}
use Rattle.runs.proofs.Fits.{guards-follow}
use Rattle.runs.proofs.RunLaws.{reaches-append, among-more}
use Rattle.runs.proofs.Net.{Move, occur, relay, learn, passes, relayed, moved, passed_by, passed_in, moved_all, silence}
use Rattle.runs.proofs.Safe.{InStep, step-on, steps_on}

-- each event happens, and every site is told of it before the next
unfoldable script : Layout → List Event → List Move
script lay [] = []
script lay (e ∷ es) = occur e ∷ (map (relay e) (up_from 0 lay.rows) ++ script lay es)

module _ (p : List ℕ) (lay : Layout) where
  pub passed_in-append : (rows : ℕ → Event → Bool) (ts us : List Move) → passed_in p lay rows (ts ++ us) ≡ passed_in p lay rows ts ++ passed_in p lay (moved_all p lay rows ts) us
  unfolding passed_in moved_all
  passed_in-append rows [] us = refl
  passed_in-append rows (t ∷ ts) us = rw (passed_in-append (moved p lay rows t) ts us, append_assoc)

  pub moved-append : (rows : ℕ → Event → Bool) (ts us : List Move) → moved_all p lay rows (ts ++ us) ≡ moved_all p lay (moved_all p lay rows ts) us
  unfolding moved_all
  moved-append rows [] us = refl
  moved-append rows (t ∷ ts) us = moved-append (moved p lay rows t) ts us

  passed_in-relays : (rows : ℕ → Event → Bool) (e : Event) (qs : List ℕ) → passed_in p lay rows (map (relay e) qs) ≡ []
  unfolding passed_in passed_by
  passed_in-relays rows e [] = refl
  passed_in-relays rows e (q ∷ qs) = passed_in-relays (moved p lay rows (relay e q)) e qs

  learn-keeps : (rows : ℕ → Event → Bool) (q : ℕ) (e : Event) (r : ℕ) (f : Event) → rows r f ≡ true → learn rows q e r f ≡ true
  unfolding learn
  learn-keeps rows q e r f h = rw (h, or-true)

  step_keeps : (rows : ℕ → Event → Bool) (t : Move) (r : ℕ) (f : Event) → rows r f ≡ true → moved p lay rows t r f ≡ true
  unfolding moved
  step_keeps rows (occur e) r f h = go (passes p lay rows e)
    where
      go : (b : Bool) → cond b (learn rows (site_of p lay e) e) rows r f ≡ true
      go true = learn-keeps rows (site_of p lay e) e r f h
      go false = h
  step_keeps rows (relay e q) r f h = go (relayed p lay rows e q)
    where
      go : (b : Bool) → cond b (learn rows q e) rows r f ≡ true
      go true = learn-keeps rows q e r f h
      go false = h

  steps-keep : (rows : ℕ → Event → Bool) (ts : List Move) (r : ℕ) (f : Event) → rows r f ≡ true → moved_all p lay rows ts r f ≡ true
  unfolding moved_all
  steps-keep rows [] r f h = h
  steps-keep rows (t ∷ ts) r f h = steps-keep (moved p lay rows t) ts r f (step_keeps rows t r f h)

  relay-heard : (rows : ℕ → Event → Bool) (e : Event) (q : ℕ) → q < lay.rows → applies p e ≡ true → rows (site_of p lay e) e ≡ true → moved p lay rows (relay e q) q e ≡ true
  unfolding moved relayed learn
  relay-heard rows e q l a h = rw (a, lt-ltb q lay.rows l, h, eq-eqb q q refl, same_self e)

  relays-heard : {q : ℕ} {qs : List ℕ} (rows : ℕ → Event → Bool) (e : Event) → In q qs → q < lay.rows → applies p e ≡ true → rows (site_of p lay e) e ≡ true →
      moved_all p lay rows (map (relay e) qs) q e ≡ true
  unfolding moved_all
  relays-heard {q} rows e (here {y = y} {xs = qs} i) l a h =
      steps-keep (moved p lay rows (relay e y)) (map (relay e) qs) q e
      (subst (λ (r : ℕ). moved p lay rows (relay e r) q e ≡ true) i (relay-heard rows e q l a h))
  relays-heard {q} rows e (there {y = y} {xs = qs} i) l a h =
      relays-heard (moved p lay rows (relay e y)) e i l a (step_keeps rows (relay e y) (site_of p lay e) e h)

-- the host of an event that applies is in the plan
host-in : (p : List ℕ) → Accepted p → (e : Event) → applies p e ≡ true → host_of p e < size p
unfolding applies applies_by host_of host_by
host-in p ok e a = go e.code e.node (ltb-true e.node (size p) (search parts)) (search parts)
  where
    go : (c : Code) (v : ℕ) → v < size p → applies_by c (kind p v) (in_xor p v) ≡ true → host_by c v (parent p v) < size p
    go start v l a = l
    go offer v l a = l
    go commit v l a = l
    go abort v l a = l
    go answered-yes v l a = l
    go answered-no v l a = l
    go pick v l a = let c = xor-child p v a l in let b = ok.below v c.low l in omega arith
    go down v l a = l

-- every site has heard every event of es
abbrev pub Heard : List ℕ → Layout → List Event → (ℕ → Event → Bool) → Type 0
Heard p lay es rows = (q : ℕ) → q < lay.rows → (f : Event) → among es f ≡ true → rows q f ≡ true

module _ (p : List ℕ) (ok : Accepted p) (lay : Layout) (housed : Housed p lay) where
  pub site-in : (e : Event) → applies p e ≡ true → site_of p lay e < lay.rows
  unfolding site_of
  site-in e a = housed (host_of p e) (host-in p ok e a)

  -- where its site has heard all, an allowed event passes
  allowed-pass : (es : List Event) (rows : ℕ → Event → Bool) → InStep p lay es rows → Heard p lay es rows → (e : Event) →
      allowed p (reaches fresh es) e ≡ true → passes p lay rows e ≡ true
  unfolding allowed passes
  allowed-pass es rows sound heard e h =
      let a : applies p e ≡ true = search parts in
      let r : (f : Event) → rows (site_of p lay e) f ≡ among es f =
      λ f. same_bool _ _ (sound.true-to (site_of p lay e) f) (heard (site_of p lay e) (site-in e a) f) in
      rw a (guards-follow p ok es sound.run (rows (site_of p lay e)) r e a ∙ h)

  -- one event of the script: it passes, and every site hears of it
  module _ (hs : List Event) (rows : ℕ → Event → Bool) (e : Event) (sound : InStep p lay hs rows) (heard : Heard p lay hs rows)
      (allow : allowed p (reaches fresh hs) e ≡ true) where
    happened : passed_by p lay rows (occur e) ≡ e ∷ []
    unfolding passed_by
    happened = rw (allowed-pass hs rows sound heard e allow)

    rows_then : ℕ → Event → Bool
    rows_then = moved_all p lay (moved p lay rows (occur e)) (map (relay e) (up_from 0 lay.rows))

    sound-at : InStep p lay (hs ++ (e ∷ [])) (moved p lay rows (occur e))
    sound-at = rw happened at (step-on p ok lay hs rows sound (occur e))

    sound-then : InStep p lay (hs ++ (e ∷ [])) rows_then
    unfolding rows_then
    sound-then =
        rw (passed_in-relays p lay (moved p lay rows (occur e)) e (up_from 0 lay.rows), append-nil) at
        (steps_on p ok lay (hs ++ (e ∷ [])) (moved p lay rows (occur e)) (map (relay e) (up_from 0 lay.rows)) sound-at)

    heard-then : Heard p lay (hs ++ (e ∷ [])) rows_then
    unfolding rows_then allowed
    heard-then q l f k = cases ((either (among hs f) (same e f)).0 (sym (among-more hs e f) ∙ k))
        (λ a. steps-keep p lay (moved p lay rows (occur e)) (map (relay e) (up_from 0 lay.rows)) q f (step_keeps p lay rows (occur e) q f (heard q l f a)))
        (λ b. subst (λ (g : Event). moved_all p lay (moved p lay rows (occur e)) (map (relay e) (up_from 0 lay.rows)) q g ≡ true) (same-event e f b)
        (relays-heard p lay (moved p lay rows (occur e)) e (in-up 0 lay.rows q (omega arith) (omega arith)) l (search parts)
        (sound-at.own e (among-more hs e e ∙ rw (same_self e, or-true)))))

  script-full : (hs : List Event) (rows : ℕ → Event → Bool) (es : List Event) → InStep p lay hs rows → Heard p lay hs rows → run_from p (reaches fresh hs) es ≡ true →
      (passed_in p lay rows (script lay es) ≡ es) × Heard p lay (hs ++ es) (moved_all p lay rows (script lay es))
  unfolding script run_from passed_in moved_all rows_then reaches
  script-full hs rows [] sound heard h = (refl, rw append-nil heard)
  script-full hs rows (e ∷ es) sound heard h =
      let a : allowed p (reaches fresh hs) e ≡ true = search parts in
      let r : run_from p (reaches fresh (hs ++ (e ∷ []))) es ≡ true = rw (reaches-append fresh hs (e ∷ [])) (search parts) in
      let ih = script-full (hs ++ (e ∷ [])) (rows_then hs rows e sound heard a) es (sound-then hs rows e sound heard a) (heard-then hs rows e sound heard a) r in (
        rw (
          happened hs rows e sound heard a,
          passed_in-append p lay (moved p lay rows (occur e)) (map (relay e) (up_from 0 lay.rows)) (script lay es),
          passed_in-relays p lay (moved p lay rows (occur e)) e (up_from 0 lay.rows),
        ) (ap (λ (l : List Event). e ∷ l) ih.0),
        rw (moved-append p lay (moved p lay rows (occur e)) (map (relay e) (up_from 0 lay.rows)) (script lay es)) (rw append_assoc at ih.1),
      )

  pub full : (es : List Event) → is_run p es ≡ true →
      (ts : List Move) × (passed_in p lay silence ts ≡ es) × Heard p lay es (moved_all p lay silence ts)
  unfolding is_run run_from reaches silence among any
  full es h =
      let r = script-full [] silence es (record { run = refl; true-to = λ q f h. h; own = λ f h. h }) (λ q l f h. h) h in
      (script lay es, r.0, r.1)
