-- Telling just the audience is enough: every run can be had so. Each event happens, since its site knows what its guards name, and then its audience
-- is told. Assumes nothing.
use mathlib.Core.Path.{◌≡◌, refl, sym, ◌∙◌, ap}
use mathlib.Core.Bool.{Bool, true, ◌||◌, or-true}
use mathlib.Core.List.{List, [], ◌∷◌, ◌++◌, map, append_assoc, append-nil}
use Prim.Native.Nat.{ℕ}
use borrow.Author.Tests.{eq-eqb}
use Rattle.lists.specs.Seq.{any}
use Rattle.lists.specs.Member.{In}
use Rattle.lists.proofs.Logic.{cases, either, and_left, and-join, parts}
use Rattle.lists.proofs.Members.{any-by}
use Rattle.lists.proofs.Points.{in_map, map-in}
use Rattle.plan.specs.Check.{Accepted}
use Rattle.event.specs.Event.{Event, same, among, applies}
use Rattle.event.specs.Site.{Layout, Housed, site_of}
use Rattle.central.specs.Central.{fresh, allowed, run_from, reaches}
use Rattle.runs.proofs.RunLaws.{reaches-append, among-more}
use Rattle.runs.proofs.Net.{Move, occur, relay, learn, passes, moved, passed_by, passed_in, moved_all}
use Rattle.runs.proofs.Full.{passed_in-append, moved-append, site-in}
use Rattle.runs.proofs.Safe.{InStep, step-on, steps_on}
use Rattle.audience.specs.Audience.{audience}
use Rattle.audience.proofs.NameLaws.{audience-in}
use Rattle.line.proofs.Decide.{ToldIn, told-known, decides}
use Rattle.line.proofs.Relays.{hits, Goes, relays-moved, relays-none}
use Rattle.runs.proofs.Said.{same-event, same_self}

-- each event happens, and its audience is told of it before the next
unfoldable pub sparing_moves : List ℕ → Layout → List Event → List Move
sparing_moves p lay [] = []
sparing_moves p lay (e ∷ es) = occur e ∷ (map (relay e) (audience p lay e) ++ sparing_moves p lay es)

module _ (p : List ℕ) (ok : Accepted p) (lay : Layout) (housed : Housed p lay) where
  module _ (hs : List Event) (rows : ℕ → Event → Bool) (e : Event) (sound : InStep p lay hs rows) (told : ToldIn p lay hs rows)
      (allow : allowed p (reaches fresh hs) e ≡ true) where
    applied : applies p e ≡ true
    unfolding allowed
    applied = and_left _ _ allow

    passing : passes p lay rows e ≡ true
    passing = decides p ok lay hs rows sound e applied (told-known p ok lay hs rows sound told (site_of p lay e) (site-in p ok lay housed e applied)) ∙ allow

    happened : passed_by p lay rows (occur e) ≡ e ∷ []
    unfolding passed_by
    happened = rw passing

    sound-at : InStep p lay (hs ++ (e ∷ [])) (moved p lay rows (occur e))
    sound-at = rw happened at (step-on p ok lay hs rows sound (occur e))

    own_at : moved p lay rows (occur e) (site_of p lay e) e ≡ true
    own_at = sound-at.own e (among-more hs e e ∙ rw (same_self e, or-true))

    going : (m : Move) → In m (map (relay e) (audience p lay e)) → Goes p lay (moved p lay rows (occur e)) m
    going m i =
        let r = in_map (relay e) (audience p lay e) i in
        record { event = e; site = r.0; is = r.2; applied = applied; within = (audience-in p lay e r.1).within; happened = own_at }

    rows_then : ℕ → Event → Bool
    rows_then = moved_all p lay (moved p lay rows (occur e)) (map (relay e) (audience p lay e))

    none_then : passed_in p lay (moved p lay rows (occur e)) (map (relay e) (audience p lay e)) ≡ []
    none_then = relays-none p lay (moved p lay rows (occur e)) (map (relay e) (audience p lay e)) going

    sound-then : InStep p lay (hs ++ (e ∷ [])) rows_then
    unfolding rows_then
    sound-then = rw (none_then, append-nil) at
        (steps_on p ok lay (hs ++ (e ∷ [])) (moved p lay rows (occur e)) (map (relay e) (audience p lay e)) sound-at)

    then_is : (r : ℕ) (f : Event) → rows_then r f ≡ (any (hits r f) (map (relay e) (audience p lay e)) || moved p lay rows (occur e) r f)
    unfolding rows_then
    then_is r f = relays-moved p lay (moved p lay rows (occur e)) (map (relay e) (audience p lay e)) going r f

    kept : (r : ℕ) (f : Event) → rows r f ≡ true → moved p lay rows (occur e) r f ≡ true
    unfolding moved learn
    kept r f h = rw (passing, h, or-true)

    told-then : ToldIn p lay (hs ++ (e ∷ [])) rows_then
    unfolding hits
    told-then f k q i = cases ((either (among hs f) (same e f)).0 (sym (among-more hs e f) ∙ k))
        (λ a. then_is q f ∙ rw (kept q f (told f a q i), or-true))
        (λ b. then_is q f ∙ rw (any-by (hits q f) (map-in (relay e) {xs = audience p lay e} (rw (same-event e f b) i)) (and-join _ _ (eq-eqb q q refl) b)))

  pub sparing-full : (hs : List Event) (rows : ℕ → Event → Bool) (es : List Event) → InStep p lay hs rows → ToldIn p lay hs rows →
      run_from p (reaches fresh hs) es ≡ true →
      (passed_in p lay rows (sparing_moves p lay es) ≡ es) × ToldIn p lay (hs ++ es) (moved_all p lay rows (sparing_moves p lay es))
  unfolding sparing_moves run_from passed_in moved_all rows_then reaches
  sparing-full hs rows [] sound told h = (refl, rw append-nil told)
  sparing-full hs rows (e ∷ es) sound told h =
      let a : allowed p (reaches fresh hs) e ≡ true = search parts in
      let r : run_from p (reaches fresh (hs ++ (e ∷ []))) es ≡ true = rw (reaches-append fresh hs (e ∷ [])) (search parts) in
      let ih = sparing-full (hs ++ (e ∷ [])) (rows_then hs rows e sound told a) es (sound-then hs rows e sound told a) (told-then hs rows e sound told a) r in (
        rw (
          happened hs rows e sound told a,
          passed_in-append p lay (moved p lay rows (occur e)) (map (relay e) (audience p lay e)) (sparing_moves p lay es),
          none_then hs rows e sound told a,
        ) (ap (λ (l : List Event). e ∷ l) ih.0),
        rw (moved-append p lay (moved p lay rows (occur e)) (map (relay e) (audience p lay e)) (sparing_moves p lay es)) (rw append_assoc at ih.1),
      )
