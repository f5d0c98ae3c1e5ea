-- Which events a guard names, and who is in an audience, by membership. Assumes nothing.
use mathlib.Core.Path.{◌≡◌, refl}
use mathlib.Core.Bool.{true, not, ◌&&◌}
use mathlib.Core.List.{List}
use Prim.Native.Nat.{ℕ, ◌<◌}
use lib.Dec.{eqb}
use borrow.Author.Tests.{eq-eqb, eqb-true, eqb-false, ne_eqb, not-true}
use native.Mathlib.Omega.{arith}
use Rattle.lists.specs.Seq.{up_from}
use Rattle.lists.specs.Member.{In}
use Rattle.lists.proofs.Logic.{and-join, and_left, and_right}
use Rattle.lists.proofs.Members.{any-by, any_at, keep-in, in-keep, in-up, up_in}
use Rattle.event.specs.Event.{Event, among, applies}
use Rattle.event.specs.Site.{Layout, site_of}
use Rattle.guard.specs.Guard.{guard}
use Rattle.audience.specs.Audience.{mentions, names, audience}
use Rattle.audience.proofs.Shapes.{NamedIn}
use Rattle.merge.specs.Events.{events}
use Rattle.audience.proofs.EventLaws.{in-among, among_in, in-events, events-apply}

-- f stands in a clause of the guard of e
abbrev pub Named : List ℕ → Event → Event → Type 0
Named p e f = NamedIn (guard p e) f

pub named-mentions : (p : List ℕ) (e f : Event) → Named p e f → mentions p e f ≡ true
unfolding mentions
named-mentions p e f n = any-by (λ c. among c f) n.of (in-among n.member)

pub mentions-named : (p : List ℕ) (e f : Event) → mentions p e f ≡ true → Named p e f
unfolding mentions
mentions-named p e f h =
    let r = any_at (λ c. among c f) (guard p e) h in
    record { clause = r.0; of = r.1; member = among_in r.0 f r.2 }

module _ (p : List ℕ) (lay : Layout) where
  pub names-by : (e f : Event) → applies p e ≡ true → Named p e f → names p lay (site_of p lay e) f ≡ true
  unfolding names
  names-by e f a n =
      any-by (λ e'. eqb (site_of p lay e') (site_of p lay e) && mentions p e' f) (in-events p e a)
      (and-join _ _ (eq-eqb (site_of p lay e) (site_of p lay e) refl) (named-mentions p e f n))

  -- an event of site q whose guard names f
  pub record Naming (q : ℕ) (f : Event) : Type 0 where
    pub event : Event
    pub applied : applies p event ≡ true
    pub sited : site_of p lay event ≡ q
    pub named : Named p event f

  pub names_at : (q : ℕ) (f : Event) → names p lay q f ≡ true → Naming q f
  unfolding names
  names_at q f h =
      let r = any_at (λ e. eqb (site_of p lay e) q && mentions p e f) (events p) h in
      record {
        event = r.0;
        applied = events-apply p r.1;
        sited = eqb-true (site_of p lay r.0) q (and_left _ _ r.2);
        named = mentions-named p r.0 f (and_right (eqb (site_of p lay r.0) q) _ r.2);
      }

  pub in-audience : (f : Event) (q : ℕ) → q < lay.rows → names p lay q f ≡ true → (q ≡ site_of p lay f → ⊥) → In q (audience p lay f)
  unfolding audience
  in-audience f q l n o =
      in-keep (λ r. names p lay r f && not (eqb r (site_of p lay f))) (in-up 0 lay.rows q (omega arith) (omega arith))
      (and-join _ _ n (rw (ne_eqb q (site_of p lay f) o)))

  pub record Listening (f : Event) (q : ℕ) : Type 0 where
    pub within : q < lay.rows
    pub naming : names p lay q f ≡ true
    pub other : q ≡ site_of p lay f → ⊥

  pub audience-in : (f : Event) {q : ℕ} → In q (audience p lay f) → Listening f q
  unfolding audience
  audience-in f {q} i =
      let k = keep-in (λ r. names p lay r f && not (eqb r (site_of p lay f))) (up_from 0 lay.rows) i in
      let b = up_in 0 lay.rows k.0 in
      record {
        within = omega arith;
        naming = and_left _ _ k.1;
        other = eqb-false q (site_of p lay f) (not-true _ (and_right (names p lay q f) _ k.1));
      }
