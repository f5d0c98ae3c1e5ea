-- The claim of specs/Claim.antt, field by field: every list of steps is moves of sites (Bridge), of which crate runs has the laws. Assumes nothing.
use mathlib.Core.Path.{◌≡◌, refl, sym, ◌∙◌, ap, subst, fun_ext}
use mathlib.Core.Bool.{Bool, true, false, not, ◌&&◌, ◌||◌, and-false, or-false}
use mathlib.Core.List.{List, [], ◌∷◌, ◌++◌, map, append_assoc}
use mathlib.Core.Logic.{◌⊎◌, inl, inr}
use Prim.Native.Nat.{ℕ, ◌<◌}
use lib.Dec.{eqb}
use borrow.Author.Tests.{eq-eqb, eqb-true}
use Rattle.lists.specs.Seq.{table}
use Rattle.lists.proofs.Logic.{cases, decided, same_bool, no_bool, parts, clash}
use Rattle.plan.specs.Plan.{size}
use Rattle.plan.specs.Check.{Accepted}
use Rattle.event.specs.Event.{code_number, Event, among, applies}
use Rattle.event.specs.Site.{Layout, Housed, site_of}
use Rattle.event.proofs.CodeLaws.{code_is}
use Rattle.guard.specs.Guard.{guard, holds, barred}
use Rattle.central.specs.Mark.{mark_number}
use Rattle.central.specs.Central.{fresh, allowed, is_run, reaches}
use Rattle.pass.specs.Pass.{pass}
use Rattle.retention.specs.Record.{record_of}
use Rattle.row.specs.Row.{heard}
use Rattle.site.specs.Verdict.{verdict_number}
use Rattle.site.specs.Step.{step_invalid, step_at}
use Rattle.lists.specs.Bytes.{Bytes}
use Rattle.runs.specs.Agree.{Agrees}
use Rattle.runs.specs.Claims.{Stuck}
use Rattle.runs.proofs.Net.{passed_in, moved_all, silence}
use Rattle.runs.proofs.Safe.{InStep, safe}
use Rattle.runs.proofs.Full.{site-in, full}
use Rattle.runs.proofs.Main.{guards-follow-rule, five-events, runs-end, stuck-is-pass, answers_agree}
use Rattle.job.specs.Simulation.{row_of, Step, simulate, replay_from, passed_from, heard_from, zeros, replay, passed, heard_at, mark_at, end_marks}
use Rattle.job.specs.Claim.{row_at, central_after, Informed, Over, Claim}
use Rattle.job.proofs.View.{view, zero-bytes, zero-view}
use Rattle.site.proofs.StepLaws.{step-tested, step-passes}
use Rattle.job.proofs.StepLaws.{refused-leaves, repeat-leaves, step-valid}
use Rattle.job.proofs.Bridge.{decode_all, step_of_move, event-back, moves-back, DidAll, did-all}
use Rattle.job.proofs.Marks.{mark-by-row}

-- a list goes on where its prefix ends
replay-append : (p : List ℕ) (lay : Layout) (st : List ℕ) (ts us : List Step) → replay_from p lay st (ts ++ us) ≡ replay_from p lay (replay_from p lay st ts) us
unfolding replay_from
replay-append p lay st [] us = refl
replay-append p lay st (t ∷ ts) us = replay-append p lay (simulate p lay st t).state ts us

passed-append : (p : List ℕ) (lay : Layout) (st : List ℕ) (ts us : List Step) →
    passed_from p lay st (ts ++ us) ≡ passed_from p lay st ts ++ passed_from p lay (replay_from p lay st ts) us
unfolding passed_from replay_from
passed-append p lay st [] us = refl
passed-append p lay st (t ∷ ts) us = rw (passed-append p lay (simulate p lay st t).state ts us, append_assoc)

shut_by : (b g : Bool) → (not b && g) ≡ false → (b ≡ true) ⊎ (g ≡ false)
shut_by true g h = inl refl
shut_by false g h = inr h

shut-not : (b g : Bool) → (b ≡ true) ⊎ (g ≡ false) → (not b && g) ≡ false
shut-not b g (inl h) = rw h
shut-not b g (inr h) = rw (h, and-false)

module _ (p : List ℕ) (ok : Accepted p) (lay : Layout) (housed : Housed p lay) where
  module _ (ts : List Step) where
    whole : DidAll p ok lay housed (zeros p lay) ts (replay p lay ts)
    unfolding replay
    whole = did-all p ok lay housed (zeros p lay) (zero-bytes p lay) ts

    seen : view p (replay p lay ts) ≡ moved_all p lay silence (decode_all ts)
    seen = whole.seen ∙ ap (λ (w : ℕ → Event → Bool). moved_all p lay w (decode_all ts)) (zero-view p lay)

    events : passed p lay ts ≡ passed_in p lay silence (decode_all ts)
    unfolding passed
    events = whole.events ∙ ap (λ (w : ℕ → Event → Bool). passed_in p lay w (decode_all ts)) (zero-view p lay)

    sound : InStep p lay (passed p lay ts) (view p (replay p lay ts))
    sound = rw (events, seen) (safe p ok lay (decode_all ts))

    set-heard : (q : ℕ) (e : Event) → heard (row_of p (replay p lay ts) q) e ≡ among (heard_at p lay q ts) e
    unfolding heard_at silence
    set-heard q e = whole.hears q e ∙ ap (λ (w : ℕ → Event → Bool). among (heard_from p lay q (zeros p lay) ts) e || w q e) (zero-view p lay) ∙ or-false _

    -- a site that has heard all has a row of just what happened, and so follows the central rule
    row-whole : (q : ℕ) → Informed p lay ts q → (f : Event) → heard (row_of p (replay p lay ts) q) f ≡ among (passed p lay ts) f
    row-whole q h f = same_bool _ _ (sound.true-to q f) (λ k. set-heard q f ∙ h f k)

    central : (e : Event) → applies p e ≡ true → Informed p lay ts (site_of p lay e) →
        (not (barred p (heard (row_at p lay ts e)) e) && holds (heard (row_at p lay ts e)) (guard p e)) ≡ allowed p (central_after p lay ts) e
    unfolding row_at central_after
    central e a h = guards-follow-rule p ok (passed p lay ts) sound.run (heard (row_of p (replay p lay ts) (site_of p lay e))) (row-whole (site_of p lay e) h) e a

    -- an event that does not apply passes nowhere
    number-off : (e : Event) (q : ℕ) (row : List ℕ) → applies p e ≡ false → eqb (verdict_number (step_at p q (code_number e.code) e.node row).verdict) 0 ≡ false
    number-off e q row n =
        step-passes p q (code_number e.code) e.node row
        ∙ rw (no_bool (eqb (step_invalid p (code_number e.code) e.node row) 0)
        (λ z. clash (applies p e) (ap (applies p) (sym (event-back e)) ∙ (step-tested p _ e.node row (eqb-true _ 0 z)).applied) n))

    number_at : (e : Event) → Informed p lay ts (site_of p lay e) →
        eqb (verdict_number (step_at p (site_of p lay e) (code_number e.code) e.node (row_at p lay ts e)).verdict) 0 ≡ allowed p (central_after p lay ts) e
    unfolding row_at allowed
    number_at e h = cases (decided (applies p e))
        (λ a. step-passes p (site_of p lay e) (code_number e.code) e.node (row_of p (replay p lay ts) (site_of p lay e))
        ∙ rw (
          step-valid p ok lay housed (replay p lay ts) whole.bytes.long (code_number e.code) e.node (site_of p lay e) (site-in p ok lay housed e a),
          code_is e.code,
          event-back e,
          a,
        ) (central e a h ∙ rw a))
        (λ n. number-off e (site_of p lay e) (row_of p (replay p lay ts) (site_of p lay e)) n ∙ rw n)

    mark-is : (v : ℕ) → mark_at p lay (replay p lay ts) v ≡ (central_after p lay ts).mark v
    unfolding mark_at central_after
    mark-is v = mark-by-row p lay (passed p lay ts) (view p (replay p lay ts)) sound v

    module _ (over : Over p lay ts) where
      stuck : Stuck p (central_after p lay ts)
      unfolding allowed
      stuck e = no_bool (allowed p (central_after p lay ts) e) (λ k.
          let a : applies p e ≡ true = search parts in
          clash _ (central e a (over.informed (site_of p lay e) (site-in p ok lay housed e a)) ∙ k) (shut-not _ _ (over.still e a)))

      pass-is : (a : List ℕ) → Bytes (size p) a → Agrees p (among (passed p lay ts)) a → pass p a ≡ record { number = 0; marks = end_marks p lay (replay p lay ts) }
      unfolding end_marks central_after
      pass-is a bytes agree =
          stuck-is-pass p ok (passed p lay ts) sound.run stuck a bytes agree
          ∙ ap (λ (f : ℕ → ℕ). record { number = 0; marks = table f (size p) }) (fun_ext (λ v. ap mark_number (sym (mark-is v))))

  had : (es : List Event) → is_run p es ≡ true → (ts : List Step) × (passed p lay ts ≡ es) × ((q : ℕ) → q < lay.rows → Informed p lay ts q)
  had es h =
      let r = full p ok lay housed es h in
      let ts : List Step = map step_of_move r.0 in
      let e : passed p lay ts ≡ es = events ts ∙ ap (passed_in p lay silence) (moves-back r.0) ∙ r.1 in
      let v : view p (replay p lay ts) ≡ moved_all p lay silence r.0 = seen ts ∙ ap (moved_all p lay silence) (moves-back r.0) in
      (ts, e, λ q l f k. sym (set-heard ts q f) ∙ ap (λ (w : ℕ → Event → Bool). w q f) v ∙ r.2 q l f (subst (λ (l : List Event). among l f ≡ true) e k))

  -- a stuck run is over when every site has heard it
  ended : (es : List Event) → is_run p es ≡ true → (fs : List Event) × (ts : List Step) × (passed p lay ts ≡ es ++ fs) × Over p lay ts
  unfolding central_after
  ended es h =
      let r = runs-end p es h in
      let t = had (es ++ r.0) r.1 in
      let stuck : Stuck p (reaches fresh (passed p lay t.0)) = subst (λ (l : List Event). Stuck p (reaches fresh l)) (sym t.1) r.2 in (
        r.0,
        t.0,
        t.1,
        record {
          informed = t.2;
          still = λ e a. shut_by _ _ (central t.0 e a (t.2 (site_of p lay e) (site-in p ok lay housed e a)) ∙ stuck e);
        },
      )

  pub claim : Claim p lay
  unfolding passed replay
  claim = record {
    state = λ ts. (whole ts).bytes;
    refused = refused-leaves p lay;
    repeat = repeat-leaves p lay;
    set-if-heard = λ ts q l. set-heard ts q;
    run = λ ts. (sound ts).run;
    prefix-events = passed-append p lay (zeros p lay);
    prefix-state = replay-append p lay (zeros p lay);
    mark = λ ts v l. mark-is ts v;
    few = five-events p;
    had = had;
    accepts = λ ts over a bytes g. ap (λ r. r.number) (pass-is ts over a bytes g);
    same-record = λ ts over a bytes g tab. ap (λ r. record_of p tab r.marks) (pass-is ts over a bytes g);
    ends = ended;
    agreed = answers_agree p ok;
    faithful = λ ts e h. (λ n. sym (number_at ts e h) ∙ eq-eqb _ 0 n, λ k. eqb-true _ 0 (number_at ts e h ∙ k));
  }
