-- The theorems of this crate: the claims of specs/Claim.antt. Assumes nothing.
use mathlib.Core.Path.{◌≡◌, refl, sym, ◌∙◌, ap, subst, fun_ext}
use mathlib.Core.Bool.{Bool, true, false, not, ◌&&◌, and-false}
use mathlib.Core.List.{List, [], ◌∷◌, ◌++◌, map, map-append, map-map}
use mathlib.Core.Logic.{◌⊎◌, inl, inr}
use Prim.Native.Nat.{ℕ, ◌<◌}
use lib.Dec.{eqb}
use borrow.Author.Tests.{eq-eqb, eqb-true}
use Rattle.lists.specs.Seq.{any, table}
use Rattle.lists.proofs.Logic.{no_bool, parts, clash}
use Rattle.plan.specs.Plan.{size}
use Rattle.plan.specs.Check.{Accepted}
use Rattle.event.specs.Event.{code_number, Event, among, applies}
use Rattle.event.specs.Site.{Layout, Housed, site_of}
use Rattle.event.proofs.CodeLaws.{code_is}
use Rattle.guard.specs.Guard.{guard, holds, barred}
use Rattle.central.specs.Mark.{mark_number}
use Rattle.central.specs.Central.{fresh, allowed, run_from, is_run, reaches}
use Rattle.pass.specs.Pass.{pass}
use Rattle.retention.specs.Record.{record_of}
use Rattle.row.specs.Row.{heard}
use Rattle.site.specs.Verdict.{verdict_number}
use Rattle.site.specs.Step.{step_at}
use Rattle.site.proofs.StepLaws.{step-passes}
use Rattle.lists.specs.Bytes.{Bytes}
use Rattle.runs.specs.Agree.{Agrees}
use Rattle.runs.specs.Claims.{Stuck}
use Rattle.runs.proofs.Net.{relay, passes, passed_in, moved_all, silence}
use Rattle.runs.proofs.Safe.{own_row}
use Rattle.runs.proofs.Full.{site-in}
use Rattle.runs.proofs.Main.{runs-end, stuck-is-pass}
use Rattle.job.specs.Simulation.{row_of, Step, replay_from, passed_from, replay, passed, zeros, mark_at, end_marks}
use Rattle.job.proofs.View.{view, zero-bytes, zero-view}
use Rattle.job.proofs.StepLaws.{step-valid}
use Rattle.job.proofs.Bridge.{decode_all, step_of_move, event-back, moves-back, did-all}
use Rattle.job.proofs.Marks.{mark-by-row}
use Rattle.job.specs.Claim.{row_at, Over}
use Rattle.job.proofs.Main.{demand3}
use Rattle.audience.specs.Audience.{audience}
use Rattle.audience.proofs.NameLaws.{audience-in}
use Rattle.line.specs.Change.{Reached, begin}
use Rattle.line.specs.Claim.{row_for, Knows, Told, Settled, Sound, sparing, Comes, Claim, LineKeeps}
use Rattle.line.proofs.RowLaws.{row-bytes}
use Rattle.line.proofs.Decide.{told-known, decides}
use Rattle.line.proofs.Reach.{Fits, reached-fits}
use Rattle.line.proofs.Quiets.{message-quiet, merge-quiet, restart-quiet, steps-reached}
use Rattle.line.proofs.Sparing.{sparing_moves, sparing-full}
use Rattle.line.proofs.Messages.{as-messages, by_call}

shut_by : (b g : Bool) → (not b && g) ≡ false → (b ≡ true) ⊎ (g ≡ false)
shut_by true g h = inl refl
shut_by false g h = inr h

shut-not : (b g : Bool) → (b ≡ true) ⊎ (g ≡ false) → (not b && g) ≡ false
shut-not b g (inl h) = rw h
shut-not b g (inr h) = rw (h, and-false)

module _ (p : List ℕ) (ok : Accepted p) (lay : Layout) (housed : Housed p lay) where
  -- SOUND STATES
  module _ (es : List Event) (st : List ℕ) (fits : Fits p ok lay housed es st) where
    central : (e : Event) → applies p e ≡ true → Knows p lay es st (site_of p lay e) →
        (not (barred p (heard (row_for p lay st e)) e) && holds (heard (row_for p lay st e)) (guard p e)) ≡ allowed p (reaches fresh es) e
    unfolding passes
    central e a k = rw a at (decides p ok lay es (view p st) fits.rows e a k)

    number_at : (e : Event) → applies p e ≡ true → Knows p lay es st (site_of p lay e) →
        eqb (verdict_number (step_at p (site_of p lay e) (code_number e.code) e.node (row_for p lay st e)).verdict) 0 ≡ allowed p (reaches fresh es) e
    number_at e a k =
        step-passes p (site_of p lay e) (code_number e.code) e.node (row_of p st (site_of p lay e))
        ∙ rw (
          step-valid p ok lay housed st fits.bytes.long (code_number e.code) e.node (site_of p lay e) (site-in p ok lay housed e a),
          code_is e.code,
          event-back e,
          a,
        ) (central e a k)

    mark-is : (v : ℕ) → mark_at p lay st v ≡ (reaches fresh es).mark v
    unfolding mark_at
    mark-is v = mark-by-row p lay es (view p st) fits.rows v

    known : Told p lay es st → (q : ℕ) → q < lay.rows → Knows p lay es st q
    known told = told-known p ok lay es (view p st) fits.rows told

    module _ (over : Settled p lay es st) where
      stuck : Stuck p (reaches fresh es)
      unfolding allowed
      stuck e = no_bool (allowed p (reaches fresh es) e) (λ k.
          let a : applies p e ≡ true = search parts in
          clash _ (central e a (known over.told (site_of p lay e) (site-in p ok lay housed e a)) ∙ k) (shut-not _ _ (over.still e a)))

      pass-is : (a : List ℕ) → Bytes (size p) a → Agrees p (among es) a → pass p a ≡ record { number = 0; marks = end_marks p lay st }
      unfolding end_marks
      pass-is a bytes agree =
          stuck-is-pass p ok es fits.rows.run stuck a bytes agree
          ∙ ap (λ (f : ℕ → ℕ). record { number = 0; marks = table f (size p) }) (fun_ext (λ v. ap mark_number (sym (mark-is v))))

    pub fits-sound : Sound p lay es st
    fits-sound = record {
      state = fits.bytes;
      run = fits.rows.run;
      within = fits.rows.true-to;
      own = own_row p lay es (view p st) fits.rows;
      mark = λ v l. mark-is v;
      faithful = λ e a k. (λ n. sym (number_at e a k) ∙ eq-eqb _ 0 n, λ h. eqb-true _ 0 (number_at e a k ∙ h));
      told-knows = known;
      accepts = λ over a bytes g. ap (λ r. r.number) (pass-is over a bytes g);
      same-record = λ over a bytes g tab. ap (λ r. record_of p tab r.marks) (pass-is over a bytes g);
    }

  -- TELLING THE AUDIENCE
  sparing-moves : (es : List Event) → sparing p lay es ≡ map step_of_move (sparing_moves p lay es)
  unfolding sparing sparing_moves step_of_move
  sparing-moves [] = refl
  sparing-moves (e ∷ es) =
      rw (sparing-moves es, map-append step_of_move (map (relay e) (audience p lay e)) (sparing_moves p lay es), map-map step_of_move (relay e) (audience p lay e))

  enough : (es : List Event) → is_run p es ≡ true → (passed p lay (sparing p lay es) ≡ es) × Told p lay es (replay p lay (sparing p lay es))
  unfolding passed replay is_run run_from reaches silence among any
  enough es h =
      let d = did-all p ok lay housed (zeros p lay) (zero-bytes p lay) (sparing p lay es) in
      let m : decode_all (sparing p lay es) ≡ sparing_moves p lay es = ap decode_all (sparing-moves es) ∙ moves-back (sparing_moves p lay es) in
      let r = sparing-full p ok lay housed [] silence es (record { run = refl; true-to = λ q f h. h; own = λ f h. h }) (λ f h q i. h) h in
      let events : passed_from p lay (zeros p lay) (sparing p lay es) ≡ passed_in p lay silence (sparing_moves p lay es) =
      d.events ∙ ap (λ (w : ℕ → Event → Bool). passed_in p lay w (decode_all (sparing p lay es))) (zero-view p lay) ∙ ap (passed_in p lay silence) m in
      let seen : view p (replay_from p lay (zeros p lay) (sparing p lay es)) ≡ moved_all p lay silence (sparing_moves p lay es) =
      d.seen ∙ ap (λ (w : ℕ → Event → Bool). moved_all p lay w (decode_all (sparing p lay es))) (zero-view p lay) ∙ ap (moved_all p lay silence) m in
      (events ∙ r.0, λ f k q i. ap (λ (w : ℕ → Event → Bool). w q f) seen ∙ r.1 f k q i)

  steps : (ts : List Step) → Reached p lay (passed p lay ts) (replay p lay ts)
  unfolding passed replay
  steps ts = steps-reached p ok lay housed [] (zeros p lay) ts begin

  wider : (ts : List Step) → Over p lay ts → Settled p lay (passed p lay ts) (replay p lay ts)
  unfolding row_at
  wider ts over = record {
    told = λ f k q i. let l = (audience-in p lay f i).within in (demand3 p ok lay housed).set-if-heard ts q l f ∙ over.informed q l f k;
    still = over.still;
  }

  ends : (es : List Event) → is_run p es ≡ true → (fs : List Event) × Settled p lay (es ++ fs) (replay p lay (sparing p lay (es ++ fs)))
  ends es h =
      let r = runs-end p es h in
      let t = enough (es ++ r.0) r.1 in
      let st : List ℕ = replay p lay (sparing p lay (es ++ r.0)) in
      let fits : Fits p ok lay housed (es ++ r.0) st =
      subst (λ (l : List Event). Fits p ok lay housed l st) t.0 (reached-fits p ok lay housed (steps (sparing p lay (es ++ r.0)))) in (
        r.0,
        record {
          told = t.1;
          still = λ e a. shut_by _ _
              (central (es ++ r.0) st fits e a (known (es ++ r.0) st fits t.1 (site_of p lay e) (site-in p ok lay housed e a)) ∙ r.2 e);
        },
      )

  -- LATE ROWS
  late : (es fs : List Event) (st new : List ℕ) → Reached p lay es st → Reached p lay fs new → ((f : Event) → among es f ≡ true → among fs f ≡ true) →
      (q r : ℕ) → q < lay.rows → r < lay.rows → Comes p lay new q (row_of p st r)
  late es fs st new x y sub q r l m =
      let a = reached-fits p ok lay housed x in
      let b = reached-fits p ok lay housed y in
      record {
        site = l;
        bytes = row-bytes p lay.rows st a.bytes r m;
        true-row = λ e h. (site_of p lay e, b.rows.own e (sub e (a.rows.true-to r e h)));
      }

  pub claim : Claim p lay
  claim = record {
    sound = λ es st r. fits-sound es st (reached-fits p ok lay housed r);
    steps = steps;
    wider = wider;
    message = λ es st r. message-quiet p ok lay housed st (reached-fits p ok lay housed r).bytes;
    enough = enough;
    ends = ends;
    merging = λ es st r. merge-quiet p ok lay housed st (reached-fits p ok lay housed r).bytes;
    by_call = λ es st r. by_call p ok lay housed es st (reached-fits p ok lay housed r);
    as-messages = λ es st r. as-messages p ok lay housed es st (reached-fits p ok lay housed r);
    late = late;
    restart = λ es st r. restart-quiet p ok lay housed st (reached-fits p ok lay housed r).bytes;
  }

pub line-keeps : LineKeeps
line-keeps p ok lay housed = claim p ok lay housed
