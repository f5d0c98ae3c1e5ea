-- Every list of moves: the journal always holds steps that passed from a fresh start, and the state is what they leave (rules L4, L5 and L8).
-- Assumes nothing.
use mathlib.Core.Path.{◌≡◌, refl, sym, ◌∙◌, ap, ap₂, subst}
use mathlib.Core.List.{List, [], ◌∷◌, ◌++◌, map, map-append, append_assoc, append-nil}
use Prim.Native.Nat.{ℕ, zero, suc, ◌+◌, ◌≤◌, ◌<◌}
use native.Mathlib.Omega.{arith}
use lib.Dec.{eqb}
use lib.ListN.{length, take, get_or, set, replicate, length-set}
use lib.Seq.{take-suc, take-suc-set, take-set-le, get_or-set_same, get_or-set_other}
use borrow.Author.Tests.{ne_eqb, eqb-true, eqb-false, ltb-true}
use Rattle.lists.proofs.Logic.{cases, decided}
use Rattle.event.specs.Site.{Layout}
use Rattle.event.proofs.ValidLaws.{valid}
use Rattle.site.specs.Verdict.{verdict_number}
use Rattle.job.specs.Simulation.{Step, event, message, step_by, simulate, step_number, replay_from, numbers_from, zeros, replay, passed, heard_at}
use Rattle.job.specs.Claim.{Claim}
use Rattle.journal.specs.declared.Entry.{Entry}
use Rattle.journal.specs.Journal.{no_entry, step_in, step_on, entry_of, undone, undo_fits, undo_number, undo_of}
use Rattle.journal.specs.Session.{Move, keep, undo, Lent, lent, undone_lent, begun, moved, session, remaining, KeptWell, kept_number, Named}
use Rattle.journal.proofs.UndoLaws.{tell-valid, keep-passed, keep-told, keep-refused, KeepsAt, undo-last}
use Rattle.journal.proofs.ReplayLaws.{replicate-end, numbers-append, Passes, none, more, passing, passing-same}

module _ (p : List ℕ) (lay : Layout) (row : ℕ → ℕ) where
  -- the steps of the first i entries
  unfoldable pub steps_to : List Entry → ℕ → List Step
  steps_to es i = map (step_in row) (take i es)

  steps-suc : (es : List Entry) (i : ℕ) → i < length es → steps_to es (suc i) ≡ steps_to es i ++ (step_in row (get_or es i no_entry) ∷ [])
  unfolding steps_to
  steps-suc es i l = ap (map (step_in row)) (take-suc es i no_entry l) ∙ map-append (step_in row) (take i es) (get_or es i no_entry ∷ [])

  -- and the state that they leave
  unfoldable pub before : List Entry → ℕ → List ℕ
  before es i = replay p lay (steps_to es i)

  -- entries past a place do not matter for it
  before-set : (es : List Entry) (k i : ℕ) (e : Entry) → i ≤ k → before (set es k e) i ≡ before es i
  unfolding before steps_to
  before-set es k i e l = ap (λ (l : List Entry). replay p lay (map (step_in row) l)) (take-set-le i es k e l)

  -- the entries up to the count keep steps that passed, each on what those before it left
  pub record Sound (l : Lent) : Type 0 where
    pub state : l.state ≡ before l.entries l.count
    pub inside : l.count ≤ length l.entries
    pub each : (i : ℕ) → i < l.count → KeepsAt p lay row (before l.entries i) (get_or l.entries i no_entry)

  pub begun-sound : (es : List Entry) → Sound (begun p lay es)
  unfolding before steps_to replay replay_from
  begun-sound es = record { state = refl; inside = omega arith; each = λ i l. absurd (omega arith) }

  -- with no step left nothing is taken back
  undo-none : (st : List ℕ) (es : List Entry) → undo_of p lay row st es 0 ≡ undone (undo_number p lay row st es 0) st 0
  unfolding undo_of undo_number
  undo-none st es = cases (decided (eqb (undo_fits p lay row st es 0) 0)) (λ z. rw z) (λ z. rw z (rw z))

  -- each state before an entry is one of demand 3
  module _ (claim : Claim p lay) where
    before-suc : (es : List Entry) (i : ℕ) → i < length es →
        before es (suc i) ≡ (step_on p lay row (before es i) (get_or es i no_entry).code (get_or es i no_entry).node (get_or es i no_entry).site).state
    unfolding before step_on replay_from
    before-suc es i l = ap (replay p lay) (steps-suc es i l) ∙ claim.prefix-state (steps_to es i) (step_in row (get_or es i no_entry) ∷ [])

    -- a step that is kept
    module _ (st : List ℕ) (es : List Entry) (k code node site : ℕ) (sound : Sound (lent st es k)) where
      kept-sound : k < length es → verdict_number (step_on p lay row st code node site).verdict ≡ 0 →
          Sound (lent (step_on p lay row st code node site).state (set es k (entry_of p lay row st code node site)) (suc k))
      unfolding entry_of
      kept-sound l z =
          let e : Entry = entry_of p lay row st code node site in
          let es' : List Entry = set es k e in
          let l' : k < length es' = rw (length-set es k e) l in
          let g : get_or es' k no_entry ≡ e = get_or-set_same es k e no_entry l in
          let b : before es' k ≡ st = before-set es k k e (omega arith) ∙ sym sound.state in
          record {
            state = sym (before-suc es' k l' ∙ rw (g, b));
            inside = l';
            each = λ i h. cases (decided (eqb i k))
                (λ q. let w : i ≡ k = eqb-true i k q in rw (w, g, b) (record { pass = z; told = refl }))
                (λ q. let w = eqb-false i k q in
                let m : i ≤ k = omega arith in
                rw (before-set es k i e m, get_or-set_other es k i e no_entry w) (sound.each i (omega arith)));
          }

      pub keep-sound : Sound (moved p lay row (lent st es k) (keep code node site))
      unfolding moved
      keep-sound = cases (decided (eqb (kept_number p lay row st es k code node site) 0))
          (λ z. let t = keep-told p lay row st es k code node site (eqb-true _ 0 z) in rw (keep-passed p lay row st es k code node site t.0 t.1) (kept-sound t.0 t.1))
          (λ z. subst Sound (sym (keep-refused p lay row st es k code node site (eqb-false _ 0 z))) sound)

    -- a take-back gives the state before the last entry
    pub undo-is : (st : List ℕ) (es : List Entry) (k : ℕ) → Sound (lent st es (suc k)) → undo_of p lay row st es (suc k) ≡ undone 0 (before es k) k
    unfolding before
    undo-is st es k sound =
        undo-last p lay row (before es k) (claim.state (steps_to es k)) es k sound.inside (sound.each k (omega arith)) st (sound.state ∙ before-suc es k sound.inside)

    -- and so the journal is sound at every place up to its count
    pub sound_back : (st : List ℕ) (es : List Entry) (k n : ℕ) → n ≤ k → Sound (lent st es k) → Sound (lent (before es n) es n)
    sound_back st es k n l sound = record { state = refl; inside = let i = sound.inside in omega arith; each = λ i m. sound.each i (omega arith) }

    pub undo-sound : (st : List ℕ) (es : List Entry) (k : ℕ) → Sound (lent st es k) → Sound (undone_lent es (undo_of p lay row st es k))
    undo-sound st es zero sound = rw (undo-none st es) sound
    undo-sound st es (suc k) sound = rw (undo-is st es k sound) (sound_back st es (suc k) k (omega arith) sound)

    moved-sound : (l : Lent) → Sound l → (m : Move) → Sound (moved p lay row l m)
    unfolding moved
    moved-sound l sound undo = undo-sound l.state l.entries l.count sound
    moved-sound l sound (keep code node site) = keep-sound l.state l.entries l.count code node site sound

    session-sound : (ms : List Move) (l : Lent) → Sound l → Sound (session p lay row l ms)
    unfolding session
    session-sound [] l sound = sound
    session-sound (m ∷ ms) l sound = session-sound ms (moved p lay row l m) (moved-sound l sound m)

    -- WHAT A SOUND JOURNAL IS WORTH
    module _ (l : Lent) (sound : Sound l) where
      number_at : (i : ℕ) → i < l.count → step_number p lay (replay p lay (steps_to l.entries i)) (step_in row (get_or l.entries i no_entry)) ≡ 0
      unfolding step_on before
      number_at i h = (sound.each i h).pass

      numbers-to : (i : ℕ) → i ≤ l.count → numbers_from p lay (zeros p lay) (steps_to l.entries i) ≡ replicate i 0
      unfolding steps_to numbers_from replay
      numbers-to zero h = refl
      numbers-to (suc i) h =
          let m : i < length l.entries = let w = sound.inside in omega arith in
          ap (numbers_from p lay (zeros p lay)) (steps-suc l.entries i m)
          ∙ numbers-append p lay (zeros p lay) (steps_to l.entries i) (step_in row (get_or l.entries i no_entry) ∷ [])
          ∙ ap₂ ◌++◌ (numbers-to i (omega arith)) (ap (λ (n : ℕ). n ∷ []) (number_at i h))
          ∙ replicate-end 0 i

      pub sound-well : KeptWell p lay row l
      unfolding remaining before steps_to
      sound-well = record { state = sound.state; inside = sound.inside; passing = numbers-to l.count (omega arith); run = claim.run (remaining p lay row l) }

    pub all-well : (es : List Entry) (ms : List Move) → KeptWell p lay row (session p lay row (begun p lay es) ms)
    all-well es ms = sound-well (session p lay row (begun p lay es) ms) (session-sound ms (begun p lay es) (begun-sound es))

  -- EVERY RUN CAN BE HAD: steps that all pass, as moves
  on_step : (st : List ℕ) (t : Step) (code node site : ℕ) → step_by row code node site ≡ t → step_on p lay row st code node site ≡ simulate p lay st t
  unfolding step_on
  on_step st t code node site h = ap (simulate p lay st) h

  kept_step : (st : List ℕ) (t : Step) (code node site : ℕ) → step_by row code node site ≡ t → step_in row (entry_of p lay row st code node site) ≡ t
  unfolding entry_of
  kept_step st t code node site h = h

  module _ (named : Named lay row) where
    move_for : Step → Move
    move_for (event code node) = keep code node 255
    move_for (message code node q) = keep code node (named.number q)

    -- the numbers of a step that passes
    record Numbers (t : Step) : Type 0 where
      code : ℕ
      node : ℕ
      site : ℕ
      is : move_for t ≡ keep code node site
      keeps : step_by row code node site ≡ t

    numbers : (st : List ℕ) (t : Step) → step_number p lay st t ≡ 0 → Numbers t
    unfolding move_for simulate step_by
    numbers st (event code node) z = record { code = code; node = node; site = 255; is = refl; keeps = refl }
    numbers st (message code node q) z =
        let l : q < lay.rows = ltb-true q lay.rows (valid p _ _ code node (tell-valid p lay st code node q z)).placed in
        record { code = code; node = node; site = named.number q; is = refl; keeps = rw (ne_eqb (named.number q) 255 (named.no-event q l), named.named q l) }

    played : (ts : List Step) (st : List ℕ) (es : List Entry) (k : ℕ) → Passes p lay st ts → k + length ts ≤ length es →
        remaining p lay row (session p lay row (lent st es k) (map move_for ts)) ≡ steps_to es k ++ ts
    unfolding session moved remaining steps_to
    played [] st es k none l = sym (append-nil (map (step_in row) (take k es)))
    played (t ∷ ts) st es k (more z r) l =
        let m = numbers st t z in
        let e : Entry = entry_of p lay row st m.code m.node m.site in
        let on : step_on p lay row st m.code m.node m.site ≡ simulate p lay st t = on_step st t m.code m.node m.site m.keeps in
        let i : k < length es = omega arith in
        let kp = keep-passed p lay row st es k m.code m.node m.site i (rw on z) in
        let go : moved p lay row (lent st es k) (move_for t) ≡ lent (simulate p lay st t).state (set es k e) (suc k) = ap (moved p lay row (lent st es k)) m.is ∙ rw (kp, on) in
        ap (λ (j : Lent). remaining p lay row (session p lay row j (map move_for ts))) go
        ∙ played ts (simulate p lay st t).state (set es k e) (suc k) r (rw (length-set es k e) (omega arith))
        ∙ ap (λ (us : List Step). us ++ ts) (ap (map (step_in row)) (take-suc-set es k e i) ∙ map-append (step_in row) (take k es) (e ∷ []) ∙ ap (λ (u : Step). map (step_in row) (take k es) ++ (u ∷ [])) (kept_step st t m.code m.node m.site m.keeps))
        ∙ append_assoc (map (step_in row) (take k es)) (t ∷ []) ts

    had-with : (ts : List Step) (es : List Entry) → length (passing p lay (zeros p lay) ts) ≤ length es →
        remaining p lay row (session p lay row (begun p lay es) (map move_for (passing p lay (zeros p lay) ts))) ≡ passing p lay (zeros p lay) ts
    unfolding steps_to
    had-with ts es l = played (passing p lay (zeros p lay) ts) (zeros p lay) es 0 (passing-same p lay ts (zeros p lay)).all_pass (omega arith)

    pub all-had : (ts : List Step) → (n : ℕ) × ((es : List Entry) → n ≤ length es →
        (ms : List Move) × (passed p lay (remaining p lay row (session p lay row (begun p lay es) ms)) ≡ passed p lay ts)
        × ((q : ℕ) → heard_at p lay q (remaining p lay row (session p lay row (begun p lay es) ms)) ≡ heard_at p lay q ts))
    unfolding passed heard_at
    all-had ts =
        let same = passing-same p lay ts (zeros p lay) in (
          length (passing p lay (zeros p lay) ts),
          λ es l.
              (map move_for (passing p lay (zeros p lay) ts), rw (had-with ts es l) same.events, λ q. rw (had-with ts es l) (same.heard q)),
        )
