-- The state that advanced bytes stand for is the state after the event, node by node. Assumes nothing.
use mathlib.Core.Path.{◌≡◌, refl, sym, ap, ◌∙◌, fun_ext}
use mathlib.Core.Bool.{Bool, true, false, cond, ◌&&◌, not}
use mathlib.Core.List.{List}
use Prim.Native.Nat.{ℕ, ◌<◌}
use native.Mathlib.Omega.{arith}
use lib.Dec.{eqb}
use lib.ListN.{length, get_or, set}
use lib.Seq.{get_or-set_same, get_or-set_other}
use borrow.Author.Tests.{eqb-true, eqb-false, ltb-true, not-true}
use Rattle.lists.proofs.Logic.{cases, decided, and_left, and_right}
use Rattle.plan.specs.Plan.{size}
use Rattle.event.specs.Event.{Code, start, offer, commit, abort, answered-yes, answered-no, pick, down, code_number, same_code, applies}
use Rattle.event.specs.Bit.{has_bit, with_bit}
use Rattle.event.proofs.BitLaws.{with-bit}
use Rattle.central.specs.Mark.{Mark, running, offered, committed, failed, turned_down, mark_number, mark_of}
use Rattle.central.specs.Central.{none, said-yes, said-no, Central, update, mark_after, answer_after, picked_after, after, is_yes, started, allowed_by, allowed}
use Rattle.central.specs.Rule.{answer_of, state_of, noted, marks_after, notes_after}
use Rattle.central.specs.Replay.{AdvanceExact}
use Rattle.central.proofs.MarkLaws.{mark-back}

-- a function that changed at v only
update-by : {A : Type 0} (f g : ℕ → A) (v : ℕ) (x : A) → g v ≡ x → ((w : ℕ) → (w ≡ v → ⊥) → g w ≡ f w) → g ≡ update f v x
update-by {A} f g v x here other = fun_ext (λ w. cases (decided (eqb v w))
    (λ e. rw e (ap g (sym (eqb-true v w e)) ∙ here))
    (λ e. rw e (other w (λ q. eqb-false v w e (sym q)))))

pub state-by : (s t : Central) → s.mark ≡ t.mark → s.answer ≡ t.answer → s.picked ≡ t.picked → s ≡ t
state-by s t m a k = λ i. record { mark = m i; answer = a i; picked = k i }

-- a note byte with a bit more
module _ (b : ℕ) (small : b < 256) where
  with-yes : answer_of (with_bit b (code_number answered-yes)) ≡ said-yes
  unfolding answer_of same_code code_number
  with-yes = rw (with-bit answered-yes answered-yes b small)

  with-no : has_bit b (code_number answered-yes) ≡ false → answer_of (with_bit b (code_number answered-no)) ≡ said-no
  unfolding answer_of same_code code_number
  with-no h = rw (with-bit answered-no answered-yes b small, h, with-bit answered-no answered-no b small)

  with-pick : answer_of (with_bit b (code_number pick)) ≡ answer_of b
  unfolding answer_of same_code code_number
  with-pick = rw (with-bit pick answered-yes b small, with-bit pick answered-no b small)

-- what the bytes of v say after an event of v
module _ (v : ℕ) (marks : List ℕ) (l : v < length marks) where
  new : (m : Mark) → mark_of (get_or (set marks v (mark_number m)) v 0) ≡ m
  new m = ap mark_of (get_or-set_same marks v (mark_number m) 0 l) ∙ mark-back m

  mark-here : (c : Code) → mark_of (get_or (marks_after c v marks) v 0) ≡ mark_after c (mark_of (get_or marks v 0))
  unfolding marks_after noted mark_after
  mark-here start = new running
  mark-here offer = new offered
  mark-here commit = new committed
  mark-here abort = new failed
  mark-here answered-yes = refl
  mark-here answered-no = refl
  mark-here pick = refl
  mark-here down = new turned_down

module _ (v : ℕ) (notes : List ℕ) (l : v < length notes) (small : get_or notes v 0 < 256) where
  changed : {A : Type 0} (f : ℕ → A) (c : Code) → f (get_or (set notes v (with_bit (get_or notes v 0) (code_number c))) v 0) ≡ f (with_bit (get_or notes v 0) (code_number c))
  changed f c = ap f (get_or-set_same notes v (with_bit (get_or notes v 0) (code_number c)) 0 l)

  answer-here : (c : Code) → (c ≡ answered-no → has_bit (get_or notes v 0) (code_number answered-yes) ≡ false) →
      answer_of (get_or (notes_after c v notes) v 0) ≡ answer_after c (answer_of (get_or notes v 0))
  unfolding notes_after noted answer_after same_code code_number
  answer-here start h = refl
  answer-here offer h = refl
  answer-here commit h = refl
  answer-here abort h = refl
  answer-here answered-yes h = changed answer_of answered-yes ∙ with-yes (get_or notes v 0) small
  answer-here answered-no h = changed answer_of answered-no ∙ with-no (get_or notes v 0) small (h refl)
  answer-here pick h = changed answer_of pick ∙ with-pick (get_or notes v 0) small
  answer-here down h = refl

  picked-here : (c : Code) → has_bit (get_or (notes_after c v notes) v 0) (code_number pick) ≡ picked_after c (has_bit (get_or notes v 0) (code_number pick))
  unfolding notes_after noted picked_after same_code code_number
  picked-here start = refl
  picked-here offer = refl
  picked-here commit = refl
  picked-here abort = refl
  picked-here answered-yes = changed (λ b. has_bit b 7) answered-yes ∙ with-bit answered-yes pick (get_or notes v 0) small
  picked-here answered-no = changed (λ b. has_bit b 7) answered-no ∙ with-bit answered-no pick (get_or notes v 0) small
  picked-here pick = changed (λ b. has_bit b 7) pick ∙ with-bit pick pick (get_or notes v 0) small
  picked-here down = refl

-- the bytes of other nodes stay
module _ (c : Code) (v : ℕ) (s : List ℕ) where
  pub marks-by : (P : List ℕ → Type 0) → P s → ((m : Mark) → P (set s v (mark_number m))) → P (marks_after c v s)
  unfolding marks_after
  marks-by P old new = go (noted c)
    where
      go : (b : Bool) → P (cond b s (set s v (mark_number (mark_after c (mark_of (get_or s v 0))))))
      go true = old
      go false = new _

  pub notes-by : (P : List ℕ → Type 0) → P s → P (set s v (with_bit (get_or s v 0) (code_number c))) → P (notes_after c v s)
  unfolding notes_after
  notes-by P old new = go (noted c)
    where
      go : (b : Bool) → P (cond b (set s v (with_bit (get_or s v 0) (code_number c))) s)
      go true = new
      go false = old

  module _ (w : ℕ) (other : w ≡ v → ⊥) where
    pub mark-other : get_or (marks_after c v s) w 0 ≡ get_or s w 0
    mark-other = marks-by (λ m. get_or m w 0 ≡ get_or s w 0) refl (λ m. get_or-set_other s v w (mark_number m) 0 other)

    pub note-other : get_or (notes_after c v s) w 0 ≡ get_or s w 0
    note-other = notes-by (λ n. get_or n w 0 ≡ get_or s w 0) refl (get_or-set_other s v w _ 0 other)

-- who answers no has not answered yes
yes-bit : (b : ℕ) → is_yes (answer_of b) ≡ has_bit b (code_number answered-yes)
unfolding answer_of is_yes
yes-bit b = go (has_bit b (code_number answered-yes)) (has_bit b (code_number answered-no))
  where
    go : (y n : Bool) → is_yes (cond y said-yes (cond n said-no none)) ≡ y
    go true n = refl
    go false true = refl
    go false false = refl

not_yes : (p marks notes : List ℕ) (v : ℕ) → allowed_by p (state_of marks notes) answered-no v ≡ true → has_bit (get_or notes v 0) (code_number answered-yes) ≡ false
unfolding allowed_by state_of
not_yes p marks notes v h =
    let open-yet = and_left (started (state_of marks notes) v && not (is_yes (answer_of (get_or notes v 0)))) _ h in
    sym (yes-bit (get_or notes v 0)) ∙ not-true _ (and_right (started (state_of marks notes) v) _ open-yet)

pub advance-exact : AdvanceExact
unfolding allowed applies after state_of
advance-exact p marks notes e long long' small h =
    let c = e.code in
    let v = e.node in
    let l = ltb-true e.node (size p) (and_left _ _ (and_left _ _ h)) in
    let can = and_right (applies p e) _ h in
    state-by _ _
    (update-by _ _ _ _ (mark-here v marks (omega arith) c) (λ w q. ap mark_of (mark-other c v marks w q)))
    (update-by _ _ _ _ (answer-here v notes (omega arith) (small v) c (λ q. not_yes p marks notes v (rw q at can))) (λ w q. ap answer_of (note-other c v notes w q)))
    (update-by _ _ _ _ (picked-here v notes (omega arith) (small v) c) (λ w q. ap (λ b. has_bit b (code_number pick)) (note-other c v notes w q)))
