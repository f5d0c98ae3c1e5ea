-- Answers, picks and turned down in the terms of the code, and the rule by the number of a code. Assumes nothing.
use mathlib.Core.Path.{◌≡◌, sym, ◌∙◌}
use mathlib.Core.Bool.{Bool, true, false, ◌&&◌, not, and-true}
use mathlib.Core.List.{List}
use mathlib.Core.Logic.{⊎_elim}
use Prim.Native.Nat.{ℕ, pred, ◌≤◌}
use native.Mathlib.Omega.{arith}
use lib.Dec.{eqb, ltb}
use lib.ListN.{get_or}
use borrow.Author.Tests.{ne_eqb}
use Rattle.lists.specs.Seq.{any, up_from}
use Rattle.lists.proofs.Logic.{and_right}
use Rattle.lists.proofs.Keep.{keep_same, keep-keep}
use Rattle.lists.proofs.Members.{up_in}
use Rattle.plan.specs.Plan.{size, kind, parent, children_below, children, others, in_xor}
use Rattle.event.specs.Event.{Code, offer, abort, answered-yes, answered-no, pick, down, code_number, code_of, event_of, applies_by, applies}
use Rattle.event.proofs.CodeLaws.{two, code-back}
use Rattle.central.specs.Central.{Answer, started, is_yes, is_no, finishes_by, fails_by, allowed_by, allowed}
use Rattle.central.specs.Rule.{answer_of, state_of}
use Rattle.central.specs.Scan.{mark_in, picked_at, besides}
use Rattle.central.proofs.MarkLaws.{at-idle, at-running, at-offered}
use Rattle.central.proofs.NoteLaws.{answer-read, picked-read}

-- a conditional may answer
abbrev pub answers : List ℕ → List ℕ → ℕ → Bool
answers marks notes v = started (state_of marks notes) v && not (is_yes ((state_of marks notes).answer v)) && not (is_no ((state_of marks notes).answer v))

module _ (marks notes : List ℕ) (v : ℕ) where
  pub answer-early : mark_in 1 marks v ≡ true → false ≡ answers marks notes v
  answer-early h = rw (at-idle marks notes v, h)

  pub answer-once : mark_in 1 marks v ≡ false → {a : Answer} → a ≡ answer_of (get_or notes v 0) → (not (is_yes a) && not (is_no a)) ≡ answers marks notes v
  answer-once h e = rw (at-idle marks notes v, h, answer-read marks notes v, e)

-- node 0 is nobody's child
all-besides : (p : List ℕ) (u : ℕ) → besides 0 (children p u) ≡ children p u
unfolding besides children children_below
all-besides p u =
    keep-keep (λ c. eqb (parent p c) u) (λ c. not (eqb c 0)) (up_from 1 (pred (size p)))
    ∙ keep_same _ _ (up_from 1 (pred (size p))) (λ c i.
    let b = up_in 1 (pred (size p)) i in
    rw (ne_eqb c 0 (λ e. omega arith)) (and-true (eqb (parent p c) u)))

module _ (p marks notes : List ℕ) (v : ℕ) where
  -- u is the parent
  module _ (u : ℕ) (up : u ≡ parent p v) where
    pub pick_first : (mark_in 4 marks v && not (any (picked_at notes) (besides 0 (children p u)))) ≡ allowed_by p (state_of marks notes) pick v
    unfolding allowed_by
    pick_first = rw (at-offered marks notes v, picked-read marks notes, ← up, all-besides p u)

    pub down-later : (mark_in 4 marks v && any (picked_at notes) (besides v (children p u))) ≡ allowed_by p (state_of marks notes) down v
    unfolding allowed_by others besides
    down-later = rw (at-offered marks notes v, picked-read marks notes, ← up)

  -- an event that applies, by the number of its code
  module _ (code : ℕ) (applied : applies p (event_of code v) ≡ true) where
    pub allowed_at : (c : Code) → code ≡ code_number c → allowed_by p (state_of marks notes) c v ≡ allowed p (state_of marks notes) (event_of code v)
    unfolding allowed
    allowed_at c e = sym (rw applied (rw (e, code-back c)))

    pub allowed-offer : code ≡ 2 →
        (mark_in 2 marks v && finishes_by (kind p v) (state_of marks notes) v (children p v)) ≡ allowed p (state_of marks notes) (event_of code v)
    unfolding code_of code_number allowed_by applies applies_by
    allowed-offer e = rw (and_right (ltb v (size p)) (in_xor p v) (rw e at applied), at-running marks notes v) at (allowed_at offer e)

    pub allowed-abort : code ≡ 4 →
        (mark_in 2 marks v && fails_by (kind p v) (state_of marks notes) v (children p v)) ≡ allowed p (state_of marks notes) (event_of code v)
    unfolding code_number allowed_by
    allowed-abort e = rw (at-running marks notes v) at (allowed_at abort e)

    pub allowed-answer : 5 ≤ code → code ≤ 6 → answers marks notes v ≡ allowed p (state_of marks notes) (event_of code v)
    unfolding code_number allowed_by
    allowed-answer a b = ⊎_elim (λ e. allowed_at answered-yes e) (λ e. allowed_at answered-no e) (two 5 code a b)
