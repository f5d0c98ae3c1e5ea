-- The pass's own numbers are 0, 13 and 14: a fault is a node's own, before or after its children, or one of theirs. Assumes nothing.
use mathlib.Core.Path.{◌≡◌, refl}
use mathlib.Core.Bool.{Bool, true, false, cond, ◌&&◌, not}
use mathlib.Core.List.{List, [], ◌∷◌}
use Prim.Native.Nat.{ℕ, zero, suc}
use native.Mathlib.Omega.{arith}
use borrow.Author.Tests.{ltb-true, eqb-false, not-true}
use lib.Dec.{eqb, ltb}
use lib.ListN.{get_or}
use Rattle.lists.proofs.Logic.{and_left, and_right}
use Rattle.plan.specs.Plan.{kind, children}
use Rattle.plan.specs.declared.kinds.Kind.{Kind}
use Rattle.plan.specs.declared.kinds.Kind.TheVariants.{Task as task, Serial as serial, And as and, Or as or, Xor as xor, Contingency as contingency, Conditional as conditional, Waiting as waiting}
use Rattle.pass.specs.Pass.{Outcome, works, breaks, fault, Tally, one_or_two, bad_answer, bad_pick, closes, goes, skip, note, ending, end_of, Settled, Walked, nothing, unwalked, child_settled, meet_by, meet, walk, close, settle_if, settle_by, settle, number_of, pass_of, pass}
use Rattle.refusals.specs.Claim.{Later}
use Rattle.refusals.proofs.ChoiceLaws.{choice}

pub none-later : Later 0
none-later l = absurd (omega arith)

-- above 7, and not 22
pub later : (n : ℕ) → (ltb 7 n && not (eqb n 22)) ≡ true → Later n
later n h l = (ltb-true 7 n (and_left _ _ h), eqb-false n 22 (not-true _ (and_right (ltb 7 n) _ h)))

answer-later : (k : Kind) (a : ℕ) → Later (bad_answer k a)
unfolding bad_answer
answer-later task a = choice Later (one_or_two a) 0 13 (λ e. none-later) (λ e. later 13 refl)
answer-later serial a = none-later
answer-later and a = none-later
answer-later or a = none-later
answer-later xor a = none-later
answer-later contingency a = none-later
answer-later conditional a = choice Later (one_or_two a) 0 13 (λ e. none-later) (λ e. later 13 refl)
answer-later waiting a = none-later

pick-later : (k : Kind) (a : ℕ) (t : Tally) → Later (bad_pick k a t)
unfolding bad_pick
pick-later task a t = none-later
pick-later serial a t = none-later
pick-later and a t = none-later
pick-later or a t = none-later
pick-later xor a t = choice Later (cond t.worked t.chosen (eqb a 0)) 0 14 (λ e. none-later) (λ e. later 14 refl)
pick-later contingency a t = none-later
pick-later conditional a t = none-later
pick-later waiting a t = none-later

abbrev Fine : Outcome → Type 0
Fine o = Later (number_of o)

ending-later : (w x : ℕ) (b : Bool) → Later w → Later x → Fine (ending w x b)
unfolding ending number_of
ending-later w x b h k =
    choice Fine (eqb w 0) (cond (eqb x 0) (cond b works breaks) (fault x)) (fault w)
    (λ e. choice Fine (eqb x 0) (cond b works breaks) (fault x) (λ e. choice Fine b works breaks (λ e. none-later) (λ e. none-later)) (λ e. k))
    (λ e. h)

note-later : (a : ℕ) (t : Tally) (o : Outcome) → Later t.wrong → Fine o → Later (note a t o).wrong
unfolding note number_of
note-later a t works h k = h
note-later a t breaks h k = h
note-later a t (fault n) h k = k

-- a block whose children's numbers are fine
module _ (f : ℕ → List ℕ → Settled) (fine : (c : ℕ) (m : List ℕ) → Fine (f c m).outcome) (k : Kind) (a : ℕ) where
  met-later : (b : Bool) (w : Walked) (c : ℕ) → Later w.tally.wrong → Later (meet_by b f k a w c).tally.wrong
  unfolding meet_by child_settled skip
  met-later true w c h = note-later a w.tally (f c w.marks).outcome h (fine c w.marks)
  met-later false w c h = h

  walk-later : (cs : List ℕ) (w : Walked) → Later w.tally.wrong → Later (walk f k a cs w).tally.wrong
  unfolding walk meet
  walk-later [] w h = h
  walk-later (c ∷ cs) w h = walk-later cs (meet f k a w c) (met-later (goes k a w.tally) w c h)

  settled-later : (b : Bool) (cs m : List ℕ) → Fine (settle_if b k a f cs m).outcome
  unfolding settle_if close end_of unwalked nothing number_of
  settled-later true cs m =
      let t = (walk f k a cs (unwalked m)).tally in
      ending-later t.wrong (bad_pick k a t) (closes k a t) (walk-later cs (unwalked m) none-later) (pick-later k a t)
  settled-later false cs m = answer-later k a

settle-later : (p a : List ℕ) (fuel v : ℕ) (m : List ℕ) → Fine (settle p a fuel v m).outcome
unfolding settle settle_by number_of
settle-later p a zero v m = none-later
settle-later p a (suc fuel) v m =
    settled-later (λ c m'. settle p a fuel c m') (λ c m'. settle-later p a fuel c m') (kind p v) (get_or a v 0) (eqb (bad_answer (kind p v) (get_or a v 0)) 0) (children p v) m

pub pass-later : (p a : List ℕ) → Later (pass p a).number
unfolding pass pass_of
pass-later p a = settle-later p a _ 0 _
