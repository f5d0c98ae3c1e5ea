-- The tables of specs/Pass.antt and specs/Values.antt by the kind, the end and the mark. Assumes nothing.
use Rattle.std.specs.Prelude.{IsErrAnd}
use Rattle.std.proofs.lemmas.Result.{err_from_is_err_and}
use Rattle.fault.specs.declared.Fault.{Fault}
use Rattle.std.proofs.Common.{Result, Err, ap, ◌≡◌, ℕ, suc, ◌+◌, ◌≤◌, ◌<◌, Bool, true, false, true≢false, cond, ◌&&◌, ◌⊎◌, refl, sym, ◌∙◌, ⊎_elim, eqb, eq-eqb, ne_eqb, add-one, arith}
use Rattle.std.proofs.Math.Bool.{and-false, false≢true}
use Rattle.lists.specs.Seq.{up_from}
use Rattle.lists.proofs.Between.{between}
use denote.Enum.Bare.{sameb}
use Rattle.plan.specs.Plan.{kind_number, is_kind}
use Rattle.plan.specs.declared.kinds.Kind.{Kind}
use Rattle.plan.specs.declared.kinds.Kind.TheVariants.{Task as task, Serial as serial, And as and, Or as or, Xor as xor, Contingency as contingency, Conditional as conditional, Waiting as waiting}
use Rattle.plan.specs.contracts.kinds.Kind.{the_type as kinds}
use Rattle.pass.specs.declared.End.{End}
use Rattle.pass.specs.declared.End.TheVariants.{Works, Breaks}
use Rattle.pass.specs.contracts.End.{the_type as ends}
use Rattle.pass.specs.declared.Mark.{Mark}
use Rattle.pass.specs.declared.Mark.TheVariants.{Committed, Failed, TurnedDown}
use Rattle.pass.specs.contracts.Mark.{the_type as marks}
use Rattle.pass.specs.Pass.{good_mark, child_mark, one_or_two, bad_answer, nothing}
use Rattle.pass.proofs.StateLaws.{end-fault}
use Rattle.pass.specs.Values.{end_number, mark_byte, outcome_of, tally_of, so_far, comes_to, says_no, done_by, ends_as}

-- what `==` says of a kind
pub task-told : (k : Kind) (b : Bool) → b ≡ sameb kinds k task → b ≡ is_kind task k
unfolding is_kind kind_number
task-told task b e = e
task-told serial b e = e
task-told and b e = e
task-told or b e = e
task-told xor b e = e
task-told contingency b e = e
task-told conditional b e = e
task-told waiting b e = e

pub not-task : (k : Kind) (b : Bool) → b ≡ sameb kinds k task → b ≡ false → k ≡ task → ⊥
not-task k b e f g = let z : b ≡ true = rw g at e in true≢false (sym z ∙ f)

pub xor-told : (k : Kind) (b : Bool) → b ≡ sameb kinds k xor → b ≡ is_kind xor k
unfolding is_kind kind_number
xor-told task b e = e
xor-told serial b e = e
xor-told and b e = e
xor-told or b e = e
xor-told xor b e = e
xor-told contingency b e = e
xor-told conditional b e = e
xor-told waiting b e = e

pub end-few : (e : End) → end_number e ≤ 4
end-few Works = omega arith
end-few Breaks = omega arith

-- a `?` hands on the end's fault
pub handed : {T : Type 0} (r : Result T Fault) (e : Fault) → IsErrAnd r (λ y. y ≡ e) → r ≡ Err e
handed r e h = let q = err_from_is_err_and r h in q.1 ∙ ap Err q.2

-- an answer that is read, and one that is free
module _ (a : ℕ) where
  one-two : 1 ≤ a → a < 3 → ◌≡◌ {A = ℕ} 0 (cond (one_or_two a) 0 13)
  unfolding one_or_two up_from
  one-two l h = between (λ a. 0) (λ a. cond (one_or_two a) 0 13) 1 2 refl a l h

  wrong : (a ≡ 1 → ⊥) → (a ≡ 2 → ⊥) → ◌≡◌ {A = ℕ} 13 (cond (one_or_two a) 0 13)
  unfolding one_or_two
  wrong n m = rw (ne_eqb a 1 n, ne_eqb a 2 m)

  pub answer-right : (k : Kind) → 1 ≤ a → a < 3 → 0 ≡ bad_answer k a
  unfolding bad_answer
  answer-right task l h = one-two l h
  answer-right serial l h = refl
  answer-right and l h = refl
  answer-right or l h = refl
  answer-right xor l h = refl
  answer-right contingency l h = refl
  answer-right conditional l h = one-two l h
  answer-right waiting l h = refl

  pub answer-wrong : (k : Kind) → (k ≡ task) ⊎ (k ≡ conditional) → (a ≡ 1 → ⊥) → (a ≡ 2 → ⊥) → 13 ≡ bad_answer k a
  unfolding bad_answer
  answer-wrong k r n m = ⊎_elim (λ e. rw e (wrong n m)) (λ e. rw e (wrong n m)) r

  pub answer-free : (k : Kind) → (k ≡ task → ⊥) → (k ≡ conditional → ⊥) → 0 ≡ bad_answer k a
  unfolding bad_answer
  answer-free task n m = absurd (n refl)
  answer-free serial n m = refl
  answer-free and n m = refl
  answer-free or n m = refl
  answer-free xor n m = refl
  answer-free contingency n m = refl
  answer-free conditional n m = absurd (m refl)
  answer-free waiting n m = refl

pub first-works : (k : Kind) → (k ≡ serial) ⊎ (k ≡ and) ⊎ (k ≡ waiting) → 3 ≡ so_far k nothing
unfolding so_far nothing
first-works k r = ⊎_elim (λ e. rw e) (λ s. ⊎_elim (λ e. rw e) (λ e. rw e) s) r

pub first-breaks : (k : Kind) → (k ≡ serial → ⊥) → (k ≡ and → ⊥) → (k ≡ waiting → ⊥) → 4 ≡ so_far k nothing
unfolding so_far nothing
first-breaks task n m l = refl
first-breaks serial n m l = absurd (n refl)
first-breaks and n m l = absurd (m refl)
first-breaks or n m l = refl
first-breaks xor n m l = refl
first-breaks contingency n m l = refl
first-breaks conditional n m l = refl
first-breaks waiting n m l = absurd (l refl)

pub no-other : (k : Kind) (a : ℕ) → (k ≡ conditional → ⊥) → false ≡ says_no k a
unfolding says_no is_kind kind_number
no-other task a n = refl
no-other serial a n = refl
no-other and a n = refl
no-other or a n = refl
no-other xor a n = refl
no-other contingency a n = refl
no-other conditional a n = absurd (n refl)
no-other waiting a n = refl

-- behind a child that ended as e
pub done-serial : (e : End) (a : ℕ) (b : Bool) → b ≡ sameb ends e Breaks → b ≡ done_by serial a (end_number e)
unfolding done_by is_kind kind_number
done-serial Works a b e = e
done-serial Breaks a b e = e

pub done-contingency : (e : End) (a : ℕ) (b : Bool) → b ≡ sameb ends e Works → b ≡ done_by contingency a (end_number e)
unfolding done_by is_kind kind_number
done-contingency Works a b e = e
done-contingency Breaks a b e = e

pub done-never : (k : Kind) (a o : ℕ) → (k ≡ serial → ⊥) → (k ≡ contingency → ⊥) → (k ≡ conditional → ⊥) → false ≡ done_by k a o
unfolding done_by is_kind kind_number
done-never task a o n m l = refl
done-never serial a o n m l = absurd (n refl)
done-never and a o n m l = refl
done-never or a o n m l = refl
done-never xor a o n m l = refl
done-never contingency a o n m l = absurd (m refl)
done-never conditional a o n m l = absurd (l refl)
done-never waiting a o n m l = refl

-- n is how many children are before it
module _ (a n : ℕ) where
  pub mark-picked : n + 1 ≡ a → 3 ≡ child_mark xor a (tally_of n) (outcome_of 3)
  unfolding child_mark good_mark tally_of outcome_of is_kind kind_number
  mark-picked e = rw (eq-eqb (suc n) a (sym (add-one n) ∙ e))

  pub mark-down : (n + 1 ≡ a → ⊥) → 5 ≡ child_mark xor a (tally_of n) (outcome_of 3)
  unfolding child_mark good_mark tally_of outcome_of is_kind kind_number
  mark-down e = rw (ne_eqb (suc n) a (λ q. e (add-one n ∙ q)))

  pub mark-plain : (k : Kind) → (k ≡ xor → ⊥) → 3 ≡ child_mark k a (tally_of n) (outcome_of 3)
  unfolding child_mark good_mark tally_of outcome_of is_kind kind_number
  mark-plain task m = refl
  mark-plain serial m = refl
  mark-plain and m = refl
  mark-plain or m = refl
  mark-plain xor m = absurd (m refl)
  mark-plain contingency m = refl
  mark-plain conditional m = refl
  mark-plain waiting m = refl

  pub mark-fault : (k : Kind) (o : ℕ) → 4 < o → 0 ≡ child_mark k a (tally_of n) (outcome_of o)
  unfolding child_mark
  mark-fault k o l = rw (end-fault o l)

-- the state after a child
pub comes-down : (s e : Mark) → (e ≡ Failed → ⊥) → mark_byte e ≡ comes_to (mark_byte s) (mark_byte e) 5
unfolding comes_to
comes-down s Committed n = refl
comes-down s Failed n = absurd (n refl)
comes-down s TurnedDown n = refl

pub comes-same : (s e m : Mark) → (m ≡ TurnedDown → ⊥) → sameb marks m s ≡ true → mark_byte e ≡ comes_to (mark_byte s) (mark_byte e) (mark_byte m)
unfolding comes_to
comes-same Committed e Committed n q = refl
comes-same Failed e Failed n q = refl
comes-same s e TurnedDown n q = absurd (n refl)
comes-same Failed e Committed n q = absurd (false≢true q)
comes-same TurnedDown e Committed n q = absurd (false≢true q)
comes-same Committed e Failed n q = absurd (false≢true q)
comes-same TurnedDown e Failed n q = absurd (false≢true q)

pub comes-other : (s e m : Mark) → (m ≡ TurnedDown → ⊥) → sameb marks m s ≡ false → mark_byte m ≡ comes_to (mark_byte s) (mark_byte e) (mark_byte m)
unfolding comes_to
comes-other s e TurnedDown n q = absurd (n refl)
comes-other Committed e Committed n q = absurd (true≢false q)
comes-other Failed e Failed n q = absurd (true≢false q)
comes-other Failed e Committed n q = refl
comes-other TurnedDown e Committed n q = refl
comes-other Committed e Failed n q = refl
comes-other TurnedDown e Failed n q = refl

-- the end of a block
module _ (k : Kind) (a : ℕ) where
  pub ends-picked : 3 ≡ ends_as k a 3
  unfolding ends_as
  ends-picked = rw (and-false (is_kind xor k))

  pub ends-empty : (is_kind xor k ≡ false) ⊎ (a ≡ 0) → 4 ≡ ends_as k a 4
  unfolding ends_as
  ends-empty r = go (is_kind xor k) r
    where
      go : (b : Bool) → (b ≡ false) ⊎ (a ≡ 0) → ◌≡◌ {A = ℕ} 4 (cond (b && true) (cond (eqb a 0) 4 14) 4)
      go false r = refl
      go true r = ⊎_elim (λ e. absurd (true≢false e)) (λ e. rw e) r

  pub ends-wrong : is_kind xor k ≡ true → (a ≡ 0 → ⊥) → 14 ≡ ends_as k a 4
  unfolding ends_as
  ends-wrong x n = rw (x, ne_eqb a 0 n)

  pub ends-down : k ≡ xor → 14 ≡ ends_as k a 5
  unfolding ends_as is_kind kind_number
  ends-down x = rw x
