-- What a state of the central rule says of the events behind it; and that after a run this is just the run's events. Assumes nothing.
use mathlib.Core.Path.{◌≡◌, refl, sym, ◌∙◌, ap, fun_ext}
use mathlib.Core.Bool.{Bool, true, false, not, ◌&&◌, ◌||◌, cond, beq, and-false, and-true, or-false}
use mathlib.Core.List.{List, [], ◌∷◌}
use Prim.Native.Nat.{ℕ}
use lib.Dec.{eqb}
use borrow.Author.Tests.{eq-eqb, eqb-true}
use Rattle.lists.specs.Seq.{all, any}
use Rattle.lists.proofs.Logic.{and_left, and-join, parts}
use Rattle.lists.proofs.Members.{all-at}
use Rattle.plan.specs.Plan.{kind, in_xor}
use Rattle.event.specs.Event.{Code, start, offer, commit, abort, answered-yes, answered-no, pick, down, code_number, code_of, same_code, Event, same, among, applies_by, applies}
use Rattle.event.proofs.CodeLaws.{codes, in-codes, code-back}
use Rattle.event.proofs.BitLaws.{beq-true}
use Rattle.central.specs.Mark.{Mark, idle, running, offered, committed, failed, turned_down, mark_number, is_mark}
use Rattle.central.specs.Central.{Answer, none, Central, fresh, mark_after, answer_after, picked_after, after, is_yes, is_no, allowed_by, allowed, run_from, is_run, reaches}
use Rattle.central.proofs.MarkLaws.{marks}
use Rattle.runs.proofs.Finite.{answers, bools, tested, tested_at, implied}

-- x: the node is a child of an xor
unfoldable pub said_by : Code → Bool → Mark → Answer → Bool → Bool
said_by start x m a k = not (is_mark idle m)
said_by offer x m a k = is_mark offered m || is_mark turned_down m || (x && is_mark committed m)
said_by commit x m a k = is_mark committed m
said_by abort x m a k = is_mark failed m
said_by answered-yes x m a k = is_yes a
said_by answered-no x m a k = is_no a
said_by pick x m a k = k
said_by down x m a k = is_mark turned_down m

unfoldable pub said : List ℕ → Central → Event → Bool
said p s e = said_by e.code (in_xor p e.node) (s.mark e.node) (s.answer e.node) (s.picked e.node)

-- what an event needs of its own node
unfoldable pub ready_by : Code → Bool → Mark → Answer → Bool
ready_by start x m a = is_mark idle m
ready_by offer x m a = x && is_mark running m
ready_by commit x m a = cond x (is_mark offered m) (is_mark running m)
ready_by abort x m a = is_mark running m
ready_by answered-yes x m a = not (is_mark idle m) && not (is_yes a) && not (is_no a)
ready_by answered-no x m a = not (is_mark idle m) && not (is_yes a) && not (is_no a)
ready_by pick x m a = x && is_mark offered m
ready_by down x m a = x && is_mark offered m

abbrev say_test : Code → Code → Bool → Mark → Answer → Bool → Bool
say_test d c x m a k =
    not (ready_by c x m a) || beq (said_by d x (mark_after c m) (answer_after c a) (picked_after c k)) (same_code c d || said_by d x m a k)

say-tested : all (λ d. tested (say_test d)) codes ≡ true
unfolding all codes marks answers bools ready_by said_by mark_after answer_after picked_after same_code code_number is_mark mark_number is_yes is_no
say-tested = refl

-- an event adds itself, and nothing else of its node, to what the node says
say-here : (d c : Code) (x : Bool) (m : Mark) (a : Answer) (k : Bool) → ready_by c x m a ≡ true →
    said_by d x (mark_after c m) (answer_after c a) (picked_after c k) ≡ (same_code c d || said_by d x m a k)
say-here d c x m a k h =
    beq-true _ _ (implied (ready_by c x m a) _ (tested_at (say_test d) (all-at (λ d. tested (say_test d)) (in-codes d) say-tested) c x m a k) h)

pub ready_of : (p : List ℕ) (s : Central) (e : Event) → allowed p s e ≡ true →
    ready_by e.code (in_xor p e.node) (s.mark e.node) (s.answer e.node) ≡ true
unfolding allowed applies allowed_by applies_by ready_by
ready_of p s e h = go e.code e.node (search parts) (search parts)
  where
    choose : (x a b c d : Bool) → cond x (a && b) (c && d) ≡ true → cond x a c ≡ true
    choose true a b c d h = and_left a b h
    choose false a b c d h = and_left c d h

    go : (c : Code) (v : ℕ) → applies_by c (kind p v) (in_xor p v) ≡ true → allowed_by p s c v ≡ true →
        ready_by c (in_xor p v) (s.mark v) (s.answer v) ≡ true
    go start v a h = search parts
    go offer v a h = search parts
    go commit v a h = choose (in_xor p v) _ _ _ _ h
    go abort v a h = search parts
    go answered-yes v a h = h
    go answered-no v a h = h
    go pick v a h = search (parts, and-join)
    go down v a h = search (parts, and-join)

pub said-after : (p : List ℕ) (s : Central) (e f : Event) → allowed p s e ≡ true → said p (after s e) f ≡ (same e f || said p s f)
unfolding said after same
said-after p s e f h = go (eqb e.node f.node) refl
  where
    go : (t : Bool) → eqb e.node f.node ≡ t →
        said_by f.code (in_xor p f.node) (cond t (mark_after e.code (s.mark e.node)) (s.mark f.node))
        (cond t (answer_after e.code (s.answer e.node)) (s.answer f.node))
        (cond t (picked_after e.code (s.picked e.node)) (s.picked f.node))
        ≡ ((same_code e.code f.code && t) || said_by f.code (in_xor p f.node) (s.mark f.node) (s.answer f.node) (s.picked f.node))
    go true q = rw (and-true, ← (eqb-true e.node f.node q)) (say-here f.code e.code _ _ _ _ (ready_of p s e h))
    go false q = rw and-false

or_swap : (a b c : Bool) → (a || (b || c)) ≡ (b || a || c)
or_swap true true c = refl
or_swap true false c = refl
or_swap false true c = refl
or_swap false false c = refl

said-from : (p : List ℕ) (s : Central) (es : List Event) (f : Event) → run_from p s es ≡ true →
    said p (reaches s es) f ≡ (among es f || said p s f)
unfolding run_from reaches among any
said-from p s [] f h = refl
said-from p s (e ∷ es) f h =
    said-from p (after s e) es f (search parts)
    ∙ ap (λ (b : Bool). among es f || b) (said-after p s e f (search parts))
    ∙ or_swap (among es f) (same e f) (said p s f)

pub said-fresh : (p : List ℕ) (f : Event) → said p fresh f ≡ false
unfolding said fresh said_by is_mark mark_number is_yes is_no
said-fresh p f = go f.code (in_xor p f.node)
  where
    go : (c : Code) (x : Bool) → said_by c x idle none false ≡ false
    go start x = refl
    go offer x = and-false x
    go commit x = refl
    go abort x = refl
    go answered-yes x = refl
    go answered-no x = refl
    go pick x = refl
    go down x = refl

-- the events of a run are those that its last state says
pub history : (p : List ℕ) (es : List Event) (f : Event) → is_run p es ≡ true → among es f ≡ said p (reaches fresh es) f
unfolding is_run
history p es f h = sym (said-from p fresh es f h ∙ (rw (said-fresh p f, or-false)))

pub happened : (p : List ℕ) (es : List Event) → is_run p es ≡ true → among es ≡ said p (reaches fresh es)
happened p es h = fun_ext (λ f. history p es f h)

pub same-event : (e f : Event) → same e f ≡ true → e ≡ f
unfolding same same_code
same-event e f h =
    let q : e.code ≡ f.code =
    sym (code-back e.code) ∙ ap code_of (eqb-true (code_number e.code) (code_number f.code) (search parts)) ∙ code-back f.code in
    let r : e.node ≡ f.node = eqb-true e.node f.node (search parts) in
    λ i. record { code = q i; node = r i }

pub same_self : (e : Event) → same e e ≡ true
unfolding same same_code
same_self e = and-join _ _ (eq-eqb (code_number e.code) (code_number e.code) refl) (eq-eqb e.node e.node refl)
