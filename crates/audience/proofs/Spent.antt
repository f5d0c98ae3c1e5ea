-- A whole run needs few messages: what a state shows bounds the messages behind it. Every event adds its hearers to what its node, or its parent,
-- shows, and that is bounded node by node. Assumes nothing.
use mathlib.Core.Path.{◌≡◌, refl, sym, ◌∙◌, ap, subst}
use mathlib.Core.Bool.{Bool, true, false, not, ◌&&◌, ◌||◌, cond}
use mathlib.Core.List.{List, [], ◌∷◌}
use mathlib.Core.Logic.{◌⊎◌, inl, inr}
use Prim.Native.Nat.{ℕ, zero, suc, pred, ◌+◌, ◌*◌, ◌≤◌, ◌<◌}
use lib.Dec.{eqb, leb}
use lib.ListN.{length, drop, length-take}
use borrow.Author.Tests.{eq-eqb, eqb-true, eqb-false, leb-true, not-true}
use native.Mathlib.Omega.{arith}
use Rattle.lists.specs.Seq.{all, any, up_from}
use Rattle.lists.specs.Member.{In}
use Rattle.lists.proofs.Logic.{cases, decided, and_left, and_right, and-join, no_bool, parts, clash}
use Rattle.lists.proofs.Members.{any-by, in-up, up_in}
use Rattle.lists.proofs.Points.{any-grows}
use Rattle.plan.specs.Plan.{kind_number, is_kind, size, kind, parent, children_below, children, above, in_xor}
use Rattle.plan.specs.declared.kinds.Kind.{Kind}
use Rattle.plan.specs.declared.kinds.Kind.TheVariants.{Serial as serial, Xor as xor, Contingency as contingency, Conditional as conditional}
use Rattle.plan.specs.Check.{Accepted}
use Rattle.plan.proofs.PlanLaws.{child-in}
use Rattle.event.specs.Event.{Code, start, offer, commit, abort, answered-yes, answered-no, pick, down, code_number, code_of, same_code, Event, at, applies_by, applies}
use Rattle.event.specs.Site.{own}
use Rattle.event.proofs.CodeLaws.{codes, code-back}
use Rattle.central.specs.Mark.{Mark, idle, running, offered, committed, failed, turned_down, mark_number, is_mark}
use Rattle.central.specs.Central.{Answer, none, said-yes, said-no, Central, fresh, mark_after, answer_after, picked_after, after, is_yes, is_no, started, allowed_by, allowed, run_from, is_run, reaches}
use Rattle.central.proofs.MarkLaws.{marks}
use Rattle.runs.proofs.Finite.{answers, bools, tested, tested_at, implied}
use Rattle.runs.proofs.Said.{ready_by, ready_of}
use Rattle.plan.proofs.KindLaws.{same_kind}
use Rattle.runs.proofs.Family.{child-xor, xor-child}
use Rattle.runs.proofs.Count.{allowed-node}
use Rattle.audience.specs.Hearers.{start_hearers, end_hearers, hearers_by, hearers}
use Rattle.audience.specs.Messages.{total, messages, messages_most}
use Rattle.audience.specs.Claim.{FewMessages}
use Rattle.audience.proofs.Closed.{own-closed-form, start-few, end-one}
use Rattle.audience.proofs.Total.{total-le, total-le-in, total-gain, total-sum, total-same, under_all}

-- of a node's end: x, it is a child of an xor; z, it is the root, of which nobody hears
ended : Bool → Bool → Mark → ℕ
ended z x idle = 0
ended z x running = 0
ended z x offered = cond z 0 (cond x 1 0)
ended z x committed = cond z 0 (cond x 2 1)
ended z x failed = cond z 0 1
ended z x turned_down = cond z 0 (cond x 2 0)

end_gain : Bool → Code → ℕ
end_gain z start = 0
end_gain z offer = 1
end_gain z commit = cond z 0 1
end_gain z abort = cond z 0 1
end_gain z answered-yes = 0
end_gain z answered-no = 0
end_gain z pick = 0
end_gain z down = 1

abbrev end_test : Code → Bool → Mark → Answer → Bool → Bool
end_test c x m a z = not (ready_by c x m a && not (x && z)) || leb (ended z x m + end_gain z c) (ended z x (mark_after c m))

end-tested : tested end_test ≡ true
unfolding all codes marks answers bools ready_by mark_after is_mark mark_number is_yes is_no ended end_gain
end-tested = refl

end-most : tested (λ c x m a z. leb (ended z x m) (cond z 0 (cond x 2 1))) ≡ true
unfolding all codes marks answers bools ended
end-most = refl

-- of an answer: q, the node is a conditional
answered : Bool → Answer → ℕ
answered q none = 0
answered q said-yes = cond q 1 0
answered q said-no = cond q 1 0

answer_gain : Bool → Code → ℕ
answer_gain q start = 0
answer_gain q offer = 0
answer_gain q commit = 0
answer_gain q abort = 0
answer_gain q answered-yes = cond q 1 0
answer_gain q answered-no = cond q 1 0
answer_gain q pick = 0
answer_gain q down = 0

abbrev answer_test : Code → Bool → Mark → Answer → Bool → Bool
answer_test c x m a q = not (ready_by c x m a) || leb (answered q a + answer_gain q c) (answered q (answer_after c a))

answer-tested : tested answer_test ≡ true
unfolding all codes marks answers bools ready_by answer_after is_mark mark_number is_yes is_no answered answer_gain
answer-tested = refl

answer-most : tested (λ c x m a q. leb (answered q a) (cond q 1 0)) ≡ true
unfolding all codes marks answers bools answered
answer-most = refl

-- of a start: n hear of it
abbrev start_test : Code → Bool → Mark → Answer → Bool → Bool
start_test c x m a k = not (ready_by c x m a) || (not (is_mark idle (mark_after c m)) && (not (same_code c start) || is_mark idle m))

start-tested : tested start_test ≡ true
unfolding all codes marks answers bools ready_by mark_after is_mark mark_number is_yes is_no same_code code_number
start-tested = refl

picked-stays : (c : Code) → picked_after c true ≡ true
unfolding picked_after
picked-stays start = refl
picked-stays offer = refl
picked-stays commit = refl
picked-stays abort = refl
picked-stays answered-yes = refl
picked-stays answered-no = refl
picked-stays pick = refl
picked-stays down = refl

bigger : (x a b : Bool) (n : ℕ) → (a ≡ true → b ≡ true) → cond (x && a) n 0 ≤ cond (x && b) n 0
bigger false a b n h = omega arith
bigger true false b n h = omega arith
bigger true true b n h = rw (h refl) (omega arith)

start-by : (n : ℕ) (i j c : Bool) → (not j && (not c || i)) ≡ true → cond (not i) n 0 + cond c n 0 ≤ cond (not j) n 0
start-by n true false true h = omega arith
start-by n true false false h = omega arith
start-by n false false true h = clash false h refl
start-by n false false false h = omega arith
start-by n i true c h = clash false h refl

start_gain : ℕ → Code → ℕ
start_gain n c = cond (same_code c start) n 0

-- what a node shows of itself: n nodes hear of its start
shown_by : ℕ → Bool → Bool → Bool → Mark → Answer → ℕ
shown_by n q z x m a = cond (not (is_mark idle m)) n 0 + answered q a + ended z x m

shown-more : (n : ℕ) (q z x : Bool) (c : Code) (m : Mark) (a : Answer) → ready_by c x m a ≡ true → not (x && z) ≡ true →
    shown_by n q z x m a + (start_gain n c + answer_gain q c + end_gain z c) ≤ shown_by n q z x (mark_after c m) (answer_after c a)
unfolding shown_by start_gain
shown-more n q z x c m a r o =
    let s = start-by n (is_mark idle m) (is_mark idle (mark_after c m)) (same_code c start) (implied (ready_by c x m a) _ (tested_at start_test start-tested c x m a q) r) in
    let b = leb-true (answered q a + answer_gain q c) (answered q (answer_after c a)) (implied (ready_by c x m a) _ (tested_at answer_test answer-tested c x m a q) r) in
    let d = leb-true (ended z x m + end_gain z c) (ended z x (mark_after c m)) (implied (ready_by c x m a && not (x && z)) _ (tested_at end_test end-tested c x m a z) (and-join _ _ r o)) in
    omega arith

-- bounds
is-pick : (c : Code) → (c ≡ pick) ⊎ (c ≡ pick → ⊥)
unfolding code_number
is-pick c = cases (decided (eqb (code_number c) 7))
    (λ h. inl (sym (code-back c) ∙ ap code_of (eqb-true (code_number c) 7 h) ∙ code-back pick))
    (λ h. inr (λ q. eqb-false (code_number c) 7 h (ap code_number q)))

answer-bound : (q : Bool) (a : Answer) → answered q a ≤ cond q 1 0
answer-bound q a = leb-true _ _ (tested_at (λ c x m a q. leb (answered q a) (cond q 1 0)) answer-most start true idle a q)

end-bound : (z x : Bool) (m : Mark) → ended z x m ≤ cond z 0 (cond x 2 1)
end-bound z x m = leb-true _ _ (tested_at (λ c x m a z. leb (ended z x m) (cond z 0 (cond x 2 1))) end-most start x m none z)

cond-most : (b : Bool) (n : ℕ) → cond b n 0 ≤ n
cond-most true n = omega arith
cond-most false n = omega arith

pick-most : (x a : Bool) (n : ℕ) → cond (x && a) n 0 ≤ cond x n 0
pick-most false a n = omega arith
pick-most true true n = omega arith
pick-most true false n = omega arith

twice : (x : Bool) (n : ℕ) → cond x 2 1 * n ≡ n + cond x n 0
twice true n = omega arith
twice false n = omega arith

up-in' : (n : ℕ) {v : ℕ} → In v (up_from 0 n) → v < n
up-in' n i = let r = up_in 0 n i in omega arith

-- the root counts nothing
below_root : (w : ℕ → ℕ) (n : ℕ) → total (λ v. cond (eqb v 0) 0 (w v)) (up_from 0 n) ≤ total w (up_from 1 (pred n))
unfolding total up_from
below_root w zero = omega arith
below_root w (suc n) = let a = total-le (λ v. cond (eqb v 0) 0 (w v)) w (λ v. less (eqb v 0) (w v)) (up_from 1 n) in omega arith
  where
    less : (b : Bool) (k : ℕ) → cond b 0 k ≤ k
    less true k = omega arith
    less false k = omega arith

module _ (p : List ℕ) where
  -- a node by itself, and as an xor of which a child is picked
  own-shown : Central → ℕ → ℕ
  own-shown s v = shown_by (length (start_hearers (kind p v) (children p v))) (is_kind conditional (kind p v)) (eqb v 0) (in_xor p v) (s.mark v) (s.answer v)

  picked-shown : Central → ℕ → ℕ
  picked-shown s v = cond (is_kind xor (kind p v) && any s.picked (children p v)) (length (children p v)) 0

  shown : Central → ℕ → ℕ
  shown s v = own-shown s v + picked-shown s v

  -- AN EVENT
  module _ (ok : Accepted p) (s : Central) (e : Event) (allow : allowed p s e ≡ true) where
    node_in : e.node < size p
    node_in = let l = allowed-node p s e allow in omega arith

    no-root : not (in_xor p e.node && eqb e.node 0) ≡ true
    no-root = ap not (no_bool (in_xor p e.node && eqb e.node 0) (λ h.
        let c = xor-child p e.node (and_left _ _ h) node_in in
        let z = eqb-true e.node 0 (and_right (in_xor p e.node) _ h) in
        omega (arith, c.low)))

    gain : ℕ
    gain = start_gain (length (start_hearers (kind p e.node) (children p e.node))) e.code
        + answer_gain (is_kind conditional (kind p e.node)) e.code + end_gain (eqb e.node 0) e.code

    own-gain : own-shown s e.node + gain ≤ own-shown (after s e) e.node
    unfolding own-shown gain after
    own-gain = rw (eq-eqb e.node e.node refl)
        (shown-more _ _ _ _ e.code (s.mark e.node) (s.answer e.node) (ready_of p s e allow) no-root)

    own_same : (w : ℕ) → eqb e.node w ≡ false → own-shown s w ≤ own-shown (after s e) w
    unfolding own-shown after
    own_same w h = rw h (omega arith)

    own-grows : (w : ℕ) → own-shown s w ≤ own-shown (after s e) w
    own-grows w = cases (decided (eqb e.node w))
        (λ h. let g = own-gain in rw (← (eqb-true e.node w h)) (omega arith))
        (λ h. own_same w h)

    pick-kept : (w : ℕ) → s.picked w ≡ true → (after s e).picked w ≡ true
    unfolding after
    pick-kept w h = cases (decided (eqb e.node w))
        (λ k. rw (k, eqb-true e.node w k, h) (picked-stays e.code))
        (λ k. rw (k, h))

    picked-grows : (w : ℕ) → picked-shown s w ≤ picked-shown (after s e) w
    unfolding picked-shown
    picked-grows w = bigger (is_kind xor (kind p w)) (any s.picked (children p w)) (any (after s e).picked (children p w)) (length (children p w))
        (any-grows s.picked (after s e).picked (children p w) pick-kept)

    shown-grows : (w : ℕ) → shown s w ≤ shown (after s e) w
    unfolding shown
    shown-grows w = let a = own-grows w in let b = picked-grows w in omega arith

    -- all but a pick
    gains-here : length (hearers p e) ≤ gain → total (shown s) (up_from 0 (size p)) + length (hearers p e) ≤ total (shown (after s e)) (up_from 0 (size p))
    unfolding shown
    gains-here l =
        total-gain (shown s) (shown (after s e)) (length (hearers p e)) shown-grows (in-up 0 (size p) e.node (omega arith) (allowed-node p s e allow))
        (let a = own-gain in let b = picked-grows e.node in omega arith)

  -- how many hear of an event, against what its node gains
  module _ (ok : Accepted p) where
    root_none : (turn : Kind) (v : ℕ) → eqb v 0 ≡ true → length (end_hearers turn (above p v) (parent p v) (children p (parent p v)) v) ≤ 0
    unfolding end_hearers above is_kind kind_number
    root_none turn v z = rw z (omega arith)

    end-gain : (turn : Kind) (v : ℕ) → length (end_hearers turn (above p v) (parent p v) (children p (parent p v)) v) ≤ cond (eqb v 0) 0 1
    end-gain turn v = cases (decided (eqb v 0))
        (λ z. let b = root_none turn v z in rw z b)
        (λ z. let b = end-one p ok turn v in rw z b)

    hear-gain : (c : Code) (v : ℕ) → applies_by c (kind p v) (in_xor p v) ≡ true → (c ≡ pick → ⊥) →
        length (hearers_by p c v) ≤ start_gain (length (start_hearers (kind p v) (children p v))) c + answer_gain (is_kind conditional (kind p v)) c + end_gain (eqb v 0) c
    unfolding hearers_by applies_by start_gain answer_gain end_gain same_code code_number
    hear-gain start v a n = omega arith
    hear-gain offer v a n = omega arith
    hear-gain commit v a n = let b = end-gain serial v in omega arith
    hear-gain abort v a n = let b = end-gain contingency v in omega arith
    hear-gain answered-yes v a n = rw a (omega (arith, length-take 1 (children p v)))
    hear-gain answered-no v a n = rw a (omega (arith, length-take 1 (drop 1 (children p v))))
    hear-gain pick v a n = absurd (n refl)
    hear-gain down v a n = omega arith

    -- a pick
    module _ (s : Central) (v : ℕ) (allow : allowed p s (at pick v) ≡ true) where
      abbrev up : ℕ
      up = parent p v

      low : v < size p
      low = let l = allowed-node p s (at pick v) allow in omega arith

      in-xor : in_xor p v ≡ true
      unfolding allowed applies applies_by
      in-xor = search parts

      child : In v (children p up)
      child = child-in p up (xor-child p v in-xor low)

      none_before : any s.picked (children p up) ≡ false
      unfolding allowed allowed_by
      none_before = not-true _ (search parts)

      one-after : any (after s (at pick v)).picked (children p up) ≡ true
      unfolding after picked_after
      one-after = any-by (after s (at pick v)).picked child (rw (eq-eqb v v refl))

      pick-gain : picked-shown s up + length (children p up) ≤ picked-shown (after s (at pick v)) up
      unfolding picked-shown
      pick-gain = rw (none_before, one-after, ← (child-xor p up v child), in-xor) (omega arith)

      up-low : up < 0 + size p
      up-low = let c = xor-child p v in-xor low in let b = ok.below v c.low low in omega arith

      gains-up : total (shown s) (up_from 0 (size p)) + length (hearers p (at pick v)) ≤ total (shown (after s (at pick v))) (up_from 0 (size p))
      unfolding shown hearers hearers_by
      gains-up = total-gain (shown s) (shown (after s (at pick v))) (length (children p up)) (shown-grows ok s (at pick v) allow)
          (in-up 0 (size p) up (omega arith) up-low)
          (let a = own-grows ok s (at pick v) allow up in let b = pick-gain in omega arith)

    gains : (s : Central) (e : Event) → allowed p s e ≡ true → total (shown s) (up_from 0 (size p)) + length (hearers p e) ≤ total (shown (after s e)) (up_from 0 (size p))
    unfolding hearers gain allowed applies
    gains s e allow = cases (is-pick e.code)
        (λ q. let z : e ≡ at pick e.node = λ i. record { code = q i; node = e.node } in
        subst (λ (f : Event). total (shown s) (up_from 0 (size p)) + length (hearers p f) ≤ total (shown (after s f)) (up_from 0 (size p))) (sym z)
        (gains-up s e.node (subst (λ (f : Event). allowed p s f ≡ true) z allow)))
        (λ n. gains-here ok s e allow (hear-gain e.code e.node (search parts) n))

    -- what a node can show
    w : ℕ → ℕ
    w c = cond (in_xor p c) 2 1

    w-children : (v : ℕ) → total w (children p v) ≡ cond (is_kind xor (kind p v)) 2 1 * length (children p v)
    unfolding w
    w-children v = total-same w (cond (is_kind xor (kind p v)) 2 1) (children p v) (λ c i. rw (child-xor p v c i))

    starts-most : (s : Central) (v : ℕ) → v < size p →
        cond (started s v) (length (start_hearers (kind p v) (children p v))) 0 + answered (is_kind conditional (kind p v)) (s.answer v) ≤ length (children p v)
    unfolding start_hearers
    starts-most s v l =
        let b = answer-bound (is_kind conditional (kind p v)) (s.answer v) in
        let f = start-few p ok (kind p v) (children p v) in
        cases (decided (is_kind conditional (kind p v)))
        (λ h. let z = same_kind conditional (kind p v) h in
        let t = ok.two v l z in
        let n : length (start_hearers (kind p v) (children p v)) ≡ 0 = rw z in
        let m = cond-most (started s v) (length (start_hearers (kind p v) (children p v))) in
        let k : cond (is_kind conditional (kind p v)) 1 0 ≤ 1 = rw h (omega arith) in
        omega arith)
        (λ h. let m = cond-most (started s v) (length (start_hearers (kind p v) (children p v))) in
        let k : cond (is_kind conditional (kind p v)) 1 0 ≤ 0 = rw h (omega arith) in
        omega arith)

    shown-most : (s : Central) (v : ℕ) → v < size p → shown s v ≤ total w (children p v) + cond (eqb v 0) 0 (w v)
    unfolding shown own-shown picked-shown shown_by w
    shown-most s v l =
        let a = starts-most s v l in
        let b = end-bound (eqb v 0) (in_xor p v) (s.mark v) in
        let c = w-children v in
        let d = pick-most (is_kind xor (kind p v)) (any s.picked (children p v)) (length (children p v)) in
        let f = twice (is_kind xor (kind p v)) (length (children p v)) in
        omega arith

    doubled : (xs : List ℕ) → total w xs + total w xs ≤ total (λ v. cond (in_xor p v) 4 2) xs
    unfolding w
    doubled xs =
        let a = total-sum w w xs in
        let b = total-le (λ v. w v + w v) (λ v. cond (in_xor p v) 4 2) (λ v. two (in_xor p v)) xs in
        omega arith
      where
        two : (b : Bool) → cond b 2 1 + cond b 2 1 ≤ cond b 4 2
        two true = omega arith
        two false = omega arith

    total-most : (s : Central) → total (shown s) (up_from 0 (size p)) ≤ messages_most p
    unfolding messages_most children children_below w
    total-most s =
        let xs : List ℕ = up_from 1 (pred (size p)) in
        let a = total-le-in (shown s) (λ v. total w (children p v) + cond (eqb v 0) 0 (w v)) (up_from 0 (size p)) (λ v i. shown-most s v (let r = up-in' (size p) i in omega arith)) in
        let b = total-sum (λ v. total w (children p v)) (λ v. cond (eqb v 0) 0 (w v)) (up_from 0 (size p)) in
        let c = under_all (parent p) w (size p) xs in
        let d = below_root w (size p) in
        let f = doubled xs in
        omega arith

    count-from : (s : Central) (es : List Event) → run_from p s es ≡ true → total (shown s) (up_from 0 (size p)) + messages p (own p) es ≤ total (shown (reaches s es)) (up_from 0 (size p))
    unfolding run_from reaches messages allowed
    count-from s [] h = omega arith
    count-from s (e ∷ es) h =
        let a : allowed p s e ≡ true = and_left _ _ h in
        let g = gains s e a in
        let r = count-from (after s e) es (and_right (allowed p s e) _ h) in
        let z = ap length (own-closed-form p ok e (and_left _ _ a)) in
        omega arith

pub few-messages : FewMessages
unfolding is_run
few-messages p ok es h = let a = count-from p ok fresh es h in let b = total-most p ok (reaches fresh es) in omega arith
