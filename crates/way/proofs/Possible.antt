-- Where answers are fixed in part: the root can get a mark if and only if free answers that fit lead there. From the answers to `can` node
-- by node; and back by a choice at every node, from the root down. Assumes nothing.
use mathlib.Core.Path.{◌≡◌, refl, sym, ◌∙◌, ap}
use mathlib.Core.Bool.{Bool, true, false, cond}
use mathlib.Core.List.{List}
use mathlib.Core.Logic.{◌⊎◌, inl, inr}
use Prim.Native.Nat.{ℕ, zero, suc, ◌+◌, ◌≤◌, ◌<◌}
use lib.Dec.{eqb, ltb}
use lib.ListN.{get_or, length}
use borrow.Author.Tests.{eqb-true, eqb-false, ne_eqb, lt-ltb, ltb-true}
use native.Mathlib.Omega.{arith}
use Rattle.lists.specs.Seq.{table}
use Rattle.lists.specs.Member.{In}
use Rattle.lists.proofs.Logic.{cases, decided, clash, and_left, and_right, and-join}
use Rattle.lists.proofs.Members.{all-at, all-by}
use Rattle.lists.proofs.Table.{table_at, table-length}
use Rattle.plan.specs.Plan.{kind, children, parent, size}
use Rattle.plan.specs.declared.kinds.Kind.{Kind}
use Rattle.plan.specs.Check.{Accepted}
use Rattle.plan.proofs.PlanLaws.{child-of, rising-children}
use Rattle.plan.proofs.AcceptedLaws.{child-between, parent-child}
use Rattle.pass.specs.Pass.{Outcome, works, breaks, nothing, bad_answer, end_of, number_of, root_mark, pass}
use Rattle.pass_nodes.specs.Nodes.{tallied, end_by, end_at, mark_among, gives, pass_mark}
use Rattle.pass_nodes.proofs.EndLaws.{end_clean}
use Rattle.pass_nodes.proofs.Main.{pass-by-nodes}
use Rattle.pass_nodes.proofs.ReachedLaws.{end_of_mark, reached, node, child-on, child-off, gives-is}
use Rattle.way.specs.Can.{works_by, breaks_by, can_by, can_at}
use Rattle.way.proofs.CanLaws.{can-is}
use Rattle.way.proofs.ChoiceLaws.{Choice, Family, works-choice, choice-works, breaks-choice, choice-breaks}
use Rattle.way.proofs.AlongLaws.{along, may_end-by}

family : (p : List ℕ) → Accepted p → (v : ℕ) → v < size p → Family (kind p v) (children p v)
family p ok v l = record { tasks = ok.tasks v l; two = ok.two v l; most = ok.most v l }

-- can_by for a mark other than 0
module _ (m : ℕ) (fits : ℕ → Bool) (can : ℕ → ℕ → Bool) (k : Kind) (cs : List ℕ) (fam : Family k cs) (free : (x : ℕ) × (x < 256) × (fits x ≡ true)) (nz : m ≡ 0 → ⊥) where
  by-choice : can_by m fits can k cs ≡ true → Choice fits can k cs (end_of_mark m)
  unfolding can_by end_of_mark
  by-choice h = go (eqb m 4) (rw (ne_eqb m 0 nz) at h)
    where
      go : (b : Bool) → cond b (breaks_by fits can k cs) (works_by fits can k cs) ≡ true → Choice fits can k cs (cond b breaks works)
      go true q = breaks-choice fits can cs k fam free q
      go false q = works-choice fits can cs k fam free q

  choice-by : Choice fits can k cs (end_of_mark m) → can_by m fits can k cs ≡ true
  unfolding can_by end_of_mark
  choice-by h = rw (ne_eqb m 0 nz) (go (eqb m 4) h)
    where
      go : (b : Bool) → Choice fits can k cs (cond b breaks works) → cond b (breaks_by fits can k cs) (works_by fits can k cs) ≡ true
      go true q = choice-breaks fits can cs k fam q
      go false q = choice-works fits can cs k fam q

module _ (p : List ℕ) (ok : Accepted p) (fits allows : ℕ → ℕ → Bool) (free : (v : ℕ) → (x : ℕ) × (x < 256) × (fits v x ≡ true)) where
  abbrev able : ℕ → ℕ → Bool
  able = can_at p fits allows

  -- FROM ANSWERS. They fit, the pass accepts them, and every node's mark is allowed
  module _ (a : List ℕ) (fit : (v : ℕ) → v < size p → fits v (get_or a v 0) ≡ true) (small : (v : ℕ) → get_or a v 0 < 256)
      (z : (pass p a).number ≡ 0) (owned : (v : ℕ) → v < size p → allows v (pass_mark p a v) ≡ true) where
    -- v's mark can be had, where its children's can
    module _ (v : ℕ) (l : v < size p) (kids : (c : ℕ) → In c (children p v) → able c (pass_mark p a c) ≡ true) where
      idle : pass_mark p a v ≡ 0 → can_by (pass_mark p a v) (fits v) able (kind p v) (children p v) ≡ true
      unfolding can_by
      idle e = rw e (all-by (λ c. able c 0) (children p v) (λ c i. rw (child-off p ok a z v c i e) at (kids c i)))

      busy : (pass_mark p a v ≡ 0 → ⊥) → can_by (pass_mark p a v) (fits v) able (kind p v) (children p v) ≡ true
      busy nz =
          let r = reached p ok a z v l nz in
          let q = node p ok a z v l r in
          let e : end_of (kind p v) (get_or a v 0) (tallied (kind p v) (get_or a v 0) (end_at p a) (children p v) nothing) ≡ end_of_mark (pass_mark p a v)
          = sym q.end ∙ sym ((pass-by-nodes p ok a).ends v l) ∙ sym r.mark in
          choice-by (pass_mark p a v) (fits v) able (kind p v) (children p v) (family p ok v l) (free v) nz (record {
            answer = get_or a v 0;
            small = small v;
            fit = fit v l;
            right = q.answer;
            reached = may_end-by able (kind p v) (get_or a v 0) (end_of_mark (pass_mark p a v)) 0 (children p v) nothing (end_at p a) (rising-children p v)
                (λ c i. end_clean p ok a c (child-between p ok v i).1)
                (λ c i. rw (child-on p ok a z v c i nz ∙ gives-is p ok a z v c) at (kids c i)) q.sound e (rw r.mark r.clean);
          })

    able-by : (f v : ℕ) → size p ≤ v + f → v < size p → able v (pass_mark p a v) ≡ true
    able-by zero v h l = absurd (omega arith)
    able-by (suc f) v h l =
        let kids : (c : ℕ) → In c (children p v) → able c (pass_mark p a c) ≡ true = λ c i. let b = child-between p ok v i in able-by f c (omega arith) b.1 in
        can-is p ok fits allows v (pass_mark p a v) l
        ∙ and-join _ _ (owned v l) (cases (decided (eqb (pass_mark p a v) 0)) (λ e. idle v l kids (eqb-true _ _ e)) (λ e. busy v l kids (eqb-false _ _ e)))

    pub able-root : able 0 (pass_mark p a 0) ≡ true
    able-root = able-by (size p) 0 (omega arith) ok.some

  -- TO ANSWERS. A choice at v for its mark m: an answer, and a mark for each child
  record Pick : Type 0 where
    answer : ℕ
    marks : ℕ → ℕ

  -- what a choice is to be
  record Picked (v m : ℕ) (c : Pick) : Type 0 where
    small : c.answer < 256
    fit : fits v c.answer ≡ true
    right : bad_answer (kind p v) c.answer ≡ 0
    each : (d : ℕ) → In d (children p v) → able d (c.marks d) ≡ true
    so : (e : ℕ → Outcome) → ((d : ℕ) → In d (children p v) → (c.marks d ≡ 0 → ⊥) → e d ≡ end_of_mark (c.marks d)) →
        (end_of (kind p v) c.answer (tallied (kind p v) c.answer e (children p v) nothing) ≡ end_of_mark m)
        × ((d : ℕ) → In d (children p v) → mark_among (kind p v) c.answer e (children p v) nothing d ≡ c.marks d)

  choose : (v m : ℕ) → v < size p → (m ≡ 0 → ⊥) → able v m ≡ true → (c : Pick) × Picked v m c
  choose v m l nz h =
      let q = by-choice m (fits v) able (kind p v) (children p v) (family p ok v l) (free v) nz (and_right (allows v m) _ (sym (can-is p ok fits allows v m l) ∙ h)) in
      let w = along able (kind p v) q.answer (end_of_mark m) 0 (children p v) nothing (rising-children p v) q.reached in
      (record { answer = q.answer; marks = w.mark }, record { small = q.small; fit = q.fit; right = q.right; each = w.each; so = w.so })

  -- the same for every v and m; where there is none, an answer that fits
  abbrev Offer : ℕ → ℕ → Type 0
  Offer v m = ((c : Pick) × Picked v m c) ⊎ (v < size p → (m ≡ 0 → ⊥) → able v m ≡ true → ⊥)

  offer : (v m : ℕ) → Offer v m
  offer v m = cases (decided (ltb v (size p)))
      (λ l. cases (decided (eqb m 0))
      (λ e. inr (λ k nz h. nz (eqb-true m 0 e)))
      (λ e. cases (decided (able v m)) (λ h. inl (choose v m (ltb-true v (size p) l) (eqb-false m 0 e) h)) (λ h. inr (λ k nz g. clash _ g h))))
      (λ l. inr (λ k nz h. clash _ (lt-ltb v (size p) k) l))

  pick_of : (v m : ℕ) → Offer v m → Pick
  pick_of v m (inl r) = r.0
  pick_of v m (inr n) = record { answer = (free v).0; marks = λ d. 0 }

  pick_at : ℕ → ℕ → Pick
  pick_at v m = pick_of v m (offer v m)

  picked : (v m : ℕ) → v < size p → (m ≡ 0 → ⊥) → able v m ≡ true → Picked v m (pick_at v m)
  unfolding pick_at pick_of
  picked v m l nz h = go (offer v m)
    where
      go : (r : Offer v m) → Picked v m (pick_of v m r)
      go (inl r) = r.1
      go (inr n) = absurd (n l nz h)

  module _ (end : ℕ) where
    -- the mark chosen for v, by those chosen above it
    aim : ℕ → ℕ → ℕ
    aim zero v = 0
    aim (suc n) v = cond (eqb v 0) end (cond (eqb (aim n (parent p v)) 0) 0 ((pick_at (parent p v) (aim n (parent p v))).marks v))

    aim-levels : (n j v : ℕ) → v < n → v < j → v < size p → aim n v ≡ aim j v
    unfolding aim
    aim-levels zero j v l k s = absurd (omega arith)
    aim-levels (suc n) zero v l k s = absurd (omega arith)
    aim-levels (suc n) (suc j) v l k s = cases (decided (eqb v 0)) (λ e. rw e)
        (λ e. let ne : v ≡ 0 → ⊥ = eqb-false v 0 e in
        let low = ok.below v (omega arith) s in
        rw e (ap (λ y. cond (eqb y 0) 0 ((pick_at (parent p v) y).marks v)) (aim-levels n j (parent p v) (omega arith) (omega arith) (omega arith))))

    aim_at : ℕ → ℕ
    aim_at v = aim (suc v) v

    aim-root : aim_at 0 ≡ end
    unfolding aim_at aim
    aim-root = refl

    aim-child : (v c : ℕ) → In c (children p v) → aim_at c ≡ cond (eqb (aim_at v) 0) 0 ((pick_at v (aim_at v)).marks c)
    unfolding aim_at aim
    aim-child v c i =
        let h = child-of p v i in
        let b = child-between p ok v i in
        rw (ne_eqb c 0 (λ e. omega arith), h.of) (ap (λ y. cond (eqb y 0) 0 ((pick_at v y).marks c)) (aim-levels c (suc v) v (omega arith) (omega arith) (omega arith)))

    module _ (feasible : able 0 end ≡ true) (three : (end ≡ 3) ⊎ (end ≡ 4)) where
      aim-able : (n v : ℕ) → v < n → v < size p → able v (aim_at v) ≡ true
      aim-able zero v l s = absurd (omega arith)
      aim-able (suc n) v l s = cases (decided (eqb v 0)) (λ e. rw (eqb-true v 0 e, aim-root) feasible)
          (λ e. let ne : v ≡ 0 → ⊥ = eqb-false v 0 e in
          let low = ok.below v (omega arith) s in
          let i = parent-child p ok v (omega arith) s in
          let h = aim-able n (parent p v) (omega arith) (omega arith) in
          rw (aim-child (parent p v) v i) (cases (decided (eqb (aim_at (parent p v)) 0))
          (λ q. rw q (none_above (parent p v) (omega arith) (rw (eqb-true (aim_at (parent p v)) 0 q) at h) v i))
          (λ q. rw q ((picked (parent p v) _ (omega arith) (eqb-false _ _ q) h).each v i))))
        where
          none_above : (u : ℕ) → u < size p → able u 0 ≡ true → (c : ℕ) → In c (children p u) → able c 0 ≡ true
          none_above u k h c i = all-at (λ c. able c 0) i (unfold can_by in (and_right (allows u 0) _ (sym (can-is p ok fits allows u 0 k) ∙ h)))

      abled : (v : ℕ) → v < size p → able v (aim_at v) ≡ true
      abled v s = aim-able (suc v) v (omega arith) s

      -- the answers chosen
      chosen : ℕ → ℕ
      chosen v = cond (eqb (aim_at v) 0) (free v).0 (pick_at v (aim_at v)).answer

      chosen-right : (v : ℕ) → v < size p → (chosen v < 256) × (fits v (chosen v) ≡ true)
      unfolding chosen
      chosen-right v s = cases (decided (eqb (aim_at v) 0)) (λ q. rw q ((free v).1, (free v).2))
          (λ q. let r = picked v (aim_at v) s (eqb-false _ _ q) (abled v s) in rw q (r.small, r.fit))

      pub answers : List ℕ
      answers = table chosen (size p)

      answer_at : (v : ℕ) → v < size p → get_or answers v 0 ≡ chosen v
      unfolding answers
      answer_at v s = table_at chosen (size p) v s

      answer-picked : (v : ℕ) → v < size p → (aim_at v ≡ 0 → ⊥) → get_or answers v 0 ≡ (pick_at v (aim_at v)).answer
      answer-picked v s nz = answer_at v s ∙ unfold chosen in rw (ne_eqb _ 0 nz)

      aim-on : (v c : ℕ) → In c (children p v) → (aim_at v ≡ 0 → ⊥) → aim_at c ≡ (pick_at v (aim_at v)).marks c
      aim-on v c i nz = aim-child v c i ∙ rw (ne_eqb _ 0 nz)

      ends : (f v : ℕ) → size p ≤ v + f → v < size p → (aim_at v ≡ 0 → ⊥) → end_at p answers v ≡ end_of_mark (aim_at v)
      unfolding end_by
      ends zero v h s nz = absurd (omega arith)
      ends (suc f) v h s nz =
          let r = picked v (aim_at v) s nz (abled v s) in
          (pass-by-nodes p ok answers).ends v s
          ∙ rw (answer-picked v s nz, r.right)
          (r.so (end_at p answers) (λ d i n. let b = child-between p ok v i in
          let q = aim-on v d i nz in ends f d (omega arith) b.1 (λ y. n (sym q ∙ y)) ∙ ap end_of_mark q)).0

      ended : (v : ℕ) → v < size p → (aim_at v ≡ 0 → ⊥) → end_at p answers v ≡ end_of_mark (aim_at v)
      ended v s nz = ends (size p) v (omega arith) s nz

      root-nz : aim_at 0 ≡ 0 → ⊥
      root-nz e = cases three (λ q. omega (arith, aim-root)) (λ q. omega (arith, aim-root))

      root-end : end_at p answers 0 ≡ end_of_mark end
      root-end = ended 0 ok.some root-nz ∙ ap end_of_mark aim-root

      clean : number_of (end_of_mark end) ≡ 0
      unfolding end_of_mark number_of
      clean = cases three (λ q. rw q) (λ q. rw q)

      pub accepted : (pass p answers).number ≡ 0
      accepted = (pass-by-nodes p ok answers).number ∙ ap number_of root-end ∙ clean

      root-mark : pass_mark p answers 0 ≡ end
      root-mark = (pass-by-nodes p ok answers).root accepted ∙ ap root_mark root-end ∙ by-mark
        where
          by-mark : root_mark (end_of_mark end) ≡ end
          by-mark = unfold root_mark end_of_mark in cases three (λ q. rw q) (λ q. rw q)

      mark-by : (n v : ℕ) → v < n → v < size p → pass_mark p answers v ≡ aim_at v
      mark-by zero v l s = absurd (omega arith)
      mark-by (suc n) v l s = cases (decided (eqb v 0)) (λ e. rw (eqb-true v 0 e) (root-mark ∙ sym aim-root))
          (λ e. let ne : v ≡ 0 → ⊥ = eqb-false v 0 e in
          let low = ok.below v (omega arith) s in
          let i = parent-child p ok v (omega arith) s in
          (pass-by-nodes p ok answers).child accepted (parent p v) v i ∙ rw (mark-by n (parent p v) (omega arith) (omega arith))
          (sym (aim-child (parent p v) v i ∙ ap-cond (eqb (aim_at (parent p v)) 0) (λ q. hand (parent p v) v i (omega arith) (eqb-false _ _ q)))))
        where
          hand : (u c : ℕ) → In c (children p u) → u < size p → (aim_at u ≡ 0 → ⊥) → (pick_at u (aim_at u)).marks c ≡ gives p answers u c
          hand u c i k nz =
              let r = picked u (aim_at u) k nz (abled u k) in
              unfold gives in rw (answer-picked u k nz)
              (sym ((r.so (end_at p answers) (λ d j n. let q = aim-on u d j nz in ended d (child-between p ok u j).1 (λ y. n (sym q ∙ y)) ∙ ap end_of_mark q)).1 c i))

          ap-cond : {x y : ℕ} (b : Bool) → (b ≡ false → x ≡ y) → cond b 0 x ≡ cond b 0 y
          ap-cond true h = refl
          ap-cond false h = h refl

      pub marked : (v : ℕ) → v < size p → allows v (pass_mark p answers v) ≡ true
      marked v s = rw (mark-by (suc v) v (omega arith) s) (and_left _ _ (sym (can-is p ok fits allows v (aim_at v) s) ∙ abled v s))

      pub answers-long : length answers ≡ size p
      unfolding answers
      answers-long = table-length chosen (size p)

      pub answers-right : (v : ℕ) → v < size p → (get_or answers v 0 < 256) × (fits v (get_or answers v 0) ≡ true)
      answers-right v s = rw (answer_at v s) (chosen-right v s)

      pub answers-end : pass_mark p answers 0 ≡ end
      answers-end = root-mark
