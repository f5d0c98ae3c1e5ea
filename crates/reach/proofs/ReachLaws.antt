-- Two lists of answers that differ at one task: which marks differ. Assumes nothing.
use mathlib.Core.Path.{◌≡◌, refl, sym, ◌∙◌, ap, subst}
use mathlib.Core.Bool.{true, false, cond}
use mathlib.Core.List.{List}
use mathlib.Core.Logic.{◌⊎◌, inl, inr}
use Prim.Native.Nat.{ℕ, zero, suc, ◌≤◌, ◌<◌}
use lib.Dec.{eqb, ltb}
use lib.ListN.{get_or, length, set}
use lib.Seq.{get_or-set_other}
use borrow.Author.Tests.{eqb-true, eqb-false, ltb-true, ltb-false}
use native.Mathlib.Omega.{arith}
use Rattle.lists.specs.Member.{In}
use Rattle.lists.proofs.Logic.{cases, decided}
use Rattle.lists.proofs.Members.{in_some}
use Rattle.plan.specs.Plan.{kind_number, size, kind, parent, children}
use Rattle.plan.specs.declared.kinds.Kind.TheVariants.{Task as task, Xor as xor}
use Rattle.plan.specs.Check.{Accepted}
use Rattle.plan.specs.Under.{Under, self, Below}
use Rattle.plan.proofs.PlanLaws.{child-of, rising-children}
use Rattle.plan.proofs.AcceptedLaws.{child-between, parent-child}
use Rattle.plan.proofs.UnderLaws.{under_low, under-trans, child-under, under-below, apart, through, under-root, under?}
use Rattle.pass.specs.Pass.{works, breaks, nothing, number_of, pass}
use Rattle.pass_nodes.specs.Nodes.{tallied, end_by, end_at, mark_among, pass_mark, Read}
use Rattle.pass_nodes.specs.Claim.{SameUnder}
use Rattle.pass_nodes.proofs.EndLaws.{clean-number}
use Rattle.pass_nodes.proofs.ReachedLaws.{end_of_mark, reached, node, child-on, child-off, gives-is, above-reached}
use Rattle.pass_nodes.proofs.Main.{pass-by-nodes, ends-under, marks-below, same-elsewhere, unread-free}
use Rattle.reach.specs.Reach.{OneTask, Follows, InReach, above, after}
use Rattle.reach.specs.Claim.{ChangeWithinReach}
use Rattle.reach.proofs.AmongLaws.{among-before, one_by_one, one-by-one-kinds, among-free, xor-end}

swapped : (p a b : List ℕ) (t : ℕ) → OneTask p a b t → OneTask p b a t
swapped p a b t h = record { within = h.within; is-task = h.is-task; same = λ w s n. sym (h.same w s n); first = h.second; second = h.first }

-- x in the task's place
pub one_set : (p a : List ℕ) (t x : ℕ) → t < size p → kind p t ≡ task → (pass p a).number ≡ 0 → (pass p (set a t x)).number ≡ 0 → OneTask p a (set a t x) t
one_set p a t x l k za zb = record { within = l; is-task = k; same = λ w s ne. sym (get_or-set_other a t w x 0 ne); first = za; second = zb }

module _ (p : List ℕ) (ok : Accepted p) (a b : List ℕ) (t : ℕ) (h : OneTask p a b t) where
  -- a task that is not reached changes nothing
  unreached : pass_mark p a t ≡ 0 → (w : ℕ) → w < size p → pass_mark p a w ≡ pass_mark p b w
  unreached z w s = sym ((unread-free p ok a b h.first read).1 w s)
    where
      read : (v : ℕ) → v < size p → Read p a v → get_or a v 0 ≡ get_or b v 0
      read v l r = h.same v l (λ e. r.reached (subst (λ y. pass_mark p a y ≡ 0) (sym e) z))

  -- lists that differ at t are the same in a subtree that t is not in
  same-aside : (d : ℕ) → (Under p d t → ⊥) → SameUnder p a b d
  same-aside d n w s x = h.same w s (λ e. n (subst (Under p d) e x))

  -- the task has no child
  no-parent : (u c : ℕ) → In c (children p u) → u ≡ t → ⊥
  no-parent u c i e =
      let some = in_some (subst (λ z. In c (children p z)) e i) in
      omega (arith, ap length (ok.tasks t h.within h.is-task))

  -- of its children only y is above the task, so the others end alike
  ends-aside : (u y d : ℕ) → In y (children p u) → Under p y t → In d (children p u) → (d ≡ y → ⊥) → end_at p a d ≡ end_at p b d
  ends-aside u y d j x i n = ends-under p ok a b d (child-between p ok u i).1 (same-aside d (λ z. apart p ok u d y i j n t z x))

  -- both lists reach the task, w is a child of u and not above the task
  module _ (on-a : pass_mark p a t ≡ 0 → ⊥) (on-b : pass_mark p b t ≡ 0 → ⊥) (u w : ℕ) (i : In w (children p u)) (off : Under p w t → ⊥) where
    u-in : u < size p
    u-in = let q = child-between p ok u i in omega arith

    answer : get_or a u 0 ≡ get_or b u 0
    answer = h.same u u-in (no-parent u w i)

    -- what u gives to w
    module _ (x : Under p u t)
        (q : mark_among (kind p u) (get_or a u 0) (end_at p a) (children p u) nothing w ≡ mark_among (kind p u) (get_or a u 0) (end_at p b) (children p u) nothing w) where
      same-given : pass_mark p a w ≡ pass_mark p b w
      same-given = child-on p ok a h.first u w i (above-reached p ok a h.first u t h.within x on-a) ∙ gives-is p ok a h.first u w ∙ q
          ∙ ap (λ z. mark_among (kind p u) z (end_at p b) (children p u) nothing w) answer
          ∙ sym (gives-is p ok b h.second u w) ∙ sym (child-on p ok b h.second u w i (above-reached p ok b h.second u t h.within x on-b))

    module _ (y : ℕ) (j : In y (children p u)) (x : Under p y t) where
      above-u : Under p u t
      above-u = under-trans p u y t (child-under p u y j) x

      apart-y : w ≡ y → ⊥
      apart-y e = off (subst (λ z. Under p z t) (sym e) x)

      before : w < y → pass_mark p a w ≡ pass_mark p b w
      before l = same-given above-u (among-before (kind p u) (get_or a u 0) (end_at p a) (end_at p b) 0 (children p u) nothing w (rising-children p u) i
          (λ d k le. ends-aside u y d j x k (λ z. omega arith)))

      sound-a : (tallied (kind p u) (get_or a u 0) (end_at p a) (children p u) nothing).wrong ≡ 0
      sound-a = (node p ok a h.first u u-in (reached p ok a h.first u u-in (above-reached p ok a h.first u t h.within above-u on-a))).sound

      sound-b : (tallied (kind p u) (get_or b u 0) (end_at p b) (children p u) nothing).wrong ≡ 0
      sound-b = (node p ok b h.second u u-in (reached p ok b h.second u u-in (above-reached p ok b h.second u t h.within above-u on-b))).sound

      free : one_by_one (kind p u) ≡ false → pass_mark p a w ≡ pass_mark p b w
      free f = same-given above-u (among-free (kind p u) f (get_or a u 0) (end_at p a) (end_at p b) y (children p u) nothing nothing w refl sound-a
          (ap (λ z. (tallied (kind p u) z (end_at p b) (children p u) nothing).wrong) answer ∙ sound-b) (λ d k n. ends-aside u y d j x k n) apart-y)

      follows : y ≤ w → one_by_one (kind p u) ≡ true → Follows p y w
      follows le f =
          let cy = child-of p u j in
          let ne : w ≡ y → ⊥ = apart-y in
          record {
            inner = cy.low;
            later = omega arith;
            sibling = (child-of p u i).of ∙ sym cy.of;
            one_by_one = one-by-one-kinds (kind p (parent p y)) (ap (λ z. one_by_one (kind p z)) cy.of ∙ f);
          }

      beside : (pass_mark p a w ≡ pass_mark p b w) ⊎ InReach p t w
      beside = cases (decided (ltb w y))
          (λ l. inl (before (ltb-true w y l)))
          (λ l. cases (decided (one_by_one (kind p u)))
          (λ f. inr (after y w x (follows (ltb-false w y l) f) (self refl)))
          (λ f. inl (free f)))

    -- u is not above the task
    aside : (Under p u t → ⊥) → (pass_mark p a u ≡ pass_mark p b u) ⊎ InReach p t u → (pass_mark p a w ≡ pass_mark p b w) ⊎ InReach p t w
    aside n r = cases r
        (λ e. inl (cases (decided (eqb (pass_mark p a u) 0))
        (λ q. let o = eqb-true (pass_mark p a u) 0 q in child-off p ok a h.first u w i o ∙ sym (child-off p ok b h.second u w i (sym e ∙ o)))
        (λ q. let o = eqb-false (pass_mark p a u) 0 q in
        marks-below p ok a b u (same-aside u n) h.first h.second o (λ z. o (e ∙ z)) w (child-between p ok u i).1 (under-below p u w lower (child-under p u w i)))))
        (λ s. inr (deeper s))
      where
        lower : u ≡ w → ⊥
        lower e = let q = child-between p ok u i in omega arith

        deeper : InReach p t u → InReach p t w
        deeper (above x) = absurd (n x)
        deeper (after v s x f un) = after v s x f (under-trans p s u w un (child-under p u w i))

  module _ (on-a : pass_mark p a t ≡ 0 → ⊥) (on-b : pass_mark p b t ≡ 0 → ⊥) where
    reach-by : (n w : ℕ) → w < n → w < size p → (pass_mark p a w ≡ pass_mark p b w) ⊎ InReach p t w
    reach-by zero w l s = absurd (omega arith)
    reach-by (suc n) w l s = cases (under? p ok (suc t) w t (omega arith) h.within) (λ x. inr (above x))
        (λ off. cases (decided (eqb w 0))
        (λ q. absurd (off (subst (λ z. Under p z t) (sym (eqb-true w 0 q)) (under-root p ok (suc t) t (omega arith) h.within))))
        (λ q. let ne : w ≡ 0 → ⊥ = eqb-false w 0 q in
        let low = ok.below w (omega arith) s in
        let i = parent-child p ok w (omega arith) s in
        cases (under? p ok (suc t) (parent p w) t (omega arith) h.within)
        (λ x. let r = through p ok (parent p w) t h.within (under-below p (parent p w) t (no-parent (parent p w) w i) x) in
        beside on-a on-b (parent p w) w i off r.0 r.1 r.2)
        (λ x. aside on-a on-b (parent p w) w i off x (reach-by n (parent p w) (omega arith) (omega arith)))))

xor-task : xor ≡ task → ⊥
unfolding kind_number
xor-task e = let z : ◌≡◌ {A = ℕ} 5 1 = ap kind_number e in omega arith

-- a reached xor ends as its answer says
xor-says : (p : List ℕ) → Accepted p → (a : List ℕ) → (pass p a).number ≡ 0 → (u : ℕ) → u < size p → kind p u ≡ xor → (pass_mark p a u ≡ 0 → ⊥) →
    end_at p a u ≡ cond (eqb (get_or a u 0) 0) breaks works
xor-says p ok a z u l k on =
    let e = (pass-by-nodes p ok a).ends u l ∙ ap (λ j. end_by j (get_or a u 0) (end_at p a) (children p u)) k in
    e ∙ xor-end (get_or a u 0) (end_at p a) (children p u) (ap number_of (sym e) ∙ clean-number (end_at p a u) (reached p ok a z u l on).clean)

module _ (p : List ℕ) (ok : Accepted p) (a b : List ℕ) (t : ℕ) (h : OneTask p a b t) where
  -- the task is reached by both lists, or nothing differs
  met : ((pass_mark p a t ≡ 0 → ⊥) × (pass_mark p b t ≡ 0 → ⊥)) ⊎ ((w : ℕ) → w < size p → pass_mark p a w ≡ pass_mark p b w)
  met = cases (decided (eqb (pass_mark p a t) 0)) (λ q. inr (unreached p ok a b t h (eqb-true _ _ q)))
      (λ q. cases (decided (eqb (pass_mark p b t) 0))
      (λ r. inr (λ w s. sym (unreached p ok b a t (swapped p a b t h) (eqb-true _ _ r) w s)))
      (λ r. inl (eqb-false _ _ q, eqb-false _ _ r)))

  reach : (w : ℕ) → w < size p → (pass_mark p a w ≡ pass_mark p b w) ⊎ InReach p t w
  reach w s = cases met (λ m. reach-by p ok a b t h m.0 m.1 (suc w) w (omega arith) s) (λ e. inl (e w s))

  -- a node in whose subtree the task is ends alike
  module _ (u : ℕ) (x : Under p u t) where
    low : u < size p
    low = let l = under_low p ok u t h.within x in omega (arith, h.within)

    beside-alike : end_at p a u ≡ end_at p b u → (w : ℕ) → w < size p → (Below p u w → ⊥) → pass_mark p a w ≡ pass_mark p b w
    beside-alike e = (same-elsewhere p ok a b u (λ w s n. h.same w s (λ q. n (subst (Under p u) (sym q) x))) e).1 h.first

    outside : pass_mark p a u ≡ pass_mark p b u → (w : ℕ) → w < size p → (Below p u w → ⊥) → pass_mark p a w ≡ pass_mark p b w
    outside e w s n = cases met
        (λ m. let oa = above-reached p ok a h.first u t h.within x m.0 in
        let ob = above-reached p ok b h.second u t h.within x m.1 in
        beside-alike (sym (reached p ok a h.first u low oa).mark ∙ ap end_of_mark e ∙ (reached p ok b h.second u low ob).mark) w s n)
        (λ all. all w s)

    not-below : (w : ℕ) → Under p w u → Below p u w → ⊥
    not-below w y z =
        let l = under_low p ok w u low y in
        let d = ok.below w z.0 (omega (arith, low)) in
        let k = under_low p ok u (parent p w) (omega (arith, low)) z.1 in
        omega arith

    above_same : pass_mark p a u ≡ pass_mark p b u → (w : ℕ) → Under p w u → pass_mark p a w ≡ pass_mark p b w
    above_same e w y = let l = under_low p ok w u low y in outside e w (omega (arith, low)) (not-below w y)

    xors : kind p u ≡ xor → pass_mark p a u ≡ pass_mark p b u
    xors k = cases met
        (λ m. beside-alike
        (xor-says p ok a h.first u low k (above-reached p ok a h.first u t h.within x m.0)
        ∙ ap (λ y. cond (eqb y 0) breaks works) (h.same u low (xor-no-task k))
        ∙ sym (xor-says p ok b h.second u low k (above-reached p ok b h.second u t h.within x m.1))) u low (not-below u (self refl)))
        (λ all. all u low)
      where
        xor-no-task : kind p u ≡ xor → u ≡ t → ⊥
        xor-no-task k e = xor-task (sym k ∙ ap (kind p) e ∙ h.is-task)

pub change-within-reach : ChangeWithinReach
change-within-reach p ok a b t h = record { reach = reach p ok a b t h; outside = outside p ok a b t h; above = above_same p ok a b t h; xors = xors p ok a b t h }
