-- The closed form, and how many there are at most (specs/Claim.antt). Assumes nothing.
use mathlib.Core.Path.{◌≡◌, refl, sym, ◌∙◌, ap, subst}
use mathlib.Core.Bool.{Bool, true, false, cond}
use mathlib.Core.List.{List, [], ◌∷◌}
use Prim.Native.Nat.{ℕ, ◌≤◌, ◌<◌}
use lib.Dec.{eqb}
use lib.ListN.{length, take, drop, length-take}
use borrow.Author.Tests.{eqb-false, ltb-true}
use native.Mathlib.Omega.{arith}
use Rattle.lists.specs.Seq.{head_or}
use Rattle.lists.specs.Member.{In, here, there}
use Rattle.lists.proofs.Logic.{cases, decided, parts}
use Rattle.plan.specs.Plan.{kind_number, is_kind, size, kind, parent, children, above, in_xor}
use Rattle.plan.specs.declared.kinds.Kind.{Kind}
use Rattle.plan.specs.declared.kinds.Kind.TheVariants.{Task as task, Serial as serial, And as and, Or as or, Xor as xor, Contingency as contingency, Conditional as conditional, Waiting as waiting}
use Rattle.plan.specs.Check.{Accepted}
use Rattle.plan.proofs.PlanLaws.{rising-children}
use Rattle.plan.proofs.AcceptedLaws.{child-between, parent_in, parent-child}
use Rattle.event.specs.Event.{Code, start, offer, commit, abort, answered-yes, answered-no, pick, down, Event, applies_by, applies}
use Rattle.event.specs.Site.{host_by, host_of, Layout, Housed, own, site_of}
use Rattle.runs.proofs.Family.{xor-child}
use Rattle.runs.proofs.Full.{site-in}
use Rattle.audience.specs.Audience.{audience}
use Rattle.audience.specs.Hearers.{later, start_hearers, end_hearers, hearers_by, hearers}
use Rattle.audience.specs.Claim.{ClosedForm, OwnClosedForm, FewToTell}
use Rattle.audience.proofs.Shapes.{none_in_empty, in_one}
use Rattle.audience.proofs.NameLaws.{names-by, names_at, in-audience, audience-in}
use Rattle.audience.proofs.Next.{next-or-last, in-first}
use Rattle.audience.proofs.Hears.{side}
use Rattle.audience.proofs.Named.{hears}
use Rattle.audience.proofs.Sorted.{Sorted, none, sorted-same, rising-sorted, one-sorted, first-sorted, keep-sorted}

module _ (p : List ℕ) (ok : Accepted p) (lay : Layout) (housed : Housed p lay) (f : Event) (q : ℕ) where
  to-hearer : In q (audience p lay f) → (v : ℕ) × In v (hearers p f) × (lay.home v ≡ q) × (q ≡ site_of p lay f → ⊥)
  unfolding site_of
  to-hearer i =
      let l = audience-in p lay f i in
      let n = names_at p lay q f l.naming in
      cases (side p ok n.event f n.applied n.named)
      (λ z. absurd (l.other (sym n.sited ∙ ap lay.home z)))
      (λ j. (host_of p n.event, j, n.sited, l.other))

  from-hearer : applies p f ≡ true → (v : ℕ) → In v (hearers p f) → lay.home v ≡ q → (q ≡ site_of p lay f → ⊥) → In q (audience p lay f)
  unfolding site_of
  from-hearer a v j z o =
      let n = hears p ok f a j in
      let s : site_of p lay n.event ≡ q = ap lay.home n.hosted ∙ z in
      in-audience p lay f q (rw (← s) (site-in p ok lay housed n.event n.applied)) (rw (← s) (names-by p lay n.event f n.applied n.named)) o

pub closed-form : ClosedForm
closed-form p ok lay housed f a q = (to-hearer p ok lay housed f q, λ r. from-hearer p ok lay housed f q a r.0 r.1 r.2 r.3)

-- EACH NODE ITS OWN ROW
module _ (p : List ℕ) (ok : Accepted p) where
  started-child : (k : Kind) (cs : List ℕ) {w : ℕ} → In w (start_hearers k cs) → In w cs
  unfolding start_hearers
  started-child task cs j = absurd (none_in_empty j)
  started-child serial cs j = (in-first cs j).0
  started-child and cs j = j
  started-child or cs j = j
  started-child xor cs j = j
  started-child contingency cs j = (in-first cs j).0
  started-child conditional cs j = absurd (none_in_empty j)
  started-child waiting cs j = j

  second-child : (cs : List ℕ) {w : ℕ} → In w (take 1 (drop 1 cs)) → In w cs
  second-child [] j = absurd (none_in_empty j)
  second-child (a ∷ cs) j = there (in-first cs j).0

  not-parent : (v : ℕ) {w : ℕ} → In w (children p v) → w ≡ v → ⊥
  not-parent v i z = let b = child-between p ok v i in omega arith

  not-child : (v : ℕ) → 0 < v → v < size p → {w : ℕ} → In w (parent p v ∷ []) → w ≡ v → ⊥
  not-child v m l j z = let b = ok.below v m l in let q = in_one j in omega arith

  -- a commit or an abort
  module _ (turn : Kind) (v : ℕ) where
    end-other : v < size p → {w : ℕ} → In w (end_hearers turn (above p v) (parent p v) (children p (parent p v)) v) → w ≡ v → ⊥
    unfolding end_hearers above is_kind kind_number
    end-other l {w} j z = cases (decided (eqb v 0))
        (λ e. none_in_empty (rw e at j))
        (λ e. let m : 0 < v = omega (arith, eqb-false v 0 e) in go m (is_kind task (kind p (parent p v))) (is_kind turn (kind p (parent p v))) (rw e at j))
      where
        go : 0 < v → (a b : Bool) → In w (cond a [] (cond b (head_or (parent p v) (later (children p (parent p v)) v) ∷ []) (parent p v ∷ []))) → ⊥
        go m true b j = none_in_empty j
        go m false false j = not-child v m l j z
        go m false true j = cases (next-or-last (parent p v) (rising-children p (parent p v)) (parent-child p ok v m l))
            (λ f. let q = in_one j in let n = f.less in omega arith)
            (λ e. not-child v m l (here (in_one j ∙ e.0)) z)

    end-sorted : Sorted (end_hearers turn (above p v) (parent p v) (children p (parent p v)) v)
    unfolding end_hearers
    end-sorted = go (is_kind task (above p v)) (is_kind turn (above p v))
      where
        go : (a b : Bool) → Sorted (cond a [] (cond b (head_or (parent p v) (later (children p (parent p v)) v) ∷ []) (parent p v ∷ [])))
        go true b = none
        go false true = one-sorted (head_or (parent p v) (later (children p (parent p v)) v))
        go false false = one-sorted (parent p v)

    pub end-one : length (end_hearers turn (above p v) (parent p v) (children p (parent p v)) v) ≤ 1
    unfolding end_hearers
    end-one = go (is_kind task (above p v)) (is_kind turn (above p v))
      where
        go : (a b : Bool) → length (cond a [] (cond b (head_or (parent p v) (later (children p (parent p v)) v) ∷ []) (parent p v ∷ []))) ≤ 1
        go true b = omega arith
        go false true = omega arith
        go false false = omega arith

  start-sorted : (k : Kind) (cs : List ℕ) → Sorted cs → Sorted (start_hearers k cs)
  unfolding start_hearers
  start-sorted task cs s = none
  start-sorted serial cs s = first-sorted cs
  start-sorted and cs s = s
  start-sorted or cs s = s
  start-sorted xor cs s = s
  start-sorted contingency cs s = first-sorted cs
  start-sorted conditional cs s = none
  start-sorted waiting cs s = s

  pub start-few : (k : Kind) (cs : List ℕ) → length (start_hearers k cs) ≤ length cs
  unfolding start_hearers
  start-few task cs = omega arith
  start-few serial cs = omega (arith, length-take 1 cs)
  start-few and cs = omega arith
  start-few or cs = omega arith
  start-few xor cs = omega arith
  start-few contingency cs = omega (arith, length-take 1 cs)
  start-few conditional cs = omega arith
  start-few waiting cs = omega arith

  hearers-other : (c : Code) (v : ℕ) → v < size p → applies_by c (kind p v) (in_xor p v) ≡ true → {w : ℕ} → In w (hearers_by p c v) → w ≡ host_by c v (parent p v) → ⊥
  unfolding hearers_by host_by applies_by
  hearers-other start v l a j = not-parent v (started-child (kind p v) (children p v) j)
  hearers-other offer v l a j = not-child v (xor-child p v a l).low l j
  hearers-other commit v l a j = end-other serial v l j
  hearers-other abort v l a j = end-other contingency v l j
  hearers-other answered-yes v l a j = not-parent v (in-first (children p v) j).0
  hearers-other answered-no v l a j = not-parent v (second-child (children p v) j)
  hearers-other pick v l a j = not-parent (parent p v) j
  hearers-other down v l a j = not-child v (xor-child p v a l).low l j

  hearers-sorted : (c : Code) (v : ℕ) → Sorted (hearers_by p c v)
  unfolding hearers_by
  hearers-sorted start v = start-sorted (kind p v) (children p v) (rising-sorted (rising-children p v))
  hearers-sorted offer v = one-sorted (parent p v)
  hearers-sorted commit v = end-sorted serial v
  hearers-sorted abort v = end-sorted contingency v
  hearers-sorted answered-yes v = first-sorted (children p v)
  hearers-sorted answered-no v = first-sorted (drop 1 (children p v))
  hearers-sorted pick v = rising-sorted (rising-children p (parent p v))
  hearers-sorted down v = one-sorted (parent p v)

pub own-closed-form : OwnClosedForm
unfolding own site_of host_of hearers audience applies
own-closed-form p ok e a = sorted-same (keep-sorted _ (size p)) (hearers-sorted p ok e.code e.node)
    (λ q i. let r = to-hearer p ok (own p) (λ v l. l) e q i in subst (λ (w : ℕ). In w (hearers p e)) r.2 r.1)
    (λ q i. from-hearer p ok (own p) (λ v l. l) e q a q i refl
    (hearers-other p ok e.code e.node (ltb-true e.node (size p) (search parts)) (search parts) i))

-- HOW MANY
module _ (p : List ℕ) (ok : Accepted p) where
  few-by : (c : Code) (v : ℕ) → v < size p → applies_by c (kind p v) (in_xor p v) ≡ true → length (hearers_by p c v) ≤ 32
  unfolding hearers_by applies_by
  few-by start v l a = let b = start-few p ok (kind p v) (children p v) in let m = ok.most v l in omega arith
  few-by offer v l a = omega arith
  few-by commit v l a = let b = end-one p ok serial v in omega arith
  few-by abort v l a = let b = end-one p ok contingency v in omega arith
  few-by answered-yes v l a = omega (arith, length-take 1 (children p v))
  few-by answered-no v l a = omega (arith, length-take 1 (drop 1 (children p v)))
  few-by pick v l a = let c = xor-child p v a l in ok.most (parent p v) (parent_in p ok v c.low l)
  few-by down v l a = omega arith

  one-by : (c : Code) (v : ℕ) → (c ≡ start → ⊥) → (c ≡ pick → ⊥) → length (hearers_by p c v) ≤ 1
  unfolding hearers_by
  one-by start v n m = absurd (n refl)
  one-by offer v n m = omega arith
  one-by commit v n m = end-one p ok serial v
  one-by abort v n m = end-one p ok contingency v
  one-by answered-yes v n m = omega (arith, length-take 1 (children p v))
  one-by answered-no v n m = omega (arith, length-take 1 (drop 1 (children p v)))
  one-by pick v n m = absurd (m refl)
  one-by down v n m = omega arith

pub few-to-tell : FewToTell
unfolding hearers applies
few-to-tell p ok e a = record {
  most = rw (own-closed-form p ok e a) (few-by p ok e.code e.node (ltb-true e.node (size p) (search parts)) (search parts));
  one = λ n m. rw (own-closed-form p ok e a) (one-by p ok e.code e.node n m);
}
