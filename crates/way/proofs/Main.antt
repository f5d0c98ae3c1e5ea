-- The theorems of this crate: the claims of specs/Claim.antt. Assumes nothing.
use mathlib.Core.Path.{◌≡◌, refl, sym, ◌∙◌, ap, subst}
use mathlib.Core.Bool.{true}
use mathlib.Core.List.{List}
use mathlib.Core.Logic.{◌⊎◌, inl, inr}
use mathlib.Core.Option.{Option, none, some}
use Prim.Native.Nat.{ℕ, ◌<◌}
use native.Mathlib.Omega.{arith}
use lib.Dec.{eqb, ltb}
use lib.ListN.{get_or, set, length, length-set, replicate, length-replicate}
use lib.Seq.{get_or-set_same, get_or-set_other}
use borrow.Author.Tests.{eqb-true, eqb-false, ltb-true, ltb-false}
use Rattle.lists.specs.Bytes.{Bytes}
use Rattle.lists.proofs.Logic.{cases, decided, clash, no_bool}
use Rattle.plan.specs.Plan.{size}
use Rattle.plan.specs.Check.{Accepted, fit_number}
use Rattle.plan.proofs.FitLaws.{fit-few}
use Rattle.pass.specs.Pass.{pass}
use Rattle.pass_nodes.specs.Nodes.{pass_mark, Read}
use Rattle.pass_nodes.proofs.Main.{unread-free}
use Rattle.lists.specs.Smallest.{Less}
use Rattle.way.specs.Way.{can_want, leads, way, way_result, found_into, way_into}
use Rattle.way.specs.Claim.{Target, LeadsTo, IsWay, WayRight, WayPasses, WayThere, WayNumbers, WayOrNone, NoWay, OneWay, EveryNode}
use Rattle.lists.proofs.SmallestLaws.{found-least, no-list}
use Rattle.way.proofs.Front.{leads-told, leads-by}
use Rattle.way.proofs.Greedy.{open-way}
use Rattle.lists.proofs.OrderLaws.{less-apart}
use Rattle.way.proofs.OrderLaws.{less-zeroed}
use Rattle.way.proofs.EveryLaws.{every-open}
use Rattle.way.proofs.CallLaws.{target_told, target-by, into-lent, fit-told, into-node, into-target, into-found}

-- Q5: with 0 at a node w whose answer is not read, a list leads there still
module _ (p : List ℕ) (ok : Accepted p) (v m e : ℕ) (within : v < size p) (l : List ℕ) (r : LeadsTo p v m e l) (w : ℕ) (k : w < size p) (n : Read p l w → ⊥) where
  abbrev zeroed : List ℕ
  zeroed = set l w 0

  at-w : get_or zeroed w 0 ≡ 0
  at-w = get_or-set_same l w 0 0 (omega (arith, r.bytes.long))

  other : (u : ℕ) → (u ≡ w → ⊥) → get_or zeroed u 0 ≡ get_or l u 0
  other u ne = get_or-set_other l w u 0 0 ne

  free : ((pass p zeroed).number ≡ 0) × ((u : ℕ) → u < size p → pass_mark p zeroed u ≡ pass_mark p l u)
  free = unread-free p ok l zeroed r.accepted (λ u b q. sym (other u (λ z. n (subst (Read p l) z q))))

  bytes : Bytes (size p) zeroed
  bytes = record {
    long = length-set l w 0 ∙ r.bytes.long;
    small = λ i. cases (decided (eqb i w)) (λ q. rw (eqb-true i w q, at-w) (omega arith)) (λ q. rw (other i (eqb-false i w q)) (r.bytes.small i));
  }

  leads-on : LeadsTo p v m e zeroed
  leads-on = record { bytes = bytes; accepted = free.0; mark = free.1 v within ∙ r.mark; end = free.1 0 ok.some ∙ r.end }

  unread-zero : (l ≡ zeroed) ⊎ Less l zeroed → get_or l w 0 ≡ 0
  unread-zero h = cases h (λ q. ap (λ z. get_or z w 0) q ∙ at-w) (λ q. absurd (less-zeroed w q refl))

module _ (p : List ℕ) (ok : Accepted p) (v m e : ℕ) (within : v < size p) where
  way-is : (l : List ℕ) → way p v m e ≡ some l → IsWay p v m e l
  unfolding way
  way-is l h =
      let s = found-least (size p) (leads p v m e) l h in
      let r = leads-told p v m e l s.bytes s.passes in
      let least : (a : List ℕ) → LeadsTo p v m e a → (l ≡ a) ⊎ Less l a = λ a q. s.least a q.bytes (leads-by p v m e a q) in
      record {
        leads = r;
        least = least;
        unread = λ w k n. unread-zero p ok v m e within l r w k n (least (set l w 0) (leads-on p ok v m e within l r w k n));
      }

  way-none : way p v m e ≡ none → (a : List ℕ) → LeadsTo p v m e a → ⊥
  unfolding way
  way-none h a r = clash (leads p v m e a) (leads-by p v m e a r) (no-list (size p) (leads p v m e) h a r.bytes)

pub one_way : OneWay
one_way p v m e l n h k = cases (h.least n k.leads) (λ q. q)
    (λ q. cases (k.least l h.leads) sym (λ z. absurd (less-apart q z)))

pub way-numbers : WayNumbers
way-numbers p v m e a = record {
  by-lent = into-lent p v m e a;
  by-node = λ ok long l. into-node p v m e a ok long l;
  by-target = λ ok long l n. into-target p v m e a ok long l (no_bool (can_want m e) (λ h. n (target_told p v m e h l)));
  by-none = λ ok long t n. into-found p v m e a ok long t.node (target-by p v m e t) ∙ go ok t n (way p v m e) refl;
}
  where
    go : Accepted p → Target p v m e → ((b : List ℕ) → LeadsTo p v m e b → ⊥) → (r : Option (List ℕ)) → way p v m e ≡ r → found_into r a ≡ way_result 30 a
    go ok t n none h = unfold found_into in refl
    go ok t n (some l) h = absurd (n l (way-is p ok v m e t.node l h).leads)

-- a call that answers 0 or 30 has come to the search
module _ (p : List ℕ) (v m e : ℕ) (a : List ℕ) (k : ℕ) (l : List ℕ) (h : way_into p v m e a ≡ way_result k l) (ends : (k ≡ 0) ⊎ (k ≡ 30)) where
  not-refused : (n : ℕ) → way_into p v m e a ≡ way_result n a → (n ≡ 0 → ⊥) → (n ≡ 30 → ⊥) → ⊥
  not-refused n q y z = let s : n ≡ k = ap (λ r. r.number) (sym q ∙ h) in cases ends (λ t. y (s ∙ t)) (λ t. z (s ∙ t))

  fit-0 : fit_number p (eqb (length a) (size p)) ≡ 0
  fit-0 = cases (decided (eqb (fit_number p (eqb (length a) (size p))) 0)) (λ q. eqb-true _ 0 q)
      (λ q. let n = eqb-false _ 0 q in absurd (not-refused _ (into-lent p v m e a n) n (λ z. omega (arith, fit-few p (eqb (length a) (size p))))))

  searched-plan : Accepted p
  searched-plan = (fit-told p v m e a fit-0).0

  searched-long : length a ≡ size p
  searched-long = (fit-told p v m e a fit-0).1

  searched-node : v < size p
  searched-node = cases (decided (ltb v (size p))) (λ q. ltb-true v (size p) q)
      (λ q. absurd (not-refused 8 (into-node p v m e a searched-plan searched-long (ltb-false v (size p) q)) (λ z. omega arith) (λ z. omega arith)))

  searched-marks : can_want m e ≡ true
  searched-marks = cases (decided (can_want m e)) (λ q. q)
      (λ q. absurd (not-refused 29 (into-target p v m e a searched-plan searched-long searched-node q) (λ z. omega arith) (λ z. omega arith)))

  searched : found_into (way p v m e) a ≡ way_result k l
  searched = sym (into-found p v m e a searched-plan searched-long searched-node searched-marks) ∙ h

found-0 : (r : Option (List ℕ)) (a l : List ℕ) → found_into r a ≡ way_result 0 l → r ≡ some l
unfolding found_into
found-0 none a l h = let z : ◌≡◌ {A = ℕ} 30 0 = ap (λ r. r.number) h in absurd (omega arith)
found-0 (some k) a l h = ap some (ap (λ r. r.answers) h)

found-30 : (r : Option (List ℕ)) (a l : List ℕ) → found_into r a ≡ way_result 30 l → r ≡ none
unfolding found_into
found-30 none a l h = refl
found-30 (some k) a l h = let z : ◌≡◌ {A = ℕ} 0 30 = ap (λ r. r.number) h in absurd (omega arith)

pub way-right : WayRight
way-right p v m e a l h =
    let ok = searched-plan p v m e a 0 l h (inl refl) in
    let within = searched-node p v m e a 0 l h (inl refl) in
    record {
      accepted = ok;
      long = searched-long p v m e a 0 l h (inl refl);
      target = target_told p v m e (searched-marks p v m e a 0 l h (inl refl)) within;
      is-way = way-is p ok v m e within l (found-0 (way p v m e) a l (searched p v m e a 0 l h (inl refl)));
    }

pub way-or-none : WayOrNone
way-or-none p ok v m e t a long = go (way p v m e) refl
  where
    go : (r : Option (List ℕ)) → way p v m e ≡ r → ((l : List ℕ) × (way_into p v m e a ≡ way_result 0 l)) ⊎ (way_into p v m e a ≡ way_result 30 a)
    go none h = inr (into-found p v m e a ok long t.node (target-by p v m e t) ∙ unfold found_into in ap (λ r. found_into r a) h)
    go (some l) h = inl (l, into-found p v m e a ok long t.node (target-by p v m e t) ∙ unfold found_into in ap (λ r. found_into r a) h)

pub no_way : NoWay
no_way p v m e a b h = way-none p (searched-plan p v m e a 30 b h (inr refl)) v m e (searched-node p v m e a 30 b h (inr refl))
    (found-30 (way p v m e) a b (searched p v m e a 30 b h (inr refl)))

pub way-there : WayThere
way-there p ok v m e t a r = go (way p v m e) refl
  where
    go : (r : Option (List ℕ)) → way p v m e ≡ r → (l : List ℕ) × IsWay p v m e l
    go none h = absurd (way-none p ok v m e t.node h a r)
    go (some l) h = (l, way-is p ok v m e t.node l h)

pub way-passes : WayPasses
way-passes p ok v m e t l s a long = into-found p v m e a ok long t.node (target-by p v m e t) ∙ go (way p v m e) refl
  where
    go : (r : Option (List ℕ)) → way p v m e ≡ r → found_into r a ≡ way_result 0 l
    go none h = absurd (way-none p ok v m e t.node h l s.leads)
    go (some n) h = unfold found_into in ap (way_result 0) (one_way p v m e n l (way-is p ok v m e t.node n h) s)

pub every-node : EveryNode
every-node p ok v m within three =
    let a : List ℕ = replicate (size p) 0 in
    let r = open-way (record { accepted = ok; within = within; three = three }) a (length-replicate {A = ℕ} (size p) 0) (every-open p ok a v m within three) in
    (r.0, way-is p ok v m m within r.0 r.1)
