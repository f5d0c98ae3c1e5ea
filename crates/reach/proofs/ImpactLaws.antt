-- The call: its number is 0 just where O6 says, which number it has otherwise, and what it leaves. Assumes nothing.
use mathlib.Core.Path.{◌≡◌, refl, sym, ◌∙◌, ap, subst}
use mathlib.Core.Bool.{Bool, true, false, cond, not}
use mathlib.Core.List.{List}
use mathlib.Core.Logic.{◌⊎◌, inl, inr}
use Prim.Native.Nat.{ℕ, ◌<◌, ◌≤◌}
use lib.Dec.{eqb, ltb, leb}
use lib.ListN.{length, get_or, set, length-set}
use lib.Seq.{ext_get_or, get_or-set_other, set-set, set-get_or}
use borrow.Author.Tests.{eqb-true, eqb-false, eq-eqb, ne_eqb, ltb-true, lt-ltb, le-ltb, leb-true, le-leb, lt-leb}
use native.Mathlib.Omega.{arith}
use Rattle.lists.proofs.Logic.{cases, decided, test-passed, number_passed, no_bool}
use Rattle.lists.proofs.Below.{below_at, below_by}
use Rattle.plan.specs.Plan.{is_kind, kind_number, size, kind}
use Rattle.plan.specs.declared.kinds.Kind.TheVariants.{Task as task}
use Rattle.plan.specs.Check.{Accepted}
use Rattle.plan.proofs.KindLaws.{same_kind}
use Rattle.pass.specs.Pass.{pass_result, pass, pass_number, pass_into}
use Rattle.pass.specs.Values.{Ready}
use Rattle.pass.proofs.PassLaws.{fits-ready, ready-fits, ready-into}
use Rattle.pass_nodes.specs.Nodes.{pass_mark, Read}
use Rattle.pass_nodes.proofs.NodeLaws.{marks-length}
use Rattle.pass_nodes.proofs.Main.{unread-free}
use Rattle.reach.specs.Reach.{OneTask, InReach}
use Rattle.reach.specs.Impact.{are_marks, new_number, change_number, impact_number, impact_into}
use Rattle.reach.specs.Claim.{Asked, Numbers, ImpactRight, ImpactPasses, ImpactNumbers, ImpactUnread, ImpactNone}
use Rattle.reach.proofs.ReachLaws.{one_set, change-within-reach}

-- a pass into m that leaves n: the plan and the lengths are right, the answers are accepted, and n are its marks
record Taken (p a m n : List ℕ) : Type 0 where
  ready : Ready p a m 0
  number : (pass p a).number ≡ 0
  left : n ≡ (pass p a).marks

module _ (p a m : List ℕ) where
  taken : (n : List ℕ) → pass_into p a m ≡ pass_result 0 n → Taken p a m n
  unfolding pass_into
  taken n h = cases (decided (eqb (pass_number p a m) 0))
      (λ f. let k : cond (not (eqb (pass p a).number 0)) (pass_result (pass p a).number m) (pass p a) ≡ pass_result 0 n = rw f at h in
      cases (decided (eqb (pass p a).number 0))
      (λ e. record { ready = fits-ready p a m (eqb-true _ _ f); number = eqb-true _ _ e; left = sym (ap (λ r. r.marks) (rw e at k)) })
      (λ e. absurd (eqb-false (pass p a).number 0 e (ap (λ r. r.number) (rw e at k)))))
      (λ f. absurd (eqb-false (pass_number p a m) 0 f (ap (λ r. r.number) (rw f at h))))

  takes : (n : List ℕ) → Taken p a m n → pass_into p a m ≡ pass_result 0 n
  takes n t = ready-into p a m t.ready ∙ rw t.number (ap (pass_result 0) (sym t.left))

-- m are the pass's marks, byte by byte
module _ (p a m : List ℕ) (long : length m ≡ size p) (z : Accepted p) (ok : (pass p a).number ≡ 0) where
  pub marks-are : are_marks p a m ≡ true → m ≡ (pass p a).marks
  unfolding are_marks
  marks-are h = ext_get_or 0 m (pass p a).marks (long ∙ sym (marks-length p z a ok))
      (λ v l. eqb-true _ _ (below_at (λ v. eqb (get_or m v 0) (get_or (pass p a).marks v 0)) (size p) v h (omega arith)))

pub are-marks : (p a m : List ℕ) → m ≡ (pass p a).marks → are_marks p a m ≡ true
unfolding are_marks
are-marks p a m e = below_by (λ v. eqb (get_or m v 0) (get_or (pass p a).marks v 0)) (size p) (λ v l. eq-eqb _ _ (ap (λ r. get_or r v 0) e))

-- what O6 asks for
record Meets (p a m : List ℕ) (t x : ℕ) : Type 0 where
  ready : Ready p a m 0
  node : t < size p
  is-task : kind p t ≡ task
  old : (pass p a).number ≡ 0
  byte : x ≤ 255
  new : (pass p (set a t x)).number ≡ 0
  marks : m ≡ (pass p a).marks

module _ (p a m : List ℕ) (t x : ℕ) where
  meets : impact_number p a m t x ≡ 0 → Meets p a m t x
  unfolding impact_number change_number new_number
  meets h =
      let s = number_passed (pass_number p a m) _ h in
      let r = fits-ready p a m s.0 in
      let s2 = test-passed (ltb t (size p)) 7 _ s.1 in
      let s3 = test-passed (is_kind task (kind p t)) 8 _ s2.1 in
      let s4 = number_passed (pass p a).number _ s3.1 in
      let s5 = number_passed (new_number p a t x) _ s4.1 in
      let s6 = test-passed (are_marks p a m) 27 0 s5.1 in
      let b = byte (leb x 255) refl s5.0 in
      record {
        ready = r;
        node = ltb-true t (size p) s2.0;
        is-task = same_kind task (kind p t) s3.0;
        old = s4.0;
        byte = leb-true x 255 b.0;
        new = b.1;
        marks = marks-are p a m r.marks r.accepted s4.0 s6.0;
      }
    where
      byte : (b : Bool) → leb x 255 ≡ b → cond b (pass p (set a t x)).number 13 ≡ 0 → (leb x 255 ≡ true) × ((pass p (set a t x)).number ≡ 0)
      byte true e h = (e, h)
      byte false e h = absurd (omega arith)

  met : Meets p a m t x → impact_number p a m t x ≡ 0
  unfolding impact_number change_number new_number is_kind kind_number
  met h = rw (
    ready-fits p a m h.ready,
    lt-ltb t (size p) h.node,
    h.is-task,
    h.old,
    le-leb x 255 h.byte,
    h.new,
    are-marks p a m h.marks,
  )

  passes : Meets p a m t x → impact_into p a m t x ≡ pass_result 0 (pass p (set a t x)).marks
  unfolding impact_into
  passes h = rw (met h)

  passed : (n : List ℕ) → impact_into p a m t x ≡ pass_result 0 n → Meets p a m t x × (n ≡ (pass p (set a t x)).marks)
  unfolding impact_into
  passed n h = cases (decided (eqb (impact_number p a m t x) 0))
      (λ e. (meets (eqb-true _ _ e), sym (ap (λ r. r.marks) (rw e at h))))
      (λ e. absurd (eqb-false (impact_number p a m t x) 0 e (ap (λ r. r.number) (rw e at h))))

  module _ (h : Meets p a m t x) where
    one-task : OneTask p a (set a t x) t
    one-task = one_set p a t x h.node h.is-task h.old h.new

    new-ready : (n : List ℕ) → length n ≡ size p → Ready p (set a t x) n 0
    new-ready n l = record { accepted = h.ready.accepted; answers = length-set a t x ∙ h.ready.answers; marks = l; node = h.ready.node }

    old-taken : Taken p a m m
    old-taken = record {
      ready = h.ready;
      number = h.old;
      left = h.marks;
    }

    set_back : set (set a t x) t (get_or a t 0) ≡ a
    set_back = set-set a t x (get_or a t 0) ∙ set-get_or a t 0

    back : (n : List ℕ) → n ≡ (pass p (set a t x)).marks → get_or a t 0 ≤ 255 → Meets p (set a t x) n t (get_or a t 0)
    back n e b = record {
      ready = new-ready n (ap length e ∙ marks-length p h.ready.accepted (set a t x) h.new);
      node = h.node;
      is-task = h.is-task;
      old = h.new;
      byte = b;
      new = ap (λ c. (pass p c).number) set_back ∙ h.old;
      marks = e;
    }

pub impact-right : ImpactRight
impact-right p a m t x n q =
    let r = passed p a m t x n q in
    let h = r.0 in
    record {
      old = takes p a m m (old-taken p a m t x h);
      byte = h.byte;
      one-task = one-task p a m t x h;
      new = λ b l. takes p (set a t x) b n (record { ready = new-ready p a m t x h b l; number = h.new; left = r.1 });
      reach = λ w s. go h r.1 w s;
      back = λ b. passes p (set a t x) n t (get_or a t 0) (back p a m t x h n r.1 b)
          ∙ ap (pass_result 0) (ap (λ c. (pass p c).marks) (set_back p a m t x h) ∙ sym h.marks);
    }
  where
    go : Meets p a m t x → n ≡ (pass p (set a t x)).marks → (w : ℕ) → w < size p → (get_or n w 0 ≡ get_or m w 0) ⊎ InReach p t w
    go h e w s = unfold pass_mark in cases ((change-within-reach p h.ready.accepted a (set a t x) t (one-task p a m t x h)).reach w s)
        (λ k. inl (ap (λ r. get_or r w 0) e ∙ sym k ∙ sym (ap (λ r. get_or r w 0) h.marks))) (λ k. inr k)

pub impact-passes : ImpactPasses
impact-passes p a m t x old byte one =
    let k = taken p a m m old in
    passes p a m t x (record { ready = k.ready; node = one.within; is-task = one.is-task; old = one.first; byte = byte; new = one.second; marks = k.left })

module _ (p a m : List ℕ) (t x : ℕ) where
  -- behind 9, the number is the change's
  asked : Asked p a m t → impact_number p a m t x ≡ change_number p a m t x
  unfolding impact_number is_kind kind_number
  asked h = rw (h.0, lt-ltb t (size p) h.1, h.2)

  by_kind : pass_number p a m ≡ 0 → t < size p → (kind p t ≡ task → ⊥) → impact_number p a m t x ≡ 9
  unfolding impact_number
  by_kind z l n = rw (z, lt-ltb t (size p) l, no_bool (is_kind task (kind p t)) (λ e. n (same_kind task (kind p t) e)))

  change-old : ((pass p a).number ≡ 0 → ⊥) → change_number p a m t x ≡ (pass p a).number
  unfolding change_number
  change-old n = rw (ne_eqb (pass p a).number 0 n)

  change-byte : (pass p a).number ≡ 0 → 255 < x → change_number p a m t x ≡ 13
  unfolding change_number new_number
  change-byte z l = rw (z, lt-leb x 255 l)

  change-new : (pass p a).number ≡ 0 → x ≤ 255 → ((pass p (set a t x)).number ≡ 0 → ⊥) → change_number p a m t x ≡ (pass p (set a t x)).number
  unfolding change_number new_number
  change-new z l n = rw (z, le-leb x 255 l, ne_eqb (pass p (set a t x)).number 0 n)

  change-marks : pass_number p a m ≡ 0 → OneTask p a (set a t x) t → x ≤ 255 → (m ≡ (pass p a).marks → ⊥) → change_number p a m t x ≡ 28
  unfolding change_number new_number
  change-marks z o l n =
      let r = fits-ready p a m z in
      rw (o.first, le-leb x 255 l, o.second, no_bool (are_marks p a m) (λ e. n (marks-are p a m r.marks r.accepted o.first e)))

  numbers : Numbers p a m t x
  unfolding impact_number impact_into
  numbers = record {
    by-lent = λ n. rw (ne_eqb (pass_number p a m) 0 n);
    by-node = λ z l. rw (z, le-ltb t (size p) l);
    by_kind = by_kind;
    by_old = λ h n. asked h ∙ change-old n;
    by_byte = λ h z l. asked h ∙ change-byte z l;
    by-new = λ h z l n. asked h ∙ change-new z l n;
    by-marks = λ h o l n. asked h ∙ change-marks h.0 o l n;
    kept = λ n. rw (ne_eqb (impact_number p a m t x) 0 n);
  }

pub impact-numbers : ImpactNumbers
impact-numbers = numbers

pub impact-unread : ImpactUnread
impact-unread p a m t x l k old off byte =
    let h = taken p a m m old in
    let free = unread-free p h.ready.accepted a (set a t x) h.number read in
    impact-passes p a m t x old byte (one_set p a t x l k h.number free.0)
    ∙ ap (pass_result 0) (same-marks h free ∙ sym h.left)
  where
    read : (v : ℕ) → v < size p → Read p a v → get_or a v 0 ≡ get_or (set a t x) v 0
    read v s r = sym (get_or-set_other a t v x 0 (λ e. r.reached (subst (λ w. pass_mark p a w ≡ 0) (sym e) off)))

    same-marks : Taken p a m m → ((pass p (set a t x)).number ≡ 0) × ((v : ℕ) → v < size p → pass_mark p (set a t x) v ≡ pass_mark p a v) →
        (pass p (set a t x)).marks ≡ (pass p a).marks
    same-marks h f = unfold pass_mark in
        let long = marks-length p h.ready.accepted (set a t x) f.0 in
        ext_get_or 0 (pass p (set a t x)).marks (pass p a).marks (long ∙ sym (marks-length p h.ready.accepted a h.number)) (λ v s. f.1 v (omega arith))

pub impact-none : ImpactNone
impact-none p a m t l k b = (
  λ q. let h = (passed p a m t (get_or a t 0) m q).0 in takes p a m m (old-taken p a m t (get_or a t 0) h),
  λ q. let h = taken p a m m q in
      passes p a m t (get_or a t 0) (record { ready = h.ready; node = l; is-task = k; old = h.number; byte = b; new = ap (λ c. (pass p c).number) (set-get_or a t 0) ∙ h.number; marks = h.left })
      ∙ ap (pass_result 0) (ap (λ c. (pass p c).marks) (set-get_or a t 0) ∙ sym h.left),
)
