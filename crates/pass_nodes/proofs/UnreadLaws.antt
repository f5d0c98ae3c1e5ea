-- Answers that the pass does not read are free. Assumes nothing.
use mathlib.Core.Path.{◌≡◌, refl, sym, ◌∙◌, ap, ap₂}
use mathlib.Core.Bool.{Bool, true, false, cond}
use mathlib.Core.List.{List, [], ◌∷◌}
use mathlib.Core.Logic.{◌⊎◌, inl, inr}
use Prim.Native.Nat.{ℕ, zero, suc, ◌+◌, ◌≤◌, ◌<◌}
use lib.Dec.{eqb}
use lib.ListN.{get_or}
use borrow.Author.Tests.{eqb-true, eqb-false, eq-eqb, ne_eqb}
use native.Mathlib.Omega.{arith}
use Rattle.lists.specs.Member.{In, here, there, Rising, next}
use Rattle.lists.proofs.Logic.{cases, clash, decided}
use Rattle.lists.proofs.Members.{rising-above}
use Rattle.plan.specs.Plan.{is_kind, kind_number, size, kind, parent, children}
use Rattle.plan.specs.declared.kinds.Kind.{Kind}
use Rattle.plan.specs.declared.kinds.Kind.TheVariants.{Task as task, Serial as serial, And as and, Or as or, Xor as xor, Contingency as contingency, Conditional as conditional, Waiting as waiting}
use Rattle.plan.specs.Check.{Accepted}
use Rattle.plan.proofs.PlanLaws.{rising-children}
use Rattle.plan.proofs.AcceptedLaws.{child-between, parent-child}
use Rattle.pass.specs.Pass.{Outcome, works, breaks, fault, Tally, goes, goes_by, note, skip, nothing, bad_answer, bad_pick, closes, good_mark, child_mark, end_of, number_of, root_mark, pass}
use Rattle.pass_nodes.specs.Nodes.{counted, tallied, end_by, end_at, next_mark, mark_among, gives, pass_mark, has_answer, Read}
use Rattle.pass_nodes.specs.Claim.{UnreadFree}
use Rattle.pass_nodes.proofs.EndLaws.{Clean, end_clean, count-off, next-on, next-off, first-sound}
use Rattle.pass_nodes.proofs.MarkLaws.{clean-mark}
use Rattle.pass_nodes.proofs.NodeLaws.{root-on, pass-by-nodes}
use Rattle.pass_nodes.proofs.ReachedLaws.{node, reached, child-on, child-off, gives-is}

-- kinds whose answer is not read
abbrev Deaf : Kind → Type 0
Deaf k = has_answer k ≡ false

-- tallies that differ at most in whether the answer's place was met
record Like (t u : Tally) : Type 0 where
  places : t.places ≡ u.places
  worked : t.worked ≡ u.worked
  broke : t.broke ≡ u.broke
  wrong : t.wrong ≡ u.wrong

like-same : (t : Tally) → Like t t
like-same t = record { places = refl; worked = refl; broke = refl; wrong = refl }

like-note : (x y : ℕ) (t u : Tally) (o : Outcome) → Like t u → Like (note x t o) (note y u o)
unfolding note
like-note x y t u works h = record { places = ap suc h.places; worked = refl; broke = h.broke; wrong = h.wrong }
like-note x y t u breaks h = record { places = ap suc h.places; worked = h.worked; broke = refl; wrong = h.wrong }
like-note x y t u (fault n) h = record { places = ap suc h.places; worked = h.worked; broke = h.broke; wrong = refl }

like-skip : (t u : Tally) → Like t u → Like (skip t) (skip u)
unfolding skip
like-skip t u h = record { places = ap suc h.places; worked = h.worked; broke = h.broke; wrong = h.wrong }

module _ (x y : ℕ) where
  like-goes : (k : Kind) → Deaf k → (t u : Tally) → Like t u → goes k x t ≡ goes k y u
  unfolding goes goes_by has_answer
  like-goes task d t u h = clash true refl d
  like-goes serial d t u h = rw (h.wrong, h.broke)
  like-goes and d t u h = rw h.wrong
  like-goes or d t u h = rw h.wrong
  like-goes xor d t u h = clash true refl d
  like-goes contingency d t u h = rw (h.wrong, h.worked)
  like-goes conditional d t u h = clash true refl d
  like-goes waiting d t u h = rw h.wrong

  like-end : (k : Kind) → Deaf k → (t u : Tally) → Like t u → end_of k x t ≡ end_of k y u
  unfolding end_of bad_pick closes has_answer
  like-end task d t u h = clash true refl d
  like-end serial d t u h = rw (h.wrong, h.broke)
  like-end and d t u h = rw (h.wrong, h.broke)
  like-end or d t u h = rw (h.wrong, h.worked)
  like-end xor d t u h = clash true refl d
  like-end contingency d t u h = rw (h.wrong, h.worked)
  like-end conditional d t u h = clash true refl d
  like-end waiting d t u h = rw (h.wrong, h.broke)

  good-three : (k : Kind) → Deaf k → (z n : ℕ) → good_mark k z n ≡ 3
  unfolding good_mark is_kind kind_number has_answer
  good-three task d z n = refl
  good-three serial d z n = refl
  good-three and d z n = refl
  good-three or d z n = refl
  good-three xor d z n = clash true refl d
  good-three contingency d z n = refl
  good-three conditional d z n = refl
  good-three waiting d z n = refl

  like-mark : (k : Kind) → Deaf k → (t u : Tally) (o : Outcome) → child_mark k x t o ≡ child_mark k y u o
  unfolding child_mark
  like-mark k d t u works = good-three k d x _ ∙ sym (good-three k d y _)
  like-mark k d t u breaks = refl
  like-mark k d t u (fault n) = refl

  bad-none : (k : Kind) → Deaf k → (z : ℕ) → bad_answer k z ≡ 0
  unfolding bad_answer has_answer
  bad-none task d z = clash true refl d
  bad-none serial d z = refl
  bad-none and d z = refl
  bad-none or d z = refl
  bad-none xor d z = refl
  bad-none contingency d z = refl
  bad-none conditional d z = clash true refl d
  bad-none waiting d z = refl

  module _ (k : Kind) (d : Deaf k) (e : ℕ → Outcome) where
    like-count : (t u : Tally) (o : Outcome) → Like t u → Like (counted k x t o) (counted k y u o)
    unfolding counted
    like-count t u o h = rw (like-goes k d t u h) (go (goes k y u))
      where
        go : (b : Bool) → Like (cond b (note x t o) (skip t)) (cond b (note y u o) (skip u))
        go true = like-note x y t u o h
        go false = like-skip t u h

    like-next : (t u : Tally) (o : Outcome) → Like t u → next_mark k x t o ≡ next_mark k y u o
    unfolding next_mark
    like-next t u o h = rw (like-goes k d t u h, like-mark k d t u o)

    like-tally : (cs : List ℕ) (t u : Tally) → Like t u → Like (tallied k x e cs t) (tallied k y e cs u)
    unfolding tallied
    like-tally [] t u h = h
    like-tally (c ∷ cs) t u h = like-tally cs (counted k x t (e c)) (counted k y u (e c)) (like-count t u (e c) h)

    like-among : (cs : List ℕ) (t u : Tally) (c : ℕ) → Like t u → mark_among k x e cs t c ≡ mark_among k y e cs u c
    unfolding mark_among
    like-among [] t u c h = refl
    like-among (b ∷ cs) t u c h = ap₂ (cond (eqb b c)) (like-next t u (e b) h) (like-among cs (counted k x t (e b)) (counted k y u (e b)) c (like-count t u (e b) h))

    deaf-end : (cs : List ℕ) → end_by k x e cs ≡ end_by k y e cs
    unfolding end_by
    deaf-end cs = rw (bad-none k d x, bad-none k d y)
        (like-end k d _ _ (like-tally cs nothing nothing (like-same nothing)))

-- with other ends where no child is reached
module _ (k : Kind) (x : ℕ) (e g : ℕ → Outcome) where
  abbrev Agree : List ℕ → Tally → Type 0
  Agree cs t = (c : ℕ) → In c cs → (mark_among k x e cs t c ≡ 0 → ⊥) → g c ≡ e c

  -- the first child, and the others
  first-same : (c : ℕ) (cs : List ℕ) (t : Tally) → (number_of (e c) ≡ 0 → Clean (e c)) → (tallied k x e (c ∷ cs) t).wrong ≡ 0 → Agree (c ∷ cs) t →
      (counted k x t (g c) ≡ counted k x t (e c)) × (next_mark k x t (g c) ≡ next_mark k x t (e c))
  unfolding mark_among
  first-same c cs t cl s h = go (goes k x t) refl
    where
      go : (b : Bool) → goes k x t ≡ b → (counted k x t (g c) ≡ counted k x t (e c)) × (next_mark k x t (g c) ≡ next_mark k x t (e c))
      go true q =
          let z = clean-mark k x t (e c) (cl (first-sound k x e c cs t s q)) in
          let same = h c (here refl) (λ n. z (sym (next-on k x t (e c) q) ∙ sym (ap (λ b. cond b (next_mark k x t (e c)) (mark_among k x e cs (counted k x t (e c)) c)) (eq-eqb c c refl)) ∙ n)) in
          (ap (counted k x t) same, ap (next_mark k x t) same)
      go false q = (count-off k x t (g c) q ∙ sym (count-off k x t (e c) q), next-off k x t (g c) q ∙ sym (next-off k x t (e c) q))

  seen : (d : ℕ) (cs : List ℕ) (t : Tally) → Rising d cs → ((c : ℕ) → In c cs → number_of (e c) ≡ 0 → Clean (e c)) → (tallied k x e cs t).wrong ≡ 0 → Agree cs t →
      (tallied k x g cs t ≡ tallied k x e cs t) × ((c : ℕ) → mark_among k x g cs t c ≡ mark_among k x e cs t c)
  unfolding tallied mark_among
  seen d [] t r cl s h = (refl, λ c. refl)
  seen d (c ∷ cs) t (next l r) cl s h =
      let f = first-same c cs t (cl c (here refl)) s h in
      let q = seen c cs (counted k x t (e c)) r (λ b i. cl b (there i)) s
      (λ b i n. h b (there i) (λ z. n (sym (ap (λ y. cond y (next_mark k x t (e c)) (mark_among k x e cs (counted k x t (e c)) b)) (ne_eqb c b (less b i))) ∙ z))) in
      (ap (tallied k x g cs) f.0 ∙ q.0, λ b. ap₂ (cond (eqb c b)) f.1 (ap (λ u. mark_among k x g cs u b) f.0 ∙ q.1 b))
    where
      less : (b : ℕ) → In b cs → c ≡ b → ⊥
      less b i e = let z = rising-above r i in omega arith

module _ (p : List ℕ) (ok : Accepted p) (a b : List ℕ) (z : (pass p a).number ≡ 0)
    (same : (v : ℕ) → v < size p → Read p a v → get_or a v 0 ≡ get_or b v 0) where
  -- at a reached node the answer is the same, or not read
  module _ (v : ℕ) (l : v < size p) (nz : pass_mark p a v ≡ 0 → ⊥) where
    answer : (get_or a v 0 ≡ get_or b v 0) ⊎ Deaf (kind p v)
    answer = cases (decided (has_answer (kind p v))) (λ h. inl (same v l (record { by_kind = h; reached = nz }))) (λ d. inr d)

    end-free : (e : ℕ → Outcome) → end_by (kind p v) (get_or b v 0) e (children p v) ≡ end_by (kind p v) (get_or a v 0) e (children p v)
    end-free e = cases answer (λ q. ap (λ x. end_by (kind p v) x e (children p v)) (sym q)) (λ d. deaf-end (get_or b v 0) (get_or a v 0) (kind p v) d e (children p v))

    hand-free : (e : ℕ → Outcome) (c : ℕ) → mark_among (kind p v) (get_or b v 0) e (children p v) nothing c ≡ mark_among (kind p v) (get_or a v 0) e (children p v) nothing c
    hand-free e c = cases answer (λ q. ap (λ x. mark_among (kind p v) x e (children p v) nothing c) (sym q))
        (λ d. like-among (get_or b v 0) (get_or a v 0) (kind p v) d e (children p v) nothing nothing c (like-same nothing))

    -- where the reached children end alike
    module _ (kids : (c : ℕ) → In c (children p v) → (pass_mark p a c ≡ 0 → ⊥) → end_at p b c ≡ end_at p a c) where
      seen_here : (tallied (kind p v) (get_or a v 0) (end_at p b) (children p v) nothing ≡ tallied (kind p v) (get_or a v 0) (end_at p a) (children p v) nothing)
          × ((c : ℕ) → mark_among (kind p v) (get_or a v 0) (end_at p b) (children p v) nothing c ≡ mark_among (kind p v) (get_or a v 0) (end_at p a) (children p v) nothing c)
      seen_here = seen (kind p v) (get_or a v 0) (end_at p a) (end_at p b) 0 (children p v) nothing (rising-children p v)
          (λ c i. end_clean p ok a c (child-between p ok v i).1) (node p ok a z v l (reached p ok a z v l nz)).sound
          (λ c i n. kids c i (λ q. n (sym (child-on p ok a z v c i nz ∙ gives-is p ok a z v c) ∙ q)))

      end-here : end_at p b v ≡ end_at p a v
      unfolding end_by
      end-here = (pass-by-nodes p ok b).ends v l ∙ end-free (end_at p b)
          ∙ ap (λ t. cond (eqb (bad_answer (kind p v) (get_or a v 0)) 0) (end_of (kind p v) (get_or a v 0) t) (fault (bad_answer (kind p v) (get_or a v 0)))) seen_here.0
          ∙ sym ((pass-by-nodes p ok a).ends v l)

      gives-here : (c : ℕ) → gives p b v c ≡ gives p a v c
      unfolding gives
      gives-here c = hand-free (end_at p b) c ∙ seen_here.1 c

  ends : (f v : ℕ) → size p ≤ v + f → v < size p → (pass_mark p a v ≡ 0 → ⊥) → end_at p b v ≡ end_at p a v
  ends zero v h l nz = absurd (omega arith)
  ends (suc f) v h l nz = end-here v l nz (λ c i n. let q = child-between p ok v i in ends f c (omega arith) q.1 n)

  ended : (v : ℕ) → v < size p → (pass_mark p a v ≡ 0 → ⊥) → end_at p b v ≡ end_at p a v
  ended v l nz = ends (size p) v (omega arith) l nz

  number-free : (pass p b).number ≡ 0
  number-free = (pass-by-nodes p ok b).number ∙ ap number_of (ended 0 ok.some (root-on p ok a z)) ∙ sym (pass-by-nodes p ok a).number ∙ z

  marks : (n v : ℕ) → v < n → v < size p → pass_mark p b v ≡ pass_mark p a v
  marks zero v l s = absurd (omega arith)
  marks (suc n) v l s = cases (decided (eqb v 0))
      (λ e. rw (eqb-true v 0 e) ((pass-by-nodes p ok b).root number-free ∙ ap root_mark (ended 0 ok.some (root-on p ok a z)) ∙ sym ((pass-by-nodes p ok a).root z)))
      (λ e. let ne : v ≡ 0 → ⊥ = eqb-false v 0 e in
      let low = ok.below v (omega arith) s in
      let i = parent-child p ok v (omega arith) s in
      let up = marks n (parent p v) (omega arith) (omega arith) in
      cases (decided (eqb (pass_mark p a (parent p v)) 0))
      (λ q. let off = eqb-true (pass_mark p a (parent p v)) 0 q in
      child-off p ok b number-free (parent p v) v i (up ∙ off) ∙ sym (child-off p ok a z (parent p v) v i off))
      (λ q. let on = eqb-false (pass_mark p a (parent p v)) 0 q in
      child-on p ok b number-free (parent p v) v i (λ h. on (sym up ∙ h))
      ∙ gives-here (parent p v) (omega arith) on (λ c j n. ended c (child-between p ok (parent p v) j).1 n) v ∙ sym (child-on p ok a z (parent p v) v i on)))

pub unread-free : UnreadFree
unread-free p ok a b z same = (number-free p ok a b z same, λ v s. marks p ok a b z same (suc v) v (omega arith) s)
