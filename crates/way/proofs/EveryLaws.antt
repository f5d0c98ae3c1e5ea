-- Q8: a node off the path to w can get every mark, and so each node on it can get mark 3, or mark 4, with w. Assumes nothing.
use mathlib.Core.Path.{◌≡◌, refl, ◌∙◌}
use mathlib.Core.Bool.{Bool, true, false, cond, ◌&&◌, or-true}
use mathlib.Core.List.{List, [], ◌∷◌}
use mathlib.Core.Logic.{◌⊎◌}
use Prim.Native.Nat.{ℕ, zero, suc, ◌+◌, ◌≤◌, ◌<◌}
use native.Mathlib.Omega.{arith}
use lib.Dec.{eqb}
use lib.ListN.{length}
use borrow.Author.Tests.{eqb-true, eqb-false, eq-eqb, ne_eqb, le-ltb}
use Rattle.lists.specs.Seq.{all}
use Rattle.lists.specs.Member.{In, here, there, Rising, next}
use Rattle.lists.proofs.Logic.{cases, decided, clash, and-join}
use Rattle.lists.proofs.Members.{all-by, rising-above, in-none}
use Rattle.plan.specs.Plan.{kind, children, size, is_kind, kind_number}
use Rattle.plan.specs.declared.kinds.Kind.{Kind}
use Rattle.plan.specs.declared.kinds.Kind.TheVariants.{Task as task, Serial as serial, And as and, Or as or, Xor as xor, Contingency as contingency, Conditional as conditional, Waiting as waiting}
use Rattle.plan.specs.Check.{Accepted}
use Rattle.plan.specs.Under.{Under, self}
use Rattle.plan.proofs.PlanLaws.{rising-children}
use Rattle.plan.proofs.KindLaws.{same_kind}
use Rattle.plan.proofs.AcceptedLaws.{child-between}
use Rattle.plan.proofs.UnderLaws.{under_low, under-child, under-below, through, apart, under-root}
use Rattle.way.specs.Can.{stops, gets, gets_one, works_by, breaks_by, can_by, can_at, fits_of, allows_of, open_at}
use Rattle.way.proofs.CanLaws.{can-is}

-- one child d as g says, and any other as f and as h say
stops-one : (ok f g h : ℕ → Bool) (n e d : ℕ) (cs : List ℕ) → Rising e cs → In d cs → ((x : ℕ) → ok x ≡ true) → g d ≡ true →
    ((c : ℕ) → In c cs → (c ≡ d → ⊥) → (f c ≡ true) × (h c ≡ true)) → stops ok f g h n cs ≡ true
unfolding stops
stops-one ok f g h n e d [] r i y x o = absurd (in-none i)
stops-one ok f g h n e d (c ∷ cs) (next l r) (here q) y x o =
    let a : all h cs ≡ true = all-by h cs (λ b j. (o b (there j) (λ z. let k = rising-above r j in omega arith)).1) in
    rw (← q, x, y (suc n), a) (or-true (f d && stops ok f g h (suc n) cs))
stops-one ok f g h n e d (c ∷ cs) (next l r) (there i) y x o =
    rw ((o c (here refl) (λ z. let k = rising-above r i in omega arith)).0, stops-one ok f g h (suc n) c d cs r i y x (λ b j. o b (there j)))

module _ (fits : ℕ → Bool) (any : (x : ℕ) → fits x ≡ true) (can : ℕ → ℕ → Bool) (cs : List ℕ) (rise : Rising 0 cs) (d : ℕ) (i : In d cs)
    (others : (c : ℕ) → In c cs → (c ≡ d → ⊥) → (n : ℕ) → can c n ≡ true) where
  -- all of one mark
  alike : (m : ℕ) → can d m ≡ true → all (gets can m) cs ≡ true
  alike m h = all-by (gets can m) cs (λ c j. cases (decided (eqb c d)) (λ q. rw (eqb-true c d q) h) (λ q. others c j (eqb-false c d q) m))

  one_of : (m n : ℕ) (c : ℕ) → In c cs → (c ≡ d → ⊥) → gets_one can m n c ≡ true
  one_of m n c j ne = rw (others c j ne m)

  works-one : can d 3 ≡ true → (k : Kind) → works_by fits can k cs ≡ true
  unfolding works_by
  works-one h task = any 1
  works-one h serial = alike 3 h
  works-one h and = alike 3 h
  works-one h or = stops-one _ _ _ _ 0 0 d cs rise i (λ x. refl) h (λ c j ne. (others c j ne 4, one_of 3 4 c j ne))
  works-one h xor = stops-one _ _ _ _ 0 0 d cs rise i any h (λ c j ne. (one_of 5 4 c j ne, one_of 5 4 c j ne))
  works-one h contingency = stops-one _ _ _ _ 0 0 d cs rise i (λ x. refl) h (λ c j ne. (others c j ne 4, others c j ne 0))
  works-one h conditional = stops-one _ _ _ _ 0 0 d cs rise i any h (λ c j ne. (others c j ne 0, others c j ne 0))
  works-one h waiting = alike 3 h

  breaks-one : can d 4 ≡ true → (k : Kind) → breaks_by fits can k cs ≡ true
  unfolding breaks_by
  breaks-one h task = any 2
  breaks-one h serial = stops-one _ _ _ _ 0 0 d cs rise i (λ x. refl) h (λ c j ne. (others c j ne 3, others c j ne 0))
  breaks-one h and = stops-one _ _ _ _ 0 0 d cs rise i (λ x. refl) h (λ c j ne. (others c j ne 3, one_of 3 4 c j ne))
  breaks-one h or = alike 4 h
  breaks-one h xor = and-join _ _ (any 0) (alike 4 h)
  breaks-one h contingency = alike 4 h
  breaks-one h conditional = stops-one _ _ _ _ 0 0 d cs rise i any h (λ c j ne. (others c j ne 0, others c j ne 0))
  breaks-one h waiting = stops-one _ _ _ _ 0 0 d cs rise i (λ x. refl) h (λ c j ne. (others c j ne 3, one_of 3 4 c j ne))

  one-by : (m : ℕ) → (m ≡ 3) ⊎ (m ≡ 4) → can d m ≡ true → (k : Kind) → can_by m fits can k cs ≡ true
  unfolding can_by
  one-by m h s k = cases h (λ q. rw q (works-one (rw q at s) k)) (λ q. rw q (breaks-one (rw q at s) k))

-- where the children can get every mark, so can the node
module _ (fits : ℕ → Bool) (any : (x : ℕ) → fits x ≡ true) (can : ℕ → ℕ → Bool) where
  all-free : (cs : List ℕ) → Rising 0 cs → ((c : ℕ) → In c cs → (n : ℕ) → can c n ≡ true) → (k : Kind) → ((k ≡ task → ⊥) → 0 < length cs) →
      (works_by fits can k cs ≡ true) × (breaks_by fits can k cs ≡ true)
  unfolding works_by breaks_by
  all-free (c ∷ cs) r h k s = (
    works-one fits any can (c ∷ cs) r c (here refl) (λ b j ne n. h b j n) (h c (here refl) 3) k,
    breaks-one fits any can (c ∷ cs) r c (here refl) (λ b j ne n. h b j n) (h c (here refl) 4) k,
  )
  all-free [] r h k s = cases (decided (is_kind task k))
      (λ q. rw (same_kind task k q) (any 1, any 2))
      (λ q. let z : 0 < 0 = s (λ e. clash (is_kind task k) (rw e (unfold is_kind kind_number in refl)) q) in absurd (omega arith))

  free-by : (cs : List ℕ) → Rising 0 cs → ((c : ℕ) → In c cs → (n : ℕ) → can c n ≡ true) → (k : Kind) → ((k ≡ task → ⊥) → 0 < length cs) →
      (n : ℕ) → can_by n fits can k cs ≡ true
  unfolding can_by
  free-by cs r h k s n = go (eqb n 0) (eqb n 4)
    where
      go : (b d : Bool) → cond b (all (gets can 0) cs) (cond d (breaks_by fits can k cs) (works_by fits can k cs)) ≡ true
      go true d = all-by (gets can 0) cs (λ c j. h c j 0)
      go false true = (all-free cs r h k s).1
      go false false = (all-free cs r h k s).0

module _ (p : List ℕ) (ok : Accepted p) (a : List ℕ) (w m : ℕ) (within : w < size p) (three : (m ≡ 3) ⊎ (m ≡ 4)) where
  abbrev able : ℕ → ℕ → Bool
  able = can_at p (fits_of a 0) (allows_of w m)

  any-fits : (v x : ℕ) → fits_of a 0 v x ≡ true
  unfolding fits_of
  any-fits v x = rw (le-ltb v 0 (omega arith))

  allows-other : (v n : ℕ) → (v ≡ w → ⊥) → allows_of w m v n ≡ true
  unfolding allows_of
  allows-other v n ne = rw (ne_eqb v w ne)

  -- off the path
  off-path : (f v : ℕ) → size p ≤ f + v → v < size p → (Under p v w → ⊥) → (n : ℕ) → able v n ≡ true
  off-path zero v h l u n = absurd (omega arith)
  off-path (suc f) v h l u n = can-is p ok (fits_of a 0) (allows_of w m) v n l ∙ and-join _ _ (allows-other v n (λ e. u (self e)))
      (free-by (fits_of a 0 v) (any-fits v) able (children p v) (rising-children p v)
      (λ c i n. let b = child-between p ok v i in off-path f c (omega arith) b.1 (λ z. u (under-child p v c w i z)) n) (kind p v) (ok.blocks v l) n)

  off : (v : ℕ) → v < size p → (Under p v w → ⊥) → (n : ℕ) → able v n ≡ true
  off v l u n = off-path (size p) v (omega arith) l u n

  allows-target : allows_of w m w m ≡ true
  unfolding allows_of
  allows-target = rw (eq-eqb w w refl) (eq-eqb m m refl)

  at_target : able w m ≡ true
  at_target = can-is p ok (fits_of a 0) (allows_of w m) w m within ∙ and-join _ _ allows-target
      (free-by (fits_of a 0 w) (any-fits w) able (children p w) (rising-children p w)
      (λ c i n. let b = child-between p ok w i in off c b.1 (λ z. let k = under_low p ok c w within z in omega arith) n) (kind p w) (ok.blocks w within) m)

  on-path : (f v : ℕ) → size p ≤ f + v → v < size p → Under p v w → able v m ≡ true
  on-path zero v h l u = absurd (omega arith)
  on-path (suc f) v h l u = cases (decided (eqb v w))
      (λ q. rw (eqb-true v w q) at_target)
      (λ q. let ne = eqb-false v w q in
      let t = through p ok v w within (under-below p v w ne u) in
      let b = child-between p ok v t.1 in
      can-is p ok (fits_of a 0) (allows_of w m) v m l ∙ and-join _ _ (allows-other v m ne)
      (one-by (fits_of a 0 v) (any-fits v) able (children p v) (rising-children p v) t.0 t.1
      (λ c i n k. off c (child-between p ok v i).1 (λ z. apart p ok v c t.0 i t.1 n w z t.2) k) m three
      (on-path f t.0 (omega arith) b.1 t.2) (kind p v)))

  pub every-open : open_at p w m m a 0 ≡ true
  unfolding open_at
  every-open = on-path (size p) 0 (omega arith) ok.some (under-root p ok (suc w) w (omega arith) within)
