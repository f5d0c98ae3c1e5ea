-- `can_within` with enough levels: its equation, which no longer counts them. Assumes nothing.
use mathlib.Core.Path.{◌≡◌, refl, sym, ◌∙◌, ap, ap₂}
use mathlib.Core.Bool.{Bool, ◌&&◌, ◌||◌}
use mathlib.Core.List.{List, [], ◌∷◌}
use Prim.Native.Nat.{ℕ, zero, suc, ◌+◌, ◌≤◌, ◌<◌}
use native.Mathlib.Omega.{arith}
use Rattle.lists.specs.Member.{In, here, there}
use Rattle.lists.proofs.Members.{all_same}
use Rattle.plan.specs.Plan.{kind, children, size}
use Rattle.plan.specs.declared.kinds.Kind.{Kind}
use Rattle.plan.specs.declared.kinds.Kind.TheVariants.{Task as task, Serial as serial, And as and, Or as or, Xor as xor, Contingency as contingency, Conditional as conditional, Waiting as waiting}
use Rattle.plan.specs.Check.{Accepted}
use Rattle.plan.specs.Under.{Under, self}
use Rattle.plan.proofs.UnderLaws.{under-child}
use Rattle.plan.proofs.AcceptedLaws.{child-between}
use Rattle.way.specs.Can.{stops, gets, gets_one, works_by, breaks_by, can_by, can_within, can_at}

stops_same : (ok f g h f' g' h' : ℕ → Bool) (n : ℕ) (cs : List ℕ) → ((c : ℕ) → In c cs → f c ≡ f' c) → ((c : ℕ) → In c cs → g c ≡ g' c) → ((c : ℕ) → In c cs → h c ≡ h' c) →
    stops ok f g h n cs ≡ stops ok f' g' h' n cs
unfolding stops
stops_same ok f g h f' g' h' n [] x y z = refl
stops_same ok f g h f' g' h' n (c ∷ cs) x y z = simp (
  x c (here refl),
  y c (here refl),
  all_same h h' cs (λ d i. z d (there i)),
  stops_same ok f g h f' g' h' (suc n) cs (λ d i. x d (there i)) (λ d i. y d (there i)) (λ d i. z d (there i)),
)

module _ (fits : ℕ → Bool) (f g : ℕ → ℕ → Bool) (cs : List ℕ) (h : (c : ℕ) → In c cs → (m : ℕ) → f c m ≡ g c m) where
  two : (m n : ℕ) (c : ℕ) → In c cs → gets_one f m n c ≡ gets_one g m n c
  two m n c i = ap₂ ◌||◌ (h c i m) (h c i n)

  -- whatever marks a table asks for
  ruleset marks = (two)

  works-same : (k : Kind) → works_by fits f k cs ≡ works_by fits g k cs
  unfolding works_by
  works-same task = refl
  works-same serial = all_same _ _ cs (search marks)
  works-same and = all_same _ _ cs (search marks)
  works-same or = stops_same _ _ _ _ _ _ _ _ cs (search marks) (search marks) (search marks)
  works-same xor = stops_same _ _ _ _ _ _ _ _ cs (search marks) (search marks) (search marks)
  works-same contingency = stops_same _ _ _ _ _ _ _ _ cs (search marks) (search marks) (search marks)
  works-same conditional = stops_same _ _ _ _ _ _ _ _ cs (search marks) (search marks) (search marks)
  works-same waiting = all_same _ _ cs (search marks)

  breaks-same : (k : Kind) → breaks_by fits f k cs ≡ breaks_by fits g k cs
  unfolding breaks_by
  breaks-same task = refl
  breaks-same serial = stops_same _ _ _ _ _ _ _ _ cs (search marks) (search marks) (search marks)
  breaks-same and = stops_same _ _ _ _ _ _ _ _ cs (search marks) (search marks) (search marks)
  breaks-same or = all_same _ _ cs (search marks)
  breaks-same xor = ap (λ b. fits 0 && b) (all_same _ _ cs (search marks))
  breaks-same contingency = all_same _ _ cs (search marks)
  breaks-same conditional = stops_same _ _ _ _ _ _ _ _ cs (search marks) (search marks) (search marks)
  breaks-same waiting = stops_same _ _ _ _ _ _ _ _ cs (search marks) (search marks) (search marks)

  by-same : (m : ℕ) (k : Kind) → can_by m fits f k cs ≡ can_by m fits g k cs
  unfolding can_by
  by-same m k = simp (all_same (gets f 0) (gets g 0) cs (search marks), breaks-same k, works-same k)

module _ (p : List ℕ) (ok : Accepted p) (fits allows : ℕ → ℕ → Bool) where
  can-levels : (f g v m : ℕ) → size p ≤ v + f → size p ≤ v + g → v < size p → can_within p fits allows f v m ≡ can_within p fits allows g v m
  unfolding can_within
  can-levels zero g v m h k l = absurd (omega arith)
  can-levels (suc f) zero v m h k l = absurd (omega arith)
  can-levels (suc f) (suc g) v m h k l = ap (λ b. allows v m && b)
      (by-same (fits v) (λ c n. can_within p fits allows f c n) (λ c n. can_within p fits allows g c n) (children p v)
      (λ c i n. let b = child-between p ok v i in can-levels f g c n (omega arith) (omega arith) b.1) m (kind p v))

  pub can-is : (v m : ℕ) → v < size p → can_at p fits allows v m ≡ (allows v m && can_by m (fits v) (can_at p fits allows) (kind p v) (children p v))
  unfolding can_at can_within
  can-is v m l = can-levels (size p) (suc (size p)) v m (omega arith) (omega arith) l

-- what a node can get goes by the answers in its subtree
module _ (p : List ℕ) (ok : Accepted p) (fits fits' allows : ℕ → ℕ → Bool) where
  abbrev SameFits : ℕ → Type 0
  SameFits v = (w : ℕ) → w < size p → Under p v w → (x : ℕ) → fits w x ≡ fits' w x

  under_same : (f v m : ℕ) → size p ≤ f + v → v < size p → SameFits v → can_at p fits allows v m ≡ can_at p fits' allows v m
  under_same zero v m h l s = absurd (omega arith)
  under_same (suc f) v m h l s = can-is p ok fits allows v m l
      ∙ ap (λ b. allows v m && b) ((λ i. can_by m (λ x. s v l (self refl) x i) (can_at p fits allows) (kind p v) (children p v))
      ∙ by-same (fits' v) (can_at p fits allows) (can_at p fits' allows) (children p v)
      (λ c i n. let b = child-between p ok v i in under_same f c n (omega arith) b.1 (λ w k u. s w k (under-child p v c w i u))) m (kind p v))
      ∙ sym (can-is p ok fits' allows v m l)

  pub can-under : (v m : ℕ) → v < size p → SameFits v → can_at p fits allows v m ≡ can_at p fits' allows v m
  can-under v m l s = under_same (size p) v m (omega arith) l s
