-- The smallest list byte by byte: at every node the first byte with which the front stays open. Assumes nothing.
use mathlib.Core.Path.{◌≡◌, refl, sym, ◌∙◌, ap}
use mathlib.Core.Bool.{Bool, true, false, cond}
use mathlib.Core.List.{List, [], ◌∷◌, ◌++◌, append_assoc, append-nil}
use mathlib.Core.Logic.{◌⊎◌}
use mathlib.Core.Option.{Option, none, some}
use Prim.Native.Nat.{ℕ, suc, ◌+◌, ◌-◌, ◌≤◌, ◌<◌}
use lib.Dec.{eqb}
use lib.ListN.{get_or, length, take, set, length-set}
use lib.Seq.{take-suc-set, take_all, get_or-set_same, get_or-set_other}
use borrow.Author.Tests.{eqb-true, eqb-false}
use native.Mathlib.Omega.{arith}
use native.Mathlib.Numerals.{add-one}
use Rattle.lists.proofs.Logic.{cases, decided, clash}
use Rattle.plan.specs.Plan.{size}
use Rattle.plan.specs.Check.{Accepted}
use Rattle.lists.specs.Smallest.{behind, smallest, is_found}
use Rattle.way.specs.Way.{leads, way}
use Rattle.lists.proofs.SmallestLaws.{is_none, smallest-step, smallest-none}
use Rattle.way.specs.Can.{open_at}
use Rattle.way.proofs.Front.{open-found}

-- a front put before the list, if there is one
unfoldable pub after : List ℕ → Option (List ℕ) → Option (List ℕ)
after pre (some l) = some (pre ++ l)
after pre none = none

after-nil : (r : Option (List ℕ)) → after [] r ≡ r
unfolding after
after-nil (some l) = refl
after-nil none = refl

after-behind : (pre : List ℕ) (b : ℕ) (r : Option (List ℕ)) → after pre (behind b r) ≡ after (pre ++ (b ∷ [])) r
unfolding after behind
after-behind pre b (some l) = ap some (sym (append_assoc pre (b ∷ []) l))
after-behind pre b none = refl

small-set : (a : List ℕ) (i b : ℕ) → i < length a → b < 256 → ((v : ℕ) → v < i → get_or a v 0 < 256) → (v : ℕ) → v < suc i → get_or (set a i b) v 0 < 256
small-set a i b l s h v k = cases (decided (eqb v i))
    (λ q. rw (eqb-true v i q, get_or-set_same a i b 0 l) s)
    (λ q. let ne : v ≡ i → ⊥ = eqb-false v i q in rw (get_or-set_other a i v b 0 ne) (h v (omega arith)))

-- what is asked
pub record Asked (p : List ℕ) (w m e : ℕ) : Type 0 where
  pub accepted : Accepted p
  pub within : w < size p
  pub three : (e ≡ 3) ⊎ (e ≡ 4)

module _ {p : List ℕ} {w m e : ℕ} (q : Asked p w m e) where
  -- the lists that begin as a does, up to i
  abbrev rest : List ℕ → ℕ → List ℕ → Bool
  rest a i l = leads p w m e (take i a ++ l)

  -- up to i the answers a are the smallest list's
  pub record Chosen (a : List ℕ) (i : ℕ) : Type 0 where
    pub fills : length a ≡ size p
    pub small : (v : ℕ) → v < i → get_or a v 0 < 256
    pub few : i ≤ size p
    pub goes_on : open_at p w m e a i ≡ true
    pub whole : way p w m e ≡ after (take i a) (smallest (size p - i) (rest a i))

  is_open : (a : List ℕ) → length a ≡ size p → (i : ℕ) → ((v : ℕ) → v < i → get_or a v 0 < 256) → i ≤ size p → is_found (smallest (size p - i) (rest a i)) ≡ open_at p w m e a i
  is_open a y i small few = open-found p q.accepted w m e q.within q.three a y i small few

  from-none : size p ≡ size p - 0
  from-none = omega arith

  pub chosen_none : (a : List ℕ) → length a ≡ size p → open_at p w m e a 0 ≡ true → Chosen a 0
  unfolding way
  chosen_none a y o = record { fills = y; small = λ v l. absurd (omega arith); few = omega arith; goes_on = o; whole = sym (after-nil (way p w m e)) ∙ ap (λ n. after [] (smallest n (leads p w m e))) from-none }

  -- before any byte is fixed
  way-open : (a : List ℕ) → length a ≡ size p → is_found (smallest (size p) (leads p w m e)) ≡ open_at p w m e a 0
  way-open a y = ap (λ n. is_found (smallest n (leads p w m e))) from-none ∙ is_open a y 0 (λ v l. absurd (omega arith)) (omega arith)

  pub way-empty : (a : List ℕ) → length a ≡ size p → open_at p w m e a 0 ≡ false → way p w m e ≡ none
  unfolding way
  way-empty a y o = is_none (smallest (size p) (leads p w m e)) (way-open a y ∙ o)

  pub open-way : (a : List ℕ) → length a ≡ size p → open_at p w m e a 0 ≡ true → (l : List ℕ) × (way p w m e ≡ some l)
  unfolding way
  open-way a y o = go (smallest (size p) (leads p w m e)) refl (way-open a y ∙ o)
    where
      go : (r : Option (List ℕ)) → smallest (size p) (leads p w m e) ≡ r → is_found (smallest (size p) (leads p w m e)) ≡ true → (l : List ℕ) × (smallest (size p) (leads p w m e) ≡ some l)
      go (some l) q h = (l, q)
      go none q h = unfold is_found in clash false (sym (ap is_found q) ∙ h) refl

  module _ (a : List ℕ) (i : ℕ) (fills : length a ≡ size p) (small : (v : ℕ) → v < i → get_or a v 0 < 256) (l : i < size p) where
    -- one byte on
    front : (c : ℕ) → rest (set a i c) (suc i) ≡ (λ r. rest a i (c ∷ r))
    front c = λ j r. leads p w m e (same r j)
      where
        same : (r : List ℕ) → take (suc i) (set a i c) ++ r ≡ take i a ++ (c ∷ r)
        same r = ap (λ z. z ++ r) (take-suc-set a i c (omega arith)) ∙ append_assoc (take i a) (c ∷ []) r

    next : (c : ℕ) → c < 256 → is_found (smallest (size p - suc i) (λ r. rest a i (c ∷ r))) ≡ open_at p w m e (set a i c) (i + 1)
    next c s = ap (λ f. is_found (smallest (size p - suc i) f)) (sym (front c))
        ∙ is_open (set a i c) (length-set a i c ∙ fills) (suc i) (small-set a i c (omega arith) s small) l ∙ ap (open_at p w m e (set a i c)) (sym (add-one i))

    one_less : size p - i ≡ suc (size p - suc i)
    one_less = omega arith

    -- an open front goes on with some byte
    pub open-some : open_at p w m e a i ≡ true → ((c : ℕ) → c < 256 → open_at p w m e (set a i c) (i + 1) ≡ false) → ⊥
    open-some o before = clash (is_found (smallest (size p - i) (rest a i))) (is_open a fills i small (omega arith) ∙ o)
        (ap (λ n. is_found (smallest n (rest a i))) one_less ∙ smallest-none (size p - suc i) (rest a i) (λ c k. next c k ∙ before c k))

    -- the smallest list goes on with the first byte that does
    left-on : (b : ℕ) → b < 256 → ((c : ℕ) → c < b → open_at p w m e (set a i c) (i + 1) ≡ false) → open_at p w m e (set a i b) (i + 1) ≡ true →
        after (take i a) (smallest (size p - i) (rest a i)) ≡ after (take (suc i) (set a i b)) (smallest (size p - suc i) (rest (set a i b) (suc i)))
    left-on b s before this = ap (λ n. after (take i a) (smallest n (rest a i))) one_less
        ∙ ap (after (take i a)) (smallest-step (size p - suc i) (rest a i) b s (λ c k. next c (omega arith) ∙ before c k) (next b s ∙ this))
        ∙ after-behind (take i a) b _
        ∙ ap (λ z. after z (smallest (size p - suc i) (λ r. rest a i (b ∷ r)))) (sym (take-suc-set a i b (omega arith)))
        ∙ ap (λ f. after (take (suc i) (set a i b)) (smallest (size p - suc i) f)) (sym (front b))

  pub chosen-turn : (a : List ℕ) (i : ℕ) → Chosen a i → i < size p → (b : ℕ) → b < 256 → ((c : ℕ) → c < b → open_at p w m e (set a i c) (i + 1) ≡ false) →
      open_at p w m e (set a i b) (i + 1) ≡ true → Chosen (set a i b) (i + 1)
  chosen-turn a i h l b s before this = record {
    fills = length-set a i b ∙ h.fills;
    small = rw (add-one i) (small-set a i b (omega (arith, h.fills)) s h.small);
    few = omega arith;
    goes_on = this;
    whole = rw (add-one i) (h.whole ∙ left-on a i h.fills h.small l b s before this);
  }

  pub chosen-all : (a : List ℕ) (i : ℕ) → Chosen a i → size p ≤ i → way p w m e ≡ some a
  unfolding smallest after
  chosen-all a i h l = h.whole ∙ ap (λ n. after (take i a) (smallest n (rest a i))) zero_left ∙ go (rest a i []) refl
    where
      zero_left : size p - i ≡ 0
      zero_left = omega arith

      all : take i a ≡ a
      all = take_all i a (omega (arith, h.fills))

      go : (b : Bool) → rest a i [] ≡ b → after (take i a) (cond b (some []) none) ≡ some a
      go true z = ap some (append-nil (take i a) ∙ all)
      go false z = clash (is_found (smallest (size p - i) (rest a i))) (is_open a h.fills i h.small h.few ∙ h.goes_on)
          (unfold is_found smallest in (ap (λ n. is_found (smallest n (rest a i))) zero_left ∙ rw z))
