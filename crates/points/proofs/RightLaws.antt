-- Points that are right (rule M8): the test of points says so, and a name's point is the word of the one slot that has the name. Assumes nothing.
use mathlib.Core.Path.{◌≡◌, refl, ◌∙◌, ap}
use mathlib.Core.Bool.{true, false, not}
use mathlib.Core.List.{List}
use Prim.Native.Nat.{ℕ, suc, ◌≤◌, ◌<◌}
use native.Mathlib.Omega.{arith}
use borrow.Author.Tests.{eq-eqb, ne_eqb, eqb-true, eqb-false, le-ltb, ltb-true, ltb-false, not-true, not-false}
use lib.Dec.{eqb, ltb}
use lib.ListN.{length, get_or, set, replicate, length-set, get_or-replicate, get_or-eq_default}
use lib.Seq.{get_or-set_same, get_or-set_other}
use Rattle.lists.proofs.Logic.{cases, decided, and-join, parts}
use Rattle.lists.proofs.Below.{below_at, below_by}
use Rattle.points.specs.Points.{name_at, in_use, place_at, has_name, slot_of, is_past, is_within, is_once, none_past, named_once, points_fit}
use Rattle.points.specs.Claim.{point_of, NamedApart, PointsRight}
use Rattle.points.proofs.SlotLaws.{once-own}
use Rattle.points.proofs.NamingLaws.{fit-long}
use Rattle.points.proofs.FirstLaws.{slot_has, slot-least, slot-out}
use Rattle.points.proofs.NameLaws.{same_self, same_back, same-on, has-used, has_same, has-by}

-- a slot is in use if its word is not 0
pub used-word : (places : List ℕ) (i : ℕ) → in_use places i ≡ true → get_or places i 0 ≡ 0 → ⊥
used-word places i h = eqb-false (get_or places i 0) 0 (not-true (eqb (get_or places i 0) 0) h)

free-word : (places : List ℕ) (i : ℕ) → in_use places i ≡ false → get_or places i 0 ≡ 0
free-word places i h = eqb-true (get_or places i 0) 0 (not-false (eqb (get_or places i 0) 0) h)

pub word-used : (places : List ℕ) (i : ℕ) → (get_or places i 0 ≡ 0 → ⊥) → in_use places i ≡ true
word-used places i h = rw (ne_eqb (get_or places i 0) 0 h)

module _ (names places : List ℕ) where
  module _ (apart : NamedApart names places) (name : List ℕ) where
    pub slot_is : (i : ℕ) → i < 16 → has_name names places name i ≡ true → slot_of names places name ≡ i
    slot_is i l h =
        let s : ℕ = slot_of names places name in
        let m : s < 16 = omega (arith, slot-least names places name i l h) in
        let t : has_name names places name s ≡ true = slot_has names places name m in
        apart s i m l (has-used names places name s t) (has-used names places name i h)
        (same-on (name_at names s) name (name_at names i) (has_same names places name s t) (same_back (name_at names i) name (has_same names places name i h)))

    pub point-is : (i : ℕ) → i < 16 → has_name names places name i ≡ true → point_of names places name ≡ get_or places i 0
    unfolding point_of
    point-is i l h = rw (slot_is i l h)

  -- a slot's own name has no other slot
  pub own-slot : NamedApart names places → (i : ℕ) → i < 16 → in_use places i ≡ true → slot_of names places (name_at names i) ≡ i
  own-slot apart i l u = slot_is apart (name_at names i) i l (has-by names places (name_at names i) i u (same_self (name_at names i)))

  -- each name stands once, in both forms
  once-own-slot : named_once names places ≡ true → (i : ℕ) → i < 16 → in_use places i ≡ true → slot_of names places (name_at names i) ≡ i
  unfolding named_once
  once-own-slot h i l u = eqb-true (slot_of names places (name_at names i)) i (rw u at (below_at (is_once names places) 16 i h l))

  once-apart : named_once names places ≡ true → NamedApart names places
  once-apart h i j l m u v s =
      let a : has_name names places (name_at names j) i ≡ true = has-by names places (name_at names j) i u s in
      let b : has_name names places (name_at names i) j ≡ true = has-by names places (name_at names i) j v (same_back (name_at names i) (name_at names j) s) in
      omega (arith, once-own-slot h i l u, once-own-slot h j m v, slot-least names places (name_at names j) i l a, slot-least names places (name_at names i) j m b)

  apart-once : NamedApart names places → named_once names places ≡ true
  unfolding named_once
  apart-once a = below_by (is_once names places) 16 (λ i l. cases (decided (in_use places i))
      (λ u. once-own places i (slot_of names places (name_at names i)) (used-word places i u) (own-slot a i l u))
      (λ u. rw u))

  -- no point is past the count, in both forms
  module _ (k : ℕ) where
    past-within : none_past places k ≡ true → (i : ℕ) → i < 16 → in_use places i ≡ true → place_at places i ≤ k
    unfolding none_past
    past-within h i l u = omega (arith, ltb-false (suc k) (get_or places i 0) (not-true (is_past places k i) (below_at (is_within places k) 16 i h l)))

    within-past : ((i : ℕ) → i < 16 → in_use places i ≡ true → place_at places i ≤ k) → none_past places k ≡ true
    unfolding none_past
    within-past h = below_by (is_within places k) 16 (λ i l. ap not (cases (decided (in_use places i))
        (λ u. le-ltb (suc k) (get_or places i 0) (omega (arith, h i l u)))
        (λ u. le-ltb (suc k) (get_or places i 0) (omega (arith, free-word places i u)))))

    pub fit-right : points_fit names places k ≡ true → PointsRight names places k
    unfolding points_fit
    fit-right h = record {
      names-long = (fit-long names places k h).0;
      places-long = (fit-long names places k h).1;
      within = past-within (search parts);
      apart = once-apart (search parts);
    }

    pub right-fit : PointsRight names places k → points_fit names places k ≡ true
    unfolding points_fit
    right-fit r = and-join _ _ (and-join _ _ (and-join _ _ (eq-eqb (length names) 128 r.names-long) (eq-eqb (length places) 16 r.places-long)) (within-past r.within)) (apart-once r.apart)

  -- a name without a slot
  module _ (name : List ℕ) where
    pub point-none : length places ≡ 16 → ((i : ℕ) → i < 16 → has_name names places name i ≡ false) → point_of names places name ≡ 0
    unfolding point_of
    point-none l h = get_or-eq_default places 0 (omega (arith, slot-out names places name h))

    pub none-slot : point_of names places name ≡ 0 → 16 ≤ slot_of names places name
    unfolding point_of
    none-slot h = let s : ℕ = slot_of names places name in cases (decided (ltb (slot_of names places name) 16))
        (λ e. absurd (used-word places s (has-used names places name s (slot_has names places name (ltb-true s 16 e))) h))
        (ltb-false (slot_of names places name) 16)

-- sixteen free slots
pub fresh-right : (names : List ℕ) (k : ℕ) → length names ≡ 128 → PointsRight names (replicate 16 0) k
fresh-right names k l =
    let free : (i : ℕ) → i < 16 → in_use (replicate 16 0) i ≡ true → ⊥ = λ i m u. used-word (replicate 16 0) i u (get_or-replicate 16 i 0 0 m) in
    record {
      names-long = l;
      places-long = refl;
      within = λ i m u. absurd (free i m u);
      apart = λ i j m n u v t. absurd (free i m u);
    }

-- a slot that is freed
module _ (places : List ℕ) (s i : ℕ) (l : i < length places) (u : in_use (set places s 0) i ≡ true) where
  apart-freed : i ≡ s → ⊥
  apart-freed e = used-word (set places s 0) i u (rw (← e) (get_or-set_same places i 0 0 l))

  freed-word : get_or (set places s 0) i 0 ≡ get_or places i 0
  freed-word = get_or-set_other places s i 0 0 apart-freed

  freed-used : in_use places i ≡ true
  freed-used = rw freed-word at u

pub freeing_keeps : (names places : List ℕ) (k s : ℕ) → PointsRight names places k → PointsRight names (set places s 0) k
freeing_keeps names places k s r =
    let long = r.places-long in
    record {
      names-long = r.names-long;
      places-long = length-set places s 0 ∙ long;
      within = λ i l u. let m : i < length places = omega arith in rw (freed-word places s i m u) (r.within i l (freed-used places s i m u));
      apart = λ i j l m u v. r.apart i j l m (freed-used places s i (omega arith) u) (freed-used places s j (omega arith) v);
    }
