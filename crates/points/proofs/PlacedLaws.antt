-- What a naming that passed leaves (rule M3): one slot has the name and a point at the count, no other slot has it, and all others are as they were;
-- so points stay right, and every other name has the point that it had (rules M8 and M10). Assumes nothing.
use mathlib.Core.Path.{◌≡◌, refl, sym, ◌∙◌}
use mathlib.Core.Bool.{true, false}
use mathlib.Core.Logic.{inl, inr}
use mathlib.Core.List.{List}
use Prim.Native.Nat.{ℕ, suc, ◌+◌, ◌*◌, ◌≤◌, ◌<◌}
use native.Mathlib.Omega.{arith}
use borrow.Author.Tests.{eqb-true, eqb-false, ltb-true, ltb-false}
use lib.Dec.{eqb, ltb}
use lib.ListN.{length, get_or, set, length-set}
use lib.Seq.{sets, length-sets, get_or-set_same, get_or-set_other}
use Rattle.lists.proofs.Logic.{cases, decided, no_bool, clash}
use Rattle.points.specs.Points.{name_at, in_use, same_name, has_name, slot_of, free_slot}
use Rattle.points.specs.Claim.{point_of, PointsRight}
use Rattle.points.proofs.PutLaws.{sets-other, sets_same}
use Rattle.points.proofs.FirstLaws.{slot_has, slot-none, slot_same, free-found}
use Rattle.points.proofs.NameLaws.{same_self, same_back, same-on, name-is, name-same, has_same, has-by, has-no-other}
use Rattle.points.proofs.RightLaws.{word-used, slot_is, point-is}

module _ (name : List ℕ) (k : ℕ) (names places : List ℕ) where
  pub record Placed (names' places' : List ℕ) (s : ℕ) : Type 0 where
    pub right : PointsRight names places k
    pub names-long : length names' ≡ 128
    pub places-long : length places' ≡ 16
    pub slot : s < 16
    pub own_name : same_name (name_at names' s) name ≡ true
    pub own-word : get_or places' s 0 ≡ suc k
    pub names-stay : (i : ℕ) → i < 16 → (i ≡ s → ⊥) → name_at names' i ≡ name_at names i
    pub places-stay : (i : ℕ) → (i ≡ s → ⊥) → get_or places' i 0 ≡ get_or places i 0
    -- before, no other slot had the name, and this one had no other
    pub alone : (i : ℕ) → i < 16 → (i ≡ s → ⊥) → has_name names places name i ≡ false
    pub no_other : (other : List ℕ) → same_name other name ≡ false → has_name names places other s ≡ false

  -- a known name, in its slot
  pub placed-known : PointsRight names places k → (s : ℕ) → s ≡ slot_of names places name → s < 16 → Placed names (set places s (suc k)) s
  placed-known r s is l =
      let has : has_name names places name s ≡ true = rw is (slot_has names places name (omega arith)) in
      let same : same_name (name_at names s) name ≡ true = has_same names places name s has in
      let long = r.places-long in
      record {
        right = r;
        names-long = r.names-long;
        places-long = length-set places s (suc k) ∙ r.places-long;
        slot = l;
        own_name = same;
        own-word = get_or-set_same places s (suc k) 0 (omega arith);
        names-stay = λ i m n. refl;
        places-stay = λ i n. get_or-set_other places s i (suc k) 0 n;
        alone = λ i m n. no_bool (has_name names places name i) (λ h. n (sym (slot_is names places r.apart name i m h) ∙ sym is));
        no_other = λ other d. has-no-other names places name other s same d;
      }

  -- a new one, in the first free slot
  pub placed-new : PointsRight names places k → length name ≡ 8 → 16 ≤ slot_of names places name → (s : ℕ) → s ≡ free_slot places → s < 16 →
      Placed (sets names (8 * s) name) (set places s (suc k)) s
  placed-new r eight new s is l =
      let nl = r.names-long in
      let pl = r.places-long in
      let long : length (sets names (8 * s) name) ≡ 128 = length-sets names (8 * s) name ∙ nl in
      let free : in_use places s ≡ false = rw is (free-found places (omega arith)) in
      let its : name_at (sets names (8 * s) name) s ≡ name = name-is (sets names (8 * s) name) name s long l eight (λ j m. sets_same name names (8 * s) j (omega arith) (omega arith)) in
      record {
        right = r;
        names-long = long;
        places-long = length-set places s (suc k) ∙ pl;
        slot = l;
        own_name = rw its (same_self name);
        own-word = get_or-set_same places s (suc k) 0 (omega arith);
        names-stay = λ i m n. name-same names (sets names (8 * s) name) i nl long m (λ j b. sets-other name names (8 * s) (8 * i + j) (cases (decided (ltb i s))
            (λ e. let lt = ltb-true i s e in inl (omega arith))
            (λ e. let ge = ltb-false i s e in inr (omega arith))));
        places-stay = λ i n. get_or-set_other places s i (suc k) 0 n;
        alone = λ i m n. slot-none names places name new i m;
        no_other = λ other d. rw free;
      }

  module _ (names' places' : List ℕ) (s : ℕ) (p : Placed names' places' s) where
    -- the slot has the name, the others have those that they had, and so none of them has this one
    own-has : has_name names' places' name s ≡ true
    own-has = let w = p.own-word in has-by names' places' name s (word-used places' s (λ e. omega arith)) p.own_name

    has-stay : (i : ℕ) → i < 16 → (i ≡ s → ⊥) → (other : List ℕ) → has_name names' places' other i ≡ has_name names places other i
    has-stay i l n other = rw (p.names-stay i l n, p.places-stay i n)

    own-only : (i : ℕ) → i < 16 → in_use places' i ≡ true → same_name (name_at names' i) (name_at names' s) ≡ true → i ≡ s
    own-only i l u t = cases (decided (eqb i s)) (eqb-true i s) (λ e.
        let n = eqb-false i s e in
        clash (has_name names places name i)
        (sym (has-stay i l n name) ∙ has-by names' places' name i u (same-on (name_at names' i) (name_at names' s) name t p.own_name)) (p.alone i l n))

    -- M8: points stay right
    pub placed-keeps : PointsRight names' places' k
    placed-keeps = let r = p.right in record {
      names-long = p.names-long;
      places-long = p.places-long;
      within = λ i l u. cases (decided (eqb i s))
          (λ e. let z = eqb-true i s e in rw (z, p.own-word) (omega arith))
          (λ e. let w = p.places-stay i (eqb-false i s e) in rw w (r.within i l (rw w at u)));
      apart = λ i j l m u v t. cases (decided (eqb j s))
          (λ e. let z = eqb-true j s e in own-only i l u (rw z at t) ∙ sym z)
          (λ e. cases (decided (eqb i s))
          (λ d. let z = eqb-true i s d in z ∙ sym (own-only j m v (same_back (name_at names' s) (name_at names' j) (rw z at t))))
          (λ d. r.apart i j l m (rw (p.places-stay i (eqb-false i s d)) at u) (rw (p.places-stay j (eqb-false j s e)) at v)
          (rw (p.names-stay i l (eqb-false i s d), p.names-stay j m (eqb-false j s e)) at t)));
    }

    -- M10: the name's point is at the count, and every other name has the point that it had
    pub placed-there : point_of names' places' name ≡ suc k
    placed-there = point-is names' places' placed-keeps.apart name s p.slot own-has ∙ p.own-word

    pub placed-others : (other : List ℕ) → same_name other name ≡ false → point_of names' places' other ≡ point_of names places other
    unfolding point_of
    placed-others other d =
        let t : ℕ = slot_of names places other in
        let same : slot_of names' places' other ≡ t = slot_same names places other names' places' (λ i l. cases (decided (eqb i s))
        (λ e. let z = eqb-true i s e in rw z (has-no-other names' places' name other s p.own_name d ∙ sym (p.no_other other d)))
        (λ e. has-stay i l (eqb-false i s e) other)) in
        rw same (p.places-stay t (λ e. let l = p.slot in clash (has_name names places other s) (rw e at (slot_has names places other (omega arith))) (p.no_other other d)))
