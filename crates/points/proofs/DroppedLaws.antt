-- What dropping leaves (rule M4): a slot whose point is not past has its name and its word, and every other has no point; so points stay right, and a name
-- keeps its point if that is not past (rules M8 and M10). Assumes nothing.
use mathlib.Core.Path.{◌≡◌, sym, ◌∙◌, ap}
use mathlib.Core.Bool.{true, false, cond}
use mathlib.Core.List.{List}
use Prim.Native.Nat.{ℕ, suc, ◌+◌, ◌*◌, ◌/◌, ◌<◌}
use native.Mathlib.Omega.{arith}
use borrow.Author.Tests.{ltb-true, ltb-false, le-ltb}
use lib.Dec.{ltb}
use lib.ListN.{length, get_or}
use Rattle.lists.proofs.Logic.{cases, decided, no_bool, clash}
use Rattle.lists.proofs.Table.{table_at, table-length}
use Rattle.points.specs.Points.{name_at, in_use, has_name, slot_of, is_past, dropped}
use Rattle.points.specs.Claim.{point_of, PointsRight}
use Rattle.points.proofs.FirstLaws.{slot_has, slot-none}
use Rattle.points.proofs.NameLaws.{name-same, has-used}
use Rattle.points.proofs.RightLaws.{used-word, slot_is, point-is, point-none}

module _ (n : ℕ) (names places : List ℕ) where
  abbrev names' : List ℕ
  names' = (dropped n names places).names

  abbrev places' : List ℕ
  places' = (dropped n names places).places

  names-length : length names' ≡ 128
  unfolding dropped
  names-length = table-length (λ j. cond (is_past places n (j / 8)) 0 (get_or names j 0)) 128

  places-length : length places' ≡ 16
  unfolding dropped
  places-length = table-length (λ i. cond (is_past places n i) 0 (get_or places i 0)) 16

  word-left : (i : ℕ) → i < 16 → get_or places' i 0 ≡ cond (is_past places n i) 0 (get_or places i 0)
  unfolding dropped
  word-left i l = table_at (λ i. cond (is_past places n i) 0 (get_or places i 0)) 16 i l

  byte_left : (i j : ℕ) → i < 16 → j < 8 → get_or names' (8 * i + j) 0 ≡ cond (is_past places n i) 0 (get_or names (8 * i + j) 0)
  unfolding dropped
  byte_left i j l m =
      let e : (8 * i + j) / 8 ≡ i = omega arith in
      table_at (λ j. cond (is_past places n (j / 8)) 0 (get_or names j 0)) 128 (8 * i + j) (omega arith) ∙ ap (λ (s : ℕ). cond (is_past places n s) 0 (get_or names (8 * i + j) 0)) e

  -- a slot that is in use afterwards was not past
  used-kept : (i : ℕ) → i < 16 → in_use places' i ≡ true → is_past places n i ≡ false
  used-kept i l u = no_bool (is_past places n i) (λ p. used-word places' i u (word-left i l ∙ rw p))

  module _ (i : ℕ) (l : i < 16) (kept : is_past places n i ≡ false) where
    word_kept : get_or places' i 0 ≡ get_or places i 0
    word_kept = word-left i l ∙ rw kept

    module _ (long : length names ≡ 128) where
      name-kept : name_at names' i ≡ name_at names i
      name-kept = name-same names names' i long names-length l (λ j m. byte_left i j l m ∙ rw kept)

      has_kept : (name : List ℕ) → has_name names' places' name i ≡ has_name names places name i
      has_kept name = rw (name-kept, word_kept)

  module _ (k : ℕ) (r : PointsRight names places k) where
    pub dropped_keeps : PointsRight names' places' n
    dropped_keeps = record {
      names-long = names-length;
      places-long = places-length;
      within = λ i l u. let f = used-kept i l u in omega (arith, word_kept i l f, ltb-false (suc n) (get_or places i 0) f);
      apart = λ i j l m u v t.
          let f = used-kept i l u in
          let g = used-kept j m v in
          r.apart i j l m (rw (word_kept i l f) at u) (rw (word_kept j m g) at v) (rw (name-kept i l f r.names-long, name-kept j m g r.names-long) at t);
    }

    module _ (name : List ℕ) where
      -- no slot that stays has the name
      point-gone : ((i : ℕ) → i < 16 → is_past places n i ≡ false → has_name names places name i ≡ false) → point_of names' places' name ≡ 0
      point-gone h = point-none names' places' name places-length (λ i l. no_bool (has_name names' places' name i) (λ t.
          let f = used-kept i l (has-used names' places' name i t) in
          clash (has_name names places name i) (sym (has_kept i l f r.names-long name) ∙ t) (h i l f)))

      point-some : (s : ℕ) → s < 16 → has_name names places name s ≡ true → point_of names' places' name ≡ cond (is_past places n s) 0 (get_or places s 0)
      point-some s l h = cases (decided (is_past places n s))
          (λ e. rw e (point-gone (λ i m f. no_bool (has_name names places name i) (λ t.
          clash (is_past places n i) (rw (sym (slot_is names places r.apart name s l h) ∙ slot_is names places r.apart name i m t) at e) f))))
          (λ e. rw e (point-is names' places' dropped_keeps.apart name s l (has_kept s l e r.names-long name ∙ h) ∙ word_kept s l e))

      pub dropped-point : point_of names' places' name ≡ cond (ltb (suc n) (point_of names places name)) 0 (point_of names places name)
      dropped-point = cases (decided (ltb (slot_of names places name) 16))
          (λ e. let l = ltb-true (slot_of names places name) 16 e in
          let h = slot_has names places name l in
          rw (point-is names places r.apart name (slot_of names places name) l h) (point-some (slot_of names places name) l h))
          (λ e. let none = slot-none names places name (ltb-false (slot_of names places name) 16 e) in
          rw (point-none names places name r.places-long none, le-ltb (suc n) 0 (omega arith)) (point-gone (λ i l f. none i l)))
