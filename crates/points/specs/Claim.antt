-- THE CLAIM OF POINTS (rules M2, M8 and M10): points are a map from names to places, and naming and dropping do to it what they are for. Each field
-- stands under its rule. Definitions only.
use Rattle.std.specs.Prelude.{◌≡◌, true, false, cond, ◌↔◌, List, ℕ, suc, ◌≤◌, ◌<◌, ltb, length, get_or, set, replicate}
use Rattle.points.specs.Points.{name_at, in_use, place_at, same_name, slot_of, points_fit, name_fits, name_of, dropped}

-- M10: the word of a name's point: 0 where the name has none
unfoldable pub point_of : List ℕ → List ℕ → List ℕ → ℕ
point_of names places name = get_or places (slot_of names places name) 0

-- M8, in plain terms: of slots in use with the same name there is one, and no point is above k
abbrev pub NamedApart : List ℕ → List ℕ → Type 0
NamedApart names places =
    (i j : ℕ) → i < 16 → j < 16 → in_use places i ≡ true → in_use places j ≡ true → same_name (name_at names i) (name_at names j) ≡ true → i ≡ j

pub record PointsRight (names places : List ℕ) (k : ℕ) : Type 0 where
  pub names-long : length names ≡ 128
  pub places-long : length places ≡ 16
  pub within : (i : ℕ) → i < 16 → in_use places i ≡ true → place_at places i ≤ k
  pub apart : NamedApart names places

pub record PointsClaim : Type 0 where
  -- M2: the test of points is that they are right
  pub exact : (names places : List ℕ) (k : ℕ) → (points_fit names places k ≡ true) ↔ PointsRight names places k
  -- M10: after a naming the name's point is at the count, and every other name has the point that it had
  pub there : (name : List ℕ) (k : ℕ) (names places : List ℕ) → (name_of name k names places).number ≡ 0 →
      point_of (name_of name k names places).left.names (name_of name k names places).left.places name ≡ suc k
  pub others : (name : List ℕ) (k : ℕ) (names places : List ℕ) → (name_of name k names places).number ≡ 0 → (other : List ℕ) → same_name other name ≡ false →
      point_of (name_of name k names places).left.names (name_of name k names places).left.places other ≡ point_of names places other
  -- M10: it is refused, with 20, just where all slots are in use and none has the name
  pub full : (name : List ℕ) (k : ℕ) (names places : List ℕ) → name_fits name k names places ≡ true →
      ((name_of name k names places).number ≡ 20) ↔ (((i : ℕ) → i < 16 → in_use places i ≡ true) × (point_of names places name ≡ 0))
  pub passes : (name : List ℕ) (k : ℕ) (names places : List ℕ) → name_fits name k names places ≡ true → ((name_of name k names places).number ≡ 20 → ⊥) →
      (name_of name k names places).number ≡ 0
  -- M10: of the points that are dropped, each name keeps its own if it is not past, and loses it otherwise
  pub drops : (names places : List ℕ) (k : ℕ) → points_fit names places k ≡ true → (n : ℕ) (name : List ℕ) →
      point_of (dropped n names places).names (dropped n names places).places name ≡ cond (ltb (suc n) (point_of names places name)) 0 (point_of names places name)
  -- M8: sixteen free slots are right, with names of any bytes; and naming, dropping, a slot that the caller frees and a count that grows keep points right
  pub fresh : (names : List ℕ) (k : ℕ) → length names ≡ 128 → PointsRight names (replicate 16 0) k
  pub naming-keeps : (name : List ℕ) (k : ℕ) (names places : List ℕ) → PointsRight names places k →
      PointsRight (name_of name k names places).left.names (name_of name k names places).left.places k
  pub dropping_keeps : (names places : List ℕ) (k n : ℕ) → PointsRight names places k → PointsRight (dropped n names places).names (dropped n names places).places n
  pub freeing_keeps : (names places : List ℕ) (k i : ℕ) → PointsRight names places k → PointsRight names (set places i 0) k
  pub growing-keeps : (names places : List ℕ) (k n : ℕ) → k ≤ n → PointsRight names places k → PointsRight names places n
