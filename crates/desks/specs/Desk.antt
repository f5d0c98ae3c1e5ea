-- Plans with desks (rules N1 to N4): the plain plan, the check, and which row each desk has. Such a plan is a plan of two bytes a node and a layout of
-- rows, so every definition and claim about plans with any layout is one about these. Definitions only.
use Rattle.std.specs.Prelude.{◌≡◌, Bool, cond, ◌&&◌, not, List, ◌↔◌, ◌⊎◌, ℕ, ◌+◌, ◌*◌, ◌/◌, ◌%◌, ◌≤◌, ◌<◌, eqb, ltb, leb, length, get_or}
use Rattle.lists.specs.Seq.{any, keep, up_from, all_below, table}
use Rattle.plan.specs.Check.{check_number, Accepted}
use Rattle.event.specs.Site.{Layout}

-- N1: the number of nodes, three bytes each
unfoldable pub nodes : List ℕ → ℕ
nodes p = length p / 3

-- N1: v's third byte
unfoldable pub desk_of : List ℕ → ℕ → ℕ
desk_of p v = get_or p (3 * v + 2) 0

-- N1: the plain plan has the first two bytes of every three
unfoldable pub plain_byte : List ℕ → ℕ → ℕ
plain_byte p i = get_or p (3 * (i / 2) + i % 2) 0

unfoldable pub plain : List ℕ → List ℕ
plain p = table (plain_byte p) (2 * nodes p)

-- N2: 1
unfoldable pub threes : List ℕ → Bool
threes p = eqb (length p % 3) 0 && ltb 0 (length p) && leb (length p) 480

-- N2: 22 where this is not so
unfoldable pub desks_low : List ℕ → Bool
desks_low p = all_below (λ v. leb (desk_of p v) 159) (nodes p)

-- N2: the first failing test, and 0 where none fails
unfoldable pub desk_check : List ℕ → ℕ
desk_check p =
    cond (not (threes p)) 1
    (cond (not (eqb (check_number (plain p)) 0)) (check_number (plain p))
    (cond (not (desks_low p)) 22 0))

-- N1, N2: a plan with desks within the limits
pub record DeskAccepted (p : List ℕ) : Type 0 where
  pub whole : length p ≡ 3 * nodes p
  pub accepted : Accepted (plain p)
  pub low : (v : ℕ) → v < nodes p → desk_of p v ≤ 159

-- CLAIM (N2). The check passes every such plan, and no other.
abbrev pub DeskCheckExact : Type 0
DeskCheckExact = (p : List ℕ) → (desk_check p ≡ 0) ↔ DeskAccepted p

-- CLAIM (N2). Which number each other plan gets: 1 for its length, then the plain plan's, then 22 for a desk above 9f.
pub record DeskNumbers (p : List ℕ) : Type 0 where
  pub by_length : (length p ≡ 0) ⊎ (480 < length p) ⊎ (length p % 3 ≡ 0 → ⊥) → desk_check p ≡ 1
  pub by-plain : length p ≡ 3 * nodes p → (check_number (plain p) ≡ 0 → ⊥) → desk_check p ≡ check_number (plain p)
  pub by-desk : length p ≡ 3 * nodes p → check_number (plain p) ≡ 0 → (v : ℕ) → v < nodes p → 159 < desk_of p v → desk_check p ≡ 22

-- N3: desk d is in use
unfoldable pub used : List ℕ → ℕ → Bool
used p d = any (λ v. eqb (desk_of p v) d) (up_from 0 (nodes p))

-- N3: how many desks below n are in use
unfoldable pub used_below : List ℕ → ℕ → ℕ
used_below p n = length (keep (used p) (up_from 0 n))

-- N3: how many rows there are
abbrev pub desk_rows : List ℕ → ℕ
desk_rows p = used_below p 160

-- N3, N5: desk d's row, lowest desk first; one that is not in use has none
unfoldable pub desk_row : List ℕ → ℕ → ℕ
desk_row p d = cond (used p d) (used_below p d) (desk_rows p)

-- N4: a node's row is its desk's
unfoldable pub desk_layout : List ℕ → Layout
desk_layout p = record { rows = desk_rows p; home = λ v. desk_row p (desk_of p v) }
