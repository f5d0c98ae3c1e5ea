-- What is prepared: the check's number, the rows of the desks, and every node's row. Assumes nothing.
use mathlib.Core.Path.{◌≡◌, refl, sym, ◌∙◌, ap, subst}
use mathlib.Core.Bool.{Bool, true, false, cond, ◌&&◌}
use mathlib.Core.List.{List}
use Prim.Native.Nat.{ℕ, zero, suc, ◌+◌, ◌-◌, ◌*◌, ◌%◌, ◌≤◌, ◌<◌}
use native.Mathlib.Nat.{le_antisymm}
use native.Mathlib.Omega.{arith}
use borrow.Author.Tests.{ltb-false, leb-true, ne_eqb, le-leb, lt-leb}
use lib.Dec.{eqb, ltb, leb}
use lib.ListN.{length, get_or, take, length-take}
use Rattle.lists.specs.Seq.{up_from, table}
use Rattle.lists.proofs.Logic.{cases, decided, no_bool, and_right}
use Rattle.lists.proofs.Keep.{keep_same}
use Rattle.lists.proofs.Members.{up_in}
use Rattle.lists.proofs.Filling.{Filling}
use Rattle.lists.proofs.Table.{table-length, table_at, table-by}
use Rattle.plan.specs.Check.{check_number}
use Rattle.desks.specs.Desk.{nodes, desk_of, plain_byte, plain, threes, desks_low, desk_check, DeskAccepted, used, used_below, desk_rows}
use Rattle.desks.proofs.DeskLaws.{same_nodes}
use Rattle.desks.proofs.RankLaws.{rank-end}
use Rattle.desk_layout.specs.Tables.{is_marked, marked_below, numbered_byte, mark_of, row_byte}
use Rattle.desk_layout.proofs.SplitLaws.{fill-front}

-- THE CHECK, test by test
pub threes-few : (p : List ℕ) → threes p ≡ true → nodes p ≤ 160
unfolding threes nodes
threes-few p h = let l = leb-true (length p) 480 (and_right (eqb (length p % 3) 0 && ltb 0 (length p)) _ h) in omega arith

plain-length : (p : List ℕ) → length (plain p) ≡ 2 * nodes p
unfolding plain
plain-length p = table-length (plain_byte p) (2 * nodes p)

-- the plain plan in the front of what was split, by the code's number n of nodes
module _ (p two : List ℕ) (front : take (2 * nodes p) two ≡ plain p) (n : ℕ) (e : n ≡ nodes p) where
  pub front-is : take (2 * n) two ≡ plain p
  front-is = rw e front

  pub front_length : 2 * n ≡ length (take (2 * n) two)
  front_length = sym (ap length front-is ∙ plain-length p ∙ rw e)

  pub front-room : 2 * n ≤ length two
  front-room = let h = front_length in omega (arith, length-take (2 * n) two)

module _ (p : List ℕ) where
  pub check-1 : threes p ≡ false → 1 ≡ desk_check p
  unfolding desk_check
  check-1 h = rw h

  module _ (long : threes p ≡ true) (r : ℕ) (told : r ≡ check_number (plain p)) where
    pub check-plain : (r ≡ 0 → ⊥) → r ≡ desk_check p
    unfolding desk_check
    check-plain bad = rw (long, ← told, ne_eqb r 0 bad)

    -- no desk is above 9f if the number above them all is at most 160
    module _ (top : ℕ) (low : desks_low p ≡ leb top 160) (z : r ≡ 0) where
      pub check-22 : 160 < top → 22 ≡ desk_check p
      unfolding desk_check
      check-22 h = rw (long, ← told, z, low, lt-leb top 160 h)

      pub check-0 : top ≤ 160 → 0 ≡ desk_check p
      unfolding desk_check
      check-0 h = rw (long, ← told, z, low, le-leb top 160 h)

desk-low : (p : List ℕ) → DeskAccepted p → (v : ℕ) → v < nodes p → desk_of p v < 160
desk-low p ok v l = let h = ok.low v l in omega arith

pub nodes-few : (p : List ℕ) → DeskAccepted p → nodes p ≤ 160
nodes-few p ok = let h = ok.accepted.few in omega (arith, same_nodes p)

-- THE ROWS, from marks of the desks in use; those are below top
module _ (p : List ℕ) (fs : List ℕ) (marks : fs ≡ table (mark_of p) 256) (top : ℕ) (most : top ≤ 160) (above : (d : ℕ) → used p d ≡ true → d < top) where
  mark-at : (d : ℕ) → d < 256 → get_or fs d 0 ≡ cond (used p d) 0 255
  unfolding mark_of
  mark-at d l = ap (λ (s : List ℕ). get_or s d 0) marks ∙ table_at (mark_of p) 256 d l

  marked-is : (d : ℕ) → d < 256 → is_marked fs d ≡ used p d
  unfolding is_marked
  marked-is d l = rw (mark-at d l) (go (used p d))
    where
      go : (b : Bool) → eqb (cond b 0 255) 0 ≡ b
      go true = refl
      go false = refl

  marked-used : (n : ℕ) → n ≤ 256 → marked_below fs n ≡ used_below p n
  unfolding marked_below used_below
  marked-used n l = ap length (keep_same (is_marked fs) (used p) (up_from 0 n) (λ d i. marked-is d (let b = up_in 0 n i in omega (arith, b.1))))

  none-past : (d : ℕ) → top ≤ d → used p d ≡ false
  none-past d l = no_bool (used p d) (λ h. let a = above d h in absurd (omega arith))

  used-past : (n : ℕ) → used_below p (n + top) ≡ used_below p top
  unfolding used_below
  used-past zero = let e : 0 + top ≡ top = omega arith in rw e
  used-past (suc n) =
      let e : suc n + top ≡ suc (n + top) = omega arith in
      let z : used p (n + top) ≡ false = none-past (n + top) (omega arith) in
      let r = rank-end (used p) (n + top) in
      rw (e, r, z) (omega (arith, used-past n))

  pub rows_are : marked_below fs top ≡ desk_rows p
  rows_are = let e : 160 - top + top ≡ 160 = omega arith in marked-used top (omega arith) ∙ sym (used-past (160 - top)) ∙ ap (used_below p) e

  row_is : (d : ℕ) → d < 256 → numbered_byte fs top d ≡ row_byte p d
  unfolding numbered_byte row_byte
  row_is d l = rw (marked-is d l, marked-used d (omega arith), mark-at d l) (cases (decided (ltb d top))
      (λ h. rw h (inner (used p d)))
      (λ h. rw (h, none-past d (ltb-false d top h))))
    where
      inner : (b : Bool) → cond b (used_below p d) (cond b 0 255) ≡ cond b (used_below p d) 255
      inner true = refl
      inner false = refl

  pub table-rows : table (numbered_byte fs top) 256 ≡ table (row_byte p) 256
  table-rows = table-by (row_byte p) 256 _ (table-length (numbered_byte fs top) 256) (λ d l. table_at (numbered_byte fs top) 256 d l ∙ row_is d l)

-- EVERY NODE'S ROW, by the table of rows
module _ (p : List ℕ) (ok : DeskAccepted p) (row : List ℕ) (is : row ≡ table (row_byte p) 256) where
  pub home-in : (v : ℕ) → v < nodes p → (d : ℕ) → d ≡ desk_of p v → d < length row
  home-in v l d e = let h = desk-low p ok v l in omega (arith, ap length is, table-length (row_byte p) 256)

  pub homes-are : (home : List ℕ) (v : ℕ) → v ≤ nodes p → nodes p ≤ v → Filling (λ u. get_or row (desk_of p u) 0) 160 home v →
      take (nodes p) home ≡ table (λ u. row_byte p (desk_of p u)) (nodes p)
  homes-are home v within end t =
      let e : v ≡ nodes p = le_antisymm within end in
      let f : ℕ → ℕ = λ u. get_or row (desk_of p u) 0 in
      subst (λ (k : ℕ). take k home ≡ table f k) e (fill-front f 160 home v t)
      ∙ table-by (λ u. row_byte p (desk_of p u)) (nodes p) (table f (nodes p)) (table-length f (nodes p))
      (λ i l. table_at f (nodes p) i l ∙ ap (λ (s : List ℕ). get_or s (desk_of p i) 0) is ∙ table_at (row_byte p) 256 (desk_of p i) (let h = desk-low p ok i l in omega arith))
