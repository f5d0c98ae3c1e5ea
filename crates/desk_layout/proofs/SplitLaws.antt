-- The loop that splits a plan: the plain plan, the marks of the desks in use, and a number above them. Assumes nothing.
use mathlib.Core.Path.{◌≡◌, refl, sym, ◌∙◌, ap, subst}
use mathlib.Core.Bool.{Bool, true, false, cond, ◌&&◌, ◌||◌, or-false}
use mathlib.Core.List.{List, [], ◌∷◌}
use mathlib.Core.Logic.{◌⊎◌}
use Prim.Native.Nat.{ℕ, ◌+◌, ◌*◌, ◌/◌, ◌%◌, ◌≤◌, ◌<◌}
use native.Mathlib.Nat.{le_antisymm}
use native.Mathlib.Numerals.{add-one}
use native.Mathlib.Omega.{arith}
use borrow.Author.Tests.{eqb-true, eqb-false, eq-eqb, leb-true, le-leb}
use lib.Dec.{eqb, leb}
use lib.ListN.{length, get_or, take, set, replicate, length-take, length-set, length-replicate, get_or-replicate}
use lib.Seq.{get_or-take, get_or-set_same, get_or-set_other}
use Rattle.lists.specs.Seq.{any, up_from, all_below, table}
use Rattle.lists.proofs.Logic.{cases, decided, either, clash, same_bool, and_left, and_right, and-join}
use Rattle.lists.proofs.Members.{any_append}
use Rattle.lists.proofs.Filling.{Filling, fill_none, fill-turn}
use Rattle.lists.proofs.Table.{up_suc, table-by}
use Rattle.desks.specs.Desk.{nodes, desk_of, plain_byte, plain, desks_low, used}
use Rattle.desk_layout.specs.Tables.{mark_of}

-- what a loop has written so far is the front of a table
pub fill-front : (f : ℕ → ℕ) (n : ℕ) (out : List ℕ) (v : ℕ) → Filling f n out v → take v out ≡ table f v
fill-front f n out v t = table-by f v (take v out) (let e = length-take v out in omega (arith, t.long, t.within)) (λ i l. get_or-take v out i 0 l ∙ t.each i l)

-- a plan's bytes are there
pub within-three : (p : List ℕ) (v i : ℕ) → v < nodes p → i < 3 → 3 * v + i < length p
unfolding nodes
within-three p v i l m = omega arith

-- a node below v has desk d
unfoldable pub used_by : List ℕ → ℕ → ℕ → Bool
used_by p v d = any (λ u. eqb (desk_of p u) d) (up_from 0 v)

used_turn : (p : List ℕ) (v d : ℕ) → used_by p (v + 1) d ≡ (used_by p v d || eqb (desk_of p v) d)
unfolding used_by any
used_turn p v d =
    let f : ℕ → Bool = λ u. eqb (desk_of p u) d in
    let e : 0 + v ≡ v = omega arith in
    rw add-one (ap (any f) (up_suc 0 v) ∙ any_append f (up_from 0 v) ((0 + v) ∷ []) ∙ rw (e, or-false))

-- v nodes are split, and top is one above the highest of their desks
pub record Splitting (p two row : List ℕ) (top v : ℕ) : Type 0 where
  pub within : v ≤ nodes p
  pub written : Filling (plain_byte p) 320 two (2 * v)
  pub long : length row ≡ 256
  pub each : (d : ℕ) → d < 256 → get_or row d 0 ≡ cond (used_by p v d) 0 255
  pub lows : all_below (λ u. leb (desk_of p u) 159) v ≡ leb top 160
  pub above : (d : ℕ) → used_by p v d ≡ true → d < top

pub split-none : (p two row : List ℕ) → length two ≡ 320 → row ≡ replicate 256 255 → Splitting p two row 0 0
unfolding used_by any up_from all_below
split-none p two row long e = record {
  within = omega arith;
  written = fill_none (plain_byte p) 320 two long;
  long = ap length e ∙ length-replicate {A = ℕ} 256 255;
  each = λ d l. ap (λ (r : List ℕ). get_or r d 0) e ∙ get_or-replicate {A = ℕ} 256 d 255 0 l;
  lows = refl;
  above = λ d h. clash false h refl;
}

module _ (p two row : List ℕ) (top v : ℕ) (s : Splitting p two row top v) where
  -- both bytes of a node
  two-written : nodes p ≤ 160 → v < nodes p → (a b : ℕ) → a ≡ get_or p (3 * v) 0 → b ≡ get_or p (3 * v + 1) 0 →
      Filling (plain_byte p) 320 (set (set two (2 * v) a) (2 * v + 1) b) (2 * (v + 1))
  unfolding plain_byte
  two-written few l a b ea eb =
      let f : ℕ → ℕ = plain_byte p in
      let i : 3 * v ≡ 3 * (2 * v / 2) + 2 * v % 2 = omega arith in
      let j : 3 * v + 1 ≡ 3 * ((2 * v + 1) / 2) + (2 * v + 1) % 2 = omega arith in
      let one = fill-turn f 320 two (2 * v) a s.written (omega arith) (ea ∙ ap (λ (k : ℕ). get_or p k 0) i) in
      let both = fill-turn f 320 (set two (2 * v) a) (2 * v + 1) b one (omega arith) (eb ∙ ap (λ (k : ℕ). get_or p k 0) j) in
      let e : 2 * v + 1 + 1 ≡ 2 * (v + 1) = omega arith in
      subst (Filling f 320 (set (set two (2 * v) a) (2 * v + 1) b)) e both

  -- the node's desk d, marked; top' is one above the highest desk again
  module _ (d top' : ℕ) (is : d ≡ desk_of p v) (mine : d < top') (old : top ≤ top') (least : (top' ≡ top) ⊎ (top' ≡ d + 1)) where
    marked : d < 256 → (i : ℕ) → i < 256 → get_or (set row d 0) i 0 ≡ cond (used_by p (v + 1) i) 0 255
    marked low i b = cases (decided (eqb (desk_of p v) i))
        (λ h. let z : i ≡ d = sym (is ∙ eqb-true (desk_of p v) i h) in
        rw (z, used_turn p v d, eq-eqb (desk_of p v) d (sym is)) (get_or-set_same row d 0 0 (omega (arith, s.long)) ∙ shown (used_by p v d)))
        (λ h. let z : i ≡ d → ⊥ = λ q. eqb-false (desk_of p v) i h (sym (q ∙ is)) in
        get_or-set_other row d i 0 0 z ∙ s.each i b ∙ rw (used_turn p v i, h, or-false))
      where
        shown : (b : Bool) → ◌≡◌ {A = ℕ} 0 (cond (b || true) 0 255)
        shown true = refl
        shown false = refl

    low_turn : (leb top 160 && leb d 159) ≡ leb top' 160
    low_turn = same_bool _ _
        (λ h. let a = leb-true top 160 (and_left _ _ h) in
        let b = leb-true d 159 (and_right (leb top 160) _ h) in
        le-leb top' 160 (cases least (λ e. omega (arith, e)) (λ e. omega (arith, e))))
        (λ h. let a = leb-true top' 160 h in and-join _ _ (le-leb top 160 (omega arith)) (le-leb d 159 (omega arith)))

    pub split-turn : nodes p ≤ 160 → v < nodes p → d < 256 → (a b : ℕ) → a ≡ get_or p (3 * v) 0 → b ≡ get_or p (3 * v + 1) 0 →
        Splitting p (set (set two (2 * v) a) (2 * v + 1) b) (set row d 0) top' (v + 1)
    unfolding all_below
    split-turn few l low a b ea eb = record {
      within = omega arith;
      written = two-written few l a b ea eb;
      long = length-set row d 0 ∙ s.long;
      each = marked low;
      lows = rw (add-one, s.lows, ← is) low_turn;
      above = λ i h. cases ((either (used_by p v i) (eqb (desk_of p v) i)).0 (sym (used_turn p v i) ∙ h))
          (λ u. let a = s.above i u in omega arith)
          (λ u. let z : desk_of p v ≡ i = eqb-true (desk_of p v) i u in omega arith);
    }

  -- there is room for both bytes of a node
  pub split-room : nodes p ≤ 160 → v < nodes p → (a : ℕ) → 2 * v + 1 < length (set two (2 * v) a)
  split-room few l a = omega (arith, length-set two (2 * v) a, s.written.long)

  module _ (end : nodes p ≤ v) where
    all_split : v ≡ nodes p
    all_split = le_antisymm s.within end

    used-is : (d : ℕ) → used_by p v d ≡ used p d
    unfolding used_by used
    used-is d = rw all_split

    pub split-front : take (2 * nodes p) two ≡ plain p
    unfolding plain
    split-front = subst (λ (k : ℕ). take (2 * k) two ≡ table (plain_byte p) (2 * k)) all_split (fill-front (plain_byte p) 320 two (2 * v) s.written)

    pub split-marks : row ≡ table (mark_of p) 256
    unfolding mark_of
    split-marks = table-by (mark_of p) 256 row s.long (λ d l. s.each d l ∙ ap (λ (b : Bool). cond b 0 255) (used-is d))

    pub split-low : desks_low p ≡ leb top 160
    unfolding desks_low
    split-low = sym (ap (all_below (λ u. leb (desk_of p u) 159)) all_split) ∙ s.lows

    pub split-above : (d : ℕ) → used p d ≡ true → d < top
    split-above d h = s.above d (used-is d ∙ h)
