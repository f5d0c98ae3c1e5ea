-- Names are the same byte for byte (rule M1), and a slot's name is known by its bytes. Assumes nothing.
use mathlib.Core.Path.{◌≡◌, refl, sym, ◌∙◌}
use mathlib.Core.Bool.{true, false}
use mathlib.Core.List.{List}
use Prim.Native.Nat.{ℕ, ◌+◌, ◌*◌, ◌<◌}
use native.Mathlib.Omega.{arith}
use borrow.Author.Tests.{eq-eqb, eqb-true}
use lib.Dec.{eqb}
use lib.ListN.{length, get_or}
use lib.Seq.{ext_get_or}
use Rattle.lists.proofs.Logic.{no_bool, and_left, and_right, and-join, clash}
use Rattle.lists.proofs.Below.{below_at, below_by}
use Rattle.points.specs.Points.{name_at, in_use, same_name, has_name}
use Rattle.points.proofs.SlotLaws.{name-byte, name-long}

same_at_lem : (a b : List ℕ) → same_name a b ≡ true → (j : ℕ) → j < 8 → get_or a j 0 ≡ get_or b j 0
unfolding same_name
same_at_lem a b h j l = eqb-true (get_or a j 0) (get_or b j 0) (below_at (λ j. eqb (get_or a j 0) (get_or b j 0)) 8 j h l)

same_by : (a b : List ℕ) → ((j : ℕ) → j < 8 → get_or a j 0 ≡ get_or b j 0) → same_name a b ≡ true
unfolding same_name
same_by a b h = below_by (λ j. eqb (get_or a j 0) (get_or b j 0)) 8 (λ j l. eq-eqb (get_or a j 0) (get_or b j 0) (h j l))

pub same_self : (a : List ℕ) → same_name a a ≡ true
same_self a = same_by a a (λ j l. refl)

pub same_back : (a b : List ℕ) → same_name a b ≡ true → same_name b a ≡ true
same_back a b h = same_by b a (λ j l. sym (same_at_lem a b h j l))

pub same-on : (a b c : List ℕ) → same_name a b ≡ true → same_name b c ≡ true → same_name a c ≡ true
same-on a b c h k = same_by a c (λ j l. same_at_lem a b h j l ∙ same_at_lem b c k j l)

-- slot i's name is this one if its bytes are
pub name-is : (names name : List ℕ) (i : ℕ) → length names ≡ 128 → i < 16 → length name ≡ 8 → ((j : ℕ) → j < 8 → get_or names (8 * i + j) 0 ≡ get_or name j 0) → name_at names i ≡ name
name-is names name i n l m h =
    let long : length (name_at names i) ≡ 8 = name-long names i 8 n l (omega arith) in
    ext_get_or 0 (name_at names i) name (long ∙ sym m) (λ j b. let c : j < 8 = omega arith in name-byte names i j c ∙ h j c)

-- two lists of names have the same one in slot i
pub name-same : (names names' : List ℕ) (i : ℕ) → length names ≡ 128 → length names' ≡ 128 → i < 16 →
    ((j : ℕ) → j < 8 → get_or names' (8 * i + j) 0 ≡ get_or names (8 * i + j) 0) → name_at names' i ≡ name_at names i
name-same names names' i n n' l h = name-is names' (name_at names i) i n' l (name-long names i 8 n l (omega arith)) (λ j c. h j c ∙ sym (name-byte names i j c))

-- a slot has a name if it is in use and its name is the same; then it has no other
module _ (names places name : List ℕ) (i : ℕ) where
  pub has-used : has_name names places name i ≡ true → in_use places i ≡ true
  has-used h = and_left (in_use places i) (same_name (name_at names i) name) h

  pub has_same : has_name names places name i ≡ true → same_name (name_at names i) name ≡ true
  has_same h = and_right (in_use places i) (same_name (name_at names i) name) h

  pub has-by : in_use places i ≡ true → same_name (name_at names i) name ≡ true → has_name names places name i ≡ true
  has-by u s = and-join (in_use places i) (same_name (name_at names i) name) u s

pub has-no-other : (names places name other : List ℕ) (i : ℕ) → same_name (name_at names i) name ≡ true → same_name other name ≡ false → has_name names places other i ≡ false
has-no-other names places name other i s d = no_bool (has_name names places other i) (λ h.
    clash (same_name other name) (same-on other (name_at names i) name (same_back (name_at names i) other (has_same names places other i h)) s) d)
