-- The loop that numbers the marked desks. Assumes nothing.
use mathlib.Core.Path.{◌≡◌, refl, ◌∙◌, ap}
use mathlib.Core.Bool.{cond}
use mathlib.Core.List.{List}
use Prim.Native.Nat.{ℕ, ◌+◌, ◌≤◌, ◌<◌}
use native.Mathlib.Nat.{le_antisymm}
use native.Mathlib.Numerals.{add-one}
use native.Mathlib.Omega.{arith}
use borrow.Author.Tests.{eqb-true, eqb-false, ltb-true, ltb-false}
use lib.Dec.{eqb, ltb}
use lib.ListN.{length, get_or, set, length-set}
use lib.Seq.{get_or-set_same, get_or-set_other}
use Rattle.lists.specs.Seq.{keep, up_from, table}
use Rattle.lists.proofs.Logic.{cases, decided}
use Rattle.lists.proofs.Keep.{keep-short}
use Rattle.lists.proofs.Table.{up-length, table-by}
use Rattle.desks.proofs.RankLaws.{rank-end}
use Rattle.desk_layout.specs.Tables.{is_marked, marked_below, numbered_byte}

marked_turn : (fs : List ℕ) (d : ℕ) → marked_below fs (d + 1) ≡ marked_below fs d + cond (is_marked fs d) 1 0
unfolding marked_below
marked_turn fs d = rw add-one (rank-end (is_marked fs) d)

marked-few : (fs : List ℕ) (d : ℕ) → marked_below fs d ≤ d
unfolding marked_below
marked-few fs d = let h = keep-short (is_marked fs) (up_from 0 d) in omega (arith, up-length 0 d)

-- of the marks fs those below d are numbered, and n of them were set
pub record Numbering (fs : List ℕ) (top : ℕ) (row : List ℕ) (n d : ℕ) : Type 0 where
  pub within : d ≤ top
  pub long : length row ≡ 256
  pub done : (i : ℕ) → i < d → get_or row i 0 ≡ cond (is_marked fs i) (marked_below fs i) (get_or fs i 0)
  pub rest : (i : ℕ) → d ≤ i → get_or row i 0 ≡ get_or fs i 0
  pub count : n ≡ marked_below fs d

pub numbering-none : (fs : List ℕ) (top : ℕ) → length fs ≡ 256 → Numbering fs top fs 0 0
unfolding marked_below keep up_from
numbering-none fs top e = record { within = omega arith; long = e; done = λ i l. absurd (omega arith); rest = λ i l. refl; count = refl }

module _ (fs : List ℕ) (top : ℕ) (row : List ℕ) (n d : ℕ) (s : Numbering fs top row n d) where
  -- what is counted fits a byte
  pub count-few : top ≤ 160 → d < top → n < 255
  count-few few l = let h = marked-few fs d in omega (arith, s.count)

  pub numbering-turn : top ≤ 160 → d < top → (b x n' : ℕ) → b ≡ get_or row d 0 → x ≡ cond (eqb b 0) n b → n' ≡ n + cond (eqb b 0) 1 0 → Numbering fs top (set row d x) n' (d + 1)
  unfolding is_marked
  numbering-turn few l b x n' eb ex en =
      let is : b ≡ get_or fs d 0 = eb ∙ s.rest d (omega arith) in
      record {
        within = omega arith;
        long = length-set row d x ∙ s.long;
        done = λ i m. cases (decided (eqb i d))
            (λ h. let z : i ≡ d = eqb-true i d h in rw z (get_or-set_same row d x 0 (omega (arith, s.long)) ∙ ex ∙ rw (is, s.count)))
            (λ h. let z = eqb-false i d h in get_or-set_other row d i x 0 z ∙ s.done i (omega arith));
        rest = λ i m. let z : i ≡ d → ⊥ = λ q. absurd (omega arith) in get_or-set_other row d i x 0 z ∙ s.rest i (omega arith);
        count = en ∙ rw (marked_turn fs d, is, s.count);
      }

  module _ (end : top ≤ d) where
    all_done : d ≡ top
    all_done = le_antisymm s.within end

    pub numbered-count : n ≡ marked_below fs top
    numbered-count = s.count ∙ ap (marked_below fs) all_done

    pub numbered-all : row ≡ table (numbered_byte fs top) 256
    unfolding numbered_byte
    numbered-all = table-by (numbered_byte fs top) 256 row s.long (λ i l. cases (decided (ltb i top))
        (λ h. s.done i (let z = ltb-true i top h in omega (arith, all_done)) ∙ rw h)
        (λ h. s.rest i (let z = ltb-false i top h in omega (arith, all_done)) ∙ rw h))
