-- Loops that write two bytes a line: below v each line is that of f and g. Assumes nothing.
use mathlib.Core.Path.{◌≡◌, sym, ◌∙◌}
use mathlib.Core.List.{List}
use Prim.Native.Nat.{ℕ, ◌+◌, ◌*◌, ◌≤◌, ◌<◌}
use native.Mathlib.Omega.{arith}
use lib.Dec.{eqb}
use lib.ListN.{length, set, length-set}
use lib.Seq.{get_or-set_same, get_or-set_other}
use borrow.Author.Tests.{eqb-true, eqb-false}
use Rattle.lists.proofs.Logic.{cases, decided}
use Rattle.plan.specs.Plan.{kind_byte, parent}
use Rattle.trees.proofs.LaidLaws.{alike_same}
use Rattle.placing.proofs.PlaceLaws.{with_line, line-length}
use Rattle.depth_form.specs.Form.{pairs}
use Rattle.depth_form.proofs.PairsLaws.{pairs-length, pairs-kind, pairs-parent}

-- the lines of out below v, of n
pub record Writing (f g : ℕ → ℕ) (n : ℕ) (out : List ℕ) (v : ℕ) : Type 0 where
  pub long : length out ≡ 2 * n
  pub within : v ≤ n
  pub kinds : (i : ℕ) → i < v → kind_byte out i ≡ f i
  pub seconds : (i : ℕ) → i < v → parent out i ≡ g i

module _ (out : List ℕ) (v x y : ℕ) (room : 2 * v + 1 < length out) where
  line-kind : kind_byte (with_line out v x y) v ≡ x
  unfolding kind_byte
  line-kind = get_or-set_other (set out (2 * v) x) (2 * v + 1) (2 * v) y 0 (λ e. omega arith) ∙ get_or-set_same out (2 * v) x 0 (omega arith)

  line_second : parent (with_line out v x y) v ≡ y
  unfolding parent
  line_second = get_or-set_same (set out (2 * v) x) (2 * v + 1) y 0 (omega (arith, length-set out (2 * v) x))

  line-kind-other : (i : ℕ) → (i ≡ v → ⊥) → kind_byte (with_line out v x y) i ≡ kind_byte out i
  unfolding kind_byte
  line-kind-other i n = get_or-set_other (set out (2 * v) x) (2 * v + 1) (2 * i) y 0 (λ e. omega arith) ∙ get_or-set_other out (2 * v) (2 * i) x 0 (λ e. n (omega arith))

  line-second-other : (i : ℕ) → (i ≡ v → ⊥) → parent (with_line out v x y) i ≡ parent out i
  unfolding parent
  line-second-other i n = get_or-set_other (set out (2 * v) x) (2 * v + 1) (2 * i + 1) y 0 (λ e. n (omega arith)) ∙ get_or-set_other out (2 * v) (2 * i + 1) x 0 (λ e. omega arith)

module _ {f g : ℕ → ℕ} {n : ℕ} where
  pub write-none : (out : List ℕ) → length out ≡ 2 * n → Writing f g n out 0
  write-none out e = record { long = e; within = omega arith; kinds = λ i l. absurd (omega arith); seconds = λ i l. absurd (omega arith) }

  module _ {out : List ℕ} {v : ℕ} (h : Writing f g n out v) (l : v < n) where
    pub write-room : 2 * v + 1 < length out
    write-room = omega (arith, h.long)

    pub write-turn : (x y : ℕ) → x ≡ f v → y ≡ g v → Writing f g n (with_line out v x y) (v + 1)
    write-turn x y a b = record {
      long = line-length out v x y ∙ h.long;
      within = omega arith;
      kinds = λ i m. cases (decided (eqb i v))
          (λ z. let e = eqb-true i v z in rw e (line-kind out v x y write-room ∙ a))
          (λ z. let e = eqb-false i v z in line-kind-other out v x y write-room i e ∙ h.kinds i (omega arith));
      seconds = λ i m. cases (decided (eqb i v))
          (λ z. let e = eqb-true i v z in rw e (line_second out v x y write-room ∙ b))
          (λ z. let e = eqb-false i v z in line-second-other out v x y write-room i e ∙ h.seconds i (omega arith));
    }

  pub write_done : {out : List ℕ} {v : ℕ} → Writing f g n out v → n ≤ v → out ≡ pairs f g n
  write_done {out} {v} h l = alike_same out (pairs f g n) n h.long (pairs-length f g n) (λ x m. record {
    kinds = h.kinds x (omega arith) ∙ sym (pairs-kind f g n x m);
    parents = h.seconds x (omega arith) ∙ sym (pairs-parent f g n x m);
  })
