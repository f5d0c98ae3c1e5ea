-- The slots one after another (rule M2): those before i are not past the count, and have names of their own. Assumes nothing.
use mathlib.Core.Path.{◌≡◌, refl, sym, ◌∙◌, ap}
use mathlib.Core.Bool.{Bool, true, false, not, ◌&&◌, and-false}
use mathlib.Core.List.{List}
use Prim.Native.Nat.{ℕ, ◌+◌, ◌*◌, ◌-◌, ◌≤◌, ◌<◌}
use native.Mathlib.Omega.{arith}
use lib.ListN.{get_or, take, drop}
use Rattle.lists.specs.Seq.{all_below}
use Rattle.lists.proofs.Below.{below_more, below-stop, below_end}
use Rattle.points.specs.Points.{name_at, slot_of, is_past, is_within, is_once, none_past, named_once}
use Rattle.points.proofs.SlotLaws.{past-free, once-free, once-own, once-not, name-part}

module _ (names places : List ℕ) (k : ℕ) where
  pub record Fitting (i : ℕ) : Type 0 where
    pub within : i ≤ 16
    pub none-past : all_below (is_within places k) i ≡ true
    pub once : all_below (is_once names places) i ≡ true

  pub fitting-none : Fitting 0
  unfolding all_below
  fitting-none = record { within = omega arith; none-past = refl; once = refl }

  pub fitting-all : (i : ℕ) → Fitting i → 16 ≤ i → true ≡ (none_past places k && named_once names places)
  unfolding none_past named_once
  fitting-all i f l = sym (rw (below_end (is_within places k) 16 i f.none-past f.within l) (below_end (is_once names places) 16 i f.once f.within l))

  module _ (i : ℕ) (l : i < 16) where
    -- a free slot
    pub turn-free : Fitting i → get_or places i 0 ≡ 0 → Fitting (i + 1)
    turn-free f e = record {
      within = omega arith;
      none-past = below_more (is_within places k) i f.none-past (ap not (past-free (get_or places i 0) k e));
      once = below_more (is_once names places) i f.once (once-free places i (slot_of names places (name_at names i)) e);
    }

    -- a slot in use: b is what the code found of its word, and s of its name, which is m bytes from 8 i on
    module _ (used : get_or places i 0 ≡ 0 → ⊥) (b : Bool) (past : b ≡ is_past places k i) where
      pub stop-past : b ≡ true → false ≡ (none_past places k && named_once names places)
      unfolding none_past
      stop-past t = sym (rw (below-stop (is_within places k) 16 i l (ap not (sym past ∙ t))))

      module _ (s m : ℕ) (part : m ≡ 8 * i + 8 - 8 * i) (found : s ≡ slot_of names places (take m (drop (8 * i) names))) where
        slot-found : s ≡ slot_of names places (name_at names i)
        slot-found = found ∙ ap (slot_of names places) (name-part names i m part)

        pub stop-once : (s ≡ i → ⊥) → false ≡ (none_past places k && named_once names places)
        unfolding named_once
        stop-once h = sym (rw (below-stop (is_once names places) 16 i l (once-not places i (slot_of names places (name_at names i)) used (λ e. h (slot-found ∙ e))), and-false (none_past places k)))

        pub turn-used : Fitting i → b ≡ false → s ≡ i → Fitting (i + 1)
        turn-used f t e = record {
          within = omega arith;
          none-past = below_more (is_within places k) i f.none-past (ap not (sym past ∙ t));
          once = below_more (is_once names places) i f.once (once-own places i (slot_of names places (name_at names i)) used (sym slot-found ∙ e));
        }
