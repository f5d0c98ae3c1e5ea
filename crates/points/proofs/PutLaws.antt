-- A slot's name as it is written, and what is read of the names afterwards. Assumes nothing.
use mathlib.Core.Path.{◌≡◌, refl, sym, ◌∙◌, ap}
use mathlib.Core.List.{List, [], ◌∷◌, ◌++◌}
use mathlib.Core.Logic.{⊎_elim, ◌⊎◌, inl, inr}
use Prim.Native.Nat.{ℕ, zero, suc, ◌+◌, ◌≤◌, ◌<◌}
use native.Mathlib.Nat.{add-zero}
use native.Mathlib.Omega.{arith}
use borrow.Rule.Slice.PartMut.{put_mid}
use lib.ListN.{length, get_or, set, take, drop, length-set}
use lib.Seq.{sets, sets-eq, take-length, get_or-set_same, get_or-set_other}
use Rattle.std.proofs.lemmas.Slice.{put_mid-paste}

-- the part of the names from a on, overwritten by a name
pub name_put : (name names part : List ℕ) (a k : ℕ) → part ≡ name → k ≡ length name → a + length name ≤ length names → put_mid a k names part ≡ sets names a name
name_put name names part a k is long room =
    put_mid-paste a k names part name (length name) is (sym long) refl
    ∙ ap (λ l. take a names ++ l ++ drop (a + length name) names) (take-length name)
    ∙ sym (sets-eq name names a room)

-- what is read after a list was written: inside it, and elsewhere
pub sets-other : (vs l : List ℕ) (i k : ℕ) → (k < i) ⊎ (i + length vs ≤ k) → get_or (sets l i vs) k 0 ≡ get_or l k 0
sets-other [] l i k h = refl
sets-other (v ∷ vs) l i k h =
    sets-other vs (set l i v) (suc i) k (⊎_elim (λ a. inl (omega arith)) (λ a. inr (omega arith)) h)
    ∙ get_or-set_other l i k v 0 (λ e. ⊎_elim (λ a. absurd (omega arith)) (λ a. absurd (omega arith)) h)

pub sets_same : (vs l : List ℕ) (i j : ℕ) → i + length vs ≤ length l → j < length vs → get_or (sets l i vs) (i + j) 0 ≡ get_or vs j 0
sets_same [] l i j h m = absurd (omega arith)
sets_same (v ∷ vs) l i zero h m =
    let e : i + 0 ≡ i = add-zero i in
    rw e (sets-other vs (set l i v) (suc i) i (inl (omega arith)) ∙ get_or-set_same l i v 0 (omega arith))
sets_same (v ∷ vs) l i (suc j) h m =
    let e : i + suc j ≡ suc i + j = omega arith in
    rw e (sets_same vs (set l i v) (suc i) j (rw (length-set l i v) (omega arith)) (omega arith))
