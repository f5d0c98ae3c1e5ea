-- The plan of a depth form, written line by line, with the last line of each depth at hand. Assumes nothing.
use mathlib.Core.Path.{◌≡◌, refl, sym, ◌∙◌, ap}
use mathlib.Core.Bool.{Bool, true, false, cond}
use mathlib.Core.List.{List}
use Prim.Native.Nat.{ℕ, zero, suc, pred, ◌+◌, ◌*◌, ◌-◌, ◌≤◌, ◌<◌}
use native.Mathlib.Omega.{arith}
use native.Mathlib.Numerals.{add-one}
use lib.Dec.{eqb}
use lib.ListN.{length, get_or, set, length-set, replicate, length-replicate, get_or-replicate}
use lib.Seq.{get_or-set_same, get_or-set_other}
use borrow.Author.Tests.{eqb-true, eqb-false, ne_eqb}
use Rattle.lists.proofs.Logic.{cases, decided}
use Rattle.plan.specs.Plan.{size, kind_byte}
use Rattle.plan.specs.Check.{length_ok, at_all}
use Rattle.plan.proofs.CheckLaws.{Long, length-told}
use Rattle.depth_form.specs.Form.{depth_at, last_at, line_parent, form_plan, level_ok}
use Rattle.depth_form.proofs.LastLaws.{Levels, levels-told}
use Rattle.placing.proofs.PlaceLaws.{with_line}
use Rattle.convert.proofs.LineLaws.{Writing, write-none, write-room, write-turn, write_done}

-- a depth form whose length and levels are right
pub record Lines (d : List ℕ) : Type 0 where
  pub long : Long d
  pub levels : Levels d

pub lines-told : (d : List ℕ) → length_ok d ≡ true → at_all level_ok d ≡ true → Lines d
lines-told d a b = let l = length-told d a in record { long = l; levels = levels-told d l.some b }

-- the lines below v are the plan's, and last has the last line before v of each depth
pub record Forming (d out last : List ℕ) (v : ℕ) : Type 0 where
  pub low : 0 < v
  pub lines : Writing (kind_byte d) (line_parent d) (size d) out v
  pub long : length last ≡ 161
  pub each : (e : ℕ) → e < 161 → get_or last e 0 ≡ last_at d e v

pub form-room : {d : List ℕ} → Lines d → (out : List ℕ) → length out ≡ length d → 2 * 0 + 1 < length out
form-room h out e = omega (arith, h.long.even, h.long.some)

pub form-root : {d : List ℕ} → Lines d → (out : List ℕ) → length out ≡ length d → (k : ℕ) → k ≡ kind_byte d 0 → Forming d (with_line out 0 k 255) (replicate 161 0) 1
unfolding last_at line_parent
form-root {d} h out f k q = record {
  low = omega arith;
  lines = write-turn (write-none out (f ∙ h.long.even)) h.long.some k 255 q refl;
  long = length-replicate {A = ℕ} 161 0;
  each = λ e l. get_or-replicate {A = ℕ} 161 e 0 0 l ∙ sym (same (eqb (depth_at d 0) e));
}
  where
    same : (b : Bool) → ◌≡◌ {A = ℕ} (cond b 0 0) 0
    same true = refl
    same false = refl

-- the loop stands at v, whose depth is e
pub record FormTurn (d out last : List ℕ) (v e : ℕ) : Type 0 where
  pub right : Lines d
  pub so-far : Forming d out last v
  pub within : v < size d
  pub deep : e ≡ depth_at d v

module _ {d out last : List ℕ} {v e : ℕ} (t : FormTurn d out last v e) where
  level-most : (x : ℕ) → x < size d → depth_at d x ≤ suc x
  level-most zero m = omega (arith, t.right.levels.first)
  level-most (suc x) m = let k = t.right.levels.later x m in omega (arith, level-most x (omega arith))

  pub form-deep : 2 ≤ e
  form-deep =
      let s : suc (v - 1) ≡ v = omega (arith, t.so-far.low) in
      let k : 2 ≤ depth_at d v = rw (sym s) (t.right.levels.later (v - 1) (omega (arith, t.within))).0 in
      omega (arith, t.deep)

  pub form-flat : e < 161
  form-flat = omega (arith, t.deep, level-most v t.within, t.within, t.right.long.few)

  pub form_small : v < 160
  form_small = omega (arith, t.within, t.right.long.few)

  pub form-turn-room : 2 * v + 1 < length out
  form-turn-room = write-room t.so-far.lines t.within

  line-parent : get_or last (e - 1) 0 ≡ line_parent d v
  unfolding line_parent
  line-parent =
      let two = form-deep in
      let s : e - 1 ≡ pred (depth_at d v) = omega (arith, t.deep) in
      rw (ne_eqb v 0 (λ z. omega (arith, t.so-far.low))) (t.so-far.each (e - 1) (omega (arith, form-flat)) ∙ ap (λ x. last_at d x v) s)

  last_turn : (x : ℕ) → x < 161 → get_or (set last e v) x 0 ≡ last_at d x (v + 1)
  unfolding last_at
  last_turn x m = cases (decided (eqb (depth_at d v) x))
      (λ z. let s : e ≡ x = t.deep ∙ eqb-true (depth_at d v) x z in rw (add-one, z, ← s) (get_or-set_same last e v 0 (omega (arith, t.so-far.long, form-flat))))
      (λ z. let ne = eqb-false (depth_at d v) x z in rw (add-one, z) (get_or-set_other last e x v 0 (λ s. ne (sym (s ∙ t.deep))) ∙ t.so-far.each x m))

  pub form-turn : (k : ℕ) → k ≡ kind_byte d v → Forming d (with_line out v k (get_or last (e - 1) 0)) (set last e v) (v + 1)
  form-turn k q = record {
    low = omega arith;
    lines = write-turn t.so-far.lines t.within k (get_or last (e - 1) 0) q line-parent;
    long = length-set last e v ∙ t.so-far.long;
    each = last_turn;
  }

pub form-done : {d out last : List ℕ} {v : ℕ} → Forming d out last v → size d ≤ v → out ≡ form_plan d
unfolding form_plan
form-done h l = write_done h.lines l
