-- The theorem of this crate: an only child is never turned down (specs/Only.antt). Assumes nothing.
use Rattle.std.proofs.Common.{◌≡◌, refl, Bool, true, false, cond, not, List, [], ◌∷◌, ℕ, eqb, eq-eqb}
use mathlib.Core.Bool.{and-false}
use Rattle.lists.specs.Seq.{all, any, keep, up_from}
use Rattle.plan.specs.Plan.{size, parent, children_below, children, others}
use Rattle.event.specs.Event.{Event, down, at, code_number, code_of, event_of}
use Rattle.guard.specs.Guard.{guard_by, guard, holds, barred}
use Rattle.guard.specs.Bytes.{enc_events, enc_clauses, encode}
use Rattle.site.specs.Verdict.{Refusal}
use Rattle.site.specs.Verdict.{Invalid, Barred, Unmet}
use Rattle.site.specs.Verdict.{Refused}
use Rattle.row.specs.Row.{heard}
use Rattle.site.specs.Step.{stepped, step_invalid, site_at, decide, step_at, step_of}
use Rattle.site.specs.Only.{Declined, NeverDown, OnlyChild}

-- one of three refusals by two tests
refused-by : (row : List ℕ) (x y z : Refusal) (i b : Bool) →
    Declined row (cond i (stepped row (Refused x)) (cond b (stepped row (Refused y)) (stepped row (Refused z))))
refused-by row x y z true b = record { why = x; is = refl }
refused-by row x y z false true = record { why = y; is = refl }
refused-by row x y z false false = record { why = z; is = refl }

module _ (p : List ℕ) (v : ℕ) (only : children p (parent p v) ≡ v ∷ []) where
  no-others : others p v ≡ []
  unfolding others keep
  no-others = rw only (rw (eq-eqb v v refl))

  down-written : encode (guard p (at down v)) ≡ 2 ∷ 1 ∷ 2 ∷ v ∷ 0 ∷ []
  unfolding encode enc_clauses enc_events code_number guard guard_by
  down-written = rw no-others

  down-unmet : (heard : Event → Bool) → holds heard (guard p (at down v)) ≡ false
  unfolding holds all any guard guard_by
  down-unmet heard = rw (no-others, and-false)

  down-declined : (row : List ℕ) → Declined row (step_of p 8 v row)
  unfolding step_at decide code_of
  down-declined row =
      let n = step_invalid p 8 v row in
      let q = site_at p 8 v in
      rw (down-unmet (heard row)) (refused-by row (Invalid n) (Barred q) (Unmet q) (not (eqb n 0)) (barred p (heard row) (event_of 8 v)))

pub only_child : OnlyChild
only_child p v only = record { written = down-written p v only; unmet = down-unmet p v only; declined = down-declined p v only }

-- the smallest plan that has one, 05ff0100
pub smallest : NeverDown (0x05 ∷ 0xff ∷ 0x01 ∷ 0x00 ∷ []) 1
unfolding size parent children_below children keep up_from
smallest = only_child (0x05 ∷ 0xff ∷ 0x01 ∷ 0x00 ∷ []) 1 refl
