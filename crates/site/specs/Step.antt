-- A site's step and a message to it (rules H16 and H17), each as one value: the answer and the row. Definitions only.
use Rattle.std.specs.Prelude.{true, cond, not, List, ℕ, eqb, length}
use Rattle.plan.specs.Plan.{size}
use Rattle.event.specs.Event.{event_of}
use Rattle.event.specs.Site.{own, site_of}
use Rattle.event.specs.Valid.{invalid}
use Rattle.guard.specs.Guard.{guard, holds, barred}
use Rattle.guard.specs.Rule.{rule_byte}
use Rattle.row.specs.Row.{heard, hear}
use Rattle.site.specs.Verdict.{Invalid, Barred, Unmet}
use Rattle.site.specs.Verdict.{Verdict}
use Rattle.site.specs.Verdict.{Passed, Heard, Refused}

-- H16, H17: the row that a call leaves, and its verdict
pub record Stepped : Type 0 where
  pub row : List ℕ
  pub verdict : Verdict

abbrev pub stepped : List ℕ → Verdict → Stepped
stepped r v = record { row = r; verdict = v }

-- H1 to H9: for an event on a row of that length
unfoldable pub step_invalid : List ℕ → ℕ → ℕ → List ℕ → ℕ
step_invalid p code node row = invalid p (eqb (length row) (size p)) true code node

-- B3, B4: the event's site, where every node has its own
abbrev pub site_at : List ℕ → ℕ → ℕ → ℕ
site_at p code node = site_of p (own p) (event_of code node)

-- H10, H11, or the event passes and is set; the number q of the site goes with each
unfoldable pub decide : List ℕ → ℕ → ℕ → ℕ → List ℕ → Stepped
decide p q code node row =
    cond (barred p (heard row) (event_of code node)) (stepped row (Refused (Barred q)))
    (cond (not (holds (heard row) (guard p (event_of code node)))) (stepped row (Refused (Unmet q)))
    (stepped (hear row code node) (Passed (record { code = code; node = node; site = q; rule = rule_byte p (event_of code node) }))))

-- H16: a step of site q: the tests, and then the decision
unfoldable pub step_at : List ℕ → ℕ → ℕ → ℕ → List ℕ → Stepped
step_at p q code node row =
    cond (not (eqb (step_invalid p code node row) 0)) (stepped row (Refused (Invalid (step_invalid p code node row))))
    (decide p q code node row)

-- B4, H16: where every node has its own site
abbrev pub step_of : List ℕ → ℕ → ℕ → List ℕ → Stepped
step_of p code node row = step_at p (site_at p code node) code node row

-- H17: the event is set. A site cannot know whether a message is true
unfoldable pub hear_of : List ℕ → ℕ → ℕ → List ℕ → Stepped
hear_of p code node row =
    cond (not (eqb (step_invalid p code node row) 0)) (stepped row (Refused (Invalid (step_invalid p code node row))))
    (stepped (hear row code node) Heard)
