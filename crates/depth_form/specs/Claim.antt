-- THE CLAIMS of rules R8 to R10. Definitions only.
use Rattle.std.specs.Prelude.{◌≡◌, true, List, ◌↔◌, ℕ, length}
use Rattle.plan.specs.Check.{length_ok, kind_ok, at_all, check_number, Accepted}
use Rattle.plan.specs.Replaced.{replaced}
use Rattle.trees.specs.Numbering.{in_preorder}
use Rattle.depth_form.specs.Form.{depth_form, form_plan, level_ok, form_number}
use Rattle.depth_form.specs.Calls.{to_depths_of, from_depths_of}

-- R9: the depth form of p is accepted, as long as p, and comes back as p
pub record There (p : List ℕ) : Type 0 where
  pub accepted : form_number (depth_form p) ≡ 0
  pub long : length (depth_form p) ≡ length p
  pub back : form_plan (depth_form p) ≡ p

-- MAIN CLAIM (R9), from plans to forms: it holds of every accepted plan in the fixed numbering.
abbrev pub DepthsThere : Type 0
DepthsThere = (p : List ℕ) → Accepted p → in_preorder p ≡ true → There p

-- R9: the plan of d is accepted, in the fixed numbering, as long as d, and comes back as d
pub record Back (d : List ℕ) : Type 0 where
  pub accepted : Accepted (form_plan d)
  pub ordered : in_preorder (form_plan d) ≡ true
  pub long : length (form_plan d) ≡ length d
  pub again : depth_form (form_plan d) ≡ d

-- MAIN CLAIM (R9), from forms to plans: it holds of every depth form that is accepted.
abbrev pub DepthsBack : Type 0
DepthsBack = (d : List ℕ) → form_number d ≡ 0 → Back d

-- CLAIM (R8). Behind 17, the number of a form is its plan's: 4, 5 or 6 where the plan is refused so, and never 3.
abbrev pub FormAsPlan : Type 0
FormAsPlan = (d : List ℕ) → length_ok d ≡ true → at_all kind_ok d ≡ true → at_all level_ok d ≡ true → form_number d ≡ check_number (form_plan d)

-- R9: p is an accepted plan in the fixed numbering, and d its depth form
pub record Matches (p d : List ℕ) : Type 0 where
  pub accepted : Accepted p
  pub ordered : in_preorder p ≡ true
  pub form : depth_form p ≡ d

-- CLAIM (R9). The depth forms that are accepted are those of the accepted plans in the fixed numbering, and no others.
abbrev pub FormExact : Type 0
FormExact = (d : List ℕ) → (form_number d ≡ 0) ↔ ((p : List ℕ) × Matches p d)

-- CLAIM (R10). A call with a plan passes and leaves d just where d matches the plan and the lent bytes have the plan's length.
abbrev pub ToDepthsCall : Type 0
ToDepthsCall = (p out d : List ℕ) → (to_depths_of p out ≡ replaced 0 d) ↔ (Matches p d × (length out ≡ length p))

-- CLAIM (R10). A call with a depth form passes and leaves p just where p matches the form and the lent bytes have the form's length.
abbrev pub FromDepthsCall : Type 0
FromDepthsCall = (d out p : List ℕ) → (from_depths_of d out ≡ replaced 0 p) ↔ (Matches p d × (length out ≡ length d))
