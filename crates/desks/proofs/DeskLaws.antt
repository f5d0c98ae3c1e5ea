-- A plan with desks as a plan of two bytes a node with a layout (rules N1 to N4): the plain plan, the check, and the rows. Assumes nothing.
use mathlib.Core.Path.{◌≡◌, refl, ◌∙◌, ap}
use mathlib.Core.Bool.{true, false, ◌&&◌}
use mathlib.Core.List.{List}
use mathlib.Core.Logic.{◌⊎◌}
use Prim.Native.Nat.{ℕ, ◌+◌, ◌*◌, ◌/◌, ◌%◌, ◌≤◌, ◌<◌}
use native.Mathlib.Omega.{arith}
use lib.Dec.{eqb, ltb, leb}
use lib.ListN.{length, get_or}
use borrow.Author.Tests.{eqb-true, eq-eqb, ne_eqb, ltb-true, leb-true, lt-ltb, le-leb, lt-leb}
use Rattle.lists.specs.Seq.{up_from, all_below}
use Rattle.lists.proofs.Logic.{cases, decided, clash, no_bool, and_left, and_right, and-join, test-passed, number_passed}
use Rattle.lists.proofs.Members.{any_at, any-by, in-up, up_in}
use Rattle.lists.proofs.Below.{below_at, below_by, below-stop}
use Rattle.lists.proofs.Table.{table-length, table_at}
use Rattle.plan.specs.Plan.{size, kind_byte, parent}
use Rattle.plan.specs.Check.{length_ok, check_number}
use Rattle.plan.proofs.CheckLaws.{check-1, length-told}
use Rattle.plan.proofs.Main.{check-exact}
use Rattle.event.specs.Site.{Housed}
use Rattle.journal.specs.Session.{Named}
use Rattle.desks.specs.Desk.{nodes, desk_of, plain_byte, plain, threes, desks_low, desk_check, DeskAccepted, used, used_below, desk_rows, desk_row, desk_layout}
use Rattle.desks.specs.Claim.{DeskRows}
use Rattle.desks.proofs.RankLaws.{of_rank, rank_below, ranked}

-- THE PLAIN PLAN: the same nodes, kinds and parents
pub same_nodes : (p : List ℕ) → size (plain p) ≡ nodes p
unfolding size plain
same_nodes p = ap (λ (n : ℕ). n / 2) (table-length (plain_byte p) (2 * nodes p)) ∙ omega arith

plain_at : (p : List ℕ) (v i : ℕ) → v < nodes p → i < 2 → get_or (plain p) (2 * v + i) 0 ≡ get_or p (3 * v + i) 0
unfolding plain plain_byte
plain_at p v i l m =
    let a : (2 * v + i) / 2 ≡ v = omega arith in
    let b : (2 * v + i) % 2 ≡ i = omega arith in
    table_at (plain_byte p) (2 * nodes p) (2 * v + i) (omega arith) ∙ rw (a, b)

pub plain-kind : (p : List ℕ) (v : ℕ) → v < nodes p → kind_byte (plain p) v ≡ get_or p (3 * v) 0
unfolding kind_byte
plain-kind p v l = let a : 2 * v + 0 ≡ 2 * v = omega arith in let b : 3 * v + 0 ≡ 3 * v = omega arith in rw (a, b) at (plain_at p v 0 l (omega arith))

pub plain-parent : (p : List ℕ) (v : ℕ) → v < nodes p → parent (plain p) v ≡ get_or p (3 * v + 1) 0
unfolding parent
plain-parent p v l = plain_at p v 1 l (omega arith)

-- THE CHECK
pub whole-threes : (p : List ℕ) → threes p ≡ true → length p ≡ 3 * nodes p
unfolding threes nodes
whole-threes p h = let e = eqb-true (length p % 3) 0 (and_left _ _ (and_left _ _ h)) in omega arith

threes-whole : (p : List ℕ) → length p ≡ 3 * nodes p → 0 < nodes p → nodes p ≤ 160 → threes p ≡ true
unfolding threes
threes-whole p e l m =
    let r : length p % 3 ≡ 0 = omega arith in
    and-join _ _ (and-join _ _ (eq-eqb (length p % 3) 0 r) (lt-ltb 0 (length p) (omega arith))) (le-leb (length p) 480 (omega arith))

pub check-accepts : (p : List ℕ) → desk_check p ≡ 0 → DeskAccepted p
unfolding desk_check desks_low
check-accepts p h =
    let a = test-passed (threes p) 0 _ h in
    let b = number_passed (check_number (plain p)) _ a.1 in
    let c = test-passed (desks_low p) 21 0 b.1 in
    record {
      whole = whole-threes p a.0;
      accepted = (check-exact (plain p)).0 b.0;
      low = λ v l. leb-true (desk_of p v) 159 (below_at (λ v. leb (desk_of p v) 159) (nodes p) v c.0 l);
    }

-- each test in turn
module _ (p : List ℕ) where
  pub check-short : threes p ≡ false → desk_check p ≡ 1
  unfolding desk_check
  check-short h = rw h

  -- a length that is not right: the plain plan's number would be 1 too
  pub check-length : (length p ≡ 0) ⊎ (480 < length p) ⊎ (length p % 3 ≡ 0 → ⊥) → desk_check p ≡ 1
  unfolding threes
  check-length w = check-short (no_bool (threes p) (λ h.
      let a = and_left (eqb (length p % 3) 0 && ltb 0 (length p)) (leb (length p) 480) h in
      let r = eqb-true (length p % 3) 0 (and_left _ _ a) in
      let l = ltb-true 0 (length p) (and_right (eqb (length p % 3) 0) _ a) in
      let m = leb-true (length p) 480 (and_right (eqb (length p % 3) 0 && ltb 0 (length p)) _ h) in
      cases w (λ e. absurd (omega arith)) (λ w. cases w (λ e. absurd (omega arith)) (λ e. absurd (e r)))))

  module _ (whole : length p ≡ 3 * nodes p) where
    pub check-by-plain : (check_number (plain p) ≡ 0 → ⊥) → desk_check p ≡ check_number (plain p)
    unfolding desk_check
    check-by-plain bad = cases (decided (threes p))
        (λ t. rw (t, ne_eqb (check_number (plain p)) 0 bad))
        (λ t. rw t (plain-1 t))
      where
        plain-1 : threes p ≡ false → 1 ≡ check_number (plain p)
        plain-1 t = check-1 (plain p) (no_bool (length_ok (plain p)) (λ h. let l = length-told (plain p) h in clash (threes p) (threes-whole p whole (rw (same_nodes p) at l.some) (rw (same_nodes p) at l.few)) t))

    pub check-by-desk : check_number (plain p) ≡ 0 → (v : ℕ) → v < nodes p → 159 < desk_of p v → desk_check p ≡ 22
    unfolding desk_check desks_low
    check-by-desk z v l high =
        let ok = (check-exact (plain p)).0 z in
        let t : threes p ≡ true = threes-whole p whole (rw (same_nodes p) at ok.some) (rw (same_nodes p) at ok.few) in
        let w : all_below (λ u. leb (desk_of p u) 159) (nodes p) ≡ false = below-stop (λ u. leb (desk_of p u) 159) (nodes p) v l (lt-leb (desk_of p v) 159 high) in
        rw (t, z, w)

pub accepted-checks : (p : List ℕ) → DeskAccepted p → desk_check p ≡ 0
unfolding desk_check desks_low
accepted-checks p ok =
    let n = same_nodes p in
    let t : threes p ≡ true = threes-whole p ok.whole (rw n at ok.accepted.some) (rw n at ok.accepted.few) in
    let c : check_number (plain p) ≡ 0 = (check-exact (plain p)).1 ok.accepted in
    let d = below_by (λ v. leb (desk_of p v) 159) (nodes p) (λ v l. le-leb (desk_of p v) 159 (ok.low v l)) in
    rw (t, c, d)

-- THE ROWS
pub nodes-use : (p : List ℕ) (v : ℕ) → v < nodes p → used p (desk_of p v) ≡ true
unfolding used
nodes-use p v l = any-by (λ u. eqb (desk_of p u) (desk_of p v)) (in-up 0 (nodes p) v (omega arith) (omega arith)) (eq-eqb (desk_of p v) (desk_of p v) refl)

pub used-by : (p : List ℕ) (d : ℕ) → used p d ≡ true → (v : ℕ) × (v < nodes p) × (desk_of p v ≡ d)
unfolding used
used-by p d h =
    let r = any_at (λ v. eqb (desk_of p v) d) (up_from 0 (nodes p)) h in
    let u = up_in 0 (nodes p) r.1 in
    (r.0, omega arith, eqb-true (desk_of p r.0) d r.2)

module _ (p : List ℕ) (ok : DeskAccepted p) where
  used_low : (d : ℕ) → used p d ≡ true → d < 160
  used_low d h = let r = used-by p d h in let l = ok.low r.0 r.1 in let e = r.2 in omega arith

  used-within : (d : ℕ) → used p d ≡ true → desk_row p d < desk_rows p
  unfolding desk_row used_below
  used-within d h = rw h (rank_below (used p) d 160 (used_low d h) h)

  pub desk-rows : DeskRows p
  unfolding desk_row used_below
  desk-rows = record {
    nodes-use = nodes-use p;
    used-by = used-by p;
    within = used-within;
    rising = λ c d h k l. rw (h, k) (rank_below (used p) c d l h);
    every = λ q l. let r = ranked (used p) 160 q l in (of_rank (used p) 160 q, r.passes, rw r.passes r.is);
    unused = λ d h. rw h (omega arith);
  }

  pub housed : Housed (plain p) (desk_layout p)
  unfolding desk_layout
  housed v l = let k : v < nodes p = rw (same_nodes p) at l in used-within (desk_of p v) (nodes-use p v k)

  pub named : Named (desk_layout p) (desk_row p)
  unfolding desk_layout desk_row used_below
  named = record {
    number = of_rank (used p) 160;
    named = λ q l. let r = ranked (used p) 160 q l in rw r.passes r.is;
    no-event = λ q l e. let w = (ranked (used p) 160 q l).within in omega arith;
  }
