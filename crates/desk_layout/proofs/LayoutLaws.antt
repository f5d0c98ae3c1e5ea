-- What is prepared is the layout of the plan's desks: the plain plan, the number of rows, and both tables. Assumes nothing.
use mathlib.Core.Path.{◌≡◌, refl, sym, ◌∙◌, ap, subst}
use mathlib.Core.Bool.{Bool, true, false}
use mathlib.Core.List.{List}
use mathlib.Core.Logic.{◌⊎◌, inl, inr}
use Prim.Native.Nat.{ℕ, ◌*◌, ◌≤◌, ◌<◌}
use native.Mathlib.Nat.{mul-le-mul_right}
use native.Mathlib.Omega.{arith}
use borrow.Author.Tests.{ltb-true, ltb-false}
use lib.Dec.{eqb, ltb}
use lib.ListN.{length, get_or, take, length-take}
use lib.Seq.{get_or-take}
use Rattle.lists.specs.Seq.{up_from}
use Rattle.lists.proofs.Logic.{cases, decided, no_bool}
use Rattle.lists.proofs.Keep.{keep-short}
use Rattle.lists.proofs.Table.{table-length, table_at, up-length}
use Rattle.plan.specs.Plan.{size}
use Rattle.job.specs.Simulation.{state_fits}
use Rattle.layout.specs.Layout.{via, layout_by, Laid}
use Rattle.layout.proofs.TableLaws.{via-in, via-past}
use Rattle.desks.specs.Desk.{nodes, desk_of, plain, DeskAccepted, used, used_below, desk_row, desk_layout}
use Rattle.desks.proofs.DeskLaws.{same_nodes, desk-rows}
use Rattle.desks.proofs.AlikeLaws.{Alike}
use Rattle.desk_layout.specs.Tables.{row_byte, Prepared}
use Rattle.desk_layout.proofs.PrepareLaws.{nodes-few, front-is}

module _ {p : List ℕ} {rows : ℕ} {two home row : List ℕ} (s : Prepared p rows two home row) where
  abbrev ok : DeskAccepted p
  ok = s.accepted

  rows_few : rows ≤ 160
  unfolding used_below
  rows_few = let h = keep-short (used p) (up_from 0 160) in omega (arith, s.count, up-length 0 160)

  -- the table of rows has no more entries than there are bytes
  pub row-short : length row ≤ 256
  row-short = omega (arith, ap length s.named, table-length (row_byte p) 256)

  -- THE TABLES are the layout
  home_at : (v : ℕ) → v < nodes p → via home v ≡ desk_row p (desk_of p v)
  unfolding row_byte desk_row
  home_at v l =
      let long : nodes p ≤ length home = omega (arith, length-take (nodes p) home, ap length s.homes, table-length (λ u. row_byte p (desk_of p u)) (nodes p)) in
      via-in home v (omega arith) ∙ sym (get_or-take (nodes p) home v 0 l) ∙ ap (λ (h : List ℕ). get_or h v 0) s.homes
      ∙ table_at (λ u. row_byte p (desk_of p u)) (nodes p) v l ∙ rw ((desk-rows p ok).nodes-use v l)

  row_at : (d : ℕ) → d < 256 → via row d ≡ row_byte p d
  row_at d l = via-in row d (omega (arith, ap length s.named, table-length (row_byte p) 256)) ∙ ap (λ (r : List ℕ). get_or r d 0) s.named ∙ table_at (row_byte p) 256 d l

  row_low : (d : ℕ) → d < 256 → (b : Bool) → used p d ≡ b → (via row d ≡ desk_row p d) ⊎ ((rows ≤ via row d) × (rows ≤ desk_row p d))
  unfolding row_byte desk_row
  row_low d l true u = inl (row_at d l ∙ rw u)
  row_low d l false u = let h = rows_few in inr (rw (row_at d l, u) (omega arith), rw u (omega (arith, s.count)))

  row-high : (d : ℕ) → 256 ≤ d → (rows ≤ via row d) × (rows ≤ desk_row p d)
  unfolding desk_row
  row-high d l =
      let h = rows_few in
      let past : via row d ≡ d = via-past row d (omega (arith, ap length s.named, table-length (row_byte p) 256)) in
      let none : used p d ≡ false = no_bool (used p d) (λ u. let b = (desk-rows p ok).used-by d u in let m = ok.low b.0 b.1 in absurd (omega (arith, b.2))) in
      (rw past (omega arith), rw none (omega (arith, s.count)))

  pub alike : Alike (plain p) (layout_by rows home) (via row) (desk_layout p) (desk_row p)
  unfolding layout_by desk_layout
  alike = record {
    count = s.count;
    homes = λ v l. home_at v (omega (arith, same_nodes p));
    named = λ d. cases (decided (ltb d 256)) (λ h. row_low d (ltb-true d 256 h) (used p d) refl) (λ h. inr (row-high d (ltb-false d 256 h)));
  }

  -- by the code's number n of nodes
  module _ (n : ℕ) (e : n ≡ nodes p) where
    -- no more than the methods ask for
    pub desks-few : (n ≤ 160) × (rows ≤ 160)
    desks-few = let h = nodes-few p ok in (omega (arith, e), rows_few)

    pub plan-is : take (2 * n) two ≡ plain p
    plan-is = front-is p two s.front n e

    pub plan-size : size (take (2 * n) two) ≡ n
    plan-size = ap size plan-is ∙ same_nodes p ∙ sym e

    -- the state's length can be counted
    pub length-few : rows * n ≤ 25600
    length-few = let h = nodes-few p ok in let m = mul-le-mul_right n rows_few in omega (arith, m)

    pub laid-plain : (st : List ℕ) → length st ≡ rows * n → Laid (plain p) (layout_by rows home) st
    unfolding layout_by
    laid-plain st long = record {
      plan = ok.accepted;
      housed = λ v l. let m : v < nodes p = omega (arith, same_nodes p) in rw (home_at v m, s.count) ((desk-rows p ok).within (desk_of p v) ((desk-rows p ok).nodes-use v m));
      few = rows_few;
      long = long ∙ rw (e, same_nodes p);
    }

    pub prepared-laid : (st : List ℕ) → length st ≡ rows * n → Laid (take (2 * n) two) (layout_by rows home) st
    prepared-laid st long = subst (λ (q : List ℕ). Laid q (layout_by rows home) st) (sym plan-is) (laid-plain st long)

    pub fits-is : (st : List ℕ) → state_fits (plain p) (desk_layout p) st ≡ eqb (length st) (rows * n)
    unfolding state_fits desk_layout
    fits-is st = rw (same_nodes p, e, s.count)

    pub repeat-ready : (st : List ℕ) → length st ≡ rows * n → (size (take (2 * n) two) ≤ 160) × (length st ≡ rows * size (take (2 * n) two))
    repeat-ready st long = let h = nodes-few p ok in rw plan-size (omega (arith, e), long)
