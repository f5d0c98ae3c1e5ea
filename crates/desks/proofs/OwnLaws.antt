-- A plan of two bytes a node, read with each node's number as its desk, is that plan with each node at its own site (rule N9): the plain plan, the
-- check, the layout, and every call. Assumes nothing.
use mathlib.Core.Path.{◌≡◌, sym, ◌∙◌, ap}
use mathlib.Core.Bool.{false}
use mathlib.Core.List.{List}
use mathlib.Core.Logic.{inl, inr}
use Prim.Native.Nat.{ℕ, ◌+◌, ◌*◌, ◌/◌, ◌%◌, ◌-◌, ◌≤◌, ◌<◌}
use native.Mathlib.Omega.{arith}
use lib.Dec.{eqb, ltb}
use lib.ListN.{length, get_or}
use borrow.Author.Tests.{eqb-true, eqb-false, ne_eqb, ltb-true, ltb-false, lt-ltb, le-ltb}
use Rattle.lists.proofs.Logic.{cases, decided, same_bool}
use Rattle.lists.proofs.Table.{table-length, table_at, table-by}
use Rattle.plan.specs.Plan.{size}
use Rattle.plan.specs.Check.{check_number, Accepted}
use Rattle.plan.proofs.Main.{check-exact}
use Rattle.event.specs.Site.{own}
use Rattle.desks.specs.Desk.{nodes, desk_of, plain_byte, plain, desk_check, DeskAccepted, used, used_below, desk_rows, desk_row, desk_layout}
use Rattle.desks.specs.Claim.{own_desks_byte, with_own_desks}
use Rattle.desks.proofs.AlikeLaws.{Alike}
use Rattle.desks.proofs.RankLaws.{rank-all, rank-none}
use Rattle.desks.proofs.DeskLaws.{same_nodes, check-by-plain, accepted-checks, nodes-use, used-by}

module _ (p : List ℕ) where
  abbrev w : List ℕ
  w = with_own_desks p

  own-length : length w ≡ 3 * size p
  unfolding with_own_desks
  own-length = table-length (own_desks_byte p) (3 * size p)

  own-nodes : nodes w ≡ size p
  unfolding nodes
  own-nodes = ap (λ (n : ℕ). n / 3) own-length ∙ omega arith

  -- a node's desk is its number
  pub desk-own : (v : ℕ) → v < size p → desk_of w v ≡ v
  unfolding desk_of with_own_desks own_desks_byte
  desk-own v l =
      let a : (3 * v + 2) % 3 ≡ 2 = omega arith in
      let b : (3 * v + 2) / 3 ≡ v = omega arith in
      table_at (own_desks_byte p) (3 * size p) (3 * v + 2) (omega arith) ∙ rw (a, b)

  -- and these desks are in use
  used-own : (d : ℕ) → used w d ≡ ltb d (size p)
  used-own d = same_bool _ _
      (λ h. let r = used-by w d h in
      let l : r.0 < size p = rw own-nodes at r.1 in
      let e : r.0 ≡ d = sym (desk-own r.0 l) ∙ r.2 in
      lt-ltb d (size p) (rw e at l))
      (λ h. let l = ltb-true d (size p) h in rw (desk-own d l) at (nodes-use w d (rw own-nodes l)))

  below-own : (n : ℕ) → n ≤ size p → used_below w n ≡ n
  unfolding used_below
  below-own n l = rank-all (used w) n (λ d m. used-own d ∙ lt-ltb d (size p) (omega arith))

  byte-own : (i : ℕ) → i < 2 * size p → plain_byte w i ≡ get_or p i 0
  unfolding plain_byte with_own_desks own_desks_byte
  byte-own i l =
      let j : ℕ = 3 * (i / 2) + i % 2 in
      let a : eqb (j % 3) 2 ≡ false = ne_eqb (j % 3) 2 (λ e. absurd (omega arith)) in
      let b : j / 3 ≡ i / 2 = omega arith in
      let c : j % 3 ≡ i % 2 = omega arith in
      let d : 2 * (i / 2) + i % 2 ≡ i = omega arith in
      table_at (own_desks_byte p) (3 * size p) j (omega arith) ∙ rw (a, b, c, d)

  module _ (even : length p ≡ 2 * size p) where
    pub plain-own : plain w ≡ p
    unfolding plain
    plain-own = sym (table-by (plain_byte w) (2 * nodes w) p (even ∙ rw own-nodes) (λ i l. sym (byte-own i (rw own-nodes at l))))

    own-accepted : Accepted p → DeskAccepted w
    own-accepted ok = record {
      whole = own-length ∙ rw own-nodes;
      accepted = rw plain-own ok;
      low = λ v l. let m : v < size p = rw own-nodes at l in let f = ok.few in rw (desk-own v m) (omega arith);
    }

    pub check-own : desk_check w ≡ check_number p
    check-own = cases (decided (eqb (check_number p) 0))
        (λ z. let n = eqb-true (check_number p) 0 z in accepted-checks w (own-accepted ((check-exact p).0 n)) ∙ sym n)
        (λ z. check-by-plain w (own-length ∙ rw own-nodes) (λ n. eqb-false (check_number p) 0 z (ap check_number (sym plain-own) ∙ n)) ∙ ap check_number plain-own)

  -- THE LAYOUT
  module _ (few : size p ≤ 160) where
    rows-own : desk_rows w ≡ size p
    unfolding used_below
    rows-own =
        let e : 160 ≡ (160 - size p) + size p = omega arith in
        ap (used_below w) e ∙ rank-none (used w) (size p) (160 - size p) (λ d l. used-own d ∙ le-ltb d (size p) l) ∙ below-own (size p) (omega arith)

    row-own : (d : ℕ) → d < size p → desk_row w d ≡ d
    unfolding desk_row
    row-own d l = rw (used-own d, lt-ltb d (size p) l) (below-own d (omega arith))

    row-none : (d : ℕ) → size p ≤ d → desk_row w d ≡ size p
    unfolding desk_row
    row-none d l = rw (used-own d, le-ltb d (size p) l) rows-own

    pub alike-own : Alike p (desk_layout w) (desk_row w) (own p) (λ q. q)
    unfolding desk_layout own
    alike-own = record {
      count = rows-own;
      homes = λ v l. rw (desk-own v l) (row-own v l);
      named = λ d. cases (decided (ltb d (size p)))
          (λ l. inl (row-own d (ltb-true d (size p) l)))
          (λ l. let o = ltb-false d (size p) l in inr (rw (rows-own, row-none d o) (omega arith), rw rows-own o));
    }

-- every plan whose nodes have their own numbers for desks is of this form
module _ (p : List ℕ) (whole : length p ≡ 3 * nodes p) (desks : (v : ℕ) → v < nodes p → desk_of p v ≡ v) where
  own-byte : (i : ℕ) → i < length p → own_desks_byte (plain p) i ≡ get_or p i 0
  unfolding own_desks_byte desk_of plain plain_byte
  own-byte i l = cases (decided (eqb (i % 3) 2))
      (λ h. let r = eqb-true (i % 3) 2 h in
      let k : 3 * (i / 3) + 2 ≡ i = omega arith in
      rw h (sym (desks (i / 3) (omega arith)) ∙ ap (λ (j : ℕ). get_or p j 0) k))
      (λ h. let r = eqb-false (i % 3) 2 h in
      let j : ℕ = 2 * (i / 3) + i % 3 in
      let a : j / 2 ≡ i / 3 = omega arith in
      let b : j % 2 ≡ i % 3 = omega arith in
      let k : 3 * (i / 3) + i % 3 ≡ i = omega arith in
      rw h (table_at (plain_byte p) (2 * nodes p) j (omega arith) ∙ rw (a, b, k)))

  pub own-form : with_own_desks (plain p) ≡ p
  unfolding with_own_desks
  own-form =
      let n : 3 * size (plain p) ≡ length p = ap (λ (k : ℕ). 3 * k) (same_nodes p) ∙ sym whole in
      sym (table-by (own_desks_byte (plain p)) (3 * size (plain p)) p (sym n) (λ i l. sym (own-byte i (omega (arith, n)))))
