-- THE CLAIMS OF DESKS (rules N3 to N11): which row each desk has, in plain terms; what a simulation's event is at its desk; that demand 3, the hosts, the
-- journal and going back hold with desks in place of sites; that a desk for every node changes nothing; what one desk for all nodes gives; and that
-- neither form of a plan is taken for the other.
-- Each field stands under its rule. Definitions only.
use Rattle.std.specs.Prelude.{◌≡◌, true, false, cond, List, ◌↔◌, ◌⊎◌, ℕ, ◌*◌, ◌/◌, ◌+◌, ◌%◌, ◌≤◌, ◌<◌, eqb, length, get_or}
use Rattle.lists.specs.Seq.{table}
use Rattle.plan.specs.Plan.{size, kind_byte, parent}
use Rattle.plan.specs.Check.{Accepted, check_number}
use Rattle.event.specs.Event.{code_number, Event, event_of, among}
use Rattle.event.specs.Site.{own, Housed, site_of}
use Rattle.event.specs.Valid.{event_fault}
use Rattle.central.specs.Central.{allowed}
use Rattle.row.specs.Row.{heard}
use Rattle.retention.specs.Record.{table_number}
use Rattle.site.specs.Verdict.{Verdict}
use Rattle.site.specs.Verdict.{Heard}
use Rattle.site.specs.Verdict.{verdict_number}
use Rattle.site.specs.Step.{stepped, step_of}
use Rattle.job.specs.Simulation.{row_of, simulated, row_stepped, Step, replay, passed, heard_at}
use Rattle.job.specs.Claim.{Claim, central_after}
use Rattle.hosts.specs.Hosts.{HostClaim}
use Rattle.simulation.specs.Run.{simulate_of, record_by_on, record_by_into}
use Rattle.journal.specs.declared.Entry.{Entry}
use Rattle.journal.specs.Journal.{keep_of, step_on, undo_of}
use Rattle.journal.specs.Session.{Named, JournalClaim}
use Rattle.rewind.specs.Return.{point_undo_of, point_back_of, point_undo_own, point_back_own}
use Rattle.rewind.specs.Session.{ReturnClaim}
use Rattle.desks.specs.Desk.{nodes, desk_of, plain, desk_check, DeskAccepted, used, desk_rows, desk_row, desk_layout}
use Rattle.desks.specs.Calls.{own_desk, at_desk, step_at_desk, kept_at_desk, desk_step_of, desk_simulate_of, desk_keep_of, desk_undo_of, desk_point_undo_of, desk_point_back_of, desk_record_by_into}

-- N3: one row for each desk in use, lowest desk first
pub record DeskRows (p : List ℕ) : Type 0 where
  -- a desk is in use if a node has it, and then only
  pub nodes-use : (v : ℕ) → v < nodes p → used p (desk_of p v) ≡ true
  pub used-by : (d : ℕ) → used p d ≡ true → (v : ℕ) × (v < nodes p) × (desk_of p v ≡ d)
  -- each has a row, and a higher desk a higher one
  pub within : (d : ℕ) → used p d ≡ true → desk_row p d < desk_rows p
  pub rising : (c d : ℕ) → used p c ≡ true → used p d ≡ true → c < d → desk_row p c < desk_row p d
  -- there is no other row, and no other desk has one
  pub every : (q : ℕ) → q < desk_rows p → (d : ℕ) × (used p d ≡ true) × (desk_row p d ≡ q)
  pub unused : (d : ℕ) → used p d ≡ false → desk_rows p ≤ desk_row p d

-- N1, N3 to N8: what holds of a plan with desks
pub record DeskClaim (p : List ℕ) : Type 0 where
  -- N1: the plain plan has the nodes, their kinds and their parents, and is accepted
  pub same_nodes : size (plain p) ≡ nodes p
  pub kinds : (v : ℕ) → v < nodes p → kind_byte (plain p) v ≡ get_or p (3 * v) 0
  pub parents : (v : ℕ) → v < nodes p → parent (plain p) v ≡ get_or p (3 * v + 1) 0
  pub plan : Accepted (plain p)
  -- N3, N4
  pub rows : DeskRows p
  pub housed : Housed (plain p) (desk_layout p)
  pub named : Named (desk_layout p) (desk_row p)
  -- N7: an event of a simulation is its desk's step on that desk's row, and the other rows stay
  pub event : (code node : ℕ) (st : List ℕ) → length st ≡ desk_rows p * nodes p → event_fault (plain p) true code node ≡ 0 →
      desk_simulate_of p code node 255 st
      ≡ row_stepped (plain p) st (desk_row p (own_desk p code node)) (desk_step_of p code node (row_of (plain p) st (desk_row p (own_desk p code node))))
  -- N7: and that step is a site's with the plain plan, but for the desk that its answer names
  pub step : (code node : ℕ) (row : List ℕ) →
      desk_step_of p code node row ≡ stepped (step_of (plain p) code node row).row (at_desk (own_desk p code node) (step_of (plain p) code node row).verdict)
  -- N5: a message to the event's own desk is a repeat
  pub own-message : (code node : ℕ) (st : List ℕ) → length st ≡ desk_rows p * nodes p → event_fault (plain p) true code node ≡ 0 →
      heard (row_of (plain p) st (desk_row p (own_desk p code node))) (event_of code node) ≡ true →
      desk_simulate_of p code node (own_desk p code node) st ≡ simulated st Heard
  -- N4: what passes at a desk is heard there at once
  pub at_once : (ts : List Step) (e : Event) → among (passed (plain p) (desk_layout p) ts) e ≡ true →
      among (heard_at (plain p) (desk_layout p) (site_of (plain p) (desk_layout p) e) ts) e ≡ true
  -- N8: the calls are those of which the claims below speak, on the plain plan with the layout of the desks; where such a call answers a row, these
  -- answer the event's desk, with the same number
  pub simulates : (code node desk : ℕ) (st : List ℕ) →
      desk_simulate_of p code node desk st ≡ step_at_desk (own_desk p code node) (step_on (plain p) (desk_layout p) (desk_row p) st code node desk)
  pub keeps : (st : List ℕ) (es : List Entry) (k code node desk : ℕ) →
      desk_keep_of p st es k code node desk ≡ kept_at_desk (own_desk p code node) (keep_of (plain p) (desk_layout p) (desk_row p) st es k code node desk)
  pub same_number : (d : ℕ) (v : Verdict) → verdict_number (at_desk d v) ≡ verdict_number v
  pub undoes : (st : List ℕ) (es : List Entry) (k : ℕ) → desk_undo_of p st es k ≡ undo_of (plain p) (desk_layout p) (desk_row p) st es k
  pub point-undoes : (st : List ℕ) (es : List Entry) (k : ℕ) (names places : List ℕ) →
      desk_point_undo_of p st es k names places ≡ point_undo_of (plain p) (desk_layout p) (desk_row p) st es k names places
  pub point-backs : (name st : List ℕ) (es : List Entry) (k : ℕ) (names places : List ℕ) →
      desk_point_back_of p name st es k names places ≡ point_back_of (plain p) (desk_layout p) (desk_row p) name st es k names places
  pub records : (tab : List ℕ) → table_number tab ≡ 0 → (st m c : List ℕ) → desk_record_by_into p tab st m c ≡ record_by_on (plain p) (desk_layout p) tab st m c
  -- N8: demand 3, the hosts, the journal, going back
  pub demand3 : Claim (plain p) (desk_layout p)
  pub hosts : HostClaim (plain p) (desk_layout p)
  pub journal : JournalClaim (plain p) (desk_layout p) (desk_row p)
  pub returning : ReturnClaim (plain p) (desk_layout p) (desk_row p)

-- THE CLAIM OF DESKS (N3 to N8): for every accepted plan with desks
abbrev pub Desked : Type 0
Desked = (p : List ℕ) → DeskAccepted p → DeskClaim p

-- N9: a plan of two bytes a node, read with each node's number as its desk
unfoldable pub own_desks_byte : List ℕ → ℕ → ℕ
own_desks_byte p i = cond (eqb (i % 3) 2) (i / 3) (get_or p (2 * (i / 3) + i % 3) 0)

unfoldable pub with_own_desks : List ℕ → List ℕ
with_own_desks p = table (own_desks_byte p) (3 * size p)

-- N9: every call answers and leaves the same, refused or not
pub record SameAsPlain (p : List ℕ) : Type 0 where
  pub check : desk_check (with_own_desks p) ≡ check_number p
  pub step : (code node : ℕ) (row : List ℕ) → desk_step_of (with_own_desks p) code node row ≡ step_of p code node row
  pub simulate : (code node site : ℕ) (st : List ℕ) → desk_simulate_of (with_own_desks p) code node site st ≡ simulate_of p code node site st
  pub keep : (st : List ℕ) (es : List Entry) (k code node site : ℕ) → desk_keep_of (with_own_desks p) st es k code node site ≡ keep_of p (own p) (λ q. q) st es k code node site
  pub undo : (st : List ℕ) (es : List Entry) (k : ℕ) → desk_undo_of (with_own_desks p) st es k ≡ undo_of p (own p) (λ q. q) st es k
  pub point-undo : (st : List ℕ) (es : List Entry) (k : ℕ) (names places : List ℕ) → desk_point_undo_of (with_own_desks p) st es k names places ≡ point_undo_own p st es k names places
  pub point-back : (name st : List ℕ) (es : List Entry) (k : ℕ) (names places : List ℕ) →
      desk_point_back_of (with_own_desks p) name st es k names places ≡ point_back_own p name st es k names places
  pub end-record-by : (tab st m c : List ℕ) → desk_record_by_into (with_own_desks p) tab st m c ≡ record_by_into p tab st m c

-- CLAIM (N9). So it is for every plan of whole pairs, accepted or not; and these are all plans whose nodes have their own numbers for desks.
pub record OwnDesks : Type 0 where
  pub same : (p : List ℕ) → length p ≡ 2 * size p → SameAsPlain p
  pub every : (p : List ℕ) → length p ≡ 3 * nodes p → ((v : ℕ) → v < nodes p → desk_of p v ≡ v) → with_own_desks (plain p) ≡ p

-- CLAIM (N10). Where all nodes have one desk, an event passes at any time if and only if the central rule allows it.
abbrev pub OneDesk : Type 0
OneDesk = (p : List ℕ) → DeskAccepted p → (d : ℕ) → ((v : ℕ) → v < nodes p → desk_of p v ≡ d) → (ts : List Step) (e : Event) →
    (verdict_number (desk_simulate_of p (code_number e.code) e.node 255 (replay (plain p) (desk_layout p) ts)).verdict ≡ 0)
    ↔ (allowed (plain p) (central_after (plain p) (desk_layout p) ts) e ≡ true)

-- CLAIM (N11). Neither form of a plan is taken for the other: read in the other form, an accepted plan is refused with 1 or 2.
pub record FormsApart : Type 0 where
  pub plain-read : (p : List ℕ) → Accepted p → (desk_check p ≡ 1) ⊎ (desk_check p ≡ 2)
  pub desks-read : (p : List ℕ) → DeskAccepted p → (check_number p ≡ 1) ⊎ (check_number p ≡ 2)
