-- The theorems of this crate: the claims of specs/Desk.antt and specs/Claim.antt. Assumes nothing.
use mathlib.Core.List.{List}
use Prim.Native.Nat.{ℕ}
use Rattle.job.proofs.Main.{demand3}
use Rattle.hosts.proofs.Main.{hosts-covered}
use Rattle.journal.proofs.Main.{journaled}
use Rattle.rewind.proofs.Main.{returning}
use Rattle.desks.specs.Desk.{plain, DeskCheckExact, DeskNumbers, desk_row, desk_layout}
use Rattle.desks.specs.Claim.{Desked, OwnDesks, OneDesk, FormsApart}
use Rattle.desks.proofs.DeskLaws.{same_nodes, plain-kind, plain-parent, check-length, check-by-plain, check-by-desk, check-accepts, accepted-checks, desk-rows, housed, named}
use Rattle.desks.proofs.CallLaws.{at-number, at_once, on-plain, keep-plain, undo-plain, point-undo-plain, point-back-plain, record-plain, step-plain, event-at, message-own}
use Rattle.desks.proofs.OwnLaws.{own-form}
use Rattle.desks.proofs.PlainLaws.{same-as-plain}
use Rattle.desks.proofs.OneLaws.{one_follows}
use Rattle.desks.proofs.FormLaws.{plain-read, desks-read}

-- N2
pub desk-check-exact : DeskCheckExact
desk-check-exact p = (check-accepts p, accepted-checks p)

pub desk-numbers : (p : List ℕ) → DeskNumbers p
desk-numbers p = record { by_length = check-length p; by-plain = check-by-plain p; by-desk = check-by-desk p }

-- N3 to N8
pub desked : Desked
desked p ok = record {
  same_nodes = same_nodes p;
  kinds = plain-kind p;
  parents = plain-parent p;
  plan = ok.accepted;
  rows = desk-rows p ok;
  housed = housed p ok;
  named = named p ok;
  event = event-at p ok;
  step = step-plain p ok;
  own-message = message-own p ok;
  at_once = at_once (plain p) (desk_layout p);
  simulates = on-plain p ok;
  keeps = keep-plain p ok;
  same_number = at-number;
  undoes = undo-plain p ok;
  point-undoes = point-undo-plain p ok;
  point-backs = point-back-plain p ok;
  records = record-plain p ok;
  demand3 = demand3 (plain p) ok.accepted (desk_layout p) (housed p ok);
  hosts = hosts-covered (plain p) ok.accepted (desk_layout p) (housed p ok);
  journal = journaled (plain p) ok.accepted (desk_layout p) (housed p ok) (desk_row p) (named p ok);
  returning = returning (plain p) ok.accepted (desk_layout p) (housed p ok) (desk_row p);
}

-- N9
pub own-desks : OwnDesks
own-desks = record { same = same-as-plain; every = own-form }

-- N10
pub one-desk : OneDesk
one-desk = one_follows

-- N11
pub forms-apart : FormsApart
forms-apart = record { plain-read = plain-read; desks-read = desks-read }
