-- Assumes nothing.
use mathlib.Core.Path.{sym, ◌∙◌, ap}
use mathlib.Core.List.{List}
use Prim.Native.Nat.{ℕ, ◌+◌, ◌*◌, ◌≤◌}
use native.Mathlib.Omega.{arith}
use lib.ListN.{get_or}
use Rattle.lists.proofs.Logic.{clash}
use Rattle.plan.specs.Plan.{size}
use Rattle.event.specs.Event.{event_of, known}
use Rattle.event.specs.Site.{host_of}
use Rattle.event.proofs.ValidLaws.{Known, known-told}
use Rattle.desks.specs.Desk.{desk_of}
use Rattle.desks.specs.Calls.{own_desk}
use Rattle.desk_calls.proofs.own_desk.Goals as goal
use Rattle.desk_calls.proofs.own_desk.Lts
use Rattle.desk_calls.proofs.own_desk.Tie
use Rattle.desk_calls.proofs.own_desk.Reads

-- the event is one of the plan
there : (c : Lts.Else1 Tie.the-claims Reads.Pre Reads.Post) → Known c.args.two.now c.args.code c.args.node
there c = known-told _ _ _ (sym c.known.ensures ∙ c.if-not-known.false)

few : (c : Lts.Else1 Tie.the-claims Reads.Pre Reads.Post) → size c.args.two.now ≤ 160
few c = rw c.requires.1 c.requires.0.accepted.few

pub returns-then-not-known : goal.returns-then-not-known
returns-then-not-known c = λ k. clash _ k (sym (ap (λ (q : List ℕ). known q c.args.code c.args.node) c.requires.1) ∙ sym c.known.ensures ∙ c.if-not-known.true)

pub overflow_cast-code : goal.overflow_cast-code
overflow_cast-code c = let k = there c.before in omega (arith, k.high)

pub overflow_cast-node : goal.overflow_cast-node
overflow_cast-node c = let k = there c.before in omega (arith, k.node_in, few c.before)

pub returns : goal.returns
unfolding own_desk desk_of
returns c = λ k. c.byte_at.ensures ∙ ap (λ (i : ℕ). get_or c.args.plan.now (3 * i + 2) 0) (c.from.ensures ∙ c.host-host.ensures ∙ ap (λ (q : List ℕ). host_of q (event_of c.args.code c.args.node)) c.requires.1)
