-- The state stays, or one byte of it changes. Assumes nothing.
use mathlib.Core.Path.{◌≡◌, ◌∙◌}
use Prim.Native.Nat.{◌+◌, ◌*◌, ◌<◌}
use native.Mathlib.Omega.{arith}
use lib.ListN.{length}
use Rattle.layout.specs.Layout.{layout_by, via}
use Rattle.journal.specs.Journal.{target}
use Rattle.keeping.proofs.UndoLaws.{entry-spot, taken-clear, taken_none}
use Rattle.keeping.proofs.take_back.Goals as goal
use Rattle.keeping.proofs.take_back.Lts
use Rattle.keeping.proofs.take_back.Tie
use Rattle.keeping.proofs.take_back.Reads

there : (c : Lts.After-target Tie.the-claims Reads.Pre Reads.Post Tie.handed_clauses) → let a = c.args in c.target-q.result ≡ target a.lay.plan.now (layout_by a.lay.rows a.lay.home.now) (via a.lay.row.now) a.e.code a.e.node a.e.site
there c = c.target-q.ensures ∙ rw c.from.ensures

spot : (c : Lts.After-node_count Tie.the-claims Reads.Pre Reads.Post Tie.handed_clauses) → let a = c.args in c.target-q.result * c.node_count.result + a.e.node < length a.state.now
spot c = entry-spot _ _ _ _ c.requires.laid _ c.requires.e_value _ _ (there c.before.before) c.node_count.ensures

pub returns-then-e-eq0 : goal.returns-then-e-eq0
returns-then-e-eq0 c = taken_none _ _ _ _ c.requires.laid _ c.if-e-eq0.true

pub overflow_mul-at : goal.overflow_mul-at
overflow_mul-at c = omega (arith, spot c.before)

pub overflow_add-at : goal.overflow_add-at
overflow_add-at c = omega (arith, spot c.before.before, c.from-2.ensures)

pub bounds-state-at : goal.bounds-state-at
bounds-state-at c = omega (arith, spot c.before.before.before, c.from-2.ensures)

pub bounds-state-at-2 : goal.bounds-state-at-2
bounds-state-at-2 c = omega (arith, spot c.before.before.before, c.from-2.ensures)

pub returns : goal.returns
returns c = rw c.from-2.ensures (taken-clear _ _ _ _ c.requires.laid _ c.requires.e_value _ _ (there c.before.before.before.before.before) c.node_count.ensures c.if-e-eq0.false _ (c.without_bit.ensures ∙ rw c.from-2.ensures))
