-- An event, no event of the plan, a row past the last, or one byte of the state. Assumes nothing.
use mathlib.Core.Path.{◌≡◌, refl, sym, ◌∙◌}
use mathlib.Core.List.{List}
use Prim.Native.Nat.{ℕ, ◌+◌, ◌*◌, ◌<◌}
use native.Mathlib.Omega.{arith}
use lib.ListN.{length}
use Rattle.event.proofs.ValidLaws.{Known, known-told}
use Rattle.layout.specs.Layout.{via, layout_by}
use Rattle.journal.specs.Journal.{target}
use Rattle.keeping.proofs.KeepLaws.{told-row, spot_in, unset-unknown, set_there, unset-past}
use Rattle.keeping.proofs.is_repeat.Goals as goal
use Rattle.keeping.proofs.is_repeat.Lts
use Rattle.keeping.proofs.is_repeat.Tie
use Rattle.keeping.proofs.is_repeat.Reads

pub returns-then-site-eq255 : goal.returns-then-site-eq255
returns-then-site-eq255 c = record { value = λ e. refl; value_2 = λ h. absurd (h c.if-site-eq255.true) }

-- the event is known
knows : (c : Lts.Else2 Tie.the-claims Reads.Pre Reads.Post Tie.handed_clauses) → Known c.args.lay.plan.now c.args.code c.args.node
knows c = known-told _ _ _ (sym c.known.ensures ∙ c.if-not-known.false)

-- the row that is told
there : (c : Lts.After-via Tie.the-claims Reads.Pre Reads.Post Tie.handed_clauses) (home : List ℕ) → c.via-q.result ≡ target c.args.lay.plan.now (layout_by c.args.lay.rows home) (via c.args.lay.row.now) c.args.code c.args.node c.args.site
there c home = c.via-q.ensures ∙ told-row _ _ _ _ _ _ c.if-site-eq255.false

spot : (c : Lts.After-node_count Tie.the-claims Reads.Pre Reads.Post Tie.handed_clauses) → c.via-q.result * c.node_count.result + c.args.node < length c.args.state.now
spot c = spot_in c.args.lay.plan.now c.args.state.now _ c.requires.1 _ c.if-lay-q.false _ (knows c.before.before.before.before.before).node_in _ c.node_count.ensures

pub returns-then-not-known : goal.returns-then-not-known
returns-then-not-known c = record { value = λ e. absurd (c.if-site-eq255.false e); value_2 = λ h home. sym (unset-unknown _ (layout_by _ home) (via _) _ _ _ _ (sym c.known.ensures ∙ c.if-not-known.true)) }

pub returns-then-lay-q : goal.returns-then-lay-q
unfolding layout_by
returns-then-lay-q c = record { value = λ e. absurd (c.if-site-eq255.false e); value_2 = λ h home. sym (unset-past _ (layout_by _ home) (via _) _ _ _ _ _ (there c.before.before home) (knows c.before.before.before.before).node_in c.requires.1 c.if-lay-q.true) }

pub overflow_mul-q : goal.overflow_mul-q
overflow_mul-q c = omega (arith, spot c.before)

pub overflow_add-q : goal.overflow_add-q
overflow_add-q c = omega (arith, spot c.before)

pub bounds-state-q : goal.bounds-state-q
bounds-state-q c = spot c.before.before

pub overflow_cast-code : goal.overflow_cast-code
overflow_cast-code c = let k = knows c.before.before.before.before.before.before.before in omega (arith, k.high)

pub returns : goal.returns
returns c = record { value = λ e. absurd (c.if-site-eq255.false e); value_2 = λ h home. c.has_bit.ensures ∙ sym (set_there _ (layout_by _ home) (via _) _ _ _ _ _ (there c.before.before.before.before.before.before home) (knows c.before.before.before.before.before.before.before.before).node_in _ c.node_count.ensures) }
