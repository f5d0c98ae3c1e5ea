-- Each return is the number of the first test that failed; the lent depths and a local array are lent to `survey`, and the counts then to
-- `counts_match`. Assumes nothing.
use mathlib.Core.Path.{◌≡◌, sym, ◌∙◌}
use mathlib.Core.Bool.{true}
use native.Mathlib.Omega.{arith}
use Rattle.lists.proofs.Lent.{fresh-zeros, fresh-length, lent-room, lent_is, lent_length}
use Rattle.plan.specs.Check.{length_ok, kind_ok, under_block, count_ok, at_all, Ordered}
use Rattle.checker.proofs.TestLaws.{passed, failed, ordered-by}
use Rattle.checker.proofs.DepthsLaws.{front-left}
use Rattle.plan.proofs.CheckLaws.{Shaped, check-1, check-2, check-3, check-4, check-5, check-6, check-0}
use mathlib.Core.Bool.{not}
use mathlib.Core.Path.{ap}
use Rattle.checker.proofs.check_into.Goals as goal
use Rattle.checker.proofs.check_into.Lts
use Rattle.checker.proofs.check_into.Tie
use Rattle.checker.proofs.check_into.Reads

-- what is known behind each test
long : (c : Lts.Else1 Tie.the-claims Reads.Pre Reads.Post Tie.handed_clauses) → length_ok c.args.plan.now ≡ true
long c = passed _ _ c.length_ok.ensures (ap not c.if-not-length_ok.false)

kinds : (c : Lts.Else2 Tie.the-claims Reads.Pre Reads.Post Tie.handed_clauses) → at_all kind_ok c.args.plan.now ≡ true
kinds c = passed _ _ c.kinds_ok.ensures (ap not c.if-not-kinds_ok.false)

shaped : (c : Lts.Else3 Tie.the-claims Reads.Pre Reads.Post Tie.handed_clauses) → Shaped c.args.plan.now
shaped c = record {
  long = long c.before.before.before.before;
  kinds = kinds c.before.before;
  parents = passed _ _ c.parents_ok.ensures (ap not c.if-not-parents_ok.false);
}

ordered : (c : Lts.Else3 Tie.the-claims Reads.Pre Reads.Post Tie.handed_clauses) → Ordered c.args.plan.now
ordered c = ordered-by _ (shaped c)

blocks : (c : Lts.Else4 Tie.the-claims Reads.Pre Reads.Post Tie.handed_clauses) → at_all under_block c.args.plan.now ≡ true
blocks c = passed _ _ c.survey-found.ensures.blocks_value.0 c.if-not-found.false

counts : (c : Lts.Else5 Tie.the-claims Reads.Pre Reads.Post Tie.handed_clauses) → at_all count_ok c.args.plan.now ≡ true
counts c = passed _ _ c.counts_match.ensures (ap not c.if-not-counts_match.false)

pub returns-then-not-length_ok : goal.returns-then-not-length_ok
returns-then-not-length_ok c = record { value = check-1 _ (failed _ _ c.length_ok.ensures (ap not c.if-not-length_ok.true)); depths_after = λ e. absurd (omega arith) }

pub returns-then-not-kinds_ok : goal.returns-then-not-kinds_ok
returns-then-not-kinds_ok c = record { value = check-2 _ (long c.before.before.before) (failed _ _ c.kinds_ok.ensures (ap not c.if-not-kinds_ok.true)); depths_after = λ e. absurd (omega arith) }

pub returns-then-not-parents_ok : goal.returns-then-not-parents_ok
returns-then-not-parents_ok c = record { value = check-3 _ (long c.before.before.before.before.before) (kinds c.before.before.before) (failed _ _ c.parents_ok.ensures (ap not c.if-not-parents_ok.true)); depths_after = λ e. absurd (omega arith) }

pub slice_bounds-counts-end : goal.slice_bounds-counts-end
slice_bounds-counts-end c = omega (arith, (ordered c.before.before).few, c.node_count-n.ensures)

pub slice_bounds-survey-end : goal.slice_bounds-survey-end
slice_bounds-survey-end c = let e = c.node_count-n.ensures in e ∙ sym (fresh-length 160 _ _ e (ordered c.before.before.before).few)

pub slice_bounds-survey-end-2 : goal.slice_bounds-survey-end-2
slice_bounds-survey-end-2 c = rw c.requires (omega (arith, (ordered c.before.before.before).few, c.node_count-n.ensures))

pub slice_bounds-survey-end-3 : goal.slice_bounds-survey-end-3
slice_bounds-survey-end-3 c = let e = c.node_count-n.ensures in rw c.requires (e ∙ sym (fresh-length 160 _ _ e (ordered c.before.before.before.before).few))

pub survey-found-requires : goal.survey-found-requires
survey-found-requires c =
    let o = ordered c.before.before.before.before in
    let e = c.node_count-n.ensures in
    (o, fresh-zeros 160 _ _ e o.few, rw c.requires (fresh-length 160 _ _ e o.few))

pub returns-then-not-found : goal.returns-then-not-found
returns-then-not-found c = record { value = check-4 _ (shaped c.before.before.before.before.before.before.before.before.before.before) (failed _ _ c.survey-found.ensures.blocks_value.0 c.if-not-found.true); depths_after = λ e. absurd (omega arith) }

pub slice_bounds-counts-end-2 : goal.slice_bounds-counts-end-2
slice_bounds-counts-end-2 c = lent-room 160 _ _ _ _ c.survey-found.ensures.counts_after c.node_count-n.ensures

pub slice_bounds-counts_match-end : goal.slice_bounds-counts_match-end
slice_bounds-counts_match-end c = lent_length 160 _ _ _ _ c.survey-found.ensures.counts_after c.node_count-n.ensures

pub counts_match-requires : goal.counts_match-requires
counts_match-requires c =
    let told = c.survey-found.ensures.counts_after in
    lent_is 160 _ _ _ _ told c.node_count-n.ensures ∙ told

pub returns-then-not-counts_match : goal.returns-then-not-counts_match
returns-then-not-counts_match c = record { value = check-5 _ (shaped c.before.before.before.before.before.before.before.before.before.before.before.before.before) (blocks c.before.before.before.before) (failed _ _ c.counts_match.ensures (ap not c.if-not-counts_match.true)); depths_after = λ e. absurd (omega arith) }

pub returns-then-not-found-2 : goal.returns-then-not-found-2
returns-then-not-found-2 c = record { value = check-6 _ (shaped c.before.before.before.before.before.before.before.before.before.before.before.before.before.before.before) (blocks c.before.before.before.before.before.before) (counts c.before.before.before) (failed _ _ c.survey-found.ensures.blocks_value.1 c.if-not-found-2.true); depths_after = λ e. absurd (omega arith) }

pub returns : goal.returns
returns c = let told = c.survey-found.ensures in
    record { value = check-0 _ (shaped c.before.before.before.before.before.before.before.before.before.before.before.before.before.before.before) (blocks c.before.before.before.before.before.before) (counts c.before.before.before) (passed _ _ told.blocks_value.1 c.if-not-found-2.false); depths_after = λ e. front-left _ _ _ _ c.requires c.node_count-n.ensures told.depths_after }
