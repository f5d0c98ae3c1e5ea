use mathlib.Core.Path.{◌≡◌, ap, ◌∙◌}
use native.Mathlib.Omega.{arith}
use lib.ListN.{length}
use borrow.Author.Rules.{rules}
use Rattle.lists.specs.Seq.{all_below}
use Rattle.lists.proofs.Table.{table-length}
use Rattle.plan.specs.Check.{count_ok}
use Rattle.checker.proofs.TestLaws.{test-and, test-all}
use Rattle.checker.proofs.Counting.{count-told}
use Rattle.checker.proofs.counts_match.Goals as goal
use Rattle.checker.proofs.counts_match.Lts
use Rattle.checker.proofs.counts_match.Tie
use Rattle.checker.proofs.counts_match.Reads

pub loop-v-init : goal.loop-v-init
unfolding all_below
loop-v-init c = search rules

pub bounds-counts-v : goal.bounds-counts-v
bounds-counts-v c = omega (arith, ap length c.requires ∙ table-length _ _)

-- what `count_ok` answered is the test at v
told : (c : Lts.After-count_ok Tie.the-claims Reads.Pre Reads.Post goal.the-invariant-loop-v goal.the-decreases-loop-v) →
    c.count_ok-ok.result ≡ count_ok c.args.plan.now c.loop-v.v
told c =
    let start = c.before.before.before.before.before.before.before.before in
    count-told _ _ _ _ _ start.requires (omega arith) c.kind_at.ensures c.count_ok-ok.ensures

pub loop-v-preserved : goal.loop-v-preserved
loop-v-preserved c = (search rules, test-and count_ok _ _ _ _ c.loop-v.invariant.1 (told c.before))

pub returns : goal.returns
returns c = test-all count_ok _ _ _ c.loop-v.invariant.1 c.loop-v.invariant.0 (omega arith)
