-- Four bits, added up. Assumes nothing.
use Rattle.std.proofs.Common.{◌≡◌, Bool, true, false, cond, ℕ, ◌+◌, ◌≤◌, arith}
use Rattle.find_way.specs.Marks.{packed}
use Rattle.find_way.proofs.pack.Goals as goal
use Rattle.find_way.proofs.pack.Lts
use Rattle.find_way.proofs.pack.Tie
use Rattle.find_way.proofs.pack.Reads

few : (b : Bool) (n r : ℕ) → r ≡ cond b n 0 → r ≤ n
few true n r e = omega arith
few false n r e = omega arith

idle-few : (c : Lts.After-bit4 Tie.the-claims Reads.Pre Reads.Post) → c.bit-idle.result ≤ 1
idle-few c = few c.args.m.idle 1 _ c.bit-idle.ensures

done-few : (c : Lts.After-bit4 Tie.the-claims Reads.Pre Reads.Post) → c.bit-done.result ≤ 2
done-few c = few c.args.m.done 2 _ c.bit-done.ensures

failed-few : (c : Lts.After-bit4 Tie.the-claims Reads.Pre Reads.Post) → c.bit-failed.result ≤ 4
failed-few c = few c.args.m.failed 4 _ c.bit-failed.ensures

down-few : (c : Lts.After-bit4 Tie.the-claims Reads.Pre Reads.Post) → c.bit-down.result ≤ 8
down-few c = few c.args.m.down 8 _ c.bit-down.ensures

pub overflow_add-result : goal.overflow_add-result
overflow_add-result c = record { fits = omega (arith, idle-few c, done-few c) }

pub overflow_add-result-2 : goal.overflow_add-result-2
overflow_add-result-2 c = record { fits = omega (arith, idle-few c, done-few c, failed-few c) }

pub overflow_add-result-3 : goal.overflow_add-result-3
overflow_add-result-3 c = record { fits = omega (arith, idle-few c, done-few c, failed-few c, down-few c) }

pub returns : goal.returns
unfolding packed
returns c = λ i. ((c.bit-idle.ensures i + c.bit-done.ensures i) + c.bit-failed.ensures i) + c.bit-down.ensures i
