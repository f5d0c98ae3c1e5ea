use Rattle.std.proofs.Common.{◌≡◌, true, false, ◌&&◌, ltb, ℕ, ◌≤◌, ◌<◌, refl, arith}
use borrow.Author.Tests.{lt-ltb, le-ltb}
use Rattle.next_plan.proofs.LowerLaws.{lowered-first, lowered-before, lowered-room, lowered-turn, raised, raised-found, lowered-done}
use Rattle.next_plan.proofs.advance.Goals as goal
use Rattle.next_plan.proofs.advance.Goals.{else-i-k-via-then-i-k+else-b-highest, else-i-k-via-else-i-k}

pub loop-i-init : goal.loop-i-init
loop-i-init c = lowered-first _ _ _

pub bounds-q-i : goal.bounds-q-i
bounds-q-i c = omega (arith, lowered-room _ _ _ _ _ (lowered-before c.loop-i.i (omega (arith, c.loop-i-test.true)) c.loop-i.invariant))

-- the test of a byte, by what it compares
both : {i k b h : ℕ} → i < k → b < h → (ltb i k && ltb b h) ≡ true
both l m = rw (lt-ltb _ _ l, lt-ltb _ _ m) refl

too-high : {i k b h : ℕ} → i < k → h ≤ b → (ltb i k && ltb b h) ≡ false
too-high l m = rw (lt-ltb _ _ l, le-ltb _ _ m) refl

behind : {i k : ℕ} (b h : ℕ) → k ≤ i → (ltb i k && ltb b h) ≡ false
behind b h l = rw (le-ltb _ _ l) refl

pub returns-then-b-highest : goal.returns-then-b-highest
returns-then-b-highest c =
    let h = lowered-before c.loop-i.i (omega (arith, c.loop-i-test.true)) c.loop-i.invariant in
    let r = raised-found _ _ _ _ (raised _ _ _ _ _ h (rw c.highest.ensures at (both c.if-i-k.true c.if-b-highest.true))) in
    record { value = r.0; q_after = r.1 }

pub loop-i-preserved : goal.loop-i-preserved
loop-i-preserved c =
    let h = lowered-before c.loop-i.i (omega (arith, c.loop-i-test.true)) c.loop-i.invariant in
    rw c.lowest.ensures (lowered-turn _ _ _ _ _ h (elim c.else-i-k.branch [
      | else-i-k-via-then-i-k+else-b-highest w ↦ rw w.highest.ensures at (too-high w.if-i-k.true w.if-b-highest.false)
      | else-i-k-via-else-i-k w ↦ behind _ _ w.if-i-k.false
    ]))

pub returns : goal.returns
returns c = let r = lowered-done _ _ _ _ _ c.loop-i.invariant (omega (arith, c.loop-i-test.false)) in record { value = r.0; q_after = r.1 }
