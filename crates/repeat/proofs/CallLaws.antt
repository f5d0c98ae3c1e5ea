-- What the call comes to, by the test that fails first. Assumes nothing.
use Rattle.std.proofs.Common.{◌≡◌, refl, ◌∙◌, ap, Bool, true, false, not, List, ℕ, suc, ◌+◌, ◌-◌, ◌*◌, ◌≤◌, ◌<◌, arith, length}
use Rattle.std.proofs.Math.Nat.{mul-le-mul_right}
use Rattle.lists.specs.Seq.{up_from}
use Rattle.lists.proofs.Between.{between}
use Rattle.plan.specs.declared.kinds.Kind.{Kind}
use Rattle.plan.specs.Plan.{kind_number, kind_of, size, kind_byte}
use Rattle.plan.specs.Check.{Accepted}
use Rattle.plan.specs.Made.{made, in_front}
use Rattle.checker.proofs.TestLaws.{passed, failed}
use Rattle.links.specs.Links.{Linked}
use Rattle.trees.specs.Tree.{trees_below, node_count}
use Rattle.trees.proofs.RenumberLaws.{below-few}
use Rattle.template.specs.Repeat.{repeated_below, repeated_tree, repeated}
use Rattle.template.specs.Call.{times_ok, repeat_of}
use Rattle.template.specs.Claim.{Template}
use Rattle.template.proofs.CountLaws.{repeat-count}
use Rattle.template.proofs.PlanLaws.{repeat-size}
use Rattle.template.proofs.CallLaws as call
use Rattle.placing.specs.Place.{Placeable, Placed}
use Rattle.placing.proofs.PlaceLaws.{root-placed}

-- a node's kind has its byte
pub kind-told : {p : List ℕ} {m b : ℕ} {k : Kind} → Accepted p → m < size p → b ≡ kind_byte p m → k ≡ kind_of b → kind_number k ≡ kind_byte p m
unfolding kind_number kind_of up_from
kind-told {p} {m} ok l e h = rw (h, e) (between (λ j. kind_number (kind_of j)) (λ j. j) 1 8 refl (kind_byte p m) (ok.low m l) (omega (arith, ok.high m l)))

-- t is what the test of the count says
pub count_no : {p : List ℕ} {m : ℕ} (r : ℕ) (out : List ℕ) → Template p m → length out ≡ 320 → (t : Bool) → t ≡ times_ok r → not t ≡ true → repeat_of p m r out ≡ made 24 0 out
count_no {p} {m} r out h long t told e = call.by_count p m r out h long (failed t (times_ok r) told e)

pub count_yes : (r : ℕ) (t : Bool) → t ≡ times_ok r → not t ≡ false → (1 ≤ r) × (r ≤ 32)
count_yes r t told e = call.times-told r (passed t (times_ok r) told e)

-- a template and a right count: n nodes in the template, l of them below the marked one
pub record Counted (p : List ℕ) (m r n l : ℕ) : Type 0 where
  pub template : Template p m
  pub times : (1 ≤ r) × (r ≤ 32)
  pub nodes : n ≡ size p
  pub below : l ≡ node_count (trees_below p m)

module _ {p : List ℕ} {m r n l : ℕ} (h : Counted p m r n l) where
  pub counted-few : n + (r - 1) * l ≤ 5280
  counted-few =
      let all = h.template.accepted.few in
      let few = below-few p h.template.accepted m h.template.node in
      let some : r - 1 ≤ 32 = omega (arith, h.times.1) in
      omega (arith, mul-le-mul_right l some, h.nodes, h.below)

  nodes-told : node_count (repeated_tree p m r) ≡ n + (r - 1) * l
  nodes-told =
      let z : r ≡ suc (r - 1) = omega (arith, h.times.0) in
      ap (λ i. node_count (repeated_tree p m i)) z ∙ repeat-count p h.template.accepted m h.template.node (r - 1) ∙ rw (h.nodes, h.below)

  pub nodes-no : (out : List ℕ) → length out ≡ 320 → 160 < n + (r - 1) * l → repeat_of p m r out ≡ made 25 0 out
  nodes-no out long e = call.by-nodes p m r out h.template long h.times.0 h.times.1 (omega (arith, nodes-told))

  module _ (few : n + (r - 1) * l ≤ 160) where
    room : 2 * suc (node_count (repeated_below p m r 0)) ≤ 320
    unfolding repeated_tree node_count
    room = omega (arith, nodes-told)

    pub root-ready : {first next : List ℕ} → Linked p first next → (out : List ℕ) → length out ≡ 320 → Placeable p first next out 0 0 (repeated_below p m r 0)
    root-ready links out long = record { accepted = h.template.accepted; linked = links; node = h.template.accepted.some; room = omega (arith, room); few = omega arith }

    pub repeat-done : (out b : List ℕ) (w : ℕ) → length out ≡ 320 → Placed p 0 255 0 (repeated_below p m r 0) out b w → repeat_of p m r out ≡ made 0 (n + (r - 1) * l) b
    unfolding in_front repeated repeated_tree
    repeat-done out b w long d =
        let left : b ≡ in_front (repeated p m r) out = root-placed (omega (arith, room)) d in
        call.repeat-passed p m r out h.template long h.times.0 h.times.1 (omega (arith, nodes-told)) ∙ rw (left, ← nodes-told, repeat-size p m r)
