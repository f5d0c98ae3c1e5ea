-- How many nodes the repeated tree has. Assumes nothing.
use mathlib.Core.Path.{◌≡◌, refl, ◌∙◌, ap}
use mathlib.Core.List.{List, ◌∷◌}
use Prim.Native.Nat.{ℕ, zero, suc, ◌+◌, ◌*◌, ◌≤◌, ◌<◌}
use native.Mathlib.Omega.{arith}
use lib.Dec.{eqb}
use borrow.Author.Tests.{eqb-true, eqb-false}
use Rattle.lists.specs.Member.{In, here, there, Rising, next}
use Rattle.lists.proofs.Logic.{cases, decided}
use Rattle.lists.proofs.Members.{rising-above}
use Rattle.plan.specs.Plan.{size, kind_byte, children}
use Rattle.plan.specs.Check.{Accepted}
use Rattle.plan.specs.Under.{Under}
use Rattle.plan.proofs.PlanLaws.{child-of, rising-children}
use Rattle.plan.proofs.AcceptedLaws.{accepted-ordered}
use Rattle.plan.proofs.UnderLaws.{under-below, apart, through, under-root}
use Rattle.trees.specs.Tree.{Forest, none, tree, trees_of, trees_below, node_count}
use Rattle.trees.proofs.TreeLaws.{trees-same, trees-step}
use Rattle.trees.proofs.RenumberLaws.{below-count}
use Rattle.template.specs.Repeat.{beside, times, repeated_below, repeated_tree}
use Rattle.template.proofs.StepLaws.{step-marked, step_other, outside}

count-beside : (s t : Forest) → node_count (beside s t) ≡ node_count s + node_count t
unfolding beside node_count
count-beside none t = omega arith
count-beside (tree k b s) t = omega (arith, count-beside s t)

count-times : (r : ℕ) (t : Forest) → node_count (times r t) ≡ r * node_count t
unfolding times node_count
count-times zero t = omega arith
count-times (suc r) t = count-beside t (times r t) ∙ rw (count-times r t) (omega arith)

-- of the nodes in a rising list one has k more nodes below it, and the others have the same trees
count-one : (kind : ℕ → ℕ) (a b : ℕ → Forest) (x k : ℕ) → node_count (a x) ≡ node_count (b x) + k → {low : ℕ} (cs : List ℕ) → Rising low cs → In x cs →
    ((c : ℕ) → In c cs → (c ≡ x → ⊥) → a c ≡ b c) → node_count (trees_of kind a cs) ≡ node_count (trees_of kind b cs) + k
unfolding trees_of node_count
count-one kind a b x k e {low = low} mathlib.Core.List.[] _ x5 same = elim x5 [ ]
count-one kind a b x k e (c ∷ cs) (next l h) (here q) same =
    let rest : trees_of kind a cs ≡ trees_of kind b cs = trees-same kind a b cs (λ d i. same d (there i) (λ z. let g = rising-above h i in omega (arith, q))) in
    let own : node_count (a c) ≡ node_count (b c) + k = rw q at e in
    omega (arith, ap node_count rest)
count-one kind a b x k e (c ∷ cs) (next l h) (there i) same =
    let own : a c ≡ b c = same c (here refl) (λ z. let g = rising-above h i in omega (arith, z)) in
    let rest = count-one kind a b x k e cs h i (λ d j. same d (there j)) in
    omega (arith, ap node_count own)

module _ (p : List ℕ) (ok : Accepted p) (m : ℕ) (node : m < size p) (i : ℕ) where
  count-within : (f v : ℕ) → size p ≤ f + v → v < size p → Under p v m → node_count (repeated_below p m (suc i) v) ≡ node_count (trees_below p v) + i * node_count (trees_below p m)
  count-within zero v j l u = absurd (omega arith)
  count-within (suc f) v j l u = cases (decided (eqb v m))
      (λ z. let e = eqb-true v m z in
      rw (e, step-marked p (accepted-ordered p ok) m (suc i) node, count-times (suc i) (trees_below p m)) (omega arith))
      (λ z. let n = eqb-false v m z in
      let d = through p ok v m node (under-below p v m n u) in
      let h = child-of p v d.1 in
      let b = ok.below d.0 h.low h.high in
      rw (step_other p (accepted-ordered p ok) m (suc i) v l n, trees-step p (accepted-ordered p ok) v l)
      (count-one (kind_byte p) (repeated_below p m (suc i)) (trees_below p) d.0 (i * node_count (trees_below p m))
      (count-within f d.0 (omega (arith, h.of)) h.high d.2)
      (children p v) (rising-children p v) d.1
      (λ c k ne. outside p (accepted-ordered p ok) m (suc i) c (child-of p v k).high (λ w. apart p ok v c d.0 k d.1 ne m w d.2))))

  -- the marked node is in v's subtree
  pub count-path : (v : ℕ) → v < size p → Under p v m → node_count (repeated_below p m (suc i) v) ≡ node_count (trees_below p v) + i * node_count (trees_below p m)
  count-path v l u = count-within (size p) v (omega arith) l u

  pub repeat-count : node_count (repeated_tree p m (suc i)) ≡ size p + i * node_count (trees_below p m)
  unfolding repeated_tree node_count
  repeat-count =
      let c = count-path 0 ok.some (under-root p ok (suc m) m (omega arith) node) in
      omega (arith, below-count p ok)
