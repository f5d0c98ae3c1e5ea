-- Where each node of a template in the fixed numbering stands in the repeated plan: down the path to the marked node. Assumes nothing.
use mathlib.Core.Path.{◌≡◌, refl, sym, ◌∙◌}
use mathlib.Core.Bool.{true}
use mathlib.Core.List.{List, ◌∷◌}
use Prim.Native.Nat.{ℕ, zero, suc, ◌+◌, ◌*◌, ◌≤◌, ◌<◌}
use native.Mathlib.Omega.{arith}
use lib.Dec.{eqb, ltb}
use borrow.Author.Tests.{eqb-true, eqb-false, ltb-true, ltb-false}
use Rattle.lists.specs.Member.{In, here, there, Rising, next}
use Rattle.lists.proofs.Logic.{cases, decided}
use Rattle.lists.proofs.Members.{rising-above}
use Rattle.plan.specs.Plan.{size, kind_byte, children}
use Rattle.plan.specs.Check.{Accepted}
use Rattle.plan.specs.Under.{Under}
use Rattle.plan.proofs.PlanLaws.{child-of, rising-children}
use Rattle.plan.proofs.AcceptedLaws.{accepted-ordered}
use Rattle.plan.proofs.UnderLaws.{under-below, apart, through, under-root}
use Rattle.trees.specs.Tree.{Forest, none, tree, trees_of, trees_below, node_count}
use Rattle.trees.specs.Numbering.{in_preorder}
use Rattle.trees.proofs.LaidLaws.{Laid, first, Alike, laid-alike}
use Rattle.trees.proofs.TreeLaws.{trees-same, trees-step}
use Rattle.trees.proofs.RenumberLaws.{below-count}
use Rattle.trees.proofs.WrittenLaws.{plan-laid}
use Rattle.template.specs.Repeat.{repeated_below, repeated_tree, repeated, moved}
use Rattle.template.specs.Claim.{Moves, Places}
use Rattle.template.proofs.StepLaws.{step-marked, step_other, outside}
use Rattle.template.proofs.CountLaws.{count-path}
use Rattle.template.proofs.MoveLaws.{moved-low, laid-moved, laid-times}
use Rattle.template.proofs.BlockLaws.{below, trees, Run, on, own-run, own_block}

module _ (p : List ℕ) (ok : Accepted p) (ordered : in_preorder p ≡ true) where
  -- i times are added below m; q is any plan in which the repeated tree lies
  module _ (m : ℕ) (node : m < size p) (i : ℕ) (q : List ℕ) where
    abbrev size_below : ℕ
    size_below = node_count (trees_below p m)

    abbrev repeated_trees : List ℕ → Forest
    repeated_trees cs = trees_of (kind_byte p) (repeated_below p m (suc i)) cs

    record Line (w : ℕ) : Type 0 where
      before : w ≤ m → Alike p q w
      copies : m < w → w ≤ m + size_below → (c : ℕ) → c ≤ i → Moves p q (suc m) (c * size_below) w
      behind : m + size_below < w → Moves p q (suc m) (i * size_below) w

    -- the nodes from n up to e are where they should be, and the marked subtree is among them
    record Lines (n e : ℕ) : Type 0 where
      low : n ≤ suc m
      high : m + size_below < e
      lines : (w : ℕ) → n ≤ w → w < e → Line w

    marked-lines : Laid q (repeated_below p m (suc i) m) m (suc m) → Lines (suc m) (suc m + size_below)
    marked-lines h = record {
      low = omega arith;
      high = omega arith;
      lines = λ w l k. record {
        before = λ z. absurd (omega arith);
        copies = λ a b c d. laid-moved p q (suc m) (c * size_below) (trees_below p m) m (suc m) (omega arith) (below p ok ordered m node).laid (copy c d) w l k;
        behind = λ z. absurd (omega arith);
      };
    }
      where
        copy : (c : ℕ) → c ≤ i → Laid q (trees_below p m) (moved (suc m) (c * size_below) m) (suc m + c * size_below)
        copy c d = rw (moved-low (suc m) (c * size_below) m (omega arith)) (laid-times q (trees_below p m) m (suc m) i c d (rw (step-marked p (accepted-ordered p ok) m (suc i) node) at h))

    -- v's children cs from n on, one of which has the marked node in its subtree
    module _ (v : ℕ) (l : v < size p) (d : ℕ) (child : In d (children p v)) (holds : Under p d m)
        (deeper : Laid q (repeated_below p m (suc i) d) d (suc d) → Lines (suc d) (suc d + node_count (trees_below p d))) where
      apart_from : (c : ℕ) → In c (children p v) → (c ≡ d → ⊥) → repeated_below p m (suc i) c ≡ trees_below p c
      apart_from c k ne = outside p (accepted-ordered p ok) m (suc i) c (child-of p v k).high (λ w. apart p ok v c d k child ne m w holds)

      -- behind the child d all moves
      tail-lines : (n : ℕ) (cs : List ℕ) → v ≤ m → m + size_below < n → Laid p (trees p cs) v n → Laid q (trees p cs) v (n + i * size_below) → (w : ℕ) → n ≤ w → w < n + node_count (trees p cs) → Line w
      tail-lines n cs a b g h w k e = record {
        before = λ z. absurd (omega arith);
        copies = λ x y c z. absurd (omega arith);
        behind = λ z. laid-moved p q (suc m) (i * size_below) (trees p cs) v n (omega arith) g (rw (moved-low (suc m) (i * size_below) v (omega arith)) h) w k e;
      }

      -- a node up to the marked one
      before-line : (w : ℕ) → w ≤ m → Alike p q w → Line w
      before-line w l a = record { before = λ z. a; copies = λ x y c z. absurd (omega arith); behind = λ z. absurd (omega arith) }

      -- the child d, and those behind it
      walk_here : (cs : List ℕ) → v < d → ((c : ℕ) → In c cs → repeated_below p m (suc i) c ≡ trees_below p c) → Laid p (trees p (d ∷ cs)) v d → Laid q (repeated_trees (d ∷ cs)) v d →
          Lines d (d + node_count (trees p (d ∷ cs)))
      unfolding trees_of node_count
      walk_here cs b same (first k u g g') (first k' u' h h') =
          let deep = deeper h in
          let others : repeated_trees cs ≡ trees p cs = trees-same (kind_byte p) (repeated_below p m (suc i)) (trees_below p) cs same in
          let count = count-path p ok m node i d (child-of p v child).high holds in
          let z : suc d + node_count (repeated_below p m (suc i) d) ≡ suc d + node_count (trees_below p d) + i * size_below = omega arith in
          let tail : Laid q (trees p cs) v (suc d + node_count (trees_below p d) + i * size_below) = rw (others, z) at h' in
          record {
            low = omega (arith, deep.low);
            high = omega (arith, deep.high);
            lines = λ w x y. cases (decided (eqb w d))
                (λ e. let e' : w ≡ d = eqb-true w d e in rw e' (before-line d (omega (arith, deep.low)) (record { kinds = k ∙ sym k'; parents = u ∙ sym u' })))
                (λ e. let ne = eqb-false w d e in cases (decided (ltb w (suc d + node_count (trees_below p d))))
                (λ t. deep.lines w (omega arith) (ltb-true w (suc d + node_count (trees_below p d)) t))
                (λ t. tail-lines (suc d + node_count (trees_below p d)) cs (omega (arith, deep.low)) deep.high g' tail w (ltb-false w (suc d + node_count (trees_below p d)) t) (omega arith)));
          }

      -- a child n before d
      walk-there : (n : ℕ) (cs : List ℕ) → repeated_below p m (suc i) n ≡ trees_below p n → Laid p (trees p (n ∷ cs)) v n → Laid q (repeated_trees (n ∷ cs)) v n →
          (Laid p (trees p cs) v (suc n + node_count (trees_below p n)) → Laid q (repeated_trees cs) v (suc n + node_count (trees_below p n)) →
          Lines (suc n + node_count (trees_below p n)) (suc n + node_count (trees_below p n) + node_count (trees p cs))) →
          Lines n (n + node_count (trees p (n ∷ cs)))
      unfolding trees_of node_count
      walk-there n cs same (first k u g g') (first k' u' h h') again =
          let rest = again g' (rw same at h') in
          let h'' : Laid q (trees_below p n) n (suc n) = rw same at h in
          record {
            low = omega (arith, rest.low);
            high = omega (arith, rest.high);
            lines = λ w x y. cases (decided (eqb w n))
                (λ e. let e' : w ≡ n = eqb-true w n e in rw e' (before-line n (omega (arith, rest.low)) (record { kinds = k ∙ sym k'; parents = u ∙ sym u' })))
                (λ e. let ne = eqb-false w n e in cases (decided (ltb w (suc n + node_count (trees_below p n))))
                (λ t. let lt = ltb-true w (suc n + node_count (trees_below p n)) t in before-line w (omega (arith, rest.low)) (laid-alike p q (trees_below p n) n (suc n) g h'' w (omega arith) lt))
                (λ t. rest.lines w (ltb-false w (suc n + node_count (trees_below p n)) t) (omega arith)));
          }

      walk : (n : ℕ) {low : ℕ} (cs : List ℕ) → v < n → Rising low cs → Run p n cs → ((c : ℕ) → In c cs → In c (children p v)) → In d cs →
          Laid p (trees p cs) v n → Laid q (repeated_trees cs) v n → Lines n (n + node_count (trees p cs))
      walk n {low = low} mathlib.Core.List.[] b _ _ sub x9 g h = elim x9 [ ]
      walk n (c ∷ cs) b (next x rise) (on own run) sub (here e) g h =
          let y : c ≡ d = sym e in
          let z : n ≡ d = sym own ∙ y in
          rw (z, y) (walk_here cs (omega arith) (λ o j. apart_from o (sub o (there j)) (λ same. let a = rising-above rise j in omega (arith, same, e))) (rw (z, y) at g) (rw (z, y) at h))
      walk n (c ∷ cs) b (next x rise) (on own run) sub (there j) g h =
          let same : repeated_below p m (suc i) n ≡ trees_below p n = rw (← own) (apart_from c (sub c (here refl)) (λ z. let a = rising-above rise j in omega (arith, z))) in
          rw own (walk-there n cs same (rw own at g) (rw own at h) (λ g' h'. walk (suc n + node_count (trees_below p n)) cs (omega arith) rise run (λ o k. sub o (there k)) j g' h'))

    path : (f v : ℕ) → size p ≤ f + v → v < size p → Under p v m → Laid q (repeated_below p m (suc i) v) v (suc v) → Lines (suc v) (suc v + node_count (trees_below p v))
    path zero v x l u h = absurd (omega arith)
    path (suc f) v x l u h = cases (decided (eqb v m))
        (λ z. let e = eqb-true v m z in rw e (marked-lines (rw e at h)))
        (λ z. let n = eqb-false v m z in
        let d = through p ok v m node (under-below p v m n u) in
        let c = child-of p v d.1 in
        let b = ok.below d.0 c.low c.high in
        let step = trees-step p (accepted-ordered p ok) v l in
        rw step (walk v l d.0 d.1 d.2 (path f d.0 (omega (arith, c.of)) c.high d.2)
        (suc v) (children p v) (omega arith) (rising-children p v) (own-run p ok ordered v l) (λ o k. k) d.1
        (rw step at (below p ok ordered v l).laid) (rw (step_other p (accepted-ordered p ok) m (suc i) v l n) at h)))

pub repeat-places : (p : List ℕ) → Accepted p → in_preorder p ≡ true → (m : ℕ) → m < size p → (i : ℕ) → Places p m i (repeated p m (suc i))
unfolding repeated repeated_tree
repeat-places p ok ordered m node i = go (plan-laid (repeated_tree p m (suc i)))
  where
    q : List ℕ
    q = repeated p m (suc i)

    go : Laid q (tree (kind_byte p 0) (repeated_below p m (suc i) 0) none) 255 0 → Places p m i q
    go (first k u h r) =
        let all = path p ok ordered m node i q (size p) 0 (omega arith) ok.some (under-root p ok (suc m) m (omega arith) node) h in
        let few = below-count p ok in
        record {
          block = own_block p ok ordered m node;
          before = λ v l. cases (decided (eqb v 0))
              (λ z. let e = eqb-true v 0 z in rw e (k, u ∙ sym ok.root))
              (λ z. let n = eqb-false v 0 z in let a = (all.lines v (omega arith) (omega arith)).before l in (sym a.kinds, sym a.parents));
          copies = λ v c l e b. (all.lines v (omega arith) (omega (arith, all.high))).copies l e c b;
          behind = λ v l e. (all.lines v (omega arith) (omega arith)).behind l;
        }
