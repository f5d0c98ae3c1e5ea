-- What is refused before the search, in order. Assumes nothing.
use mathlib.Core.Path.{◌≡◌, sym, ◌∙◌, ap}
use mathlib.Core.Bool.{true, false}
use mathlib.Core.List.{List}
use Prim.Native.Nat.{ℕ, ◌≤◌, ◌<◌}
use native.Mathlib.Omega.{arith}
use lib.Dec.{eqb}
use lib.ListN.{length}
use Rattle.plan.specs.Plan.{size}
use Rattle.plan.specs.Check.{Accepted, fit_number}
use Rattle.way.specs.Way.{can_want, way, way_result, found_into, way_into}
use Rattle.way.proofs.CallLaws.{target_told, into-lent, fit-told, into-node, into-target, into-found}
use Rattle.find_way.specs.Search.{Wanted}

-- k is what `fit` answered, n the node count
module _ (p : List ℕ) (w m e : ℕ) (a : List ℕ) (k n : ℕ) (count : n ≡ size p) (told : k ≡ fit_number p (eqb (length a) n)) where
  fit_is : k ≡ fit_number p (eqb (length a) (size p))
  fit_is = told ∙ ap (λ z. fit_number p (eqb (length a) z)) count

  pub lent-refused : (k ≡ 0 → ⊥) → way_into p w m e a ≡ way_result k a
  lent-refused h = rw fit_is (into-lent p w m e a (λ z. h (fit_is ∙ z)))

  module _ (none : k ≡ 0) where
    fit : Accepted p × (length a ≡ size p)
    fit = fit-told p w m e a (sym fit_is ∙ none)

    pub lent-plan : Accepted p
    lent-plan = fit.0

    pub lent-long : length a ≡ size p
    lent-long = fit.1

    pub no_node : n ≤ w → way_into p w m e a ≡ way_result 8 a
    no_node l = into-node p w m e a lent-plan lent-long (omega arith)

    module _ (l : w < n) where
      node_in : w < size p
      node_in = omega arith

      pub unwanted : can_want m e ≡ false → way_into p w m e a ≡ way_result 29 a
      unwanted h = into-target p w m e a lent-plan lent-long node_in h

      module _ (h : can_want m e ≡ true) where
        pub sought : way_into p w m e a ≡ found_into (way p w m e) a
        sought = into-found p w m e a lent-plan lent-long node_in h

        pub is-wanted : Wanted p (record { node = w; mark = m; end = e })
        is-wanted = let t = target_told p w m e h node_in in record { node = t.node; end = t.end }
