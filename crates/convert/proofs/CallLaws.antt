-- What each call comes to, by the test that fails first. Assumes nothing.
use mathlib.Core.Path.{◌≡◌, sym, ◌∙◌, ap}
use mathlib.Core.Bool.{true, false}
use mathlib.Core.List.{List, ◌++◌, append-nil}
use Prim.Native.Nat.{ℕ, ◌≤◌}
use native.Mathlib.Omega.{arith}
use lib.Dec.{eqb}
use lib.ListN.{length, take, replicate, length-replicate, drop_of_length-le}
use borrow.Author.Tests.{eqb-true, eq-eqb, ne_eqb}
use Rattle.lists.proofs.Parts.{part_length, Back}
use Rattle.plan.specs.Check.{length_ok, kind_ok, at_all, check_number, fit_number, Accepted}
use Rattle.plan.specs.Replaced.{replaced}
use Rattle.plan.proofs.CheckLaws.{length-told}
use Rattle.plan.proofs.FitLaws.{fit_none}
use Rattle.plan.proofs.Main.{check-exact}
use Rattle.links.specs.Links.{Linked}
use Rattle.trees.specs.Tree.{trees_below, tree_of}
use Rattle.trees.specs.Numbering.{renumbered, in_preorder}
use Rattle.trees.specs.Renumber.{renumber_number, renumber_of}
use Rattle.trees.proofs.RenumberLaws.{below-count, new-length}
use Rattle.placing.specs.Place.{Placeable, Placed}
use Rattle.placing.proofs.PlaceLaws.{root-placed}
use Rattle.depth_form.specs.Form.{depth_form, form_plan, level_ok, form_number}
use Rattle.depth_form.specs.Calls.{to_depths_number, to_depths_of, from_depths_number, from_depths_of}
use Rattle.depth_form.proofs.BackLaws.{plan-long}
use Rattle.depth_form.proofs.Main.{form-as-plan}

-- the root, from 0 on: there is room for the whole plan, and nothing is left of what was there
pub root-ready : {p first next : List ℕ} → Accepted p → Linked p first next → (out : List ℕ) → length out ≡ length p → Placeable p first next out 0 0 (trees_below p 0)
root-ready {p} ok links out e = record { accepted = ok; linked = links; node = ok.some; room = omega (arith, below-count p ok, ok.even); few = omega (arith, ok.even, ok.few) }

pub root-written : (p out : List ℕ) {b : List ℕ} {r : ℕ} → Accepted p → length out ≡ length p → Placed p 0 255 0 (trees_below p 0) out b r → b ≡ renumbered p
unfolding renumbered tree_of
root-written p out ok e h =
    let long : length (renumbered p) ≡ length out = new-length p ok ∙ sym e in
    root-placed (omega (arith, below-count p ok, ok.even)) h ∙ ap (λ l. renumbered p ++ l) (drop_of_length-le out {i = length (renumbered p)} (omega arith)) ∙ append-nil (renumbered p)

-- n is what `fit` answered
module _ (p out : List ℕ) (n : ℕ) (told : n ≡ fit_number p (eqb (length out) (length p))) where
  pub renumber-refused : (n ≡ 0 → ⊥) → renumber_of p out ≡ replaced n out
  unfolding renumber_of renumber_number
  renumber-refused h = rw (← told, ne_eqb n 0 h)

  module _ (fine : n ≡ 0) where
    pub renumber-ready : Accepted p × (length out ≡ length p)
    renumber-ready = let r = fit_none p _ (sym told ∙ fine) in ((check-exact p).0 r.0, eqb-true (length out) (length p) r.1)

    pub renumber-done : (new : List ℕ) → new ≡ renumbered p → renumber_of p out ≡ replaced 0 new
    unfolding renumber_of renumber_number
    renumber-done new e = rw (← told, fine, e)

-- k is what `check` answered
module _ (p out : List ℕ) (k : ℕ) (told : k ≡ check_number p) where
  pub to-refused : (k ≡ 0 → ⊥) → to_depths_of p out ≡ replaced k out
  unfolding to_depths_of to_depths_number
  to-refused h = rw (← told, ne_eqb k 0 h, ne_eqb k 0 h)

  module _ (fine : k ≡ 0) where
    pub to-ready : Accepted p
    to-ready = (check-exact p).0 (sym told ∙ fine)

    pub to-other : in_preorder p ≡ false → to_depths_of p out ≡ replaced 18 out
    unfolding to_depths_of to_depths_number
    to-other h = rw (← told, fine, h)

    pub to-wrong : in_preorder p ≡ true → (length out ≡ length p → ⊥) → to_depths_of p out ≡ replaced 7 out
    unfolding to_depths_of to_depths_number
    to-wrong h n = rw (← told, fine, h, ne_eqb (length out) (length p) n)

    pub to-done : in_preorder p ≡ true → length out ≡ length p → (new : List ℕ) → new ≡ depth_form p → to_depths_of p out ≡ replaced 0 new
    unfolding to_depths_of to_depths_number
    to-done h e new f = rw (← told, fine, h, eq-eqb (length out) (length p) e, f)

-- a depth form, test by test
module _ (d out : List ℕ) where
  pub from-1 : length_ok d ≡ false → from_depths_of d out ≡ replaced 1 out
  unfolding from_depths_of from_depths_number form_number
  from-1 a = rw a

  module _ (a : length_ok d ≡ true) where
    pub from-short : length d ≤ 320
    from-short = let l = length-told d a in omega (arith, l.even, l.few)

    -- the front of the local array: before the plan is written, and with the plan q in it
    pub from-blank : length (take {A = ℕ} (length d) (replicate 320 0)) ≡ length d
    from-blank = sym (part_length (replicate 320 0) (length d) (omega (arith, from-short, length-replicate {A = ℕ} 320 0)))

    pub from-made : (q : List ℕ) → q ≡ form_plan d → Back q (replicate 320 0) (length d)
    from-made q e = record { long = ap length e ∙ plan-long d ∙ sym (length-told d a).even }

    pub from-2 : at_all kind_ok d ≡ false → from_depths_of d out ≡ replaced 2 out
    unfolding from_depths_of from_depths_number form_number
    from-2 b = rw (a, b)

    module _ (b : at_all kind_ok d ≡ true) where
      pub from-17 : at_all level_ok d ≡ false → from_depths_of d out ≡ replaced 17 out
      unfolding from_depths_of from_depths_number form_number
      from-17 e = rw (a, b, e)

      -- the plan q is written, and n is what `fit` says of it
      module _ (e : at_all level_ok d ≡ true) (q : List ℕ) (made : q ≡ form_plan d) (n : ℕ) (told : n ≡ fit_number q (eqb (length out) (length d))) where
        from-number : from_depths_number d out ≡ n
        unfolding from_depths_number fit_number
        from-number = rw (form-as-plan d a b e, told, made)

        pub from-refused : (n ≡ 0 → ⊥) → from_depths_of d out ≡ replaced n out
        unfolding from_depths_of
        from-refused h = rw (from-number, ne_eqb n 0 h)

        module _ (fine : n ≡ 0) where
          pub from-long : length out ≡ length d
          from-long = eqb-true (length out) (length d) (fit_none q _ (sym told ∙ fine)).1

          -- q is copied over the lent bytes
          pub from-done : (new : List ℕ) → new ≡ q → from_depths_of d out ≡ replaced 0 new
          unfolding from_depths_of
          from-done new f = rw (from-number, fine, f ∙ made)
