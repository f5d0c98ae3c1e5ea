-- The walk up from a node: the rest of the nodes above says what all of them say. Assumes nothing.
use mathlib.Core.Path.{◌≡◌, refl, sym, ◌∙◌, ap}
use mathlib.Core.Bool.{Bool, true, false, cond}
use mathlib.Core.List.{List, ◌∷◌}
use Prim.Native.Nat.{ℕ, zero, suc, ◌-◌}
use native.Mathlib.Omega.{arith}
use borrow.Author.Tests.{eq-eqb, ne_eqb}
use lib.Dec.{eqb}
use lib.ListN.{get_or}
use Rattle.lists.specs.Seq.{all, any}
use Rattle.plan.specs.Plan.{parent}
use Rattle.retention.specs.Record.{above_within, nodes_above, fell, counts_above, counts_as}

-- what the nodes us say where those before them left w
unfoldable pub saying : List ℕ → ℕ → List ℕ → ℕ
saying marks w us = cond (any (λ u. fell (get_or marks u 0)) us) 5 (cond (all (λ u. eqb (get_or marks u 0) 3) us) w 2)

-- above u there are so many nodes at most, and those up to u left w
pub record Above (p marks : List ℕ) (v w u left : ℕ) : Type 0 where
  pub rest : counts_above p marks v ≡ saying marks w (above_within left p u)

pub above-all : (p marks : List ℕ) (v : ℕ) → Above p marks v 3 v v
unfolding counts_above nodes_above saying
above-all p marks v = record { rest = refl }

root-says : (p marks : List ℕ) (w n : ℕ) → saying marks w (above_within n p 0) ≡ w
unfolding saying above_within any all
root-says p marks w zero = refl
root-says p marks w (suc n) = refl

two-anyway : (a b : Bool) → ◌≡◌ {A = ℕ} (cond a 5 2) (cond a 5 (cond b 2 2))
two-anyway true b = refl
two-anyway false true = refl
two-anyway false false = refl

module _ {p marks : List ℕ} {v w u left : ℕ} (h : Above p marks v w u left) where
  pub above_root : u ≡ 0 → w ≡ counts_above p marks v
  above_root e = sym (h.rest ∙ ap (λ n. saying marks w (above_within left p n)) e ∙ root-says p marks w left)

  pub above-out : left ≡ 0 → w ≡ counts_above p marks v
  unfolding saying above_within any all
  above-out e = sym (h.rest ∙ ap (λ n. saying marks w (above_within n p u)) e)

  -- q is the next node up, m its mark, b whether it fell
  module _ (some : left ≡ 0 → ⊥) (inner : u ≡ 0 → ⊥) {q i m : ℕ} {b : Bool} (up : q ≡ parent p u) (wide : i ≡ q) (read : m ≡ get_or marks i 0) (told : b ≡ fell m) where
    turn : counts_above p marks v ≡ saying marks w (q ∷ above_within (left - 1) p q)
    unfolding above_within
    turn =
        let s : left ≡ suc (left - 1) = omega arith in
        h.rest ∙ ap (λ n. saying marks w (above_within n p u)) s ∙ rw (ne_eqb u 0 inner, ← up)

    mark-is : get_or marks q 0 ≡ m
    mark-is = sym (read ∙ ap (λ j. get_or marks j 0) wide)

    pub above-fell : b ≡ true → 5 ≡ counts_above p marks v
    unfolding saying any
    above-fell t = sym (turn ∙ rw (mark-is, sym told ∙ t))

    module _ (f : b ≡ false) where
      pub above_on : m ≡ 3 → Above p marks v w q (left - 1)
      unfolding saying any all
      above_on e = record { rest = turn ∙ rw (mark-is, sym told ∙ f, e) }

      pub above_open : (m ≡ 3 → ⊥) → Above p marks v 2 q (left - 1)
      unfolding saying any all
      above_open n =
          let us = above_within (left - 1) p q in
          record { rest = turn ∙ rw (mark-is, sym told ∙ f, ne_eqb m 3 n) (two-anyway (any (λ u. fell (get_or marks u 0)) us) (all (λ u. eqb (get_or marks u 0) 3) us)) }

pub above_as : {p marks : List ℕ} {v w w' u left : ℕ} → w' ≡ w → Above p marks v w u left → Above p marks v w' u left
above_as e h = rw e h

-- a committed node, and another: i is v, x its mark
module _ (p marks : List ℕ) (v i x : ℕ) (wide : i ≡ v) (read : x ≡ get_or marks i 0) where
  pub counts-plain : (x ≡ 3 → ⊥) → x ≡ counts_as p marks v
  unfolding counts_as
  counts-plain n = let e = read ∙ ap (λ j. get_or marks j 0) wide in rw (ne_eqb (get_or marks v 0) 3 (λ z. n (e ∙ z)), e)

  pub counts-committed : x ≡ 3 → counts_above p marks v ≡ counts_as p marks v
  unfolding counts_as
  counts-committed e = rw (eq-eqb (get_or marks v 0) 3 (ap (λ j. get_or marks j 0) (sym wide) ∙ sym read ∙ e))
