-- The pass over a rewritten plan, from a node's table up. Assumes nothing.
use mathlib.Core.Path.{◌≡◌, refl, ◌∙◌}
use mathlib.Core.Bool.{Bool, true, false, ◌&&◌}
use mathlib.Core.List.{List, [], ◌∷◌}
use Prim.Native.Nat.{ℕ, zero, suc}
use lib.Dec.{eqb}
use lib.ListN.{get_or, replicate}
use Rattle.plan.specs.Plan.{kind_number, is_kind, size, kind, children}
use Rattle.plan.specs.declared.kinds.Kind.{Kind}
use Rattle.plan.specs.declared.kinds.Kind.TheVariants.{Task as task, Serial as serial, And as and, Or as or, Xor as xor, Contingency as contingency, Conditional as conditional, Waiting as waiting}
use Rattle.pass.specs.Pass.{Outcome, works, breaks, fault, Tally, goes_by, goes, bad_answer, bad_pick, closes, good_mark, child_mark, end_of, Settled, Walked, unwalked, child_settled, meet_by, meet, walk, close, settle_if, settle_by, settle, pass}
use Rattle.rewrite.specs.Rewrite.{rewritten}
use Rattle.rewrite.proofs.PlanLaws.{renewed, size-kept, kind_at, children-at}

mark-alike : (a : ℕ) (t : Tally) (o : Outcome) → child_mark waiting a t o ≡ child_mark and a t o
unfolding child_mark good_mark is_kind kind_number
mark-alike a t works = refl
mark-alike a t breaks = refl
mark-alike a t (fault n) = refl

child-settled-alike : (a : ℕ) (w : Walked) (c : ℕ) (r : Settled) → child_settled waiting a w c r ≡ child_settled and a w c r
unfolding child_settled
child-settled-alike a w c r = rw (mark-alike a w.tally r.outcome)

meet-alike : (f : ℕ → List ℕ → Settled) (a : ℕ) (w : Walked) (c : ℕ) → meet f waiting a w c ≡ meet f and a w c
unfolding meet goes goes_by meet_by
meet-alike f a w c = go (eqb w.tally.wrong 0 && true)
  where
    go : (b : Bool) → meet_by b f waiting a w c ≡ meet_by b f and a w c
    go true = child-settled-alike a w c (f c w.marks)
    go false = refl

walk-alike : (f : ℕ → List ℕ → Settled) (a : ℕ) (cs : List ℕ) (w : Walked) → walk f waiting a cs w ≡ walk f and a cs w
unfolding walk
walk-alike f a [] w = refl
walk-alike f a (c ∷ cs) w = rw (meet-alike f a w c) (walk-alike f a cs (meet f and a w c))

settle-alike : (a : ℕ) (f : ℕ → List ℕ → Settled) (cs m : List ℕ) → settle_by waiting a f cs m ≡ settle_by and a f cs m
unfolding settle_by settle_if bad_answer close end_of bad_pick closes
settle-alike a f cs m = rw (walk-alike f a cs (unwalked m))

settle-renewed : (k : Kind) (a : ℕ) (f : ℕ → List ℕ → Settled) (cs m : List ℕ) → settle_by (renewed k) a f cs m ≡ settle_by k a f cs m
unfolding renewed is_kind kind_number
settle-renewed task a f cs m = refl
settle-renewed serial a f cs m = refl
settle-renewed and a f cs m = settle-alike a f cs m
settle-renewed or a f cs m = refl
settle-renewed xor a f cs m = refl
settle-renewed contingency a f cs m = refl
settle-renewed conditional a f cs m = refl
settle-renewed waiting a f cs m = refl

module _ (p a : List ℕ) where
  settle-kept : (fuel v : ℕ) (m : List ℕ) → settle (rewritten p) a fuel v m ≡ settle p a fuel v m
  unfolding settle
  settle-kept zero v m = refl
  settle-kept (suc fuel) v m =
      (λ i. settle_by (kind_at p v i) (get_or a v 0) (λ c m'. settle-kept fuel c m' i) (children-at p v i) m)
      ∙ settle-renewed (kind p v) (get_or a v 0) (λ c m'. settle p a fuel c m') (children p v) m

  pub pass_kept : pass (rewritten p) a ≡ pass p a
  unfolding pass
  pass_kept = rw (size-kept p, settle-kept (size p) 0 (replicate (size p) 0))
