-- Ends in the terms of the code: whether a running node may finish or fail, by its kind, and whether it may commit. Assumes nothing.
use mathlib.Core.Path.{◌≡◌, sym, ◌∙◌}
use mathlib.Core.Bool.{Bool, false, ◌&&◌, not}
use mathlib.Core.List.{List, [], ◌∷◌}
use mathlib.Core.Logic.{◌⊎◌, ⊎_elim}
use Prim.Native.Nat.{ℕ, ◌-◌, ◌<◌}
use native.Mathlib.Omega.{arith}
use lib.ListN.{length, get_or}
use Rattle.lists.specs.Seq.{all, any}
use Rattle.lists.proofs.Search.{any-opposite}
use Rattle.plan.specs.Plan.{kind_number, is_kind, size, kind, children, above, in_xor}
use Rattle.plan.specs.declared.kinds.Kind.{Kind}
use Rattle.plan.specs.declared.kinds.Kind.TheVariants.{Serial as serial, And as and, Or as or, Xor as xor, Contingency as contingency, Conditional as conditional, Waiting as waiting}
use Rattle.plan.specs.Check.{Accepted}
use Rattle.plan.proofs.KindLaws.{same_kind}
use Rattle.lists.proofs.Logic.{cases, decided}
use Rattle.event.specs.Event.{commit}
use Rattle.central.specs.Central.{Answer, none, said-yes, said-no, of_branch, finishes_by, fails_by, allowed_by}
use Rattle.central.specs.Rule.{answer_of, state_of}
use Rattle.central.specs.Scan.{mark_in, picked_at}
use Rattle.central.proofs.MarkLaws.{at-running, at-offered, in-committed, in-failed, in-ended, in-settled, in-opposite}
use Rattle.central.proofs.NoteLaws.{answer-read, picked-read}

-- some child has a mark of a set unless all have one of the others
pub some-marked : (set : ℕ) (marks cs : List ℕ) → set < 256 → not (all (mark_in (255 - set) marks) cs) ≡ any (mark_in set marks) cs
some-marked set marks cs l = rw (in-opposite marks set l) (sym (any-opposite (mark_in set marks) cs))

-- the child of the answered branch, of two children
module _ (f : ℕ → Bool) where
  pub branch-first : (a : Answer) (cs : List ℕ) → length cs ≡ 2 → said-yes ≡ a → f (get_or cs 0 0) ≡ of_branch f a cs
  unfolding of_branch
  branch-first a [] e h = absurd (omega arith)
  branch-first a (c ∷ cs) e h = rw (← h)

  pub branch-second : (a : Answer) (cs : List ℕ) → length cs ≡ 2 → said-no ≡ a → f (get_or cs 1 0) ≡ of_branch f a cs
  unfolding of_branch
  branch-second a [] e h = absurd (omega arith)
  branch-second a (c ∷ []) e h = absurd (omega arith)
  branch-second a (c ∷ d ∷ cs) e h = rw (← h)

  pub branch-none : (a : Answer) (cs : List ℕ) → none ≡ a → false ≡ of_branch f a cs
  unfolding of_branch
  branch-none a cs h = rw (← h)

pub two-children : (p : List ℕ) (v : ℕ) → Accepted p → v < size p → conditional ≡ kind p v → length (children p v) ≡ 2
two-children p v ok l e = ok.two v l (sym e)

-- whether v may finish or fail, by its kind
module _ (p marks notes : List ℕ) (v : ℕ) where
  pub finish-or : or ≡ kind p v →
      (all (mark_in 24 marks) (children p v) && any (mark_in 8 marks) (children p v)) ≡ finishes_by (kind p v) (state_of marks notes) v (children p v)
  unfolding finishes_by
  finish-or e = rw (← e, in-ended marks notes, in-committed marks notes)

  pub finish-xor : xor ≡ kind p v →
      (all (mark_in 56 marks) (children p v) && any (mark_in 8 marks) (children p v)) ≡ finishes_by (kind p v) (state_of marks notes) v (children p v)
  unfolding finishes_by
  finish-xor e = rw (← e, in-settled marks notes, in-committed marks notes)

  pub finish-any : contingency ≡ kind p v → any (mark_in 8 marks) (children p v) ≡ finishes_by (kind p v) (state_of marks notes) v (children p v)
  unfolding finishes_by
  finish-any e = rw (← e, in-committed marks notes)

  pub finish-branch : conditional ≡ kind p v →
      of_branch (mark_in 8 marks) (answer_of (get_or notes v 0)) (children p v) ≡ finishes_by (kind p v) (state_of marks notes) v (children p v)
  unfolding finishes_by
  finish-branch e = rw (← e, in-committed marks notes, answer-read marks notes v)

  pub fail-waiting : waiting ≡ kind p v →
      (all (mark_in 24 marks) (children p v) && any (mark_in 16 marks) (children p v)) ≡ fails_by (kind p v) (state_of marks notes) v (children p v)
  unfolding fails_by
  fail-waiting e = rw (← e, in-ended marks notes, in-failed marks notes)

  pub fail-branch : conditional ≡ kind p v →
      of_branch (mark_in 16 marks) (answer_of (get_or notes v 0)) (children p v) ≡ fails_by (kind p v) (state_of marks notes) v (children p v)
  unfolding fails_by
  fail-branch e = rw (← e, in-failed marks notes, answer-read marks notes v)

-- one law for some kinds: k is the kind that the code found
module _ (p marks notes : List ℕ) (v : ℕ) {k : Kind} (e : k ≡ kind p v) where
  pub finish-all : (k ≡ serial) ⊎ ((k ≡ and) ⊎ (k ≡ waiting)) → all (mark_in 8 marks) (children p v) ≡ finishes_by (kind p v) (state_of marks notes) v (children p v)
  unfolding finishes_by
  finish-all h =
      ⊎_elim (λ f. let h : serial ≡ kind p v = sym f ∙ e in rw (← h, in-committed marks notes))
      (λ g. ⊎_elim (λ f. let h : and ≡ kind p v = sym f ∙ e in rw (← h, in-committed marks notes)) (λ f. let h : waiting ≡ kind p v = sym f ∙ e in rw (← h, in-committed marks notes)) g) h

  pub fail-any : (k ≡ serial) ⊎ (k ≡ and) → any (mark_in 16 marks) (children p v) ≡ fails_by (kind p v) (state_of marks notes) v (children p v)
  unfolding fails_by
  fail-any h = ⊎_elim (λ f. let h : serial ≡ kind p v = sym f ∙ e in rw (← h, in-failed marks notes)) (λ f. let h : and ≡ kind p v = sym f ∙ e in rw (← h, in-failed marks notes)) h

  pub fail-all : (k ≡ or) ⊎ ((k ≡ xor) ⊎ (k ≡ contingency)) → all (mark_in 16 marks) (children p v) ≡ fails_by (kind p v) (state_of marks notes) v (children p v)
  unfolding fails_by
  fail-all h =
      ⊎_elim (λ f. let h : or ≡ kind p v = sym f ∙ e in rw (← h, in-failed marks notes))
      (λ g. ⊎_elim (λ f. let h : xor ≡ kind p v = sym f ∙ e in rw (← h, in-failed marks notes)) (λ f. let h : contingency ≡ kind p v = sym f ∙ e in rw (← h, in-failed marks notes)) g) h

-- a commit, by the kind above
module _ (p marks notes : List ℕ) (v : ℕ) where
  pub commit-picked : above p v ≡ xor → (mark_in 4 marks v && picked_at notes v) ≡ allowed_by p (state_of marks notes) commit v
  unfolding allowed_by in_xor is_kind kind_number
  commit-picked h = rw (h, at-offered marks notes v, picked-read marks notes)

  not-xor : (above p v ≡ xor → ⊥) → in_xor p v ≡ false
  unfolding in_xor
  not-xor h = cases (decided (is_kind xor (above p v))) (λ e. absurd (h (same_kind xor (above p v) e))) (λ e. e)

  pub commit-finished : (above p v ≡ xor → ⊥) →
      (mark_in 2 marks v && finishes_by (kind p v) (state_of marks notes) v (children p v)) ≡ allowed_by p (state_of marks notes) commit v
  unfolding allowed_by
  commit-finished h = rw (not-xor h, at-running marks notes v)
