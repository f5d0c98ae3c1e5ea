-- What is settled without a walk: a task, and a block whose answer is wrong; and a block that is ready for one. Assumes nothing.
use mathlib.Core.Path.{◌≡◌, refl, sym, ◌∙◌}
use mathlib.Core.Bool.{true, false}
use mathlib.Core.List.{List, []}
use mathlib.Core.Logic.{◌⊎◌, inl, inr, ⊎_elim}
use Prim.Native.Nat.{ℕ, zero, suc, ◌+◌, ◌*◌, ◌≤◌}
use native.Mathlib.Omega.{arith}
use lib.Dec.{eqb}
use lib.ListN.{get_or}
use borrow.Author.Tests.{eqb-true, ne_eqb}
use Rattle.lists.proofs.Logic.{cases, decided}
use Rattle.plan.specs.Plan.{kind_of, size, kind_byte, kind}
use Rattle.plan.specs.declared.kinds.Kind.{Kind}
use Rattle.plan.specs.declared.kinds.Kind.TheVariants.{Task as task}
use Rattle.pass.specs.Pass.{Settled, walk, nothing, unwalked, one_or_two, bad_answer, bad_pick, closes, ending, end_of, close, settle_if, settle_by, settle}
use Rattle.pass.specs.Values.{outcome_of, task_end, Ready, Settles}
use Rattle.links.specs.Links.{Linked}
use Rattle.pass.proofs.StateLaws.{wrong_answer, end-fault}

-- node v is a block of kind k with answer x, which is right
pub record Begun (p a f s m₀ : List ℕ) (v : ℕ) (k : Kind) (x : ℕ) : Type 0 where
  pub ready : Ready p a m₀ v
  pub links : Linked p f s
  pub kind-is : k ≡ kind p v
  pub answer-is : x ≡ get_or a v 0
  pub right : bad_answer k x ≡ 0
  pub block : k ≡ task → ⊥

-- the node that is ready is of kind k
module _ {p a m : List ℕ} {v : ℕ} (r : Ready p a m v) (k : Kind) (is : k ≡ kind_of (get_or p (2 * v) 0)) where
  kind-of : k ≡ kind p v
  unfolding kind kind_byte
  kind-of = is

  pub begun : (k ≡ task → ⊥) → (f s : List ℕ) → Linked p f s → 0 ≡ bad_answer k (get_or a v 0) → Begun p a f s m v k (get_or a v 0)
  begun n f s l e = record { ready = r; links = l; kind-is = kind-of; answer-is = refl; right = sym e; block = n }

  -- the node's own answer is wrong
  pub settle-refused : (bad : ℕ) → bad ≡ bad_answer k (get_or a v 0) → (bad ≡ 0 → ⊥) → Settles p a m v m bad
  unfolding settle settle_by settle_if
  settle-refused bad told e = record { by = go; least = omega (arith, thirteen) }
    where
      thirteen : bad ≡ 13
      thirteen = told ∙ wrong_answer k (get_or a v 0) (λ q. e (told ∙ q))

      go : (fuel : ℕ) → size p ≤ v + fuel → settle p a fuel v m ≡ record { outcome = outcome_of bad; marks = m }
      go zero f = absurd (omega (arith, r.node))
      go (suc fuel) f = rw (← kind-of, ne_eqb (bad_answer k (get_or a v 0)) 0 (λ q. e (told ∙ q)), ← told, end-fault bad (omega (arith, thirteen)))

-- a task ends by its answer alone
module _ (x : ℕ) where
  task-right : (eqb x 1 ≡ true) ⊎ (eqb x 2 ≡ true) → (f : ℕ → List ℕ → Settled) (m : List ℕ) → settle_by task x f [] m ≡ record { outcome = outcome_of (task_end x); marks = m }
  unfolding settle_by settle_if close walk unwalked nothing end_of ending bad_pick closes bad_answer one_or_two task_end outcome_of
  task-right e f m = ⊎_elim (λ h. rw (eqb-true x 1 h)) (λ h. rw (eqb-true x 2 h)) e

  neither : eqb x 1 ≡ false → eqb x 2 ≡ false → one_or_two x ≡ false
  unfolding one_or_two
  neither e h = rw (e, h)

  task-wrong : eqb x 1 ≡ false → eqb x 2 ≡ false → (f : ℕ → List ℕ → Settled) (m : List ℕ) → settle_by task x f [] m ≡ record { outcome = outcome_of (task_end x); marks = m }
  unfolding settle_by settle_if bad_answer task_end outcome_of
  task-wrong e h f m = rw (neither e h, e, h) (rw (neither e h))

  task-least : 3 ≤ task_end x
  unfolding task_end
  task-least = cases (decided (eqb x 1)) (λ g. rw g (omega arith)) (λ g. cases (decided (eqb x 2)) (λ h. rw (g, h) (omega arith)) (λ h. rw (g, h) (omega arith)))

pub task-ends : {p a m : List ℕ} {v : ℕ} → Ready p a m v → kind p v ≡ task → (o : ℕ) → o ≡ task_end (get_or a v 0) → Settles p a m v m o
unfolding settle
task-ends {p} {a} {m} {v} r same o e = record { by = go; least = rw e (task-least (get_or a v 0)) }
  where
    by : (f : ℕ → List ℕ → Settled) → settle_by task (get_or a v 0) f [] m ≡ record { outcome = outcome_of (task_end (get_or a v 0)); marks = m }
    by f = cases (decided (eqb (get_or a v 0) 1)) (λ g. task-right (get_or a v 0) (inl g) f m)
        (λ g. cases (decided (eqb (get_or a v 0) 2)) (λ h. task-right (get_or a v 0) (inr h) f m) (λ h. task-wrong (get_or a v 0) g h f m))

    go : (fuel : ℕ) → size p ≤ v + fuel → settle p a fuel v m ≡ record { outcome = outcome_of o; marks = m }
    go zero f = absurd (omega (arith, r.node))
    go (suc fuel) f = rw (e, same, r.accepted.tasks v r.node same) (by (settle p a fuel))
