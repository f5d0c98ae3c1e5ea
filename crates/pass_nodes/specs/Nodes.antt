-- The pass node by node (rules F): how a node ends by the ends of its children, and which mark a block gives each child. Definitions only.
use Rattle.std.specs.Prelude.{◌≡◌, Bool, true, false, cond, List, [], ◌∷◌, ℕ, zero, suc, eqb, get_or}
use Rattle.plan.specs.Plan.{kind, size, children}
use Rattle.plan.specs.declared.kinds.Kind.{Kind}
use Rattle.plan.specs.declared.kinds.Kind.TheVariants.{Task as task, Serial as serial, And as and, Or as or, Xor as xor, Contingency as contingency, Conditional as conditional, Waiting as waiting}
use Rattle.pass.specs.Pass.{Outcome, fault, Tally, goes, note, skip, nothing, bad_answer, child_mark, end_of, pass}

-- F2: a block's tally after its next child, which ends as o if it is reached
unfoldable pub counted : Kind → ℕ → Tally → Outcome → Tally
counted k x t o = cond (goes k x t) (note x t o) (skip t)

-- F2: and after all of cs, which end as e says
unfoldable pub tallied : Kind → ℕ → (ℕ → Outcome) → List ℕ → Tally → Tally
tallied k x e [] t = t
tallied k x e (c ∷ cs) t = tallied k x e cs (counted k x t (e c))

-- F3, F5: how a node of kind k with answer x and children cs ends
unfoldable pub end_by : Kind → ℕ → (ℕ → Outcome) → List ℕ → Outcome
end_by k x e cs = cond (eqb (bad_answer k x) 0) (end_of k x (tallied k x e cs nothing)) (fault (bad_answer k x))

-- F3: how v ends by the answers a, if it has fewer levels of nodes below it than said
unfoldable pub end_within : List ℕ → List ℕ → ℕ → ℕ → Outcome
end_within p a zero v = fault 0
end_within p a (suc levels) v = end_by (kind p v) (get_or a v 0) (λ c. end_within p a levels c) (children p v)

-- F3: how v ends by the answers a: by its children's ends (specs/Claim.antt, ByNodes)
unfoldable pub end_at : List ℕ → List ℕ → ℕ → Outcome
end_at p a v = end_within p a (size p) v

-- F4: the mark of a block's next child, which ends as o if it is reached
unfoldable pub next_mark : Kind → ℕ → Tally → Outcome → ℕ
next_mark k x t o = cond (goes k x t) (child_mark k x t o) 0

-- F4: the mark of c, one of the children cs that are left
unfoldable pub mark_among : Kind → ℕ → (ℕ → Outcome) → List ℕ → Tally → ℕ → ℕ
mark_among k x e [] t c = 0
mark_among k x e (d ∷ cs) t c = cond (eqb d c) (next_mark k x t (e d)) (mark_among k x e cs (counted k x t (e d)) c)

-- F4: the mark that v, where it is reached, gives its child c
unfoldable pub gives : List ℕ → List ℕ → ℕ → ℕ → ℕ
gives p a v c = mark_among (kind p v) (get_or a v 0) (end_at p a) (children p v) nothing c

-- F4: the mark that the pass leaves at v
unfoldable pub pass_mark : List ℕ → List ℕ → ℕ → ℕ
pass_mark p a v = get_or (pass p a).marks v 0

-- F1, table: the answer of a node of this kind means something
unfoldable pub has_answer : Kind → Bool
has_answer task = true
has_answer serial = false
has_answer and = false
has_answer or = false
has_answer xor = true
has_answer contingency = false
has_answer conditional = true
has_answer waiting = false

-- F1: the pass reads v's answer: it means something, and v is reached
pub record Read (p a : List ℕ) (v : ℕ) : Type 0 where
  pub by_kind : has_answer (kind p v) ≡ true
  pub reached : pass_mark p a v ≡ 0 → ⊥
