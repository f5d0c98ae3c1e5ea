-- What a stuck state shuts out: a node that could start, a running one that could finish or fail, an offered one, a conditional without an answer.
-- Assumes nothing.
use mathlib.Core.Path.{◌≡◌, refl}
use mathlib.Core.Bool.{true, false, not, ◌&&◌}
use mathlib.Core.List.{List, [], ◌∷◌}
use mathlib.Core.Logic.{◌⊎◌, inl, inr}
use Prim.Native.Nat.{ℕ, ◌<◌}
use lib.Dec.{eqb}
use lib.ListN.{length}
use borrow.Author.Tests.{lt-ltb, ne_eqb}
use native.Mathlib.Omega.{arith}
use Rattle.lists.specs.Seq.{any}
use Rattle.lists.specs.Member.{In, here, there, Rising, end, next}
use Rattle.lists.proofs.Logic.{cases, clash, decided}
use Rattle.lists.proofs.Members.{any-by, any_at, in-keep}
use Rattle.plan.specs.Plan.{kind_number, is_kind, size, kind, parent, children, others, in_xor}
use Rattle.plan.specs.declared.kinds.Kind.TheVariants.{Conditional as conditional}
use Rattle.plan.specs.Check.{Accepted}
use Rattle.plan.proofs.PlanLaws.{child-of}
use Rattle.event.specs.Event.{Code, start, offer, commit, abort, answered-yes, pick, down, at, applies_by, applies}
use Rattle.central.specs.Mark.{idle, running, offered}
use Rattle.central.specs.Central.{Answer, none, said-yes, said-no, Central, is_yes, is_no, marked, started, reached_by, may_start, finishes_by, fails_by, allowed_by, allowed}
use Rattle.runs.specs.Claims.{Stuck}
use Rattle.runs.proofs.Family.{child-above}

-- the two children of a node that has two
pub record Two (cs : List ℕ) (a b : ℕ) : Type 0 where
  pub are : cs ≡ a ∷ b ∷ []
  pub rise : a < b
  pub first : In a cs
  pub second : In b cs

pub two-of : {d : ℕ} (cs : List ℕ) → Rising d cs → length cs ≡ 2 → (a : ℕ) × (b : ℕ) × Two cs a b
two-of [] r e = absurd (omega arith)
two-of (a ∷ []) r e = absurd (omega arith)
two-of (a ∷ b ∷ c ∷ cs) r e = absurd (omega arith)
two-of (a ∷ b ∷ []) (next h (next k end)) e = (a, b, record { are = refl; rise = k; first = here refl; second = there (here refl) })

module _ (p : List ℕ) (ok : Accepted p) (s : Central) (stuck : Stuck p s) where
  -- what applies is not allowed
  shut : (k : Code) (v : ℕ) → v < size p → applies_by k (kind p v) (in_xor p v) ≡ true → allowed_by p s k v ≡ true → ⊥
  unfolding allowed applies
  shut k v l a h = clash _ (rw (lt-ltb v (size p) l, a) h) (stuck (at k v))

  start-shut : (v : ℕ) → v < size p → may_start p s v ≡ true → started s v ≡ true
  unfolding allowed_by applies_by
  start-shut v l m = cases (decided (marked s idle v)) (λ e. absurd (shut start v l refl (rw (e, m)))) (λ e. rw e)

  -- a started node's children start as their place is reached
  pub starts : (v c : ℕ) → In c (children p v) → started s v ≡ true → reached_by (kind p v) s v (children p v) c ≡ true → started s c ≡ true
  unfolding may_start
  starts v c i st r =
      let h = child-of p v i in
      start-shut c h.high (rw (ne_eqb c 0 (λ z. omega arith), h.of, child-above p v c i, st, r))

  pub root-started : started s 0 ≡ true
  unfolding may_start
  root-started = start-shut 0 ok.some refl

  module _ (v : ℕ) (l : v < size p) where
    pub finish-shut : marked s running v ≡ true → finishes_by (kind p v) s v (children p v) ≡ true → ⊥
    unfolding allowed_by applies_by
    finish-shut r f = cases (decided (in_xor p v)) (λ x. shut offer v l x (rw (x, r, f))) (λ x. shut commit v l refl (rw (x, r, f)))

    pub fail-shut : marked s running v ≡ true → fails_by (kind p v) s v (children p v) ≡ true → ⊥
    unfolding allowed_by applies_by
    fail-shut r f = shut abort v l refl (rw (r, f))

    -- an offered child of an xor commits if it is picked, is turned down if another is, and is picked if none is
    pub offer-shut : in_xor p v ≡ true → marked s offered v ≡ true → ⊥
    unfolding allowed_by applies_by others
    offer-shut x o = cases (decided (s.picked v))
        (λ k. shut commit v l refl (rw (x, o, k)))
        (λ k. cases (decided (any s.picked (children p (parent p v))))
        (λ y. let r = any_at s.picked (children p (parent p v)) y in
        let other : eqb r.0 v ≡ false = ne_eqb r.0 v (λ q. clash _ r.2 (rw q k)) in
        shut down v l x (rw o (any-by s.picked (in-keep (λ c. not (eqb c v)) r.1 (rw other)) r.2)))
        (λ y. shut pick v l x (rw (o, y))))

    pub is-answered : kind p v ≡ conditional → started s v ≡ true → (s.answer v ≡ said-yes) ⊎ (s.answer v ≡ said-no)
    unfolding allowed_by applies_by is_kind kind_number is_yes is_no
    is-answered k st = go (s.answer v) (shut answered-yes v l (rw k))
      where
        go : (x : Answer) → ((started s v && not (is_yes x) && not (is_no x)) ≡ true → ⊥) → (x ≡ said-yes) ⊎ (x ≡ said-no)
        go none h = absurd (h (rw st))
        go said-yes h = inl refl
        go said-no h = inr refl
