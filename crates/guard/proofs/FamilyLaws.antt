-- Laws of a family: the first, the last, the one before, and how it is gathered. Assumes nothing.
use mathlib.Core.Path.{◌≡◌, refl, sym, ap, ◌∙◌}
use mathlib.Core.Bool.{Bool, true, false, not, and-true, and-false}
use mathlib.Core.List.{List, [], ◌∷◌}
use Prim.Native.Nat.{ℕ, pred, ◌+◌, ◌-◌, ◌<◌, ◌≤◌}
use native.Mathlib.Numerals.{add-one}
use native.Mathlib.Omega.{arith}
use borrow.Author.Tests.{eq-eqb, ne_eqb}
use lib.Dec.{eqb}
use lib.ListN.{length, length-set, set, drop, get_or}
use lib.Seq.{sets}
use Rattle.lists.specs.Seq.{keep, up_from, last_or, head_or}
use Rattle.lists.specs.Member.{In, here, there}
use Rattle.lists.proofs.Logic.{cases, decided}
use Rattle.lists.proofs.Members.{up_in}
use Rattle.lists.proofs.Keep.{keep-yes, keep-no, keep_out, keep_same, keep-keep, keep-short}
use Rattle.plan.specs.Plan.{size, parent, children_below, children, others}
use Rattle.plan.specs.Check.{Accepted}
use Rattle.guard.specs.Guard.{is_first, before_in}
use Rattle.lists.specs.Put.{Put}
use Rattle.guard.specs.Family.{in_family, family}
use Rattle.lists.proofs.PutLaws.{Left, left-all, left-none, drop-turn}
use Rattle.guard.proofs.PutLaws.{left-same, drop-out}
use Rattle.guard.proofs.Short.{few-children}

-- a turn of the search for the one before v
module _ (d : ℕ) (cs : List ℕ) (v i : ℕ) where
  pub before-hit : i < length cs → get_or cs i 0 ≡ v → before_in d (drop i cs) v ≡ d
  unfolding before_in
  before-hit l e = rw (drop-turn cs i l, eq-eqb (get_or cs i 0) v e)

  pub before-miss : i < length cs → (get_or cs i 0 ≡ v → ⊥) → before_in d (drop i cs) v ≡ before_in (get_or cs i 0) (drop (i + 1) cs) v
  unfolding before_in
  before-miss l e = rw (drop-turn cs i l, ne_eqb (get_or cs i 0) v e)

  pub before-out : length cs ≤ i → before_in d (drop i cs) v ≡ d
  unfolding before_in
  before-out l = rw (drop-out cs i l)

-- v is the first if and only if the search from v finds v itself
before-other : (d : ℕ) (cs : List ℕ) (v : ℕ) → eqb d v ≡ false → eqb (before_in d cs v) v ≡ false
unfolding before_in
before-other d [] v h = h
before-other d (c ∷ cs) v h = cases (decided (eqb c v)) (λ e. rw e h) (λ e. rw e (before-other c cs v e))

pub first-before : (cs : List ℕ) (v : ℕ) → is_first cs v ≡ eqb (before_in v cs v) v
unfolding is_first head_or before_in
first-before [] v = refl
first-before (c ∷ cs) v = cases (decided (eqb c v)) (λ e. rw e (sym (eq-eqb v v refl))) (λ e. rw e (sym (before-other c cs v e)))

-- where v is not in the list, the search ends at the last
pub before_last : (d : ℕ) (cs : List ℕ) (v : ℕ) → ((c : ℕ) → In c cs → c ≡ v → ⊥) → before_in d cs v ≡ last_or d cs
unfolding before_in last_or
before_last d [] v h = refl
before_last d (c ∷ cs) v h = rw (ne_eqb c v (h c (here refl))) (before_last c cs v (λ x i. h x (there i)))

-- a turn of the loop that gathers those kept
module _ (f : ℕ → Bool) {whole b₀ : List ℕ} {w₀ : ℕ} {b : List ℕ} {w : ℕ} (c n : ℕ) (h : Left (keep f (up_from c (n - c))) whole b₀ w₀ b w) where
  pub kept : c < n → f c ≡ true → Left (keep f (up_from (c + 1) (n - (c + 1)))) whole b₀ w₀ (set b w c) (w + 1)
  kept l e =
      let q = keep-yes f c n l e in
      record {
        place = omega (arith, h.place, ap length q);
        held = rw add-one (ap (λ x. sets b w x) (sym q) ∙ h.held);
        long = simp length-set h.long;
      }

  pub skipped : c < n → f c ≡ false → Left (keep f (up_from (c + 1) (n - (c + 1)))) whole b₀ w₀ b w
  skipped l e = left-same (keep-no f c n l e) h

  pub kept-room : c < n → f c ≡ true → w₀ + length whole ≤ length b₀ → w < length b
  kept-room l e r = omega (arith, h.place, h.long, ap length (keep-yes f c n l e))

  pub all-kept : n ≤ c → Put whole b₀ w₀ b w
  all-kept l = left-none (left-same (keep_out f c n l) h)

pub family-begin : (p : List ℕ) (u skip : ℕ) {n : ℕ} (b : List ℕ) (w : ℕ) → n ≡ size p → Left (keep (in_family p u skip) (up_from 1 (n - 1))) (family p u skip) b w b w
unfolding family
family-begin p u skip b w e = let q : size p - 1 ≡ pred (size p) = omega arith in rw (e, q) (left-all _ b w)

-- whether a node is among them, by its parent
module _ (p : List ℕ) (u skip c : ℕ) where
  pub family-yes : parent p c ≡ u → (c ≡ skip → ⊥) → in_family p u skip c ≡ true
  unfolding in_family
  family-yes e h = rw (eq-eqb (parent p c) u e, ne_eqb c skip h)

  pub family-left : c ≡ skip → in_family p u skip c ≡ false
  unfolding in_family
  family-left e = rw (eq-eqb c skip e, and-false)

  pub family-no : (parent p c ≡ u → ⊥) → in_family p u skip c ≡ false
  unfolding in_family
  family-no h = rw (ne_eqb (parent p c) u h)

family-keep : (p : List ℕ) (u skip : ℕ) → family p u skip ≡ keep (λ c. not (eqb c skip)) (children p u)
unfolding family in_family children children_below
family-keep p u skip = sym (keep-keep (λ c. eqb (parent p c) u) (λ c. not (eqb c skip)) (up_from 1 (pred (size p))))

pub family-others : (p : List ℕ) (v : ℕ) → family p (parent p v) v ≡ others p v
unfolding others
family-others p v = family-keep p (parent p v) v

-- the root is nobody's child
pub family-children : (p : List ℕ) (u : ℕ) → family p u 0 ≡ children p u
unfolding family in_family children children_below
family-children p u = keep_same _ _ (up_from 1 (pred (size p))) (λ c i.
    let b = up_in 1 (pred (size p)) i in
    rw (ne_eqb c 0 (λ e. omega arith)) (and-true (eqb (parent p c) u)))

pub family-few : (p : List ℕ) → Accepted p → (u skip : ℕ) → length (family p u skip) ≤ 32
family-few p ok u skip = omega (arith, ap length (family-keep p u skip), keep-short (λ c. not (eqb c skip)) (children p u), few-children p ok u)
