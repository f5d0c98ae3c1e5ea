-- Brothers in a rising list: the first, the last, the one before; and nodes whose parent is an xor. Assumes nothing.
use mathlib.Core.Path.{◌≡◌, refl, sym, ◌∙◌, ap}
use mathlib.Core.Bool.{Bool, true, false, cond, false≢true}
use mathlib.Core.List.{List, ◌∷◌}
use mathlib.Core.Logic.{◌⊎◌, inl, inr}
use Prim.Native.Nat.{ℕ, zero, suc, ◌≤◌, ◌<◌}
use lib.Dec.{eqb}
use lib.ListN.{length}
use borrow.Author.Tests.{eqb-false, eqb-true, ne_eqb}
use native.Mathlib.Omega.{arith}
use Rattle.lists.specs.Seq.{all, head_or, last_or, earlier}
use Rattle.lists.specs.Member.{In, here, there, Rising, next, end}
use Rattle.lists.proofs.Logic.{cases, same_bool, clash, decided}
use Rattle.lists.proofs.Members.{all-at, all-by, rising-above}
use Rattle.lists.proofs.Points.{in-earlier, earlier-in, last-member, last-greatest}
use Rattle.plan.specs.Plan.{kind_number, is_kind, size, kind, parent, children, above, in_xor}
use Rattle.plan.specs.declared.kinds.Kind.{Kind}
use Rattle.plan.specs.declared.kinds.Kind.TheVariants.{Task as task, Xor as xor}
use Rattle.plan.proofs.PlanLaws.{Child, child-of}
use Rattle.plan.proofs.KindLaws.{same_kind}
use Rattle.guard.specs.Guard.{before_in, is_first}
use Rattle.pass.specs.Pass.{goes}

pub first-least : {d : ℕ} {cs : List ℕ} {v c : ℕ} → Rising d cs → is_first cs v ≡ true → In c cs → v ≤ c
unfolding is_first head_or
first-least {d = d} {v = v} {c = c} end e x7 = elim x7 [ ]
first-least {v = v} (next {c = a} h r) e (here k) = let q = eqb-true a v e in omega arith
first-least {v = v} (next {c = a} h r) e (there i) = let q = eqb-true a v e in let k = rising-above r i in omega arith

-- b is the greatest of cs below v
pub record Before (cs : List ℕ) (v b : ℕ) : Type 0 where
  pub member : In b cs
  pub less : b < v
  pub most : (c : ℕ) → In c cs → c < v → c ≤ b

before-from : {d : ℕ} {cs : List ℕ} {v : ℕ} → Rising d cs → In v cs → Before (d ∷ cs) v (before_in d cs v)
unfolding before_in
before-from {v = v} (end {d = d}) i = elim i [ ]
before-from {d} {v = v} (next {c = a} {cs = cs} h r) i = go (eqb a v) refl (before-from r) i
  where
    most-here : a ≡ v → (c : ℕ) → In c (d ∷ a ∷ cs) → c < v → c ≤ d
    most-here q c (here j) k = omega arith
    most-here q c (there (here j)) k = absurd (omega arith)
    most-here q c (there (there j)) k = let l = rising-above r j in absurd (omega arith)

    more : In v cs → Before (a ∷ cs) v (before_in a cs v) → Before (d ∷ a ∷ cs) v (before_in a cs v)
    more j b = record { member = there b.member; less = b.less; most = most }
      where
        most : (c : ℕ) → In c (d ∷ a ∷ cs) → c < v → c ≤ before_in a cs v
        most c (here q) k = let l = b.most a (here refl) (rising-above r j) in omega arith
        most c (there i) k = b.most c i k

    go : (t : Bool) → eqb a v ≡ t → (In v cs → Before (a ∷ cs) v (before_in a cs v)) → In v (a ∷ cs) →
        Before (d ∷ a ∷ cs) v (cond t d (before_in a cs v))
    go true e k i = let q = eqb-true a v e in record { member = here refl; less = omega arith; most = most-here q }
    go false e k (here q) = absurd (eqb-false a v e (sym q))
    go false e k (there j) = more j (k j)

pub before_of : {d : ℕ} {cs : List ℕ} {v : ℕ} → Rising d cs → In v cs → is_first cs v ≡ false → Before cs v (before_in v cs v)
unfolding before_in is_first head_or
before_of {d = d} {v = v} end i e = elim i [ ]
before_of {v = v} (next {c = a} {cs = cs} h r) i e = rw e (go i)
  where
    go : In v (a ∷ cs) → Before (a ∷ cs) v (before_in a cs v)
    go (here q) = absurd (eqb-false a v e (sym q))
    go (there j) = before-from r j

-- where each that has H has it after all the earlier ones, the last has it just where all have
module _ (H : ℕ → Bool) (cs : List ℕ) (rising : Rising 0 cs) (chain : (c : ℕ) → In c cs → H c ≡ true → all H (earlier cs c) ≡ true) where
  up_to : (l : ℕ) → In l cs → H l ≡ true → (c : ℕ) → In c cs → c ≤ l → H c ≡ true
  up_to l j h c i k = cases (decided (eqb c l)) (λ e. rw (eqb-true c l e) h)
      (λ e. all-at H (in-earlier i (omega (arith, eqb-false c l e))) (chain l j h))

  pub chain-last : (d : ℕ) → 0 < length cs → H (last_or d cs) ≡ all H cs
  chain-last d some = same_bool _ _
      (λ h. all-by H cs (λ c i. up_to (last_or d cs) (last-member d cs some) h c i (last-greatest d rising i)))
      (all-at H (last-member d cs some))

  pub chain-before : (v : ℕ) → In v cs → is_first cs v ≡ false → H (before_in v cs v) ≡ all H (earlier cs v)
  chain-before v i e =
      let b = before_of rising i e in
      same_bool _ _
      (λ h. all-by H (earlier cs v) (λ c j. let k = earlier-in cs v j in up_to (before_in v cs v) b.member h c k.0 (b.most c k.0 k.1)))
      (all-at H (in-earlier b.member b.less))

-- where each whose earlier ones all are as f is as f or as h, all below top are as f if none of them is as h
pub chain-until : (f h : ℕ → Bool) (cs : List ℕ) → ((c : ℕ) → In c cs → all f (earlier cs c) ≡ true → (f c ≡ true) ⊎ (h c ≡ true)) →
    (top : ℕ) → ((c : ℕ) → In c cs → c < top → h c ≡ false) → (n c : ℕ) → c < n → In c cs → c < top → f c ≡ true
chain-until f h cs goes top clear zero c l i t = absurd (omega arith)
chain-until f h cs goes top clear (suc n) c l i t = cases
    (goes c i (all-by f (earlier cs c) (λ d j. let k = earlier-in cs c j in chain-until f h cs goes top clear n d (omega arith) k.0 (omega arith))))
    (λ e. e) (λ e. clash _ e (clear c i t))

-- the first has none before it
pub first-none : (H : ℕ → Bool) {d : ℕ} (cs : List ℕ) (v : ℕ) → Rising d cs → is_first cs v ≡ true → all H (earlier cs v) ≡ true
first-none H cs v r e = all-by H (earlier cs v) (λ c j. let k = earlier-in cs v j in let l = first-least r e k.0 in absurd (omega arith))

pub not-task : (k : Kind) → is_kind task k ≡ false → k ≡ task → ⊥
unfolding is_kind kind_number
not-task k h q = false≢true (sym h ∙ ap (is_kind task) q)

pub task-or-not : (k : Kind) → (k ≡ task) ⊎ (k ≡ task → ⊥)
task-or-not k = cases (decided (is_kind task k)) (λ h. inl (same_kind task k h)) (λ h. inr (not-task k h))

module _ (p : List ℕ) where
  -- a child of an xor is no root
  pub xor-child : (v : ℕ) → in_xor p v ≡ true → v < size p → Child p (parent p v) v
  unfolding in_xor above is_kind kind_number
  xor-child v h l = go (eqb v 0) refl h
    where
      go : (b : Bool) → eqb v 0 ≡ b → is_kind xor (cond b task (kind p (parent p v))) ≡ true → Child p (parent p v) v
      go true e h = absurd (false≢true h)
      go false e h = record { low = omega (arith, eqb-false v 0 e); high = l; of = refl }

  module _ (v c : ℕ) (i : In c (children p v)) where
    pub child-high : c < size p
    child-high = (child-of p v i).high

    pub child-above : above p c ≡ kind p v
    unfolding above
    child-above = let h = child-of p v i in rw (ne_eqb c 0 (λ z. omega arith), h.of)

    pub child-xor : in_xor p c ≡ is_kind xor (kind p v)
    unfolding in_xor
    child-xor = ap (is_kind xor) child-above
