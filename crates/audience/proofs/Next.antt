-- Neighbours in a rising list: the next one, the last, the first and the second. Assumes nothing.
use mathlib.Core.Path.{◌≡◌, refl, sym, subst}
use mathlib.Core.Bool.{Bool, true, false, cond}
use mathlib.Core.List.{List, [], ◌∷◌}
use mathlib.Core.Logic.{◌⊎◌, inl, inr}
use Prim.Native.Nat.{ℕ, ◌≤◌, ◌<◌}
use lib.Dec.{ltb}
use lib.ListN.{take}
use borrow.Author.Tests.{eqb-true, eq-eqb, ne_eqb, ltb-true, ltb-false, lt-ltb}
use native.Mathlib.Omega.{arith}
use Rattle.lists.specs.Seq.{keep, head_or, last_or}
use Rattle.lists.specs.Member.{In, here, there, Rising, end, next}
use Rattle.lists.proofs.Logic.{cases, decided}
use Rattle.lists.proofs.Members.{keep-in, in-keep, rising-above, rising-keep, none_in, in_some}
use Rattle.lists.proofs.Points.{last-member, last-greatest}
use Rattle.guard.specs.Guard.{before_in, is_first}
use Rattle.runs.proofs.Family.{Before, before_of}
use Rattle.audience.specs.Hearers.{later}
use Rattle.audience.proofs.Shapes.{none_in_empty}

pub in-later : {cs : List ℕ} {v c : ℕ} → In c cs → v < c → In c (later cs v)
unfolding later
in-later {v = v} {c = c} i l = in-keep (λ c. ltb v c) i (lt-ltb v c l)

pub later-in : (cs : List ℕ) (v : ℕ) {c : ℕ} → In c (later cs v) → In c cs × (v < c)
unfolding later
later-in cs v {c} i = let k = keep-in (λ c. ltb v c) cs i in (k.0, ltb-true v c k.1)

-- behind the last there is none
pub last-later : {d : ℕ} (u : ℕ) {cs : List ℕ} → Rising d cs → later cs (last_or u cs) ≡ []
last-later u {cs} r = none_in (later cs (last_or u cs)) (λ c i. let k = later-in cs (last_or u cs) i in let l = last-greatest u r k.0 in omega arith)

later-rising : {d : ℕ} (v : ℕ) {cs : List ℕ} → Rising d cs → Rising d (later cs v)
unfolding later
later-rising v r = rising-keep (λ c. ltb v c) r

least-head : {d w c : ℕ} {l ws : List ℕ} → Rising d l → l ≡ w ∷ ws → In c l → w ≤ c
least-head {d} {w} {c} {ws = ws} r e i = go (subst (λ (m : List ℕ). Rising d m) e r) (subst (λ (m : List ℕ). In c m) e i)
  where
    go : Rising d (w ∷ ws) → In c (w ∷ ws) → w ≤ c
    go (next h r) (here q) = omega arith
    go (next h r) (there j) = let m = rising-above r j in omega arith

-- w follows b: nothing of cs stands between them
pub record Follows (cs : List ℕ) (b w : ℕ) : Type 0 where
  pub member : In w cs
  pub less : b < w
  pub least : (c : ℕ) → In c cs → b < c → w ≤ c

pub follows_next : {d b w : ℕ} (u : ℕ) {cs : List ℕ} → Rising d cs → Follows cs b w → head_or u (later cs b) ≡ w
unfolding later keep head_or
follows_next u end f = absurd (none_in_empty f.member)
follows_next {b = b} {w = w} u (next {c = a} {cs = cs} h r) f = go (ltb b a) refl (follows_next u r)
  where
    first : In w (a ∷ cs) → w ≤ a → a ≡ w
    first (here q) l = sym q
    first (there i) l = let m = rising-above r i in absurd (omega arith)

    tail : In w (a ∷ cs) → a ≤ b → In w cs
    tail (here q) l = let n = f.less in absurd (omega arith)
    tail (there i) l = i

    go : (t : Bool) → ltb b a ≡ t → (Follows cs b w → head_or u (keep (λ c. ltb b c) cs) ≡ w) → head_or u (cond t (a ∷ keep (λ c. ltb b c) cs) (keep (λ c. ltb b c) cs)) ≡ w
    go true e k = first f.member (f.least a (here refl) (ltb-true b a e))
    go false e k = k (record { member = tail f.member (ltb-false b a e); less = f.less; least = λ c i l. f.least c (there i) l })

-- the one before v is followed by v
pub before-follows : {cs : List ℕ} {v b : ℕ} → In v cs → Before cs v b → Follows cs b v
before-follows {v = v} i h = record {
  member = i;
  less = h.less;
  least = λ c j l. cases (decided (ltb c v)) (λ k. let m = h.most c j (ltb-true c v k) in absurd (omega arith)) (λ k. ltb-false c v k);
}

-- whom another stands before is not the first
pub not_first : {d : ℕ} {cs : List ℕ} {v w : ℕ} → Rising d cs → In v cs → v < w → is_first cs w ≡ false
unfolding is_first head_or
not_first {d = d} {v = v} {w = w} end x7 l = elim x7 [ ]
not_first {w = w} (next {c = a} h r) (here q) l = ne_eqb a w (λ z. omega arith)
not_first {w = w} (next {c = a} h r) (there i) l = let m = rising-above r i in ne_eqb a w (λ z. omega arith)

-- who follows v has v before it
pub follows-before : {d : ℕ} {cs : List ℕ} {v w : ℕ} → Rising d cs → In v cs → Follows cs v w → before_in w cs w ≡ v
follows-before {cs = cs} {v = v} {w = w} r i f =
    let b = before_of r f.member (not_first r i f.less) in
    let lo = b.most v i f.less in
    cases (decided (ltb v (before_in w cs w)))
    (λ k. let m = f.least (before_in w cs w) b.member (ltb-true v (before_in w cs w) k) in let o = b.less in absurd (omega arith))
    (λ k. let m = ltb-false v (before_in w cs w) k in omega arith)

-- v is followed by one of cs, or it is the last
pub next-or-last : {d : ℕ} (u : ℕ) {cs : List ℕ} {v : ℕ} → Rising d cs → In v cs →
    Follows cs v (head_or u (later cs v)) ⊎ ((head_or u (later cs v) ≡ u) × (last_or u cs ≡ v))
unfolding head_or
next-or-last u {cs} {v} r i = go (later cs v) refl
  where
    go : (l : List ℕ) → later cs v ≡ l → Follows cs v (head_or u (later cs v)) ⊎ ((head_or u (later cs v) ≡ u) × (last_or u cs ≡ v))
    go [] e =
        let m = last-member u cs (in_some i) in
        let lo = last-greatest u r i in
        inr (
          rw e,
          cases (decided (ltb v (last_or u cs)))
              (λ k. absurd (none_in_empty (subst (λ (l : List ℕ). In (last_or u cs) l) e (in-later m (ltb-true v (last_or u cs) k)))))
              (λ k. let hi = ltb-false v (last_or u cs) k in omega arith),
        )
    go (w ∷ ws) e =
        let k = later-in cs v (subst (λ (l : List ℕ). In w l) (sym e) (here refl)) in
        inl (rw e (record { member = k.0; less = k.1; least = λ c j l. least-head (later-rising v r) e (in-later j l) }))

-- the first and the second
pub first-in : {cs : List ℕ} {v : ℕ} → In v cs → is_first cs v ≡ true → In v (take 1 cs)
unfolding is_first head_or
first-in {v = v} (here {y = a} q) e = here q
first-in {v = v} (there {y = a} i) e = here (sym (eqb-true a v e))

pub in-first : (cs : List ℕ) {v : ℕ} → In v (take 1 cs) → In v cs × (is_first cs v ≡ true)
unfolding is_first head_or
in-first [] {v = v} x = elim x [ ]
in-first (a ∷ cs) {v = v} (there x) = elim x [ ]
in-first (a ∷ cs) {v} (here q) = (here q, eq-eqb a v (sym q))
