-- Laws of writing clauses and guards, a turn of a loop at a time. Assumes nothing.
use mathlib.Core.Path.{◌≡◌, refl, sym, ap, subst, ◌∙◌}
use mathlib.Core.List.{List, [], ◌∷◌, ◌++◌}
use Prim.Native.Nat.{ℕ, zero, suc, ◌+◌, ◌*◌, ◌<◌, ◌≤◌}
use native.Mathlib.Nat.{zero-add}
use native.Mathlib.Numerals.{add-one}
use native.Mathlib.Omega.{arith}
use borrow.Author.Tests.{ne_eqb, eqb-true, eqb-false}
use lib.Dec.{eqb}
use Rattle.lists.proofs.Logic.{cases, decided}
use lib.ListN.{length, length-append, set, take, drop, get_or}
use lib.Seq.{sets-eq, length-sets, take_at}
use Rattle.lists.specs.Put.{Put}
use Rattle.lists.proofs.PutLaws.{put_one, put_two, put-append, Left, left-none, left-put, drop-turn}
use Rattle.guard.specs.Shape.{shape_bytes}
use Rattle.guard.specs.declared.table.Shape.{Shape}
use Rattle.guard.specs.Put.{pairs, any_pairs, clause, each_clause, any_clause, codes_of, first_bytes, any_part, more_of}

-- the same bytes, under another name
pub put_as : {x y b : List ℕ} {w : ℕ} {b' : List ℕ} {w' : ℕ} → y ≡ x → Put x b w b' w' → Put y b w b' w'
put_as e h = rw e h

-- a byte, and then the rest
pub put_first : {a : ℕ} {x b : List ℕ} {w : ℕ} {b' : List ℕ} {w' : ℕ} → Put x (set b w a) (w + 1) b' w' → Put (a ∷ x) b w b' w'
put_first h = record { place = omega (arith, h.place); held = h.held ∙ rw add-one }

pub left-same : {x y whole b₀ : List ℕ} {w₀ : ℕ} {b : List ℕ} {w : ℕ} → x ≡ y → Left x whole b₀ w₀ b w → Left y whole b₀ w₀ b w
left-same e h = rw (← e) h

-- past the end nothing is left
pub drop-out : (s : List ℕ) (i : ℕ) → length s ≤ i → drop i s ≡ []
drop-out [] zero l = refl
drop-out [] (suc i) l = refl
drop-out (x ∷ s) zero l = absurd (omega arith)
drop-out (x ∷ s) (suc i) l = drop-out s i (omega arith)

any_at : (k : ℕ) (cs : List ℕ) (i : ℕ) → i < length cs → any_pairs k (drop i cs) ≡ (k ∷ get_or cs i 0 ∷ []) ++ any_pairs k (drop (i + 1) cs)
unfolding any_pairs
any_at k cs i l = rw (drop-turn cs i l)

each_at : (ks cs : List ℕ) (i : ℕ) → i < length cs → each_clause ks (drop i cs) ≡ clause ks (get_or cs i 0) ++ each_clause ks (drop (i + 1) cs)
unfolding each_clause
each_at ks cs i l = rw (drop-turn cs i l)

-- the loops: a turn writes x of what is left, for which there is room
module _ {whole b₀ : List ℕ} {w₀ : ℕ} {b : List ℕ} {w : ℕ} (i : ℕ) where
  turn : {x rest before : List ℕ} {b' : List ℕ} {w' : ℕ} → before ≡ x ++ rest → Left before whole b₀ w₀ b w → Put x b w b' w' → Left rest whole b₀ w₀ b' w'
  turn e h k = left-put _ _ (left-same e h) k

  room : (x rest : List ℕ) {before : List ℕ} → before ≡ x ++ rest → Left before whole b₀ w₀ b w → w₀ + length whole ≤ length b₀ → w + length x ≤ length b
  room x rest e h l = omega (arith, h.place, h.long, ap length e, length-append x rest)

  module _ (k : ℕ) (cs : List ℕ) (l : i < length cs) (h : Left (any_pairs k (drop i cs)) whole b₀ w₀ b w) where
    pub any-turn : Left (any_pairs k (drop (i + 1) cs)) whole b₀ w₀ (set (set b w k) (w + 1) (get_or cs i 0)) (w + 2)
    any-turn = turn (any_at k cs i l) h (put_two k (get_or cs i 0) b w)

    pub any-room : w₀ + length whole ≤ length b₀ → w + 2 ≤ length b
    any-room = room (k ∷ get_or cs i 0 ∷ []) (any_pairs k (drop (i + 1) cs)) (any_at k cs i l) h

  module _ (ks cs : List ℕ) (l : i < length cs) (h : Left (each_clause ks (drop i cs)) whole b₀ w₀ b w) where
    pub each_turn : {b' : List ℕ} {w' : ℕ} → Put (clause ks (get_or cs i 0)) b w b' w' → Left (each_clause ks (drop (i + 1) cs)) whole b₀ w₀ b' w'
    each_turn = turn (each_at ks cs i l) h

    pub each-room : w₀ + length whole ≤ length b₀ → w + length (clause ks (get_or cs i 0)) ≤ length b
    each-room = room (clause ks (get_or cs i 0)) (each_clause ks (drop (i + 1) cs)) (each_at ks cs i l) h

module _ {b₀ b : List ℕ} {w : ℕ} (i : ℕ) where
  pub any_out : (k : ℕ) (cs : List ℕ) (at : ℕ) → (k ≡ 0 → ⊥) → length cs ≤ i → Left (any_pairs k (drop i cs)) (any_pairs k cs) (set b₀ at (length cs)) (at + 1) b w
      → Put (any_part k cs) b₀ at b w
  unfolding any_part any_clause any_pairs
  any_out k cs at n l h = rw (ne_eqb k 0 n) (put_first (left-none (rw (drop-out cs i l) at h)))

  pub each-out : (ks cs : List ℕ) {w₀ : ℕ} → length cs ≤ i → Left (each_clause ks (drop i cs)) (each_clause ks cs) b₀ w₀ b w → Put (each_clause ks cs) b₀ w₀ b w
  unfolding each_clause
  each-out ks cs l h = left-none (rw (drop-out cs i l) at h)

-- room for the clause is room for its count and the events behind it
pub any-behind : (k : ℕ) (cs : List ℕ) (at n : ℕ) → (k ≡ 0 → ⊥) → at + length (any_part k cs) ≤ n → at + 1 + length (any_pairs k cs) ≤ n
unfolding any_part any_clause
any-behind k cs at n e l = let h = rw (ne_eqb k 0 e) at l in omega arith

pub put-none : (b : List ℕ) (at : ℕ) → Put [] b at b at
put-none b at = record { place = omega arith; held = refl }

pub any_none : (k : ℕ) (cs b : List ℕ) (at : ℕ) → k ≡ 0 → Put (any_part k cs) b at b at
unfolding any_part
any_none k cs b at e = rw e (put-none b at)

-- a clause of n codes, two bytes each
pub clause-length : (k n c : ℕ) → n ≤ 3 → length (clause (codes_of k n) c) ≡ 1 + 2 * n
unfolding clause pairs
clause-length k zero c l = refl
clause-length k (suc zero) c l = refl
clause-length k (suc (suc zero)) c l = refl
clause-length k (suc (suc (suc zero))) c l = refl
clause-length k (suc (suc (suc (suc n)))) c l = absurd (omega arith)

two-behind : (x b : List ℕ) (w n : ℕ) {b' : List ℕ} (k c : ℕ) → Put x b w b' (w + n) → Put (x ++ (k ∷ c ∷ [])) b w (set (set b' (w + n) k) (w + suc n) c) (w + suc (suc n))
two-behind x b w n {b'} k c h =
    let e : w + n + 1 ≡ w + suc n = omega arith in
    let f : w + n + 2 ≡ w + suc (suc n) = omega arith in
    subst (λ (m : ℕ). Put (x ++ (k ∷ c ∷ [])) b w (set (set b' (w + n) k) m c) (w + suc (suc n))) e
    (subst (λ (m : ℕ). Put (x ++ (k ∷ c ∷ [])) b w (set (set b' (w + n) k) (w + n + 1) c) m) f (put-append x (k ∷ c ∷ []) b w h (put_two k c b' (w + n))))

module _ (k c : ℕ) (b : List ℕ) (at : ℕ) {n : ℕ} where
  first_two : Put (n ∷ k ∷ c ∷ []) b at (set (set (set b at n) (at + 1) k) (at + 2) c) (at + 3)
  first_two = two-behind (n ∷ []) b at 1 k c (put_one n b at)

  second-two : Put (n ∷ k ∷ c ∷ 4 ∷ c ∷ []) b at (set (set (set (set (set b at n) (at + 1) k) (at + 2) c) (at + 3) 4) (at + 4) c) (at + 5)
  second-two = two-behind (n ∷ k ∷ c ∷ []) b at 3 4 c first_two

  third-two : Put (n ∷ k ∷ c ∷ 4 ∷ c ∷ 8 ∷ c ∷ []) b at (set (set (set (set (set (set (set b at n) (at + 1) k) (at + 2) c) (at + 3) 4) (at + 4) c) (at + 5) 8) (at + 6) c) (at + 7)
  third-two = two-behind (n ∷ k ∷ c ∷ 4 ∷ c ∷ []) b at 5 8 c second-two

module _ (k c : ℕ) (b : List ℕ) (at : ℕ) {n : ℕ} where
  pub clause-one : n ≡ 1 → Put (clause (codes_of k n) c) b at (set (set (set b at n) (at + 1) k) (at + 2) c) (at + 3)
  unfolding clause pairs
  clause-one e = rw e (first_two k c b at)

  pub clause-two : n ≡ 2 → Put (clause (codes_of k n) c) b at (set (set (set (set (set b at n) (at + 1) k) (at + 2) c) (at + 3) 4) (at + 4) c) (at + 5)
  unfolding clause pairs
  clause-two e = rw e (second-two k c b at)

  pub clause-three : n ≡ 3 → Put (clause (codes_of k n) c) b at (set (set (set (set (set (set (set b at n) (at + 1) k) (at + 2) c) (at + 3) 4) (at + 4) c) (at + 5) 8) (at + 6) c) (at + 7)
  unfolding clause pairs
  clause-three e = rw e (third-two k c b at)

-- the first bytes of a shape, by what it has
module _ (k v n more : ℕ) (cs : List ℕ) where
  pub first-none : k ≡ 0 → first_bytes k v n more cs ≡ more ∷ []
  unfolding first_bytes
  first-none e = rw e

  pub first_one : (k ≡ 0 → ⊥) → n ≡ 0 → first_bytes k v n more cs ≡ (1 + more) ∷ clause (codes_of k 1) v
  unfolding first_bytes
  first_one h e = rw (ne_eqb k 0 h, e)

  pub first-each : (k ≡ 0 → ⊥) → (n ≡ 0 → ⊥) → first_bytes k v n more cs ≡ (length cs + more) ∷ each_clause (codes_of k n) cs
  unfolding first_bytes
  first-each h e = rw (ne_eqb k 0 h, ne_eqb n 0 e)

pub first_some : (k v n more : ℕ) (cs : List ℕ) → 1 ≤ length (first_bytes k v n more cs)
first_some k v n more cs = cases (decided (eqb k 0)) (λ e. omega (arith, ap length (first-none k v n more cs (eqb-true k 0 e))))
    (λ h. cases (decided (eqb n 0)) (λ e. omega (arith, ap length (first_one k v n more cs (eqb-false k 0 h) (eqb-true n 0 e))))
    (λ e. omega (arith, ap length (first-each k v n more cs (eqb-false k 0 h) (eqb-false n 0 e)))))

pub more-none : (k : ℕ) → k ≡ 0 → more_of k ≡ 0
unfolding more_of
more-none k e = rw e

pub more-some : (k : ℕ) → (k ≡ 0 → ⊥) → more_of k ≡ 1
unfolding more_of
more-some k h = rw (ne_eqb k 0 h)

-- a shape: its first bytes, and behind them the last clause
module _ (s : Shape) (cs : List ℕ) {more : ℕ} (is : more ≡ more_of s.any) where
  pub shape-length : length (shape_bytes s cs) ≡ length (first_bytes s.code s.node s.each more cs) + length (any_part s.any cs)
  unfolding shape_bytes
  shape-length = rw is (length-append (first_bytes s.code s.node s.each (more_of s.any) cs) (any_part s.any cs))

  pub shape-put : {b b₁ : List ℕ} {w₁ : ℕ} {b₂ : List ℕ} {w₂ : ℕ} → Put (first_bytes s.code s.node s.each more cs) b 0 b₁ w₁ → Put (any_part s.any cs) b₁ w₁ b₂ w₂
      → Put (shape_bytes s cs) b 0 b₂ w₂
  unfolding shape_bytes
  shape-put h k = put-append (first_bytes s.code s.node s.each (more_of s.any) cs) (any_part s.any cs) _ _ (rw is at h) k

-- what was written at the front of z is the part of s up to n
module _ {x z s : List ℕ} {n : ℕ} (h : Put x z 0 s n) (l : length x ≤ length z) where
  pub front : take n s ≡ x
  front = ap (λ k. take k s) (h.place ∙ zero-add (length x)) ∙ ap (take (length x)) (h.held ∙ sets-eq x z 0 (rw zero-add l)) ∙ take_at x (drop (0 + length x) z) (length x) refl

  pub front_length : n ≡ length (take n s)
  front_length = h.place ∙ zero-add (length x) ∙ sym (ap length front)

  pub front-in : n ≤ length s
  front-in = omega (arith, h.place, ap length h.held ∙ length-sets z 0 x)
