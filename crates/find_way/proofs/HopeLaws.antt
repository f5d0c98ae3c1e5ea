-- What the code holds of a block is `all` and `stops` over its children, and of a node what it can get. Assumes nothing.
use mathlib.Core.Path.{◌≡◌, refl, sym, ◌∙◌, ap, ap₂, subst}
use mathlib.Core.Bool.{Bool, true, false, cond, ◌&&◌, ◌||◌, not, and-true, and-false, or-false, and_assoc, and_comm, or_comm}
use mathlib.Core.List.{List, [], ◌∷◌}
use Prim.Native.Nat.{ℕ, suc, ◌≤◌, ◌<◌}
use native.Mathlib.Omega.{arith}
use lib.Dec.{eqb, ltb, leb}
use lib.ListN.{get_or}
use borrow.Author.Tests.{ltb-true, ltb-false, le-leb, lt-leb, eqb-true, eqb-false}
use Rattle.lists.specs.Seq.{all}
use Rattle.lists.specs.Member.{In, here, there}
use Rattle.lists.proofs.Logic.{cases, decided}
use Rattle.plan.specs.Plan.{kind_of, kind_byte, kind, size, children}
use Rattle.plan.specs.Check.{Accepted}
use Rattle.way.specs.Can.{stops, anywhere, gets, gets_one, works_by, breaks_by, can_by, can_at, fits_of, allows_of}
use Rattle.way.proofs.CanLaws.{can-is}
use Rattle.find_way.specs.declared.Marks.{Marks}
use Rattle.find_way.specs.declared.Hope.{Hope}
use Rattle.find_way.specs.declared.Target.{Target}
use Rattle.find_way.specs.Marks.{packed, unpacked, as_and, as_or, keeps, turns, rests, plains, joined, unseen, hope_on, works_to, breaks_to, marks_by, marks_at}
use Rattle.find_way.specs.Search.{able}

pub fits-is : (a : List ℕ) (i v x : ℕ) → (leb i v || eqb x (get_or a v 0)) ≡ fits_of a i v x
unfolding fits_of
fits-is a i v x = cases (decided (ltb v i))
    (λ q. let l = ltb-true v i q in rw (q, lt-leb i v l))
    (λ q. let l = ltb-false v i q in rw (q, le-leb i v l))

pub unpack-pack : (m : Marks) → unpacked (packed m) ≡ m
unfolding packed unpacked
unpack-pack m = go m.idle m.done m.failed m.down
  where
    go : (a b c d : Bool) → unpacked (packed (record { idle = a; done = b; failed = c; down = d })) ≡ record { idle = a; done = b; failed = c; down = d }
    go true true true true = unfold packed unpacked in refl
    go true true true false = unfold packed unpacked in refl
    go true true false true = unfold packed unpacked in refl
    go true true false false = unfold packed unpacked in refl
    go true false true true = unfold packed unpacked in refl
    go true false true false = unfold packed unpacked in refl
    go true false false true = unfold packed unpacked in refl
    go true false false false = unfold packed unpacked in refl
    go false true true true = unfold packed unpacked in refl
    go false true true false = unfold packed unpacked in refl
    go false true false true = unfold packed unpacked in refl
    go false true false false = unfold packed unpacked in refl
    go false false true true = unfold packed unpacked in refl
    go false false true false = unfold packed unpacked in refl
    go false false false true = unfold packed unpacked in refl
    go false false false false = unfold packed unpacked in refl

pub pack-same : (m n : Marks) → packed m ≡ packed n → m ≡ n
pack-same m n e = sym (unpack-pack m) ∙ ap unpacked e ∙ unpack-pack n

pub marks-same : (f g : ℕ → ℕ → Bool) (v : ℕ) → ((m : ℕ) → f v m ≡ g v m) → marks_at f v ≡ marks_at g v
unfolding marks_at
marks-same f g v h = λ i. record { idle = h 0 i; done = h 3 i; failed = h 4 i; down = h 5 i }

-- decided before, by this child or behind it
onward : (t k r f g a s : Bool) → ((((t && r) || (k && g)) && a) || ((k && f) && s)) ≡ ((t && (r && a)) || (k && ((f && s) || (g && a))))
onward false false r f g a s = refl
onward true false r f g a s = rw (or-false r)
onward false true r f g a s = or_comm (g && a) (f && s)
onward true true true f g true s = refl
onward true true true f g false s = rw (and-false g, or-false (f && s))
onward true true false f g a s = or_comm (g && a) (f && s)

module _ (ok : ℕ → Bool) (k : ℕ) (seen : ℕ → Marks) where
  idle-is : (n : ℕ) (h : Hope) (cs : List ℕ) → (hope_on ok k seen n h cs).idle ≡ (h.idle && all (λ c. (seen c).idle) cs)
  unfolding hope_on joined all
  idle-is n h [] = sym (and-true h.idle)
  idle-is n h (c ∷ cs) = idle-is (suc n) _ cs ∙ and_assoc h.idle (seen c).idle (all (λ c. (seen c).idle) cs)

  plain-is : (f : ℕ → Bool) → ((c : ℕ) → plains k (seen c) ≡ f c) → (n : ℕ) (h : Hope) (cs : List ℕ) → (hope_on ok k seen n h cs).plain ≡ (h.plain && all f cs)
  unfolding hope_on joined all
  plain-is f p n h [] = sym (and-true h.plain)
  plain-is f p n h (c ∷ cs) = plain-is f p (suc n) _ cs ∙ ap (λ b. (h.plain && b) && all f cs) (p c) ∙ and_assoc h.plain (f c) (all f cs)

  module _ (r f : ℕ → Bool) (rest : (c : ℕ) → rests k (seen c) ≡ r c) (stay : (c : ℕ) → keeps k (seen c) ≡ f c) where
    turn_is : (ok' g : ℕ → Bool) → ((c n : ℕ) → turns k (ok n) (seen c) ≡ (g c && ok' n)) →
        (n : ℕ) (h : Hope) (cs : List ℕ) → (hope_on ok k seen n h cs).turn ≡ ((h.turn && all r cs) || (h.keep && stops ok' f g r n cs))
    unfolding hope_on joined all stops
    turn_is ok' g t n h [] = sym (rw (and-true h.turn, and-false h.keep, or-false h.turn))
    turn_is ok' g t n h (c ∷ cs) = turn_is ok' g t (suc n) _ cs
        ∙ (λ i. (((h.turn && rest c i) || (h.keep && t c (suc n) i)) && all r cs) || ((h.keep && stay c i) && stops ok' f g r (suc n) cs))
        ∙ onward h.turn h.keep (r c) (f c) (g c && ok' (suc n)) (all r cs) (stops ok' f g r (suc n) cs)

    other-is : (n : ℕ) (h : Hope) (cs : List ℕ) → (hope_on ok k seen n h cs).other ≡ ((h.other && all r cs) || (h.keep && stops ok f (λ c. (seen c).failed) r n cs))
    unfolding hope_on joined all stops
    other-is n h [] = sym (rw (and-true h.other, and-false h.keep, or-false h.other))
    other-is n h (c ∷ cs) = other-is (suc n) _ cs
        ∙ (λ i. (((h.other && rest c i) || (h.keep && ((seen c).failed && ok (suc n)))) && all r cs) || ((h.keep && stay c i) && stops ok f (λ c. (seen c).failed) r (suc n) cs))
        ∙ onward h.other h.keep (r c) (f c) ((seen c).failed && ok (suc n)) (all r cs) (stops ok f (λ c. (seen c).failed) r (suc n) cs)

-- what is seen of the children counts, no more
pub hope-same : (ok : ℕ → Bool) (k : ℕ) (f g : ℕ → Marks) (n : ℕ) (h : Hope) (cs : List ℕ) → ((c : ℕ) → In c cs → f c ≡ g c) → hope_on ok k f n h cs ≡ hope_on ok k g n h cs
unfolding hope_on
hope-same ok k f g n h [] e = refl
hope-same ok k f g n h (c ∷ cs) e = ap (λ m. hope_on ok k f (suc n) (joined k (ok (suc n)) m h) cs) (e c (here refl)) ∙ hope-same ok k f g (suc n) _ cs (λ d i. e d (there i))

-- the kinds' bytes
by_byte : (P : ℕ → Type 0) → P 1 → P 2 → P 3 → P 4 → P 5 → P 6 → P 7 → P 8 → (k : ℕ) → 1 ≤ k → k ≤ 8 → P k
by_byte P a b c d e f g h k l m =
    at 1 l a (λ l. at 2 l b (λ l. at 3 l c (λ l. at 4 l d (λ l. at 5 l e (λ l. at 6 l f (λ l. at 7 l g (λ l. at 8 l h (λ l. absurd (omega arith)))))))))
  where
    at : (i : ℕ) → i ≤ k → P i → (suc i ≤ k → P k) → P k
    at i l x y = cases (decided (eqb k i)) (λ q. subst P (sym (eqb-true k i q)) x) (λ q. let ne : k ≡ i → ⊥ = eqb-false k i q in y (omega arith))

module _ (fits : ℕ → Bool) (can : ℕ → ℕ → Bool) (cs : List ℕ) where
  abbrev hope : ℕ → Hope
  hope k = hope_on fits k (marks_at can) 0 unseen cs

  works-is : (k : ℕ) → 1 ≤ k → k ≤ 8 → works_to k (fits 1) (hope k) ≡ works_by fits can (kind_of k) cs
  unfolding works_to works_by kind_of as_and as_or keeps turns rests plains marks_at unseen
  works-is = by_byte (λ k. works_to k (fits 1) (hope k) ≡ works_by fits can (kind_of k) cs)
      (simp or-false)
      (simp or-false (plain-is fits 2 (marks_at can) (gets can 3) (λ c. or-false (can c 3)) 0 unseen cs))
      (simp or-false (plain-is fits 3 (marks_at can) (gets can 3) (λ c. or-false (can c 3)) 0 unseen cs))
      (turn_is fits 4 (marks_at can) (gets_one can 3 4) (gets can 4) (λ c. simp or-false) (λ c. simp or-false) anywhere (gets can 3) (λ c n. simp or-false (sym (and-true (can c 3)))) 0 unseen cs)
      (turn_is fits 5 (marks_at can) (gets_one can 5 4) (gets_one can 5 4) (λ c. refl) (λ c. simp or-false) fits (gets can 3) (λ c n. refl) 0 unseen cs)
      (turn_is fits 6 (marks_at can) (gets can 0) (gets can 4) (λ c. simp or-false) (λ c. simp or-false) anywhere (gets can 3) (λ c n. simp or-false (sym (and-true (can c 3)))) 0 unseen cs)
      (turn_is fits 7 (marks_at can) (gets can 0) (gets can 0) (λ c. simp or-false) (λ c. refl) fits (gets can 3) (λ c n. refl) 0 unseen cs)
      (simp or-false (plain-is fits 8 (marks_at can) (gets can 3) (λ c. or-false (can c 3)) 0 unseen cs))

  breaks-is : (k : ℕ) → 1 ≤ k → k ≤ 8 → breaks_to k (fits 0) (fits 2) (hope k) ≡ breaks_by fits can (kind_of k) cs
  unfolding breaks_to breaks_by kind_of as_and as_or keeps turns rests plains marks_at unseen
  breaks-is = by_byte (λ k. breaks_to k (fits 0) (fits 2) (hope k) ≡ breaks_by fits can (kind_of k) cs)
      (simp or-false)
      (simp or-false (turn_is fits 2 (marks_at can) (gets can 0) (gets can 3) (λ c. simp or-false) (λ c. simp or-false) anywhere (gets can 4) (λ c n. simp or-false (sym (and-true (can c 4)))) 0 unseen cs))
      (simp or-false (turn_is fits 3 (marks_at can) (gets_one can 3 4) (gets can 3) (λ c. simp or-false) (λ c. simp or-false) anywhere (gets can 4) (λ c n. simp or-false (sym (and-true (can c 4)))) 0 unseen cs))
      (simp or-false (plain-is fits 4 (marks_at can) (gets can 4) (λ c. refl) 0 unseen cs))
      (simp or-false (ap (λ b. fits 0 && b) (plain-is fits 5 (marks_at can) (gets can 4) (λ c. refl) 0 unseen cs)))
      (simp or-false (plain-is fits 6 (marks_at can) (gets can 4) (λ c. refl) 0 unseen cs))
      (other-is fits 7 (marks_at can) (gets can 0) (gets can 0) (λ c. simp or-false) (λ c. refl) 0 unseen cs)
      (simp or-false (turn_is fits 8 (marks_at can) (gets_one can 3 4) (gets can 3) (λ c. simp or-false) (λ c. simp or-false) anywhere (gets can 4) (λ c n. simp or-false (sym (and-true (can c 4)))) 0 unseen cs))

module _ (p : List ℕ) (accepted : Accepted p) (fits : ℕ → ℕ → Bool) (w m : ℕ) (v : ℕ) (l : v < size p) where
  abbrev gettable : ℕ → ℕ → Bool
  gettable = can_at p fits (allows_of w m)

  abbrev k : ℕ
  k = kind_byte p v

  abbrev h : Hope
  h = hope_on (fits v) k (marks_at gettable) 0 unseen (children p v)

  allows-is : (n : ℕ) → (not (eqb v w) || eqb m n) ≡ allows_of w m v n
  unfolding allows_of
  allows-is n = go (eqb v w)
    where
      go : (b : Bool) → (not b || eqb m n) ≡ cond b (eqb m n) true
      go true = refl
      go false = refl

  -- one mark n
  mark-is : (n : ℕ) (b : Bool) → b ≡ can_by n (fits v) gettable (kind p v) (children p v) → (b && (not (eqb v w) || eqb m n)) ≡ gettable v n
  mark-is n b e = ap₂ ◌&&◌ e (allows-is n) ∙ and_comm (can_by n (fits v) gettable (kind p v) (children p v)) (allows_of w m v n) ∙ sym (can-is p accepted fits (allows_of w m) v n l)

  works-by : works_to k (fits v 1) h ≡ works_by (fits v) gettable (kind p v) (children p v)
  works-by = unfold kind in works-is (fits v) gettable (children p v) k (accepted.low v l) (accepted.high v l)

  breaks-by : breaks_to k (fits v 0) (fits v 2) h ≡ breaks_by (fits v) gettable (kind p v) (children p v)
  breaks-by = unfold kind in breaks-is (fits v) gettable (children p v) k (accepted.low v l) (accepted.high v l)

  -- what `finish` answers is what the node can get
  pub finish-is : marks_by k (fits v 0) (fits v 1) (fits v 2) h (not (eqb v w)) m ≡ marks_at gettable v
  unfolding marks_by marks_at can_by
  finish-is = λ i. record {
    idle = mark-is 0 h.idle (unfold unseen in idle-is (fits v) k (marks_at gettable) 0 unseen (children p v)) i;
    done = mark-is 3 _ works-by i;
    failed = mark-is 4 _ breaks-by i;
    down = mark-is 5 _ works-by i;
  }

-- what a node can get goes by its own answer and by what its children can get
pub node-same : (p : List ℕ) → Accepted p → (a b : List ℕ) (i j : ℕ) (t : Target) (v : ℕ) → v < size p → ((x : ℕ) → fits_of a i v x ≡ fits_of b j v x) →
    ((c : ℕ) → In c (children p v) → marks_at (able p a i t) c ≡ marks_at (able p b j t) c) → marks_at (able p a i t) v ≡ marks_at (able p b j t) v
node-same p ok a b i j t v l f h =
    sym (finish-is p ok (fits_of a i) t.node t.mark v l)
    ∙ (λ n. marks_by (kind_byte p v) (f 0 n) (f 1 n) (f 2 n) (hopes n) (not (eqb v t.node)) t.mark)
    ∙ finish-is p ok (fits_of b j) t.node t.mark v l
  where
    hopes : hope_on (fits_of a i v) (kind_byte p v) (marks_at (able p a i t)) 0 unseen (children p v) ≡ hope_on (fits_of b j v) (kind_byte p v) (marks_at (able p b j t)) 0 unseen (children p v)
    hopes = (λ n. hope_on (λ x. f x n) (kind_byte p v) (marks_at (able p a i t)) 0 unseen (children p v))
        ∙ hope-same (fits_of b j v) (kind_byte p v) (marks_at (able p a i t)) (marks_at (able p b j t)) 0 unseen (children p v) h
