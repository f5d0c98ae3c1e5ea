-- `may_end` kind by kind: the choices left open come down to `all` and `stops`. Assumes nothing.
use mathlib.Core.Path.{◌≡◌, refl, sym, ◌∙◌, ap}
use mathlib.Core.Bool.{Bool, true, false, cond, ◌&&◌, ◌||◌, not, and-true, and-false, or-false, or-true, or_comm, and-or_distrib_right}
use mathlib.Core.List.{List, [], ◌∷◌}
use mathlib.Core.Logic.{◌⊎◌, inl, inr}
use Prim.Native.Nat.{ℕ, suc, ◌+◌, ◌≤◌, ◌<◌}
use lib.Dec.{eqb}
use lib.ListN.{length}
use borrow.Author.Tests.{eqb-true, eqb-false, eq-eqb, ne_eqb, not-true}
use native.Mathlib.Omega.{arith}
use Rattle.lists.specs.Seq.{all}
use Rattle.lists.proofs.Logic.{cases, decided, clash, and_left, and_right, and-join, either, both}
use Rattle.plan.specs.Plan.{is_kind, kind_number}
use Rattle.plan.specs.declared.kinds.Kind.{Kind}
use Rattle.plan.specs.declared.kinds.Kind.TheVariants.{Task as task, Serial as serial, And as and, Or as or, Xor as xor, Contingency as contingency, Conditional as conditional, Waiting as waiting}
use Rattle.pass.specs.Pass.{Outcome, works, breaks, Tally, goes, goes_by, note, skip, nothing, one_or_two, bad_answer, bad_pick, closes, good_mark, child_mark, ending, end_of}
use Rattle.way.specs.Can.{stops, anywhere, gets, gets_one, works_by, breaks_by}
use Rattle.way.proofs.Choices.{same_end, may_end}

and-or : (a b c : Bool) → ((a && c) || (b && c)) ≡ ((a || b) && c)
and-or a b c = sym (and-or_distrib_right a b c)

turned : (a b y z : Bool) → ((a && y) || (b && z)) ≡ ((b && z) || ((a && true) && y))
turned a b y z = or_comm (a && y) (b && z) ∙ ap (λ c. (b && z) || (c && y)) (sym (and-true a))

module _ (can : ℕ → ℕ → Bool) (k : Kind) (x : ℕ) where
  -- a turn of the walk
  off : (c : ℕ) (cs : List ℕ) (t : Tally) (o : Outcome) → goes k x t ≡ false → may_end can k x (c ∷ cs) t o ≡ (can c 0 && may_end can k x cs (skip t) o)
  unfolding may_end
  off c cs t o g = rw g

  on : (c : ℕ) (cs : List ℕ) (t : Tally) (o : Outcome) (y z : Bool) → goes k x t ≡ true → may_end can k x cs (note x t works) o ≡ y → may_end can k x cs (note x t breaks) o ≡ z →
      may_end can k x (c ∷ cs) t o ≡ ((can c (child_mark k x t works) && y) || (can c 4 && z))
  unfolding may_end child_mark
  on c cs t o y z g e f = rw (g, e, f)

module _ (can : ℕ → ℕ → Bool) (x : ℕ) where
  -- serial: until one broke, and after
  serial-after : (cs : List ℕ) (t : Tally) → t.wrong ≡ 0 → t.broke ≡ true →
      (may_end can serial x cs t works ≡ false) × (may_end can serial x cs t breaks ≡ all (gets can 0) cs)
  unfolding may_end end_of ending bad_pick closes same_end all skip goes goes_by
  serial-after [] t w b = (rw (w, b), rw (w, b))
  serial-after (c ∷ cs) t w b =
      let r = serial-after cs (skip t) w b in
      let g : goes serial x t ≡ false = rw (w, b) in
      (off can serial x c cs t works g ∙ ap (λ y. can c 0 && y) r.0 ∙ and-false (can c 0), off can serial x c cs t breaks g ∙ ap (λ y. can c 0 && y) r.1)

  serial-on : (cs : List ℕ) (t : Tally) (n : ℕ) → t.wrong ≡ 0 → t.broke ≡ false →
      (may_end can serial x cs t works ≡ all (gets can 3) cs) × (may_end can serial x cs t breaks ≡ stops anywhere (gets can 3) (gets can 4) (gets can 0) n cs)
  unfolding may_end end_of ending bad_pick closes same_end all stops note goes goes_by child_mark good_mark is_kind kind_number
  serial-on [] t n w b = (rw (w, b), rw (w, b))
  serial-on (c ∷ cs) t n w b =
      let r = serial-on cs (note x t works) (suc n) w b in
      let q = serial-after cs (note x t breaks) w refl in
      let g : goes serial x t ≡ true = rw (w, b) in (
        on can serial x c cs t works (all (gets can 3) cs) false g r.0 q.0 ∙ rw (and-false (can c 4), or-false),
        on can serial x c cs t breaks _ _ g r.1 q.1 ∙ rw (and-true (can c 4)),
      )

  -- contingency: until one worked, and after
  contingency-after : (cs : List ℕ) (t : Tally) → t.wrong ≡ 0 → t.worked ≡ true →
      (may_end can contingency x cs t works ≡ all (gets can 0) cs) × (may_end can contingency x cs t breaks ≡ false)
  unfolding may_end end_of ending bad_pick closes same_end all skip goes goes_by
  contingency-after [] t w b = (rw (w, b), rw (w, b))
  contingency-after (c ∷ cs) t w b =
      let r = contingency-after cs (skip t) w b in
      let g : goes contingency x t ≡ false = rw (w, b) in
      (off can contingency x c cs t works g ∙ ap (λ y. can c 0 && y) r.0, off can contingency x c cs t breaks g ∙ ap (λ y. can c 0 && y) r.1 ∙ and-false (can c 0))

  contingency-on : (cs : List ℕ) (t : Tally) (n : ℕ) → t.wrong ≡ 0 → t.worked ≡ false →
      (may_end can contingency x cs t works ≡ stops anywhere (gets can 4) (gets can 3) (gets can 0) n cs) × (may_end can contingency x cs t breaks ≡ all (gets can 4) cs)
  unfolding may_end end_of ending bad_pick closes same_end all stops note goes goes_by child_mark good_mark is_kind kind_number
  contingency-on [] t n w b = (rw (w, b), rw (w, b))
  contingency-on (c ∷ cs) t n w b =
      let r = contingency-on cs (note x t breaks) (suc n) w b in
      let q = contingency-after cs (note x t works) w refl in
      let g : goes contingency x t ≡ true = rw (w, b) in (
        on can contingency x c cs t works _ _ g q.0 r.0 ∙ turned (can c 3) (can c 4) (all (gets can 0) cs) _,
        on can contingency x c cs t breaks false (all (gets can 4) cs) g q.1 r.1 ∙ rw (and-false (can c 3)),
      )

  -- and, waiting: until one broke, and after
  and-after : (cs : List ℕ) (t : Tally) → t.wrong ≡ 0 → t.broke ≡ true →
      (may_end can and x cs t works ≡ false) × (may_end can and x cs t breaks ≡ all (gets_one can 3 4) cs)
  unfolding may_end end_of ending bad_pick closes same_end all note goes goes_by child_mark good_mark is_kind kind_number
  and-after [] t w b = (rw (w, b), rw (w, b))
  and-after (c ∷ cs) t w b =
      let r = and-after cs (note x t works) w b in
      let q = and-after cs (note x t breaks) w refl in
      let g : goes and x t ≡ true = rw w in (
        on can and x c cs t works false false g r.0 q.0 ∙ rw (and-false (can c 3), and-false (can c 4)),
        on can and x c cs t breaks _ _ g r.1 q.1 ∙ and-or (can c 3) (can c 4) _,
      )

  and-on' : (cs : List ℕ) (t : Tally) (n : ℕ) → t.wrong ≡ 0 → t.broke ≡ false →
      (may_end can and x cs t works ≡ all (gets can 3) cs) × (may_end can and x cs t breaks ≡ stops anywhere (gets can 3) (gets can 4) (gets_one can 3 4) n cs)
  unfolding may_end end_of ending bad_pick closes same_end all stops note goes goes_by child_mark good_mark is_kind kind_number
  and-on' [] t n w b = (rw (w, b), rw (w, b))
  and-on' (c ∷ cs) t n w b =
      let r = and-on' cs (note x t works) (suc n) w b in
      let q = and-after cs (note x t breaks) w refl in
      let g : goes and x t ≡ true = rw w in (
        on can and x c cs t works (all (gets can 3) cs) false g r.0 q.0 ∙ rw (and-false (can c 4), or-false),
        on can and x c cs t breaks _ _ g r.1 q.1 ∙ rw (and-true (can c 4)),
      )

  waits : (cs : List ℕ) (t : Tally) (o : Outcome) → may_end can waiting x cs t o ≡ may_end can and x cs t o
  unfolding may_end end_of bad_pick closes goes goes_by child_mark good_mark is_kind kind_number
  waits [] t o = refl
  waits (c ∷ cs) t o = rw (waits cs (note x t works) o, waits cs (note x t breaks) o, waits cs (skip t) o)

  -- or: until one worked, and after
  or-after : (cs : List ℕ) (t : Tally) → t.wrong ≡ 0 → t.worked ≡ true →
      (may_end can or x cs t works ≡ all (gets_one can 3 4) cs) × (may_end can or x cs t breaks ≡ false)
  unfolding may_end end_of ending bad_pick closes same_end all note goes goes_by child_mark good_mark is_kind kind_number
  or-after [] t w b = (rw (w, b), rw (w, b))
  or-after (c ∷ cs) t w b =
      let r = or-after cs (note x t works) w refl in
      let q = or-after cs (note x t breaks) w b in
      let g : goes or x t ≡ true = rw w in (
        on can or x c cs t works _ _ g r.0 q.0 ∙ and-or (can c 3) (can c 4) _,
        on can or x c cs t breaks false false g r.1 q.1 ∙ rw (and-false (can c 3), and-false (can c 4)),
      )

  or-on : (cs : List ℕ) (t : Tally) (n : ℕ) → t.wrong ≡ 0 → t.worked ≡ false →
      (may_end can or x cs t works ≡ stops anywhere (gets can 4) (gets can 3) (gets_one can 3 4) n cs) × (may_end can or x cs t breaks ≡ all (gets can 4) cs)
  unfolding may_end end_of ending bad_pick closes same_end all stops note goes goes_by child_mark good_mark is_kind kind_number
  or-on [] t n w b = (rw (w, b), rw (w, b))
  or-on (c ∷ cs) t n w b =
      let r = or-on cs (note x t breaks) (suc n) w b in
      let q = or-after cs (note x t works) w refl in
      let g : goes or x t ≡ true = rw w in (
        on can or x c cs t works _ _ g q.0 r.0 ∙ turned (can c 3) (can c 4) (all (gets_one can 3 4) cs) _,
        on can or x c cs t breaks false (all (gets can 4) cs) g q.1 r.1 ∙ rw (and-false (can c 3)),
      )

  -- xor: behind the picked child all others are turned down or fail
  xor-after : (cs : List ℕ) (t : Tally) → t.wrong ≡ 0 → t.worked ≡ true → t.chosen ≡ true → x ≤ t.places → may_end can xor x cs t works ≡ all (gets_one can 5 4) cs
  unfolding may_end end_of ending bad_pick closes same_end all note goes goes_by child_mark good_mark is_kind kind_number
  xor-after [] t w b h l = rw (w, b, h)
  xor-after (c ∷ cs) t w b h l =
      let r = xor-after cs (note x t works) w refl (rw h) (omega arith) in
      let q = xor-after cs (note x t breaks) w b h (omega arith) in
      let g : goes xor x t ≡ true = rw w in
      let m : child_mark xor x t works ≡ 5 = rw (ne_eqb (suc t.places) x (λ e. omega arith)) in
      on can xor x c cs t works _ _ g r q ∙ rw m (and-or (can c 5) (can c 4) _)

  -- a place that is behind
  past : (f g h : ℕ → Bool) (n : ℕ) (cs : List ℕ) → x ≤ n → stops (λ m. eqb m x) f g h n cs ≡ false
  unfolding stops
  past f g h n [] l = refl
  past f g h n (c ∷ cs) l = rw (past f g h (suc n) cs (omega arith), ne_eqb (suc n) x (λ e. omega arith), and-false (f c), and-false (g c))

  xor-on : (cs : List ℕ) (t : Tally) → t.wrong ≡ 0 → t.chosen ≡ false →
      may_end can xor x cs t works ≡ stops (λ m. eqb m x) (gets_one can 5 4) (gets can 3) (gets_one can 5 4) t.places cs
  unfolding may_end end_of ending bad_pick closes same_end all stops note goes goes_by child_mark good_mark is_kind kind_number
  xor-on [] t w h = rw (w, h) (go t.worked (eqb x 0))
    where
      go : (b d : Bool) → same_end (ending 0 (cond (cond b false d) 0 14) b) works ≡ false
      go true d = refl
      go false true = refl
      go false false = refl
  xor-on (c ∷ cs) t w h =
      let g : goes xor x t ≡ true = rw w in
      let q = xor-on cs (note x t breaks) w h in
      cases (decided (eqb (suc t.places) x))
      (λ e. let l : suc t.places ≡ x = eqb-true _ _ e in
      let m : child_mark xor x t works ≡ 3 = rw e in
      let r = xor-after cs (note x t works) w refl (rw (h, e)) (omega arith) in
      let z = past (gets_one can 5 4) (gets can 3) (gets_one can 5 4) (suc t.places) cs (omega arith) in
      on can xor x c cs t works _ false g r (q ∙ z) ∙ rw (m, z, e, and-false (can c 4), and-false (can c 5 || can c 4), and-true (can c 3), or-false))
      (λ e. let m : child_mark xor x t works ≡ 5 = rw e in
      let r = xor-on cs (note x t works) w (rw (h, e)) in
      on can xor x c cs t works _ _ g r q ∙ rw (m, e, and-false (can c 3), or-false) (and-or (can c 5) (can c 4) _))

  -- once a child offers, the xor does not fail
  xor-offered : (cs : List ℕ) (t : Tally) → t.wrong ≡ 0 → t.worked ≡ true → may_end can xor x cs t breaks ≡ false
  unfolding may_end end_of ending bad_pick closes same_end note goes goes_by
  xor-offered [] t w b = rw (w, b) (go t.chosen)
    where
      go : (d : Bool) → same_end (ending 0 (cond d 0 14) true) breaks ≡ false
      go true = refl
      go false = refl
  xor-offered (c ∷ cs) t w b =
      let g : goes xor x t ≡ true = rw w in
      on can xor x c cs t breaks false false g (xor-offered cs (note x t works) w refl) (xor-offered cs (note x t breaks) w b)
      ∙ rw (and-false (can c (child_mark xor x t works)), and-false (can c 4))

  xor-none : (cs : List ℕ) (t : Tally) → t.wrong ≡ 0 → t.worked ≡ false → may_end can xor x cs t breaks ≡ (eqb x 0 && all (gets can 4) cs)
  unfolding may_end end_of ending bad_pick closes same_end all note goes goes_by
  xor-none [] t w b = rw (w, b) (go (eqb x 0))
    where
      go : (d : Bool) → same_end (ending 0 (cond d 0 14) false) breaks ≡ (d && true)
      go true = refl
      go false = refl
  xor-none (c ∷ cs) t w b =
      let g : goes xor x t ≡ true = rw w in
      on can xor x c cs t breaks false _ g (xor-offered cs (note x t works) w refl) (xor-none cs (note x t breaks) w b)
      ∙ rw (and-false (can c (child_mark xor x t works))) (swap (can c 4) (eqb x 0) (all (gets can 4) cs))
    where
      swap : (a b d : Bool) → (a && (b && d)) ≡ (b && (a && d))
      swap true b d = refl
      swap false true d = refl
      swap false false d = refl

-- `stops` at the first child, or later
module _ (ok f g h : ℕ → Bool) (n c : ℕ) (cs : List ℕ) where
  stops-keep : f c ≡ true → stops ok f g h (suc n) cs ≡ true → stops ok f g h n (c ∷ cs) ≡ true
  unfolding stops
  stops-keep x y = rw (x, y)

  stops-here : g c ≡ true → ok (suc n) ≡ true → all h cs ≡ true → stops ok f g h n (c ∷ cs) ≡ true
  unfolding stops
  stops-here x y z = rw (x, y, z) (or-true (f c && stops ok f g h (suc n) cs))

  pub record Here : Type 0 where
    this : g c ≡ true
    place : ok (suc n) ≡ true
    rest : all h cs ≡ true

  stops-either : stops ok f g h n (c ∷ cs) ≡ true → ((f c ≡ true) × (stops ok f g h (suc n) cs ≡ true)) ⊎ Here
  unfolding stops
  stops-either e = cases ((either _ _).0 e) (λ q. inl ((both _ _).0 q))
      (λ q. let r = (both (g c && ok (suc n)) (all h cs)).0 q in let s = (both _ _).0 r.0 in inr (record { this = s.0; place = s.1; rest = r.1 }))

module _ (fits f g h : ℕ → Bool) where
  stops-to : (n : ℕ) (cs : List ℕ) → stops fits f g h n cs ≡ true → (x : ℕ) × (n < x) × (x ≤ n + length cs) × (fits x ≡ true) × (stops (λ m. eqb m x) f g h n cs ≡ true)
  unfolding stops
  stops-to n [] e = clash false e refl
  stops-to n (c ∷ cs) e = cases (stops-either fits f g h n c cs e)
      (λ q. let r = stops-to (suc n) cs q.1 in (r.0, omega (arith, r.1), omega (arith, r.2), r.3, stops-keep (λ m. eqb m r.0) f g h n c cs q.0 r.4))
      (λ q. (suc n, omega arith, omega arith, q.place, stops-here (λ m. eqb m (suc n)) f g h n c cs q.this (eq-eqb (suc n) (suc n) refl) q.rest))

  stops-from : (x n : ℕ) (cs : List ℕ) → fits x ≡ true → stops (λ m. eqb m x) f g h n cs ≡ true → stops fits f g h n cs ≡ true
  unfolding stops
  stops-from x n [] y e = e
  stops-from x n (c ∷ cs) y e = cases (stops-either (λ m. eqb m x) f g h n c cs e)
      (λ q. stops-keep fits f g h n c cs q.0 (stops-from x (suc n) cs y q.1))
      (λ q. let l : suc n ≡ x = eqb-true _ _ q.place in stops-here fits f g h n c cs q.this (rw l y) q.rest)

-- an answer with which a node of this kind can end as o
pub record Choice (fits : ℕ → Bool) (can : ℕ → ℕ → Bool) (k : Kind) (cs : List ℕ) (o : Outcome) : Type 0 where
  pub answer : ℕ
  pub small : answer < 256
  pub fit : fits answer ≡ true
  pub right : bad_answer k answer ≡ 0
  pub reached : may_end can k answer cs nothing o ≡ true

-- the children of a node of this kind
pub record Family (k : Kind) (cs : List ℕ) : Type 0 where
  pub tasks : k ≡ task → cs ≡ []
  pub two : k ≡ conditional → length cs ≡ 2
  pub most : length cs ≤ 32

-- a conditional: its two children, and an answer of 1 or 2
module _ (can : ℕ → ℕ → Bool) (c d : ℕ) where
  branch-works : (x : ℕ) → (x ≡ 1) ⊎ (x ≡ 2) →
      may_end can conditional x (c ∷ d ∷ []) nothing works ≡ stops (λ m. eqb m x) (gets can 0) (gets can 3) (gets can 0) 0 (c ∷ d ∷ [])
  unfolding may_end end_of ending bad_pick closes same_end all stops note skip nothing goes goes_by child_mark good_mark is_kind kind_number
  branch-works x h = cases h (λ e. rw e (simp (and-true, and-false, or-false))) (λ e. rw e (simp (and-true, and-false, or-false)))

  branch-breaks : (x : ℕ) → (x ≡ 1) ⊎ (x ≡ 2) →
      may_end can conditional x (c ∷ d ∷ []) nothing breaks ≡ stops (λ m. eqb m x) (gets can 0) (gets can 4) (gets can 0) 0 (c ∷ d ∷ [])
  unfolding may_end end_of ending bad_pick closes same_end all stops note skip nothing goes goes_by child_mark good_mark is_kind kind_number
  branch-breaks x h = cases h (λ e. rw e (simp (and-true, and-false))) (λ e. rw e (simp (and-true, and-false, or-false)))

pair : (cs : List ℕ) → length cs ≡ 2 → (c : ℕ) × (d : ℕ) × (cs ≡ c ∷ d ∷ [])
pair [] h = absurd (omega arith)
pair (c ∷ []) h = absurd (omega arith)
pair (c ∷ d ∷ []) h = (c, d, refl)
pair (c ∷ d ∷ e ∷ cs) h = absurd (omega arith)

one-or-two : (x : ℕ) → 0 < x → x ≤ 2 → (x ≡ 1) ⊎ (x ≡ 2)
one-or-two x l h = cases (decided (eqb x 1)) (λ e. inl (eqb-true x 1 e)) (λ e. let n : x ≡ 1 → ⊥ = eqb-false x 1 e in inr (omega arith))

right-branch : (x : ℕ) → (x ≡ 1) ⊎ (x ≡ 2) → bad_answer conditional x ≡ 0
unfolding bad_answer one_or_two
right-branch x h = cases h (λ e. rw e) (λ e. rw e)

branch-right : (x : ℕ) → bad_answer conditional x ≡ 0 → (x ≡ 1) ⊎ (x ≡ 2)
unfolding bad_answer one_or_two
branch-right x h = cases (decided (eqb x 1)) (λ e. inl (eqb-true x 1 e))
    (λ e. cases (decided (eqb x 2)) (λ f. inr (eqb-true x 2 f)) (λ f. let z : ◌≡◌ {A = ℕ} 13 0 = rw (e, f) at h in absurd (omega arith)))

task-works : (can : ℕ → ℕ → Bool) (x : ℕ) → may_end can task x [] nothing works ≡ eqb x 1
unfolding may_end end_of ending bad_pick closes same_end nothing
task-works can x = go (eqb x 1)
  where
    go : (b : Bool) → same_end (cond b works breaks) works ≡ b
    go true = refl
    go false = refl

task-breaks : (can : ℕ → ℕ → Bool) (x : ℕ) → may_end can task x [] nothing breaks ≡ not (eqb x 1)
unfolding may_end end_of ending bad_pick closes same_end nothing
task-breaks can x = go (eqb x 1)
  where
    go : (b : Bool) → same_end (cond b works breaks) breaks ≡ not b
    go true = refl
    go false = refl

-- a task's right answer that is not 1
task-two : (x : ℕ) → bad_answer task x ≡ 0 → not (eqb x 1) ≡ true → x ≡ 2
unfolding bad_answer one_or_two
task-two x h n = cases (decided (eqb x 2)) (λ f. eqb-true x 2 f)
    (λ f. let e = not-true (eqb x 1) n in let z : ◌≡◌ {A = ℕ} 13 0 = rw (e, f) at h in absurd (omega arith))

module _ (fits : ℕ → Bool) (can : ℕ → ℕ → Bool) where
  -- a kind whose answer isn't read
  plain : (k : Kind) (cs : List ℕ) (o : Outcome) → ((x : ℕ) → bad_answer k x ≡ 0) → (free : (x : ℕ) × (x < 256) × (fits x ≡ true)) →
      ((x : ℕ) → may_end can k x cs nothing o ≡ true) → Choice fits can k cs o
  plain k cs o r free h = record { answer = free.0; small = free.1; fit = free.2; right = r free.0; reached = h free.0 }

  -- a conditional's or an xor's
  placed : (k : Kind) (cs : List ℕ) (o : Outcome) (f g h : ℕ → Bool) → Family k cs → ((x : ℕ) → 0 < x → x ≤ length cs → bad_answer k x ≡ 0) →
      ((x : ℕ) → 0 < x → x ≤ length cs → may_end can k x cs nothing o ≡ stops (λ m. eqb m x) f g h 0 cs) → stops fits f g h 0 cs ≡ true → Choice fits can k cs o
  placed k cs o f g h fam r is y =
      let q = stops-to fits f g h 0 cs y in
      let b : q.0 ≤ length cs = omega (arith, q.2) in
      record { answer = q.0; small = omega (arith, b, fam.most); fit = q.3; right = r q.0 q.1 b; reached = is q.0 q.1 b ∙ q.4 }

  module _ (cs : List ℕ) where
    branch-is : (o : Outcome) (y : ℕ) → ((c d : ℕ) (x : ℕ) → (x ≡ 1) ⊎ (x ≡ 2) → may_end can conditional x (c ∷ d ∷ []) nothing o ≡ stops (λ m. eqb m x) (gets can 0) (gets can y) (gets can 0) 0 (c ∷ d ∷ [])) →
        length cs ≡ 2 → (x : ℕ) → (x ≡ 1) ⊎ (x ≡ 2) → may_end can conditional x cs nothing o ≡ stops (λ m. eqb m x) (gets can 0) (gets can y) (gets can 0) 0 cs
    branch-is o y h l x e = let q = pair cs l in rw q.2 (h q.0 q.1 x e)

    pub works-choice : (k : Kind) → Family k cs → (x : ℕ) × (x < 256) × (fits x ≡ true) → works_by fits can k cs ≡ true → Choice fits can k cs works
    unfolding works_by bad_answer nothing
    works-choice task fam free h = record { answer = 1; small = omega arith; fit = h; right = unfold one_or_two in refl; reached = rw (fam.tasks refl) (task-works can 1) }
    works-choice serial fam free h = plain serial cs works (λ x. refl) free (λ x. (serial-on can x cs nothing 0 refl refl).0 ∙ h)
    works-choice and fam free h = plain and cs works (λ x. refl) free (λ x. (and-on' can x cs nothing 0 refl refl).0 ∙ h)
    works-choice or fam free h = plain or cs works (λ x. refl) free (λ x. (or-on can x cs nothing 0 refl refl).0 ∙ h)
    works-choice xor fam free h = placed xor cs works (gets_one can 5 4) (gets can 3) (gets_one can 5 4) fam (λ x l b. refl) (λ x l b. xor-on can x cs nothing refl refl) h
    works-choice contingency fam free h = plain contingency cs works (λ x. refl) free (λ x. (contingency-on can x cs nothing 0 refl refl).0 ∙ h)
    works-choice conditional fam free h = placed conditional cs works (gets can 0) (gets can 3) (gets can 0) fam
        (λ x l b. right-branch x (one-or-two x l (omega (arith, fam.two refl))))
        (λ x l b. branch-is works 3 (branch-works can) (fam.two refl) x (one-or-two x l (omega (arith, fam.two refl)))) h
    works-choice waiting fam free h = plain waiting cs works (λ x. refl) free (λ x. waits can x cs nothing works ∙ (and-on' can x cs nothing 0 refl refl).0 ∙ h)

    pub choice-works : (k : Kind) → Family k cs → Choice fits can k cs works → works_by fits can k cs ≡ true
    unfolding works_by nothing
    choice-works task fam o =
        let r : may_end can task o.answer [] nothing works ≡ true = rw (fam.tasks refl) at o.reached in
        let e : o.answer ≡ 1 = eqb-true o.answer 1 (sym (task-works can o.answer) ∙ r) in
        rw e at o.fit
    choice-works serial fam o = sym (serial-on can o.answer cs nothing 0 refl refl).0 ∙ o.reached
    choice-works and fam o = sym (and-on' can o.answer cs nothing 0 refl refl).0 ∙ o.reached
    choice-works or fam o = sym (or-on can o.answer cs nothing 0 refl refl).0 ∙ o.reached
    choice-works xor fam o = stops-from fits _ _ _ o.answer 0 cs o.fit (sym (xor-on can o.answer cs nothing refl refl) ∙ o.reached)
    choice-works contingency fam o = sym (contingency-on can o.answer cs nothing 0 refl refl).0 ∙ o.reached
    choice-works conditional fam o = stops-from fits _ _ _ o.answer 0 cs o.fit
        (sym (branch-is works 3 (branch-works can) (fam.two refl) o.answer (branch-right o.answer o.right)) ∙ o.reached)
    choice-works waiting fam o = sym (waits can o.answer cs nothing works ∙ (and-on' can o.answer cs nothing 0 refl refl).0) ∙ o.reached

    pub breaks-choice : (k : Kind) → Family k cs → (x : ℕ) × (x < 256) × (fits x ≡ true) → breaks_by fits can k cs ≡ true → Choice fits can k cs breaks
    unfolding breaks_by bad_answer nothing
    breaks-choice task fam free h = record { answer = 2; small = omega arith; fit = h; right = unfold one_or_two in refl; reached = rw (fam.tasks refl) (task-breaks can 2) }
    breaks-choice serial fam free h = plain serial cs breaks (λ x. refl) free (λ x. (serial-on can x cs nothing 0 refl refl).1 ∙ h)
    breaks-choice and fam free h = plain and cs breaks (λ x. refl) free (λ x. (and-on' can x cs nothing 0 refl refl).1 ∙ h)
    breaks-choice or fam free h = plain or cs breaks (λ x. refl) free (λ x. (or-on can x cs nothing 0 refl refl).1 ∙ h)
    breaks-choice xor fam free h = record { answer = 0; small = omega arith; fit = and_left _ _ h; right = refl; reached = xor-none can 0 cs nothing refl refl ∙ and_right (fits 0) _ h }
    breaks-choice contingency fam free h = plain contingency cs breaks (λ x. refl) free (λ x. (contingency-on can x cs nothing 0 refl refl).1 ∙ h)
    breaks-choice conditional fam free h = placed conditional cs breaks (gets can 0) (gets can 4) (gets can 0) fam
        (λ x l b. right-branch x (one-or-two x l (omega (arith, fam.two refl))))
        (λ x l b. branch-is breaks 4 (branch-breaks can) (fam.two refl) x (one-or-two x l (omega (arith, fam.two refl)))) h
    breaks-choice waiting fam free h = plain waiting cs breaks (λ x. refl) free (λ x. waits can x cs nothing breaks ∙ (and-on' can x cs nothing 0 refl refl).1 ∙ h)

    pub choice-breaks : (k : Kind) → Family k cs → Choice fits can k cs breaks → breaks_by fits can k cs ≡ true
    unfolding breaks_by nothing
    choice-breaks task fam o =
        let r : may_end can task o.answer [] nothing breaks ≡ true = rw (fam.tasks refl) at o.reached in
        let e : o.answer ≡ 2 = task-two o.answer o.right (sym (task-breaks can o.answer) ∙ r) in
        rw e at o.fit
    choice-breaks serial fam o = sym (serial-on can o.answer cs nothing 0 refl refl).1 ∙ o.reached
    choice-breaks and fam o = sym (and-on' can o.answer cs nothing 0 refl refl).1 ∙ o.reached
    choice-breaks or fam o = sym (or-on can o.answer cs nothing 0 refl refl).1 ∙ o.reached
    choice-breaks xor fam o =
        let h = sym (xor-none can o.answer cs nothing refl refl) ∙ o.reached in
        let e = eqb-true o.answer 0 (and_left _ _ h) in
        and-join _ _ (rw e at o.fit) (and_right (eqb o.answer 0) _ h)
    choice-breaks contingency fam o = sym (contingency-on can o.answer cs nothing 0 refl refl).1 ∙ o.reached
    choice-breaks conditional fam o = stops-from fits _ _ _ o.answer 0 cs o.fit
        (sym (branch-is breaks 4 (branch-breaks can) (fam.two refl) o.answer (branch-right o.answer o.right)) ∙ o.reached)
    choice-breaks waiting fam o = sym (waits can o.answer cs nothing breaks ∙ (and-on' can o.answer cs nothing 0 refl refl).1) ∙ o.reached
