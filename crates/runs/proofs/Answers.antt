-- Answers that agree with a run, read off the state that it leaves. Assumes nothing.
use mathlib.Core.Path.{◌≡◌, refl, sym, ◌∙◌, ap, subst}
use mathlib.Core.Bool.{Bool, true, false, ◌||◌, cond, false≢true}
use mathlib.Core.List.{List, [], ◌∷◌}
use Prim.Native.Nat.{ℕ, suc, ◌+◌, ◌≤◌, ◌<◌}
use lib.Dec.{ltb}
use lib.ListN.{get_or-eq_default, get_or, length}
use borrow.Author.Tests.{le-ltb, lt-ltb, ltb-false, ltb-true}
use native.Mathlib.Omega.{arith}
use Rattle.lists.specs.Seq.{any, keep, table, earlier}
use Rattle.lists.specs.Member.{In, here, there, Rising, next, end}
use Rattle.lists.proofs.Logic.{cases, no_bool, either, parts, clash, decided}
use Rattle.lists.proofs.Members.{rising-above}
use Rattle.lists.proofs.Table.{table-length, table_at}
use Rattle.lists.proofs.Points.{any_none, earlier-none}
use Rattle.plan.specs.Plan.{size, kind, parent, children, in_xor}
use Rattle.plan.specs.declared.kinds.Kind.{Kind}
use Rattle.plan.specs.declared.kinds.Kind.TheVariants.{Task as task, Serial as serial, And as and, Or as or, Xor as xor, Contingency as contingency, Conditional as conditional, Waiting as waiting}
use Rattle.plan.specs.Check.{Accepted}
use Rattle.plan.proofs.KindLaws.{same_kind}
use Rattle.plan.proofs.PlanLaws.{rising-children, child-in}
use Rattle.plan.proofs.AcceptedLaws.{parent_in}
use Rattle.event.specs.Event.{Code, start, offer, commit, abort, answered-yes, answered-no, pick, at, applies_by, applies}
use Rattle.central.specs.Mark.{failed}
use Rattle.central.specs.Central.{Answer, none, said-yes, said-no, Central, fresh, is_yes, is_no, marked, reaches}
use Rattle.lists.specs.Bytes.{Bytes}
use Rattle.runs.specs.Agree.{place_of, Agrees}
use Rattle.runs.specs.Claims.{AnswersAgree}
use Rattle.runs.proofs.Said.{said_by, said, happened}
use Rattle.runs.proofs.Family.{xor-child, child-xor}
use Rattle.runs.proofs.Good.{Good, good-run}
use Rattle.runs.proofs.MarkLaws.{is_worked, failed-not-worked, worked-said}
use Rattle.runs.proofs.Facts.{picked-xor, one-picked}

-- the place, from 1 and k behind, of the first that passes f; 0 if none does
unfoldable place_from : (ℕ → Bool) → ℕ → List ℕ → ℕ
place_from f k [] = 0
place_from f k (c ∷ cs) = cond (f c) (suc k) (place_from f (suc k) cs)

unfoldable answer_number : Answer → ℕ
answer_number none = 0
answer_number said-yes = 1
answer_number said-no = 2

unfoldable answer_by : Kind → List ℕ → Central → ℕ → ℕ
answer_by task p s v = cond (marked s failed v) 2 1
answer_by serial p s v = 0
answer_by and p s v = 0
answer_by or p s v = 0
answer_by xor p s v = place_from s.picked 0 (children p v)
answer_by contingency p s v = 0
answer_by conditional p s v = answer_number (s.answer v)
answer_by waiting p s v = 0

answers_of : List ℕ → Central → List ℕ
answers_of p s = table (λ v. answer_by (kind p v) p s v) (size p)

place_none : (f : ℕ → Bool) (k : ℕ) (cs : List ℕ) → any f cs ≡ false → place_from f k cs ≡ 0
unfolding place_from any
place_none f k [] e = refl
place_none f k (c ∷ cs) e =
    let n : f c ≡ false = any_none f (here {xs = cs} refl) e in
    let m : any f cs ≡ false = rw n at e in
    rw n (place_none f (suc k) cs m)

place_at_lem : (f : ℕ → Bool) (k c : ℕ) {d : ℕ} {cs : List ℕ} → Rising d cs → In c cs → f c ≡ true → ((x : ℕ) → In x cs → f x ≡ true → x ≡ c) →
    place_from f k cs ≡ suc (k + length (earlier cs c))
unfolding place_from earlier keep
place_at_lem f k c (end {d = d}) i e only = elim i [ ]
place_at_lem f k c (next {c = y} {cs = cs} h r) i e only = cases (decided (f y))
    (λ t. let q : y ≡ c = only y (here refl) t in
    let z : length (earlier cs c) ≡ 0 = ap length (earlier-none c (omega arith) r) in
    rw (t, le-ltb y c (omega arith)) (omega arith))
    (λ t. let j = later t i in rw (t, lt-ltb y c (rising-above r j)) (place_at_lem f (suc k) c r j e (λ x g. only x (there g)) ∙ omega arith))
  where
    later : f y ≡ false → In c (y ∷ cs) → In c cs
    later t (here q) = clash _ (rw (← q) e) t
    later t (there j) = j

place-most : (f : ℕ → Bool) (k : ℕ) (cs : List ℕ) → place_from f k cs ≤ k + length cs
unfolding place_from
place-most f k [] = omega arith
place-most f k (c ∷ cs) = go (f c) (place-most f (suc k) cs)
  where
    go : (b : Bool) → place_from f (suc k) cs ≤ suc k + length cs → cond b (suc k) (place_from f (suc k) cs) ≤ k + suc (length cs)
    go true h = omega arith
    go false h = omega arith

yes-number : (t : Answer) → is_yes t ≡ true → answer_number t ≡ 1
unfolding is_yes answer_number
yes-number none h = absurd (false≢true h)
yes-number said-yes h = refl
yes-number said-no h = absurd (false≢true h)

no_number : (t : Answer) → is_no t ≡ true → answer_number t ≡ 2
unfolding is_no answer_number
no_number none h = absurd (false≢true h)
no_number said-yes h = absurd (false≢true h)
no_number said-no h = refl

module _ (p : List ℕ) (ok : Accepted p) (s : Central) (good : Good p s) where
  answer_at : (v : ℕ) → v < size p → get_or (answers_of p s) v 0 ≡ answer_by (kind p v) p s v
  unfolding answers_of
  answer_at v l = table_at (λ v. answer_by (kind p v) p s v) (size p) v l

  inside : (c : Code) (v : ℕ) → said p s (at c v) ≡ true → v < size p
  unfolding applies
  inside c v h = let k = good.known (at c v) h in ltb-true v (size p) (search parts)

  worked-inside : (v : ℕ) → (said p s (at offer v) || said p s (at commit v)) ≡ true → v < size p
  worked-inside v h = cases ((either (said p s (at offer v)) (said p s (at commit v))).0 h) (inside offer v) (inside commit v)

  task-works : (v : ℕ) → kind p v ≡ task → (said p s (at offer v) || said p s (at commit v)) ≡ true → get_or (answers_of p s) v 0 ≡ 1
  unfolding answer_by said said_by
  task-works v k h =
      let w : is_worked (s.mark v) ≡ true = worked-said (in_xor p v) (s.mark v) ∙ h in
      answer_at v (worked-inside v h) ∙ rw (k, no_bool (marked s failed v) (λ f. clash _ w (failed-not-worked (s.mark v) f)))

  task-fails : (v : ℕ) → kind p v ≡ task → said p s (at abort v) ≡ true → get_or (answers_of p s) v 0 ≡ 2
  unfolding answer_by said said_by
  task-fails v k h = answer_at v (inside abort v h) ∙ rw (k, h)

  says-yes : (v : ℕ) → said p s (at answered-yes v) ≡ true → get_or (answers_of p s) v 0 ≡ 1
  unfolding answer_by said said_by applies applies_by
  says-yes v h =
      let k = good.known (at answered-yes v) h in
      answer_at v (inside answered-yes v h) ∙ rw (same_kind conditional (kind p v) (search parts)) (yes-number (s.answer v) h)

  says-no : (v : ℕ) → said p s (at answered-no v) ≡ true → get_or (answers_of p s) v 0 ≡ 2
  unfolding answer_by said said_by applies applies_by
  says-no v h =
      let k = good.known (at answered-no v) h in
      answer_at v (inside answered-no v h) ∙ rw (same_kind conditional (kind p v) (search parts)) (no_number (s.answer v) h)

  picks : (v : ℕ) → said p s (at pick v) ≡ true → get_or (answers_of p s) (parent p v) 0 ≡ place_of p v
  unfolding answer_by said said_by place_of
  picks v h =
      let x = picked-xor p s good v h in
      let c = xor-child p v x (inside pick v h) in
      let i = child-in p (parent p v) c in
      answer_at (parent p v) (parent_in p ok v c.low c.high)
      ∙ rw (same_kind xor (kind p (parent p v)) (sym (child-xor p (parent p v) v i) ∙ x))
      (place_at_lem s.picked 0 v (rising-children p (parent p v)) i h (λ w j e. one-picked p s good (parent p v) w v j i e h) ∙ omega arith)

  unpicked : (v : ℕ) → kind p v ≡ xor → said p s (at start v) ≡ true → any (λ c. said p s (at pick c)) (children p v) ≡ false → get_or (answers_of p s) v 0 ≡ 0
  unfolding answer_by said said_by
  unpicked v k h n = answer_at v (inside start v h) ∙ rw k (place_none s.picked 0 (children p v) n)

  answers_agree : Agrees p (said p s) (answers_of p s)
  answers_agree = record {
    task-works = task-works;
    task-fails = task-fails;
    says-yes = says-yes;
    says-no = says-no;
    picks = picks;
    unpicked = unpicked;
  }

  answer-small : (k : Kind) (v : ℕ) → v < size p → answer_by k p s v < 256
  unfolding answer_by answer_number
  answer-small task v l = go (marked s failed v)
    where
      go : (b : Bool) → cond b 2 1 < 256
      go true = omega arith
      go false = omega arith
  answer-small serial v l = omega arith
  answer-small and v l = omega arith
  answer-small or v l = omega arith
  answer-small xor v l = omega (arith, place-most s.picked 0 (children p v), ok.most v l)
  answer-small contingency v l = omega arith
  answer-small conditional v l = go (s.answer v)
    where
      go : (t : Answer) → answer_number t < 256
      go none = omega arith
      go said-yes = omega arith
      go said-no = omega arith
  answer-small waiting v l = omega arith

  answers-bytes : Bytes (size p) (answers_of p s)
  unfolding answers_of
  answers-bytes =
      let n = table-length (λ v. answer_by (kind p v) p s v) (size p) in
      record {
        long = n;
        small = λ i. cases (decided (ltb i (size p)))
            (λ h. let l = ltb-true i (size p) h in subst (λ (b : ℕ). b < 256) (sym (answer_at i l)) (answer-small (kind p i) i l))
            (λ h. let o = ltb-false i (size p) h in
            subst (λ (b : ℕ). b < 256) (sym (get_or-eq_default (table (λ v. answer_by (kind p v) p s v) (size p)) 0 (omega arith))) (omega arith));
      }

pub some-agree : AnswersAgree
some-agree p ok es h =
    let s : Central = reaches fresh es in
    let good = good-run p es h in
    (answers_of p s, answers-bytes p ok s good, rw (happened p es h) (answers_agree p ok s good))
