-- What holds after every run of the central rule, and that every event keeps it. Assumes nothing.
use mathlib.Core.Path.{◌≡◌, refl, sym, ◌∙◌, ap, subst}
use mathlib.Core.Bool.{Bool, true, false, ◌&&◌, ◌||◌, cond, false≢true, or-true}
use mathlib.Core.List.{List, [], ◌∷◌}
use mathlib.Core.Logic.{◌⊎◌, inl, inr}
use Prim.Native.Nat.{ℕ}
use lib.Dec.{eqb, ltb}
use borrow.Author.Tests.{ltb-true, not-true}
use Rattle.lists.specs.Seq.{any, earlier}
use Rattle.lists.specs.Member.{In}
use Rattle.lists.proofs.Logic.{cases, either, and-join, parts, clash, decided}
use Rattle.lists.proofs.Members.{any-by}
use Rattle.lists.proofs.Points.{or-grows, all-grows, any-grows}
use Rattle.plan.specs.Plan.{size, kind, parent, children, others, above, in_xor}
use Rattle.plan.specs.declared.kinds.Kind.{Kind}
use Rattle.plan.specs.declared.kinds.Kind.TheVariants.{Task as task, Serial as serial, And as and, Or as or, Xor as xor, Contingency as contingency, Conditional as conditional, Waiting as waiting}
use Rattle.plan.proofs.PlanLaws.{child-in}
use Rattle.event.specs.Event.{start, offer, commit, abort, answered-yes, answered-no, pick, down, Event, at, same, applies_by, applies}
use Rattle.central.specs.Mark.{offered, committed, failed, turned_down}
use Rattle.central.specs.Central.{Answer, none, said-yes, said-no, Central, fresh, after, is_yes, is_no, marked, started, reached_by, may_start, of_branch, finishes_by, fails_by, allowed_by, allowed, run_from, is_run, reaches}
use Rattle.runs.proofs.Said.{said_by, said, said-after, said-fresh, same-event}
use Rattle.runs.proofs.Family.{xor-child}

-- Of the events that a state says happened: a started node was in its place, each event applies, a pick was of an offered child and the only one
-- of its parent, what committed in an xor was picked and what was turned down had a picked sibling, answers are a started node's, and what
-- finished or failed could do so and still could by its children.
pub record Good (p : List ℕ) (s : Central) : Type 0 where
  pub placed : (v : ℕ) → said p s (at start v) ≡ true → may_start p s v ≡ true
  pub known : (f : Event) → said p s f ≡ true → applies p f ≡ true
  pub pick-offered : (v : ℕ) → said p s (at pick v) ≡ true → said p s (at offer v) ≡ true
  pub commit-picked : (v : ℕ) → in_xor p v ≡ true → said p s (at commit v) ≡ true → said p s (at pick v) ≡ true
  pub down-other : (v : ℕ) → said p s (at down v) ≡ true → any (λ c. said p s (at pick c)) (others p v) ≡ true
  pub one-pick : (v w : ℕ) → said p s (at pick v) ≡ true → said p s (at pick w) ≡ true → parent p v ≡ parent p w → v ≡ w
  pub yes-started : (v : ℕ) → said p s (at answered-yes v) ≡ true → said p s (at start v) ≡ true
  pub no-started : (v : ℕ) → said p s (at answered-no v) ≡ true → said p s (at start v) ≡ true
  pub offer-held : (v : ℕ) → said p s (at offer v) ≡ true → finishes_by (kind p v) s v (children p v) ≡ true
  pub commit-held : (v : ℕ) → said p s (at commit v) ≡ true → finishes_by (kind p v) s v (children p v) ≡ true
  pub abort-held : (v : ℕ) → said p s (at abort v) ≡ true → fails_by (kind p v) s v (children p v) ≡ true

-- t says all that s says
abbrev Grows : List ℕ → Central → Central → Type 0
Grows p s t = (f : Event) → said p s f ≡ true → said p t f ≡ true

branch-grows : (f g : ℕ → Bool) → ((c : ℕ) → f c ≡ true → g c ≡ true) → (a b : Answer) → (is_yes a ≡ true → is_yes b ≡ true) → (is_no a ≡ true → is_no b ≡ true) →
    (cs : List ℕ) → of_branch f a cs ≡ true → of_branch g b cs ≡ true
unfolding of_branch is_yes is_no
branch-grows f g h none b y n cs k = absurd (false≢true k)
branch-grows f g h said-yes none y n cs k = absurd (false≢true (y refl))
branch-grows f g h said-yes said-yes y n [] k = k
branch-grows f g h said-yes said-yes y n (a ∷ cs) k = h a k
branch-grows f g h said-yes said-no y n cs k = absurd (false≢true (y refl))
branch-grows f g h said-no none y n cs k = absurd (false≢true (n refl))
branch-grows f g h said-no said-yes y n cs k = absurd (false≢true (n refl))
branch-grows f g h said-no said-no y n [] k = k
branch-grows f g h said-no said-no y n (a ∷ []) k = k
branch-grows f g h said-no said-no y n (a ∷ b ∷ cs) k = h b k

module _ (p : List ℕ) (s t : Central) (grows : Grows p s t) where
  reached-grows : (k : Kind) (u : ℕ) (cs : List ℕ) (v : ℕ) → reached_by k s u cs v ≡ true → reached_by k t u cs v ≡ true
  unfolding reached_by said said_by
  reached-grows task u cs v h = h
  reached-grows serial u cs v h = all-grows _ (marked t committed) (earlier cs v) (λ c. grows (at commit c)) h
  reached-grows and u cs v h = h
  reached-grows or u cs v h = h
  reached-grows xor u cs v h = h
  reached-grows contingency u cs v h = all-grows _ (marked t failed) (earlier cs v) (λ c. grows (at abort c)) h
  reached-grows conditional u cs v h = go (any (λ c. ltb c v) cs) h
    where
      go : (b : Bool) → cond b (is_no (s.answer u)) (is_yes (s.answer u)) ≡ true → cond b (is_no (t.answer u)) (is_yes (t.answer u)) ≡ true
      go true h = grows (at answered-no u) h
      go false h = grows (at answered-yes u) h
  reached-grows waiting u cs v h = h

  place-grows : (v : ℕ) → may_start p s v ≡ true → may_start p t v ≡ true
  unfolding may_start said said_by
  place-grows v h = go (eqb v 0) h
    where
      go : (b : Bool) → cond b true (started s (parent p v) && reached_by (above p v) s (parent p v) (children p (parent p v)) v) ≡ true →
          cond b true (started t (parent p v) && reached_by (above p v) t (parent p v) (children p (parent p v)) v) ≡ true
      go true h = refl
      go false h = and-join (started t (parent p v)) _ (grows (at start (parent p v)) (search parts)) (reached-grows (above p v) (parent p v) (children p (parent p v)) v (search parts))

  ended : (c : ℕ) → (marked s committed c || marked s failed c) ≡ true → (marked t committed c || marked t failed c) ≡ true
  unfolding said said_by
  ended c = or-grows _ _ _ _ (grows (at commit c)) (grows (at abort c))

  finishes-grows : (k : Kind) (v : ℕ) (cs : List ℕ) → finishes_by k s v cs ≡ true → finishes_by k t v cs ≡ true
  unfolding finishes_by said said_by
  finishes-grows task v cs h = refl
  finishes-grows serial v cs h = all-grows _ (marked t committed) cs (λ c. grows (at commit c)) h
  finishes-grows and v cs h = all-grows _ (marked t committed) cs (λ c. grows (at commit c)) h
  finishes-grows or v cs h = and-join _ _
      (all-grows (λ c. marked s committed c || marked s failed c) (λ c. marked t committed c || marked t failed c) cs ended (search parts))
      (any-grows (marked s committed) (marked t committed) cs (λ c. grows (at commit c)) (search parts))
  finishes-grows xor v cs h = and-join _ _
      (all-grows (λ c. marked s committed c || marked s failed c || marked s turned_down c) (λ c. marked t committed c || marked t failed c || marked t turned_down c) cs
      (λ c. or-grows _ (marked s turned_down c) _ (marked t turned_down c) (ended c) (grows (at down c))) (search parts))
      (any-grows (marked s committed) (marked t committed) cs (λ c. grows (at commit c)) (search parts))
  finishes-grows contingency v cs h = any-grows _ (marked t committed) cs (λ c. grows (at commit c)) h
  finishes-grows conditional v cs h =
      branch-grows (marked s committed) (marked t committed) (λ c. grows (at commit c)) (s.answer v) (t.answer v)
      (grows (at answered-yes v)) (grows (at answered-no v)) cs h
  finishes-grows waiting v cs h = all-grows _ (marked t committed) cs (λ c. grows (at commit c)) h

  fails-grows : (k : Kind) (v : ℕ) (cs : List ℕ) → fails_by k s v cs ≡ true → fails_by k t v cs ≡ true
  unfolding fails_by said said_by
  fails-grows task v cs h = refl
  fails-grows serial v cs h = any-grows _ (marked t failed) cs (λ c. grows (at abort c)) h
  fails-grows and v cs h = any-grows _ (marked t failed) cs (λ c. grows (at abort c)) h
  fails-grows or v cs h = all-grows _ (marked t failed) cs (λ c. grows (at abort c)) h
  fails-grows xor v cs h = all-grows _ (marked t failed) cs (λ c. grows (at abort c)) h
  fails-grows contingency v cs h = all-grows _ (marked t failed) cs (λ c. grows (at abort c)) h
  fails-grows conditional v cs h =
      branch-grows (marked s failed) (marked t failed) (λ c. grows (at abort c)) (s.answer v) (t.answer v)
      (grows (at answered-yes v)) (grows (at answered-no v)) cs h
  fails-grows waiting v cs h = and-join _ _
      (all-grows (λ c. marked s committed c || marked s failed c) (λ c. marked t committed c || marked t failed c) cs ended (search parts))
      (any-grows (marked s failed) (marked t failed) cs (λ c. grows (at abort c)) (search parts))

module _ (p : List ℕ) (s : Central) (e : Event) (good : Good p s) (ok : allowed p s e ≡ true) where
  grown : Grows p s (after s e)
  grown f h = said-after p s e f ok ∙ rw (h, or-true)

  new : (f : Event) → said p (after s e) f ≡ true → (e ≡ f) ⊎ (said p s f ≡ true)
  new f h = cases ((either (same e f) (said p s f)).0 (sym (said-after p s e f ok) ∙ h)) (λ q. inl (same-event e f q)) (λ q. inr q)

  ok_at : (f : Event) → e ≡ f → allowed p s f ≡ true
  ok_at f q = subst (λ (g : Event). allowed p s g ≡ true) q ok

  -- a new pick, where a child of the same parent is picked
  no_second : (v w : ℕ) → allowed p s (at pick v) ≡ true → said p s (at pick w) ≡ true → parent p v ≡ parent p w → ⊥
  unfolding allowed allowed_by said said_by applies applies_by
  no_second v w a k q =
      let b = good.known (at pick w) k in
      let c = xor-child p w (search parts) (ltb-true w (size p) (search parts)) in
      let i : In w (children p (parent p v)) = child-in p (parent p v) (record { low = c.low; high = c.high; of = sym q }) in
      clash _ (any-by s.picked i k) (not-true _ (search parts))

  commit-finishes : (v : ℕ) → allowed p s (at commit v) ≡ true → finishes_by (kind p v) s v (children p v) ≡ true
  unfolding allowed allowed_by said said_by
  commit-finishes v a = cases (decided (in_xor p v))
      (λ x. let b = rw x at a in let o : marked s offered v ≡ true = search parts in good.offer-held v (rw o))
      (λ x. let b = rw x at a in search parts)

  good-after : Good p (after s e)
  unfolding allowed allowed_by said said_by
  good-after = record {
    placed = λ v h. cases (new (at start v) h)
        (λ q. let a = ok_at (at start v) q in place-grows p s (after s e) grown v (search parts))
        (λ o. place-grows p s (after s e) grown v (good.placed v o));
    known = λ f h. cases (new f h) (λ q. let a = ok_at f q in search parts) (good.known f);
    pick-offered = λ v h. grown (at offer v) (cases (new (at pick v) h)
        (λ q. let a = ok_at (at pick v) q in let o : marked s offered v ≡ true = search parts in rw o)
        (good.pick-offered v));
    commit-picked = λ v x h. grown (at pick v) (cases (new (at commit v) h)
        (λ q. let a = rw x at (ok_at (at commit v) q) in search parts)
        (good.commit-picked v x));
    down-other = λ v h. any-grows (λ c. said p s (at pick c)) (λ c. said p (after s e) (at pick c)) (others p v) (λ c. grown (at pick c)) (cases (new (at down v) h)
        (λ q. let a = ok_at (at down v) q in search parts)
        (good.down-other v));
    one-pick = λ v w h k q. cases (new (at pick v) h)
        (λ a. cases (new (at pick w) k) (λ b. ap (λ (f : Event). f.node) (sym a ∙ b)) (λ b. absurd (no_second v w (ok_at (at pick v) a) b q)))
        (λ a. cases (new (at pick w) k) (λ b. absurd (no_second w v (ok_at (at pick w) b) a (sym q))) (λ b. good.one-pick v w a b q));
    yes-started = λ v h. grown (at start v) (cases (new (at answered-yes v) h)
        (λ q. let a = ok_at (at answered-yes v) q in search parts)
        (good.yes-started v));
    no-started = λ v h. grown (at start v) (cases (new (at answered-no v) h)
        (λ q. let a = ok_at (at answered-no v) q in search parts)
        (good.no-started v));
    offer-held = λ v h. finishes-grows p s (after s e) grown (kind p v) v (children p v) (cases (new (at offer v) h)
        (λ q. let a = ok_at (at offer v) q in search parts)
        (good.offer-held v));
    commit-held = λ v h. finishes-grows p s (after s e) grown (kind p v) v (children p v) (cases (new (at commit v) h)
        (λ q. commit-finishes v (ok_at (at commit v) q))
        (good.commit-held v));
    abort-held = λ v h. fails-grows p s (after s e) grown (kind p v) v (children p v) (cases (new (at abort v) h)
        (λ q. let a = ok_at (at abort v) q in search parts)
        (good.abort-held v));
  }

good-fresh : (p : List ℕ) → Good p fresh
good-fresh p = record {
  placed = λ v h. clash _ h (said-fresh p (at start v));
  known = λ f h. clash _ h (said-fresh p f);
  pick-offered = λ v h. clash _ h (said-fresh p (at pick v));
  commit-picked = λ v x h. clash _ h (said-fresh p (at commit v));
  down-other = λ v h. clash _ h (said-fresh p (at down v));
  one-pick = λ v w h k q. clash _ h (said-fresh p (at pick v));
  yes-started = λ v h. clash _ h (said-fresh p (at answered-yes v));
  no-started = λ v h. clash _ h (said-fresh p (at answered-no v));
  offer-held = λ v h. clash _ h (said-fresh p (at offer v));
  commit-held = λ v h. clash _ h (said-fresh p (at commit v));
  abort-held = λ v h. clash _ h (said-fresh p (at abort v));
}

good-from : (p : List ℕ) (s : Central) (es : List Event) → Good p s → run_from p s es ≡ true → Good p (reaches s es)
unfolding run_from reaches
good-from p s [] g h = g
good-from p s (e ∷ es) g h = good-from p (after s e) es (good-after p s e g (search parts)) (search parts)

pub good-run : (p : List ℕ) (es : List Event) → is_run p es ≡ true → Good p (reaches fresh es)
unfolding is_run
good-run p es h = good-from p fresh es (good-fresh p) h
