-- In a stuck state every started node has ended: where its started children have, a running node could finish or fail. Assumes nothing.
use mathlib.Core.Path.{◌≡◌, refl, ◌∙◌}
use mathlib.Core.Bool.{true, false, not, ◌||◌}
use mathlib.Core.List.{List}
use mathlib.Core.Logic.{◌⊎◌, inl, inr}
use Prim.Native.Nat.{ℕ, zero, suc, ◌+◌, ◌≤◌, ◌<◌}
use borrow.Author.Tests.{le-ltb, lt-ltb}
use native.Mathlib.Omega.{arith}
use Rattle.lists.specs.Seq.{all, any}
use Rattle.lists.specs.Member.{In}
use Rattle.lists.proofs.Logic.{cases, either, and-join, clash, decided}
use Rattle.lists.proofs.Members.{all-by, any-by}
use Rattle.lists.proofs.Points.{any_none, all-missed}
use Rattle.plan.specs.Plan.{kind_number, is_kind, size, kind, children}
use Rattle.plan.specs.declared.kinds.Kind.{Kind}
use Rattle.plan.specs.declared.kinds.Kind.TheVariants.{Task as task, Serial as serial, And as and, Or as or, Xor as xor, Contingency as contingency, Conditional as conditional, Waiting as waiting}
use Rattle.plan.specs.Check.{Accepted}
use Rattle.plan.proofs.PlanLaws.{rising-children}
use Rattle.plan.proofs.AcceptedLaws.{child-between}
use Rattle.central.specs.Mark.{Mark, idle, running, offered, committed, failed, turned_down, mark_number, is_mark}
use Rattle.central.specs.Central.{said-yes, said-no, Central, is_yes, is_no, marked, started, reached_by, of_branch, finishes_by, fails_by}
use Rattle.runs.specs.Claims.{Stuck, ended}
use Rattle.runs.proofs.Family.{chain-until, child-high, child-xor}
use Rattle.runs.proofs.Good.{Good}
use Rattle.runs.proofs.Facts.{offered-xor, down-xor, picked-mark, down-picked}
use Rattle.runs.proofs.Stuck.{Two, two-of, starts, finish-shut, fail-shut, offer-shut, is-answered}

module _ (p : List ℕ) (ok : Accepted p) (s : Central) (good : Good p s) (stuck : Stuck p s) (v : ℕ) (small : v < size p) (st : started s v ≡ true)
    (kids : (c : ℕ) → In c (children p v) → started s c ≡ true → ended s c ≡ true) where
  -- outside an xor
  plain : is_kind xor (kind p v) ≡ false → (c : ℕ) → In c (children p v) → started s c ≡ true →
      (marked s committed c ≡ true) ⊎ (marked s failed c ≡ true)
  unfolding ended
  plain x c i sc = cases ((either (marked s committed c || marked s failed c) (marked s turned_down c)).0 (kids c i sc))
      (either (marked s committed c) (marked s failed c)).0
      (λ d. clash _ (down-xor p s good c d) (child-xor p v c i ∙ x))

  -- up to the first that fails a serial's children commit, and up to the first that commits a contingency's fail
  pub serial-chain : kind p v ≡ serial → (top : ℕ) → ((c : ℕ) → In c (children p v) → c < top → marked s failed c ≡ false) →
      (c : ℕ) → In c (children p v) → c < top → marked s committed c ≡ true
  unfolding reached_by is_kind kind_number
  serial-chain k top clear c i l =
      chain-until (marked s committed) (marked s failed) (children p v) (λ d j e. plain (rw k) d j (starts p ok s stuck v d j st (rw k e)))
      top clear (suc c) c (omega arith) i l

  pub contingency-chain : kind p v ≡ contingency → (top : ℕ) → ((c : ℕ) → In c (children p v) → c < top → marked s committed c ≡ false) →
      (c : ℕ) → In c (children p v) → c < top → marked s failed c ≡ true
  unfolding reached_by is_kind kind_number
  contingency-chain k top clear c i l =
      chain-until (marked s failed) (marked s committed) (children p v)
      (λ d j e. cases (plain (rw k) d j (starts p ok s stuck v d j st (rw k e))) inr inl)
      top clear (suc c) c (omega arith) i l

  -- a picked child is committed
  pub picked-committed : (c : ℕ) → In c (children p v) → s.picked c ≡ true → marked s committed c ≡ true
  unfolding ended is_mark mark_number
  picked-committed c i e = go (s.mark c) (kids c i) (picked-mark p s good c e)
    where
      go : (m : Mark) → (not (is_mark idle m) ≡ true → (is_mark committed m || is_mark failed m || is_mark turned_down m) ≡ true) →
          (is_mark offered m || is_mark committed m) ≡ true → is_mark committed m ≡ true
      go idle k x = x
      go running k x = x
      go offered k x = k refl
      go committed k x = refl
      go failed k x = x
      go turned_down k x = x

  -- every child of an and, or, xor starts
  pub all_start : ((c : ℕ) → reached_by (kind p v) s v (children p v) c ≡ true) → (c : ℕ) → In c (children p v) → started s c ≡ true
  all_start r c i = starts p ok s stuck v c i st (r c)

  abbrev Ready : Kind → Type 0
  Ready k = (finishes_by k s v (children p v) ≡ true) ⊎ (fails_by k s v (children p v) ≡ true)

  ready-serial : kind p v ≡ serial → Ready serial
  unfolding finishes_by fails_by
  ready-serial k = cases (decided (any (marked s failed) (children p v))) inr
      (λ e. inl (all-by (marked s committed) (children p v) (λ c i.
      serial-chain k (size p) (λ d j l. any_none (marked s failed) j e) c i (child-high p v c i))))

  ready-contingency : kind p v ≡ contingency → Ready contingency
  unfolding finishes_by fails_by
  ready-contingency k = cases (decided (any (marked s committed) (children p v))) inl
      (λ e. inr (all-by (marked s failed) (children p v) (λ c i.
      contingency-chain k (size p) (λ d j l. any_none (marked s committed) j e) c i (child-high p v c i))))

  -- every child of an and, an or: it is committed or has failed
  each-ended : is_kind xor (kind p v) ≡ false → ((c : ℕ) → reached_by (kind p v) s v (children p v) c ≡ true) →
      all (λ c. marked s committed c || marked s failed c) (children p v) ≡ true
  each-ended x r = all-by (λ c. marked s committed c || marked s failed c) (children p v) (λ c i.
      (either (marked s committed c) (marked s failed c)).1 (plain x c i (all_start r c i)))

  one-failed : is_kind xor (kind p v) ≡ false → ((c : ℕ) → reached_by (kind p v) s v (children p v) c ≡ true) →
      all (marked s committed) (children p v) ≡ false → any (marked s failed) (children p v) ≡ true
  one-failed x r e =
      let m = all-missed (marked s committed) (children p v) e in
      any-by (marked s failed) m.1 (cases (plain x m.0 m.1 (all_start r m.0 m.1)) (λ h. clash _ h m.2) (λ h. h))

  ready-and : kind p v ≡ and → Ready and
  unfolding finishes_by fails_by reached_by is_kind kind_number
  ready-and k = cases (decided (all (marked s committed) (children p v))) inl (λ e. inr (one-failed (rw k) (λ c. rw k) e))

  ready-waiting : kind p v ≡ waiting → Ready waiting
  unfolding finishes_by fails_by reached_by is_kind kind_number
  ready-waiting k = cases (decided (all (marked s committed) (children p v))) inl
      (λ e. inr (and-join _ _ (each-ended (rw k) (λ c. rw k)) (one-failed (rw k) (λ c. rw k) e)))

  ready-or : kind p v ≡ or → Ready or
  unfolding finishes_by fails_by reached_by is_kind kind_number
  ready-or k = cases (decided (any (marked s committed) (children p v)))
      (λ e. inl (and-join _ _ (each-ended (rw k) (λ c. rw k)) e))
      (λ e. inr (all-by (marked s failed) (children p v) (λ c i.
      cases (plain (rw k) c i (all_start (λ d. rw k) c i)) (λ h. clash _ h (any_none (marked s committed) i e)) (λ h. h))))

  ready-xor : kind p v ≡ xor → Ready xor
  unfolding finishes_by fails_by reached_by ended
  ready-xor k = cases (decided (any (marked s committed) (children p v)))
      (λ e. inl (and-join _ _ (all-by _ (children p v) (λ c i. kids c i (all_start (λ d. rw k) c i))) e))
      (λ e. inr (all-by (marked s failed) (children p v) (λ c i. fails e c i (kids c i (all_start (λ d. rw k) c i)))))
    where
      fails : any (marked s committed) (children p v) ≡ false → (c : ℕ) → In c (children p v) →
          (marked s committed c || marked s failed c || marked s turned_down c) ≡ true → marked s failed c ≡ true
      fails e c i h = cases ((either (marked s committed c || marked s failed c) (marked s turned_down c)).0 h)
          (λ y. rw (any_none (marked s committed) i e) at y)
          (λ d. let r = down-picked p s good v c i d in clash _ (picked-committed r.0 r.1 r.2) (any_none (marked s committed) r.1 e))

  -- a conditional's child, by the answer
  first-starts : (a b : ℕ) → Two (children p v) a b → kind p v ≡ conditional → s.answer v ≡ said-yes → started s a ≡ true
  unfolding reached_by is_yes any
  first-starts a b t k e = starts p ok s stuck v a t.first st (rw (k, t.are, le-ltb a a (omega arith), le-ltb b a (omega (arith, t.rise)), e))

  second-starts : (a b : ℕ) → Two (children p v) a b → kind p v ≡ conditional → s.answer v ≡ said-no → started s b ≡ true
  unfolding reached_by is_no any
  second-starts a b t k e = starts p ok s stuck v b t.second st (rw (k, t.are, lt-ltb a b t.rise, e))

  ready-conditional : kind p v ≡ conditional → Ready conditional
  unfolding finishes_by fails_by is_kind kind_number of_branch
  ready-conditional k =
      let r = two-of (children p v) (rising-children p v) (ok.two v small k) in
      let t = r.2 in
      cases (is-answered p ok s stuck v small k st)
      (λ e. cases (plain (rw k) r.0 t.first (first-starts r.0 r.1 t k e)) (λ h. inl (rw (t.are, e) h)) (λ h. inr (rw (t.are, e) h)))
      (λ e. cases (plain (rw k) r.1 t.second (second-starts r.0 r.1 t k e)) (λ h. inl (rw (t.are, e) h)) (λ h. inr (rw (t.are, e) h)))

  ready : (k : Kind) → kind p v ≡ k → Ready k
  unfolding finishes_by
  ready task k = inl refl
  ready serial k = ready-serial k
  ready and k = ready-and k
  ready or k = ready-or k
  ready xor k = ready-xor k
  ready contingency k = ready-contingency k
  ready conditional k = ready-conditional k
  ready waiting k = ready-waiting k

  ended-now : ended s v ≡ true
  unfolding ended is_mark mark_number
  ended-now = go (s.mark v) st
      (λ r. cases (ready (kind p v) refl) (finish-shut p ok s stuck v small r) (fail-shut p ok s stuck v small r))
      (λ o. offer-shut p ok s stuck v small (offered-xor p s good v (rw o)) o)
    where
      go : (m : Mark) → not (is_mark idle m) ≡ true → (is_mark running m ≡ true → ⊥) → (is_mark offered m ≡ true → ⊥) →
          (is_mark committed m || is_mark failed m || is_mark turned_down m) ≡ true
      go idle a b c = a
      go running a b c = absurd (b refl)
      go offered a b c = absurd (c refl)
      go committed a b c = refl
      go failed a b c = refl
      go turned_down a b c = refl

module _ (p : List ℕ) (ok : Accepted p) (s : Central) (good : Good p s) (stuck : Stuck p s) where
  ended-from : (n v : ℕ) → size p ≤ v + n → v < size p → started s v ≡ true → ended s v ≡ true
  ended-from zero v h small st = absurd (omega arith)
  ended-from (suc n) v h small st =
      ended-now p ok s good stuck v small st (λ c i sc. let b = child-between p ok v i in ended-from n c (omega arith) b.1 sc)

  pub all-ended : (v : ℕ) → v < size p → started s v ≡ true → ended s v ≡ true
  all-ended v small st = ended-from (size p) v (omega arith) small st
