-- Every hearer of an event has a guard that names it, is a node of the plan, and is not the event's host. Assumes nothing.
use mathlib.Core.Path.{◌≡◌, refl, sym, ◌∙◌}
use mathlib.Core.Bool.{true, false, cond, not}
use mathlib.Core.List.{List, [], ◌∷◌}
use Prim.Native.Nat.{ℕ, ◌<◌}
use lib.Dec.{eqb}
use lib.ListN.{take, drop}
use borrow.Author.Tests.{eqb-true, eqb-false, ne_eqb, ltb-true, lt-ltb}
use native.Mathlib.Omega.{arith}
use Rattle.lists.specs.Seq.{head_or}
use Rattle.lists.specs.Member.{In, here, there}
use Rattle.lists.proofs.Logic.{cases, decided, parts}
use Rattle.lists.proofs.Members.{in-keep}
use Rattle.plan.specs.Plan.{kind_number, is_kind, size, kind, parent, children, others, above, in_xor}
use Rattle.plan.specs.declared.kinds.Kind.{Kind}
use Rattle.plan.specs.declared.kinds.Kind.TheVariants.{Task as task, Serial as serial, And as and, Or as or, Xor as xor, Contingency as contingency, Conditional as conditional, Waiting as waiting}
use Rattle.plan.specs.Check.{Accepted}
use Rattle.plan.proofs.PlanLaws.{Child, child-of, child-in, rising-children}
use Rattle.plan.proofs.AcceptedLaws.{parent_in, parent-child}
use Rattle.event.specs.Event.{Code, start, offer, commit, abort, answered-yes, answered-no, pick, down, Event, at, applies_by, applies}
use Rattle.event.specs.Site.{host_by, host_of}
use Rattle.guard.specs.Guard.{one, any_of, before_in, is_first, start_by, finish_by, abort_by, finishing, aborting, guard_by, guard}
use Rattle.plan.proofs.KindLaws.{same_kind}
use Rattle.runs.proofs.Family.{child-above, child-xor, xor-child}
use Rattle.runs.proofs.Stuck.{two-of}
use Rattle.audience.specs.Hearers.{start_hearers, end_hearers, hearers_by, hearers}
use Rattle.audience.proofs.Shapes.{NamedIn, none_in_empty, in_one, one-named, any-named, each-named, left-named, right-named}
use Rattle.audience.proofs.Next.{Follows, follows-before, not_first, next-or-last, in-first}

-- an event at node w whose guard names f
pub record Namer (p : List ℕ) (w : ℕ) (f : Event) : Type 0 where
  pub event : Event
  pub applied : applies p event ≡ true
  pub hosted : host_of p event ≡ w
  pub named : NamedIn (guard p event) f

-- the second of two
pub in-second : {cs : List ℕ} {w : ℕ} (a b : ℕ) → cs ≡ a ∷ b ∷ [] → a < b → In w (take 1 (drop 1 cs)) → In w cs × (is_first cs w ≡ false)
unfolding is_first head_or
in-second {w = w} a b e l i = rw e (go (rw e at i))
  where
    go : In w (b ∷ []) → In w (a ∷ b ∷ []) × (eqb a w ≡ false)
    go (here q) = (there (here q), ne_eqb a w (λ z. omega arith))
    go (there x) = elim x [ ]

module _ (p : List ℕ) (ok : Accepted p) where
  -- a child's start
  start-namer : (u w : ℕ) {f : Event} → In w (children p u) → NamedIn (start_by (kind p u) u (children p u) w) f → Namer p w f
  unfolding applies applies_by host_of host_by guard guard_by
  start-namer u w i n = record {
    event = at start w;
    applied = rw (lt-ltb w (size p) (child-of p u i).high);
    hosted = refl;
    named = rw (child-above p u w i, (child-of p u i).of) n;
  }

  -- a node's finish, and its abort
  finish-namer : (u : ℕ) → u < size p → {f : Event} → NamedIn (finish_by (kind p u) u (children p u)) f → Namer p u f
  unfolding applies applies_by host_of host_by guard guard_by finishing
  finish-namer u l n = cases (decided (in_xor p u))
      (λ x. record { event = at offer u; applied = rw (lt-ltb u (size p) l, x); hosted = refl; named = n })
      (λ x. record { event = at commit u; applied = rw (lt-ltb u (size p) l); hosted = refl; named = rw x n })

  abort-namer : (u : ℕ) → u < size p → {f : Event} → NamedIn (abort_by (kind p u) u (children p u)) f → Namer p u f
  unfolding applies applies_by host_of host_by guard guard_by aborting
  abort-namer u l n = record { event = at abort u; applied = rw (lt-ltb u (size p) l); hosted = refl; named = n }

  -- a child v of u
  module _ (u v : ℕ) (l : u < size p) (i : In v (children p u)) where
    abbrev cs : List ℕ
    cs = children p u

    finish-at : (k : Kind) → kind p u ≡ k → NamedIn (finish_by k u cs) (at commit v) → {w : ℕ} → w ≡ u → Namer p w (at commit v)
    finish-at k z n q = rw (q) (finish-namer u l (rw z n))

    abort-at : (k : Kind) → kind p u ≡ k → NamedIn (abort_by k u cs) (at abort v) → {w : ℕ} → w ≡ u → Namer p w (at abort v)
    abort-at k z n q = rw (q) (abort-namer u l (rw z n))

    next-at : (k : Kind) (c : Code) → kind p u ≡ k → ((w : ℕ) → start_by k u cs w ≡ cond (is_first cs w) (one start u) (one c (before_in w cs w))) →
        {w : ℕ} → Follows cs v w → Namer p w (at c v)
    next-at k c z same {w} f =
        start-namer u w f.member (rw (z, same w, not_first (rising-children p u) i f.less, follows-before (rising-children p u) i f) (one-named c v))

    commit-namer : (k : Kind) → kind p u ≡ k → {w : ℕ} → In w (end_hearers serial k u cs v) → Namer p w (at commit v)
    unfolding end_hearers is_kind kind_number finish_by start_by
    commit-namer task z j = absurd (none_in_empty j)
    commit-namer serial z {w} j = cases (next-or-last u (rising-children p u) i)
        (λ f. next-at serial commit z (λ w. refl) (rw (← in_one j) at f))
        (λ e. finish-at serial z (rw e.1 (one-named commit v)) (in_one j ∙ e.0))
    commit-namer and z j = finish-at and z (each-named (commit ∷ []) (here refl) i) (in_one j)
    commit-namer or z j = finish-at or z (left-named (any_of commit cs) (each-named (commit ∷ abort ∷ []) (here refl) i)) (in_one j)
    commit-namer xor z j = finish-at xor z (left-named (any_of commit cs) (each-named (commit ∷ abort ∷ down ∷ []) (here refl) i)) (in_one j)
    commit-namer contingency z j = finish-at contingency z (any-named commit i) (in_one j)
    commit-namer conditional z j = finish-at conditional z (any-named commit i) (in_one j)
    commit-namer waiting z j = finish-at waiting z (each-named (commit ∷ []) (here refl) i) (in_one j)

    abort-hears : (k : Kind) → kind p u ≡ k → {w : ℕ} → In w (end_hearers contingency k u cs v) → Namer p w (at abort v)
    unfolding end_hearers is_kind kind_number abort_by start_by
    abort-hears task z j = absurd (none_in_empty j)
    abort-hears serial z j = abort-at serial z (any-named abort i) (in_one j)
    abort-hears and z j = abort-at and z (any-named abort i) (in_one j)
    abort-hears or z j = abort-at or z (each-named (abort ∷ []) (here refl) i) (in_one j)
    abort-hears xor z j = abort-at xor z (each-named (abort ∷ []) (here refl) i) (in_one j)
    abort-hears contingency z {w} j = cases (next-or-last u (rising-children p u) i)
        (λ f. next-at contingency abort z (λ w. refl) (rw (← in_one j) at f))
        (λ e. abort-at contingency z (rw e.1 (one-named abort v)) (in_one j ∙ e.0))
    abort-hears conditional z j = abort-at conditional z (any-named abort i) (in_one j)
    abort-hears waiting z j = abort-at waiting z (left-named (any_of abort cs) (each-named (commit ∷ abort ∷ []) (there (here refl)) i)) (in_one j)

  -- a start
  start-hears : (v w : ℕ) (k : Kind) → kind p v ≡ k → In w (start_hearers k (children p v)) → Namer p w (at start v)
  unfolding start_hearers start_by
  start-hears v w task z j = absurd (none_in_empty j)
  start-hears v w serial z j = let r = in-first (children p v) j in start-namer v w r.0 (rw (z, r.1) (one-named start v))
  start-hears v w and z j = start-namer v w j (rw z (one-named start v))
  start-hears v w or z j = start-namer v w j (rw z (one-named start v))
  start-hears v w xor z j = start-namer v w j (rw z (one-named start v))
  start-hears v w contingency z j = let r = in-first (children p v) j in start-namer v w r.0 (rw (z, r.1) (one-named start v))
  start-hears v w conditional z j = absurd (none_in_empty j)
  start-hears v w waiting z j = start-namer v w j (rw z (one-named start v))

  yes-hears : (v w : ℕ) → kind p v ≡ conditional → In w (take 1 (children p v)) → Namer p w (at answered-yes v)
  unfolding start_by
  yes-hears v w z j = let r = in-first (children p v) j in start-namer v w r.0 (rw (z, r.1) (one-named answered-yes v))

  no-hears : (v w : ℕ) → v < size p → kind p v ≡ conditional → In w (take 1 (drop 1 (children p v))) → Namer p w (at answered-no v)
  unfolding start_by
  no-hears v w l z j =
      let t = two-of (children p v) (rising-children p v) (ok.two v l z) in
      let r = in-second t.0 t.1 t.2.are t.2.rise j in
      start-namer v w r.0 (rw (z, r.1) (one-named answered-no v))

  module _ (v : ℕ) (l : v < size p) (x : in_xor p v ≡ true) where
    abbrev up : Child p (parent p v) v
    up = xor-child p v x l

    parent-low : parent p v < size p
    parent-low = let b = ok.below v up.low l in omega arith

    parent-xor : kind p (parent p v) ≡ xor
    parent-xor = same_kind xor (kind p (parent p v)) (sym (child-xor p (parent p v) v (child-in p (parent p v) up)) ∙ x)

    offer-hears : {w : ℕ} → In w (parent p v ∷ []) → Namer p w (at offer v)
    unfolding applies applies_by host_of host_by guard guard_by
    offer-hears j = record { event = at pick v; applied = rw (lt-ltb v (size p) l, x); hosted = sym (in_one j); named = one-named offer v }

    down-hears : {w : ℕ} → In w (parent p v ∷ []) → Namer p w (at down v)
    unfolding finish_by
    down-hears j = rw (in_one j) (finish-namer (parent p v) parent-low
        (rw parent-xor (left-named (any_of commit (children p (parent p v))) (each-named (commit ∷ abort ∷ down ∷ []) (there (there (here refl))) (child-in p (parent p v) up)))))

    pick-hears : {w : ℕ} → In w (children p (parent p v)) → Namer p w (at pick v)
    unfolding applies applies_by host_of host_by guard guard_by others
    pick-hears {w} j = cases (decided (eqb v w))
        (λ k. record { event = at commit v; applied = rw (lt-ltb v (size p) l); hosted = eqb-true v w k; named = rw x (one-named pick v) })
        (λ k. let c = child-of p (parent p v) j in
        record {
          event = at down w;
          applied = rw (lt-ltb w (size p) c.high, child-xor p (parent p v) w j, ← (child-xor p (parent p v) v (child-in p (parent p v) up)), x);
          hosted = refl;
          named = right-named (one offer w) (any-named pick (in-keep (λ c. not (eqb c w)) (rw c.of (child-in p (parent p v) up)) (rw k)));
        })

  -- ALL CODES
  hears-by : (c : Code) (v : ℕ) → v < size p → applies_by c (kind p v) (in_xor p v) ≡ true → {w : ℕ} → In w (hearers_by p c v) → Namer p w (at c v)
  unfolding hearers_by applies_by above end_hearers is_kind kind_number
  hears-by start v l a {w} j = start-hears v w (kind p v) refl j
  hears-by offer v l a j = offer-hears v l a j
  hears-by commit v l a j = cases (decided (eqb v 0))
      (λ z. absurd (none_in_empty (rw z at j)))
      (λ z. let m : 0 < v = omega (arith, eqb-false v 0 z) in
      commit-namer (parent p v) v (parent_in p ok v m l) (parent-child p ok v m l) (kind p (parent p v)) refl (rw z at j))
  hears-by abort v l a j = cases (decided (eqb v 0))
      (λ z. absurd (none_in_empty (rw z at j)))
      (λ z. let m : 0 < v = omega (arith, eqb-false v 0 z) in
      abort-hears (parent p v) v (parent_in p ok v m l) (parent-child p ok v m l) (kind p (parent p v)) refl (rw z at j))
  hears-by answered-yes v l a {w} j = yes-hears v w (same_kind conditional (kind p v) a) j
  hears-by answered-no v l a {w} j = no-hears v w l (same_kind conditional (kind p v) a) j
  hears-by pick v l a j = pick-hears v l a j
  hears-by down v l a j = down-hears v l a j

  pub hears : (f : Event) → applies p f ≡ true → {w : ℕ} → In w (hearers p f) → Namer p w f
  unfolding applies hearers
  hears f a j = hears-by f.code f.node (ltb-true f.node (size p) (search parts)) (search parts) j
