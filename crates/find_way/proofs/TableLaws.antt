-- The loops that fill the table: over all nodes, and up from one node. Assumes nothing.
use mathlib.Core.Path.{◌≡◌, refl, sym, ◌∙◌, ap}
use mathlib.Core.List.{List}
use Prim.Native.Nat.{ℕ, suc, ◌+◌, ◌/◌, ◌≤◌, ◌<◌}
use native.Mathlib.Omega.{arith}
use lib.Dec.{eqb}
use lib.ListN.{length, get_or, set, length-set}
use lib.Seq.{get_or-set_same, get_or-set_other}
use borrow.Author.Tests.{eqb-true, eqb-false}
use Rattle.lists.specs.Member.{In}
use Rattle.lists.proofs.Logic.{cases, decided}
use Rattle.plan.specs.Plan.{size, parent, children}
use Rattle.plan.specs.Check.{Accepted}
use Rattle.plan.specs.Under.{Under, self, up}
use Rattle.plan.proofs.AcceptedLaws.{child-between, parent-child}
use Rattle.plan.proofs.UnderLaws.{under-trans, under_low, under-below, under?, apart}
use Rattle.way.specs.Can.{fits_of, allows_of}
use Rattle.way.proofs.CanLaws.{can-under}
use Rattle.find_way.specs.declared.Target.{Target}
use Rattle.find_way.specs.Marks.{packed, marks_at}
use Rattle.find_way.specs.Search.{Given, able, Knows, KnowsAll, Knew}
use Rattle.find_way.proofs.HopeLaws.{pack-same, marks-same, node-same}

-- the table has the nodes from v on
pub record Filling (p first next a : List ℕ) (i : ℕ) (t : Target) (table : List ℕ) (v : ℕ) : Type 0 where
  pub given : Given p first next a
  pub long : length table ≡ 160
  pub high : v ≤ size p
  pub known : (w : ℕ) → v ≤ w → w < size p → Knows p a i t table w

pub fill_none : (p first next a : List ℕ) (i : ℕ) (t : Target) (table : List ℕ) → Given p first next a → length table ≡ 160 → Filling p first next a i t table (length p / 2)
unfolding size
fill_none p first next a i t table g l = record { given = g; long = l; high = omega arith; known = λ w k s. absurd (omega arith) }

module _ {p first next a : List ℕ} {i : ℕ} {t : Target} {table : List ℕ} (v : ℕ) where
  pub fill-children : Filling p first next a i t table (v + 1) → (c : ℕ) → In c (children p v) → Knows p a i t table c
  fill-children f c j = let b = child-between p f.given.accepted v j in f.known c (omega arith) b.1

  pub fill-in : Filling p first next a i t table (v + 1) → v < size p
  fill-in f = omega (arith, f.high)

  pub fill-turn : Filling p first next a i t table (v + 1) → (m : ℕ) → m ≡ packed (marks_at (able p a i t) v) → Filling p first next a i t (set table v m) v
  fill-turn f m e = record {
    given = f.given;
    long = length-set table v m ∙ f.long;
    high = omega (arith, f.high);
    known = λ w k s. cases (decided (eqb w v))
        (λ q. rw (eqb-true w v q, get_or-set_same table v m 0 (omega (arith, f.long, f.high, f.given.accepted.few))) e)
        (λ q. let ne : w ≡ v → ⊥ = eqb-false w v q in get_or-set_other table v w m 0 ne ∙ f.known w (omega arith) s);
  }

pub fill_done : {p first next a : List ℕ} {i : ℕ} {t : Target} {table : List ℕ} {v : ℕ} → Filling p first next a i t table v → v ≤ 0 → KnowsAll p a i t table
fill_done f l = record { long = f.long; each = λ w s. f.known w (omega arith) s }

-- the table has all nodes but those at v and above it, and these as they were before the answer of w changed
pub record Climbing (p first next a : List ℕ) (i : ℕ) (t : Target) (w : ℕ) (table : List ℕ) (v : ℕ) : Type 0 where
  pub given : Given p first next a
  pub within : v < size p
  pub above : Under p v w
  pub inside : w < size p
  pub was : List ℕ
  pub upto : ℕ
  pub same : (u x : ℕ) → (u ≡ w → ⊥) → fits_of was upto u x ≡ fits_of a i u x
  pub long : length table ≡ 160
  pub new : (u : ℕ) → u < size p → (Under p u v → ⊥) → Knows p a i t table u
  pub old : (u : ℕ) → u < size p → Under p u v → Knows p was upto t table u

-- what nodes that are not above w can get
off-path : (p : List ℕ) → Accepted p → (a b : List ℕ) (i j : ℕ) (t : Target) (w : ℕ) → ((u x : ℕ) → (u ≡ w → ⊥) → fits_of a i u x ≡ fits_of b j u x) →
    (u : ℕ) → u < size p → (Under p u w → ⊥) → marks_at (able p a i t) u ≡ marks_at (able p b j t) u
off-path p ok a b i j t w s u l n = marks-same _ _ u (λ m. can-under p ok (fits_of a i) (fits_of b j) (allows_of t.node t.mark) u m l (λ v k z x. s v x (λ e. n (rw e at z))))

pub climb-begin : {p first next a : List ℕ} {i : ℕ} {t : Target} {table : List ℕ} {w : ℕ} → Given p first next a → w < size p → Knew p a i t table w →
    Climbing p first next a i t w table w
climb-begin {p} {first} {next} {a} {i} {t} {table} {w} g l k = record {
  given = g;
  within = l;
  above = self refl;
  inside = l;
  was = k.was;
  upto = k.upto;
  same = k.same;
  long = k.known.long;
  new = λ u s n. k.known.each u s ∙ ap packed (off-path p g.accepted k.was a k.upto i t w k.same u s n);
  old = λ u s n. k.known.each u s;
}

module _ {p first next a : List ℕ} {i : ℕ} {t : Target} {w : ℕ} {table : List ℕ} {v : ℕ} (h : Climbing p first next a i t w table v) where
  ok : Accepted p
  ok = h.given.accepted

  pub climb-children : (c : ℕ) → In c (children p v) → Knows p a i t table c
  climb-children c j =
      let b = child-between p ok v j in
      h.new c b.1 (λ u. let k = under_low p ok c v h.within u in omega arith)

  pub climb-small : v < 160
  climb-small = omega (arith, h.within, ok.few)

  -- one node up: it can get what it could, if the child on the path can
  up_same : (v : ℕ) → v < size p → Under p v w → (v ≡ 0 → ⊥) → marks_at (able p h.was h.upto t) v ≡ marks_at (able p a i t) v →
      marks_at (able p h.was h.upto t) (parent p v) ≡ marks_at (able p a i t) (parent p v)
  up_same v l u n e =
      let b = ok.below v (omega arith) l in
      let k = under_low p ok v w h.inside u in
      let ne : parent p v ≡ w → ⊥ = λ z. omega arith in
      node-same p ok h.was a h.upto i t (parent p v) (omega arith) (λ x. h.same (parent p v) x ne)
      (λ c j. cases (decided (eqb c v)) (λ q. rw (eqb-true c v q) e)
      (λ q. off-path p ok h.was a h.upto i t w h.same c (child-between p ok (parent p v) j).1
      (λ z. apart p ok (parent p v) c v j (parent-child p ok v (omega arith) l) (eqb-false c v q) w z u)))

  path-same : (u v : ℕ) → v < size p → Under p v w → marks_at (able p h.was h.upto t) v ≡ marks_at (able p a i t) v →
      Under p u v → marks_at (able p h.was h.upto t) u ≡ marks_at (able p a i t) u
  path-same u v l o e (self q) = rw q e
  path-same u v l o e (up z b) =
      let k = ok.below v z l in
      path-same u (parent p v) (omega arith) (under-trans p (parent p v) v w (up z (self refl)) o) (up_same v l o (λ q. omega arith) e) b

  module _ (m : ℕ) (e : m ≡ packed (marks_at (able p a i t) v)) where
    -- it can get what it could: all nodes above it too
    pub climb-stop : m ≡ get_or table v 0 → KnowsAll p a i t table
    climb-stop q = record {
      long = h.long;
      each = λ u s. cases (under? p ok (suc v) u v (omega arith) h.within)
          (λ b. h.old u s b ∙ ap packed (path-same u v h.within h.above same b)) (λ b. h.new u s b);
    }
      where
        same : marks_at (able p h.was h.upto t) v ≡ marks_at (able p a i t) v
        same = pack-same _ _ (sym (h.old v h.within (self refl)) ∙ sym q ∙ e)

    here-too : (u : ℕ) → u < size p → (Under p u v → u ≡ v) → Knows p a i t (set table v m) u
    here-too u s o = cases (decided (eqb u v))
        (λ q. rw (eqb-true u v q, get_or-set_same table v m 0 (omega (arith, h.long, climb-small))) e)
        (λ q. let ne = eqb-false u v q in get_or-set_other table v u m 0 ne ∙ h.new u s (λ b. ne (o b)))

    pub climb-done : v ≡ 0 → KnowsAll p a i t (set table v m)
    climb-done z = record {
      long = length-set table v m ∙ h.long;
      each = λ u s. here-too u s (λ b. let k = under_low p ok u v h.within b in omega arith);
    }

    pub climb-less : (v ≡ 0 → ⊥) → parent p v < v
    climb-less n = ok.below v (omega arith) h.within

    pub climb-turn : (v ≡ 0 → ⊥) → (u : ℕ) → u ≡ parent p v → Climbing p first next a i t w (set table v m) u
    climb-turn n u q = rw q (record {
      given = h.given;
      within = omega (arith, h.within, climb-less n);
      above = under-trans p (parent p v) v w (up (omega arith) (self refl)) h.above;
      inside = h.inside;
      was = h.was;
      upto = h.upto;
      same = h.same;
      long = length-set table v m ∙ h.long;
      new = λ u s o. here-too u s (λ b. cases (decided (eqb u v)) (λ z. eqb-true u v z) (λ z. absurd (o (under-below p u v (eqb-false u v z) b).1)));
      old = λ u s o. get_or-set_other table v u m 0 (λ z. let k = under_low p ok u (parent p v) (omega (arith, h.within, climb-less n)) o in omega (arith, climb-less n))
          ∙ h.old u s (up (omega arith) o);
    })
