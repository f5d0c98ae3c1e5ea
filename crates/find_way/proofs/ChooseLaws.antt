-- The loop that looks for a byte, and the loop over the nodes. Assumes nothing.
use mathlib.Core.Path.{◌≡◌, refl, sym, ◌∙◌, ap, subst}
use mathlib.Core.Bool.{true, false}
use mathlib.Core.List.{List}
use Prim.Native.Nat.{ℕ, ◌+◌, ◌≤◌, ◌<◌}
use native.Mathlib.Omega.{arith}
use lib.Dec.{eqb}
use lib.ListN.{length, get_or, set, length-set}
use lib.Seq.{set-set}
use borrow.Author.Tests.{eqb-true, eqb-false}
use Rattle.lists.proofs.Logic.{cases, decided}
use Rattle.plan.specs.Plan.{size}
use Rattle.plan.specs.Check.{Accepted}
use Rattle.way.specs.Way.{way, way_result, found_into}
use Rattle.way.specs.Can.{fits_of, open_at}
use Rattle.way.proofs.Greedy.{Asked, Chosen, open-some, chosen_none, chosen-turn, chosen-all, way-empty}
use Rattle.find_way.specs.declared.Target.{Target}
use Rattle.find_way.specs.Search.{Given, KnowsAll, Knew, opens, Wanted, Open, Put}
use Rattle.find_way.proofs.FrontLaws.{fits-front, opens-is}

abbrev pub asked : {p : List ℕ} {t : Target} → Accepted p → Wanted p t → Asked p t.node t.mark t.end
asked ok w = record { accepted = ok; within = w.node; three = w.end }

-- with other answers
abbrev pub given-on : {p first next a : List ℕ} (b : List ℕ) → length b ≡ length a → Given p first next a → Given p first next b
given-on b l g = record { accepted = g.accepted; linked = g.linked; answers = l ∙ g.answers }

-- bytes below b do not do; the answers are as they were but at i, and the table is right for what was fixed there before
pub record Choosing (p first next : List ℕ) (t : Target) (a₀ : List ℕ) (i : ℕ) (a table : List ℕ) (b : ℕ) : Type 0 where
  pub given : Given p first next a₀
  pub before : Open p t a₀ i
  pub long : length a ≡ length a₀
  pub same : (y : ℕ) → set a i y ≡ set a₀ i y
  pub was : List ℕ
  pub upto : ℕ
  pub fixed-as : (v x : ℕ) → (v ≡ i → ⊥) → fits_of was upto v x ≡ fits_of a₀ i v x
  pub known : KnowsAll p was upto t table
  pub small : b < 256
  pub none : (c : ℕ) → c < b → open_at p t.node t.mark t.end (set a₀ i c) (i + 1) ≡ false

module _ {p first next : List ℕ} {t : Target} {a₀ : List ℕ} {i : ℕ} where
  pub choose-none : (table : List ℕ) → Given p first next a₀ → Open p t a₀ i → KnowsAll p a₀ i t table → Choosing p first next t a₀ i a₀ table 0
  choose-none table g o k = record { given = g; before = o; long = refl; same = λ y. refl; was = a₀; upto = i; fixed-as = λ v x n. refl; known = k; small = omega arith; none = λ c l. absurd (omega arith) }

  module _ {a table : List ℕ} {b : ℕ} (h : Choosing p first next t a₀ i a table b) where
    pub choose-long : length (set a i b) ≡ length a₀
    choose-long = length-set a i b ∙ h.long

    pub choose-given : Given p first next (set a i b)
    choose-given = given-on (set a i b) choose-long h.given

    pub choose-in : i < length a
    choose-in = omega (arith, h.long, h.given.answers, h.before.within)

    fixed-now : (v x : ℕ) → (v ≡ i → ⊥) → fits_of (set a i b) (i + 1) v x ≡ fits_of a₀ i v x
    fixed-now v x n = ap (λ z. fits_of z (i + 1) v x) (h.same b) ∙ fits-front a₀ i b v x n

    pub choose-known : Knew p (set a i b) (i + 1) t table i
    choose-known = record { was = h.was; upto = h.upto; same = λ v x n. h.fixed-as v x n ∙ sym (fixed-now v x n); known = h.known }

    -- the table after the climb
    module _ (table' : List ℕ) (k : KnowsAll p (set a i b) (i + 1) t table') where
      open_is : opens (get_or table' 0 0) t.end ≡ open_at p t.node t.mark t.end (set a₀ i b) (i + 1)
      open_is = opens-is p (set a i b) (i + 1) t table' h.given.accepted h.before.wanted k
          ∙ ap (λ z. open_at p t.node t.mark t.end z (i + 1)) (h.same b)

      module _ (no : opens (get_or table' 0 0) t.end ≡ false) where
        none-on : (c : ℕ) → c < b + 1 → open_at p t.node t.mark t.end (set a₀ i c) (i + 1) ≡ false
        none-on c l = cases (decided (eqb c b)) (λ q. rw (eqb-true c b q) (sym open_is ∙ no)) (λ q. let ne : c ≡ b → ⊥ = eqb-false c b q in h.none c (omega arith))

        pub choose-small : b + 1 < 256
        choose-small = cases (decided (eqb b 255))
            (λ q. let z = eqb-true b 255 q in
            absurd (open-some (asked h.given.accepted h.before.wanted) a₀ i h.given.answers h.before.small h.before.within h.before.goes_on (λ c l. none-on c (omega arith))))
            (λ q. let ne : b ≡ 255 → ⊥ = eqb-false b 255 q in omega (arith, h.small))

        pub choose-turn : Choosing p first next t a₀ i (set a i b) table' (b + 1)
        choose-turn = record {
          given = h.given;
          before = h.before;
          long = choose-long;
          same = λ y. set-set a i b y ∙ h.same y;
          was = set a i b;
          upto = i + 1;
          fixed-as = fixed-now;
          known = k;
          small = choose-small;
          none = none-on;
        }

      pub choose-done : opens (get_or table' 0 0) t.end ≡ true → Put p t a₀ i (set a i b)
      choose-done o = record { byte = b; small = h.small; is = h.same b; before = h.none; goes_on = sym open_is ∙ o }

pub put-long : {p : List ℕ} {t : Target} {a : List ℕ} {i : ℕ} {b : List ℕ} → Put p t a i b → length b ≡ length a
put-long {a = a} {i = i} u = ap length u.is ∙ length-set a i u.byte

-- the answers up to node i are the way's
pub record Showing (p first next : List ℕ) (t : Target) (a table : List ℕ) (i : ℕ) : Type 0 where
  pub given : Given p first next a
  pub wanted : Wanted p t
  pub chosen : Chosen (asked given.accepted wanted) a i
  pub known : KnowsAll p a i t table

module _ {p first next : List ℕ} {t : Target} {a table : List ℕ} where
  pub show-none : Given p first next a → Wanted p t → KnowsAll p a 0 t table → opens (get_or table 0 0) t.end ≡ true → Showing p first next t a table 0
  show-none g w k o = record {
    given = g;
    wanted = w;
    chosen = chosen_none (asked g.accepted w) a g.answers (sym (opens-is p a 0 t table g.accepted w k) ∙ o);
    known = k;
  }

  pub show-empty : Given p first next a → Wanted p t → KnowsAll p a 0 t table → opens (get_or table 0 0) t.end ≡ false → found_into (way p t.node t.mark t.end) a ≡ way_result 30 a
  unfolding found_into
  show-empty g w k o = rw (way-empty (asked g.accepted w) a g.answers (sym (opens-is p a 0 t table g.accepted w k) ∙ o))

module _ {p first next : List ℕ} {t : Target} {a table : List ℕ} {i : ℕ} (h : Showing p first next t a table i) where
  pub show-open : i < size p → Open p t a i
  show-open l = record { wanted = h.wanted; within = l; small = h.chosen.small; goes_on = h.chosen.goes_on }

  pub show-turn : i < size p → (b table' : List ℕ) → Put p t a i b → KnowsAll p b (i + 1) t table' → Showing p first next t b table' (i + 1)
  show-turn l b table' u k = record {
    given = given-on b (put-long u) h.given;
    wanted = h.wanted;
    chosen = subst (λ z. Chosen (asked h.given.accepted h.wanted) z (i + 1)) (sym u.is) (chosen-turn (asked h.given.accepted h.wanted) a i h.chosen l u.byte u.small u.before u.goes_on);
    known = k;
  }

  pub show-done : size p ≤ i → (a₀ : List ℕ) → found_into (way p t.node t.mark t.end) a₀ ≡ way_result 0 a
  unfolding found_into
  show-done l a₀ = rw (chosen-all (asked h.given.accepted h.wanted) a i h.chosen l)
