-- The points past a place dropped, slot by slot: the slots before i are as they will be, the others as they were. Assumes nothing.
use mathlib.Core.Path.{◌≡◌, refl, sym, ◌∙◌, ap, ap₂}
use mathlib.Core.Bool.{Bool, true, false, cond}
use mathlib.Core.Logic.{inl, inr}
use mathlib.Core.List.{List}
use Prim.Native.Nat.{ℕ, suc, ◌+◌, ◌*◌, ◌/◌, ◌%◌, ◌≤◌, ◌<◌}
use native.Mathlib.Omega.{arith}
use borrow.Author.Tests.{eqb-true, eqb-false}
use lib.Dec.{eqb, ltb}
use lib.ListN.{length, get_or, set, replicate, length-set, get_or-replicate}
use lib.Seq.{sets, length-sets, get_or-set_same, get_or-set_other}
use Rattle.lists.proofs.Logic.{cases, decided}
use Rattle.lists.proofs.Table.{table-by}
use Rattle.points.specs.Points.{is_past, points, dropped}
use Rattle.points.proofs.PutLaws.{sets-other, sets_same}

module _ (k : ℕ) (names₀ places₀ : List ℕ) where
  pub record Dropping (names places : List ℕ) (i : ℕ) : Type 0 where
    pub names-long : length names ≡ 128
    pub places-long : length places ≡ 16
    pub within : i ≤ 16
    pub names-done : (s b : ℕ) → s < i → b < 8 → get_or names (8 * s + b) 0 ≡ cond (is_past places₀ k s) 0 (get_or names₀ (8 * s + b) 0)
    pub names-left : (j : ℕ) → 8 * i ≤ j → get_or names j 0 ≡ get_or names₀ j 0
    pub places-done : (s : ℕ) → s < i → get_or places s 0 ≡ cond (is_past places₀ k s) 0 (get_or places₀ s 0)
    pub places-left : (s : ℕ) → i ≤ s → get_or places s 0 ≡ get_or places₀ s 0

  pub drop-none : length names₀ ≡ 128 → length places₀ ≡ 16 → Dropping names₀ places₀ 0
  drop-none n p = record {
    names-long = n;
    places-long = p;
    within = omega arith;
    names-done = λ s b l m. absurd (omega arith);
    names-left = λ j l. refl;
    places-done = λ s l. absurd (omega arith);
    places-left = λ s l. refl;
  }

  module _ (names places : List ℕ) (i : ℕ) (d : Dropping names places i) (l : i < 16) where
    past-now : is_past places k i ≡ is_past places₀ k i
    past-now = ap (ltb (suc k)) (d.places-left i (omega arith))

    -- a point that stays
    drop-stay : is_past places k i ≡ false → Dropping names places (i + 1)
    drop-stay h =
        let f : is_past places₀ k i ≡ false = sym past-now ∙ h in
        record {
          names-long = d.names-long;
          places-long = d.places-long;
          within = omega arith;
          names-done = λ s b m n. cases (decided (eqb s i))
              (λ e. let z = eqb-true s i e in rw (z, f) (d.names-left (8 * i + b) (omega arith)))
              (λ e. let z = eqb-false s i e in d.names-done s b (omega arith) n);
          names-left = λ j m. d.names-left j (omega arith);
          places-done = λ s m. cases (decided (eqb s i))
              (λ e. let z = eqb-true s i e in rw (z, f) (d.places-left i (omega arith)))
              (λ e. let z = eqb-false s i e in d.places-done s (omega arith));
          places-left = λ s m. d.places-left s (omega arith);
        }

    -- and one that goes
    drop-go : is_past places k i ≡ true → Dropping (sets names (8 * i) (replicate 8 0)) (set places i 0) (i + 1)
    drop-go h =
        let f : is_past places₀ k i ≡ true = sym past-now ∙ h in
        let none : List ℕ = replicate 8 0 in
        let nl = d.names-long in
        let pl = d.places-long in
        record {
          names-long = length-sets names (8 * i) none ∙ d.names-long;
          places-long = length-set places i 0 ∙ d.places-long;
          within = omega arith;
          names-done = λ s b m n. cases (decided (eqb s i))
              (λ e. let z = eqb-true s i e in rw (z, f) (sets_same none names (8 * i) b (omega arith) n ∙ get_or-replicate 8 b 0 0 n))
              (λ e. let z = eqb-false s i e in sets-other none names (8 * i) (8 * s + b) (inl (omega arith)) ∙ d.names-done s b (omega arith) n);
          names-left = λ j m. sets-other none names (8 * i) j (inr (omega arith)) ∙ d.names-left j (omega arith);
          places-done = λ s m. cases (decided (eqb s i))
              (λ e. let z = eqb-true s i e in rw (z, f) (get_or-set_same places i 0 0 (omega arith)))
              (λ e. let z = eqb-false s i e in get_or-set_other places i s 0 0 z ∙ d.places-done s (omega arith));
          places-left = λ s m. get_or-set_other places i s 0 0 (λ e. absurd (omega arith)) ∙ d.places-left s (omega arith);
        }

    -- a turn: b is what the code found of the slot's word
    module _ (b : Bool) (is : b ≡ is_past places k i) (names' places' : List ℕ) where
      pub turn-stay : b ≡ false → names' ≡ names → places' ≡ places → Dropping names' places' (i + 1)
      turn-stay h n p = rw (n, p) (drop-stay (sym is ∙ h))

      pub turn-go : b ≡ true → names' ≡ sets names (8 * i) (replicate 8 0) → places' ≡ set places i 0 → Dropping names' places' (i + 1)
      turn-go h n p = rw (n, p) (drop-go (sym is ∙ h))

  pub drop-done : (names places : List ℕ) (i : ℕ) → Dropping names places i → 16 ≤ i → dropped k names₀ places₀ ≡ points names places
  unfolding dropped
  drop-done names places i d l = ap₂ points
      (sym (table-by _ 128 names d.names-long (λ j m.
      let e : 8 * (j / 8) + j % 8 ≡ j = omega arith in
      ap (λ (n : ℕ). get_or names n 0) (sym e) ∙ d.names-done (j / 8) (j % 8) (omega arith) (omega arith) ∙ ap (λ (n : ℕ). cond (is_past places₀ k (j / 8)) 0 (get_or names₀ n 0)) e)))
      (sym (table-by _ 16 places d.places-long (λ s m. d.places-done s (omega arith))))
