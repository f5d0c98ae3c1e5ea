-- The loop that runs frames one after another: the rest says what the whole says. Assumes nothing.
use mathlib.Core.Path.{◌≡◌, refl, sym, ap, ◌∙◌}
use mathlib.Core.List.{List, [], ◌∷◌, ◌++◌, append_assoc, append-nil}
use Prim.Native.Nat.{ℕ, suc, ◌+◌, ◌*◌, ◌-◌, ◌/◌, ◌≤◌, ◌<◌}
use native.Mathlib.Numerals.{add-one}
use native.Mathlib.Omega.{arith}
use borrow.Author.Tests.{ne_eqb}
use lib.ListN.{length, get_or, take, set, length-set}
use lib.Seq.{take-suc-set, take-length}
use Rattle.event.specs.Site.{own}
use Rattle.site.specs.Verdict.{Verdict}
use Rattle.site.specs.Verdict.{verdict_number}
use Rattle.job.specs.Simulation.{Step, step_from, Simulated, simulated, simulate, replay_from, numbers_from}
use Rattle.simulation.specs.Run.{simulate_of, steps_from, steps_of, ran, run_number, run_of}

-- i frames of bs were run from st₀: the state is st, and the first i of ns are their numbers
pub record Running (p bs st₀ st ns : List ℕ) (i : ℕ) : Type 0 where
  pub long : length ns ≡ length bs / 3
  pub kept : length st ≡ length st₀
  pub within : i ≤ length bs / 3
  pub states : replay_from p (own p) st (steps_from (length bs / 3 - i) bs (3 * i)) ≡ replay_from p (own p) st₀ (steps_of bs)
  pub numbers : take i ns ++ numbers_from p (own p) st (steps_from (length bs / 3 - i) bs (3 * i)) ≡ numbers_from p (own p) st₀ (steps_of bs)

pub run_none : (p bs st ns : List ℕ) → length ns ≡ length bs / 3 → Running p bs st st ns 0
unfolding steps_of
run_none p bs st ns e = let z : length bs / 3 - 0 ≡ length bs / 3 = omega arith in record { long = e; kept = refl; within = omega arith; states = rw z; numbers = rw z }

-- the step of frame i, and those behind it
steps_next : (bs : List ℕ) (i : ℕ) → i < length bs / 3 → steps_from (length bs / 3 - i) bs (3 * i)
    ≡ step_from (get_or bs (3 * i) 0) (get_or bs (3 * i + 1) 0) (get_or bs (3 * i + 2) 0) ∷ steps_from (length bs / 3 - (i + 1)) bs (3 * (i + 1))
unfolding steps_from
steps_next bs i l =
    let k : length bs / 3 - i ≡ suc (length bs / 3 - (i + 1)) = omega arith in
    let m : 3 * i + 3 ≡ 3 * (i + 1) = omega arith in
    rw (k, m)

module _ (p bs st₀ st ns : List ℕ) (i : ℕ) (t : Running p bs st₀ st ns i) where
  pub run-turn : i < length bs / 3 → (a b c : ℕ) → a ≡ get_or bs (3 * i) 0 → b ≡ get_or bs (3 * i + 1) 0 → c ≡ get_or bs (3 * i + 2) 0 →
      (st' : List ℕ) (v : Verdict) → simulate_of p a b c st ≡ simulated st' v → (x : ℕ) → x ≡ verdict_number v → length st' ≡ length st → Running p bs st₀ st' (set ns i x) (i + 1)
  unfolding replay_from numbers_from simulate_of
  run-turn l a b c f g h st' v e₀ x n same =
      let e : simulate p (own p) st (step_from (get_or bs (3 * i) 0) (get_or bs (3 * i + 1) 0) (get_or bs (3 * i + 2) 0)) ≡ simulated st' v = rw (f, g, h) at e₀ in
      let rest : List Step = steps_from (length bs / 3 - (i + 1)) bs (3 * (i + 1)) in
      let front : take (i + 1) (set ns i x) ≡ take i ns ++ (x ∷ []) = ap (λ k. take k (set ns i x)) (add-one i) ∙ take-suc-set ns i x (omega (arith, t.long)) in
      record {
        long = length-set ns i x ∙ t.long;
        kept = same ∙ t.kept;
        within = omega arith;
        states = ap (λ (r : Simulated). replay_from p (own p) r.state rest) (sym e) ∙ ap (replay_from p (own p) st) (sym (steps_next bs i l)) ∙ t.states;
        numbers =
            ap (λ (h : List ℕ). h ++ numbers_from p (own p) st' rest) front
            ∙ append_assoc (take i ns) (x ∷ []) (numbers_from p (own p) st' rest)
            ∙ ap (λ (k : ℕ). take i ns ++ (k ∷ numbers_from p (own p) st' rest)) n
            ∙ ap (λ (r : Simulated). take i ns ++ (verdict_number r.verdict ∷ numbers_from p (own p) r.state rest)) (sym e)
            ∙ ap (λ (s : List Step). take i ns ++ numbers_from p (own p) st s) (sym (steps_next bs i l))
            ∙ t.numbers;
      }

  pub run-state : length bs / 3 ≤ i → st ≡ replay_from p (own p) st₀ (steps_of bs)
  unfolding steps_from replay_from
  run-state l = let k : length bs / 3 - i ≡ 0 = omega arith in rw k at t.states

  pub run-numbers : length bs / 3 ≤ i → ns ≡ numbers_from p (own p) st₀ (steps_of bs)
  unfolding steps_from numbers_from
  run-numbers l =
      let k : length bs / 3 - i ≡ 0 = omega arith in
      let e : i ≡ length ns = omega (arith, t.long, t.within) in
      let a : take (length ns) ns ++ [] ≡ numbers_from p (own p) st₀ (steps_of bs) = rw (k, e) at t.numbers in
      sym (append-nil ns) ∙ ap (λ l. l ++ []) (sym (take-length ns)) ∙ a

-- the whole call
module _ (p bs st ns : List ℕ) where
  pub run-refused : (n : ℕ) → n ≡ run_number p bs st ns → (n ≡ 0 → ⊥) → run_of p bs st ns ≡ ran n st ns
  unfolding run_of
  run-refused n e h = rw (ne_eqb (run_number p bs st ns) 0 (λ z. h (e ∙ z)), e)

  pub run-done : run_number p bs st ns ≡ 0 → (st' ns' : List ℕ) → st' ≡ replay_from p (own p) st (steps_of bs) → ns' ≡ numbers_from p (own p) st (steps_of bs) →
      run_of p bs st ns ≡ ran 0 st' ns'
  unfolding run_of
  run-done z st' ns' e f = rw (z, e, f)
