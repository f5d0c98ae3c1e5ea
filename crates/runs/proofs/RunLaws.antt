-- Runs one event longer; and that every run goes on to a stuck one, since an event that is allowed can be found and no run is long. Assumes nothing.
use mathlib.Core.Path.{◌≡◌, refl, ◌∙◌, subst}
use mathlib.Core.Bool.{Bool, true, false, ◌&&◌, ◌||◌}
use mathlib.Core.List.{List, [], ◌∷◌, ◌++◌, map, append_assoc, append-nil}
use mathlib.Core.Logic.{◌⊎◌, inl, inr}
use Prim.Native.Nat.{ℕ, zero, suc, ◌+◌, ◌*◌, ◌≤◌}
use lib.ListN.{length, length-append}
use native.Mathlib.Omega.{arith}
use Rattle.lists.specs.Seq.{any, up_from}
use Rattle.lists.specs.Member.{In, here, there}
use Rattle.lists.proofs.Logic.{cases, no_bool, clash, decided}
use Rattle.lists.proofs.Members.{any-by, any_at, in-up}
use Rattle.lists.proofs.Points.{in_left, in_right, any_snoc, map-in}
use Rattle.plan.specs.Plan.{size}
use Rattle.event.specs.Event.{Event, at, same, among}
use Rattle.event.proofs.CodeLaws.{codes, in-codes}
use Rattle.central.specs.Central.{Central, fresh, after, allowed, run_from, is_run, reaches}
use Rattle.runs.specs.Claims.{Stuck, RunsEnd}
use Rattle.runs.proofs.Count.{allowed-node, count}

run-append : (p : List ℕ) (s : Central) (es fs : List Event) → run_from p s (es ++ fs) ≡ (run_from p s es && run_from p (reaches s es) fs)
unfolding run_from reaches
run-append p s [] fs = refl
run-append p s (e ∷ es) fs = go (allowed p s e) (run-append p (after s e) es fs)
  where
    go : (b : Bool) → run_from p (after s e) (es ++ fs) ≡ (run_from p (after s e) es && run_from p (reaches (after s e) es) fs) →
        (b && run_from p (after s e) (es ++ fs)) ≡ (b && run_from p (after s e) es && run_from p (reaches (after s e) es) fs)
    go true h = h
    go false h = refl

pub reaches-append : (s : Central) (es fs : List Event) → reaches s (es ++ fs) ≡ reaches (reaches s es) fs
unfolding reaches
reaches-append s [] fs = refl
reaches-append s (e ∷ es) fs = reaches-append (after s e) es fs

pub run_more : (p : List ℕ) (es : List Event) (e : Event) → is_run p es ≡ true → allowed p (reaches fresh es) e ≡ true → is_run p (es ++ (e ∷ [])) ≡ true
unfolding is_run run_from
run_more p es e h a = run-append p fresh es (e ∷ []) ∙ rw (h, a)

pub among-more : (es : List Event) (e f : Event) → among (es ++ (e ∷ [])) f ≡ (among es f || same e f)
unfolding among
among-more es e f = any_snoc (λ g. same g f) es e

-- the events of nodes
node_events : List ℕ → List Event
node_events [] = []
node_events (v ∷ vs) = map (λ c. at c v) codes ++ node_events vs

event-in : (e : Event) {vs : List ℕ} → In e.node vs → In e (node_events vs)
unfolding node_events
event-in e (here {y = v} {xs = vs} q) =
    in_left (node_events vs) (subst (λ (w : ℕ). In e (map (λ c. at c w) codes)) q (map-in (λ c. at c e.node) (in-codes e.code)))
event-in e (there {y = v} {xs = vs} i) = in_right (map (λ c. at c v) codes) (event-in e i)

next-event : (p : List ℕ) (s : Central) → ((e : Event) × (allowed p s e ≡ true)) ⊎ (Stuck p s)
next-event p s = cases (decided (any (allowed p s) (node_events (up_from 0 (size p)))))
    (λ h. let r = any_at (allowed p s) (node_events (up_from 0 (size p))) h in inl (r.0, r.2))
    (λ h. inr (λ e. no_bool (allowed p s e) (λ k.
    clash _ (any-by (allowed p s) (event-in e (in-up 0 (size p) e.node (omega arith) (allowed-node p s e k))) k) h)))

module _ (p : List ℕ) where
  abbrev Ends : List Event → Type 0
  Ends es = (fs : List Event) × (is_run p (es ++ fs) ≡ true) × Stuck p (reaches fresh (es ++ fs))

  ends-here : (es : List Event) → is_run p es ≡ true → Stuck p (reaches fresh es) → Ends es
  ends-here es h stuck = ([], rw append-nil h, rw append-nil stuck)

  ends-later : (es : List Event) (e : Event) → Ends (es ++ (e ∷ [])) → Ends es
  ends-later es e r = (e ∷ r.0, rw append_assoc at r.1, rw append_assoc at r.2)

  -- n more events at most
  ends-within : (n : ℕ) (es : List Event) → is_run p es ≡ true → 5 * size p ≤ n + length es → Ends es
  ends-within zero es h l = cases (next-event p (reaches fresh es))
      (λ r. let c = count p (es ++ (r.0 ∷ [])) (run_more p es r.0 h r.1) in let d = length-append es (r.0 ∷ []) in absurd (omega arith))
      (ends-here es h)
  ends-within (suc n) es h l = cases (next-event p (reaches fresh es))
      (λ r. let d = length-append es (r.0 ∷ []) in
      ends-later es r.0 (ends-within n (es ++ (r.0 ∷ [])) (run_more p es r.0 h r.1) (omega arith)))
      (ends-here es h)

pub ends : RunsEnd
ends p es h = ends-within p (5 * size p) es h (omega arith)
