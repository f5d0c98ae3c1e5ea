-- Which events a guard names, by its shape. Assumes nothing.
use mathlib.Core.Path.{◌≡◌, refl, ap, subst}
use mathlib.Core.List.{List, [], ◌∷◌, ◌++◌, map}
use mathlib.Core.Logic.{◌⊎◌, inl, inr}
use Prim.Native.Nat.{ℕ}
use lib.ListN.{length}
use native.Mathlib.Omega.{arith}
use Rattle.lists.specs.Member.{In, here, there}
use Rattle.lists.proofs.Logic.{cases}
use Rattle.lists.proofs.Points.{in_left, in_right, in_map, map-in}
use Rattle.event.specs.Event.{Code, Event, at}
use Rattle.guard.specs.Guard.{Guard, one, each, any_of}
use Rattle.audience.proofs.ListLaws.{in-append}

pub record NamedIn (g : Guard) (f : Event) : Type 0 where
  pub clause : List Event
  pub of : In clause g
  pub member : In f clause

none_of : {A : Type 0} {x : A} {xs : List A} → xs ≡ [] → In x xs → ⊥
none_of e (here q) = omega (arith, ap length e)
none_of e (there i) = omega (arith, ap length e)

pub none_in_empty : {A : Type 0} {x : A} → In x [] → ⊥
none_in_empty i = none_of refl i

pub in_one : {A : Type 0} {x y : A} → In x (y ∷ []) → x ≡ y
in_one {A = A} {y = y} (there x4) = elim x4 [ ]
in_one (here q) = q

-- f is k of one of cs
pub record OfAny (k : Code) (cs : List ℕ) (f : Event) : Type 0 where
  pub child : ℕ
  pub within : In child cs
  pub is : f ≡ at k child

-- f is one of the codes ks of one of cs
pub record OfEach (ks : List Code) (cs : List ℕ) (f : Event) : Type 0 where
  pub child : ℕ
  pub within : In child cs
  pub code : Code
  pub coded : In code ks
  pub is : f ≡ at code child

-- FROM A NAMED EVENT
pub named-one : {c : Code} {v : ℕ} {f : Event} → NamedIn (one c v) f → f ≡ at c v
named-one {f = f} n = in_one (subst (λ (l : List Event). In f l) (in_one n.of) n.member)

pub named-any : {k : Code} {cs : List ℕ} {f : Event} → NamedIn (any_of k cs) f → OfAny k cs f
named-any {k} {cs} {f} n =
    let r = in_map (at k) cs (subst (λ (l : List Event). In f l) (in_one n.of) n.member) in
    record { child = r.0; within = r.1; is = r.2 }

pub named-each : {ks : List Code} {cs : List ℕ} {f : Event} → NamedIn (each ks cs) f → OfEach ks cs f
named-each {ks} {cs} {f} n =
    let r = in_map (λ c. map (λ k. at k c) ks) cs n.of in
    let s = in_map (λ k. at k r.0) ks (subst (λ (l : List Event). In f l) r.2 n.member) in
    record { child = r.0; within = r.1; code = s.0; coded = s.1; is = s.2 }

pub named-append : (g h : Guard) {f : Event} → NamedIn (g ++ h) f → NamedIn g f ⊎ NamedIn h f
named-append g h n = cases (in-append g h n.of)
    (λ i. inl (record { clause = n.clause; of = i; member = n.member }))
    (λ i. inr (record { clause = n.clause; of = i; member = n.member }))

-- TO A NAMED EVENT
pub one-named : (c : Code) (v : ℕ) → NamedIn (one c v) (at c v)
one-named c v = record { clause = at c v ∷ []; of = here refl; member = here refl }

pub any-named : (k : Code) {cs : List ℕ} {c : ℕ} → In c cs → NamedIn (any_of k cs) (at k c)
any-named k {cs} i = record { clause = map (at k) cs; of = here refl; member = map-in (at k) i }

pub each-named : (ks : List Code) {k : Code} {cs : List ℕ} {c : ℕ} → In k ks → In c cs → NamedIn (each ks cs) (at k c)
each-named ks {k} {cs} {c} j i =
    record { clause = map (λ k. at k c) ks; of = map-in (λ c. map (λ k. at k c) ks) i; member = map-in (λ k. at k c) j }

pub left-named : {g : Guard} (h : Guard) {f : Event} → NamedIn g f → NamedIn (g ++ h) f
left-named h n = record { clause = n.clause; of = in_left h n.of; member = n.member }

pub right-named : (g : Guard) {h : Guard} {f : Event} → NamedIn h f → NamedIn (g ++ h) f
right-named g n = record { clause = n.clause; of = in_right g n.of; member = n.member }
