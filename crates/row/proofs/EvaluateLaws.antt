-- A guard's shape on a row, part by part; the ways over the nodes that it names, a turn at a time; and a node's neighbour. Assumes nothing.
use Rattle.std.proofs.Common.{◌≡◌, refl, sym, ◌∙◌, Bool, true, false, ◌&&◌, ◌||◌, not, List, [], ◌∷◌, ℕ, zero, suc, pred, ◌+◌, ◌-◌, ◌≤◌, ◌<◌, arith, eq-eqb, ne_eqb, eqb-true, le-leb, eqb, take}
use borrow.Author.Tests.{eqb-false}
use Rattle.lists.specs.Seq.{all, any, keep, up_from, last_or}
use Rattle.lists.proofs.Logic.{cases, decided, clash, both}
use Rattle.lists.proofs.Members.{keep-in, up_in}
use Rattle.lists.proofs.Keep.{keep-yes, keep-no, keep_out}
use Rattle.plan.specs.Plan.{parent, children_below, children, size}
use Rattle.event.specs.Event.{Code, code_of}
use Rattle.guard.specs.Guard.{before_in}
use Rattle.guard.specs.Put.{codes_of}
use Rattle.guard.specs.Family.{in_family, family, family_parent, left_out, named_nodes, neighbour}
use Rattle.guard.specs.declared.table.Shape.{Shape}
use Rattle.guard.proofs.FamilyLaws.{before_last, family-children}
use Rattle.guard.specs.Shape.{guard_shape}
use Rattle.guard.proofs.NamedLaws.{none_out, named-family, shape-named, each-whole}
use Rattle.guard.proofs.ShapeLaws.{neighbour-start, neighbour-finish, neighbour-abort}
use Rattle.row.specs.Row.{heard_in}
use Rattle.row.specs.Evaluate.{one_holds, clause_holds, each_holds, any_holds, family_holds}

-- the children of u among the nodes from c on, of n
abbrev pub children_from : List ℕ → ℕ → ℕ → ℕ → List ℕ
children_from p u n c = keep (λ v. eqb (parent p v) u) (up_from c (n - c))

pub children-from : (p : List ℕ) (u n : ℕ) → n ≡ size p → children p u ≡ children_from p u n 1
unfolding children children_below
children-from p u n e = let q : n - 1 ≡ pred (size p) = omega arith in rw q

-- the search from node c on, with d before it, finds what the whole search finds
abbrev pub Search : List ℕ → ℕ → ℕ → ℕ → ℕ → ℕ → ℕ → Type 0
Search p u v stop n c d = before_in v (children p u) stop ≡ before_in d (children_from p u n c) stop

pub search-begin : (p : List ℕ) (u v stop n : ℕ) → n ≡ size p → Search p u v stop n 1 v
search-begin p u v stop n e = rw (children-from p u n e)

module _ (p : List ℕ) (u v stop n c d : ℕ) (rest : Search p u v stop n c d) where
  pub search-found : c < n → parent p c ≡ u → c ≡ stop → before_in v (children p u) stop ≡ d
  unfolding before_in
  search-found l k e = rest ∙ rw (keep-yes (λ x. eqb (parent p x) u) c n l (eq-eqb (parent p c) u k), eq-eqb c stop e)

  pub search-on : c < n → parent p c ≡ u → (c ≡ stop → ⊥) → Search p u v stop n (c + 1) c
  unfolding before_in
  search-on l k e = rest ∙ rw (keep-yes (λ x. eqb (parent p x) u) c n l (eq-eqb (parent p c) u k), ne_eqb c stop e)

  pub search-skip : c < n → (parent p c ≡ u → ⊥) → Search p u v stop n (c + 1) d
  search-skip l k = rest ∙ rw (keep-no (λ x. eqb (parent p x) u) c n l (ne_eqb (parent p c) u k))

  pub search-out : n ≤ c → before_in v (children p u) stop ≡ d
  unfolding before_in
  search-out l = rest ∙ rw (keep_out (λ x. eqb (parent p x) u) c n l)

-- the root is nobody's child, so the search for it ends at the last
last-child : (p : List ℕ) (u v : ℕ) → before_in v (children p u) 0 ≡ last_or v (children p u)
unfolding children children_below
last-child p u v = before_last v (children p u) 0 (λ c i e. let b = up_in 1 (pred (size p)) (keep-in (λ x. eqb (parent p x) u) (up_from 1 (pred (size p))) i).0 in omega arith)

module _ (p : List ℕ) (code v : ℕ) {u : ℕ} (is : u ≡ family_parent p (code_of code) v) (low : 1 ≤ code) (high : code ≤ 4) where
  family-whole : family p (family_parent p (code_of code) v) (left_out (code_of code) v) ≡ children p u
  family-whole = rw (← is, ← none_out code v (rw (le-leb 1 code low, le-leb code 7 (omega arith)))) (family-children p u)

  pub neighbour-before : {r stop : ℕ} → code ≡ 1 → stop ≡ v → r ≡ before_in v (children p u) stop → r ≡ neighbour (code_of code) v (family p (family_parent p (code_of code) v) (left_out (code_of code) v))
  neighbour-before e s h = h ∙ rw (s, family-whole) (sym (neighbour-start code v (children p u) e))

  pub neighbour-last : {r stop : ℕ} → (code ≡ 1 → ⊥) → stop ≡ 0 → r ≡ before_in v (children p u) stop → r ≡ neighbour (code_of code) v (family p (family_parent p (code_of code) v) (left_out (code_of code) v))
  neighbour-last e s h = h ∙ rw (s, family-whole) (last-child p u v ∙ cases (decided (eqb code 4))
      (λ f. sym (neighbour-abort code v (children p u) (eqb-true code 4 f)))
      (λ f. let n = eqb-false code 4 f in sym (neighbour-finish code v (children p u) (omega arith) (omega arith))))

take_none : (n : ℕ) → take {A = ℕ} n [] ≡ []
take_none zero = refl
take_none (suc n) = refl

module _ (row : List ℕ) (s : Shape) where
  pub one_none : (eqb s.code 0 || not (eqb s.each 0)) ≡ true → one_holds row s ≡ true
  unfolding one_holds
  one_none h = cases (decided (eqb s.code 0)) (λ e. rw e) (λ e. cases (decided (eqb s.each 0)) (λ z. clash _ (rw (e, z) at h) refl) (λ z. rw (e, z)))

  pub one-some : (eqb s.code 0 || not (eqb s.each 0)) ≡ false → one_holds row s ≡ heard_in row s.code s.node
  unfolding one_holds
  one-some h = cases (decided (eqb s.code 0)) (λ e. clash _ refl (rw e at h)) (λ e. cases (decided (eqb s.each 0)) (λ z. rw (e, z)) (λ z. clash _ refl (rw (e, z) at h)))

  pub each_free : (cs : List ℕ) → s.each ≡ 0 → each_holds row s cs ≡ true
  unfolding each_holds
  each_free cs e = rw (eq-eqb s.each 0 e)

  -- else the codes are the first of the three
  pub each-by : (cs ks : List ℕ) → (s.each ≡ 0 → ⊥) → ks ≡ codes_of s.code s.each → each_holds row s cs ≡ all (clause_holds row ks) cs
  unfolding each_holds
  each-by cs ks n e = rw (ne_eqb s.each 0 n, e)

  module _ (cs ds : List ℕ) where
    pub family-free : (eqb s.each 0 && eqb s.any 0) ≡ true → family_holds row s cs ds ≡ true
    unfolding family_holds each_holds any_holds
    family-free h = let b = (both (eqb s.each 0) (eqb s.any 0)).0 h in rw (b.0, b.1)

    -- the clauses of each fail, or the last clause decides
    pub family-fails : each_holds row s cs ≡ false → family_holds row s cs ds ≡ false
    unfolding family_holds
    family-fails e = rw e

    module _ (e : each_holds row s cs ≡ true) where
      pub family-each : s.any ≡ 0 → family_holds row s cs ds ≡ true
      unfolding family_holds any_holds
      family-each z = rw (e, eq-eqb s.any 0 z)

      pub family-any : (s.any ≡ 0 → ⊥) → family_holds row s cs ds ≡ any (heard_in row s.any) ds
      unfolding family_holds any_holds
      family-any z = rw (e, ne_eqb s.any 0 z)

-- the nodes that the guard names are the family, and all the children where each has a clause
module _ (row p : List ℕ) (c : Code) (v : ℕ) {s : Shape} (is : s ≡ guard_shape p c v) where
  each-children : each_holds row s (children p (family_parent p c v)) ≡ each_holds row s (family p (family_parent p c v) (left_out c v))
  each-children = cases (decided (eqb s.each 0))
      (λ e. let z = eqb-true _ 0 e in each_free row s _ z ∙ sym (each_free row s _ z))
      (λ e. rw (each-whole p c v is (eqb-false _ 0 e), family-children p (family_parent p c v)))

  pub family-named : (eqb s.each 0 && eqb s.any 0) ≡ false
      → family_holds row s (children p (family_parent p c v)) (family p (family_parent p c v) (left_out c v)) ≡ family_holds row s (named_nodes p c v) (named_nodes p c v)
  unfolding family_holds
  family-named h = rw (named-family p c v (shape-named p c v is h), each-children)

pub past_two : (n : ℕ) → (n ≡ 0 → ⊥) → (n ≡ 1 → ⊥) → (n ≡ 2 → ⊥) → 3 ≤ n
past_two n a b c = omega arith

-- three codes are the first n, for an n of 3 or more
pub three-codes : (k n : ℕ) → 3 ≤ n → k ∷ 4 ∷ 8 ∷ [] ≡ codes_of k n
three-codes k (suc (suc (suc n))) h = rw (take_none n)
three-codes k zero h = absurd (omega arith)
three-codes k (suc zero) h = absurd (omega arith)
three-codes k (suc (suc zero)) h = absurd (omega arith)

-- a way over the nodes: those kept from node c on say what all of them say, for each or for any
pub any-begin : (p : List ℕ) (u skip n : ℕ) → n ≡ size p → (g : ℕ → Bool) → any g (family p u skip) ≡ any g (keep (in_family p u skip) (up_from 1 (n - 1)))
unfolding family
any-begin p u skip n e g = let q : n - 1 ≡ pred (size p) = omega arith in rw q

module _ (f g : ℕ → Bool) (c n : ℕ) {whole : Bool} where
  module _ (rest : whole ≡ all g (keep f (up_from c (n - c)))) where
    pub all-fails : c < n → f c ≡ true → g c ≡ false → whole ≡ false
    unfolding all
    all-fails l k h = rest ∙ rw (keep-yes f c n l k, h)

    pub all-on : c < n → f c ≡ true → g c ≡ true → whole ≡ all g (keep f (up_from (c + 1) (n - (c + 1))))
    unfolding all
    all-on l k h = rest ∙ rw (keep-yes f c n l k, h)

    pub all-skip : c < n → f c ≡ false → whole ≡ all g (keep f (up_from (c + 1) (n - (c + 1))))
    all-skip l k = rest ∙ rw (keep-no f c n l k)

    pub all-out : n ≤ c → whole ≡ true
    unfolding all
    all-out l = rest ∙ rw (keep_out f c n l)

  module _ (rest : whole ≡ any g (keep f (up_from c (n - c)))) where
    pub any_found : c < n → f c ≡ true → g c ≡ true → whole ≡ true
    unfolding any
    any_found l k h = rest ∙ rw (keep-yes f c n l k, h)

    pub any-on : c < n → f c ≡ true → g c ≡ false → whole ≡ any g (keep f (up_from (c + 1) (n - (c + 1))))
    unfolding any
    any-on l k h = rest ∙ rw (keep-yes f c n l k, h)

    pub any-skip : c < n → f c ≡ false → whole ≡ any g (keep f (up_from (c + 1) (n - (c + 1))))
    any-skip l k = rest ∙ rw (keep-no f c n l k)

    pub any-end : n ≤ c → whole ≡ false
    unfolding any
    any-end l = rest ∙ rw (keep_out f c n l)
