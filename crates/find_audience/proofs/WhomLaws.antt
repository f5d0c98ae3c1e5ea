-- Who hears, by the bytes of kinds. Assumes nothing.
use Rattle.std.proofs.Common.{◌≡◌, refl, sym, ◌∙◌, ap, ap₂, true, false, List, [], ◌∷◌, ◌⊎◌, ⊎_elim, ℕ, suc, ◌≤◌, ◌<◌, arith, ltb, length, take, drop, eq-eqb, le-ltb, lt-ltb}
use Rattle.lists.specs.Seq.{keep, head_or}
use Rattle.lists.proofs.Logic.{cases, decided, and_right}
use Rattle.plan.specs.Plan.{kind_number, is_kind, size, kind, parent, children, above}
use Rattle.plan.specs.declared.kinds.Kind.{Kind}
use Rattle.plan.specs.declared.kinds.Kind.TheVariants.{Task as task, Serial as serial, And as and, Or as or, Xor as xor, Contingency as contingency, Conditional as conditional, Waiting as waiting}
use Rattle.plan.specs.Check.{Accepted}
use Rattle.plan.proofs.PlanLaws.{rising-children}
use Rattle.plan.proofs.KindLaws.{same_kind as known-kind}
use Rattle.event.specs.Event.{down, code_of, event_of, applies_by, applies}
use Rattle.event.proofs.CodeLaws.{code-down}
use Rattle.runs.proofs.Stuck.{two-of}
use Rattle.audience.specs.Hearers.{later, start_hearers, end_hearers}
use Rattle.find_audience.proofs.NextLaws.{later-all}

serial-block : serial ≡ task → ⊥
unfolding kind_number
serial-block z = let q : ◌≡◌ {A = ℕ} 2 1 = ap kind_number z in omega arith

contingency-block : contingency ≡ task → ⊥
unfolding kind_number
contingency-block z = let q : ◌≡◌ {A = ℕ} 6 1 = ap kind_number z in omega arith

-- the first of some, and the second of two
first_of : (d : ℕ) (cs : List ℕ) → 0 < length cs → head_or d cs ∷ [] ≡ take 1 cs
unfolding head_or
first_of d [] l = absurd (omega arith)
first_of d (a ∷ cs) l = refl

beyond : (m k : ℕ) → m ≤ k → (k ≡ m → ⊥) → suc m ≤ k
beyond m k l n = omega arith

later_second : (x y : ℕ) → x < y → later (x ∷ y ∷ []) x ≡ y ∷ []
unfolding later keep
later_second x y l = rw (le-ltb x x (omega arith), lt-ltb x y l)

module _ (p : List ℕ) (v : ℕ) where
  none_below : later (children p v) 0 ≡ children p v
  none_below = later-all 0 (omega arith) (rising-children p v)

  first-is : (r : ℕ) → 0 < length (children p v) → r ≡ head_or v (later (children p v) 0) → r ∷ [] ≡ take 1 (children p v)
  first-is r l e = ap (λ (x : ℕ). x ∷ []) (e ∙ ap (head_or v) none_below) ∙ first_of v (children p v) l

  -- START
  module _ {k : Kind} (e : k ≡ kind p v) where
    pub start-turn : Accepted p → v < size p → (k ≡ serial) ⊎ (k ≡ contingency) → (r : ℕ) → r ≡ head_or v (later (children p v) 0) → r ∷ [] ≡ start_hearers (kind p v) (children p v)
    unfolding start_hearers
    start-turn ok l h r f =
        let some : (k ≡ task → ⊥) → 0 < length (children p v) = λ n. ok.blocks v l (λ t. n (e ∙ t)) in
        ⊎_elim
        (λ z. let q : kind p v ≡ serial = sym e ∙ z in rw q (first-is r (some (λ t. serial-block (sym z ∙ t))) f))
        (λ z. let q : kind p v ≡ contingency = sym e ∙ z in rw q (first-is r (some (λ t. contingency-block (sym z ∙ t))) f))
        h

    pub start_none : (k ≡ task) ⊎ (k ≡ conditional) → (cs : List ℕ) → ◌≡◌ {A = List ℕ} [] (start_hearers (kind p v) cs)
    unfolding start_hearers
    start_none h cs = ⊎_elim (λ z. let q : kind p v ≡ task = sym e ∙ z in rw q) (λ z. let q : kind p v ≡ conditional = sym e ∙ z in rw q) h

    pub start-all : (k ≡ and) ⊎ ((k ≡ or) ⊎ ((k ≡ xor) ⊎ (k ≡ waiting))) → (cs : List ℕ) → cs ≡ start_hearers (kind p v) cs
    unfolding start_hearers
    start-all h cs =
        ⊎_elim (λ z. let q : kind p v ≡ and = sym e ∙ z in rw q)
        (λ a. ⊎_elim (λ z. let q : kind p v ≡ or = sym e ∙ z in rw q)
        (λ b. ⊎_elim (λ z. let q : kind p v ≡ xor = sym e ∙ z in rw q) (λ z. let q : kind p v ≡ waiting = sym e ∙ z in rw q) b) a) h

not-kind : (j k : Kind) → (j ≡ k → ⊥) → is_kind j k ≡ false
not-kind j k h = cases (decided (is_kind j k)) (λ t. absurd (h (sym (known-kind j k t)))) (λ f. f)

own-kind : (k : Kind) → is_kind k k ≡ true
unfolding is_kind
own-kind k = eq-eqb _ _ refl

-- AN END: turn is the kind that hands the turn on
module _ (p : List ℕ) (v : ℕ) (turn : Kind) where
  abbrev Ends : List ℕ → Type 0
  Ends l = l ≡ end_hearers turn (above p v) (parent p v) (children p (parent p v)) v

  pub end_none : above p v ≡ task → Ends []
  unfolding end_hearers
  end_none e = rw (e, own-kind task)

  module _ (n : above p v ≡ task → ⊥) where
    pub end-turn : above p v ≡ turn → (r : ℕ) → r ≡ head_or (parent p v) (later (children p (parent p v)) v) → Ends (r ∷ [])
    unfolding end_hearers
    end-turn e r f = rw (not-kind task (above p v) (λ z. n (sym z)), e, own-kind turn) (ap (λ (x : ℕ). x ∷ []) f)

    pub end-up : (above p v ≡ turn → ⊥) → Ends (parent p v ∷ [])
    unfolding end_hearers
    end-up h = rw (not-kind task (above p v) (λ z. n (sym z)), not-kind turn (above p v) (λ z. h (sym z)))

-- AN ANSWER
module _ (p : List ℕ) (ok : Accepted p) (v : ℕ) (low : v < size p) (z : kind p v ≡ conditional) where
  pub yes-first : (r : ℕ) → r ≡ head_or v (later (children p v) 0) → r ∷ [] ≡ take 1 (children p v)
  yes-first r f = first-is p v r (let t = ok.two v low z in omega arith) f

  pub no_second : (q r : ℕ) → q ≡ head_or v (later (children p v) 0) → r ≡ head_or v (later (children p v) q) → r ∷ [] ≡ take 1 (drop 1 (children p v))
  unfolding head_or
  no_second q r f g =
      let t = two-of (children p v) (rising-children p v) (ok.two v low z) in
      let a : q ≡ t.0 = f ∙ ap (head_or v) (none_below p v ∙ t.2.are) in
      let b : r ≡ t.1 = g ∙ ap (head_or v) (ap₂ later t.2.are a ∙ second-later t.0 t.1 t.2.rise) in
      rw t.2.are (ap (λ (x : ℕ). x ∷ []) b)
    where
      second-later : (x y : ℕ) → x < y → later (x ∷ y ∷ []) x ≡ y ∷ []
      second-later x y l = later_second x y l

-- the kind of a node to which an answer applies
pub answer-kind : (p : List ℕ) (code v : ℕ) → (code ≡ 5) ⊎ (code ≡ 6) → applies p (event_of code v) ≡ true → kind p v ≡ conditional
unfolding applies applies_by code_of
answer-kind p code v h a = known-kind conditional (kind p v) (⊎_elim (λ q. and_right (ltb v (size p)) _ (rw q at a)) (λ q. and_right (ltb v (size p)) _ (rw q at a)) h)

too_far : (n : ℕ) → 8 ≤ n → n ≤ 7 → ⊥
too_far n a b = omega arith

-- no other code
pub rest-down : (n : ℕ) → (n ≡ 1 → ⊥) → (n ≡ 2 → ⊥) → (n ≡ 3 → ⊥) → (n ≡ 4 → ⊥) → (n ≡ 5 → ⊥) → (n ≡ 6 → ⊥) → (n ≡ 7 → ⊥) → code_of n ≡ down
rest-down n a b c d e f g = code-down n (λ l h.
    too_far n (beyond 7 n (beyond 6 n (beyond 5 n (beyond 4 n (beyond 3 n (beyond 2 n (beyond 1 n l a) b) c) d) e) f) g) h)
