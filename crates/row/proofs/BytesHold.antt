-- A written guard on a row: its bytes say what the list of clauses says, and so does the shape that gives them. Assumes nothing.
use Rattle.std.proofs.Common.{◌≡◌, refl, sym, ap, ◌∙◌, Bool, true, false, ◌&&◌, ◌||◌, List, [], ◌∷◌, ◌++◌, append_assoc, append-nil, ℕ, zero, suc, ◌+◌, ◌*◌, zero-add, suc-add, arith, eq-eqb, eqb-true, eqb, length, drop, get_or}
use mathlib.Core.Bool.{and-true, and_assoc, or-false}
use borrow.Author.Tests.{eqb-false}
use Rattle.lists.proofs.Logic.{cases, decided}
use Rattle.lists.specs.Seq.{all, any}
use Rattle.event.specs.Event.{Event, code_number}
use Rattle.guard.specs.Guard.{Guard, holds}
use Rattle.guard.specs.Bytes.{enc_events, enc_clauses, encode}
use Rattle.guard.specs.Put.{pairs, any_pairs, clause, each_clause, any_clause, codes_of, first_bytes, any_part, more_of}
use Rattle.guard.specs.Shape.{shape_bytes}
use Rattle.guard.specs.declared.table.Shape.{Shape}
use Rattle.guard.proofs.ShapeLaws.{GivesGuard}
use Rattle.guard.proofs.PutLaws.{first-none, first_one, first-each}
use Rattle.row.specs.Evaluate.{one_holds, clause_holds, each_holds, any_holds, family_holds}
use Rattle.row.specs.Row.{heard_in, heard}

-- a written guard on the row (rules C1 and C8): the next m events, the next k clauses, the whole
unfoldable pub events_hold : List ℕ → ℕ → List ℕ → Bool
events_hold row zero bs = false
events_hold row (suc m) bs = heard_in row (get_or bs 0 0) (get_or bs 1 0) || events_hold row m (drop 2 bs)

unfoldable pub clauses_hold : List ℕ → ℕ → List ℕ → Bool
clauses_hold row zero bs = true
clauses_hold row (suc k) bs = events_hold row (get_or bs 0 0) (drop 1 bs) && clauses_hold row k (drop (1 + 2 * get_or bs 0 0) bs)

unfoldable pub bytes_hold : List ℕ → List ℕ → Bool
bytes_hold row bs = clauses_hold row (get_or bs 0 0) (drop 1 bs)

-- the bytes of a guard mean the guard, whatever stands behind them
module _ (row : List ℕ) where
  events-encoded : (es : List Event) (z : List ℕ) → events_hold row (length es) (enc_events es ++ z) ≡ any (heard row) es
  unfolding events_hold enc_events any heard
  events-encoded [] z = refl
  events-encoded (e ∷ es) z = ap (λ b. heard_in row (code_number e.code) e.node || b) (events-encoded es z)

  drop-events : (es : List Event) (z : List ℕ) → drop (2 * length es) (enc_events es ++ z) ≡ z
  unfolding enc_events
  drop-events [] z = refl
  drop-events (e ∷ es) z = let q : 2 * suc (length es) ≡ suc (suc (2 * length es)) = omega arith in rw q (drop-events es z)

  clauses-encoded : (g : Guard) (z : List ℕ) → clauses_hold row (length g) (enc_clauses g ++ z) ≡ all (any (heard row)) g
  unfolding clauses_hold enc_clauses all
  clauses-encoded [] z = refl
  clauses-encoded (c ∷ cs) z =
      let q : 1 + 2 * length c ≡ suc (2 * length c) = omega arith in
      rw (append_assoc (enc_events c) (enc_clauses cs) z, q, events-encoded c (enc_clauses cs ++ z), drop-events c (enc_clauses cs ++ z), clauses-encoded cs z)

  pub bytes-encoded : (g : Guard) (z : List ℕ) → bytes_hold row (encode g ++ z) ≡ holds (heard row) g
  unfolding bytes_hold encode holds
  bytes-encoded g z = clauses-encoded g z

  -- the bytes of a shape mean the shape
  events-pairs : (ks : List ℕ) (c : ℕ) (z : List ℕ) → events_hold row (length ks) (pairs ks c ++ z) ≡ any (λ k. heard_in row k c) ks
  unfolding events_hold pairs any
  events-pairs [] c z = refl
  events-pairs (k ∷ ks) c z = ap (λ b. heard_in row k c || b) (events-pairs ks c z)

  drop-pairs : (ks : List ℕ) (c : ℕ) (z : List ℕ) → drop (2 * length ks) (pairs ks c ++ z) ≡ z
  unfolding pairs
  drop-pairs [] c z = refl
  drop-pairs (k ∷ ks) c z = let q : 2 * suc (length ks) ≡ suc (suc (2 * length ks)) = omega arith in rw q (drop-pairs ks c z)

  clauses-each : (ks cs : List ℕ) (m : ℕ) (z : List ℕ) →
      clauses_hold row (length cs + m) (each_clause ks cs ++ z) ≡ (all (clause_holds row ks) cs && clauses_hold row m z)
  unfolding clauses_hold each_clause clause clause_holds all
  clauses-each ks [] m z = rw zero-add
  clauses-each ks (c ∷ cs) m z =
      let q : 1 + 2 * length ks ≡ suc (2 * length ks) = omega arith in
      rw (suc-add, append_assoc (pairs ks c) (each_clause ks cs) z, q, events-pairs ks c (each_clause ks cs ++ z), drop-pairs ks c (each_clause ks cs ++ z), clauses-each ks cs m z, and_assoc)

  events-any : (k : ℕ) (cs z : List ℕ) → events_hold row (length cs) (any_pairs k cs ++ z) ≡ any (heard_in row k) cs
  unfolding events_hold any_pairs any
  events-any k [] z = refl
  events-any k (c ∷ cs) z = ap (λ b. heard_in row k c || b) (events-any k cs z)

  clauses-any : (s : Shape) (cs : List ℕ) → clauses_hold row (more_of s.any) (any_part s.any cs) ≡ any_holds row s cs
  unfolding clauses_hold more_of any_part any_clause any_holds
  clauses-any s cs = cases (decided (eqb s.any 0)) (λ e. rw e)
      (λ e. rw (e, and-true) (rw append-nil at (events-any s.any cs [])))

  module _ (s : Shape) (cs : List ℕ) where
    first-as : {x : List ℕ} → first_bytes s.code s.node s.each (more_of s.any) cs ≡ x → bytes_hold row (shape_bytes s cs) ≡ bytes_hold row (x ++ any_part s.any cs)
    unfolding shape_bytes
    first-as e = ap (λ x. bytes_hold row (x ++ any_part s.any cs)) e

    bytes-none : s.code ≡ 0 → bytes_hold row (shape_bytes s cs) ≡ any_holds row s cs
    unfolding bytes_hold
    bytes-none e = first-as (first-none _ _ _ _ _ e) ∙ clauses-any s cs

    bytes_one : (s.code ≡ 0 → ⊥) → s.each ≡ 0 → bytes_hold row (shape_bytes s cs) ≡ (heard_in row s.code s.node && any_holds row s cs)
    unfolding bytes_hold each_clause clause pairs clause_holds all any
    bytes_one h e = first-as (first_one _ _ _ _ _ h e) ∙ clauses-each (s.code ∷ []) (s.node ∷ []) (more_of s.any) (any_part s.any cs) ∙ rw (or-false, and-true, clauses-any s cs)

    bytes-each : (s.code ≡ 0 → ⊥) → (s.each ≡ 0 → ⊥) → bytes_hold row (shape_bytes s cs) ≡ (all (clause_holds row (codes_of s.code s.each)) cs && any_holds row s cs)
    unfolding bytes_hold
    bytes-each h e = first-as (first-each _ _ _ _ _ h e) ∙ clauses-each (codes_of s.code s.each) cs (more_of s.any) (any_part s.any cs) ∙ rw (clauses-any s cs)

    shape-bytes : (s.code ≡ 0 → s.each ≡ 0) → bytes_hold row (shape_bytes s cs) ≡ (one_holds row s && family_holds row s cs cs)
    unfolding one_holds each_holds family_holds
    shape-bytes none = cases (decided (eqb s.code 0))
        (λ e. bytes-none (eqb-true _ 0 e) ∙ rw (e, eq-eqb s.each 0 (none (eqb-true _ 0 e))))
        (λ e. cases (decided (eqb s.each 0))
        (λ z. bytes_one (eqb-false _ 0 e) (eqb-true _ 0 z) ∙ rw (e, z))
        (λ z. bytes-each (eqb-false _ 0 e) (eqb-false _ 0 z) ∙ rw (e, z)))

  shape-holds : {s : Shape} {cs : List ℕ} {g : Guard} → GivesGuard s cs g → (one_holds row s && family_holds row s cs cs) ≡ holds (heard row) g
  shape-holds {s} {cs} {g} h = sym (shape-bytes s cs h.none) ∙ ap (bytes_hold row) h.bytes ∙ (rw append-nil at (bytes-encoded g []))

  -- the one event is not heard, or the rest decides
  module _ {s : Shape} {cs : List ℕ} {g : Guard} (is : GivesGuard s cs g) where
    pub one-fails : one_holds row s ≡ false → false ≡ holds (heard row) g
    one-fails e = sym (rw e) ∙ shape-holds is

    pub by-family : one_holds row s ≡ true → {b : Bool} → b ≡ family_holds row s cs cs → b ≡ holds (heard row) g
    by-family e h = h ∙ sym (rw e) ∙ shape-holds is
