-- Where the answers below node i are fixed: some list goes on from there to the target if and only if the front is open (`open_at`). Assumes
-- nothing.
use mathlib.Core.Path.{◌≡◌, refl, sym, ◌∙◌, ap}
use mathlib.Core.Bool.{Bool, true, false, ◌&&◌}
use mathlib.Core.List.{List, ◌++◌}
use mathlib.Core.Logic.{◌⊎◌}
use mathlib.Core.Option.{Option, none, some}
use Prim.Native.Nat.{ℕ, ◌+◌, ◌-◌, ◌≤◌, ◌<◌}
use lib.Dec.{eqb, ltb}
use lib.ListN.{get_or, length, take, drop, length-append, length-drop, take-append-drop, get_or-append, get_or-eq_default}
use lib.Seq.{length-take-le, get_or-append-add, get_or-drop, get_or-take, ext_get_or}
use borrow.Author.Tests.{eqb-true, eq-eqb, lt-ltb, ltb-true, ltb-false}
use native.Mathlib.Omega.{arith}
use Rattle.lists.proofs.Logic.{cases, decided, clash, both, same_bool}
use Rattle.plan.specs.Plan.{size}
use Rattle.plan.specs.Check.{Accepted}
use Rattle.pass.specs.Pass.{pass}
use Rattle.pass_nodes.specs.Nodes.{pass_mark}
use Rattle.lists.specs.Bytes.{Bytes}
use Rattle.lists.specs.Smallest.{smallest, is_found}
use Rattle.way.specs.Way.{leads}
use Rattle.way.specs.Claim.{LeadsTo}
use Rattle.lists.proofs.SmallestLaws.{found-least, found_some}
use Rattle.way.specs.Can.{can_at, fits_of, allows_of, open_at}
use Rattle.way.proofs.Possible.{able-root, answers, answers-long, answers-right, answers-end, accepted, marked}

-- the test and the claim's words
pub leads-told : (p : List ℕ) (w m e : ℕ) (a : List ℕ) → Bytes (size p) a → leads p w m e a ≡ true → LeadsTo p w m e a
unfolding leads
leads-told p w m e a y h =
    let r = (both (eqb (pass p a).number 0 && eqb (pass_mark p a w) m) (eqb (pass_mark p a 0) e)).0 h in
    let s = (both (eqb (pass p a).number 0) (eqb (pass_mark p a w) m)).0 r.0 in
    record { bytes = y; accepted = eqb-true _ _ s.0; mark = eqb-true _ _ s.1; end = eqb-true _ _ r.1 }

pub leads-by : (p : List ℕ) (w m e : ℕ) (a : List ℕ) → LeadsTo p w m e a → leads p w m e a ≡ true
unfolding leads
leads-by p w m e a h = rw (eq-eqb _ _ h.accepted, eq-eqb _ _ h.mark, eq-eqb _ _ h.end)

module _ (p : List ℕ) (ok : Accepted p) (w m e : ℕ) (within : w < size p) (three : (e ≡ 3) ⊎ (e ≡ 4))
    (a : List ℕ) (fills : length a ≡ size p) (i : ℕ) (bytes : (v : ℕ) → v < i → get_or a v 0 < 256) (few : i ≤ size p) where
  abbrev fits : ℕ → ℕ → Bool
  fits = fits_of a i

  abbrev allows : ℕ → ℕ → Bool
  allows = allows_of w m

  free : (v : ℕ) → (x : ℕ) × (x < 256) × (fits v x ≡ true)
  unfolding fits_of
  free v = cases (decided (ltb v i))
      (λ q. (get_or a v 0, bytes v (ltb-true v i q), rw q (eq-eqb (get_or a v 0) (get_or a v 0) refl)))
      (λ q. (0, omega arith, rw q))

  -- the rest of a list that begins as a does
  abbrev test : List ℕ → Bool
  test l = leads p w m e (take i a ++ l)

  long : length (take i a) ≡ i
  long = length-take-le i a (omega (arith, fills))

  module _ (l : List ℕ) (y : Bytes (size p - i) l) where
    abbrev all : List ℕ
    all = take i a ++ l

    all_small : (v : ℕ) → get_or all v 0 < 256
    all_small v = cases (decided (ltb v i))
        (λ q. let k = ltb-true v i q in rw (get_or-append (take i a) l 0 v (omega (arith, long)), get_or-take i a v 0 k) (bytes v k))
        (λ q. let k = ltb-false v i q in
        let z : v ≡ length (take i a) + (v - i) = omega (arith, long) in
        rw (z, get_or-append-add (take i a) l (v - i) 0) (y.small (v - i)))

    all-fits : (v : ℕ) → v < size p → fits v (get_or all v 0) ≡ true
    unfolding fits_of
    all-fits v s = cases (decided (ltb v i))
        (λ q. let k = ltb-true v i q in rw (q, get_or-append (take i a) l 0 v (omega (arith, long)), get_or-take i a v 0 k) (eq-eqb (get_or a v 0) (get_or a v 0) refl))
        (λ q. rw q)

    all-bytes : Bytes (size p) all
    all-bytes = record { long = length-append (take i a) l ∙ omega (arith, long, y.long); small = all_small }

    open_by : test l ≡ true → open_at p w m e a i ≡ true
    unfolding open_at
    open_by h =
        let r = leads-told p w m e all all-bytes h in
        rw r.end at (able-root p ok fits allows free all all-fits all_small r.accepted owned)
      where
        owned : (v : ℕ) → v < size p → allows v (pass_mark p all v) ≡ true
        owned v s = unfold allows_of in cases (decided (eqb v w))
            (λ q. rw (q, eqb-true v w q) (eq-eqb _ _ (sym (leads-told p w m e all all-bytes h).mark)))
            (λ q. rw q)

  module _ (h : open_at p w m e a i ≡ true) where
    feasible : can_at p fits allows 0 e ≡ true
    feasible = unfold open_at in h

    list : List ℕ
    list = answers p ok fits allows free e feasible three

    list-long : length list ≡ size p
    unfolding list
    list-long = answers-long p ok fits allows free e feasible three

    list-small : (v : ℕ) → get_or list v 0 < 256
    unfolding list
    list-small v = cases (decided (ltb v (size p)))
        (λ q. (answers-right p ok fits allows free e feasible three v (ltb-true _ _ q)).0)
        (λ q. rw (get_or-eq_default list 0 {n = v} (omega (arith, list-long, ltb-false v (size p) q))) (omega arith))

    list-leads : leads p w m e list ≡ true
    unfolding list allows_of
    list-leads = leads-by p w m e _ (record {
      bytes = record { long = list-long; small = list-small };
      accepted = accepted p ok fits allows free e feasible three;
      mark = sym (eqb-true _ _ (rw (eq-eqb w w refl) at (marked p ok fits allows free e feasible three w within)));
      end = answers-end p ok fits allows free e feasible three;
    })

    front_same : take i list ≡ take i a
    front_same = ext_get_or 0 (take i list) (take i a) (length-take-le i list (omega (arith, list-long)) ∙ sym long)
        (λ v k. let j : v < i = omega (arith, length-take-le i list (omega (arith, list-long))) in
        get_or-take i list v 0 j ∙ same v j ∙ sym (get_or-take i a v 0 j))
      where
        same : (v : ℕ) → v < i → get_or list v 0 ≡ get_or a v 0
        same v k = unfold list fits_of in eqb-true _ _ (rw (lt-ltb v i k) at (answers-right p ok fits allows free e feasible three v (omega arith)).1)

    rest-bytes : Bytes (size p - i) (drop i list)
    rest-bytes = record {
      long = length-drop i list ∙ ap (λ n. n - i) list-long;
      small = λ v. rw (get_or-drop i list v 0) (list-small (i + v));
    }

    rest-leads : test (drop i list) ≡ true
    rest-leads = rw (← front_same, take-append-drop i list) list-leads

  -- the front of a goes on if and only if it is open
  pub open-found : is_found (smallest (size p - i) test) ≡ open_at p w m e a i
  open-found = same_bool _ _ to (λ h. found_some (size p - i) test (drop i (list h)) (rest-bytes h) (rest-leads h))
    where
      go : (r : Option (List ℕ)) → smallest (size p - i) test ≡ r → is_found r ≡ true → open_at p w m e a i ≡ true
      go (some l) q t = let s = found-least (size p - i) test l q in open_by l s.bytes s.passes
      go none q t = unfold is_found in clash false t refl

      to : is_found (smallest (size p - i) test) ≡ true → open_at p w m e a i ≡ true
      to t = go (smallest (size p - i) test) refl t
