-- How many of a list pass a test, and tests over the lists of all numbers below a bound. Assumes nothing.
use Rattle.std.proofs.Common.{◌≡◌, refl, sym, ◌∙◌, ap, Bool, true, false, cond, ◌&&◌, ◌||◌, not, List, [], ◌∷◌, ◌++◌, map, append_assoc, append-nil, ℕ, zero, suc, ◌+◌, arith, length, length-append}
use Rattle.std.specs.List.{flat_map}
use Rattle.lists.specs.Seq.{all, keep, up_from, all_below, sum_below}
use Rattle.lists.proofs.Members.{all_append}
use Rattle.lists.proofs.Table.{up_suc}

module _ {A : Type 0} where
  keep_joined : (f : A → Bool) (xs ys : List A) → keep f (xs ++ ys) ≡ keep f xs ++ keep f ys
  unfolding keep
  keep_joined f [] ys = refl
  keep_joined f (x ∷ xs) ys = go (f x) (keep_joined f xs ys)
    where
      go : (b : Bool) → keep f (xs ++ ys) ≡ keep f xs ++ keep f ys →
          cond b (x ∷ keep f (xs ++ ys)) (keep f (xs ++ ys)) ≡ cond b (x ∷ keep f xs) (keep f xs) ++ keep f ys
      go true h = rw h
      go false h = h

  -- those that pass one of two tests: those of the first, and what the second adds
  pub count-or : (f g : A → Bool) (xs : List A) → length (keep (λ x. f x || g x) xs) ≡ length (keep f xs) + length (keep (λ x. g x && not (f x)) xs)
  unfolding keep
  count-or f g [] = refl
  count-or f g (x ∷ xs) = go (f x) (g x) (count-or f g xs)
    where
      both : List A
      both = keep (λ x. f x || g x) xs

      first : List A
      first = keep f xs

      added : List A
      added = keep (λ x. g x && not (f x)) xs

      go : (a b : Bool) → length both ≡ length first + length added →
          length (cond (a || b) (x ∷ both) both) ≡ length (cond a (x ∷ first) first) + length (cond (b && not a) (x ∷ added) added)
      go true true h = omega arith
      go true false h = omega arith
      go false true h = omega arith
      go false false h = h

  pub count_map : {B : Type 0} (f : B → Bool) (g : A → B) (xs : List A) → length (keep f (map g xs)) ≡ length (keep (λ x. f (g x)) xs)
  unfolding keep
  count_map f g [] = refl
  count_map f g (x ∷ xs) = go (f (g x)) (count_map f g xs)
    where
      go : (b : Bool) → length (keep f (map g xs)) ≡ length (keep (λ x. f (g x)) xs) →
          length (cond b (g x ∷ keep f (map g xs)) (keep f (map g xs))) ≡ length (cond b (x ∷ keep (λ x. f (g x)) xs) (keep (λ x. f (g x)) xs))
      go true h = omega arith
      go false h = h

  pub flat_append : (g : ℕ → List A) (xs ys : List ℕ) → flat_map g (xs ++ ys) ≡ flat_map g xs ++ flat_map g ys
  flat_append g [] ys = refl
  flat_append g (x ∷ xs) ys = ap (λ l. g x ++ l) (flat_append g xs ys) ∙ sym (append_assoc (g x) (flat_map g xs) (flat_map g ys))

  -- the lists of the numbers below n + 1
  flat-suc : (g : ℕ → List A) (n : ℕ) → flat_map g (up_from 0 (suc n)) ≡ flat_map g (up_from 0 n) ++ g n
  flat-suc g n =
      ap (flat_map g) (up_suc 0 n)
      ∙ flat_append g (up_from 0 n) ((0 + n) ∷ [])
      ∙ ap (λ l. flat_map g (up_from 0 n) ++ l) (append-nil (g (0 + n)) ∙ ap g (let z : 0 + n ≡ n = omega arith in z))

  pub count-below : (f : A → Bool) (g : ℕ → List A) (n : ℕ) → length (keep f (flat_map g (up_from 0 n))) ≡ sum_below (λ v. length (keep f (g v))) n
  unfolding up_from sum_below keep
  count-below f g zero = refl
  count-below f g (suc n) =
      ap (λ l. length (keep f l)) (flat-suc g n)
      ∙ ap length (keep_joined f (flat_map g (up_from 0 n)) (g n))
      ∙ length-append (keep f (flat_map g (up_from 0 n))) (keep f (g n))
      ∙ ap (λ k. k + length (keep f (g n))) (count-below f g n)

  pub all-below : (f : A → Bool) (g : ℕ → List A) (n : ℕ) → all f (flat_map g (up_from 0 n)) ≡ all_below (λ v. all f (g v)) n
  unfolding up_from all_below all
  all-below f g zero = refl
  all-below f g (suc n) = ap (all f) (flat-suc g n) ∙ all_append f (flat_map g (up_from 0 n)) (g n) ∙ ap (λ b. b && all f (g n)) (all-below f g n)
