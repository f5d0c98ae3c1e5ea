-- Which marks a node can get where some answers are fixed, by its kind and by the marks that its children can get (rules F2 to F5). `fits v x`
-- says that x may be v's answer, `allows v m` that m may be v's mark. That it is right is proved (proofs/Possible.antt). Definitions only.
use Rattle.std.specs.Prelude.{Bool, true, false, cond, ◌&&◌, ◌||◌, List, [], ◌∷◌, ℕ, zero, suc, eqb, ltb, get_or}
use Rattle.lists.specs.Seq.{all}
use Rattle.plan.specs.Plan.{kind, children, size}
use Rattle.plan.specs.declared.kinds.Kind.{Kind}
use Rattle.plan.specs.declared.kinds.Kind.TheVariants.{Task as task, Serial as serial, And as and, Or as or, Xor as xor, Contingency as contingency, Conditional as conditional, Waiting as waiting}

-- F2: f up to some child, which is as g says and has an allowed place, and h behind it; n children stand before
unfoldable pub stops : (ℕ → Bool) → (ℕ → Bool) → (ℕ → Bool) → (ℕ → Bool) → ℕ → List ℕ → Bool
stops ok f g h n [] = false
stops ok f g h n (c ∷ cs) = (f c && stops ok f g h (suc n) cs) || ((g c && ok (suc n)) && all h cs)

-- F2: any place is allowed
abbrev pub anywhere : ℕ → Bool
anywhere n = true

-- F4: c can get mark m
abbrev pub gets : (ℕ → ℕ → Bool) → ℕ → ℕ → Bool
gets can m c = can c m

-- F4: c can get mark m or mark n
abbrev pub gets_one : (ℕ → ℕ → Bool) → ℕ → ℕ → ℕ → Bool
gets_one can m n c = can c m || can c n

-- F2, F3, table: a node of this kind can work, by the answers that fit and by what its children can get
unfoldable pub works_by : (ℕ → Bool) → (ℕ → ℕ → Bool) → Kind → List ℕ → Bool
works_by fits can task cs = fits 1
works_by fits can serial cs = all (gets can 3) cs
works_by fits can and cs = all (gets can 3) cs
works_by fits can or cs = stops anywhere (gets can 4) (gets can 3) (gets_one can 3 4) 0 cs
works_by fits can xor cs = stops fits (gets_one can 5 4) (gets can 3) (gets_one can 5 4) 0 cs
works_by fits can contingency cs = stops anywhere (gets can 4) (gets can 3) (gets can 0) 0 cs
works_by fits can conditional cs = stops fits (gets can 0) (gets can 3) (gets can 0) 0 cs
works_by fits can waiting cs = all (gets can 3) cs

-- F2, F3, table: it can fail
unfoldable pub breaks_by : (ℕ → Bool) → (ℕ → ℕ → Bool) → Kind → List ℕ → Bool
breaks_by fits can task cs = fits 2
breaks_by fits can serial cs = stops anywhere (gets can 3) (gets can 4) (gets can 0) 0 cs
breaks_by fits can and cs = stops anywhere (gets can 3) (gets can 4) (gets_one can 3 4) 0 cs
breaks_by fits can or cs = all (gets can 4) cs
breaks_by fits can xor cs = fits 0 && all (gets can 4) cs
breaks_by fits can contingency cs = all (gets can 4) cs
breaks_by fits can conditional cs = stops fits (gets can 0) (gets can 4) (gets can 0) 0 cs
breaks_by fits can waiting cs = stops anywhere (gets can 3) (gets can 4) (gets_one can 3 4) 0 cs

-- F3, F4: it can get mark m: 0 where none of its children is reached, 4 where it fails, 3 or 5 where it works
unfoldable pub can_by : ℕ → (ℕ → Bool) → (ℕ → ℕ → Bool) → Kind → List ℕ → Bool
can_by m fits can k cs = cond (eqb m 0) (all (gets can 0) cs) (cond (eqb m 4) (breaks_by fits can k cs) (works_by fits can k cs))

-- F2 to F4: v can get mark m, if it has fewer levels of nodes below it than said
unfoldable pub can_within : List ℕ → (ℕ → ℕ → Bool) → (ℕ → ℕ → Bool) → ℕ → ℕ → ℕ → Bool
can_within p fits allows zero v m = false
can_within p fits allows (suc levels) v m = allows v m && can_by m (fits v) (λ c n. can_within p fits allows levels c n) (kind p v) (children p v)

-- F2 to F4: v can get mark m
unfoldable pub can_at : List ℕ → (ℕ → ℕ → Bool) → (ℕ → ℕ → Bool) → ℕ → ℕ → Bool
can_at p fits allows v m = can_within p fits allows (size p) v m

-- Q2: the answers are a's at the nodes below number i, and free from there on
unfoldable pub fits_of : List ℕ → ℕ → ℕ → ℕ → Bool
fits_of a i v x = cond (ltb v i) (eqb x (get_or a v 0)) true

-- Q2: node v is to get mark m, and any other node w any mark
unfoldable pub allows_of : ℕ → ℕ → ℕ → ℕ → Bool
allows_of v m w n = cond (eqb w v) (eqb m n) true

-- Q2: some answers that are a's at the nodes below number i lead to mark m at v and to end e (proofs/Front.antt)
unfoldable pub open_at : List ℕ → ℕ → ℕ → ℕ → List ℕ → ℕ → Bool
open_at p v m e a i = can_at p (fits_of a i) (allows_of v m) 0 e
