-- What the functions of the search take and leave (rules Q2, Q4). Definitions only.
use Rattle.std.specs.Prelude.{◌≡◌, Bool, true, false, cond, List, ◌⊎◌, ℕ, ◌+◌, ◌<◌, eqb, length, get_or, set}
use Rattle.plan.specs.Plan.{size}
use Rattle.plan.specs.Check.{Accepted}
use Rattle.links.specs.Links.{Linked}
use Rattle.way.specs.Can.{can_at, fits_of, allows_of, open_at}
use Rattle.find_way.specs.declared.Target.{Target}
use Rattle.find_way.specs.Marks.{packed, unpacked, marks_at}

-- H0: an accepted plan, its links, and one answer a node
pub record Given (p first next a : List ℕ) : Type 0 where
  pub accepted : Accepted p
  pub linked : Linked p first next
  pub answers : length a ≡ size p

-- Q2: which marks v can get, where the answers a are fixed below number i
abbrev pub able : List ℕ → List ℕ → ℕ → Target → ℕ → ℕ → Bool
able p a i t v m = can_at p (fits_of a i) (allows_of t.node t.mark) v m

-- Q2: the table says it of v
abbrev pub Knows : List ℕ → List ℕ → ℕ → Target → List ℕ → ℕ → Type 0
Knows p a i t table v = get_or table v 0 ≡ packed (marks_at (able p a i t) v)

-- Q2: of every node
pub record KnowsAll (p a : List ℕ) (i : ℕ) (t : Target) (table : List ℕ) : Type 0 where
  pub long : length table ≡ 160
  pub each : (v : ℕ) → v < size p → Knows p a i t table v

-- Q2: it said so of every node by answers that were fixed otherwise, at w alone
pub record Knew (p a : List ℕ) (i : ℕ) (t : Target) (table : List ℕ) (w : ℕ) : Type 0 where
  pub was : List ℕ
  pub upto : ℕ
  pub same : (v x : ℕ) → (v ≡ w → ⊥) → fits_of was upto v x ≡ fits_of a i v x
  pub known : KnowsAll p was upto t table

-- Q2: the root can get the end e, by its byte in the table
unfoldable pub opens : ℕ → ℕ → Bool
opens b e = cond (eqb e 3) (unpacked b).done (unpacked b).failed

-- Q1: a node of the plan, and an end
pub record Wanted (p : List ℕ) (t : Target) : Type 0 where
  pub node : t.node < size p
  pub end : (t.end ≡ 3) ⊎ (t.end ≡ 4)

-- Q2, Q4: the answers below number i are bytes, and some answers that begin so lead there
pub record Open (p : List ℕ) (t : Target) (a : List ℕ) (i : ℕ) : Type 0 where
  pub wanted : Wanted p t
  pub within : i < size p
  pub small : (v : ℕ) → v < i → get_or a v 0 < 256
  pub goes_on : open_at p t.node t.mark t.end a i ≡ true

-- Q4: the first byte at i with which that stays so was put there
pub record Put (p : List ℕ) (t : Target) (a : List ℕ) (i : ℕ) (b : List ℕ) : Type 0 where
  pub byte : ℕ
  pub small : byte < 256
  pub is : b ≡ set a i byte
  pub before : (c : ℕ) → c < byte → open_at p t.node t.mark t.end (set a i c) (i + 1) ≡ false
  pub goes_on : open_at p t.node t.mark t.end (set a i byte) (i + 1) ≡ true
