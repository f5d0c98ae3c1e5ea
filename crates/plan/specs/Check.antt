-- The check of a plan (rules A and H1 to H7), what it accepts, and the MAIN CLAIM. Definitions only.
use Rattle.std.specs.Prelude.{◌≡◌, Bool, true, ◌&&◌, cond, not, List, [], ◌↔◌, ℕ, suc, ◌*◌, ◌%◌, ◌≤◌, ◌<◌, length, eqb, ltb, leb}
use Rattle.lists.specs.Seq.{all_below}
use Rattle.plan.specs.Plan.{size, kind_byte, kind, parent, children, child_count, depth}
use Rattle.plan.specs.declared.kinds.Kind.{Kind}
use Rattle.plan.specs.declared.kinds.Kind.TheVariants.{Task as task, Serial as serial, And as and, Or as or, Xor as xor, Contingency as contingency, Conditional as conditional, Waiting as waiting}

-- A1, H1: bytes come in pairs, at least one and at most 160
unfoldable pub length_ok : List ℕ → Bool
length_ok p = eqb (length p % 2) 0 && ltb 0 (length p) && leb (length p) 320

-- A2, H2: v's first byte is one of the eight kinds
unfoldable pub kind_ok : List ℕ → ℕ → Bool
kind_ok p v = leb 1 (kind_byte p v) && leb (kind_byte p v) 8

-- A3, H3: v comes after its parent, and the root names ff instead of one
unfoldable pub parent_ok : List ℕ → ℕ → Bool
parent_ok p v = cond (eqb v 0) (eqb (parent p v) 255) (ltb (parent p v) v)

-- H4: v's parent can have children; the root asks for none
unfoldable pub under_block : List ℕ → ℕ → Bool
under_block p v = cond (eqb v 0) true (not (eqb (kind_byte p (parent p v)) 1))

-- A5: a node of this kind may have n children: a task none, a conditional two, any other block from one to 32
unfoldable pub fits : Kind → ℕ → Bool
fits task n = eqb n 0
fits serial n = leb 1 n && leb n 32
fits and n = leb 1 n && leb n 32
fits or n = leb 1 n && leb n 32
fits xor n = leb 1 n && leb n 32
fits contingency n = leb 1 n && leb n 32
fits conditional n = eqb n 2
fits waiting n = leb 1 n && leb n 32

-- H5: v has as many as its kind may have
unfoldable pub count_ok : List ℕ → ℕ → Bool
count_ok p v = fits (kind p v) (child_count p v)

-- A6, H6: v is at most 32 deep
unfoldable pub depth_ok : List ℕ → ℕ → Bool
depth_ok p v = leb (depth p v) 32

-- H0: each of 2 to 6 is tried at every node before the next
unfoldable pub at_all : (List ℕ → ℕ → Bool) → List ℕ → Bool
at_all ok p = all_below (ok p) (size p)

-- H0: the first failing test, and 0 where none fails
unfoldable pub check_number : List ℕ → ℕ
check_number p =
    cond (not (length_ok p)) 1
    (cond (not (at_all kind_ok p)) 2
    (cond (not (at_all parent_ok p)) 3
    (cond (not (at_all under_block p)) 4
    (cond (not (at_all count_ok p)) 5
    (cond (not (at_all depth_ok p)) 6 0)))))

-- H1 to H7: a call with bytes lent: 1 to 6 of the plan, then 7 where a lent length is wrong (`right` says that all are right), else 0
unfoldable pub fit_number : List ℕ → Bool → ℕ
fit_number p right = cond (not (eqb (check_number p) 0)) (check_number p) (cond (not right) 7 0)

-- A1, A3: what tests 1 and 3 tell: 1 to 160 nodes, every parent number but the root's below its own.
pub record Ordered (p : List ℕ) : Type 0 where
  pub some : 0 < size p
  pub few : size p ≤ 160
  pub below : (v : ℕ) → 0 < v → v < size p → parent p v < v

-- A6: the root has depth 1, and another node its parent's plus 1.
abbrev pub DepthSteps : Type 0
DepthSteps = (p : List ℕ) → Ordered p → (depth p 0 ≡ 1) × ((v : ℕ) → 0 < v → v < size p → depth p v ≡ suc (depth p (parent p v)))

-- A plan within the limits: rules A1 to A6, each as a fact of its own.
pub record Accepted (p : List ℕ) : Type 0 where
  pub even : length p ≡ 2 * size p
  pub some : 0 < size p
  pub few : size p ≤ 160
  pub low : (v : ℕ) → v < size p → 1 ≤ kind_byte p v
  pub high : (v : ℕ) → v < size p → kind_byte p v ≤ 8
  pub root : parent p 0 ≡ 255
  pub below : (v : ℕ) → 0 < v → v < size p → parent p v < v
  pub tasks : (v : ℕ) → v < size p → kind p v ≡ task → children p v ≡ []
  pub blocks : (v : ℕ) → v < size p → (kind p v ≡ task → ⊥) → 0 < length (children p v)
  pub most : (v : ℕ) → v < size p → length (children p v) ≤ 32
  pub two : (v : ℕ) → v < size p → kind p v ≡ conditional → length (children p v) ≡ 2
  pub shallow : (v : ℕ) → v < size p → depth p v ≤ 32

-- MAIN CLAIM (rules A, H1 to H6). The check passes every plan within the limits, and no other.
abbrev pub CheckExact : Type 0
CheckExact = (p : List ℕ) → (check_number p ≡ 0) ↔ Accepted p

-- CLAIM (H0, H7). With bytes lent: 0 is for the plans within the limits with right lengths alone, and a plan's own number comes before 7.
pub record Fitted (p : List ℕ) (right : Bool) : Type 0 where
  pub none : (fit_number p right ≡ 0) ↔ (Accepted p × (right ≡ true))
  pub first : (check_number p ≡ 0 → ⊥) → fit_number p right ≡ check_number p

abbrev pub FitExact : Type 0
FitExact = (p : List ℕ) (right : Bool) → Fitted p right
