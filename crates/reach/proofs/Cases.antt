-- Worked calls that change one answer (rules O6 to O8), and what is in a task's reach and what is not (O2). Worked out by hand from the rules.
-- Assumes nothing.
use mathlib.Core.Path.{◌≡◌, refl, sym, ◌∙◌, ap, subst}
use mathlib.Core.Bool.{true, false}
use mathlib.Core.List.{List, [], ◌∷◌, map}
use mathlib.Core.Logic.{◌⊎◌, inl, inr}
use Prim.Native.Nat.{ℕ, zero, suc, ◌<◌}
use lib.Dec.{eqb, ltb}
use lib.ListN.{set}
use borrow.Author.Tests.{eqb-false, ltb-true}
use native.Mathlib.Omega.{arith}
use Rattle.lists.specs.Seq.{keep, up_from, all_below}
use Rattle.lists.proofs.Logic.{cases}
use Rattle.plan.specs.Plan.{kind_number, is_kind, kind_of, size, kind_byte, kind, parent, children_below, children, child_count, depth_within, depth}
use Rattle.plan.specs.declared.kinds.Kind.TheVariants.{Task as task, Serial as serial, Contingency as contingency}
use Rattle.plan.specs.Check.{length_ok, kind_ok, parent_ok, under_block, fits, count_ok, depth_ok, at_all, check_number, fit_number}
use Rattle.plan.specs.Under.{Under, self, up}
use Rattle.plan.proofs.UnderLaws.{under_low}
use Rattle.plan.proofs.Main.{check-exact}
use Rattle.pass.specs.Pass.{PassResult, pass_result, goes_by, goes, one_or_two, bad_answer, bad_pick, closes, good_mark, child_mark, skip, note, ending, end_of, nothing, unwalked, child_settled, meet_by, meet, walk, close, settle_if, settle_by, settle, number_of, root_mark, pass_of, pass, pass_number}
use Rattle.pass_nodes.specs.Nodes.{pass_mark}
use Rattle.reach.specs.Reach.{OneTask, Follows, InReach, above, after}
use Rattle.reach.specs.Impact.{are_marks, new_number, change_number, impact_number, impact_into}
use Rattle.reach.proofs.ReachLaws.{one_set}

-- a call, and its number with the marks that it leaves
pub record Case : Type 0 where
  pub plan : List ℕ
  pub answers : List ℕ
  pub marks : List ℕ
  pub node : ℕ
  pub answer : ℕ
  pub result : PassResult

case : List ℕ → List ℕ → List ℕ → ℕ → ℕ → ℕ → List ℕ → Case
case p a m t x number n = record { plan = p; answers = a; marks = m; node = t; answer = x; result = pass_result number n }

-- a call that is refused, and leaves the marks
refused : List ℕ → List ℕ → List ℕ → ℕ → ℕ → ℕ → Case
refused p a m t x number = case p a m t x number m

abbrev two : ℕ → ℕ → List ℕ
two a b = a ∷ b ∷ []

abbrev three : ℕ → ℕ → ℕ → List ℕ
three a b c = a ∷ b ∷ c ∷ []

abbrev five : ℕ → ℕ → ℕ → ℕ → ℕ → List ℕ
five a b c d e = a ∷ b ∷ c ∷ d ∷ e ∷ []

abbrev six : ℕ → ℕ → ℕ → ℕ → ℕ → ℕ → List ℕ
six a b c d e f = a ∷ b ∷ c ∷ d ∷ e ∷ f ∷ []

-- serial 0: task 1, xor 2 of tasks 3 and 4, task 5. Its answers P9 and P10, and their marks
abbrev P : List ℕ
P = 2 ∷ 255 ∷ 1 ∷ 0 ∷ 5 ∷ 0 ∷ 1 ∷ 2 ∷ 1 ∷ 2 ∷ 1 ∷ 0 ∷ []

abbrev P9 : List ℕ
P9 = six 0 1 1 1 1 1

abbrev M9 : List ℕ
M9 = six 3 3 3 3 5 3

abbrev P10 : List ℕ
P10 = six 0 2 1 1 1 1

abbrev M10 : List ℕ
M10 = six 4 4 0 0 0 0

-- a root of this kind over two tasks
abbrev pair : ℕ → List ℕ
pair k = k ∷ 255 ∷ 1 ∷ 0 ∷ 1 ∷ 0 ∷ []

-- a root of this kind over and 1, which has task 2, and or 3, which has task 4
abbrev pairs : ℕ → List ℕ
pairs k = k ∷ 255 ∷ 3 ∷ 0 ∷ 1 ∷ 1 ∷ 4 ∷ 0 ∷ 1 ∷ 3 ∷ []

-- xor 0: and 1 of tasks 2 and 3, task 4
abbrev one_of : List ℕ
one_of = 5 ∷ 255 ∷ 3 ∷ 0 ∷ 1 ∷ 1 ∷ 1 ∷ 1 ∷ 1 ∷ 0 ∷ []

-- serial 0: and 1 of task 3, task 2
abbrev crossed : List ℕ
crossed = 2 ∷ 255 ∷ 3 ∷ 0 ∷ 1 ∷ 0 ∷ 1 ∷ 1 ∷ []

-- serial 0: serial 1 of tasks 2 and 3, task 4
abbrev nested : List ℕ
nested = 2 ∷ 255 ∷ 2 ∷ 0 ∷ 1 ∷ 1 ∷ 1 ∷ 1 ∷ 1 ∷ 0 ∷ []

-- n serials and a task, each the only child of the node before, from u on
pub links : ℕ → ℕ → List ℕ
links zero u = 1 ∷ u ∷ []
links (suc n) u = 2 ∷ u ∷ links n (suc u)

pub refusals : List Case
refusals =
    -- 1 to 6, before 7
    refused [] (0 ∷ []) [] 9 256 1
    ∷ refused (2 ∷ 255 ∷ 1 ∷ []) [] [] 0 1 1
    ∷ refused (pair 9) [] [] 9 256 2
    ∷ refused (2 ∷ 0 ∷ 1 ∷ 0 ∷ []) [] [] 9 256 3
    ∷ refused (1 ∷ 255 ∷ 1 ∷ 0 ∷ []) [] [] 9 256 4
    ∷ refused (2 ∷ 255 ∷ []) [] [] 9 256 5
    ∷ refused (2 ∷ 255 ∷ links 31 0) [] [] 9 256 6
    -- 7, before 8 and 9
    ∷ refused P (five 0 1 1 1 1) M9 6 1 7
    ∷ refused P P9 (five 3 3 3 3 5) 0 1 7
    ∷ refused P P9 (0 ∷ M9) 1 1 7
    ∷ refused P (0 ∷ P9) M9 1 1 7
    -- 8 and 9, before 13
    ∷ refused P (six 0 9 1 1 1 1) M9 6 256 8
    ∷ refused P P9 M9 4294967295 1 8
    ∷ refused P (six 0 9 1 1 1 1) M9 0 256 9
    ∷ refused P P9 M9 2 1 9
    -- 13 and 14 of the old list, though the new one would be accepted
    ∷ refused P (six 0 9 1 1 1 1) M9 1 1 13
    ∷ refused P (six 0 1 3 1 1 1) M9 1 2 14
    -- before those of the new one: 14 and 256, 14 and a new 13, 13 and a new 14
    ∷ refused P (six 0 1 3 1 1 1) M9 1 256 14
    ∷ refused P (six 0 1 3 1 1 1) M9 1 9 14
    ∷ refused P (six 0 1 1 1 1 9) M9 3 2 13
    -- what is no byte, be the task reached or not, and before 28
    ∷ refused P P9 M9 1 256 13
    ∷ refused P P9 M9 1 257 13
    ∷ refused P P10 M10 3 256 13
    ∷ refused P P10 M9 3 4294967295 13
    -- 13 and 14 of the new list, before 28
    ∷ refused P P9 M9 1 0 13
    ∷ refused P P9 M9 5 3 13
    ∷ refused P P9 M9 4 255 13
    ∷ refused P P9 M10 1 3 13
    ∷ refused P P9 M9 3 2 14
    ∷ refused P P9 M10 3 2 14
    -- 28: one mark is another, at the root, at the task, elsewhere; the marks of the new list
    ∷ refused P P9 (six 4 3 3 3 5 3) 1 2 28
    ∷ refused P P9 (six 3 4 3 3 5 3) 1 2 28
    ∷ refused P P9 (six 3 3 3 3 5 4) 1 1 28
    ∷ refused P P9 M10 1 2 28
    ∷ refused P P10 M9 3 7 28
    ∷ []

pub changes : List Case
changes =
    -- a serial's first task fails: the siblings behind it are not reached any more; and back
    case P P9 M9 1 2 0 M10
    ∷ case P P10 M10 1 1 0 M9
    -- its last task: those before it stay
    ∷ case P P9 M9 5 2 0 (six 4 3 3 3 5 4)
    -- the sibling's subtree too
    ∷ case (pairs 2) (five 0 0 1 0 1) (five 3 3 3 3 3) 2 2 0 (five 4 4 4 0 0)
    -- a contingency's: the next sibling is reached, and the root keeps its mark or not; and back
    ∷ case (pair 6) (three 0 1 1) (three 3 3 0) 1 2 0 (three 3 4 3)
    ∷ case (pair 6) (three 0 2 1) (three 3 4 3) 1 1 0 (three 3 3 0)
    ∷ case (pair 6) (three 0 2 1) (three 3 4 3) 2 2 0 (three 4 4 4)
    ∷ case (pairs 6) (five 0 0 1 0 2) (five 3 3 3 0 0) 2 2 0 (five 4 4 4 4 4)
    -- where the sibling has no answer, the new list is refused
    ∷ refused (pair 6) (three 0 1 9) (three 3 3 0) 1 2 13
    -- below an xor: it keeps its mark, and so does the child that is picked; its pick may not fail, nor begin to offer where none is picked
    ∷ case one_of (five 2 0 1 1 1) (five 3 5 3 3 3) 2 2 0 (five 3 4 4 3 3)
    ∷ case one_of (five 2 0 2 1 1) (five 3 4 4 3 3) 2 1 0 (five 3 5 3 3 3)
    ∷ refused one_of (five 1 0 1 1 1) (five 3 3 3 3 5) 2 2 14
    ∷ refused one_of (five 0 0 2 1 2) (five 4 4 4 3 4) 2 1 14
    ∷ case one_of (five 0 0 2 1 2) (five 4 4 4 3 4) 3 2 0 (five 4 4 4 4 4)
    ∷ case (pair 5) (three 1 1 1) (three 3 3 5) 2 2 0 (three 3 3 4)
    -- an and, a waiting and, an or, a conditional: the siblings stay
    ∷ case (pair 3) (three 0 1 1) (three 3 3 3) 1 2 0 (three 4 4 3)
    ∷ case (pair 8) (three 0 1 1) (three 3 3 3) 1 2 0 (three 4 4 3)
    ∷ case (pair 4) (three 0 1 1) (three 3 3 3) 1 2 0 (three 3 4 3)
    ∷ case (pair 4) (three 0 1 2) (three 3 3 4) 1 2 0 (three 4 4 4)
    ∷ case (pair 7) (three 1 1 9) (three 3 3 0) 1 2 0 (three 4 4 0)
    -- a task that is not reached takes any byte, and nothing changes
    ∷ case P P10 M10 3 7 0 M10
    ∷ case P P10 M10 5 255 0 M10
    ∷ case (pair 7) (three 1 1 9) (three 3 3 0) 2 7 0 (three 3 3 0)
    -- the answer that is there
    ∷ case P P9 M9 4 1 0 M9
    -- a plan of one task
    ∷ case (1 ∷ 255 ∷ []) (1 ∷ []) (3 ∷ []) 0 2 0 (4 ∷ [])
    ∷ []

abbrev called : Case → PassResult
called k = impact_into k.plan k.answers k.marks k.node k.answer

pub all-refusals : map called refusals ≡ map (λ k. k.result) refusals
unfolding impact_into impact_number change_number new_number are_marks pass_number fit_number pass pass_of number_of root_mark settle settle_by settle_if close walk meet meet_by child_settled unwalked nothing end_of ending note skip child_mark good_mark closes bad_pick bad_answer one_or_two goes goes_by check_number length_ok at_all kind_ok parent_ok under_block fits count_ok depth_ok kind_number is_kind kind_of size kind_byte kind parent children_below children child_count depth_within depth keep up_from all_below refusals refused case links
all-refusals = refl

pub all-changes : map called changes ≡ map (λ k. k.result) changes
unfolding impact_into impact_number change_number new_number are_marks pass_number fit_number pass pass_of number_of root_mark settle settle_by settle_if close walk meet meet_by child_settled unwalked nothing end_of ending note skip child_mark good_mark closes bad_pick bad_answer one_or_two goes goes_by check_number length_ok at_all kind_ok parent_ok under_block fits count_ok depth_ok kind_number is_kind kind_of size kind_byte kind parent children_below children child_count depth_within depth keep up_from all_below changes refused case
all-changes = refl

-- with x at the task t, w, which is in t's reach, has the mark n and no longer m
pub record Turned (p a : List ℕ) (t x w m n : ℕ) : Type 0 where
  pub one-task : OneTask p a (set a t x) t
  pub in_reach : InReach p t w
  pub was : pass_mark p a w ≡ m
  pub is : pass_mark p (set a t x) w ≡ n

-- O2: the task, the blocks above it, and what follows one of them really change
abbrev pub Turns : Type 0
Turns =
    Turned P P9 1 2 1 3 4
    × Turned P P9 1 2 0 3 4
    × Turned P P9 1 2 5 3 0
    × Turned P P9 1 2 4 5 0
    × Turned (pairs 2) (five 0 0 1 0 1) 2 2 1 3 4
    × Turned (pairs 2) (five 0 0 1 0 1) 2 2 4 3 0
    × Turned (pair 6) (three 0 1 1) 1 2 2 0 3
    × Turned (pairs 6) (five 0 0 1 0 2) 2 2 0 3 4
    × Turned (pairs 6) (five 0 0 1 0 2) 2 2 4 0 4

turned : (p a : List ℕ) (t x w m n : ℕ) → ltb t (size p) ≡ true → kind p t ≡ task → (pass p a).number ≡ 0 → (pass p (set a t x)).number ≡ 0 → InReach p t w →
    pass_mark p a w ≡ m → pass_mark p (set a t x) w ≡ n → Turned p a t x w m n
turned p a t x w m n l k za zb r was is = record {
  one-task = one_set p a t x (ltb-true t (size p) l) k za zb;
  in_reach = r;
  was = was;
  is = is;
}

-- from the root's child c to its sibling s
follows : (p : List ℕ) (c s : ℕ) → ltb 0 c ≡ true → ltb c s ≡ true → parent p c ≡ 0 → parent p s ≡ 0 → (kind p 0 ≡ serial) ⊎ (kind p 0 ≡ contingency) → Follows p c s
follows p c s i l e f k = record {
  inner = ltb-true 0 c i;
  later = ltb-true c s l;
  sibling = f ∙ sym e;
  one_by_one = subst (λ v. (kind p v ≡ serial) ⊎ (kind p v ≡ contingency)) (sym e) k;
}

-- in pairs, from task 2 to task 4
next-pair : (k : ℕ) → (kind (pairs k) 0 ≡ serial) ⊎ (kind (pairs k) 0 ≡ contingency) → InReach (pairs k) 2 4
unfolding parent
next-pair k e = after 1 3 (up {w = 2} (omega arith) (self refl)) (follows (pairs k) 1 3 refl refl refl refl e) (up {w = 4} (omega arith) (self refl))

pub turns : Turns
unfolding pass_mark pass pass_of number_of root_mark settle settle_by settle_if close walk meet meet_by child_settled unwalked nothing end_of ending note skip child_mark good_mark closes bad_pick bad_answer one_or_two goes goes_by kind_number is_kind kind_of size kind_byte kind parent children_below children keep up_from
turns = (
  turned P P9 1 2 1 3 4 refl refl refl refl (above (self refl)) refl refl,
  turned P P9 1 2 0 3 4 refl refl refl refl (above (up (omega arith) (self refl))) refl refl,
  turned P P9 1 2 5 3 0 refl refl refl refl (after 1 5 (self refl) (follows P 1 5 refl refl refl refl (inl refl)) (self refl)) refl refl,
  turned P P9 1 2 4 5 0 refl refl refl refl (after 1 2 (self refl) (follows P 1 2 refl refl refl refl (inl refl)) (up (omega arith) (self refl))) refl refl,
  turned (pairs 2) (five 0 0 1 0 1) 2 2 1 3 4 refl refl refl refl (above (up (omega arith) (self refl))) refl refl,
  turned (pairs 2) (five 0 0 1 0 1) 2 2 4 3 0 refl refl refl refl (next-pair 2 (inl refl)) refl refl,
  turned (pair 6) (three 0 1 1) 1 2 2 0 3 refl refl refl refl (after 1 2 (self refl) (follows (pair 6) 1 2 refl refl refl refl (inr refl)) (self refl)) refl refl,
  turned (pairs 6) (five 0 0 1 0 2) 2 2 0 3 4 refl refl refl refl (above (up (omega arith) (up (omega arith) (self refl)))) refl refl,
  turned (pairs 6) (five 0 0 1 0 2) 2 2 4 0 4 refl refl refl refl (next-pair 6 (inr refl)) refl refl,
)

-- nodes above a child of the root, and above a child of that
above_root : (p : List ℕ) (u : ℕ) → Under p u 0 → u ≡ 0
above_root p u (self e) = e
above_root p u (up l b) = absurd (omega arith)

above-child : (p : List ℕ) (u c : ℕ) → parent p c ≡ 0 → Under p u c → (u ≡ c) ⊎ (u ≡ 0)
above-child p u c e (self q) = inl q
above-child p u c e (up l b) = inr (above_root p u (subst (Under p u) e b))

above-grandchild : (p : List ℕ) (u d c : ℕ) → parent p d ≡ c → parent p c ≡ 0 → Under p u d → (u ≡ d) ⊎ (u ≡ c) ⊎ (u ≡ 0)
above-grandchild p u d c e f (self q) = inl q
above-grandchild p u d c e f (up l b) = inr (above-child p u c f (subst (Under p u) e b))

-- what follows a child c of the root follows just it, and the root is a serial or a contingency
record Behind (p : List ℕ) (c s : ℕ) : Type 0 where
  later : c < s
  sibling : parent p s ≡ 0
  one_by_one : (kind p 0 ≡ serial) ⊎ (kind p 0 ≡ contingency)

behind : (p : List ℕ) (c u s : ℕ) → parent p c ≡ 0 → Under p u c → Follows p u s → Behind p c s
behind p c u s e x f = cases (above-child p u c e x)
    (λ q. record {
      later = subst (λ v. v < s) q f.later;
      sibling = f.sibling ∙ ap (parent p) q ∙ e;
      one_by_one = subst (λ v. (kind p v ≡ serial) ⊎ (kind p v ≡ contingency)) (ap (parent p) q ∙ e) f.one_by_one;
    })
    (λ q. absurd (lower f.inner q))
  where
    lower : 0 < u → u ≡ 0 → ⊥
    lower l q = omega arith

-- O2: nothing else is in reach. Earlier siblings and their subtrees, though these be serials, or their numbers higher; siblings below any other block,
-- though something follows that block
abbrev pub Spared : Type 0
Spared =
    (InReach P 5 1 → ⊥)
    × (InReach P 5 4 → ⊥)
    × (InReach nested 4 3 → ⊥)
    × (InReach crossed 2 3 → ⊥)
    × (InReach P 3 4 → ⊥)
    × (InReach (pair 3) 1 2 → ⊥)
    × (InReach (pair 4) 1 2 → ⊥)
    × (InReach (pair 5) 1 2 → ⊥)
    × (InReach (pair 7) 1 2 → ⊥)
    × (InReach (pair 8) 1 2 → ⊥)

-- a task that is a child of the root, and a node that is not above it and in no subtree behind it
spared : (p : List ℕ) (t w : ℕ) → parent p t ≡ 0 → (Under p w t → ⊥) → ((s : ℕ) → Behind p t s → Under p s w → ⊥) → InReach p t w → ⊥
spared p t w e n h (above x) = n x
spared p t w e n h (after u s x f y) = h s (behind p t u s e x f) y

-- a node before it
spared-before : (p : List ℕ) (t w : ℕ) → check_number p ≡ 0 → ltb t (size p) ≡ true → parent p t ≡ 0 → ltb 0 w ≡ true → ltb w t ≡ true → InReach p t w → ⊥
spared-before p t w ok l e pos before =
    let i = ltb-true t (size p) l in
    let j = ltb-true 0 w pos in
    let k = ltb-true w t before in
    spared p t w e (λ x. cases (above-child p w t e x) (λ q. omega arith) (λ q. omega arith))
    (λ s b y. let low = under_low p ((check-exact p).0 ok) s w (omega arith) y in omega (arith, b.later))

-- siblings below a block of another kind
spared-pair : (k : ℕ) → eqb (kind_number (kind (pair k) 0)) 2 ≡ false → eqb (kind_number (kind (pair k) 0)) 6 ≡ false → InReach (pair k) 1 2 → ⊥
unfolding parent
spared-pair k n2 n6 = spared (pair k) 1 2 refl (λ x. cases (above-child (pair k) 2 1 refl x) (λ q. omega arith) (λ q. omega arith)) (λ s b y. other b.one_by_one)
  where
    other : (kind (pair k) 0 ≡ serial) ⊎ (kind (pair k) 0 ≡ contingency) → ⊥
    other e = unfold kind_number in cases e (λ q. eqb-false _ 2 n2 (ap kind_number q)) (λ q. eqb-false _ 6 n6 (ap kind_number q))

-- from a child of the xor in P
picked : InReach P 3 4 → ⊥
unfolding parent kind kind_of kind_byte
picked (above x) = cases (above-grandchild P 4 3 2 refl refl x) (λ q. omega arith) (λ q. cases q (λ z. omega arith) (λ z. omega arith))
picked (after u s x f y) = cases (above-grandchild P u 3 2 refl refl x)
    (λ q. other (ap (parent P) q) f.one_by_one)
    (λ q. cases q (λ z. behind-xor s (behind P 2 u s refl (self z) f) (above-grandchild P s 4 2 refl refl y)) (λ z. let l = f.inner in omega arith))
  where
    other : parent P u ≡ parent P 3 → (kind P (parent P u) ≡ serial) ⊎ (kind P (parent P u) ≡ contingency) → ⊥
    other e h = unfold parent kind kind_of kind_byte kind_number in
        cases h (λ q. let z : ◌≡◌ {A = ℕ} 5 2 = sym (ap (λ v. kind_number (kind P v)) e) ∙ ap kind_number q in omega arith)
        (λ q. let z : ◌≡◌ {A = ℕ} 5 6 = sym (ap (λ v. kind_number (kind P v)) e) ∙ ap kind_number q in omega arith)

    behind-xor : (s : ℕ) → Behind P 2 s → (s ≡ 4) ⊎ (s ≡ 2) ⊎ (s ≡ 0) → ⊥
    behind-xor s b h = cases h (λ q. let z : ◌≡◌ {A = ℕ} 2 0 = unfold parent in sym (ap (parent P) q) ∙ b.sibling in omega arith)
        (λ q. cases q (λ z. omega (arith, b.later)) (λ z. omega (arith, b.later)))

pub all-spared : Spared
unfolding check_number length_ok at_all kind_ok parent_ok under_block fits count_ok depth_ok kind_of size kind_byte kind parent children_below children child_count depth_within depth keep up_from all_below kind_number
all-spared = (
  spared-before P 5 1 refl refl refl refl refl,
  spared-before P 5 4 refl refl refl refl refl,
  spared-before nested 4 3 refl refl refl refl refl,
  spared crossed 2 3 refl (λ x. cases (above-child crossed 3 2 refl x) (λ q. omega arith) (λ q. omega arith))
      (λ s b y. cases (above-grandchild crossed s 3 1 refl refl y) (λ q. cross s b q) (λ q. cases q (λ z. omega (arith, b.later)) (λ z. omega (arith, b.later)))),
  picked,
  spared-pair 3 refl refl,
  spared-pair 4 refl refl,
  spared-pair 5 refl refl,
  spared-pair 7 refl refl,
  spared-pair 8 refl refl,
)
  where
    cross : (s : ℕ) → Behind crossed 2 s → s ≡ 3 → ⊥
    cross s b q = let z : ◌≡◌ {A = ℕ} 1 0 = unfold parent in sym (ap (parent crossed) q) ∙ b.sibling in omega arith
