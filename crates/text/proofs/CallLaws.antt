-- What the answers of the public functions are, test by test. Assumes nothing.
use mathlib.Core.Path.{◌≡◌, sym, ◌∙◌, ap}
use mathlib.Core.Bool.{Bool, true, false, not}
use mathlib.Core.List.{List, flatten, append-nil}
use Prim.Native.Nat.{ℕ, ◌+◌, ◌-◌, ◌*◌, ◌/◌, ◌≤◌, ◌<◌}
use native.Mathlib.Omega.{arith}
use Rattle.std.specs.Prelude.{Option, Some, None}
use borrow.Author.Tests.{not-true, not-false, eq-eqb, ne_eqb, le-leb, lt-leb}
use lib.Dec.{eqb}
use lib.ListN.{length, take, drop, length-drop, drop_of_length-le}
use lib.Seq.{take_at}
use Rattle.lists.proofs.Logic.{cases, decided}
use Rattle.text.specs.Text.{lines, is_bar, has_table, table_lines, body_at, body, plan_lines, step_lines, bar_text, step_text, body_formed, well_formed, table_bytes, plan_bytes, step_bytes}
use Rattle.text.specs.Calls.{counted, malformed, body_counts, counts_of, in_front, Laid, Reading, reading, read_into}
use Rattle.text.specs.declared.Counts.{Counts}
use Rattle.text.proofs.TextLaws.{rest, rest-is, bar-long, lines_fit, table_at, table-lines, table-room, no-table-at, no-table-lines, formed-bar, formed-steps, formed-short, formed-body}
use Rattle.text.proofs.DecodeLaws.{lines-length}

-- n plan lines stand at the front of b, behind a table of h bytes
module _ (h : ℕ) (b : List ℕ) where
  malformed-by : body_formed b ≡ false → malformed ≡ body_counts h b
  unfolding body_counts
  malformed-by f = rw f

  module _ (n : ℕ) (plan : n ≡ length (lines 2 b)) where
    pub plan-room : 5 * n ≤ length b
    plan-room = omega (arith, plan, lines_fit 2 b)

    pub counts-no-bar : {r : Bool} → r ≡ is_bar 45 (rest b (5 * n)) → not r ≡ true → malformed ≡ body_counts h b
    unfolding body_formed bar_text plan_lines
    counts-no-bar {r} e f = malformed-by (rw (← plan, ← rest-is b (5 * n), ← e, not-true r f))

-- and the line `--` behind them
pub record Parted (b : List ℕ) (n : ℕ) : Type 0 where
  pub plan : n ≡ length (lines 2 b)
  pub bar : is_bar 45 (drop (5 * n) b) ≡ true

pub parted : {b : List ℕ} {n : ℕ} {r : Bool} → n ≡ length (lines 2 b) → r ≡ is_bar 45 (rest b (5 * n)) → not r ≡ false → Parted b n
parted {b} {n} {r} plan e f = record { plan = plan; bar = ap (is_bar 45) (sym (rest-is b (5 * n))) ∙ sym e ∙ not-false r f }

module _ {b : List ℕ} {n : ℕ} (q : Parted b n) where
  pub bar-room : 5 * n + 3 ≤ length b
  bar-room = omega (arith, q.plan, lines_fit 2 b, bar-long 45 (drop (5 * n) b) q.bar, length-drop (5 * n) b)

  module _ {m : ℕ} (e : m ≡ length (lines 3 (rest b (5 * n + 3)))) where
    steps-are : m ≡ length (step_lines b)
    unfolding step_lines step_text plan_lines
    steps-are = e ∙ ap (λ s. length (lines 3 s)) (rest-is b (5 * n + 3) ∙ rw q.plan)

    long : length (step_text b) ≡ length b - (5 * n + 3)
    unfolding step_text plan_lines
    long = rw (← q.plan) (length-drop (5 * n + 3) b)

    pub steps-room : 5 * n + 3 + 7 * m ≤ length b
    steps-room = omega (arith, bar-room, e, lines_fit 3 (rest b (5 * n + 3)), ap length (rest-is b (5 * n + 3)), length-drop (5 * n + 3) b)

    formed : body_formed b ≡ eqb (length b - (5 * n + 3)) (7 * m)
    unfolding body_formed bar_text plan_lines
    formed = rw (← q.plan, q.bar, long, ← steps-are)

    pub counts-not : (h : ℕ) → (length b - (5 * n + 3) ≡ 7 * m → ⊥) → malformed ≡ body_counts h b
    counts-not h f = malformed-by h b (formed ∙ ne_eqb (length b - (5 * n + 3)) (7 * m) f)

    pub counts-done : (h : ℕ) → length b - (5 * n + 3) ≡ 7 * m → counted h n m ≡ body_counts h b
    unfolding body_counts plan_lines
    counts-done h f = rw (formed ∙ eq-eqb (length b - (5 * n + 3)) (7 * m) f, ← q.plan, ← steps-are)

-- where the text behind the table begins: n lines stand at the front of t
module _ (t : List ℕ) (n : ℕ) (front : n ≡ length (lines 2 t)) {r : Bool} (e : r ≡ is_bar 61 (rest t (5 * n))) where
  table-told : r ≡ has_table t
  unfolding has_table
  table-told = e ∙ ap (is_bar 61) (rest-is t (5 * n)) ∙ rw front

  pub at_none : not r ≡ true → 0 ≡ body_at t
  at_none f = sym (no-table-at t (sym table-told ∙ not-true r f))

  pub at_some : not r ≡ false → 5 * n + 3 ≡ body_at t
  at_some f = omega (arith, table_at t (sym table-told ∙ not-false r f), front)

  pub at_room : not r ≡ false → 5 * n + 3 ≤ length t
  at_room f = omega (arith, table-room t (sym table-told ∙ not-false r f), front)

-- the whole text's counts
module _ (t : List ℕ) where
  pub counts-long : 32768 < length t → malformed ≡ counts_of t
  unfolding counts_of well_formed
  counts-long l = rw (lt-leb (length t) 32768 l)

  pub counts-body : {c : Option Counts} {h : ℕ} → length t ≤ 32768 → h ≡ body_at t → c ≡ body_counts h (rest t h) → c ≡ counts_of t
  unfolding counts_of well_formed body_counts body
  counts-body {c} {h} l f g = g ∙ rw (rest-is t h, f, le-leb (length t) 32768 l)

-- the table's bytes: h is the place behind it
module _ (t : List ℕ) {h : ℕ} (e : h ≡ body_at t) where
  pub no_table : h ≡ 0 → (x : List ℕ) → x ≡ in_front (table_bytes t) x
  unfolding in_front table_bytes flatten
  no_table z x = cases (decided (has_table t))
      (λ f. absurd (omega (arith, table_at t f)))
      (λ f. rw (no-table-lines t f, le-leb 0 (length x) (omega arith)))

  headed : (h ≡ 0 → ⊥) → has_table t ≡ true
  headed n = cases (decided (has_table t)) (λ f. f) (λ f. absurd (n (e ∙ no-table-at t f)))

  pub table-count : (h ≡ 0 → ⊥) → h / 5 ≡ length (lines 2 t)
  table-count n = omega (arith, table_at t (headed n))

  pub table_done : (h ≡ 0 → ⊥) → (x : List ℕ) {x' : List ℕ} → x' ≡ in_front (flatten (lines 2 t)) x → x' ≡ in_front (table_bytes t) x
  unfolding table_bytes
  table_done n x f = f ∙ rw (table-lines t (headed n))

-- the plan's lines and the steps' in the text behind the table
module _ {b : List ℕ} {n m : ℕ} (q : Laid b n m) where
  pub laid-plan : n ≡ length (lines 2 b)
  unfolding plan_lines
  laid-plan = q.plan

  laid-text : rest b (5 * n + 3) ≡ step_text b
  unfolding step_text
  laid-text = rest-is b (5 * n + 3) ∙ ap (λ n. drop (5 * n + 3) b) q.plan

  pub laid-steps : m ≡ length (lines 3 (rest b (5 * n + 3)))
  unfolding step_lines
  laid-steps = q.steps ∙ ap (λ s. length (lines 3 s)) (sym laid-text)

  pub laid-plan-done : (x : List ℕ) {x' : List ℕ} → x' ≡ in_front (flatten (lines 2 b)) x → x' ≡ in_front (flatten (plan_lines b)) x
  unfolding plan_lines
  laid-plan-done x f = f

  pub laid-steps-done : (x : List ℕ) {x' : List ℕ} → x' ≡ in_front (flatten (lines 3 (rest b (5 * n + 3)))) x → x' ≡ in_front (flatten (step_lines b)) x
  unfolding step_lines
  laid-steps-done x f = f ∙ rw laid-text

-- what the counts of t tell: none where it is malformed, else c
module _ (t : List ℕ) where
  none-is : None ≡ counts_of t → well_formed t ≡ false
  unfolding counts_of
  none-is e = cases (decided (well_formed t)) (λ f. let g = rw f at e in cc) (λ f. f)

  pub read-not : (h p s : List ℕ) → None ≡ counts_of t → read_into t h p s ≡ reading None h p s
  unfolding read_into
  read-not h p s e = rw (none-is e, e)

  module _ {c : Counts} (e : Some c ≡ counts_of t) where
    pub formed-is : well_formed t ≡ true
    unfolding counts_of
    formed-is = cases (decided (well_formed t)) (λ f. f) (λ f. let g = rw f at e in cc)

    counts-are : c ≡ record { head = body_at t; plan = length (plan_lines (body t)); steps = length (step_lines (body t)) }
    unfolding counts_of
    counts-are = let g = rw formed-is at e in cc

    pub told-head : c.head ≡ body_at t
    told-head = ap (λ (k : Counts). k.head) counts-are

    pub told-body : rest t c.head ≡ body t
    unfolding body
    told-body = rest-is t c.head ∙ ap (λ n. drop n t) told-head

    laid : Laid (body t) c.plan c.steps
    unfolding bar_text plan_lines
    laid =
        let n : c.plan ≡ length (lines 2 (body t)) = ap (λ (k : Counts). k.plan) counts-are in
        record {
          plan = n;
          steps = ap (λ (k : Counts). k.steps) counts-are;
          room = omega (
            arith,
            n,
            lines_fit 2 (body t),
            bar-long 45 (bar_text (body t)) (formed-bar (body t) (formed-body t formed-is)),
            length-drop (5 * length (lines 2 (body t))) (body t),
          );
        }

    pub told-laid : Laid (rest t c.head) c.plan c.steps
    told-laid = rw told-body laid

    pub read_done : (h p s : List ℕ) {h' p' s' : List ℕ} → h' ≡ in_front (table_bytes t) h → p' ≡ in_front (flatten (plan_lines (rest t c.head))) p →
        s' ≡ in_front (flatten (step_lines (rest t c.head))) s → read_into t h p s ≡ reading (Some c) h' p' s'
    unfolding read_into plan_bytes step_bytes
    read_done h p s x y z = rw (formed-is, x, y, z, told-body, e)

-- x at the front of a buffer with room for it
pub front-is : (x b : List ℕ) (n : ℕ) → length x ≡ n → n ≤ length b → take n (in_front x b) ≡ x
unfolding in_front
front-is x b n e l = rw (le-leb (length x) (length b) (omega arith)) (take_at x (drop (length x) b) n e)

-- x in a buffer of its length
pub front-all : (x b : List ℕ) → length x ≡ length b → in_front x b ≡ x
unfolding in_front
front-all x b e = rw (le-leb (length x) (length b) (omega arith), drop_of_length-le b {i = length x} (omega arith), append-nil)

-- the numbers of bytes
pub table-bytes : (t : List ℕ) → length (table_bytes t) ≡ 2 * length (table_lines t)
unfolding table_bytes flatten
table-bytes t = cases (decided (has_table t)) (λ f. rw (table-lines t f) (lines-length 2 t)) (λ f. rw (no-table-lines t f))

pub plan-bytes : (t : List ℕ) → length (plan_bytes t) ≡ 2 * length (plan_lines (body t))
unfolding plan_bytes plan_lines
plan-bytes t = lines-length 2 (body t)

pub step-bytes : (t : List ℕ) → length (step_bytes t) ≡ 3 * length (step_lines (body t))
unfolding step_bytes step_lines
step-bytes t = lines-length 3 (step_text (body t))

pub steps-few : (t : List ℕ) → well_formed t ≡ true → 7 * length (step_lines (body t)) ≤ 32768
unfolding step_text body
steps-few t h =
    omega (
      arith,
      formed-short t h,
      formed-steps (body t) (formed-body t h),
      length-drop (5 * length (plan_lines (body t)) + 3) (body t),
      length-drop (body_at t) t,
    )

-- what a caller of `read` is told of a well-formed text, and of another
pub record ReadTold (t h p s : List ℕ) (c : Counts) (h' p' s' : List ℕ) : Type 0 where
  pub formed : well_formed t ≡ true
  pub head : c.head ≡ body_at t
  pub plan-long : length (plan_bytes t) ≡ 2 * c.plan
  pub steps-long : length (step_bytes t) ≡ 3 * c.steps
  pub few : 7 * c.steps ≤ 32768
  pub table : h' ≡ in_front (table_bytes t) h
  pub plan : p' ≡ in_front (plan_bytes t) p
  pub steps : s' ≡ in_front (step_bytes t) s

module _ (t h p s : List ℕ) {o : Option Counts} {h' p' s' : List ℕ} (g : read_into t h p s ≡ reading o h' p' s') where
  same-counts : o ≡ counts_of t
  unfolding read_into
  same-counts = sym (ap (λ (r : Reading). r.counts) g) ∙ cases (decided (well_formed t)) (λ f. rw f) (λ f. rw f)

  pub read-malformed : o ≡ None → well_formed t ≡ false
  read-malformed n = none-is t (sym n ∙ same-counts)

  pub read-formed : {c : Counts} → o ≡ Some c → ReadTold t h p s c h' p' s'
  unfolding read_into
  read-formed {c} n =
      let e : Some c ≡ counts_of t = sym n ∙ same-counts in
      let f = formed-is t e in
      let q = rw f at g in
      let k = counts-are t e in
      record {
        formed = f;
        head = told-head t e;
        plan-long = plan-bytes t ∙ ap (λ (r : Counts). 2 * r.plan) (sym k);
        steps-long = step-bytes t ∙ ap (λ (r : Counts). 3 * r.steps) (sym k);
        few = rw k (steps-few t f);
        table = sym (ap (λ (r : Reading). r.table) q);
        plan = sym (ap (λ (r : Reading). r.plan) q);
        steps = sym (ap (λ (r : Reading). r.steps) q);
      }
