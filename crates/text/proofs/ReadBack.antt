-- The text of some lines is well-formed, and these lines are read of it. Assumes nothing.
use mathlib.Core.Path.{◌≡◌, refl, sym, ◌∙◌, ap}
use mathlib.Core.Bool.{true, false, ◌&&◌}
use mathlib.Core.List.{List, [], ◌∷◌, ◌++◌, flat_map, append_assoc, append-nil}
use mathlib.Core.Option.{Option, none, some}
use Prim.Native.Nat.{ℕ, zero, suc, ◌+◌, ◌*◌, ◌/◌, ◌%◌, ◌≤◌, ◌<◌}
use native.Mathlib.Nat.{div-add-mod'}
use native.Mathlib.Omega.{arith}
use borrow.Author.Tests.{eqb-true, eqb-false, eq-eqb, le-leb, ltb-true}
use lib.Dec.{eqb, ltb}
use lib.ListN.{length, get_or, drop, length-append, get_or-append}
use lib.Seq.{drop_at, drop-drop}
use Rattle.lists.specs.Seq.{all, all_below}
use Rattle.lists.proofs.Logic.{cases, decided, and_left, and_right}
use Rattle.lists.proofs.Below.{below_by, below_at}
use Rattle.lists.proofs.Table.{table-by}
use Rattle.text.specs.Hex.{is_digit, value_of, digit_of, digit_at, is_line, line_byte, line_bytes, hex_line}
use Rattle.text.specs.Text.{lines, is_bar, has_table, body, plan_lines, bar_text, step_text, step_lines, body_formed, well_formed, head_of, body_of, text_of, table_in, is_bytes, are_lines, is_head}
use Rattle.text.proofs.TextLaws.{lines_none, lines-some, table_at, no-table-body}
use Rattle.text.proofs.PrintLaws.{hex-length}

-- the digit of a value below 16 is a digit, and that is its value: all sixteen, computed
sixteen : all_below (λ n. is_digit (digit_of n) && eqb (value_of (digit_of n)) n) 16 ≡ true
unfolding all_below is_digit value_of digit_of
sixteen = refl

module _ (n : ℕ) (l : n < 16) where
  digit-is : is_digit (digit_of n) ≡ true
  digit-is = and_left (is_digit (digit_of n)) (eqb (value_of (digit_of n)) n) (below_at _ 16 n sixteen l)

  value-is : value_of (digit_of n) ≡ n
  value-is = eqb-true (value_of (digit_of n)) n (and_right (is_digit (digit_of n)) (eqb (value_of (digit_of n)) n) (below_at _ 16 n sixteen l))

-- what stands in a line
small_at : (bs : List ℕ) (i : ℕ) → all (λ b. ltb b 256) bs ≡ true → get_or bs i 0 < 256
unfolding all
small_at [] i h = omega arith
small_at (b ∷ bs) zero h = ltb-true b 256 (and_left (ltb b 256) (all (λ b. ltb b 256) bs) h)
small_at (b ∷ bs) (suc i) h = small_at bs i (and_right (ltb b 256) (all (λ b. ltb b 256) bs) h)

hex-high : (bs : List ℕ) (i : ℕ) → i < length bs → get_or (hex_line bs) (2 * i) 0 ≡ digit_of (get_or bs i 0 / 16)
unfolding hex_line
hex-high [] i l = absurd (omega arith)
hex-high (b ∷ bs) zero l = refl
hex-high (b ∷ bs) (suc i) l = let e : 2 * suc i ≡ suc (suc (2 * i)) = omega arith in rw e (hex-high bs i (omega arith))

hex-low : (bs : List ℕ) (i : ℕ) → i < length bs → get_or (hex_line bs) (2 * i + 1) 0 ≡ digit_of (get_or bs i 0 % 16)
unfolding hex_line
hex-low [] i l = absurd (omega arith)
hex-low (b ∷ bs) zero l = refl
hex-low (b ∷ bs) (suc i) l = let e : 2 * suc i + 1 ≡ suc (suc (2 * i + 1)) = omega arith in rw e (hex-low bs i (omega arith))

hex-end : (bs : List ℕ) → get_or (hex_line bs) (2 * length bs) 0 ≡ 10
unfolding hex_line
hex-end [] = refl
hex-end (b ∷ bs) = let e : 2 * suc (length bs) ≡ suc (suc (2 * length bs)) = omega arith in rw e (hex-end bs)

-- a line of k bytes with something behind it
module _ (k : ℕ) (bs s : List ℕ) (h : is_bytes k bs ≡ true) where
  long : length bs ≡ k
  unfolding is_bytes
  long = eqb-true (length bs) k (and_left (eqb (length bs) k) (all (λ b. ltb b 256) bs) h)

  small : (i : ℕ) → get_or bs i 0 < 256
  unfolding is_bytes
  small i = small_at bs i (and_right (eqb (length bs) k) (all (λ b. ltb b 256) bs) h)

  front : (j : ℕ) → j ≤ 2 * k → get_or (hex_line bs ++ s) j 0 ≡ get_or (hex_line bs) j 0
  front j l = get_or-append (hex_line bs) s 0 j (omega (arith, hex-length bs, long))

  module _ (i : ℕ) (l : i < k) where
    high : get_or (hex_line bs ++ s) (2 * i) 0 ≡ digit_of (get_or bs i 0 / 16)
    high = front (2 * i) (omega arith) ∙ hex-high bs i (omega (arith, long))

    low : get_or (hex_line bs ++ s) (2 * i + 1) 0 ≡ digit_of (get_or bs i 0 % 16)
    low = front (2 * i + 1) (omega arith) ∙ hex-low bs i (omega (arith, long))

    high_small : get_or bs i 0 / 16 < 16
    high_small = omega (arith, small i)

    low_small : get_or bs i 0 % 16 < 16
    low_small = omega (arith, small i)

    byte-is : get_or bs i 0 ≡ line_byte (hex_line bs ++ s) i
    unfolding line_byte
    byte-is = rw (high, low, value-is (get_or bs i 0 / 16) high_small, value-is (get_or bs i 0 % 16) low_small) (sym (div-add-mod' (get_or bs i 0) 16))

  digits : (j : ℕ) → j < 2 * k → digit_at (hex_line bs ++ s) j ≡ true
  unfolding digit_at
  digits j l =
      let i = j / 2 in
      let m : i < k = omega arith in
      cases (decided (eqb (j % 2) 0))
      (λ e. let f : j ≡ 2 * i = omega (arith, eqb-true (j % 2) 0 e) in rw (ap (λ n. get_or (hex_line bs ++ s) n 0) f ∙ high i m) (digit-is (get_or bs i 0 / 16) (high_small i m)))
      (λ e. let f : j ≡ 2 * i + 1 = omega (arith, eqb-false (j % 2) 0 e) in rw (ap (λ n. get_or (hex_line bs ++ s) n 0) f ∙ low i m) (digit-is (get_or bs i 0 % 16) (low_small i m)))

  feed : get_or (hex_line bs ++ s) (2 * k) 0 ≡ 10
  feed = front (2 * k) (omega arith) ∙ ap (λ n. get_or (hex_line bs) (2 * n) 0) (sym long) ∙ hex-end bs

  line-is : is_line k (hex_line bs ++ s) ≡ true
  unfolding is_line
  line-is = rw (below_by (digit_at (hex_line bs ++ s)) (2 * k) digits, feed)

  bytes-are : line_bytes k (hex_line bs ++ s) ≡ bs
  unfolding line_bytes
  bytes-are = sym (table-by (line_byte (hex_line bs ++ s)) k bs long byte-is)

  rest-is : drop (2 * k + 1) (hex_line bs ++ s) ≡ s
  rest-is = drop_at (hex_line bs) s (2 * k + 1) (hex-length bs ∙ ap (λ n. 2 * n + 1) long)

-- the lines that are read of a text that begins with lines
lines-read : (k : ℕ) (ls : List (List ℕ)) (s : List ℕ) → are_lines k ls ≡ true → is_line k s ≡ false → lines k (flat_map hex_line ls ++ s) ≡ ls
unfolding are_lines all flat_map
lines-read k [] s h f = lines_none k s f
lines-read k (l ∷ ls) s h f =
    let a = and_left (is_bytes k l) (all (is_bytes k) ls) h in
    let t = flat_map hex_line ls ++ s in
    ap (lines k) (append_assoc (hex_line l) (flat_map hex_line ls) s) ∙ lines-some k (hex_line l ++ t) (line-is k l t a)
    ∙ ap (λ u. u ∷ lines k (drop (2 * k + 1) (hex_line l ++ t))) (bytes-are k l t a)
    ∙ ap (λ u. l ∷ lines k u) (rest-is k l t a) ∙ ap (λ u. l ∷ u) (lines-read k ls s (and_right (is_bytes k l) (all (is_bytes k) ls) h) f)

-- their length
lines_long : (k : ℕ) (ls : List (List ℕ)) → are_lines k ls ≡ true → length (flat_map hex_line ls) ≡ (2 * k + 1) * length ls
unfolding are_lines all flat_map
lines_long k [] h = omega arith
lines_long k (l ∷ ls) h =
    omega (
      arith,
      length-append (hex_line l) (flat_map hex_line ls),
      hex-length l,
      long k l [] (and_left (is_bytes k l) (all (is_bytes k) ls) h),
      lines_long k ls (and_right (is_bytes k l) (all (is_bytes k) ls) h),
    )

-- no line begins with a sign
no_line : (c : ℕ) (s : List ℕ) → is_digit c ≡ false → is_line 2 (c ∷ s) ≡ false
unfolding is_line all_below digit_at
no_line c s h = rw h

-- the text behind the table
module _ (ps ss : List (List ℕ)) (hp : are_lines 2 ps ≡ true) (hs : are_lines 3 ss ≡ true) where
  plan-read : plan_lines (body_of ps ss) ≡ ps
  unfolding plan_lines body_of
  plan-read = lines-read 2 ps (45 ∷ 45 ∷ 10 ∷ flat_map hex_line ss) hp (no_line 45 (45 ∷ 10 ∷ flat_map hex_line ss) (unfold is_digit in refl))

  bar-is : bar_text (body_of ps ss) ≡ 45 ∷ 45 ∷ 10 ∷ flat_map hex_line ss
  unfolding bar_text body_of
  bar-is = ap (λ n. drop n (body_of ps ss)) (ap (λ ls. 5 * length ls) plan-read) ∙ drop_at (flat_map hex_line ps) (45 ∷ 45 ∷ 10 ∷ flat_map hex_line ss) (5 * length ps) (lines_long 2 ps hp)

  step_is : step_text (body_of ps ss) ≡ flat_map hex_line ss
  unfolding step_text bar_text
  step_is = sym (drop-drop 3 (5 * length (plan_lines (body_of ps ss))) (body_of ps ss)) ∙ ap (drop 3) bar-is

  steps-read : step_lines (body_of ps ss) ≡ ss
  unfolding step_lines
  steps-read = ap (lines 3) (step_is ∙ sym (append-nil (flat_map hex_line ss))) ∙ lines-read 3 ss [] hs (unfold is_line all_below digit_at is_digit in refl)

  formed-is : body_formed (body_of ps ss) ≡ true
  unfolding body_formed is_bar
  formed-is = rw (bar-is, steps-read) (eq-eqb (length (step_text (body_of ps ss))) (7 * length ss) (ap length step_is ∙ lines_long 3 ss hs))

-- the table: what is read, and that the rest is the text behind it
pub record HeadRead (h : Option (List (List ℕ))) (b : List ℕ) : Type 0 where
  pub table : table_in (head_of h ++ b) ≡ h
  pub rest : body (head_of h ++ b) ≡ b

module _ (b : List ℕ) where
  no-head : has_table b ≡ false → HeadRead none b
  unfolding table_in head_of
  no-head e = record { table = rw e; rest = no-table-body b e }

  module _ (hs : List (List ℕ)) (h : are_lines 2 hs ≡ true) where
    abbrev t : List ℕ
    t = flat_map hex_line hs ++ (61 ∷ 61 ∷ 10 ∷ b)

    head-lines : lines 2 t ≡ hs
    head-lines = lines-read 2 hs (61 ∷ 61 ∷ 10 ∷ b) h (no_line 61 (61 ∷ 10 ∷ b) (unfold is_digit in refl))

    bar-at : drop (5 * length (lines 2 t)) t ≡ 61 ∷ 61 ∷ 10 ∷ b
    bar-at = ap (λ ls. drop (5 * length ls) t) head-lines ∙ drop_at (flat_map hex_line hs) (61 ∷ 61 ∷ 10 ∷ b) (5 * length hs) (lines_long 2 hs h)

    has : has_table t ≡ true
    unfolding has_table is_bar
    has = rw bar-at

    rest_at : body t ≡ b
    unfolding body
    rest_at = ap (λ n. drop n t) (table_at t has) ∙ sym (drop-drop 3 (5 * length (lines 2 t)) t) ∙ ap (drop 3) bar-at

    table-at-head : table_in t ≡ some hs
    unfolding table_in
    table-at-head = rw (has, head-lines)

    some-head : HeadRead (some hs) b
    unfolding head_of
    some-head = record { table = rw append_assoc table-at-head; rest = rw append_assoc rest_at }

pub head_read : (h : Option (List (List ℕ))) (b : List ℕ) → is_head h ≡ true → has_table b ≡ false → HeadRead h b
unfolding is_head
head_read none b y n = no-head b n
head_read (some hs) b y n = some-head b hs y

-- the whole text
module _ (h : Option (List (List ℕ))) (ps ss : List (List ℕ)) (hh : is_head h ≡ true) (hp : are_lines 2 ps ≡ true) (hs : are_lines 3 ss ≡ true) where
  behind : drop (5 * length (lines 2 (body_of ps ss))) (body_of ps ss) ≡ 45 ∷ 45 ∷ 10 ∷ flat_map hex_line ss
  unfolding bar_text plan_lines
  behind = bar-is ps ss hp hs

  bare : has_table (body_of ps ss) ≡ false
  unfolding has_table is_bar
  bare = rw behind

  pub text-read : HeadRead h (body_of ps ss)
  text-read = head_read h (body_of ps ss) hh bare

  pub table-read : table_in (text_of h ps ss) ≡ h
  unfolding text_of
  table-read = text-read.table

  body-read : body (text_of h ps ss) ≡ body_of ps ss
  unfolding text_of
  body-read = text-read.rest

  pub plan-lines-read : plan_lines (body (text_of h ps ss)) ≡ ps
  plan-lines-read = ap plan_lines body-read ∙ plan-read ps ss hp hs

  pub step-lines-read : step_lines (body (text_of h ps ss)) ≡ ss
  step-lines-read = ap step_lines body-read ∙ steps-read ps ss hp hs

  pub text-formed : length (text_of h ps ss) ≤ 32768 → well_formed (text_of h ps ss) ≡ true
  unfolding well_formed
  text-formed l = rw (le-leb (length (text_of h ps ss)) 32768 l, body-read) (formed-is ps ss hp hs)
