-- A row put in the place of another: what each site has heard then; and that a state is what its rows have heard. Assumes nothing.
use mathlib.Core.Path.{◌≡◌, sym, ◌∙◌, ap}
use mathlib.Core.Bool.{false}
use mathlib.Core.List.{List, ◌++◌}
use Prim.Native.Nat.{ℕ, ◌+◌, ◌-◌, ◌*◌, ◌/◌, ◌%◌, ◌≤◌, ◌<◌}
use native.Mathlib.Nat.{div-add-mod', div-lt_iff_lt-mul, mod-lt}
use native.Mathlib.Omega.{arith}
use lib.Dec.{ltb}
use lib.ListN.{length, get_or, take, drop, get_or-append, get_or-eq_default, length-append, length-drop, length-take}
use lib.Seq.{length-take-le, get_or-append-add, get_or-take, get_or-drop, take_at, drop_at, ext_get_or}
use borrow.Author.Tests.{ltb-true, ltb-false}
use Rattle.lists.proofs.Logic.{cases, decided}
use Rattle.plan.specs.Plan.{size}
use Rattle.event.specs.Event.{code_number, Event, at}
use Rattle.event.specs.Bit.{has_bit}
use Rattle.event.proofs.BitLaws.{no-bit}
use Rattle.row.specs.Row.{heard_in, heard}
use Rattle.lists.specs.Bytes.{Bytes}
use Rattle.job.specs.Simulation.{row_of, with_row}
use Rattle.job.proofs.StateLaws.{row_below, row-length, byte_at}
use Rattle.job.proofs.View.{view}
use Rattle.merge.proofs.ByteLaws.{byte-ext}

-- no site hears of a node that is not in the plan
seen_out : (p st : List ℕ) (q : ℕ) (f : Event) → size p ≤ f.node → view p st q f ≡ false
unfolding heard heard_in row_of
seen_out p st q f h =
    ap (λ (b : ℕ). has_bit b (code_number f.code))
    (get_or-eq_default (take (size p) (drop (q * size p) st)) 0 (let k = length-take (size p) (drop (q * size p) st) in omega arith))
    ∙ no-bit f.code

-- what site q has heard, by the byte of the state
seen-at : (p st : List ℕ) (q : ℕ) (f : Event) → f.node < size p → view p st q f ≡ has_bit (get_or st (q * size p + f.node) 0) (code_number f.code)
unfolding heard heard_in
seen-at p st q f h = ap (λ (b : ℕ). has_bit b (code_number f.code)) (byte_at p st q f.node h)

module _ (p : List ℕ) (k : ℕ) (st : List ℕ) (fine : Bytes (k * size p) st) where
  -- a row of a state is a row
  pub row-bytes : (q : ℕ) → q < k → Bytes (size p) (row_of p st q)
  row-bytes q l = record {
    long = row-length p st k q fine.long l;
    small = λ v. cases (decided (ltb v (size p)))
        (λ h. rw (byte_at p st q v (ltb-true v (size p) h)) (fine.small (q * size p + v)))
        (λ h. let o = ltb-false v (size p) h in
        rw (get_or-eq_default (row_of p st q) 0 {n = v} (omega (arith, row-length p st k q fine.long l))) (omega arith));
  }

-- row q replaced by `row`
module _ (p : List ℕ) (k : ℕ) (st : List ℕ) (fine : Bytes (k * size p) st) (q : ℕ) (inside : q < k) (row : List ℕ) (rowed : Bytes (size p) row) where
  abbrev front : ℕ
  front = q * size p

  abbrev pub new : List ℕ
  new = with_row p st q row

  front-in : front + size p ≤ length st
  front-in = let a = row_below (size p) q k inside in omega (arith, fine.long)

  front_long : length (take front st) ≡ front
  front_long = let a = front-in in length-take-le front st (omega arith)

  -- the row itself
  row_here : row_of p new q ≡ row
  unfolding row_of with_row
  row_here =
      ap (λ (l : List ℕ). take (size p) l) (drop_at (take front st) (row ++ drop (size p) (drop front st)) front front_long)
      ∙ take_at row (drop (size p) (drop front st)) (size p) rowed.long

  byte-before : (i : ℕ) → i < front → get_or new i 0 ≡ get_or st i 0
  unfolding with_row
  byte-before i l =
      get_or-append (take front st) (row ++ drop (size p) (drop front st)) 0 i (omega (arith, front_long))
      ∙ get_or-take front st i 0 l

  byte_inside : (v : ℕ) → v < size p → get_or new (front + v) 0 ≡ get_or row v 0
  unfolding with_row
  byte_inside v l =
      ap (λ (j : ℕ). get_or (take front st ++ (row ++ drop (size p) (drop front st))) (j + v) 0) (sym front_long)
      ∙ get_or-append-add (take front st) (row ++ drop (size p) (drop front st)) v 0
      ∙ get_or-append row (drop (size p) (drop front st)) 0 v (omega (arith, rowed.long))

  byte-behind : (w : ℕ) → get_or new (front + (size p + w)) 0 ≡ get_or st (front + (size p + w)) 0
  unfolding with_row
  byte-behind w =
      ap (λ (j : ℕ). get_or (take front st ++ (row ++ drop (size p) (drop front st))) (j + (size p + w)) 0) (sym front_long)
      ∙ get_or-append-add (take front st) (row ++ drop (size p) (drop front st)) (size p + w) 0
      ∙ ap (λ (j : ℕ). get_or (row ++ drop (size p) (drop front st)) (j + w) 0) (sym rowed.long)
      ∙ get_or-append-add row (drop (size p) (drop front st)) w 0
      ∙ get_or-drop (size p) (drop front st) w 0
      ∙ get_or-drop front st (size p + w) 0

  with-long : length new ≡ k * size p
  unfolding with_row
  with-long =
      let a = front-in in
      let b = length-append (take front st) (row ++ drop (size p) (drop front st)) in
      let c = length-append row (drop (size p) (drop front st)) in
      let d = length-drop (size p) (drop front st) in
      let e = length-drop front st in
      omega (arith, front_long, rowed.long, fine.long)

  with-small : (i : ℕ) → get_or new i 0 < 256
  with-small i = cases (decided (ltb i front))
      (λ h. rw (byte-before i (ltb-true i front h)) (fine.small i))
      (λ h. let a = ltb-false i front h in
      cases (decided (ltb i (front + size p)))
      (λ g. let b = ltb-true i (front + size p) g in
      let z : i ≡ front + (i - front) = omega arith in
      rw (z, byte_inside (i - front) (omega arith)) (rowed.small (i - front)))
      (λ g. let b = ltb-false i (front + size p) g in
      let z : i ≡ front + (size p + (i - (front + size p))) = omega arith in
      rw (z, byte-behind (i - (front + size p))) (fine.small (front + (size p + (i - (front + size p)))))))

  pub with-bytes : Bytes (k * size p) new
  with-bytes = record { long = with-long; small = with-small }

  pub view-here : (f : Event) → view p new q f ≡ heard row f
  view-here f = rw row_here

  -- every other row
  byte-other : (r v : ℕ) → v < size p → (r ≡ q → ⊥) → get_or new (r * size p + v) 0 ≡ get_or st (r * size p + v) 0
  byte-other r v l ne = cases (decided (ltb r q))
      (λ h. let a = row_below (size p) r q (ltb-true r q h) in byte-before (r * size p + v) (omega arith))
      (λ h. let a = ltb-false r q h in
      let b = row_below (size p) q r (omega arith) in
      let z : r * size p + v ≡ front + (size p + (r * size p + v - (front + size p))) = omega arith in
      rw z (byte-behind (r * size p + v - (front + size p))))

  pub view-other : (r : ℕ) (f : Event) → (r ≡ q → ⊥) → view p new r f ≡ view p st r f
  view-other r f ne = cases (decided (ltb f.node (size p)))
      (λ h. let l = ltb-true f.node (size p) h in
      seen-at p new r f l
      ∙ ap (λ (b : ℕ). has_bit b (code_number f.code)) (byte-other r f.node l ne)
      ∙ sym (seen-at p st r f l))
      (λ h. let l = ltb-false f.node (size p) h in seen_out p new r f l ∙ sym (seen_out p st r f l))

-- a state is what its rows have heard
pub state-ext : (p : List ℕ) → 0 < size p → (k : ℕ) (a b : List ℕ) → Bytes (k * size p) a → Bytes (k * size p) b →
    ((q : ℕ) → q < k → (f : Event) → view p a q f ≡ view p b q f) → a ≡ b
state-ext p some k a b fa fb h = ext_get_or 0 a b (fa.long ∙ sym fb.long) (λ i l. at-index i (omega (arith, fa.long)))
  where
    at-index : (i : ℕ) → i < k * size p → get_or a i 0 ≡ get_or b i 0
    at-index i l =
        let q : ℕ = i / size p in
        let v : ℕ = i % size p in
        let z : q * size p + v ≡ i = div-add-mod' i (size p) in
        let c : v < size p = mod-lt i some in
        let d : q < k = (div-lt_iff_lt-mul some).1 l in
        rw (← z) (byte-ext (get_or a (q * size p + v) 0) (get_or b (q * size p + v) 0) (fa.small (q * size p + v)) (fb.small (q * size p + v))
        (λ c'. sym (seen-at p a q (at c' v) c) ∙ h q d (at c' v) ∙ seen-at p b q (at c' v) c))
