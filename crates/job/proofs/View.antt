-- The state's bytes as what each site has heard: `view p st q e` says that site q has heard e. Assumes nothing.
use mathlib.Core.Path.{◌≡◌, refl, sym, ◌∙◌, ap, subst, fun_ext}
use mathlib.Core.Bool.{Bool, false, ◌||◌, and-false, and-true}
use mathlib.Core.List.{List}
use Prim.Native.Nat.{ℕ, zero, suc, ◌+◌, ◌*◌, ◌≤◌, ◌<◌}
use lib.Dec.{eqb, ltb}
use lib.ListN.{get_or-eq_default, drop, get_or, length, length-replicate, length-set, length-take, replicate, set, take}
use lib.Seq.{get_or-set_other, get_or-set_same}
use borrow.Author.Tests.{eq-eqb, eqb-false, eqb-true, ltb-false, ltb-true, ne_eqb}
use native.Mathlib.Omega.{arith}
use Rattle.lists.proofs.Logic.{cases, decided}
use Rattle.plan.specs.Plan.{size}
use Rattle.event.specs.Event.{code_number, same_code, Event, same}
use Rattle.event.specs.Site.{Layout}
use Rattle.event.specs.Bit.{has_bit, with_bit}
use Rattle.event.proofs.BitLaws.{with-bit, with-small, no-bit}
use Rattle.row.specs.Row.{heard_in, heard, hear}
use Rattle.lists.specs.Bytes.{Bytes}
use Rattle.runs.proofs.Net.{learn, silence}
use Rattle.job.specs.Simulation.{row_of, with_row, zeros}
use Rattle.job.proofs.StateLaws.{row_below, byte_at, row-hear}

abbrev pub view : List ℕ → List ℕ → ℕ → Event → Bool
view p st q = heard (row_of p st q)

-- two bytes of different rows are two
row_apart : (n j k v w : ℕ) → v < n → w < n → (j ≡ k → ⊥) → j * n + v ≡ k * n + w → ⊥
row_apart n j k v w lv lw ne e = cases (decided (ltb j k))
    (λ a. let b = row_below n j k (ltb-true j k a) in omega arith)
    (λ a. let c = ltb-false j k a in let b = row_below n k j (omega arith) in omega arith)

-- no site hears of a node that is not in the plan
view_out : (p st : List ℕ) (q : ℕ) (f : Event) → size p ≤ f.node → view p st q f ≡ false
unfolding heard heard_in row_of
view_out p st q f h =
    ap (λ (b : ℕ). has_bit b (code_number f.code))
    (get_or-eq_default (take (size p) (drop (q * size p) st)) 0 (let k = length-take (size p) (drop (q * size p) st) in omega arith))
    ∙ no-bit f.code

view-at : (p st : List ℕ) (q : ℕ) (f : Event) → f.node < size p → view p st q f ≡ has_bit (get_or st (q * size p + f.node) 0) (code_number f.code)
unfolding heard heard_in
view-at p st q f h = ap (λ (b : ℕ). has_bit b (code_number f.code)) (byte_at p st q f.node h)

-- site q hears e
module _ (p : List ℕ) (k : ℕ) (st : List ℕ) (fine : Bytes (k * size p) st) (q : ℕ) (inside : q < k) (e : Event) (node : e.node < size p) where
  spot : ℕ
  spot = q * size p + e.node

  new : ℕ
  new = with_bit (get_or st spot 0) (code_number e.code)

  abbrev pub after-hear : List ℕ
  after-hear = with_row p st q (hear (row_of p st q) (code_number e.code) e.node)

  set_at : after-hear ≡ set st spot new
  unfolding spot new
  set_at = row-hear p st q e.node node (code_number e.code)

  in-state : spot < length st
  unfolding spot
  in-state = let a = row_below (size p) q k inside in let b = fine.long in omega arith

  new-small : new < 256
  unfolding new
  new-small = with-small e.code (get_or st spot 0) (fine.small spot)

  pub hear-bytes : Bytes (k * size p) after-hear
  hear-bytes = subst (Bytes (k * size p)) (sym set_at) (record { long = length-set st spot new ∙ fine.long; small = small })
    where
      small : (i : ℕ) → get_or (set st spot new) i 0 < 256
      small i = cases (decided (eqb i spot))
          (λ h. subst (λ (b : ℕ). b < 256) (sym (ap (λ (j : ℕ). get_or (set st spot new) j 0) (eqb-true i spot h) ∙ get_or-set_same st spot new 0 in-state)) new-small)
          (λ h. subst (λ (b : ℕ). b < 256) (sym (get_or-set_other st spot i new 0 (eqb-false i spot h))) (fine.small i))

  -- the byte that is set
  view-hit : (f : Event) → f.node < size p → e.node ≡ f.node → view p (set st spot new) q f ≡ (same e f || view p st q f)
  unfolding same spot new
  view-hit f l h =
      view-at p (set st spot new) q f l
      ∙ ap (λ (v : ℕ). has_bit (get_or (set st spot new) (q * size p + v) 0) (code_number f.code)) (sym h)
      ∙ ap (λ (b : ℕ). has_bit b (code_number f.code)) (get_or-set_same st spot new 0 in-state)
      ∙ with-bit e.code f.code (get_or st spot 0) (fine.small spot)
      ∙ sym (rw (eq-eqb e.node f.node h, and-true) (ap (λ (b : Bool). same_code e.code f.code || b)
      (view-at p st q f l ∙ ap (λ (v : ℕ). has_bit (get_or st (q * size p + v) 0) (code_number f.code)) (sym h))))

  -- every other byte
  view-miss : (r : ℕ) (f : Event) → f.node < size p → (r * size p + f.node ≡ q * size p + e.node → ⊥) → view p (set st spot new) r f ≡ view p st r f
  unfolding spot
  view-miss r f l h =
      view-at p (set st spot new) r f l
      ∙ ap (λ (b : ℕ). has_bit b (code_number f.code)) (get_or-set_other st spot (r * size p + f.node) new 0 h)
      ∙ sym (view-at p st r f l)

  view-there : (r : ℕ) (f : Event) → f.node < size p → view p (set st spot new) r f ≡ learn (view p st) q e r f
  unfolding learn same
  view-there r f l = cases (decided (eqb q r))
      (λ h. cases (decided (eqb e.node f.node))
      (λ g. rw (h, ← (eqb-true q r h)) (view-hit f l (eqb-true e.node f.node g)))
      (λ g. let n = eqb-false e.node f.node g in let z = eqb-true q r h in
      view-miss r f l (λ w. n (omega (arith, ap (λ (k : ℕ). k * size p) z))) ∙ sym (rw (g, and-false, and-false))))
      (λ h. view-miss r f l (row_apart (size p) r q f.node e.node l node (λ z. eqb-false q r h (sym z))) ∙ sym (rw h))

  pub view-hear : view p after-hear ≡ learn (view p st) q e
  unfolding learn same
  view-hear = rw set_at (fun_ext (λ r. fun_ext (λ f. cases (decided (ltb f.node (size p)))
      (λ h. view-there r f (ltb-true f.node (size p) h))
      (λ h. let o = ltb-false f.node (size p) h in
      rw (view_out p (set st spot new) r f o, view_out p st r f o, ne_eqb e.node f.node (λ z. omega arith), and-false, and-false)))))

-- a fresh state
zero-at : (n i : ℕ) → ◌≡◌ {A = ℕ} (get_or (replicate n 0) i 0) 0
zero-at zero i = refl
zero-at (suc n) zero = refl
zero-at (suc n) (suc i) = zero-at n i

pub zero-bytes : (p : List ℕ) (lay : Layout) → Bytes (lay.rows * size p) (zeros p lay)
unfolding zeros
zero-bytes p lay = record { long = length-replicate (lay.rows * size p) 0; small = λ i. rw (zero-at (lay.rows * size p) i) (omega arith) }

pub zero-view : (p : List ℕ) (lay : Layout) → view p (zeros p lay) ≡ silence
unfolding zeros silence
zero-view p lay = fun_ext (λ q. fun_ext (λ f. cases (decided (ltb f.node (size p)))
    (λ h. view-at p (zeros p lay) q f (ltb-true f.node (size p) h)
    ∙ ap (λ (b : ℕ). has_bit b (code_number f.code)) (zero-at (lay.rows * size p) (q * size p + f.node)) ∙ no-bit f.code)
    (λ h. view_out p (zeros p lay) q f (ltb-false f.node (size p) h))))
