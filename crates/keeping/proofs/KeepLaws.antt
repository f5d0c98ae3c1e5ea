-- A step kept in the journal: the bit that it sets, the numbers of its entry, and each of its answers. Assumes nothing.
use mathlib.Core.Path.{◌≡◌, refl, sym, ap, ◌∙◌}
use mathlib.Core.Bool.{Bool, true, false}
use mathlib.Core.List.{List}
use Prim.Native.Nat.{ℕ, ◌+◌, ◌*◌, ◌≤◌, ◌<◌}
use native.Mathlib.Nat.{mul-le-mul_right}
use native.Mathlib.Numerals.{add-one}
use native.Mathlib.Omega.{arith}
use borrow.Author.Tests.{eq-eqb, ne_eqb, eqb-true, eqb-false, ltb-true, ltb-false, lt-ltb}
use lib.Dec.{eqb, ltb}
use lib.ListN.{length, get_or, take, drop, length-take, get_or-eq_default}
use lib.Seq.{set_out}
use Rattle.lists.proofs.Logic.{cases, decided, and-join}
use Rattle.plan.specs.Plan.{size}
use Rattle.plan.proofs.Main.{fit-exact}
use Rattle.event.specs.Event.{is_code, code_of, known}
use Rattle.event.specs.Site.{Layout}
use Rattle.event.specs.Bit.{has_bit}
use Rattle.event.specs.Valid.{Valid}
use Rattle.event.proofs.CodeLaws.{code-number}
use Rattle.event.proofs.BitLaws.{no-bit}
use Rattle.row.specs.Row.{heard_in}
use Rattle.site.specs.Verdict.{Verdict}
use Rattle.site.specs.Verdict.{verdict_number}
use Rattle.job.specs.Simulation.{row_of, step_by, Simulated, simulated, state_fits, simulate}
use Rattle.job.proofs.StateLaws.{row_below, byte_at}
use Rattle.layout.specs.Layout.{via, layout_by, Laid}
use Rattle.layout.proofs.TableLaws.{via-past}
use Rattle.journal.specs.declared.Entry.{Entry}
use Rattle.journal.specs.Journal.{target, is_set, entry_of, step_on, sited, keep_fits, kept_if, kept, keep_of}
use Rattle.journal.proofs.UndoLaws.{step_ok, keep-passed}
use Rattle.journal.proofs.ChangeLaws.{event-unset}
use Rattle.keeping.specs.Keeping.{Keeps, KeptBy}

-- THE BIT OF A STEP
no-bit-of : (code : ℕ) → has_bit 0 code ≡ false
unfolding has_bit
no-bit-of code = cases (decided (is_code code)) (λ c. ap (has_bit 0) (sym (code-number code c)) ∙ no-bit (code_of code)) (λ c. rw c)

-- a message goes to the row that its site's number names, and a byte of it is in the state
pub told-row : (p : List ℕ) (lay : Layout) (row : ℕ → ℕ) (code node site : ℕ) → (site ≡ 255 → ⊥) → row site ≡ target p lay row code node site
unfolding target
told-row p lay row code node site h = rw (ne_eqb site 255 h)

pub spot_in : (p st : List ℕ) (rows : ℕ) → length st ≡ rows * size p → (q : ℕ) → q < rows → (node : ℕ) → node < size p → (n : ℕ) → n ≡ size p → q * n + node < length st
spot_in p st rows long q l node m n e = let r = row_below (size p) q rows l in rw e (omega (arith, long))

module _ (p : List ℕ) (lay : Layout) (row : ℕ → ℕ) (st : List ℕ) (code node site : ℕ) where
  byte_past : (q : ℕ) → size p ≤ node → get_or (row_of p st q) node 0 ≡ 0
  unfolding row_of
  byte_past q l = get_or-eq_default (take (size p) (drop (q * size p) st)) 0 (omega (arith, length-take (size p) (drop (q * size p) st)))

  no_code : (b : ℕ) → is_code code ≡ false → has_bit b code ≡ false
  unfolding has_bit
  no_code b c = rw c

  -- of what is no event of the plan, none is set
  pub unset-unknown : known p code node ≡ false → is_set p lay row st code node site ≡ false
  unfolding is_set heard_in known
  unset-unknown h = cases (decided (is_code code))
      (λ c. rw (byte_past (target p lay row code node site) (ltb-false node (size p) (rw c at h))) (no-bit-of code))
      (λ c. no_code _ c)

  module _ (q : ℕ) (there : q ≡ target p lay row code node site) (node_in : node < size p) where
    pub set_there : (n : ℕ) → n ≡ size p → is_set p lay row st code node site ≡ has_bit (get_or st (q * n + node) 0) code
    unfolding is_set heard_in
    set_there n e = ap (λ (b : ℕ). has_bit b code) (ap (λ (r : ℕ). get_or (row_of p st r) node 0) (sym there) ∙ byte_at p st q node node_in ∙ rw e)

    -- past the last row none is set
    pub unset-past : length st ≡ lay.rows * size p → lay.rows ≤ q → is_set p lay row st code node site ≡ false
    unset-past long l = set_there (size p) refl ∙ ap (λ (b : ℕ). has_bit b code) (get_or-eq_default st 0 (omega (arith, long, mul-le-mul_right (size p) l))) ∙ no-bit-of code

-- A STEP that gave the state st' and the verdict v
module _ (p : List ℕ) (lay : Layout) (row : ℕ → ℕ) (st : List ℕ) (laid : Laid p lay st) (code node site : ℕ) (st' : List ℕ) (v : Verdict)
    (done : simulate p lay st (step_by row code node site) ≡ simulated st' v) where
  on : step_on p lay row st code node site ≡ simulated st' v
  unfolding step_on
  on = done

  on-number : verdict_number v ≡ 0 → verdict_number (step_on p lay row st code node site).verdict ≡ 0
  on-number z = ap (λ (s : Simulated). verdict_number s.verdict) on ∙ z

  pub passed : verdict_number v ≡ 0 → Valid p (state_fits p lay st) (sited p lay row site) code node
  passed zero = step_ok p lay row st code node site (on-number zero)

  -- over len entries of which k are kept; `was` says of a message whether it is a repeat
  module _ (len k : ℕ) (room : k < len) (was : Bool) (no-message : site ≡ 255 → was ≡ false) (repeated : (site ≡ 255 → ⊥) → was ≡ is_set p lay row st code node site) where
    fits : (es : List Entry) → length es ≡ len → keep_fits p lay row st es k ≡ 0
    unfolding keep_fits state_fits
    fits es long = (fit-exact p _).none.1 (laid.plan, and-join _ _ (eq-eqb (length st) (lay.rows * size p) laid.long) (lt-ltb k (length es) (rw long room)))

    -- an event that passed was not set
    was-set : verdict_number v ≡ 0 → is_set p lay row st code node site ≡ was
    was-set z = cases (decided (eqb site 255))
        (λ e. let i : site ≡ 255 = eqb-true site 255 e in
        let y : verdict_number (step_on p lay row st code node 255).verdict ≡ 0 = ap (λ (q : ℕ). verdict_number (step_on p lay row st code node q).verdict) (sym i) ∙ on-number z in
        ap (is_set p lay row st code node) i ∙ event-unset p lay row st code node y ∙ sym (no-message i))
        (λ e. sym (repeated (eqb-false site 255 e)))

    pub keeps-by : (told : Verdict) (at : ℕ) (e : Entry) (k' : ℕ) → KeptBy v was code node site len k told at e k' → Keeps p lay row st len k code node site told at e st' k'
    unfolding keep_of kept_if entry_of
    keeps-by told at e k' by es long = cases (decided (eqb (verdict_number v) 0))
        (λ z. let y = eqb-true _ 0 z in let s = by.stored y in
        keep-passed p lay row st es k code node site (rw long room) (on-number y) ∙ rw (on, was-set y, s.0, s.1, s.2, by.same, add-one))
        (λ z. let s = by.left (eqb-false _ 0 z) in
        rw (fits es long, on, z, s.0, s.1, by.same) (ap (λ (l : List Entry). kept (simulated st' v) l k) (sym (set_out es len e (omega arith)))))

-- THE NUMBERS OF AN ENTRY are bytes, where the table of rows has no more entries than there are bytes
site-byte : (p home row : List ℕ) (rows site : ℕ) → length row ≤ 256 → rows ≤ 160 → sited p (layout_by rows home) (via row) site ≡ true → site < 256
unfolding sited layout_by
site-byte p home row rows site long few h = cases (decided (ltb site 256))
    (λ l. ltb-true site 256 l)
    (λ l. let g : 256 ≤ site = ltb-false site 256 l in
    let b : via row site < rows = ltb-true _ rows (rw (ne_eqb site 255 (λ e. absurd (omega arith))) at h) in
    let i : via row site ≡ site = via-past row site (omega arith) in
    absurd (omega arith))

pub entry-bytes : (p home row : List ℕ) (rows : ℕ) (st : List ℕ) → Laid p (layout_by rows home) st → (code node site : ℕ) (st' : List ℕ) (v : Verdict) →
    simulate p (layout_by rows home) st (step_by (via row) code node site) ≡ simulated st' v → length row ≤ 256 → verdict_number v ≡ 0 →
    (code < 256) × (node < 256) × (site < 256)
unfolding layout_by
entry-bytes p home row rows st laid code node site st' v done long zero =
    let k = passed p (layout_by rows home) (via row) st laid code node site st' v done zero in
    (omega (arith, k.high), omega (arith, k.node_in, laid.plan.few), site-byte p home row rows site long laid.few k.placed)
