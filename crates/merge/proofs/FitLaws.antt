-- Which bits a node's byte may have: computed for all bytes, and then by the node's place. Assumes nothing.
use Rattle.std.proofs.Common.{◌≡◌, refl, sym, ◌∙◌, ap, Bool, true, false, ◌&&◌, ◌||◌, not, List, [], ◌∷◌, ℕ, zero, suc, ◌<◌, arith, bit_or, get_or, lt-ltb}
use mathlib.Core.Path.{fun_ext}
use mathlib.Core.Bool.{beq}
use Rattle.lists.specs.Seq.{all, up_from, all_below}
use Rattle.merge.proofs.Count.{all-below}
use Rattle.lists.proofs.Members.{all-at, in-up}
use Rattle.plan.specs.Plan.{kind_number, is_kind, size, kind, in_xor, above}
use Rattle.plan.specs.declared.kinds.Kind.{Kind}
use Rattle.plan.specs.declared.kinds.Kind.TheVariants.{Task as task, Serial as serial, And as and, Or as or, Xor as xor, Contingency as contingency, Conditional as conditional, Waiting as waiting}
use Rattle.plan.specs.contracts.kinds.Kind.{the_type as kinds}
use denote.Enum.Bare.{sameb}
use Rattle.event.specs.Event.{Code, start, offer, commit, abort, answered-yes, answered-no, pick, down, code_number, code_of, is_code, event_of, applies_by, applies}
use Rattle.event.specs.Bit.{weight, has_bit}
use Rattle.event.proofs.BitLaws.{beq-true}
use Rattle.row.specs.Row.{heard_in, heard}
use Rattle.merge.specs.Events.{all_codes, events_at, every}
use Rattle.merge.specs.Merge.{row_applies}
use Rattle.merge.specs.Bytes.{byte_applies, byte_fits}
use Rattle.merge.proofs.ByteLaws.{or-has}

-- by code: x, a child of an xor; q, a conditional
placed : Bool → Bool → Code → Bool
placed x q start = true
placed x q offer = x
placed x q commit = true
placed x q abort = true
placed x q answered-yes = q
placed x q answered-no = q
placed x q pick = x
placed x q down = x

fits8 : Bool → Bool → ℕ → Bool
fits8 x q b = all (λ code. not (has_bit b code) || placed x q (code_of code)) (up_from 1 8)

table8 : (x q : Bool) → all (λ b. beq (fits8 x q b) (byte_fits x q b)) (up_from 0 256) ≡ true
unfolding all up_from fits8 placed byte_fits code_of has_bit weight is_code
table8 true true = refl
table8 true false = refl
table8 false true = refl
table8 false false = refl

fits-table : (x q : Bool) (b : ℕ) → b < 256 → fits8 x q b ≡ byte_fits x q b
fits-table x q b l = beq-true _ _ (all-at (λ b. beq (fits8 x q b) (byte_fits x q b)) (in-up 0 256 b (omega arith) (omega arith)) (table8 x q))

applies-placed : (k : Kind) (x : Bool) (c : Code) → applies_by c k x ≡ placed x (is_kind conditional k) c
unfolding applies_by placed
applies-placed k x start = refl
applies-placed k x offer = refl
applies-placed k x commit = refl
applies-placed k x abort = refl
applies-placed k x answered-yes = refl
applies-placed k x answered-no = refl
applies-placed k x pick = refl
applies-placed k x down = refl

-- what `==` says of a kind
pub xor-told : (k : Kind) {b : Bool} → b ≡ sameb kinds k xor → b ≡ is_kind xor k
unfolding is_kind kind_number
xor-told task e = e
xor-told serial e = e
xor-told and e = e
xor-told or e = e
xor-told xor e = e
xor-told contingency e = e
xor-told conditional e = e
xor-told waiting e = e

pub conditional-told : (k : Kind) {b : Bool} → b ≡ sameb kinds k conditional → b ≡ is_kind conditional k
unfolding is_kind kind_number
conditional-told task e = e
conditional-told serial e = e
conditional-told and e = e
conditional-told or e = e
conditional-told xor e = e
conditional-told contingency e = e
conditional-told conditional e = e
conditional-told waiting e = e

placed-byte : (p : List ℕ) (v b : ℕ) → v < size p → byte_applies p v b ≡ fits8 (in_xor p v) (is_kind conditional (kind p v)) b
unfolding byte_applies fits8 applies
placed-byte p v b l = simp (lt-ltb v (size p) l, applies-placed)

pub byte-placed : (p : List ℕ) (v b : ℕ) → v < size p → b < 256 → byte_applies p v b ≡ byte_fits (is_kind xor (above p v)) (is_kind conditional (kind p v)) b
unfolding in_xor
byte-placed p v b l m = placed-byte p v b l ∙ fits-table (in_xor p v) (is_kind conditional (kind p v)) b m

-- a row's events are its bytes' bits
applies-at : (p row : List ℕ) (v : ℕ) → all (λ e. not (heard row e) || applies p e) (events_at v) ≡ byte_applies p v (get_or row v 0)
unfolding events_at byte_applies heard heard_in all_codes code_number code_of all up_from
applies-at p row v = refl

row-applies : (p row : List ℕ) → row_applies p row ≡ all_below (λ v. byte_applies p v (get_or row v 0)) (size p)
unfolding row_applies every
row-applies p row =
    all-below (λ e. not (heard row e) || applies p e) events_at (size p)
    ∙ ap (λ f. all_below f (size p)) (fun_ext (applies-at p row))

-- two bytes together apply just if each does
either-applies : (a b c : Bool) → (not (a || b) || c) ≡ ((not a || c) && (not b || c))
either-applies true true true = refl
either-applies true true false = refl
either-applies true false true = refl
either-applies true false false = refl
either-applies false true true = refl
either-applies false true false = refl
either-applies false false c = refl

shuffle : (a b c d : Bool) → ((a && b) && (c && d)) ≡ ((a && c) && (b && d))
shuffle true b true d = refl
shuffle true true false d = refl
shuffle true false false d = refl
shuffle false b c d = refl

all_both : {A : Type 0} (f g : A → Bool) (xs : List A) → all (λ x. f x && g x) xs ≡ (all f xs && all g xs)
unfolding all
all_both f g [] = refl
all_both f g (x ∷ xs) = ap (λ (b : Bool). (f x && g x) && b) (all_both f g xs) ∙ shuffle (f x) (g x) (all f xs) (all g xs)

below_both : (f g : ℕ → Bool) (n : ℕ) → all_below (λ v. f v && g v) n ≡ (all_below f n && all_below g n)
unfolding all_below
below_both f g zero = refl
below_both f g (suc n) = ap (λ (b : Bool). b && (f n && g n)) (below_both f g n) ∙ shuffle (all_below f n) (all_below g n) (f n) (g n)

byte-both : (p : List ℕ) (v x y : ℕ) → byte_applies p v (bit_or x y) ≡ (byte_applies p v x && byte_applies p v y)
unfolding byte_applies
byte-both p v x y =
    ap (λ (f : ℕ → Bool). all f (up_from 1 8)) (fun_ext (λ code.
    ap (λ (b : Bool). not b || applies p (event_of code v)) (or-has x y code) ∙ either-applies (has_bit x code) (has_bit y code) (applies p (event_of code v))))
    ∙ all_both (λ code. not (has_bit x code) || applies p (event_of code v)) (λ code. not (has_bit y code) || applies p (event_of code v)) (up_from 1 8)

pub rows-apply : (p row other : List ℕ) → (row_applies p row && row_applies p other) ≡ all_below (λ v. byte_applies p v (bit_or (get_or row v 0) (get_or other v 0))) (size p)
rows-apply p row other =
    rw (row-applies p row, row-applies p other)
    (sym (ap (λ (f : ℕ → Bool). all_below f (size p)) (fun_ext (λ v. byte-both p v (get_or row v 0) (get_or other v 0)))
    ∙ below_both (λ v. byte_applies p v (get_or row v 0)) (λ v. byte_applies p v (get_or other v 0)) (size p)))
