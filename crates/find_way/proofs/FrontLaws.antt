-- One answer more is fixed: what fits at other nodes stays. The root's byte says whether some answers lead there. Assumes nothing.
use mathlib.Core.Path.{◌≡◌, ◌∙◌, ap}
use mathlib.Core.Bool.{cond}
use mathlib.Core.List.{List}
use Prim.Native.Nat.{ℕ, ◌+◌}
use native.Mathlib.Omega.{arith}
use lib.Dec.{eqb, ltb}
use lib.ListN.{get_or, set}
use lib.Seq.{get_or-set_other}
use borrow.Author.Tests.{ltb-true, ltb-false, lt-ltb, le-ltb}
use Rattle.lists.proofs.Logic.{cases, decided}
use Rattle.plan.specs.Check.{Accepted}
use Rattle.way.specs.Can.{fits_of, open_at}
use Rattle.find_way.specs.declared.Target.{Target}
use Rattle.find_way.specs.Marks.{unpacked, marks_at}
use Rattle.find_way.specs.Search.{able, KnowsAll, Wanted, opens}
use Rattle.find_way.proofs.HopeLaws.{unpack-pack}

-- only at i
pub fits-front : (a : List ℕ) (i b w x : ℕ) → (w ≡ i → ⊥) → fits_of (set a i b) (i + 1) w x ≡ fits_of a i w x
unfolding fits_of
fits-front a i b w x ne = cases (decided (ltb w i))
    (λ q. let l = ltb-true w i q in rw (q, lt-ltb w (i + 1) (omega arith), get_or-set_other a i w b 0 ne))
    (λ q. let l = ltb-false w i q in rw (q, le-ltb w (i + 1) (omega arith)))

pub opens-is : (p a : List ℕ) (i : ℕ) (t : Target) (table : List ℕ) → Accepted p → Wanted p t → KnowsAll p a i t table →
    opens (get_or table 0 0) t.end ≡ open_at p t.node t.mark t.end a i
unfolding opens open_at
opens-is p a i t table ok w k =
    let e : unpacked (get_or table 0 0) ≡ marks_at (able p a i t) 0 = ap unpacked (k.each 0 ok.some) ∙ unpack-pack (marks_at (able p a i t) 0) in
    ap (λ m. cond (eqb t.end 3) m.done m.failed) e ∙ (unfold marks_at in ends)
  where
    ends : cond (eqb t.end 3) (able p a i t 0 3) (able p a i t 0 4) ≡ able p a i t 0 t.end
    ends = cases w.end (λ q. rw q) (λ q. rw q)
