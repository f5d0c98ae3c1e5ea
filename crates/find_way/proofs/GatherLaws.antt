-- The loop over the children of a node, by their links. Assumes nothing.
use mathlib.Core.Path.{◌≡◌, sym, ◌∙◌, ap}
use mathlib.Core.Bool.{Bool, not}
use mathlib.Core.List.{List, ◌∷◌}
use Prim.Native.Nat.{ℕ, suc, ◌+◌, ◌≤◌, ◌<◌}
use native.Mathlib.Omega.{arith}
use native.Mathlib.Numerals.{add-one}
use lib.Dec.{eqb}
use lib.ListN.{length, get_or}
use Rattle.lists.specs.Member.{In}
use Rattle.plan.specs.Plan.{size, kind_byte, children}
use Rattle.plan.proofs.PlanLaws.{Child}
use Rattle.links.specs.Links.{led_to}
use Rattle.links.proofs.LinkLaws.{led-none, first-child, next-child, led-all, led_on}
use Rattle.way.specs.Can.{fits_of}
use Rattle.find_way.specs.declared.Marks.{Marks}
use Rattle.find_way.specs.declared.Hope.{Hope}
use Rattle.find_way.specs.declared.Target.{Target}
use Rattle.find_way.specs.Marks.{unpacked, joined, unseen, hope_on, marks_by, marks_at}
use Rattle.find_way.specs.Search.{Given, able, Knows}
use Rattle.find_way.proofs.HopeLaws.{unpack-pack, hope-same, finish-is}

-- what the table says of c
abbrev pub seen : List ℕ → ℕ → Marks
seen table c = unpacked (get_or table c 0)

module _ (p first next a : List ℕ) (i : ℕ) (table : List ℕ) (v : ℕ) where
  -- what the children cs leave open, so many of them before, behind h
  abbrev pub hope : ℕ → Hope → List ℕ → Hope
  hope n h cs = hope_on (fits_of a i v) (kind_byte p v) (seen table) n h cs

  -- the children from c on are left
  pub record Gathering (h : Hope) (place c : ℕ) : Type 0 where
    pub given : Given p first next a
    pub within : v < size p
    pub so-far : hope 0 unseen (children p v) ≡ hope place h (led_to p v c)
    pub room : place + length (led_to p v c) ≤ 32
    pub child : (c ≡ 0 → ⊥) → Child p v c

module _ {p first next a : List ℕ} {i : ℕ} {table : List ℕ} {v : ℕ} where
  pub gather-all : Given p first next a → v < size p → (c : ℕ) → c ≡ get_or first v 0 → Gathering p first next a i table v unseen 0 c
  gather-all g l c e = rw e (record {
    given = g;
    within = l;
    so-far = ap (hope p first next a i table v 0 unseen) (led-all g.linked v l);
    room = let m = g.accepted.most v l in omega (arith, ap length (led-all g.linked v l));
    child = λ n. (first-child g.linked v l n).0;
  })

  module _ {h : Hope} {place c : ℕ} (t : Gathering p first next a i table v h place c) where
    pub gather-done : c ≡ 0 → hope p first next a i table v 0 unseen (children p v) ≡ h
    unfolding hope_on
    gather-done e = t.so-far ∙ ap (hope p first next a i table v place h) (led-none p v c e)

    module _ (n : c ≡ 0 → ⊥) where
      pub gather-in : c < size p
      gather-in = (t.child n).high

      pub gather-small : c < 160
      gather-small = omega (arith, gather-in, t.given.accepted.few)

      rest : led_to p v c ≡ c ∷ led_to p v (get_or next c 0)
      rest = led_on t.given.linked v c n (t.child n)

      pub gather-room : place + 1 ≤ 32
      gather-room = omega (arith, t.room, ap length rest)

      pub gather-less : length (led_to p v (get_or next c 0)) < length (led_to p v c)
      gather-less = omega (arith, ap length rest)

      pub gather-turn : (b : Bool) (m : Marks) (r : Hope) (d : ℕ) → b ≡ fits_of a i v (place + 1) → m ≡ seen table c → r ≡ joined (kind_byte p v) b m h → d ≡ get_or next c 0 →
          Gathering p first next a i table v r (place + 1) d
      gather-turn b m r d e f g q = rw q (record {
        given = t.given;
        within = t.within;
        so-far = t.so-far ∙ ap (hope p first next a i table v place h) rest ∙ (unfold hope_on in same);
        room = omega (arith, t.room, ap length rest);
        child = λ z. (next-child t.given.linked v c (t.child n) z).0;
      })
        where
          one : r ≡ joined (kind_byte p v) (fits_of a i v (suc place)) (seen table c) h
          one = g ∙ (λ j. joined (kind_byte p v) ((e ∙ ap (fits_of a i v) (add-one place)) j) (f j) h)

          same : hope p first next a i table v (suc place) (joined (kind_byte p v) (fits_of a i v (suc place)) (seen table c) h) (led_to p v (get_or next c 0))
              ≡ hope p first next a i table v (place + 1) r (led_to p v (get_or next c 0))
          same = λ j. hope p first next a i table v (sym (add-one place) j) (sym one j) (led_to p v (get_or next c 0))

-- a node whose children the table has
module _ (p first next a : List ℕ) (i : ℕ) (t : Target) (table : List ℕ) (v : ℕ) (g : Given p first next a) (l : v < size p)
    (k : (c : ℕ) → In c (children p v) → Knows p a i t table c) where
  pub marks-known : (h : Hope) (zero one two : Bool) (m : Marks) → h ≡ hope p first next a i table v 0 unseen (children p v) →
      zero ≡ fits_of a i v 0 → one ≡ fits_of a i v 1 → two ≡ fits_of a i v 2 → m ≡ marks_by (kind_byte p v) zero one two h (not (eqb v t.node)) t.mark →
      m ≡ marks_at (able p a i t) v
  marks-known h zero one two m e y z w q = q
      ∙ (λ j. marks_by (kind_byte p v) (y j) (z j) (w j) ((e ∙ all) j) (not (eqb v t.node)) t.mark)
      ∙ finish-is p g.accepted (fits_of a i) t.node t.mark v l
    where
      all : hope p first next a i table v 0 unseen (children p v) ≡ hope_on (fits_of a i v) (kind_byte p v) (marks_at (able p a i t)) 0 unseen (children p v)
      all = hope-same (fits_of a i v) (kind_byte p v) (seen table) (marks_at (able p a i t)) 0 unseen (children p v) (λ c j. ap unpacked (k c j) ∙ unpack-pack _)
