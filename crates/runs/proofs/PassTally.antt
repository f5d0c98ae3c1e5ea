-- The pass beside a stuck run: what settling a node leaves, what a block has tallied after its first children, and a turn of the tally.
-- Assumes nothing.
use mathlib.Core.Path.{◌≡◌, refl, sym, ◌∙◌, subst}
use mathlib.Core.Bool.{Bool, true, false, ◌||◌, or-false, or-true}
use mathlib.Core.List.{List, [], ◌∷◌, ◌++◌}
use mathlib.Core.Logic.{◌⊎◌, inl, inr}
use Prim.Native.Nat.{ℕ, suc, ◌<◌}
use lib.Dec.{eqb}
use lib.ListN.{get_or, length, length-append, length-set, set}
use lib.Seq.{get_or-set_other, get_or-set_same}
use borrow.Author.Tests.{eqb-false, eqb-true, not-false}
use native.Mathlib.Omega.{arith}
use Rattle.lists.specs.Seq.{any}
use Rattle.lists.specs.Member.{In}
use Rattle.lists.proofs.Logic.{cases, clash, decided}
use Rattle.lists.proofs.Members.{in-none}
use Rattle.lists.proofs.Points.{in-snoc, any_snoc}
use Rattle.plan.specs.Plan.{size, kind, parent}
use Rattle.plan.specs.declared.kinds.Kind.TheVariants.{Xor as xor}
use Rattle.plan.specs.Check.{Accepted}
use Rattle.plan.specs.Under.{Under, self, up, Below}
use Rattle.plan.proofs.AcceptedLaws.{parent-child}
use Rattle.central.specs.Mark.{idle, committed, failed, turned_down, mark_number, is_mark}
use Rattle.central.specs.Central.{Central, marked, started}
use Rattle.pass.specs.Pass.{works, breaks, Settled, Tally, Walked, skip, note, nothing, unwalked}
use Rattle.runs.proofs.Good.{Good}
use Rattle.runs.proofs.MarkLaws.{mark-is, is_worked, outcome_of}
use Rattle.runs.proofs.Facts.{child-placed}

-- marks m became marks n: each stays, or is the one of s
abbrev pub Kept : Central → List ℕ → List ℕ → Type 0
Kept s m n = (w : ℕ) → (get_or n w 0 ≡ get_or m w 0) ⊎ (get_or n w 0 ≡ mark_number (s.mark w))

-- every started node that is c or below c has its mark
abbrev pub Wrote : List ℕ → Central → ℕ → List ℕ → Type 0
Wrote p s c n = (w : ℕ) → w < size p → started s w ≡ true → Under p c w → get_or n w 0 ≡ mark_number (s.mark w)

-- settling v by marks m gave r
pub record Settles (p : List ℕ) (s : Central) (v : ℕ) (m : List ℕ) (r : Settled) : Type 0 where
  pub outcome : r.outcome ≡ outcome_of (s.mark v)
  pub long : length r.marks ≡ size p
  pub kept : Kept s m r.marks
  pub wrote : (w : ℕ) → w < size p → started s w ≡ true → Below p v w → get_or r.marks w 0 ≡ mark_number (s.mark w)

-- v has come through its children ds
pub record Tallied (p : List ℕ) (s : Central) (v : ℕ) (ds m : List ℕ) (t : Walked) : Type 0 where
  pub sound : t.tally.wrong ≡ 0
  pub places : t.tally.places ≡ length ds
  pub worked : t.tally.worked ≡ any (λ d. is_worked (s.mark d)) ds
  pub broke : t.tally.broke ≡ any (marked s failed) ds
  pub chosen : kind p v ≡ xor → t.tally.chosen ≡ any (marked s committed) ds
  pub long : length t.marks ≡ size p
  pub kept : Kept s m t.marks
  pub wrote : (d : ℕ) → In d ds → Wrote p s d t.marks

-- a flag and one more child c
module _ (f : ℕ → Bool) (ds : List ℕ) (c : ℕ) (a : Bool) (e : a ≡ any f ds) where
  flag_same : f c ≡ false → a ≡ any f (ds ++ (c ∷ []))
  flag_same h = e ∙ sym (any_snoc f ds c ∙ rw (h, or-false))

  flag-hit : f c ≡ true → true ≡ any f (ds ++ (c ∷ []))
  flag-hit h = sym (any_snoc f ds c ∙ rw (h, or-true))

  flag-or : (b : Bool) → b ≡ f c → (a || b) ≡ any f (ds ++ (c ∷ []))
  flag-or b h = rw (e, h) (sym (any_snoc f ds c))

snoc-length : (ds : List ℕ) (c n : ℕ) → n ≡ length ds → suc n ≡ length (ds ++ (c ∷ []))
snoc-length ds c n e = let h = length-append ds (c ∷ []) in omega arith

module _ (p : List ℕ) (ok : Accepted p) (s : Central) (good : Good p s) where
  -- what is in the subtree of a node that has not started has not started
  under-started : (v w : ℕ) → w < size p → started s w ≡ true → Under p v w → started s v ≡ true
  under-started v w l e (self q) = subst (λ z. started s z ≡ true) (sym q) e
  under-started v w l e (up h b) =
      let lt = ok.below w h l in
      under-started v (parent p w) (omega arith) (child-placed p s good (parent p w) w (parent-child p ok w h l) e).0 b

  pub tally-none : (v : ℕ) (m : List ℕ) → length m ≡ size p → Tallied p s v [] m (unwalked m)
  unfolding unwalked nothing any
  tally-none v m l = record {
    sound = refl;
    places = refl;
    worked = refl;
    broke = refl;
    chosen = λ k. refl;
    long = l;
    kept = λ w. inl refl;
    wrote = λ d i. absurd (in-none i);
  }

  module _ (v c : ℕ) (ds m : List ℕ) (t : Walked) (i : Tallied p s v ds m t) where
    -- c was not reached
    pub tally-skip : started s c ≡ false → Tallied p s v (ds ++ (c ∷ [])) m (record { tally = skip t.tally; marks = t.marks })
    unfolding skip is_worked is_mark mark_number
    tally-skip e =
        let q = mark-is idle (s.mark c) (not-false _ e) in
        record {
          sound = i.sound;
          places = snoc-length ds c t.tally.places i.places;
          worked = flag_same (λ d. is_worked (s.mark d)) ds c _ i.worked (rw q);
          broke = flag_same (marked s failed) ds c _ i.broke (rw q);
          chosen = λ k. flag_same (marked s committed) ds c _ (i.chosen k) (rw q);
          long = i.long;
          kept = i.kept;
          wrote = λ d j w l st b. cases (in-snoc ds j) (λ h. i.wrote d h w l st b) (λ h. clash _ (under-started c w l st (subst (λ z. Under p z w) h b)) e);
        }

    -- c was settled, which gave r, and got the mark x
    module _ (r : Settled) (y : Settles p s c t.marks r) (high : c < size p) (x : ℕ) (e : x ≡ mark_number (s.mark c)) where
      set_here : get_or (set r.marks c x) c 0 ≡ mark_number (s.mark c)
      set_here = get_or-set_same r.marks c x 0 (omega (arith, y.long)) ∙ e

      set_keeps : (w : ℕ) → get_or r.marks w 0 ≡ mark_number (s.mark w) → get_or (set r.marks c x) w 0 ≡ mark_number (s.mark w)
      set_keeps w k = cases (decided (eqb w c)) (λ q. rw (eqb-true w c q) set_here)
          (λ q. get_or-set_other r.marks c w x 0 (eqb-false w c q) ∙ k)

      set-kept : Kept s m (set r.marks c x)
      set-kept w = cases (decided (eqb w c)) (λ q. inr (rw (eqb-true w c q) set_here))
          (λ q. cases (y.kept w)
          (λ j. cases (i.kept w) (λ k. inl (get_or-set_other r.marks c w x 0 (eqb-false w c q) ∙ j ∙ k)) (λ k. inr (set_keeps w (j ∙ k))))
          (λ j. inr (set_keeps w j)))

      set-wrote : (d : ℕ) → In d (ds ++ (c ∷ [])) → Wrote p s d (set r.marks c x)
      set-wrote d j w l st b = cases (in-snoc ds j)
          (λ h. set_keeps w (cases (y.kept w) (λ k. k ∙ i.wrote d h w l st b) (λ k. k)))
          (λ h. here-or (subst (λ z. Under p z w) h b))
        where
          here-or : Under p c w → get_or (set r.marks c x) w 0 ≡ mark_number (s.mark w)
          here-or (self q) = subst (λ z. get_or (set r.marks c x) z 0 ≡ mark_number (s.mark z)) q set_here
          here-or (up z q) = set_keeps w (y.wrote w l st (z, q))

      abbrev Next : Tally → Type 0
      Next u = Tallied p s v (ds ++ (c ∷ [])) m (record { tally = u; marks = set r.marks c x })

      pub tally-breaks : (a : ℕ) → s.mark c ≡ failed → Next (note a t.tally breaks)
      unfolding note is_worked is_mark mark_number
      tally-breaks a q = record {
        sound = i.sound;
        places = snoc-length ds c t.tally.places i.places;
        worked = flag_same (λ d. is_worked (s.mark d)) ds c _ i.worked (rw q);
        broke = flag-hit (marked s failed) ds c _ i.broke (rw q);
        chosen = λ k. flag_same (marked s committed) ds c _ (i.chosen k) (rw q);
        long = length-set r.marks c x ∙ y.long;
        kept = set-kept;
        wrote = set-wrote;
      }

      pub tally-works : (a : ℕ) → (s.mark c ≡ committed) ⊎ (s.mark c ≡ turned_down) →
          (kind p v ≡ xor → eqb (suc (length ds)) a ≡ marked s committed c) → Next (note a t.tally works)
      unfolding note is_worked is_mark mark_number
      tally-works a q place = record {
        sound = i.sound;
        places = snoc-length ds c t.tally.places i.places;
        worked = flag-hit (λ d. is_worked (s.mark d)) ds c _ i.worked (cases q (λ h. rw h) (λ h. rw h));
        broke = flag_same (marked s failed) ds c _ i.broke (cases q (λ h. rw h) (λ h. rw h));
        chosen = λ k. flag-or (marked s committed) ds c _ (i.chosen k) _ (rw i.places (place k));
        long = length-set r.marks c x ∙ y.long;
        kept = set-kept;
        wrote = set-wrote;
      }
