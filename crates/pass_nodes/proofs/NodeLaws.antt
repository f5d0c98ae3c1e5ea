-- The main claim: the pass node by node. Assumes nothing.
use mathlib.Core.Path.{◌≡◌, sym, ◌∙◌, ap}
use mathlib.Core.Bool.{cond}
use mathlib.Core.List.{List}
use Prim.Native.Nat.{ℕ, ◌<◌}
use lib.Dec.{eqb}
use lib.ListN.{get_or, length, length-set, length-replicate, get_or-replicate, replicate, set}
use lib.Seq.{get_or-set_same, get_or-set_other}
use borrow.Author.Tests.{eqb-true, eqb-false, ne_eqb}
use native.Mathlib.Omega.{arith}
use Rattle.lists.specs.Member.{In}
use Rattle.lists.proofs.Logic.{cases, decided}
use Rattle.plan.specs.Plan.{size, children}
use Rattle.plan.specs.Check.{Accepted}
use Rattle.plan.proofs.AcceptedLaws.{child-between}
use Rattle.plan.proofs.UnderLaws.{under-root}
use Rattle.pass.specs.Pass.{Outcome, number_of, root_mark, pass_of, pass, settle}
use Rattle.pass_nodes.specs.Nodes.{end_at, gives, pass_mark}
use Rattle.pass_nodes.specs.Claim.{PassByNodes}
use Rattle.pass_nodes.proofs.EndLaws.{end_is, settle-end, Clean, end_clean}
use Rattle.pass_nodes.proofs.MarkLaws.{Wrote, settle-wrote}

root-marked : (o : Outcome) → Clean o → root_mark o ≡ 0 → ⊥
unfolding root_mark
root-marked o h e = cases h (λ q. let z : ◌≡◌ {A = ℕ} 3 0 = rw q at e in omega arith) (λ q. let z : ◌≡◌ {A = ℕ} 4 0 = rw q at e in omega arith)

module _ (p : List ℕ) (ok : Accepted p) (a : List ℕ) where
  abbrev zeros : List ℕ
  zeros = replicate (size p) 0

  abbrev settled : List ℕ
  settled = (settle p a (size p) 0 zeros).marks

  end-0 : (settle p a (size p) 0 zeros).outcome ≡ end_at p a 0
  end-0 = settle-end p ok a (size p) 0 zeros (omega arith) ok.some

  number : (pass p a).number ≡ number_of (end_at p a 0)
  unfolding pass pass_of
  number = ap number_of end-0

  mark-is : (v : ℕ) → pass_mark p a v ≡ get_or (set settled 0 (root_mark (end_at p a 0))) v 0
  unfolding pass_mark pass pass_of
  mark-is v = ap (λ o. get_or (set settled 0 (root_mark o)) v 0) end-0

  module _ (z : (pass p a).number ≡ 0) where
    root-sound : number_of (end_at p a 0) ≡ 0
    root-sound = sym number ∙ z

    wrote : Wrote p ok a 0 zeros settled
    wrote = settle-wrote p ok a (size p) 0 zeros (omega arith) ok.some (length-replicate (size p) 0) (λ u b un ne. get_or-replicate (size p) u 0 0 b) root-sound

    root : pass_mark p a 0 ≡ root_mark (end_at p a 0)
    root = mark-is 0 ∙ get_or-set_same settled 0 _ 0 (omega (arith, wrote.long, ok.some))

    -- an accepted pass leaves a mark for every node
    pub marks-length : length (pass p a).marks ≡ size p
    unfolding pass pass_of
    marks-length = length-set settled 0 _ ∙ wrote.long

    -- and reaches the root
    pub root-on : pass_mark p a 0 ≡ 0 → ⊥
    root-on e = root-marked (end_at p a 0) (end_clean p ok a 0 ok.some root-sound) (sym root ∙ e)

    later : (v : ℕ) → 0 < v → pass_mark p a v ≡ get_or settled v 0
    later v l = mark-is v ∙ get_or-set_other settled 0 v _ 0 (λ e. omega arith)

    child : (v c : ℕ) → In c (children p v) → pass_mark p a c ≡ cond (eqb (pass_mark p a v) 0) 0 (gives p a v c)
    child v c i =
        let b = child-between p ok v i in
        cases (decided (eqb v 0))
        (λ e. let q = eqb-true v 0 e in
        let n : pass_mark p a v ≡ 0 → ⊥ = λ h. root-on (rw q at h) in
        rw (ne_eqb (pass_mark p a v) 0 n) (later c (omega arith) ∙ rw q (wrote.own c (rw q at i))))
        (λ e. let ne : v ≡ 0 → ⊥ = eqb-false v 0 e in
        rw (later v (omega arith)) (later c (omega arith) ∙ wrote.deep v (omega arith) (under-root p ok (size p) v (omega arith) (omega arith)) (λ q. ne (sym q)) c i))

pub pass-by-nodes : PassByNodes
pass-by-nodes p ok a = record { ends = end_is p ok a; number = number p ok a; root = root p ok a; child = child p ok a }
