-- The answers of the call, and a list copied from the front of a local array. Assumes nothing.
use Rattle.std.proofs.Common.{◌≡◌, sym, ◌∙◌, ap, true, List, ◌++◌, ℕ, ◌≤◌, zero-add, length, take, drop, eq-eqb, ne_eqb}
use lib.Seq.{take-length}
use Rattle.lists.specs.Put.{Put}
use Rattle.event.specs.Event.{code_of, event_of}
use Rattle.event.specs.Valid.{invalid, Valid}
use Rattle.guard.proofs.PutLaws.{front}
use Rattle.audience.specs.Hearers.{hearers_by, hearers}
use Rattle.audience.proofs.Main.{own-closed-form, few-to-tell}
use Rattle.audience.specs.Call.{own_audience, audience_of}
use Rattle.merge.specs.Output.{output, put_front}
use Rattle.plan.specs.Made.{in_front}

pub copied : (b : List ℕ) {x z src out : List ℕ} {n m : ℕ} → Put x z 0 src n → length x ≤ length z → m ≡ length (take n src) → out ≡ take m (take n src) ++ drop m b
    → output 0 (length x) (in_front x b) ≡ output 0 n out
unfolding in_front
copied b {x = x} {src = src} {out = out} {n = n} {m = m} h l e o =
    let q : take n src ≡ x = front h l in
    let r : m ≡ length x = e ∙ ap length q in
    let s : out ≡ x ++ drop (length x) b = o ∙ ap (λ y. take m y ++ drop m b) q ∙ ap (λ k. take k x ++ drop k b) r ∙ ap (λ y. y ++ drop (length x) b) (take-length x) in
    ap (λ y. output 0 (length x) y) (sym s) ∙ ap (λ i. output 0 i out) (sym (h.place ∙ zero-add (length x)))

module _ (p : List ℕ) (code node : ℕ) where
  pub audience-refused : (b : List ℕ) (n : ℕ) → n ≡ invalid p true true code node → (n ≡ 0 → ⊥) → audience_of p code node b ≡ output n 0 b
  unfolding audience_of
  audience-refused b n e h = rw (← e, ne_eqb n 0 h)

  module _ (v : Valid p true true code node) where
    list-is : own_audience p code node ≡ hearers_by p (code_of code) node
    unfolding hearers
    list-is = own-closed-form p v.plan (event_of code node) v.applied

    module _ (x : List ℕ) (e : x ≡ hearers_by p (code_of code) node) where
      pub list-few : length x ≤ 32
      list-few = rw (e ∙ sym list-is) (few-to-tell p v.plan (event_of code node) v.applied).most

      pub audience-list : (b : List ℕ) → invalid p true true code node ≡ 0 → audience_of p code node b ≡ put_front (length x) x b
      unfolding audience_of
      audience-list b z = rw (eq-eqb (invalid p true true code node) 0 z, list-is ∙ sym e)
