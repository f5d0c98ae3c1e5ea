-- What the writer's answer and its buffer tell. Assumes nothing.
use Rattle.std.proofs.Common.{◌≡◌, refl, sym, ap, ◌∙◌, true, List, ◌++◌, ℕ, ◌≤◌, ◌<◌, zero-add, arith, eq-eqb, ne_eqb, eqb-true, leb-true, leb-false, le-leb, eqb, leb, length, take, drop}
use borrow.Author.Tests.{eqb-false, lt-leb}
use lib.Seq.{take-length}
use Rattle.lists.proofs.Logic.{cases, decided}
use Rattle.event.specs.Event.{event_of}
use Rattle.event.specs.Valid.{invalid, Valid}
use Rattle.event.proofs.ValidLaws.{valid}
use Rattle.guard.specs.Guard.{guard}
use Rattle.guard.specs.Rule.{rule_byte}
use Rattle.guard.specs.Bytes.{encode}
use Rattle.lists.specs.Put.{Put}
use Rattle.writer.specs.Written.{filled, written, fitted, write_of}
use Rattle.writer.specs.declared.WrittenGuard.{WrittenGuard}
use Rattle.writer.specs.Written.{Done, Refused}
use Rattle.lists.proofs.PutLaws.{put_front_lem}
use Rattle.guard.proofs.PutLaws.{front}

pub fitted-not : (x : List ℕ) (r : ℕ) (b : List ℕ) → length b < length x → fitted x r b ≡ filled b (Refused 7)
unfolding fitted
fitted-not x r b l = rw (lt-leb (length x) (length b) l)

pub fitted-done : (x : List ℕ) (r : ℕ) (b : List ℕ) → length x ≤ length b → fitted x r b ≡ filled (x ++ drop (length x) b) (Done (written (length x) r))
unfolding fitted
fitted-done x r b l = rw (le-leb (length x) (length b) l)

module _ (p : List ℕ) (code node : ℕ) (b : List ℕ) where
  pub write-invalid : {n : ℕ} → n ≡ invalid p true true code node → (n ≡ 0 → ⊥) → write_of p code node b ≡ filled b (Refused n)
  unfolding write_of
  write-invalid {n} e h = rw (← e, ne_eqb n 0 h)

  pub write-valid : {r : ℕ} → r ≡ rule_byte p (event_of code node) → invalid p true true code node ≡ 0 → write_of p code node b ≡ fitted (encode (guard p (event_of code node))) r b
  unfolding write_of
  write-valid e h = rw (eq-eqb (invalid p true true code node) 0 h, e)

-- x, written straight into a buffer with room for it
pub straight : (x b : List ℕ) {out : List ℕ} {n r : ℕ} → Put x b 0 out n → length x ≤ length b → fitted x r b ≡ filled out (Done (written n r))
straight x b {out = out} {n = n} {r = k} h l =
    fitted-done x k b l ∙ ap (λ y. filled y (Done (written (length x) k))) (sym (h.held ∙ put_front_lem x b l))
    ∙ ap (λ i. filled out (Done (written i k))) (sym (h.place ∙ zero-add (length x)))

-- x, copied from a list that has it at its front
pub copied : (b : List ℕ) {x z src out : List ℕ} {n m r : ℕ} → Put x z 0 src n → length x ≤ length z → m ≡ length (take n src) → out ≡ take m (take n src) ++ drop m b
    → filled (x ++ drop (length x) b) (Done (written (length x) r)) ≡ filled out (Done (written n r))
copied b {x = x} {src = src} {out = out} {n = n} {m = m} {r = k} h l e o =
    let q : take n src ≡ x = front h l in
    let r : m ≡ length x = e ∙ ap length q in
    let s : out ≡ x ++ drop (length x) b = o ∙ ap (λ y. take m y ++ drop m b) q ∙ ap (λ k. take k x ++ drop k b) r ∙ ap (λ y. y ++ drop (length x) b) (take-length x) in
    ap (λ y. filled y (Done (written (length x) k))) (sym s) ∙ ap (λ i. filled out (Done (written i k))) (sym (h.place ∙ zero-add (length x)))

-- the writer wrote: the guard stands at the front of b, with its length and its rule
pub record DoneTold (p : List ℕ) (code node : ℕ) (b b' : List ℕ) (g : WrittenGuard) : Type 0 where
  pub valid : Valid p true true code node
  pub buffer : b' ≡ encode (guard p (event_of code node)) ++ drop (length (encode (guard p (event_of code node)))) b
  pub long : g.length ≡ length (encode (guard p (event_of code node)))
  pub rule : g.rule ≡ rule_byte p (event_of code node)

-- two answers that are the same
same-done : (x y : List ℕ) (m n : WrittenGuard) → filled x (Done m) ≡ filled y (Done n) → (y ≡ x) × (n ≡ m)
same-done x y m n h = (sym (ap (λ f. f.buffer) h), let a : Done m ≡ Done n = ap (λ f. f.answer) h in cc)

done_refused : (x y : List ℕ) (n : ℕ) {g : WrittenGuard} → filled x (Done g) ≡ filled y (Refused n) → ⊥
done_refused x y n {g = g} h = let a : Done g ≡ Refused n = ap (λ f. f.answer) h in let z : ◌≡◌ {A = ℕ} 0 1 = cc in omega arith

pub write_done : (p : List ℕ) (code node : ℕ) (b b' : List ℕ) (g : WrittenGuard) → write_of p code node b ≡ filled b' (Done g) → DoneTold p code node b b' g
write_done p code node b b' g h = cases (decided (eqb (invalid p true true code node) 0))
    (λ e. let z = eqb-true _ _ e in
    let q = sym (write-valid p code node b refl z) ∙ h in
    cases (decided (leb (length (encode (guard p (event_of code node)))) (length b)))
    (λ f. let r = same-done _ b' _ g (sym (fitted-done _ _ b (leb-true _ _ f)) ∙ q) in
    record { valid = valid p true true code node z; buffer = r.0; long = ap (λ w. w.length) r.1; rule = ap (λ w. w.rule) r.1 })
    (λ f. absurd (done_refused b' b _ (sym q ∙ fitted-not _ _ b (leb-false _ _ f)))))
    (λ e. absurd (done_refused b' b _ (sym h ∙ write-invalid p code node b refl (eqb-false _ _ e))))
