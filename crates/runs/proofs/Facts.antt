-- What a state that a run reaches tells of a node and its parent: places, answers, offers and picks. Assumes nothing.
use mathlib.Core.Path.{◌≡◌, refl, sym, ◌∙◌, subst}
use mathlib.Core.Bool.{true, not, ◌||◌, or-false, or-true}
use mathlib.Core.List.{List}
use Prim.Native.Nat.{ℕ, ◌<◌}
use lib.Dec.{eqb}
use borrow.Author.Tests.{eqb-false, ne_eqb, not-true}
use native.Mathlib.Omega.{arith}
use Rattle.lists.specs.Seq.{all, any, earlier}
use Rattle.lists.specs.Member.{In}
use Rattle.lists.proofs.Logic.{cases, no_bool, both, either, parts}
use Rattle.lists.proofs.Members.{any-by, any_at, keep-in}
use Rattle.plan.specs.Plan.{size, kind, parent, children, others, above, in_xor}
use Rattle.plan.specs.declared.kinds.Kind.TheVariants.{Serial as serial, Contingency as contingency}
use Rattle.plan.proofs.PlanLaws.{child-of, child-in}
use Rattle.event.specs.Event.{offer, pick, at, applies_by, applies}
use Rattle.central.specs.Mark.{idle, offered, committed, failed, turned_down, mark_number, is_mark}
use Rattle.central.specs.Central.{Central, marked, started, reached_by, may_start, finishes_by}
use Rattle.central.proofs.MarkLaws.{marks}
use Rattle.runs.proofs.Finite.{mark-implies}
use Rattle.runs.proofs.Said.{said_by, said}
use Rattle.runs.proofs.Family.{xor-child}
use Rattle.runs.proofs.Good.{Good}
use Rattle.runs.proofs.MarkLaws.{is_worked}

module _ (p : List ℕ) (s : Central) (v : ℕ) where
  pub commit-started : marked s committed v ≡ true → started s v ≡ true
  unfolding is_mark mark_number all marks
  commit-started = mark-implies (is_mark committed) (λ m. not (is_mark idle m)) refl (s.mark v)

  pub abort-started : marked s failed v ≡ true → started s v ≡ true
  unfolding is_mark mark_number all marks
  abort-started = mark-implies (is_mark failed) (λ m. not (is_mark idle m)) refl (s.mark v)

module _ (p : List ℕ) (s : Central) (good : Good p s) where
  -- a started child: its parent is started, and its place was reached
  pub child-placed : (u c : ℕ) → In c (children p u) → started s c ≡ true →
      (started s u ≡ true) × (reached_by (kind p u) s u (children p u) c ≡ true)
  unfolding may_start above said said_by
  child-placed u c i k =
      let h = child-of p u i in
      let z = ne_eqb c 0 (λ q. omega arith) in
      simp both at (rw (z, h.of) at (good.placed c k))

  -- a serial's children commit, a contingency's fail, one after another
  pub commit-chain : (v : ℕ) → kind p v ≡ serial → (c : ℕ) → In c (children p v) → marked s committed c ≡ true →
      all (marked s committed) (earlier (children p v) c) ≡ true
  unfolding reached_by
  commit-chain v q c i h = rw q at (child-placed v c i (commit-started p s c h)).1

  pub abort-chain : (v : ℕ) → kind p v ≡ contingency → (c : ℕ) → In c (children p v) → marked s failed c ≡ true →
      all (marked s failed) (earlier (children p v) c) ≡ true
  unfolding reached_by
  abort-chain v q c i h = rw q at (child-placed v c i (abort-started p s c h)).1

  -- a node that has done its part could, and its children keep it so
  pub worked-held : (v : ℕ) → is_worked (s.mark v) ≡ true → finishes_by (kind p v) s v (children p v) ≡ true
  unfolding is_worked said said_by
  worked-held v h = cases ((either (marked s offered v || marked s turned_down v) (marked s committed v)).0 h)
      (λ o. good.offer-held v (rw o)) (good.commit-held v)

  -- offered and turned down are only an xor's children
  pub offered-xor : (v : ℕ) → (marked s offered v || marked s turned_down v) ≡ true → in_xor p v ≡ true
  unfolding said said_by applies applies_by
  offered-xor v h = let o : said p s (at offer v) ≡ true = rw h in let k = good.known (at offer v) o in search parts

  pub down-xor : (v : ℕ) → marked s turned_down v ≡ true → in_xor p v ≡ true
  down-xor v h = offered-xor v (rw (h, or-true))

  pub picked-xor : (v : ℕ) → s.picked v ≡ true → in_xor p v ≡ true
  unfolding said said_by applies applies_by
  picked-xor v h = let k = good.known (at pick v) h in search parts

  -- where one is picked, no sibling is
  pub no_other : (v : ℕ) → s.picked v ≡ true → any s.picked (others p v) ≡ true → ⊥
  unfolding others said said_by
  no_other v h k =
      let r = any_at s.picked (others p v) k in
      let i = keep-in (λ c. not (eqb c v)) (children p (parent p v)) r.1 in
      let c = child-of p (parent p v) i.0 in
      eqb-false r.0 v (not-true (eqb r.0 v) i.1) (sym (good.one-pick v r.0 h r.2 (sym c.of)))

  pub one-picked : (v c d : ℕ) → In c (children p v) → In d (children p v) → s.picked c ≡ true → s.picked d ≡ true → c ≡ d
  unfolding said said_by
  one-picked v c d i j a b = let h = child-of p v i in let k = child-of p v j in good.one-pick c d a b (h.of ∙ sym k.of)

  pub picked-mark : (v : ℕ) → s.picked v ≡ true → (marked s offered v || marked s committed v) ≡ true
  unfolding said said_by
  picked-mark v h =
      let o = good.pick-offered v h in
      let n = no_bool (marked s turned_down v) (λ d. no_other v h (good.down-other v d)) in
      rw (n, or-false, picked-xor v h) at o

  -- where one is turned down, another is picked
  pub down-picked : (v c : ℕ) → In c (children p v) → marked s turned_down c ≡ true → (d : ℕ) × In d (children p v) × (s.picked d ≡ true)
  unfolding said said_by others
  down-picked v c i t =
      let r = any_at s.picked (others p c) (good.down-other c t) in
      (r.0, subst (λ (u : ℕ). In r.0 (children p u)) (child-of p v i).of (keep-in (λ d. not (eqb d c)) (children p (parent p c)) r.1).0, r.2)

  -- an xor's child that is committed or turned down: one of the children is picked
  pub some-picked : (v : ℕ) → in_xor p v ≡ true → v < size p → (marked s committed v || marked s turned_down v) ≡ true →
      any s.picked (children p (parent p v)) ≡ true
  unfolding said said_by
  some-picked v x l h =
      let i : In v (children p (parent p v)) = child-in p (parent p v) (xor-child p v x l) in
      cases ((either (marked s committed v) (marked s turned_down v)).0 h)
      (λ c. any-by s.picked i (good.commit-picked v x c))
      (λ d. let r = down-picked (parent p v) v i d in any-by s.picked r.1 r.2)
