-- A guard names only events whose hearers have its host, or that happen at the same host. Assumes nothing.
use mathlib.Core.Path.{◌≡◌, refl, sym, ◌∙◌, ap, subst}
use mathlib.Core.Bool.{true, false, not}
use mathlib.Core.List.{List, [], ◌∷◌}
use mathlib.Core.Logic.{◌⊎◌, inl, inr}
use Prim.Native.Nat.{ℕ, ◌<◌}
use lib.Dec.{eqb}
use lib.ListN.{length, take, drop}
use borrow.Author.Tests.{eqb-false, ltb-true}
use native.Mathlib.Omega.{arith}
use Rattle.lists.specs.Seq.{head_or, last_or}
use Rattle.lists.specs.Member.{In, here, there}
use Rattle.lists.proofs.Logic.{cases, decided, clash, parts}
use Rattle.lists.proofs.Members.{keep-in}
use Rattle.lists.proofs.Points.{last-member}
use Rattle.plan.specs.Plan.{kind_number, is_kind, size, kind, parent, children, others, above, in_xor}
use Rattle.plan.specs.declared.kinds.Kind.{Kind}
use Rattle.plan.specs.declared.kinds.Kind.TheVariants.{Task as task, Serial as serial, And as and, Or as or, Xor as xor, Contingency as contingency, Conditional as conditional, Waiting as waiting}
use Rattle.plan.specs.Check.{Accepted}
use Rattle.plan.proofs.PlanLaws.{child-of, child-in, rising-children}
use Rattle.plan.proofs.AcceptedLaws.{parent_in, parent-child}
use Rattle.event.specs.Event.{Code, start, offer, commit, abort, answered-yes, answered-no, pick, down, Event, at, applies_by, applies}
use Rattle.event.specs.Site.{host_by, host_of}
use Rattle.guard.specs.Guard.{one, each, any_of, before_in, is_first, start_by, finish_by, abort_by, finishing, aborting, guard_by, guard}
use Rattle.runs.proofs.Family.{before_of, child-above, xor-child}
use Rattle.runs.proofs.Stuck.{two-of}
use Rattle.audience.specs.Hearers.{later, start_hearers, end_hearers, hearers_by, hearers}
use Rattle.audience.proofs.Shapes.{NamedIn, none_in_empty, in_one, named-one, named-any, named-each, named-append}
use Rattle.audience.proofs.Next.{last-later, follows_next, before-follows, first-in}

-- of two, the one that is not the first
second : {cs : List ℕ} {v : ℕ} (a b : ℕ) → cs ≡ a ∷ b ∷ [] → is_first cs v ≡ false → In v cs → In v (take 1 (drop 1 cs))
unfolding is_first head_or
second {v = v} a b e h i = rw e (go (rw e at h) (rw e at i))
  where
    go : eqb a v ≡ false → In v (a ∷ b ∷ []) → In v (b ∷ [])
    go h (here q) = absurd (eqb-false a v h (sym q))
    go h (there j) = j

-- an event named at node w: it happens at w too, or w hears of it
abbrev pub Side : List ℕ → ℕ → Event → Type 0
Side p w f = (w ≡ host_of p f) ⊎ In w (hearers p f)

module _ (p : List ℕ) (ok : Accepted p) where
  own-side : (c : Code) (v : ℕ) {f : Event} → host_by c v (parent p v) ≡ v → f ≡ at c v → Side p v f
  unfolding host_of
  own-side c v h q = inl (sym (ap (host_of p) q ∙ h))

  hear-side : (w : ℕ) (c : Code) (v : ℕ) {f : Event} → In w (hearers_by p c v) → f ≡ at c v → Side p w f
  unfolding hearers
  hear-side w c v i q = inr (subst (λ (g : Event). In w (hearers p g)) (sym q) i)

  -- an end of a child goes to the parent, where it hands no turn on
  module _ (v : ℕ) {c : ℕ} (i : In c (children p v)) where
    end-up : (turn : Kind) → is_kind task (kind p v) ≡ false → is_kind turn (kind p v) ≡ false →
        In v (end_hearers turn (above p c) (parent p c) (children p (parent p c)) c)
    unfolding end_hearers
    end-up turn a b = rw (child-above p v c i, (child-of p v i).of, a, b) (here refl)

    -- where it does, the next in turn
    end_on : (turn : Kind) {w : ℕ} → is_kind task (kind p v) ≡ false → is_kind turn (kind p v) ≡ true → head_or v (later (children p v) c) ≡ w →
        In w (end_hearers turn (above p c) (parent p c) (children p (parent p c)) c)
    unfolding end_hearers
    end_on turn a b z = rw (child-above p v c i, (child-of p v i).of, a, b) (here (sym z))

  some : (v : ℕ) → v < size p → (k : Kind) → kind p v ≡ k → is_kind task k ≡ false → 0 < length (children p v)
  unfolding is_kind kind_number
  some v l k z n = ok.blocks v l (λ t. clash (is_kind task k) (ap (is_kind task) (sym z ∙ t)) n)

  module _ (v : ℕ) (l : v < size p) {f : Event} where
    commit-up : is_kind task (kind p v) ≡ false → is_kind serial (kind p v) ≡ false → {c : ℕ} → In c (children p v) → f ≡ at commit c → Side p v f
    unfolding hearers_by
    commit-up a b {c} i q = hear-side v commit c (end-up v i serial a b) q

    abort-up : is_kind task (kind p v) ≡ false → is_kind contingency (kind p v) ≡ false → {c : ℕ} → In c (children p v) → f ≡ at abort c → Side p v f
    unfolding hearers_by
    abort-up a b {c} i q = hear-side v abort c (end-up v i contingency a b) q

    down-up : {c : ℕ} → In c (children p v) → f ≡ at down c → Side p v f
    unfolding hearers_by
    down-up {c} i q = hear-side v down c (here (sym (child-of p v i).of)) q

    commit-last : kind p v ≡ serial → f ≡ at commit (last_or v (children p v)) → Side p v f
    unfolding hearers_by is_kind kind_number head_or
    commit-last z q =
        let i = last-member v (children p v) (some v l serial z refl) in
        hear-side v commit (last_or v (children p v)) (end_on v i serial (rw z) (rw z) (rw (last-later v (rising-children p v)) refl)) q

    abort-last : kind p v ≡ contingency → f ≡ at abort (last_or v (children p v)) → Side p v f
    unfolding hearers_by is_kind kind_number head_or
    abort-last z q =
        let i = last-member v (children p v) (some v l contingency z refl) in
        hear-side v abort (last_or v (children p v)) (end_on v i contingency (rw z) (rw z) (rw (last-later v (rising-children p v)) refl)) q

    two_ends : is_kind task (kind p v) ≡ false → is_kind serial (kind p v) ≡ false → is_kind contingency (kind p v) ≡ false →
        {c : ℕ} {k : Code} → In c (children p v) → In k (commit ∷ abort ∷ []) → f ≡ at k c → Side p v f
    two_ends a b d {c = c} {k = k} i (there (there x7)) e = elim x7 [ ]
    two_ends a b d {c} i (here q) e = commit-up a b i (e ∙ ap (λ (k : Code). at k c) q)
    two_ends a b d {c} i (there (here q)) e = abort-up a d i (e ∙ ap (λ (k : Code). at k c) q)

    three-ends : is_kind task (kind p v) ≡ false → is_kind serial (kind p v) ≡ false → is_kind contingency (kind p v) ≡ false →
        {c : ℕ} {k : Code} → In c (children p v) → In k (commit ∷ abort ∷ down ∷ []) → f ≡ at k c → Side p v f
    three-ends a b d {c = c} {k = k} i (there (there (there x10))) e = elim x10 [ ]
    three-ends a b d {c} i (here q) e = commit-up a b i (e ∙ ap (λ (k : Code). at k c) q)
    three-ends a b d {c} i (there (here q)) e = abort-up a d i (e ∙ ap (λ (k : Code). at k c) q)
    three-ends a b d {c} i (there (there (here q))) e = down-up i (e ∙ ap (λ (k : Code). at k c) q)

    -- the events that a finishing guard names, and those of an abort
    finish-side : (k : Kind) → kind p v ≡ k → NamedIn (finish_by k v (children p v)) f → Side p v f
    unfolding finish_by is_kind kind_number host_by
    finish-side task z n = own-side start v refl (named-one n)
    finish-side serial z n = commit-last z (named-one n)
    finish-side and z n = let r = named-each n in commit-up (rw z) (rw z) r.within (r.is ∙ ap (λ (c : Code). at c r.child) (in_one r.coded))
    finish-side or z n = cases (named-append (each (commit ∷ abort ∷ []) (children p v)) (any_of commit (children p v)) n)
        (λ m. let r = named-each m in two_ends (rw z) (rw z) (rw z) r.within r.coded r.is)
        (λ m. let r = named-any m in commit-up (rw z) (rw z) r.within r.is)
    finish-side xor z n = cases (named-append (each (commit ∷ abort ∷ down ∷ []) (children p v)) (any_of commit (children p v)) n)
        (λ m. let r = named-each m in three-ends (rw z) (rw z) (rw z) r.within r.coded r.is)
        (λ m. let r = named-any m in commit-up (rw z) (rw z) r.within r.is)
    finish-side contingency z n = let r = named-any n in commit-up (rw z) (rw z) r.within r.is
    finish-side conditional z n = let r = named-any n in commit-up (rw z) (rw z) r.within r.is
    finish-side waiting z n = let r = named-each n in commit-up (rw z) (rw z) r.within (r.is ∙ ap (λ (c : Code). at c r.child) (in_one r.coded))

    abort-side : (k : Kind) → kind p v ≡ k → NamedIn (abort_by k v (children p v)) f → Side p v f
    unfolding abort_by is_kind kind_number host_by
    abort-side task z n = own-side start v refl (named-one n)
    abort-side serial z n = let r = named-any n in abort-up (rw z) (rw z) r.within r.is
    abort-side and z n = let r = named-any n in abort-up (rw z) (rw z) r.within r.is
    abort-side or z n = let r = named-each n in abort-up (rw z) (rw z) r.within (r.is ∙ ap (λ (c : Code). at c r.child) (in_one r.coded))
    abort-side xor z n = let r = named-each n in abort-up (rw z) (rw z) r.within (r.is ∙ ap (λ (c : Code). at c r.child) (in_one r.coded))
    abort-side contingency z n = abort-last z (named-one n)
    abort-side conditional z n = let r = named-any n in abort-up (rw z) (rw z) r.within r.is
    abort-side waiting z n = cases (named-append (each (commit ∷ abort ∷ []) (children p v)) (any_of abort (children p v)) n)
        (λ m. let r = named-each m in two_ends (rw z) (rw z) (rw z) r.within r.coded r.is)
        (λ m. let r = named-any m in abort-up (rw z) (rw z) r.within r.is)

  -- a start under a parent u
  module _ (u v : ℕ) (i : In v (children p u)) (inside : u < size p) {f : Event} where
    start-all : (k : Kind) → kind p u ≡ k → start_hearers k (children p u) ≡ children p u → f ≡ at start u → Side p v f
    unfolding hearers_by
    start-all k z e q = hear-side v start u (rw (z, e) i) q

    start_first : (k : Kind) → kind p u ≡ k → start_hearers k (children p u) ≡ take 1 (children p u) → is_first (children p u) v ≡ true → f ≡ at start u → Side p v f
    unfolding hearers_by
    start_first k z e h q = hear-side v start u (rw (z, e) (first-in i h)) q

    -- the sibling before has v next
    start-next : (turn : Kind) (c : Code) → ((w : ℕ) → hearers_by p c w ≡ end_hearers turn (above p w) (parent p w) (children p (parent p w)) w) →
        is_kind task (kind p u) ≡ false → is_kind turn (kind p u) ≡ true → is_first (children p u) v ≡ false → f ≡ at c (before_in v (children p u) v) → Side p v f
    start-next turn c same a b h q =
        let r = before_of (rising-children p u) i h in
        hear-side v c (before_in v (children p u) v)
        (rw (same (before_in v (children p u) v)) (end_on u r.member turn a b (follows_next u (rising-children p u) (before-follows i r)))) q

    start-yes : is_first (children p u) v ≡ true → f ≡ at answered-yes u → Side p v f
    unfolding hearers_by
    start-yes h q = hear-side v answered-yes u (first-in i h) q

    start-no : kind p u ≡ conditional → is_first (children p u) v ≡ false → f ≡ at answered-no u → Side p v f
    unfolding hearers_by
    start-no z h q =
        let t = two-of (children p u) (rising-children p u) (ok.two u inside z) in
        hear-side v answered-no u (second t.0 t.1 t.2.are h i) q

    start-side : (k : Kind) → kind p u ≡ k → NamedIn (start_by k u (children p u) v) f → Side p v f
    unfolding start_by start_hearers is_kind kind_number hearers_by
    start-side task z n = absurd (none_in_empty n.of)
    start-side serial z n = cases (decided (is_first (children p u) v))
        (λ h. start_first serial z refl h (named-one (rw h at n)))
        (λ h. start-next serial commit (λ w. refl) (rw z) (rw z) h (named-one (rw h at n)))
    start-side and z n = start-all and z refl (named-one n)
    start-side or z n = start-all or z refl (named-one n)
    start-side xor z n = start-all xor z refl (named-one n)
    start-side contingency z n = cases (decided (is_first (children p u) v))
        (λ h. start_first contingency z refl h (named-one (rw h at n)))
        (λ h. start-next contingency abort (λ w. refl) (rw z) (rw z) h (named-one (rw h at n)))
    start-side conditional z n = cases (decided (is_first (children p u) v))
        (λ h. start-yes h (named-one (rw h at n)))
        (λ h. start-no z h (named-one (rw h at n)))
    start-side waiting z n = start-all waiting z refl (named-one n)

  -- a pick is heard by all children
  pick-here : (v : ℕ) → v < size p → in_xor p v ≡ true → {f : Event} → f ≡ at pick v → Side p v f
  unfolding hearers_by
  pick-here v l x q = hear-side v pick v (child-in p (parent p v) (xor-child p v x l)) q

  pick-sibling : (v : ℕ) → v < size p → in_xor p v ≡ true → {w : ℕ} {f : Event} → In w (others p v) → f ≡ at pick w → Side p v f
  unfolding hearers_by others
  pick-sibling v l x {w} i q =
      let k = keep-in (λ c. not (eqb c v)) (children p (parent p v)) i in
      let z = (child-of p (parent p v) k.0).of in
      hear-side v pick w (rw z (child-in p (parent p v) (xor-child p v x l))) q

  -- ALL CODES
  named-side : (c : Code) (v : ℕ) → v < size p → applies_by c (kind p v) (in_xor p v) ≡ true → {f : Event} → NamedIn (guard_by p c v) f → Side p (host_by c v (parent p v)) f
  unfolding guard_by host_by applies_by finishing aborting above start_by hearers_by
  named-side start v l a n = cases (decided (eqb v 0))
      (λ z. absurd (none_in_empty (rw z at n.of)))
      (λ z. let m : 0 < v = omega (arith, eqb-false v 0 z) in
      start-side (parent p v) v (parent-child p ok v m l) (parent_in p ok v m l) (kind p (parent p v)) refl (rw z at n))
  named-side offer v l a n = finish-side v l (kind p v) refl n
  named-side commit v l a n = cases (decided (in_xor p v))
      (λ x. pick-here v l x (named-one (rw x at n)))
      (λ x. finish-side v l (kind p v) refl (rw x at n))
  named-side abort v l a n = abort-side v l (kind p v) refl n
  named-side answered-yes v l a n = own-side start v refl (named-one n)
  named-side answered-no v l a n = own-side start v refl (named-one n)
  named-side pick v l a n = hear-side (parent p v) offer v (here refl) (named-one n)
  named-side down v l a n = cases (named-append (one offer v) (any_of pick (others p v)) n)
      (λ m. own-side offer v refl (named-one m))
      (λ m. let r = named-any m in pick-sibling v l a r.within r.is)

  pub side : (e f : Event) → applies p e ≡ true → NamedIn (guard p e) f → Side p (host_of p e) f
  unfolding applies guard host_of
  side e f a n = named-side e.code e.node (ltb-true e.node (size p) (search parts)) (search parts) n
