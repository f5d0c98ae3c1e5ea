-- A message, a row that comes, and a restart from a stored row are quiet changes; so every list of steps leads to a reached state. Assumes nothing.
use mathlib.Core.Path.{◌≡◌, refl, sym, ◌∙◌, ap, subst}
use mathlib.Core.Bool.{Bool, true, false, ◌&&◌, cond, or-true}
use mathlib.Core.List.{List, [], ◌∷◌, ◌++◌, append-nil, append_assoc}
use Prim.Native.Nat.{ℕ, ◌*◌, ◌<◌}
use lib.Dec.{eqb}
use borrow.Author.Tests.{eqb-true, eqb-false}
use Rattle.lists.proofs.Logic.{cases, decided, either, and_right, parts}
use Rattle.plan.specs.Plan.{size}
use Rattle.plan.specs.Check.{Accepted}
use Rattle.event.specs.Event.{Event, event_of, same, is_code}
use Rattle.event.specs.Site.{Layout, Housed, site_of}
use Rattle.row.specs.Row.{heard}
use Rattle.lists.specs.Bytes.{Bytes}
use Rattle.runs.proofs.Net.{relay, learn, relayed, moved, moved_all}
use Rattle.job.specs.Simulation.{step_number, row_of, with_row, Step, event, message, simulate, replay_from, passed_of, passed_from}
use Rattle.job.proofs.View.{view}
use Rattle.job.proofs.StepLaws.{refused-leaves}
use Rattle.job.proofs.Bridge.{decode, decode_all, did-all}
use Rattle.merge.specs.Merge.{merged}
use Rattle.line.specs.Change.{Quiet, Reached, happens, changes}
use Rattle.line.specs.Claim.{Comes, Stored}
use Rattle.merge.proofs.MergeLaws.{merged-bytes, merged-heard}
use Rattle.line.proofs.RowLaws.{row-bytes, with-bytes, view-here, view-other}
use Rattle.line.proofs.Reach.{reached-fits}
use Rattle.runs.proofs.Said.{same-event}

module _ (p : List ℕ) (ok : Accepted p) (lay : Layout) (housed : Housed p lay) where
  -- one row replaced by another that has nothing new and keeps the site's own
  module _ (st : List ℕ) (fine : Bytes (lay.rows * size p) st) (q : ℕ) (inside : q < lay.rows) (row : List ℕ) (rowed : Bytes (size p) row) where
    pub replaced : ((f : Event) → heard row f ≡ true → (r : ℕ) × (view p st r f ≡ true)) →
        ((f : Event) → site_of p lay f ≡ q → view p st q f ≡ true → heard row f ≡ true) → Quiet p lay st (with_row p st q row)
    replaced fair kept = record {
      bytes = with-bytes p lay.rows st fine q inside row rowed;
      nothing-new = λ r f h. cases (decided (eqb r q))
          (λ k. fair f (sym (view-here p lay.rows st fine q inside row rowed f) ∙ subst (λ (s : ℕ). view p (with_row p st q row) s f ≡ true) (eqb-true r q k) h))
          (λ k. (r, sym (view-other p lay.rows st fine q inside row rowed r f (eqb-false r q k)) ∙ h));
      own-kept = λ f h. cases (decided (eqb (site_of p lay f) q))
          (λ k. let z = eqb-true (site_of p lay f) q k in
          rw z (view-here p lay.rows st fine q inside row rowed f ∙ kept f z (rw z at h)))
          (λ k. view-other p lay.rows st fine q inside row rowed (site_of p lay f) f (eqb-false (site_of p lay f) q k) ∙ h);
    }

  module _ (st : List ℕ) (fine : Bytes (lay.rows * size p) st) (q : ℕ) (row : List ℕ) where
    pub merge-quiet : Comes p lay st q row → Quiet p lay st (with_row p st q (merged (row_of p st q) row))
    merge-quiet h =
        let here = row-bytes p lay.rows st fine q h.site in
        replaced st fine q h.site (merged (row_of p st q) row) (merged-bytes (size p) (row_of p st q) row here h.bytes)
        (λ f k. cases ((either (view p st q f) (heard row f)).0 (sym (merged-heard (size p) (row_of p st q) row here h.bytes f) ∙ k))
        (λ a. (q, a))
        (h.true-row f))
        (λ f z k. merged-heard (size p) (row_of p st q) row here h.bytes f ∙ rw k)

    pub restart-quiet : Stored p lay st q row → Quiet p lay st (with_row p st q row)
    restart-quiet h = replaced st fine q h.comes.site row h.comes.bytes h.comes.true-row h.own

  -- messages, as moves of sites
  relay-quiet : (rows : ℕ → Event → Bool) (e : Event) (q r : ℕ) (f : Event) → moved p lay rows (relay e q) r f ≡ true → (s : ℕ) × (rows s f ≡ true)
  unfolding moved learn relayed
  relay-quiet rows e q r f = go (relayed p lay rows e q) refl
    where
      go : (b : Bool) → relayed p lay rows e q ≡ b → cond b (learn rows q e) rows r f ≡ true → (s : ℕ) × (rows s f ≡ true)
      go true g h = cases ((either (eqb q r && same e f) (rows r f)).0 h)
          (λ a. (site_of p lay e, subst (λ (g : Event). rows (site_of p lay e) g ≡ true) (same-event e f (and_right (eqb q r) _ a)) (search parts)))
          (λ b. (r, b))
      go false g h = (r, h)

  relay-kept : (rows : ℕ → Event → Bool) (e : Event) (q r : ℕ) (f : Event) → rows r f ≡ true → moved p lay rows (relay e q) r f ≡ true
  unfolding moved learn
  relay-kept rows e q r f h = go (relayed p lay rows e q)
    where
      go : (b : Bool) → cond b (learn rows q e) rows r f ≡ true
      go true = rw (h, or-true)
      go false = h

  pub message-quiet : (st : List ℕ) → Bytes (lay.rows * size p) st → (code node q : ℕ) → Quiet p lay st (simulate p lay st (message code node q)).state
  unfolding replay_from decode_all decode moved_all
  message-quiet st fine code node q =
      let d = did-all p ok lay housed st fine (message code node q ∷ []) in
      let seen : view p (simulate p lay st (message code node q)).state ≡ moved_all p lay (view p st) (decode (message code node q)) = d.seen ∙ ap (moved_all p lay (view p st)) (append-nil (decode (message code node q))) in
      record {
        bytes = d.bytes;
        nothing-new = λ r f h. back (is_code code) r f (ap (λ (w : ℕ → Event → Bool). w r f) (sym seen) ∙ h);
        own-kept = λ f h. ap (λ (w : ℕ → Event → Bool). w (site_of p lay f) f) seen ∙ on (is_code code) (site_of p lay f) f h;
      }
    where
      back : (c : Bool) (r : ℕ) (f : Event) → moved_all p lay (view p st) (cond c (relay (event_of code node) q ∷ []) []) r f ≡ true → (s : ℕ) × (view p st s f ≡ true)
      back true r f h = relay-quiet (view p st) (event_of code node) q r f h
      back false r f h = (r, h)

      on : (c : Bool) (r : ℕ) (f : Event) → view p st r f ≡ true → moved_all p lay (view p st) (cond c (relay (event_of code node) q ∷ []) []) r f ≡ true
      on true r f h = relay-kept (view p st) (event_of code node) q r f h
      on false r f h = h

  -- one step more
  module _ {es : List Event} {st : List ℕ} (r : Reached p lay es st) where
    fine-at : Bytes (lay.rows * size p) st
    fine-at = (reached-fits p ok lay housed r).bytes

    step-on : (t : Step) → Reached p lay (es ++ passed_of t (step_number p lay st t)) (simulate p lay st t).state
    unfolding passed_of
    step-on (event code node) = go (eqb (step_number p lay st (event code node)) 0) refl
      where
        go : (b : Bool) → eqb (step_number p lay st (event code node)) 0 ≡ b →
            Reached p lay (es ++ cond b (event_of code node ∷ []) []) (simulate p lay st (event code node)).state
        go true z = happens r code node (eqb-true _ 0 z)
        go false z = rw (append-nil, refused-leaves p lay st (event code node) (eqb-false _ 0 z)) r
    step-on (message code node q) = rw append-nil (changes r (message-quiet st fine-at code node q))

  pub steps-reached : (es : List Event) (st : List ℕ) (ts : List Step) → Reached p lay es st → Reached p lay (es ++ passed_from p lay st ts) (replay_from p lay st ts)
  unfolding passed_from replay_from
  steps-reached es st [] r = rw append-nil r
  steps-reached es st (t ∷ ts) r = rw append_assoc at (steps-reached (es ++ passed_of t (step_number p lay st t)) (simulate p lay st t).state ts (step-on r t))
