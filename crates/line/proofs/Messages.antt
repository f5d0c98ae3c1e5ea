-- A row that comes leaves what the messages of its events leave, byte for byte. Assumes nothing.
use mathlib.Core.Path.{◌≡◌, refl, sym, ◌∙◌, ap, subst}
use mathlib.Core.Bool.{Bool, true, false, not, ◌&&◌, ◌||◌, or_comm}
use mathlib.Core.List.{List, map, map-map}
use Prim.Native.Nat.{ℕ}
use lib.Dec.{eqb}
use borrow.Author.Tests.{eq-eqb, eqb-true, eqb-false}
use Rattle.lists.specs.Seq.{any, keep}
use Rattle.lists.specs.Member.{In}
use Rattle.lists.proofs.Logic.{cases, decided, same_bool, and_left, and_right, and-join}
use Rattle.lists.proofs.Members.{all-by, any_at, any-by, any-map, keep-in, in-keep}
use Rattle.lists.proofs.Points.{in_map}
use Rattle.plan.specs.Plan.{size}
use Rattle.plan.specs.Check.{Accepted}
use Rattle.plan.proofs.Main.{fit-exact}
use Rattle.event.specs.Event.{Event, same, among, applies}
use Rattle.event.specs.Site.{Layout, Housed}
use Rattle.row.specs.Row.{heard}
use Rattle.lists.specs.Bytes.{Bytes}
use Rattle.central.specs.Central.{is_run}
use Rattle.runs.proofs.Said.{history, same-event, same_self}
use Rattle.runs.proofs.Good.{good-run}
use Rattle.runs.proofs.Net.{Move, relay, moved_all}
use Rattle.job.specs.Simulation.{row_of, with_row, replay_from}
use Rattle.job.proofs.View.{view}
use Rattle.job.proofs.Bridge.{decode_all, step_of_move, moves-back, did-all}
use Rattle.merge.specs.Merge.{merged, new_events, row_applies, rows_fit, merge_number, merge_of}
use Rattle.line.specs.Claim.{Comes, row_steps}
use Rattle.merge.proofs.MergeLaws.{heard-within, merged-bytes, merged-heard}
use Rattle.line.proofs.RowLaws.{row-bytes, with-bytes, view-here, view-other, state-ext}
use Rattle.line.proofs.Relays.{hits, Goes, relays-moved}
use Rattle.line.proofs.Reach.{Fits}
use Rattle.merge.specs.Output.{output}
use Rattle.merge.specs.Events.{every}
use Rattle.audience.proofs.EventLaws.{in-every}

imply : (a b : Bool) → (a ≡ true → b ≡ true) → (not a || b) ≡ true
imply true b h = h refl
imply false b h = refl

-- the events of a run apply
pub run-applies : (p : List ℕ) (es : List Event) (f : Event) → is_run p es ≡ true → among es f ≡ true → applies p f ≡ true
run-applies p es f h k = (good-run p es h).known f (sym (history p es f h) ∙ k)

module _ (p : List ℕ) (ok : Accepted p) (lay : Layout) (housed : Housed p lay) (es : List Event) (st : List ℕ) (fits : Fits p ok lay housed es st)
    (q : ℕ) (row : List ℕ) (h : Comes p lay st q row) where
  here-row : Bytes (size p) (row_of p st q)
  here-row = row-bytes p lay.rows st fits.bytes q h.site

  -- what the row has happened, and its own site has it
  happened : (e : Event) → heard row e ≡ true → among es e ≡ true
  happened e k = let r = h.true-row e k in fits.rows.true-to r.0 e r.1

  -- the row's events
  abbrev news : List Event
  news = keep (heard row) (every p)

  abbrev moves : List Move
  moves = map (λ e. relay e q) news

  going : (m : Move) → In m moves → Goes p lay (view p st) m
  going m i =
      let r = in_map (λ e. relay e q) news i in
      let k = keep-in (heard row) (every p) r.1 in
      record {
        event = r.0;
        site = q;
        is = r.2;
        applied = run-applies p es r.0 fits.rows.run (happened r.0 k.1);
        within = h.site;
        happened = fits.rows.own r.0 (happened r.0 k.1);
      }

  steps-are : row_steps p row q ≡ map step_of_move moves
  unfolding row_steps step_of_move
  steps-are = sym (map-map step_of_move (λ e. relay e q) news)

  hit : (r : ℕ) (f : Event) → any (hits r f) moves ≡ (eqb q r && heard row f)
  unfolding hits
  hit r f = any-map (hits r f) (λ e. relay e q) news ∙ same_bool _ _
      (λ k. let x = any_at (λ e. eqb q r && same e f) news k in
      and-join (eqb q r) (heard row f) (and_left (eqb q r) (same x.0 f) x.2)
      (subst (λ (g : Event). heard row g ≡ true) (same-event x.0 f (and_right (eqb q r) _ x.2)) (keep-in (heard row) (every p) x.1).1))
      (λ k. let y = and_right (eqb q r) _ k in
      any-by (λ e. eqb q r && same e f) (in-keep (heard row) (in-every p f (rw h.bytes.long at (heard-within row f y))) y)
      (and-join (eqb q r) (same f f) (and_left (eqb q r) (heard row f) k) (same_self f)))

  seen : (r : ℕ) (f : Event) → view p (replay_from p lay st (row_steps p row q)) r f ≡ ((eqb q r && heard row f) || view p st r f)
  seen r f =
      ap (λ (w : ℕ → Event → Bool). w r f) ((did-all p ok lay housed st fits.bytes (row_steps p row q)).seen
      ∙ ap (moved_all p lay (view p st)) (ap decode_all steps-are ∙ moves-back moves))
      ∙ relays-moved p lay (view p st) moves going r f
      ∙ rw (hit r f)

  merged-seen : (r : ℕ) (f : Event) → view p (with_row p st q (merged (row_of p st q) row)) r f ≡ ((eqb q r && heard row f) || view p st r f)
  merged-seen r f = cases (decided (eqb q r))
      (λ k. let z = eqb-true q r k in
      rw (k, ← z) (view-here p lay.rows st fits.bytes q h.site (merged (row_of p st q) row) (merged-bytes (size p) (row_of p st q) row here-row h.bytes) f
      ∙ merged-heard (size p) (row_of p st q) row here-row h.bytes f ∙ or_comm (view p st q f) (heard row f)))
      (λ k. rw k (view-other p lay.rows st fits.bytes q h.site (merged (row_of p st q) row) (merged-bytes (size p) (row_of p st q) row here-row h.bytes)
      r f (λ z. eqb-false q r k (sym z))))

  -- the call takes the row: its events apply, and those of the site's own row
  row_fits : row_applies p row ≡ true
  unfolding row_applies
  row_fits = all-by (λ e. not (heard row e) || applies p e) (every p) (λ e i. imply (heard row e) (applies p e) (λ k. run-applies p es e fits.rows.run (happened e k)))

  here-fits : row_applies p (row_of p st q) ≡ true
  unfolding row_applies
  here-fits = all-by (λ e. not (heard (row_of p st q) e) || applies p e) (every p) (λ e i.
      imply (heard (row_of p st q) e) (applies p e) (λ k. run-applies p es e fits.rows.run (fits.rows.true-to q e k)))

  pub by_call : merge_of p (row_of p st q) row ≡ output 0 (new_events p (row_of p st q) row) (merged (row_of p st q) row)
  unfolding merge_of merge_number rows_fit
  by_call = rw (eq-eqb _ _ here-row.long, eq-eqb _ _ h.bytes.long, (fit-exact p true).none.1 (ok, refl), row_fits, here-fits)

  pub as-messages : replay_from p lay st (row_steps p row q) ≡ with_row p st q (merged (row_of p st q) row)
  as-messages =
      state-ext p ok.some lay.rows (replay_from p lay st (row_steps p row q)) (with_row p st q (merged (row_of p st q) row))
      (did-all p ok lay housed st fits.bytes (row_steps p row q)).bytes
      (with-bytes p lay.rows st fits.bytes q h.site (merged (row_of p st q) row) (merged-bytes (size p) (row_of p st q) row here-row h.bytes))
      (λ r l f. seen r f ∙ sym (merged-seen r f))
