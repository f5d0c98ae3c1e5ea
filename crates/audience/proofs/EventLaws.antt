-- Events as members of lists: among some, of all nodes, and those that apply. Assumes nothing.
use mathlib.Core.Path.{◌≡◌, refl, subst}
use mathlib.Core.Bool.{true}
use mathlib.Core.List.{List}
use Prim.Native.Nat.{ℕ, ◌<◌}
use borrow.Author.Tests.{ltb-true}
use native.Mathlib.Omega.{arith}
use Rattle.lists.specs.Member.{In, here, there}
use Rattle.lists.proofs.Logic.{parts}
use Rattle.lists.proofs.Members.{any-by, any_at, keep-in, in-keep, in-up}
use Rattle.lists.proofs.Points.{map-in}
use Rattle.plan.specs.Plan.{size}
use Rattle.event.specs.Event.{Code, start, offer, commit, abort, answered-yes, answered-no, pick, down, Event, at, same, among, applies}
use Rattle.runs.proofs.Said.{same-event, same_self}
use Rattle.merge.specs.Events.{all_codes, events_at, every, events}
use Rattle.audience.proofs.ListLaws.{in-flat}

-- every code is in the list of all
code-in : (c : Code) → In c all_codes
unfolding all_codes
code-in start = here refl
code-in offer = there (here refl)
code-in commit = there (there (here refl))
code-in abort = there (there (there (here refl)))
code-in answered-yes = there (there (there (there (here refl))))
code-in answered-no = there (there (there (there (there (here refl)))))
code-in pick = there (there (there (there (there (there (here refl))))))
code-in down = there (there (there (there (there (there (there (here refl)))))))

pub in-among : {f : Event} {es : List Event} → In f es → among es f ≡ true
unfolding among
in-among {f} i = any-by (λ g. same g f) i (same_self f)

pub among_in : (es : List Event) (f : Event) → among es f ≡ true → In f es
unfolding among
among_in es f h = let r = any_at (λ g. same g f) es h in subst (λ (g : Event). In g es) (same-event r.0 f r.2) r.1

pub in-every : (p : List ℕ) (e : Event) → e.node < size p → In e (every p)
unfolding every events_at
in-every p e l = in-flat events_at (in-up 0 (size p) e.node (omega arith) (omega arith)) (map-in (λ c. at c e.node) (code-in e.code))

pub applies-node : (p : List ℕ) (e : Event) → applies p e ≡ true → e.node < size p
unfolding applies
applies-node p e h = ltb-true e.node (size p) (search parts)

pub in-events : (p : List ℕ) (e : Event) → applies p e ≡ true → In e (events p)
unfolding events
in-events p e a = in-keep (applies p) (in-every p e (applies-node p e a)) a

pub events-apply : (p : List ℕ) {e : Event} → In e (events p) → applies p e ≡ true
unfolding events
events-apply p i = (keep-in (applies p) (every p) i).1
