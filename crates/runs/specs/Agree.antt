-- When answers agree with a run (rule I9). Definitions only.
use Rattle.std.specs.Prelude.{◌≡◌, Bool, true, false, ◌||◌, List, ℕ, suc, length, get_or}
use Rattle.lists.specs.Seq.{any, earlier}
use Rattle.plan.specs.Plan.{kind, parent, children}
use Rattle.plan.specs.declared.kinds.Kind.TheVariants.{Task as task, Xor as xor}
use Rattle.event.specs.Event.{start, offer, commit, abort, answered-yes, answered-no, pick, Event, at}

-- F1: the place, from 1, of v among its parent's children
unfoldable pub place_of : List ℕ → ℕ → ℕ
place_of p v = suc (length (earlier (children p (parent p v)) v))

-- I9: the answers a agree with what happened: works and yes are 1, fails and no 2, a pick is the child's place
pub record Agrees (p : List ℕ) (happened : Event → Bool) (a : List ℕ) : Type 0 where
  pub task-works : (v : ℕ) → kind p v ≡ task → (happened (at offer v) || happened (at commit v)) ≡ true → get_or a v 0 ≡ 1
  pub task-fails : (v : ℕ) → kind p v ≡ task → happened (at abort v) ≡ true → get_or a v 0 ≡ 2
  pub says-yes : (v : ℕ) → happened (at answered-yes v) ≡ true → get_or a v 0 ≡ 1
  pub says-no : (v : ℕ) → happened (at answered-no v) ≡ true → get_or a v 0 ≡ 2
  pub picks : (v : ℕ) → happened (at pick v) ≡ true → get_or a (parent p v) 0 ≡ place_of p v
  pub unpicked : (v : ℕ) → kind p v ≡ xor → happened (at start v) ≡ true → any (λ c. happened (at pick c)) (children p v) ≡ false → get_or a v 0 ≡ 0
