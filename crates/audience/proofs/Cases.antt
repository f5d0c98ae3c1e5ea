-- Worked audiences: every event of one plan, calls on it, and the messages of a whole job of 153 nodes. Assumes nothing.
use mathlib.Core.Path.{◌≡◌, refl}
use mathlib.Core.List.{List, [], ◌∷◌, ◌++◌, map}
use Prim.Native.Nat.{ℕ, ◌*◌}
use lib.ListN.{length}
use Rattle.lists.specs.Seq.{any, keep, up_from, head_or, last_or, all_below}
use Rattle.plan.specs.Plan.{kind_number, is_kind, kind_of, size, kind_byte, kind, parent, children_below, children, others, above, in_xor, child_count, depth_within, depth}
use Rattle.plan.specs.Check.{length_ok, kind_ok, parent_ok, under_block, fits, count_ok, depth_ok, at_all, check_number, fit_number}
use Rattle.event.specs.Valid.{event_fault, invalid}
use Rattle.audience.specs.Call.{audience_of}
use Rattle.event.specs.Event.{start, commit, code_number, same_code, Event, at, same, among, applies_by, applies, code_of, is_code, known}
use Rattle.event.specs.Site.{host_by, host_of, own, site_of}
use Rattle.guard.specs.Guard.{before_in, is_first, start_by, finish_by, abort_by, finishing, aborting, guard_by, guard}
use Rattle.audience.specs.Audience.{mentions, names, audience}
use Rattle.audience.specs.Hearers.{later, start_hearers, end_hearers, hearers_by, hearers}
use Rattle.audience.specs.Messages.{total, messages_most}
use Rattle.std.specs.List.{flat_map}
use Rattle.merge.specs.Output.{Output, output, put_front}
use Rattle.plan.specs.Made.{in_front}
use Rattle.merge.specs.Events.{all_codes, events_at, every, events}

-- PLAN P: a serial of a task, an xor of two tasks, and a task
abbrev plan : List ℕ
plan = 2 ∷ 255 ∷ 1 ∷ 0 ∷ 5 ∷ 0 ∷ 1 ∷ 2 ∷ 1 ∷ 2 ∷ 1 ∷ 0 ∷ []

-- by the definition, each event that applies
pub by-guards : map (audience plan (own plan)) (events plan) ≡
    (1 ∷ []) ∷ [] ∷ []
    ∷ [] ∷ (2 ∷ []) ∷ (0 ∷ [])
    ∷ (3 ∷ 4 ∷ []) ∷ (5 ∷ []) ∷ (0 ∷ [])
    ∷ [] ∷ (2 ∷ []) ∷ (2 ∷ []) ∷ (2 ∷ []) ∷ (3 ∷ 4 ∷ []) ∷ (2 ∷ [])
    ∷ [] ∷ (2 ∷ []) ∷ (2 ∷ []) ∷ (2 ∷ []) ∷ (3 ∷ 4 ∷ []) ∷ (2 ∷ [])
    ∷ [] ∷ (0 ∷ []) ∷ (0 ∷ [])
    ∷ []
unfolding all_codes any keep up_from head_or last_or kind_number is_kind kind_of size kind_byte kind parent children_below children others above in_xor code_number same_code same among applies_by applies host_by host_of own site_of before_in is_first start_by finish_by abort_by finishing aborting guard_by guard events_at every events mentions names audience
by-guards = refl

-- CALLS on it: the code, the node, the lent bytes, and what the call comes to
pub record Call : Type 0 where
  pub code : ℕ
  pub node : ℕ
  pub lent : List ℕ
  pub comes : Output

call : ℕ → ℕ → List ℕ → Output → Call
call code node b a = record { code = code; node = node; lent = b; comes = a }

pub calls : List Call
calls =
    -- pick of 3: both children of the xor, and the third byte stays
    call 7 3 (9 ∷ 9 ∷ 9 ∷ []) (output 0 2 (3 ∷ 4 ∷ 9 ∷ []))
    ∷ call 7 3 (9 ∷ 9 ∷ []) (output 0 2 (3 ∷ 4 ∷ []))
    ∷ call 7 3 (9 ∷ []) (output 7 0 (9 ∷ []))
    -- start of a task: nobody, for which there always is room
    ∷ call 1 1 [] (output 0 0 [])
    ∷ call 3 1 (9 ∷ 9 ∷ []) (output 0 1 (2 ∷ 9 ∷ []))
    -- 8 and 9 come before 7
    ∷ call 9 1 [] (output 8 0 [])
    ∷ call 3 6 [] (output 8 0 [])
    ∷ call 2 1 [] (output 9 0 [])
    ∷ []

pub calls-right : map (λ (k : Call). audience_of plan k.code k.node k.lent) calls ≡ map (λ (k : Call). k.comes) calls
unfolding calls call all_codes any keep up_from head_or last_or kind_number is_kind kind_of size kind_byte kind parent children_below children others above in_xor code_number same_code same among applies_by applies host_by host_of own site_of before_in is_first start_by finish_by abort_by finishing aborting guard_by guard events_at every events mentions names audience in_front put_front audience_of invalid event_fault known is_code code_of all_below child_count depth_within depth length_ok kind_ok parent_ok under_block fits count_ok depth_ok at_all check_number fit_number
calls-right = refl

-- 153 NODES: a serial of eight ands of eighteen tasks each. Every node starts and commits: 306 events
abbrev big : List ℕ
big = 2 ∷ 255 ∷ (flat_map (λ v. 3 ∷ 0 ∷ []) (up_from 1 8) ++ flat_map (λ u. flat_map (λ v. 1 ∷ u ∷ []) (up_from 0 18)) (up_from 1 8))

abbrev job : List Event
job = flat_map (λ v. at start v ∷ at commit v ∷ []) (up_from 0 153)

abbrev told : List Event → List ℕ
told es = map (λ e. length (hearers big e)) es

pub record Big : Type 0 where
  pub nodes : size big ≡ 153
  pub events : length job ≡ 306
  -- told to audiences, at most, and told to everybody
  pub spared : total (λ n. n) (told job) ≡ 297
  pub most : messages_most big ≡ 304
  pub everybody : length job * 152 ≡ 46512

pub big-job : Big
unfolding keep up_from head_or kind_number is_kind kind_of size kind_byte kind parent children_below children above in_xor later start_hearers end_hearers hearers_by hearers total messages_most
big-job = record { nodes = refl; events = refl; spared = refl; most = refl; everybody = refl }
