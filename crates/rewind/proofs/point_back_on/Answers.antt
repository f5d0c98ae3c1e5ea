-- The name's slot, and the way back to its place. Assumes nothing.
use Rattle.std.proofs.Common.{arith}
use Rattle.points.proofs.NamingLaws.{fit-long}
use Rattle.rewind.proofs.CallLaws.{word_some, place-within, back-unknown, back-way}
use Rattle.rewind.proofs.point_back_on.Goals as goal

pub slot_of-requires : goal.slot_of-requires
slot_of-requires c = let l = fit-long _ _ _ c.requires.name_len.2 in (l.0, l.1, c.requires.name_len.0)

pub returns-in_default : goal.returns-in_default
returns-in_default c =
    back-unknown _ _ _ _ c.requires.laid _ _ c.requires.name_len.1 _ _ c.requires.name_len.2 _ c.requires.name_len.0 _ c.in_default.ensures.value (omega arith)

pub bounds-places-slot : goal.bounds-places-slot
bounds-places-slot c = rw (fit-long _ _ _ c.requires.name_len.2).1 c.in-Some.ensures.within

pub overflow_sub-place : goal.overflow_sub-place
overflow_sub-place c = omega (arith, word_some _ _ _ c.requires.name_len.2 _ _ c.in-Some.ensures.value c.in-Some.ensures.within)

pub return_to-requires : goal.return_to-requires
return_to-requires c = let l = fit-long _ _ _ c.requires.name_len.2 in
    record { laid = c.requires.laid; place_le_count = (place-within _ _ _ c.requires.name_len.2 _ _ c.in-Some.ensures.value c.in-Some.ensures.within, c.requires.name_len.1, l.0, l.1) }

pub returns : goal.returns
returns c =
    back-way _ _ _ _ c.requires.laid _ _ c.requires.name_len.1 _ _ c.requires.name_len.2 _ c.requires.name_len.0 _ c.in-Some.ensures.value c.in-Some.ensures.within _ c.return_to.ensures
