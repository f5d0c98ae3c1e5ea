-- Three tests; then the name's own slot, or the first free one. Assumes nothing.
use Rattle.std.proofs.Common.{sym, ◌∙◌, ap, arith}
use Rattle.points.specs.Points.{slot_number}
use Rattle.points.proofs.FirstLaws.{free-position}
use Rattle.points.proofs.NamingLaws.{fit-long, name-long, name-far, name-unfit, name-fits, name-known, name-full, name_new}
use Rattle.points.proofs.name_point.Goals as goal

pub returns-then-name-ne8 : goal.returns-then-name-ne8
returns-then-name-ne8 c = name-long _ _ _ _ c.if-name-ne8.true

pub returns-then-count-eq18446744073709551615 : goal.returns-then-count-eq18446744073709551615
returns-then-count-eq18446744073709551615 c = name-far _ _ _ _ c.if-name-ne8.false c.if-count-eq18446744073709551615.true

pub returns-then-not-points_fit : goal.returns-then-not-points_fit
returns-then-not-points_fit c = name-unfit _ _ _ _ c.if-name-ne8.false (sym c.points_fit.ensures ∙ c.if-not-points_fit.true)

pub slot_of-requires : goal.slot_of-requires
slot_of-requires c = let l = fit-long _ _ _ (sym c.points_fit.ensures ∙ c.if-not-points_fit.false) in (l.0, l.1, c.if-name-ne8.false)

pub bounds-places-known : goal.bounds-places-known
bounds-places-known c = let l = fit-long _ _ _ (sym c.points_fit.ensures ∙ c.if-not-points_fit.false) in rw l.1 c.in-Some.ensures.within

pub returns-in-Some : goal.returns-in-Some
returns-in-Some c =
    let fit = name-fits _ _ _ _ c.if-name-ne8.false c.if-count-eq18446744073709551615.false c.ranges.count.fits (sym c.points_fit.ensures ∙ c.if-not-points_fit.false) in
    name-known _ _ _ _ fit _ c.in-Some.ensures.value c.in-Some.ensures.within

pub free_slot-requires : goal.free_slot-requires
free_slot-requires c = let l = fit-long _ _ _ (sym c.points_fit.ensures ∙ c.if-not-points_fit.false) in l.1

pub returns-in_default-free_slot : goal.returns-in_default-free_slot
returns-in_default-free_slot c =
    let right = sym c.points_fit.ensures ∙ c.if-not-points_fit.false in
    let fit = name-fits _ _ _ _ c.if-name-ne8.false c.if-count-eq18446744073709551615.false c.ranges.count.fits right in
    let long = fit-long _ _ _ right in
    name-full _ _ _ _ fit _ c.in_default.ensures.value (omega arith) _ (ap slot_number c.in_default-free_slot.ensures.first ∙ free-position _ long.1) (omega arith)

pub put_name-requires : goal.put_name-requires
put_name-requires c = let l = fit-long _ _ _ (sym c.points_fit.ensures ∙ c.if-not-points_fit.false) in (l.0, c.in-Some-free_slot.ensures.within, c.if-name-ne8.false)

pub bounds-places-free : goal.bounds-places-free
bounds-places-free c = let l = fit-long _ _ _ (sym c.points_fit.ensures ∙ c.if-not-points_fit.false) in rw l.1 c.in-Some-free_slot.ensures.within

pub returns : goal.returns
returns c =
    let right = sym c.points_fit.ensures ∙ c.if-not-points_fit.false in
    let fit = name-fits _ _ _ _ c.if-name-ne8.false c.if-count-eq18446744073709551615.false c.ranges.count.fits right in
    let long = fit-long _ _ _ right in
    name_new _ _ _ _ fit _ c.in_default.ensures.value (omega arith) _ (ap slot_number c.in-Some-free_slot.ensures.first ∙ free-position _ long.1) c.in-Some-free_slot.ensures.within _ c.put_name.ensures
