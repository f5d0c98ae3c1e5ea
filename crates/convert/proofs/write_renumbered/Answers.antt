-- The root is placed first. Assumes nothing.
use Rattle.convert.proofs.CallLaws.{root-ready, root-written}
use Rattle.convert.proofs.write_renumbered.Goals as goal

pub place-requires : goal.place-requires
place-requires c = let r = c.requires in root-ready r.0 c.link-links.ensures c.args.out.now r.1

pub returns : goal.returns
returns c = let r = c.requires in root-written _ _ r.0 r.1 c.place.ensures
