-- The definition. Assumes nothing.
use Rattle.std.proofs.Common.{◌∙◌}
use Rattle.text.proofs.TextLaws.{bar-starts}
use Rattle.text.proofs.is_bar.Goals as goal

pub returns : goal.returns
returns c = c.starts_with.ensures.value ∙ bar-starts c.args.sign c.args.text.now
