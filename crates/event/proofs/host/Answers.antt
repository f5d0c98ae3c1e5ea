--  Assumes nothing.
use mathlib.Core.Path.{sym, ◌∙◌}
use Rattle.event.specs.Site.{host_of}
use Rattle.event.proofs.CodeLaws.{host-own, host-pick}
use Rattle.event.proofs.host.Goals as goal

pub returns-then-code-eq7 : goal.returns-then-code-eq7
unfolding host_of
returns-then-code-eq7 c = c.parent.ensures ∙ sym (host-pick _ _ _ c.if-code-eq7.true)

pub returns-else-code-eq7 : goal.returns-else-code-eq7
unfolding host_of
returns-else-code-eq7 c = sym (host-own _ _ _ c.if-code-eq7.false)
