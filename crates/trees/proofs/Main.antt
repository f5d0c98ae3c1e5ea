-- The theorems of this crate: the claims of specs/Claim.antt. Assumes nothing.
use mathlib.Core.Path.{sym, ◌∙◌, ap}
use Rattle.plan.proofs.AcceptedLaws.{accepted-ordered}
use Rattle.trees.specs.Tree.{tree_of}
use Rattle.trees.specs.Numbering.{renumbered, in_preorder}
use Rattle.trees.specs.Claim.{TreeSteps, RenumberRight, RenumberCall}
use Rattle.trees.proofs.AboveLaws.{preorder-exact}
use Rattle.trees.proofs.TreeLaws.{trees-step, count-all}
use Rattle.trees.proofs.CallLaws.{renumber-just}
use Rattle.trees.proofs.RenumberLaws.{new-accepted, new-length, new-same, new-preorder, new-fixed, same_bytes}

pub tree-steps : TreeSteps
tree-steps p ordered = (trees-step p ordered, count-all p ordered)

pub renumber-right : RenumberRight
renumber-right p ok = record {
  exact = preorder-exact p (accepted-ordered p ok);
  accepted = new-accepted p ok;
  long = new-length p ok;
  same = new-same p ok;
  ordered = new-preorder p ok;
  only = λ q fine e h. sym (new-fixed q fine h) ∙ same_bytes q p e;
  twice = same_bytes (renumbered p) p (new-same p ok);
  stays = (λ e. sym (ap in_preorder e) ∙ new-preorder p ok, new-fixed p ok);
  tells = λ q fine. (λ e. sym (new-same p ok) ∙ ap tree_of e ∙ new-same q fine, same_bytes p q);
}

pub renumber-call : RenumberCall
renumber-call = renumber-just renumber-right
