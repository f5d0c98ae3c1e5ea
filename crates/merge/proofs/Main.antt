-- The theorem of this crate: the claim of specs/Claim.antt. Assumes nothing.
use Rattle.std.proofs.Common.{sym, ◌∙◌, inl, inr}
use mathlib.Core.Bool.{or_self, or_comm, or_assoc}
use Rattle.lists.proofs.Logic.{cases, either}
use Rattle.row.specs.Row.{heard}
use Rattle.merge.specs.Merge.{merged}
use Rattle.merge.specs.Claim.{MergeJoins}
use Rattle.merge.proofs.MergeLaws.{row-ext, merged-bytes, merged-heard}

pub merge-joins : MergeJoins
merge-joins n = record {
  kept = λ a b fa fb. merged-bytes n a b fa fb;
  either = λ a b fa fb e. (
    λ h. cases ((either (heard a e) (heard b e)).0 (sym (merged-heard n a b fa fb e) ∙ h)) inl inr,
    λ s. merged-heard n a b fa fb e ∙ (either (heard a e) (heard b e)).1 s,
  );
  same = λ a fa. row-ext n (merged a a) a (merged-bytes n a a fa fa) fa (λ e. merged-heard n a a fa fa e ∙ or_self (heard a e));
  swap = λ a b fa fb. row-ext n (merged a b) (merged b a) (merged-bytes n a b fa fb) (merged-bytes n b a fb fa)
      (λ e. merged-heard n a b fa fb e ∙ or_comm (heard a e) (heard b e) ∙ sym (merged-heard n b a fb fa e));
  regroup = λ a b c fa fb fc.
      let ab = merged-bytes n a b fa fb in
      let bc = merged-bytes n b c fb fc in
      row-ext n (merged (merged a b) c) (merged a (merged b c)) (merged-bytes n (merged a b) c ab fc) (merged-bytes n a (merged b c) fa bc)
      (λ e. rw (merged-heard n (merged a b) c ab fc e, merged-heard n a b fa fb e, merged-heard n a (merged b c) fa bc e, merged-heard n b c fb fc e)
      (or_assoc (heard a e) (heard b e) (heard c e)));
}
