-- Bytes put to the front of lent ones, by whether there is room (rule V10). Assumes nothing.
use Rattle.std.proofs.Common.{◌≡◌, List, ℕ, ◌≤◌, ◌<◌, length, le-leb}
use borrow.Author.Tests.{lt-leb}
use Rattle.plan.specs.Made.{in_front}
use Rattle.merge.specs.Output.{output, put_front}

module _ (k : ℕ) (x b : List ℕ) where
  pub front-short : length b < length x → put_front k x b ≡ output 7 0 b
  unfolding put_front
  front-short l = rw (lt-leb (length x) (length b) l)

  pub front-done : length x ≤ length b → put_front k x b ≡ output 0 k (in_front x b)
  unfolding put_front
  front-done l = rw (le-leb (length x) (length b) l)
