-- What a writer leaves in a buffer; the contracts of private functions cite it, and no rule is stated here. Definitions only.
use Rattle.std.specs.Prelude.{◌≡◌, List, ℕ, ◌+◌, length}
use Rattle.std.proofs.lemmas.List.Edits.{sets}

-- x was written into b from w on, and nothing else: b' is what is left, w' the place behind x
pub record Put (x b : List ℕ) (w : ℕ) (b' : List ℕ) (w' : ℕ) : Type 0 where
  pub place : w' ≡ w + length x
  pub held : b' ≡ sets b w x
