-- Lists of bytes: a common word, which states no rule of its own. Definitions only.
use Rattle.std.specs.Prelude.{◌≡◌, List, ℕ, ◌<◌, length, get_or}

-- n bytes
pub record Bytes (n : ℕ) (l : List ℕ) : Type 0 where
  pub long : length l ≡ n
  pub small : (i : ℕ) → get_or l i 0 < 256
