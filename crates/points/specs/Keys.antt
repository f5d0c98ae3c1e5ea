-- A name's eight bytes as one number, so that two names are compared at once. The contracts of private functions cite this; no rule is stated here.
-- Definitions only.
use Rattle.std.specs.Prelude.{List, ℕ, ◌+◌, ◌*◌, get_or}

-- M1: four bytes from `at` on, the first one lowest; and eight, a name
unfoldable pub half_at : List ℕ → ℕ → ℕ
half_at bs at = get_or bs at 0 + 256 * (get_or bs (at + 1) 0 + 256 * (get_or bs (at + 2) 0 + 256 * get_or bs (at + 3) 0))

unfoldable pub key_at : List ℕ → ℕ → ℕ
key_at bs at = half_at bs at + 4294967296 * half_at bs (at + 4)
