-- The version of the interface (rule K5). Definitions only.
use Rattle.std.specs.Prelude.{ℕ, ◌+◌, ◌*◌}

-- K5: 1.9.0, as 65536 times its first number, 256 times its second, and its third
unfoldable pub version : ℕ
version = 65536 * 1 + 256 * 9 + 0
