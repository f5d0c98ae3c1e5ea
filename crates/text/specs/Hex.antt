-- Bytes as lowercase hexadecimal digits (rules J1 and J3): the digits, a line as it is read and as it is printed. Definitions only.
use Rattle.std.specs.Prelude.{Bool, cond, ◌&&◌, ◌||◌, List, [], ◌∷◌, ℕ, ◌+◌, ◌-◌, ◌*◌, ◌/◌, ◌%◌, eqb, leb, ltb, get_or}
use Rattle.lists.specs.Seq.{all_below, table}

-- J1: a digit, 0 to 9 or a to f
unfoldable pub is_digit : ℕ → Bool
is_digit b = leb 48 b && leb b 57 || leb 97 b && leb b 102

-- J1: the value of a digit; of any other byte 0
unfoldable pub value_of : ℕ → ℕ
value_of b = cond (is_digit b) (cond (leb b 57) (b - 48) (b - 87)) 0

-- J1, J3: the digit of a value below 16
unfoldable pub digit_of : ℕ → ℕ
digit_of n = cond (ltb n 10) (n + 48) (n + 87)

-- J1: t begins with a line of k bytes: two digits each, and a line feed
unfoldable pub digit_at : List ℕ → ℕ → Bool
digit_at t i = is_digit (get_or t i 0)

unfoldable pub is_line : ℕ → List ℕ → Bool
is_line k t = all_below (digit_at t) (2 * k) && eqb (get_or t (2 * k) 0) 10

-- J1: byte i of the line with which t begins, and its k bytes
unfoldable pub line_byte : List ℕ → ℕ → ℕ
line_byte t i = value_of (get_or t (2 * i) 0) * 16 + value_of (get_or t (2 * i + 1) 0)

unfoldable pub line_bytes : ℕ → List ℕ → List ℕ
line_bytes k t = table (line_byte t) k

-- J1, J3: the line of the bytes bs
unfoldable pub hex_line : List ℕ → List ℕ
hex_line [] = 10 ∷ []
hex_line (b ∷ bs) = digit_of (b / 16) ∷ digit_of (b % 16) ∷ hex_line bs
