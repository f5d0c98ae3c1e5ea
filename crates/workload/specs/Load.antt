-- The generator and the load (rules U). Definitions only.
use Rattle.std.specs.Prelude.{ℕ, zero, suc, ◌+◌, ◌*◌, ◌/◌, ◌%◌, ◌^◌, cond, List, [], ◌∷◌, ◌++◌, ◌==◌}

-- U1: the generator moves from one number of 32 bits to the next
unfoldable pub moved : ℕ → ℕ
moved s = (s * 1664525 + 1013904223) % 2 ^ 32

-- U1: k moves
unfoldable pub after : ℕ → ℕ → ℕ
after zero s = s
after (suc k) s = after k (moved s)

-- U1: the draw of the number that was moved to
unfoldable pub draw : ℕ → ℕ
draw s = s / 65536

-- U2: the step that four moves from s give, in a plan of n nodes: code, node, and ff or a site
unfoldable pub step_at : ℕ → ℕ → List ℕ
step_at n s = (draw (after 2 s) % 8 + 1) ∷ (draw (after 3 s) % n) ∷ cond (draw (after 1 s) % 2 == 0) 255 (draw (after 4 s) % n) ∷ []

-- U3: so many steps
unfoldable pub load : ℕ → ℕ → ℕ → List ℕ
load n zero s = []
load n (suc c) s = step_at n s ++ load n c (after 4 s)
