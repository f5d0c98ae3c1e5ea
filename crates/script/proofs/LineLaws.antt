-- Laws of the lines of numbers and of nodes. Assumes nothing.
use mathlib.Core.Path.{◌≡◌, ◌∙◌, ap}
use mathlib.Core.List.{List, [], ◌∷◌}
use Prim.Native.Nat.{ℕ, ◌+◌, ◌*◌, ◌≤◌, ◌<◌}
use native.Mathlib.Nat.{zero-add}
use native.Mathlib.Omega.{arith}
use lib.ListN.{length, get_or}
use Rattle.lists.specs.Seq.{up_from}
use Rattle.lists.specs.Put.{Put}
use Rattle.lists.proofs.Table.{up-length}
use Rattle.lists.proofs.Each.{EachLeft, each-length, each_turn, each-done, up_at}
use Rattle.plan.specs.Plan.{size, kind_byte}
use Rattle.retention.specs.Record.{Record}
use Rattle.text.specs.Calls.{line_into, printing}
use Rattle.text.proofs.PrintLaws.{hex-length, put-by}
use Rattle.script.specs.Script.{number_line, node_line, number_lines, node_lines}

-- numbers
pub number-length : (n : ℕ) → length (number_line n) ≡ 3
unfolding number_line
number-length n = hex-length (n ∷ [])

pub number_put : (n : ℕ) (b : List ℕ) (w : ℕ) {b' : List ℕ} {w' : ℕ} → w + 3 ≤ length b → line_into (n ∷ []) b w ≡ printing w' b' → Put (number_line n) b w b' w'
unfolding number_line
number_put n b w l e = put-by (n ∷ []) b w l e

pub numbers-length : (ns : List ℕ) → length (number_lines ns) ≡ 3 * length ns
unfolding number_lines
numbers-length ns = each-length number_line 3 number-length ns

pub numbers-done : {ns b₀ : List ℕ} {b : List ℕ} {w i : ℕ} → EachLeft number_line ns b₀ 0 b w i → length ns ≤ i → Put (number_lines ns) b₀ 0 b w
unfolding number_lines
numbers-done h l = each-done h l

-- nodes: k, m and c are the kind, mark and class that were read
module _ (p : List ℕ) (r : Record) where
  pub node-length : (v : ℕ) → length (node_line p r v) ≡ 9
  unfolding node_line
  node-length v = hex-length (v ∷ kind_byte p v ∷ get_or r.marks v 0 ∷ get_or r.classes v 0 ∷ [])

  pub nodes-length : length (node_lines p r) ≡ 9 * size p
  unfolding node_lines
  nodes-length = each-length (node_line p r) 9 node-length (up_from 0 (size p)) ∙ ap (λ n. 9 * n) (up-length 0 (size p))

  pub node-put : (v : ℕ) (b : List ℕ) (w : ℕ) {b' : List ℕ} {w' : ℕ} → w + 9 ≤ length b → {i k m c : ℕ} → i ≡ v → k ≡ kind_byte p v → m ≡ get_or r.marks i 0 →
      c ≡ get_or r.classes i 0 → line_into (v ∷ k ∷ m ∷ c ∷ []) b w ≡ printing w' b' → Put (node_line p r v) b w b' w'
  unfolding node_line
  node-put v b w {b'} {w'} l e f g h q = put-by (v ∷ kind_byte p v ∷ get_or r.marks v 0 ∷ get_or r.classes v 0 ∷ []) b w l (rw (f, g, h, e) at q)

  -- n is the code's number of nodes
  module _ {n : ℕ} (e : n ≡ size p) {b₀ : List ℕ} {w₀ : ℕ} {b : List ℕ} {w v : ℕ} (h : EachLeft (node_line p r) (up_from 0 (size p)) b₀ w₀ b w v) where
    pub nodes-turn : {b' : List ℕ} {w' : ℕ} → v < n → Put (node_line p r v) b w b' w' → EachLeft (node_line p r) (up_from 0 (size p)) b₀ w₀ b' w' (v + 1)
    nodes-turn l q = each_turn h (omega (arith, up-length 0 (size p))) (rw (up_at 0 (size p) v (omega arith), zero-add) q)

    pub nodes-done : n ≤ v → Put (node_lines p r) b₀ w₀ b w
    unfolding node_lines
    nodes-done l = each-done h (omega (arith, up-length 0 (size p)))

-- lines of the same marks and classes
pub record-put : (p : List ℕ) (r : Record) {m c b : List ℕ} {w : ℕ} {b' : List ℕ} {w' : ℕ} → m ≡ r.marks → c ≡ r.classes →
    Put (node_lines p (record { marks = m; classes = c })) b w b' w' → Put (node_lines p r) b w b' w'
record-put p r e f h = rw (e, f) at h
