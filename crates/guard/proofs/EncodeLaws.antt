-- The bytes of clauses for each child and for any child, by the codes' numbers, and how many they are. Assumes nothing.
use mathlib.Core.Path.{◌≡◌, refl, sym, ap}
use mathlib.Core.List.{List, [], ◌∷◌, ◌++◌, map, append_assoc, append-nil}
use Prim.Native.Nat.{ℕ, ◌+◌, ◌*◌, ◌≤◌}
use native.Mathlib.Omega.{arith}
use lib.ListN.{length, length-append, length-map}
use Rattle.event.specs.Event.{Code, code_number, at}
use Rattle.guard.specs.Guard.{Guard, each, any_of}
use Rattle.guard.specs.Bytes.{enc_events, enc_clauses, encode}
use Rattle.guard.specs.Put.{pairs, any_pairs, clause, each_clause, any_clause}

clauses-append : (g h : Guard) → enc_clauses (g ++ h) ≡ enc_clauses g ++ enc_clauses h
unfolding enc_clauses
clauses-append [] h = refl
clauses-append (c ∷ g) h = ap (λ l. length c ∷ l) (rw (clauses-append g h) (sym (append_assoc (enc_events c) (enc_clauses g) (enc_clauses h))))

events-each : (ks : List Code) (c : ℕ) → enc_events (map (λ k. at k c) ks) ≡ pairs (map code_number ks) c
unfolding enc_events pairs
events-each [] c = refl
events-each (k ∷ ks) c = ap (λ l. code_number k ∷ c ∷ l) (events-each ks c)

events-any : (k : Code) (cs : List ℕ) → enc_events (map (at k) cs) ≡ any_pairs (code_number k) cs
unfolding enc_events any_pairs
events-any k [] = refl
events-any k (c ∷ cs) = ap (λ l. code_number k ∷ c ∷ l) (events-any k cs)

clauses-each : (ks : List Code) (cs : List ℕ) → enc_clauses (each ks cs) ≡ each_clause (map code_number ks) cs
unfolding enc_clauses each_clause clause
clauses-each ks [] = refl
clauses-each ks (c ∷ cs) = rw (length-map ks (λ k. at k c), length-map ks code_number, events-each ks c, clauses-each ks cs)

clauses-any : (k : Code) (cs : List ℕ) → enc_clauses (any_of k cs) ≡ any_clause (code_number k) cs
unfolding enc_clauses any_clause
clauses-any k cs = rw (length-map cs (at k), append-nil (enc_events (map (at k) cs)), events-any k cs)

pub encode-each : (ks : List Code) (cs : List ℕ) → encode (each ks cs) ≡ length cs ∷ each_clause (map code_number ks) cs
unfolding encode
encode-each ks cs = rw (length-map cs (λ c. map (λ k. at k c) ks), clauses-each ks cs)

pub encode-each-any : (ks : List Code) (xs : List ℕ) (k : Code) (ys : List ℕ)
    → encode (each ks xs ++ any_of k ys) ≡ (length xs + 1) ∷ (each_clause (map code_number ks) xs ++ any_clause (code_number k) ys)
unfolding encode
encode-each-any ks xs k ys =
    rw (clauses-append (each ks xs) (any_of k ys), clauses-each ks xs, clauses-any k ys, length-append (each ks xs) (any_of k ys), length-map xs (λ c. map (λ k. at k c) ks))

-- lengths
pairs-length : (ks : List ℕ) (c : ℕ) → length (pairs ks c) ≡ 2 * length ks
unfolding pairs
pairs-length [] c = refl
pairs-length (k ∷ ks) c = omega (arith, pairs-length ks c)

any-pairs-length : (k : ℕ) (cs : List ℕ) → length (any_pairs k cs) ≡ 2 * length cs
unfolding any_pairs
any-pairs-length k [] = refl
any-pairs-length k (c ∷ cs) = omega (arith, any-pairs-length k cs)

pub any-length : (k : ℕ) (cs : List ℕ) → length (any_clause k cs) ≡ 1 + 2 * length cs
unfolding any_clause
any-length k cs = omega (arith, any-pairs-length k cs)

pub each-short : (ks cs : List ℕ) → length ks ≤ 3 → length (each_clause ks cs) ≤ 7 * length cs
unfolding each_clause clause
each-short ks [] h = omega arith
each-short ks (c ∷ cs) h = omega (arith, each-short ks cs h, length-append (pairs ks c) (each_clause ks cs), pairs-length ks c)
