-- The bytes of clauses by numbers of codes, as the guard table gives them and the writer writes them (rule C8). Definitions only.
use Rattle.std.specs.Prelude.{cond, List, [], ◌∷◌, ◌++◌, ℕ, ◌+◌, eqb, length, take}

-- C8: the events ks of c, and k of each of cs
unfoldable pub pairs : List ℕ → ℕ → List ℕ
pairs [] c = []
pairs (k ∷ ks) c = k ∷ c ∷ pairs ks c

unfoldable pub any_pairs : ℕ → List ℕ → List ℕ
any_pairs k [] = []
any_pairs k (c ∷ cs) = k ∷ c ∷ any_pairs k cs

-- C8: the clause [ks of c], one for each of cs, and the clause [k of any of cs]
unfoldable pub clause : List ℕ → ℕ → List ℕ
clause ks c = length ks ∷ pairs ks c

unfoldable pub each_clause : List ℕ → List ℕ → List ℕ
each_clause ks [] = []
each_clause ks (c ∷ cs) = clause ks c ++ each_clause ks cs

unfoldable pub any_clause : ℕ → List ℕ → List ℕ
any_clause k cs = length cs ∷ any_pairs k cs

-- C3 and C4: the first n of [k, abort, turned down]
abbrev pub codes_of : ℕ → ℕ → List ℕ
codes_of k n = take n (k ∷ 4 ∷ 8 ∷ [])

-- C8: the number of clauses, `more` of them behind these, and these: none for the code 0, [k of v] where n is 0, else one for each of cs
unfoldable pub first_bytes : ℕ → ℕ → ℕ → ℕ → List ℕ → List ℕ
first_bytes k v n more cs =
    cond (eqb k 0) (more ∷ [])
    (cond (eqb n 0) ((1 + more) ∷ clause (codes_of k 1) v) ((length cs + more) ∷ each_clause (codes_of k n) cs))

-- C8: [k of any of cs], which the code 0 leaves out, and how many clauses that is
unfoldable pub any_part : ℕ → List ℕ → List ℕ
any_part k cs = cond (eqb k 0) [] (any_clause k cs)

unfoldable pub more_of : ℕ → ℕ
more_of k = cond (eqb k 0) 0 1
