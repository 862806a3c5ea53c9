-- The numbers that document 01 fixes, with those of ask 7 of document 02, each named once. Rests on the toolchain's library alone.
use Rattle.std.specs.Prelude.{Bool, false, cond, ◌||◌, List, [], ◌∷◌, ℕ, ◌-◌, ◌^◌, eqb, ℤ, pos, negsuc}

-- The mark of an unreached vertex (FAR): the greatest number that SET writes.
abbrev pub far : ℤ
far = pos (2 ^ 39 - 1)

-- ---- methods

-- Whether a number is one of some.
abbrev pub is_in : List ℕ → (k : ℕ) → Bool
is_in [] k = false
is_in (x ∷ xs) k = eqb k x || is_in xs k

-- What stands in a row where k stands among some numbers; `other` where it doesn't.
abbrev pub found {ℓ} : {X : Type ℓ} → List ℕ → (k : ℕ) (other : X) → List X → X
found [] k other row = other
found (x ∷ xs) k other [] = other
found (x ∷ xs) k other (y ∷ row) = cond (eqb k x) y (found xs k other row)

-- The methods that there are.
abbrev pub methods : List ℕ
methods = 1 ∷ 2 ∷ 3 ∷ 4 ∷ 5 ∷ []

abbrev pub known_method : (method : ℕ) → Bool
known_method method = is_in methods method

-- What a method has of a row of values, one for each of the methods, in their order; `other` where there is no such method.
abbrev pub by_method {ℓ} : {X : Type ℓ} → (method : ℕ) (other : X) → List X → X
by_method method other row = found methods method other row

-- The greatest counts of vertices and edges.
abbrev pub most_vertices : ℕ
most_vertices = 32

abbrev pub most_edges : (method : ℕ) → ℕ
most_edges method = by_method method 0 (128 ∷ 0 ∷ 128 ∷ 128 ∷ 128 ∷ [])

-- The header's source is one of this many: any of n vertices; in method 4, whose every vertex is a source, 0.
abbrev pub source_count : (method n : ℕ) → ℕ
source_count method n = by_method method n (n ∷ n ∷ n ∷ 1 ∷ n ∷ [])

-- Weights (prices): an edge's from the least to the greatest, an entry's from 0, or -1, which stands for no edge.
abbrev pub most_weight : ℕ
most_weight = 100000000

abbrev pub least_weight : ℤ
least_weight = negsuc (most_weight - 1)

abbrev pub no_edge : ℤ
no_edge = negsuc 0
