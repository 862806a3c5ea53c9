-- What bounds the sum that an ADD forms, by method, whatever the verdict. Rests on the limits alone.
use Rattle.std.specs.Prelude.{◌≢◌, [], ◌∷◌, ◌-◌, ◌*◌, ◌^◌, ℤ, pos, negsuc, ◌+ℤ◌, ◌≤ℤ◌, ◌<ℤ◌}
use Rattle.plans.specs.declared.Header.{Header}
use Rattle.plans.specs.Limits.{far, by_method}

-- x is a distance and w a weight; in method 2 w is an entry of the table, and FAR where there is no edge: a total that is formed from a reached
-- vertex is below FAR (document 02, ask 7). In method 4 both are entries of its table: no sum is below -2^32 × 100,000,000 or above 2^60 - 2^21,
-- twice what stands for no walk while it runs (ask 8), so that none passes 64 bits.
unfoldable pub sum_bound : Header → (x w : ℤ) → Type 0
sum_bound h x w =
    let of_edges = x ≢ far → (x +ℤ w) <ℤ far in
    let of_entries = x ≢ far → w ≢ far → (x +ℤ w) <ℤ far in
    let of_tables = (negsuc (2 ^ 32 * 100000000 - 1) ≤ℤ (x +ℤ w)) × ((x +ℤ w) ≤ℤ pos (2 ^ 60 - 2 ^ 21)) in
    by_method h.method (Unit {0}) (of_edges ∷ of_entries ∷ of_edges ∷ of_tables ∷ of_edges ∷ [])
