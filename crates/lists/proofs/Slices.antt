-- A slice from a place on has its first element and the rest; and an array of one value, lent as a slice, has its length. For any type of elements.
-- Rests on the toolchain's library alone.
use mathlib.Core.Path.{◌≡◌, sym}
use mathlib.Core.List.{List, ◌∷◌}
use Prim.Native.Nat.{ℕ, ◌+◌, ◌<◌}
use native.Mathlib.Numerals.{add-one}
use lib.ListN.{length, get_or, drop, replicate, length-replicate}
use lib.Seq.{drop-cons}

module _ {X : Type 0} where
  -- d is what a look-up gives past a list's end.
  pub next : (xs : List X) (k : ℕ) (d : X) → k < length xs → drop k xs ≡ get_or xs k d ∷ drop (k + 1) xs
  next xs k d h = rw (add-one, drop-cons xs k d h)

  -- Over variables: a long array is not to be written out.
  pub counted : (n : ℕ) (x : X) → n ≡ length (replicate n x)
  counted n x = sym (length-replicate n x)
