-- Eight bytes joined, the most significant first, are what std's `from_be_bytes` makes of them.
-- Rests on printing's Bytes.
use mathlib.Core.Path.{◌≡◌, ◌∙◌}
use mathlib.Core.List.{List}
use Prim.Native.Nat.{ℕ, ◌+◌, ◌<◌}
use native.Mathlib.Omega.{arith}
use lib.ListN.{get_or, drop, take}
use Rattle.std.proofs.lemmas.List.{get_or-take, get_or-drop}
use Rattle.std.specs.Int.{w64, from_be_bytes}
use Rattle.printing.specs.Bytes.{joined_from}

byte : (bytes : List ℕ) (at i : ℕ) → i < 8 → get_or (take 8 (drop at bytes)) i 0 ≡ get_or bytes (at + i) 0
byte bytes at i h = get_or-take 8 (drop at bytes) i 0 h ∙ get_or-drop at bytes i 0

weighed : (bytes eight : List ℕ) (at : ℕ) → ((i : ℕ) → i < 8 → get_or eight i 0 ≡ get_or bytes (at + i) 0)
    → from_be_bytes w64 eight ≡ joined_from bytes at 8
unfolding joined_from
weighed bytes eight at e =
    omega (
      arith,
      e 0 (omega arith),
      e 1 (omega arith),
      e 2 (omega arith),
      e 3 (omega arith),
      e 4 (omega arith),
      e 5 (omega arith),
      e 6 (omega arith),
      e 7 (omega arith),
    )

-- Of the eight from place `at` on.
pub joined : (bytes eight : List ℕ) (at n : ℕ) → n ≡ 8 → eight ≡ take n (drop at bytes) → from_be_bytes w64 eight ≡ joined_from bytes at 8
joined bytes eight at n e is = weighed bytes eight at (rw (is, e) (byte bytes at))
