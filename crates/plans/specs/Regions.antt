-- The regions of a bank, for every method: a method names them in its order, and its `starts` say where each begins.
-- Rests on the toolchain's library alone.
use Rattle.std.specs.Prelude.{List, ℕ, ◌+◌, get_or}

-- The address of a place in a region.
abbrev pub address : (starts : List ℕ) (region place : ℕ) → ℕ
address starts region place = get_or starts region 0 + place

abbrev pub cell : (starts : List ℕ) → ℕ × ℕ → ℕ
cell starts (region, place) = address starts region place

-- A region by its number, with a place in it: in a bank a number, in a line of a plan a spot.
module _ {A : Type 0} where
  abbrev pub region0 : A → ℕ × A
  region0 p = (0, p)

  abbrev pub region1 : A → ℕ × A
  region1 p = (1, p)

  abbrev pub region2 : A → ℕ × A
  region2 p = (2, p)

  abbrev pub region3 : A → ℕ × A
  region3 p = (3, p)

  abbrev pub region4 : A → ℕ × A
  region4 p = (4, p)

  abbrev pub region5 : A → ℕ × A
  region5 p = (5, p)

  abbrev pub region6 : A → ℕ × A
  region6 p = (6, p)

  abbrev pub region7 : A → ℕ × A
  region7 p = (7, p)

  abbrev pub region8 : A → ℕ × A
  region8 p = (8, p)

  abbrev pub region9 : A → ℕ × A
  region9 p = (9, p)

  abbrev pub region10 : A → ℕ × A
  region10 p = (10, p)

  abbrev pub region11 : A → ℕ × A
  region11 p = (11, p)
