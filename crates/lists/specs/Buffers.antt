-- What a lent buffer holds after a list was written to it. Rests on nothing.
use Rattle.std.specs.Prelude.{List, ◌++◌, length, drop}

-- The words from the start of a buffer, which stays as it was beyond them.
abbrev pub overwritten : {X : Type 0} (words buffer : List X) → List X
overwritten words buffer = words ++ drop (length words) buffer
