-- Document 01, "Who caused it", as facts about the refusals: the number of each, and whether it has a place; 10, 13 and 14 as ask 1 of
-- document 02 has them, 15 as ask 3 and 16 as ask 5 have them. Rests on the definitions alone.
use Rattle.std.specs.Prelude.{◌≡◌, [], ℕ}
use Rattle.std.proofs.Math.Option.{none, some}
use Rattle.answers.specs.Refusal.{Method, Vertices, Edges, Source, Words, Cells, Log, Results, Operation, SpareBits, Weight, FromVertex, ToVertex, Unsorted, Destination}
use Rattle.answers.specs.Told.{Told, refused}

-- A refusal that tells its number alone, and one that tells its place too.
abbrev pub by_number : (number : ℕ) → Told
by_number k = record { number = k; place = none; values = [] }

abbrev pub at_place : (number place : ℕ) → Told
at_place k place = record { number = k; place = some place; values = [] }

pub record Facts : Type 0 where
  -- "The desk that sends the public part": header missing or method, n, m, source, words after the header.
  pub desk : (refused Method ≡ by_number 1)
      × (refused Vertices ≡ by_number 2)
      × (refused Edges ≡ by_number 3)
      × (refused Source ≡ by_number 4)
      × (refused Words ≡ by_number 5)
  -- "The host that lends buffers": cells, log, results.
  pub host : (refused Cells ≡ by_number 6) × (refused Log ≡ by_number 7) × (refused Results ≡ by_number 8)
  -- "The sender of a foreign plan", with place.
  pub sender : refused (Operation 5) ≡ at_place 9 5
  -- "A carrier", with place: spare bits and price; of a lane's two ends, from-yard and to-yard; and the order of lanes.
  pub carrier : (refused (SpareBits 5) ≡ at_place 10 5)
      × (refused (Weight 5) ≡ at_place 11 5)
      × (refused (FromVertex 5) ≡ at_place 13 5)
      × (refused (ToVertex 5) ≡ at_place 14 5)
      × (refused (Unsorted 5) ≡ at_place 15 5)
  -- "16, without place".
  pub destination : refused Destination ≡ by_number 16
