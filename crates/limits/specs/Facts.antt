-- Document 01, "Request words" and "Who caused it", and asks 1, 3, 5 and 8 of document 02, as facts about literal requests and buffer lengths: limits
-- at their ends and one past them, and which of several refusals comes first. Rests on the definitions alone.
use Rattle.std.specs.Prelude.{◌≡◌, List, [], ◌∷◌, ℕ}
use Rattle.std.proofs.Math.Option.{Option, none, some}
use Rattle.answers.specs.Refusal.{Refusal}
use Rattle.answers.specs.Told.{Told, refused}
use Rattle.answers.specs.Facts.{by_number, at_place}
use Rattle.plans.specs.Plan.{header_of}
use Rattle.limits.specs.declared.Lengths.{Lengths}
use Rattle.limits.specs.Refusal.{log_length_of, request_refusal}
use Rattle.limits.specs.Sizes.{sizes_told}

-- What a check tells; 0 where it lets a request pass.
abbrev pub no_refusal : Told
no_refusal = by_number 0

abbrev pub met : Option Refusal → Told
met none = no_refusal
met (some r) = refused r

-- A request with buffers of these lengths.
abbrev pub lengths : (cells log distances parents route : ℕ) → Lengths
lengths cells log distances parents route =
    record { cells = cells; log = log; distances = distances; parents = parents; route = route }

abbrev pub routed : (request : List ℕ) (cells log distances parents route : ℕ) → Told
routed request cells log distances parents route = met (request_refusal request (lengths cells log distances parents route))

-- With no places for a route, which are looked at in method 5 alone.
abbrev pub tried : (request : List ℕ) (cells log distances parents : ℕ) → Told
tried request cells log distances parents = routed request cells log distances parents 0

-- What a header is told that asks for something: cells, words of the log, and places for distances, for parents and for a route.
abbrev pub to_lend : (values : List ℕ) → Told
to_lend values = record { number = 0; place = none; values = values }

-- Method 1, n = 2, source 0, of one edge; method 2, n = 1: with buffers just long enough.
abbrev pub edge : (word : ℕ) → Told
edge w = tried (0x1000020000100000 ∷ w ∷ []) 17 48 2 2

abbrev pub entry : (word : ℕ) → Told
entry w = tried (0x2000010000000000 ∷ w ∷ []) 12 21 1 1

-- Method 3, n = 2, of one edge, and n = 3, of two and of three: with buffers just long enough.
abbrev pub sorted : (word : ℕ) → Told
sorted w = tried (0x3000020000100000 ∷ w ∷ []) 28 55 2 2

abbrev pub two : (first second : ℕ) → Told
two w u = tried (0x3000030000200000 ∷ w ∷ u ∷ []) 45 154 3 3

abbrev pub three : (first second third : ℕ) → Told
three w u x = tried (0x3000030000300000 ∷ w ∷ u ∷ x ∷ []) 55 210 3 3

-- Method 4, n = 2, of one edge: with buffers just long enough, and no places for parents.
abbrev pub every : (word : ℕ) → Told
every w = tried (0x4000020000100000 ∷ w ∷ []) 19 104 4 0

-- Method 5, n = 2, source 0, of one edge and a destination, and of two edges: with buffers just long enough.
abbrev pub aimed : (edge destination : ℕ) → Told
aimed w z = routed (0x5000020000100000 ∷ w ∷ z ∷ []) 21 63 2 2 1

abbrev pub aimed2 : (first second destination : ℕ) → Told
aimed2 w u z = routed (0x5000020000200000 ∷ w ∷ u ∷ z ∷ []) 24 105 2 2 1

pub record Facts : Type 0 where
  -- "from 8, to 8, spare 16 (zero), price 32": "13 when the from-yard is not below n, 14 when the to-yard is not below n", of 2 yards and of 32.
  pub vertices : (edge 0x0000000000000000 ≡ no_refusal)
      × (edge 0x0101000000000000 ≡ no_refusal)
      × (edge 0x0200000000000000 ≡ at_place 13 0)
      × (edge 0x0002000000000000 ≡ at_place 14 0)
      × (edge 0x8000000000000000 ≡ at_place 13 0)
      × (edge 0x0080000000000000 ≡ at_place 14 0)
      × (tried (0x1000200000100000 ∷ 0x1F1F000000000000 ∷ []) 107 8388 32 32 ≡ no_refusal)
      × (tried (0x1000200000100000 ∷ 0x2000000000000000 ∷ []) 107 8388 32 32 ≡ at_place 13 0)
      × (tried (0x1000200000100000 ∷ 0x0020000000000000 ∷ []) 107 8388 32 32 ≡ at_place 14 0)
  -- "10 keeps the spare bits only": lowest, highest, in the middle.
  pub spare1 : (edge 0x0000000100000000 ≡ at_place 10 0) × (edge 0x0000800000000000 ≡ at_place 10 0) × (edge 0x0000018000000000 ≡ at_place 10 0)
  -- "spare 32 (zero), price 32": where a lane has its yards there are spare bits.
  pub spare2 : (entry 0x0000000100000000 ≡ at_place 10 0) × (entry 0x8000000000000000 ≡ at_place 10 0) × (entry 0x0001800000000000 ≡ at_place 10 0)
  -- 11 for "price outside its range": "-100,000,000 to 100,000,000 in method 1", "in two's complement".
  pub weights1 : (edge 0x00000000FA0A1F00 ≡ no_refusal)
      × (edge 0x00000000FA0A1EFF ≡ at_place 11 0)
      × (edge 0x0000000005F5E100 ≡ no_refusal)
      × (edge 0x0000000005F5E101 ≡ at_place 11 0)
      × (edge 0x0000000080000000 ≡ at_place 11 0)
      × (edge 0x000000007FFFFFFF ≡ at_place 11 0)
  -- "0 to 100,000,000 or -1 in method 2"
  pub weights2 : (entry 0x00000000FFFFFFFF ≡ no_refusal)
      × (entry 0x00000000FFFFFFFE ≡ at_place 11 0)
      × (entry 0x0000000000000000 ≡ no_refusal)
      × (entry 0x0000000005F5E100 ≡ no_refusal)
      × (entry 0x0000000005F5E101 ≡ at_place 11 0)
  -- "words after the header are not m, or not n² in method 2": one less and one more than asked.
  pub words : (tried (0x1000020000100000 ∷ []) 17 48 2 2 ≡ by_number 5)
      × (tried (0x1000020000100000 ∷ 0 ∷ 0 ∷ []) 17 48 2 2 ≡ by_number 5)
      × (tried (0x2000020000000000 ∷ 0 ∷ 0 ∷ 0 ∷ []) 20 67 2 2 ≡ by_number 5)
      × (tried (0x2000020000000000 ∷ 0 ∷ 0 ∷ 0 ∷ 0 ∷ []) 20 67 2 2 ≡ no_refusal)
      × (tried (0x2000020000000000 ∷ 0 ∷ 0 ∷ 0 ∷ 0 ∷ 0 ∷ []) 20 67 2 2 ≡ by_number 5)
  -- "too few cells", "log .. too short", "a results buffer shorter than n": one less than asked, and longer ones.
  pub sizes1 : (tried (0x1000020000100000 ∷ 0 ∷ []) 16 48 2 2 ≡ by_number 6)
      × (tried (0x1000020000100000 ∷ 0 ∷ []) 17 47 2 2 ≡ by_number 7)
      × (tried (0x1000020000100000 ∷ 0 ∷ []) 17 48 1 2 ≡ by_number 8)
      × (tried (0x1000020000100000 ∷ 0 ∷ []) 17 48 2 1 ≡ by_number 8)
      × (tried (0x1000020000100000 ∷ 0 ∷ []) 18 49 3 3 ≡ no_refusal)
  pub sizes2 : (tried (0x2000010000000000 ∷ 0 ∷ []) 11 21 1 1 ≡ by_number 6)
      × (tried (0x2000010000000000 ∷ 0 ∷ []) 12 20 1 1 ≡ by_number 7)
      × (tried (0x2000010000000000 ∷ 0 ∷ []) 12 21 0 1 ≡ by_number 8)
      × (tried (0x2000010000000000 ∷ 0 ∷ []) 12 21 1 0 ≡ by_number 8)
      × (tried (0x2000010000000000 ∷ 0 ∷ []) 13 22 2 2 ≡ no_refusal)
  pub sizes3 : (tried (0x3000020000100000 ∷ []) 28 55 2 2 ≡ by_number 5)
      × (tried (0x3000020000100000 ∷ 0 ∷ []) 27 55 2 2 ≡ by_number 6)
      × (tried (0x3000020000100000 ∷ 0 ∷ []) 28 54 2 2 ≡ by_number 7)
      × (tried (0x3000020000100000 ∷ 0 ∷ []) 28 55 1 2 ≡ by_number 8)
      × (tried (0x3000020000100000 ∷ 0 ∷ []) 28 55 2 1 ≡ by_number 8)
      × (tried (0x3000020000100000 ∷ 0 ∷ []) 29 56 3 3 ≡ no_refusal)
  -- Ask 8: "5, 6, 7 as method 1; 8 when the distances buffer is shorter than n²; the parents buffer is not looked at": one less and one more than
  -- asked, and parents and a route of any length.
  pub sizes4 : (tried (0x4000020000100000 ∷ []) 19 104 4 0 ≡ by_number 5)
      × (tried (0x4000020000100000 ∷ 0 ∷ 0 ∷ []) 19 104 4 0 ≡ by_number 5)
      × (tried (0x4000020000100000 ∷ 0 ∷ []) 18 104 4 0 ≡ by_number 6)
      × (tried (0x4000020000100000 ∷ 0 ∷ []) 19 103 4 0 ≡ by_number 7)
      × (tried (0x4000020000100000 ∷ 0 ∷ []) 19 104 3 0 ≡ by_number 8)
      × (tried (0x4000020000100000 ∷ 0 ∷ []) 19 104 3 9 ≡ by_number 8)
      × (tried (0x4000020000100000 ∷ 0 ∷ []) 19 104 4 0 ≡ no_refusal)
      × (tried (0x4000020000100000 ∷ 0 ∷ []) 19 104 4 9 ≡ no_refusal)
      × (routed (0x4000020000100000 ∷ 0 ∷ []) 19 104 4 0 9 ≡ no_refusal)
      × (tried (0x4000020000100000 ∷ 0 ∷ []) 20 105 5 1 ≡ no_refusal)
  -- "4 when the source field is not 0": 1, which is below n, too; and before 5.
  pub source4 : (tried (0x4000020000100001 ∷ 0 ∷ []) 19 104 4 0 ≡ by_number 4)
      × (tried (0x4000020000100002 ∷ 0 ∷ []) 19 104 4 0 ≡ by_number 4)
      × (tried (0x4000020000100001 ∷ []) 19 104 4 0 ≡ by_number 4)
  -- Ask 5: "5 expects m+1 words; 8 also when the route buffer is shorter than n-1": one less and one more than asked, and one yard.
  pub sizes5 : (routed (0x5000020000100000 ∷ 0 ∷ []) 21 63 2 2 1 ≡ by_number 5)
      × (routed (0x5000020000100000 ∷ 0 ∷ 0 ∷ 0 ∷ []) 21 63 2 2 1 ≡ by_number 5)
      × (routed (0x5000020000100000 ∷ 0 ∷ 0 ∷ []) 20 63 2 2 1 ≡ by_number 6)
      × (routed (0x5000020000100000 ∷ 0 ∷ 0 ∷ []) 21 62 2 2 1 ≡ by_number 7)
      × (routed (0x5000020000100000 ∷ 0 ∷ 0 ∷ []) 21 63 1 2 1 ≡ by_number 8)
      × (routed (0x5000020000100000 ∷ 0 ∷ 0 ∷ []) 21 63 2 1 1 ≡ by_number 8)
      × (routed (0x5000020000100000 ∷ 0 ∷ 0 ∷ []) 21 63 2 2 0 ≡ by_number 8)
      × (routed (0x5000020000100000 ∷ 0 ∷ 0 ∷ []) 22 64 3 3 2 ≡ no_refusal)
      × (routed (0x5000010000000000 ∷ 0 ∷ []) 13 10 1 1 0 ≡ no_refusal)
  -- Methods 1's, 3's, 4's and 5's "log is one word longer" than the plan, at the limits; method 2's is not.
  pub logs : (log_length_of (header_of 0x100020000800001F) ≡ 1060837)
      × (log_length_of (header_of 0x200020000000001F) ≡ 44227)
      × (log_length_of (header_of 0x300020000800001F) ≡ 437222)
      × (log_length_of (header_of 0x4000200008000000) ≡ 521372)
      × (log_length_of (header_of 0x500020000800001F) ≡ 1072197)
  -- What a caller is told to lend: the most of each method; a second word is not looked at. And no header word, a source that is not below
  -- n, and one that is not 0 in method 4.
  pub asked : (sizes_told (0x100020000800001F ∷ []) ≡ to_lend (488 ∷ 1060837 ∷ 32 ∷ 32 ∷ 0 ∷ []))
      × (sizes_told (0x200020000000001F ∷ 0 ∷ []) ≡ to_lend (1190 ∷ 44227 ∷ 32 ∷ 32 ∷ 0 ∷ []))
      × (sizes_told (0x300020000800001F ∷ []) ≡ to_lend (8874 ∷ 437222 ∷ 32 ∷ 32 ∷ 0 ∷ []))
      × (sizes_told (0x4000200008000000 ∷ []) ≡ to_lend (1510 ∷ 521372 ∷ 1024 ∷ 0 ∷ 0 ∷ []))
      × (sizes_told (0x500020000800001F ∷ []) ≡ to_lend (552 ∷ 1072197 ∷ 32 ∷ 32 ∷ 31 ∷ []))
      × (sizes_told [] ≡ by_number 1)
      × (sizes_told (0x1000200008000020 ∷ []) ≡ by_number 4)
      × (sizes_told (0x4000200008000001 ∷ []) ≡ by_number 4)
  -- "Order: 1 to 8 by number, then input words": requests that would meet two neighbours, or all, meet the lower.
  pub order : (tried [] 0 0 0 0 ≡ by_number 1)
      × (tried (0x6000210008100021 ∷ []) 0 0 0 0 ≡ by_number 1)
      × (tried (0x1000210008100021 ∷ []) 0 0 0 0 ≡ by_number 2)
      × (tried (0x1000020008100002 ∷ []) 0 0 0 0 ≡ by_number 3)
      × (tried (0x1000020000100002 ∷ []) 17 48 2 2 ≡ by_number 4)
      × (tried (0x1000020000100000 ∷ []) 16 48 2 2 ≡ by_number 5)
      × (tried (0x1000020000100000 ∷ 0 ∷ []) 16 47 2 2 ≡ by_number 6)
      × (tried (0x1000020000100000 ∷ 0 ∷ []) 17 47 1 2 ≡ by_number 7)
      × (tried (0x1000020000100000 ∷ 0x0200000000000000 ∷ []) 17 48 2 1 ≡ by_number 8)
      × (tried (0x1000020000100000 ∷ 0x0000000005F5E101 ∷ []) 17 48 1 2 ≡ by_number 8)
  -- "In one lane word the order is spare bits, from, to, price": spare bits with each of the others, the from-yard with those after it, the
  -- to-yard with the price; the last three, and all four.
  pub faults : (edge 0x0200000100000000 ≡ at_place 10 0)
      × (edge 0x0002000100000000 ≡ at_place 10 0)
      × (edge 0x0000000105F5E101 ≡ at_place 10 0)
      × (edge 0x0202000000000000 ≡ at_place 13 0)
      × (edge 0x0200000005F5E101 ≡ at_place 13 0)
      × (edge 0x0002000005F5E101 ≡ at_place 14 0)
      × (edge 0x0202000005F5E101 ≡ at_place 13 0)
      × (edge 0x0202000105F5E101 ≡ at_place 10 0)
  -- "Add this as method 3 with method 1's lane words and limits."
  pub sorted_edge : (sorted 0x0101000000000000 ≡ no_refusal)
      × (sorted 0x0000000100000000 ≡ at_place 10 0)
      × (sorted 0x0200000000000000 ≡ at_place 13 0)
      × (sorted 0x0002000000000000 ≡ at_place 14 0)
      × (sorted 0x00000000FA0A1F00 ≡ no_refusal)
      × (sorted 0x00000000FA0A1EFF ≡ at_place 11 0)
      × (sorted 0x0000000005F5E100 ≡ no_refusal)
      × (sorted 0x0000000005F5E101 ≡ at_place 11 0)
      × (sorted 0x0202000105F5E101 ≡ at_place 10 0)
  -- Method 5's lane words are method 1's.
  pub routed_edge : (aimed 0x00000000FA0A1F00 0 ≡ no_refusal)
      × (aimed 0x00000000FA0A1EFF 0 ≡ at_place 11 0)
      × (aimed 0x0000000005F5E100 0 ≡ no_refusal)
      × (aimed 0x0000000005F5E101 0 ≡ at_place 11 0)
      × (aimed 0x0000800000000000 0 ≡ at_place 10 0)
  -- Method 4's lane words are method 1's.
  pub every_edge : (every 0x0101000000000000 ≡ no_refusal)
      × (every 0x0000000100000000 ≡ at_place 10 0)
      × (every 0x0000800000000000 ≡ at_place 10 0)
      × (every 0x0200000000000000 ≡ at_place 13 0)
      × (every 0x0002000000000000 ≡ at_place 14 0)
      × (every 0x00000000FA0A1F00 ≡ no_refusal)
      × (every 0x00000000FA0A1EFF ≡ at_place 11 0)
      × (every 0x0000000005F5E100 ≡ no_refusal)
      × (every 0x0000000005F5E101 ≡ at_place 11 0)
      × (every 0x0202000105F5E101 ≡ at_place 10 0)
      × (every 0x0202000005F5E101 ≡ at_place 13 0)
      × (every 0x0002000005F5E101 ≡ at_place 14 0)
  -- "15 when a lane's to-yard is below the one before it, with the place of that lane": the one before, and not the first; an equal one is not
  -- below; from-yards in any order; and in methods 1 and 4 any order.
  pub order3 : (two 0x0000000000000000 0x0002000000000000 ≡ no_refusal)
      × (two 0x0201000000000000 0x0001000000000000 ≡ no_refusal)
      × (two 0x0001000000000000 0x0000000000000000 ≡ at_place 15 1)
      × (two 0x0002000000000000 0x0001000000000000 ≡ at_place 15 1)
      × (three 0x0000000000000000 0x0002000000000000 0x0001000000000000 ≡ at_place 15 2)
      × (three 0x0001000000000000 0x0000000000000000 0x0000000100000000 ≡ at_place 15 1)
      × (tried (0x1000030000200000 ∷ 0x0002000000000000 ∷ 0x0001000000000000 ∷ []) 23 174 3 3 ≡ no_refusal)
      × (tried (0x4000030000200000 ∷ 0x0002000000000000 ∷ 0x0001000000000000 ∷ []) 30 256 9 0 ≡ no_refusal)
  -- "tested after its price": a lane out of order with each other fault.
  pub order_last : (two 0x0002000000000000 0x0001000100000000 ≡ at_place 10 1)
      × (two 0x0002000000000000 0x0301000000000000 ≡ at_place 13 1)
      × (two 0x0002000000000000 0x0001000005F5E101 ≡ at_place 11 1)
      × (two 0x0002000000000000 0x0003000000000000 ≡ at_place 14 1)
  -- Ask 5: "16, without place, .. when the destination word is not below n": of 2 yards, all 64 bits of the word, and of a request without lanes.
  pub destinations : (aimed 0 0 ≡ no_refusal)
      × (aimed 0 1 ≡ no_refusal)
      × (aimed 0 2 ≡ by_number 16)
      × (aimed 0 0x0000000100000000 ≡ by_number 16)
      × (aimed 0 0x8000000000000000 ≡ by_number 16)
      × (aimed 0 0xFFFFFFFFFFFFFFFF ≡ by_number 16)
      × (routed (0x5000020000000000 ∷ 1 ∷ []) 18 21 2 2 1 ≡ no_refusal)
      × (routed (0x5000020000000000 ∷ 2 ∷ []) 18 21 2 2 1 ≡ by_number 16)
  -- "after all lanes": with each fault of a lane, the last one's too; and after 8.
  pub destination_last : (aimed 0x0000000100000000 2 ≡ at_place 10 0)
      × (aimed 0x0200000000000000 2 ≡ at_place 13 0)
      × (aimed 0x0002000000000000 2 ≡ at_place 14 0)
      × (aimed 0x0000000005F5E101 2 ≡ at_place 11 0)
      × (aimed2 0 0x0002000000000000 2 ≡ at_place 14 1)
      × (aimed2 0x0001000000000000 0 1 ≡ no_refusal)
      × (routed (0x5000020000100000 ∷ 0 ∷ 2 ∷ []) 21 63 2 2 0 ≡ by_number 8)
  -- "10 before 11" in a table word.
  pub entry_faults : entry 0x0000000105F5E101 ≡ at_place 10 0
  -- "upward from place 0"; "places count from the word after the header".
  pub places : (tried (0x1000020000200000 ∷ 0x0000000005F5E101 ∷ 0x0202000100000000 ∷ []) 20 85 2 2 ≡ at_place 11 0)
      × (tried (0x1000020000200000 ∷ 0 ∷ 0x0000000100000000 ∷ []) 20 85 2 2 ≡ at_place 10 1)
      × (tried (0x1000020000200000 ∷ 0 ∷ 0x0200000000000000 ∷ []) 20 85 2 2 ≡ at_place 13 1)
      × (tried (0x1000020000200000 ∷ 0 ∷ 0x0002000000000000 ∷ []) 20 85 2 2 ≡ at_place 14 1)
      × (tried (0x1000020000200000 ∷ 0 ∷ 0x0000000005F5E101 ∷ []) 20 85 2 2 ≡ at_place 11 1)
      × (tried (0x4000020000200000 ∷ 0 ∷ 0x0002000000000000 ∷ []) 22 128 4 0 ≡ at_place 14 1)
      × (tried (0x2000020000000000 ∷ 0 ∷ 0 ∷ 0x0000000100000000 ∷ 0 ∷ []) 20 67 2 2 ≡ at_place 10 2)
      × (tried (0x2000020000000000 ∷ 0 ∷ 0 ∷ 0 ∷ 0x00000000FFFFFFFE ∷ []) 20 67 2 2 ≡ at_place 11 3)
