-- Document 01, "Cell words", as facts about literal words and numbers, in its order: what the definitions give for them, so that no other
-- numbering, packing or effect agrees with it. Rests on the definitions alone.
use Rattle.std.specs.Prelude.{◌≡◌, Bool, true, false, List, [], ◌∷◌, map, ℕ, pos, negsuc}
use Rattle.std.proofs.Math.Option.{none, some}
use Rattle.machine.specs.Instruction.{SET, COPY, ADD, LESS, EQUAL, BOTH, MOVEIF, OPEN}
use Rattle.machine.specs.Word.{encode, decode, admissible}
use Rattle.machine.specs.Log.{Spares, carried, logged, cells_after, log_of, replay, AsTheyStood, without_published}
use Rattle.machine.specs.Depth.{charge_of}

-- Which of some words a bank of 3 cells can carry out.
abbrev pub tested : List ℕ → List Bool
tested = map (admissible 3)

-- The charge of a log of a header, here a LESS, and operation words.
abbrev pub charged : (words : List ℕ) → ℕ
charged ws = charge_of (0x3000000000000000 ∷ ws)

pub record Facts : Type 0 where
  -- "op 4 bits, d 20, a 20, b 20": the word of an instruction of each op.
  pub words : (encode (SET 0x12345 (pos 0x6789ABCDEF)) ≡ 0x0123456789ABCDEF)
      × (encode (SET 0x12345 (negsuc 0)) ≡ 0x012345FFFFFFFFFF)
      × (encode (COPY 0x12345 0x6789A) ≡ 0x1123456789A00000)
      × (encode (ADD 0x12345 0x6789A 0xBCDEF) ≡ 0x2123456789ABCDEF)
      × (encode (LESS 0x12345 0x6789A 0xBCDEF) ≡ 0x3123456789ABCDEF)
      × (encode (EQUAL 0x12345 0x6789A 0xBCDEF) ≡ 0x4123456789ABCDEF)
      × (encode (BOTH 0x12345 0x6789A 0xBCDEF) ≡ 0x5123456789ABCDEF)
      × (encode (MOVEIF 0x12345 0x6789A 0xBCDEF) ≡ 0x6123456789ABCDEF)
      × (encode (OPEN 0x6789A) ≡ 0x7000006789A00000)
  -- And the instruction of a word; there is none of an op over 7.
  pub instructions : (decode 0x0123456789ABCDEF ≡ some (SET 0x12345 (pos 0x6789ABCDEF)))
      × (decode 0x1123456789A00000 ≡ some (COPY 0x12345 0x6789A))
      × (decode 0x2123456789ABCDEF ≡ some (ADD 0x12345 0x6789A 0xBCDEF))
      × (decode 0x3123456789ABCDEF ≡ some (LESS 0x12345 0x6789A 0xBCDEF))
      × (decode 0x4123456789ABCDEF ≡ some (EQUAL 0x12345 0x6789A 0xBCDEF))
      × (decode 0x5123456789ABCDEF ≡ some (BOTH 0x12345 0x6789A 0xBCDEF))
      × (decode 0x6123456789ABCDEF ≡ some (MOVEIF 0x12345 0x6789A 0xBCDEF))
      × (decode 0x7000006789A00000 ≡ some (OPEN 0x6789A))
      × (decode 0x6FFFFFFFFFFFFFFF ≡ some (MOVEIF 0xFFFFF 0xFFFFF 0xFFFFF))
      × (decode 0x8000000000000000 ≡ none)
      × (decode 0xF000000000000000 ≡ none)
  -- The column "effect", a row or more for each op, on banks of three cells; "operands are read before d is written" where d is among them.
  -- "[d] becomes a × 2^20 + b read as 40-bit two's complement"
  pub set : (carried 0x0000010000300005 (pos 7 ∷ pos 8 ∷ pos 9 ∷ []) ≡ pos 7 ∷ pos 3145733 ∷ pos 9 ∷ [])
      × (carried 0x000001FFFFFFFFFF (pos 7 ∷ pos 8 ∷ pos 9 ∷ []) ≡ pos 7 ∷ negsuc 0 ∷ pos 9 ∷ [])
      × (carried 0x0000017FFFFFFFFF (pos 7 ∷ pos 8 ∷ pos 9 ∷ []) ≡ pos 7 ∷ pos 549755813887 ∷ pos 9 ∷ [])
      × (carried 0x0000018000000000 (pos 7 ∷ pos 8 ∷ pos 9 ∷ []) ≡ pos 7 ∷ negsuc 549755813887 ∷ pos 9 ∷ [])
  -- "[d] becomes [a]"
  pub copy : carried 0x1000010000200000 (pos 7 ∷ pos 8 ∷ negsuc 8 ∷ []) ≡ pos 7 ∷ negsuc 8 ∷ negsuc 8 ∷ []
  -- "[d] becomes [a]+[b], wrapping at 64 bits"
  pub add : (carried 0x2000010000200000 (pos 7 ∷ pos 8 ∷ negsuc 8 ∷ []) ≡ pos 7 ∷ negsuc 1 ∷ negsuc 8 ∷ [])
      × (carried 0x2000010000000002 (negsuc 9223372036854775807 ∷ pos 8 ∷ negsuc 0 ∷ [])
      ≡ negsuc 9223372036854775807 ∷ pos 9223372036854775807 ∷ negsuc 0 ∷ [])
      × (carried 0x2000000000000000 (pos 7 ∷ pos 8 ∷ pos 9 ∷ []) ≡ pos 14 ∷ pos 8 ∷ pos 9 ∷ [])
  -- "[d] becomes 1 if [a] < [b], else 0"
  pub less : (carried 0x3000000000100002 (pos 7 ∷ pos 8 ∷ pos 9 ∷ []) ≡ pos 1 ∷ pos 8 ∷ pos 9 ∷ [])
      × (carried 0x3000000000100002 (pos 7 ∷ pos 9 ∷ pos 9 ∷ []) ≡ pos 0 ∷ pos 9 ∷ pos 9 ∷ [])
      × (carried 0x3000000000100002 (pos 7 ∷ pos 9 ∷ pos 8 ∷ []) ≡ pos 0 ∷ pos 9 ∷ pos 8 ∷ [])
      × (carried 0x3000000000100002 (pos 7 ∷ negsuc 8 ∷ pos 0 ∷ []) ≡ pos 1 ∷ negsuc 8 ∷ pos 0 ∷ [])
      × (carried 0x3000000000100002 (pos 7 ∷ negsuc 8 ∷ negsuc 7 ∷ []) ≡ pos 1 ∷ negsuc 8 ∷ negsuc 7 ∷ [])
      × (carried 0x3000000000100000 (pos 9 ∷ pos 8 ∷ pos 7 ∷ []) ≡ pos 1 ∷ pos 8 ∷ pos 7 ∷ [])
  -- "[d] becomes 1 if [a] = [b], else 0"
  pub equal : (carried 0x4000000000100002 (pos 7 ∷ pos 8 ∷ pos 9 ∷ []) ≡ pos 0 ∷ pos 8 ∷ pos 9 ∷ [])
      × (carried 0x4000000000100002 (pos 7 ∷ pos 9 ∷ pos 9 ∷ []) ≡ pos 1 ∷ pos 9 ∷ pos 9 ∷ [])
      × (carried 0x4000000000100002 (pos 7 ∷ negsuc 8 ∷ negsuc 8 ∷ []) ≡ pos 1 ∷ negsuc 8 ∷ negsuc 8 ∷ [])
      × (carried 0x4000000000100002 (pos 7 ∷ pos 8 ∷ negsuc 8 ∷ []) ≡ pos 0 ∷ pos 8 ∷ negsuc 8 ∷ [])
      × (carried 0x4000000000100002 (pos 7 ∷ negsuc 8 ∷ pos 8 ∷ []) ≡ pos 0 ∷ negsuc 8 ∷ pos 8 ∷ [])
      × (carried 0x4000000000100002 (pos 7 ∷ negsuc 8 ∷ negsuc 9 ∷ []) ≡ pos 0 ∷ negsuc 8 ∷ negsuc 9 ∷ [])
      × (carried 0x4000000000000002 (pos 9 ∷ pos 8 ∷ pos 9 ∷ []) ≡ pos 1 ∷ pos 8 ∷ pos 9 ∷ [])
  -- "[d] becomes 1 if neither [a] nor [b] is 0, else 0"
  pub both : (carried 0x5000000000100002 (pos 7 ∷ pos 8 ∷ negsuc 8 ∷ []) ≡ pos 1 ∷ pos 8 ∷ negsuc 8 ∷ [])
      × (carried 0x5000000000100002 (pos 7 ∷ pos 0 ∷ pos 9 ∷ []) ≡ pos 0 ∷ pos 0 ∷ pos 9 ∷ [])
      × (carried 0x5000000000100002 (pos 7 ∷ pos 8 ∷ pos 0 ∷ []) ≡ pos 0 ∷ pos 8 ∷ pos 0 ∷ [])
      × (carried 0x5000000000100002 (pos 7 ∷ pos 0 ∷ pos 0 ∷ []) ≡ pos 0 ∷ pos 0 ∷ pos 0 ∷ [])
      × (carried 0x5000000000000001 (pos 7 ∷ pos 0 ∷ pos 9 ∷ []) ≡ pos 0 ∷ pos 0 ∷ pos 9 ∷ [])
  -- "[d] becomes [b] if [a] is not 0"; "MOVEIF with [a] at 0 changes nothing"
  pub moveif : (carried 0x6000000000100002 (pos 7 ∷ pos 2 ∷ negsuc 8 ∷ []) ≡ negsuc 8 ∷ pos 2 ∷ negsuc 8 ∷ [])
      × (carried 0x6000000000100002 (pos 7 ∷ negsuc 0 ∷ pos 9 ∷ []) ≡ pos 9 ∷ negsuc 0 ∷ pos 9 ∷ [])
      × (carried 0x6000000000100002 (pos 7 ∷ pos 0 ∷ pos 9 ∷ []) ≡ pos 7 ∷ pos 0 ∷ pos 9 ∷ [])
      × (carried 0x6000010000100002 (pos 7 ∷ pos 8 ∷ pos 9 ∷ []) ≡ pos 7 ∷ pos 9 ∷ pos 9 ∷ [])
      × (carried 0x6000010000100001 (pos 7 ∷ pos 8 ∷ pos 9 ∷ []) ≡ pos 7 ∷ pos 8 ∷ pos 9 ∷ [])
  -- "OPEN changes nothing"
  pub open_keeps : carried 0x7000000000100000 (pos 7 ∷ pos 8 ∷ pos 9 ∷ []) ≡ pos 7 ∷ pos 8 ∷ pos 9 ∷ []
  -- Document 02, ask 4. The column "rounds", of each op alone: the header costs nothing.
  pub column : (charged (0x0000000000000000 ∷ []) ≡ 1)
      × (charged (0x1000000000000000 ∷ []) ≡ 0)
      × (charged (0x2000000000000000 ∷ []) ≡ 0)
      × (charged (0x3000000000000000 ∷ []) ≡ 6)
      × (charged (0x4000000000000000 ∷ []) ≡ 6)
      × (charged (0x5000000000000000 ∷ []) ≡ 1)
      × (charged (0x6000000000000000 ∷ []) ≡ 1)
      × (charged (0x7000000000000000 ∷ []) ≡ 1)
  -- "the greatest depth of any word, 0 if there is none": LESS to cell 1, and words that read neither it nor each other, before and after it.
  pub greatest : (charge_of [] ≡ 0)
      × (charged [] ≡ 0)
      × (charged (0x3000010000000000 ∷ 0x4000020000000000 ∷ 0x0000030000000000 ∷ []) ≡ 6)
      × (charged (0x0000030000000000 ∷ 0x3000010000000000 ∷ []) ≡ 6)
  -- "the greatest depth among the cells it reads .. plus the column": after LESS to cell 1, words of each op that read it as a or as b.
  pub reads : (charged (0x3000010000000000 ∷ 0x3000020000100000 ∷ []) ≡ 12)
      × (charged (0x3000010000000000 ∷ 0x3000020000000001 ∷ []) ≡ 12)
      × (charged (0x3000010000000000 ∷ 0x4000020000100000 ∷ []) ≡ 12)
      × (charged (0x3000010000000000 ∷ 0x4000020000000001 ∷ []) ≡ 12)
      × (charged (0x3000010000000000 ∷ 0x5000020000100000 ∷ []) ≡ 7)
      × (charged (0x3000010000000000 ∷ 0x5000020000000001 ∷ []) ≡ 7)
      × (charged (0x3000010000000000 ∷ 0x6000020000100000 ∷ []) ≡ 7)
      × (charged (0x3000010000000000 ∷ 0x6000020000000001 ∷ []) ≡ 7)
      × (charged (0x3000010000000000 ∷ 0x7000000000100000 ∷ 6 ∷ []) ≡ 7)
  -- COPY and ADD cost nothing and hand on what they read, ADD from either: a BOTH of cell 2 tells.
  pub hands_on : (charged (0x3000010000000000 ∷ 0x1000020000100000 ∷ 0x5000030000200002 ∷ []) ≡ 7)
      × (charged (0x3000010000000000 ∷ 0x2000020000100000 ∷ 0x5000030000200002 ∷ []) ≡ 7)
      × (charged (0x3000010000000000 ∷ 0x2000020000000001 ∷ 0x5000030000200002 ∷ []) ≡ 7)
  -- "MOVEIF also reading [d]", here cell 1; no other op reads it. Of COPY and ADD a BOTH of that cell tells.
  pub reads_d : (charged (0x3000010000000000 ∷ 0x6000010000000000 ∷ []) ≡ 7)
      × (charged (0x3000010000000000 ∷ 0x5000010000000000 ∷ []) ≡ 6)
      × (charged (0x3000010000000000 ∷ 0x4000010000000000 ∷ []) ≡ 6)
      × (charged (0x3000010000000000 ∷ 0x3000010000000000 ∷ []) ≡ 6)
      × (charged (0x3000010000000000 ∷ 0x2000010000000000 ∷ 0x5000020000100001 ∷ []) ≡ 6)
      × (charged (0x3000010000000000 ∷ 0x1000010000000000 ∷ 0x5000020000100001 ∷ []) ≡ 6)
  -- COPY's b and OPEN's d and b, which are 0, are no cells: here cell 0 is a LESS's, and the words read cell 1.
  pub zeros_unread : (charged (0x3000000000100001 ∷ 0x1000020000100000 ∷ 0x5000030000200002 ∷ []) ≡ 6)
      × (charged (0x3000000000100001 ∷ 0x7000000000100000 ∷ 0 ∷ []) ≡ 6)
  -- "or 0 where it reads none": SET's a and b, here 1 and 1, are no cells, and [d] is not read.
  pub set_reads_none : (charged (0x3000010000000000 ∷ 0x0000020000100001 ∷ []) ≡ 6) × (charged (0x3000010000000000 ∷ 0x0000010000000000 ∷ []) ≡ 6)
  -- "the written cell takes that depth", a lesser one too: a BOTH of a cell that was a LESS's and then is a SET's, and of one that was an EQUAL's
  -- and then is a COPY of cell 0. Three MOVEIFs of one cell.
  pub takes : (charged (0x3000010000000000 ∷ 0x0000010000000000 ∷ 0x5000020000100001 ∷ []) ≡ 6)
      × (charged (0x3000010000000000 ∷ 0x4000020000100001 ∷ 0x1000020000000000 ∷ 0x5000030000200002 ∷ []) ≡ 12)
      × (charged (0x6000010000000000 ∷ 0x6000010000000000 ∷ 0x6000010000000000 ∷ []) ≡ 3)
  -- OPEN writes neither cell 0, its d, nor the cell that it opens, here cell 1: an EQUAL of either tells.
  pub open_writes_none : (charged (0x3000010000200002 ∷ 0x7000000000100000 ∷ 6 ∷ 0x4000020000000000 ∷ []) ≡ 7)
      × (charged (0x3000010000200002 ∷ 0x7000000000100000 ∷ 6 ∷ 0x4000020000100001 ∷ []) ≡ 12)
  -- A published word is passed over, whatever it looks like: here a LESS that would be the deepest, and only that word.
  pub published_free : (charged (0x7000000000000000 ∷ 0x3000000000000000 ∷ []) ≡ 1)
      × (charged (0x7000000000000000 ∷ 0x7000000000000000 ∷ 0x4000000000000000 ∷ 0x4000000000000000 ∷ []) ≡ 12)
  -- "The log is the header, then every word carried out, each OPEN followed by the published cell as one word."
  pub published : (logged 0x7000000000100000 (pos 7 ∷ pos 8 ∷ pos 9 ∷ []) ≡ 0x7000000000100000 ∷ 0x0000000000000008 ∷ [])
      × (logged 0x7000000000000000 (negsuc 0 ∷ []) ≡ 0x7000000000000000 ∷ 0xFFFFFFFFFFFFFFFF ∷ [])
      × (logged 0x7000000000000000 (negsuc 9223372036854775807 ∷ []) ≡ 0x7000000000000000 ∷ 0x8000000000000000 ∷ [])
      × (logged 0x7000000000000000 (pos 9223372036854775807 ∷ []) ≡ 0x7000000000000000 ∷ 0x7FFFFFFFFFFFFFFF ∷ [])
      × (logged 0x6000000000100002 (pos 7 ∷ pos 8 ∷ pos 9 ∷ []) ≡ 0x6000000000100002 ∷ [])
  pub log : (log_of [] (pos 7 ∷ []) ≡ [])
      × (log_of (0x7000000000000000 ∷ 0x7000000000000000 ∷ 0x0000000000000005 ∷ 0x7000000000000000 ∷ 0x1000000000000000 ∷ []) (pos 7 ∷ [])
      ≡ 0x7000000000000000 ∷ 0x7000000000000000 ∷ 7 ∷ 0x0000000000000005 ∷ 0x7000000000000000 ∷ 5 ∷ 0x1000000000000000 ∷ [])
  -- "a run carries out its operation words in order, each once": the second word adds what the first left, the third adds it again.
  pub order : cells_after (0x2000000000000001 ∷ 0x2000010000000001 ∷ 0x2000000000000001 ∷ []) (pos 1 ∷ pos 2 ∷ []) ≡ pos 8 ∷ pos 5 ∷ []
  -- Which cells a word does not write: those that are not its d; and OPEN, whose d is 0, writes none.
  pub spared : Spares 0 0x7000000000100000
      × Spares 2 0x0000010000000000
      × (¬ Spares 1 0x0000010000000000)
      × (¬ Spares 1 0x6000010000000000)
  -- A log "without the published words": one that looks like an OPEN is left out, and the next word stays; the header stays.
  pub without : (without_published [] ≡ [])
      × (without_published (0x7000000000000000 ∷ 0x0000000000000005 ∷ []) ≡ 0x7000000000000000 ∷ 0x0000000000000005 ∷ [])
      × (without_published (0x1000010000000000 ∷ 0x7000000000000000 ∷ 0x7000000000000000 ∷ 0x0000000000000005 ∷ [])
      ≡ 0x1000010000000000 ∷ 0x7000000000000000 ∷ 0x0000000000000005 ∷ [])
  -- "each OPEN followed by the published cell": of a log that opens cell 0 at 7 and, after ADD, at 14; not with another word, nor with none.
  pub told : AsTheyStood (0 ∷ 0x7000000000000000 ∷ 7 ∷ 0x2000000000000000 ∷ 0x7000000000000000 ∷ 14 ∷ []) (pos 7 ∷ [])
      × (¬ AsTheyStood (0 ∷ 0x7000000000000000 ∷ 7 ∷ 0x2000000000000000 ∷ 0x7000000000000000 ∷ 7 ∷ []) (pos 7 ∷ []))
      × (¬ AsTheyStood (0 ∷ 0x7000000000000000 ∷ []) (pos 7 ∷ []))
  -- "Carrying out a log takes the log and a bank of cells": logs that no run writes are carried out too. "The first word is passed over."
  pub first_word : (replay [] (pos 7 ∷ pos 8 ∷ []) ≡ some (pos 7 ∷ pos 8 ∷ []))
      × (replay (0xF000000000000000 ∷ []) (pos 7 ∷ pos 8 ∷ []) ≡ some (pos 7 ∷ pos 8 ∷ []))
      × (replay (0x7000000000000000 ∷ 0x0000000000000005 ∷ []) (pos 7 ∷ pos 8 ∷ []) ≡ some (pos 5 ∷ pos 8 ∷ []))
  -- "the next word gets the bank as that one left it"
  pub later_words : replay (0 ∷ 0x2000000000000001 ∷ 0x2000010000000001 ∷ []) (pos 7 ∷ pos 8 ∷ []) ≡ some (pos 15 ∷ pos 23 ∷ [])
  -- "the word after it .. is passed over whatever its bits", here an op of 9 and an OPEN, and only that word.
  pub passed_over :
      (replay (0 ∷ 0x7000000000000000 ∷ 0x9000000000000000 ∷ 0x0000000000000005 ∷ []) (pos 7 ∷ pos 8 ∷ []) ≡ some (pos 5 ∷ pos 8 ∷ []))
      × (replay (0 ∷ 0x7000000000000000 ∷ 0x7000000000000000 ∷ 0x0000000000000005 ∷ []) (pos 7 ∷ pos 8 ∷ []) ≡ some (pos 5 ∷ pos 8 ∷ []))
      × (replay (0 ∷ 0x7000000000000000 ∷ []) (pos 7 ∷ pos 8 ∷ []) ≡ some (pos 7 ∷ pos 8 ∷ []))
  -- "An op over 7, or a cell that is not there, would end it": d, a, b, and OPEN's a.
  pub ended : (replay (0 ∷ 0x8000000000000000 ∷ []) (pos 7 ∷ pos 8 ∷ []) ≡ none)
      × (replay (0 ∷ 0x0000020000000000 ∷ []) (pos 7 ∷ pos 8 ∷ []) ≡ none)
      × (replay (0 ∷ 0x2000020000000000 ∷ []) (pos 7 ∷ pos 8 ∷ []) ≡ none)
      × (replay (0 ∷ 0x2000000000200000 ∷ []) (pos 7 ∷ pos 8 ∷ []) ≡ none)
      × (replay (0 ∷ 0x2000000000000002 ∷ []) (pos 7 ∷ pos 8 ∷ []) ≡ none)
      × (replay (0 ∷ 0x7000000000200000 ∷ []) (pos 7 ∷ pos 8 ∷ []) ≡ none)
  -- Nothing else ends it: a COPY whose b is not zero, and an OPEN whose d and b are not, are carried out.
  pub not_ended : (replay (0 ∷ 0x1000010000000009 ∷ []) (pos 7 ∷ pos 8 ∷ []) ≡ some (pos 7 ∷ pos 7 ∷ []))
      × (replay (0 ∷ 0x7000090000100009 ∷ 8 ∷ []) (pos 7 ∷ pos 8 ∷ []) ≡ some (pos 7 ∷ pos 8 ∷ []))
  -- "op over 7, a field required zero is not, an address not below the lent cell count (a and b of SET are no addresses)": a word of each op
  -- that 3 cells carry out; then the same with d, with a and with b one higher.
  pub admitted : (tested (0x0000020000200002 ∷ 0x0000030000200002 ∷ 0x0000020000300002 ∷ 0x0000020000200003 ∷ []) ≡ true ∷ false ∷ true ∷ true ∷ [])
      × (tested (0x1000020000200000 ∷ 0x1000030000200000 ∷ 0x1000020000300000 ∷ 0x1000020000200001 ∷ []) ≡ true ∷ false ∷ false ∷ false ∷ [])
      × (tested (0x2000020000200002 ∷ 0x2000030000200002 ∷ 0x2000020000300002 ∷ 0x2000020000200003 ∷ []) ≡ true ∷ false ∷ false ∷ false ∷ [])
      × (tested (0x3000020000200002 ∷ 0x3000030000200002 ∷ 0x3000020000300002 ∷ 0x3000020000200003 ∷ []) ≡ true ∷ false ∷ false ∷ false ∷ [])
      × (tested (0x4000020000200002 ∷ 0x4000030000200002 ∷ 0x4000020000300002 ∷ 0x4000020000200003 ∷ []) ≡ true ∷ false ∷ false ∷ false ∷ [])
      × (tested (0x5000020000200002 ∷ 0x5000030000200002 ∷ 0x5000020000300002 ∷ 0x5000020000200003 ∷ []) ≡ true ∷ false ∷ false ∷ false ∷ [])
      × (tested (0x6000020000200002 ∷ 0x6000030000200002 ∷ 0x6000020000300002 ∷ 0x6000020000200003 ∷ []) ≡ true ∷ false ∷ false ∷ false ∷ [])
      × (tested (0x7000000000200000 ∷ 0x7000010000200000 ∷ 0x7000000000300000 ∷ 0x7000000000200001 ∷ []) ≡ true ∷ false ∷ false ∷ false ∷ [])
      × (tested (0x8000000000000000 ∷ 0xF000000000000000 ∷ []) ≡ false ∷ false ∷ [])
