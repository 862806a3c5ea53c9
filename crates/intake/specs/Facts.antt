-- Document 01, "Request words" and the cells of the plans, as facts about literal requests: where a cell's first number comes from, and the
-- starting cells. Rests on the definitions alone.
use Rattle.std.specs.Prelude.{◌≡◌, [], ◌∷◌, ◌++◌, pos, negsuc, replicate}
use Rattle.plans.specs.Plan.{header_of}
use Rattle.intake.specs.declared.Part.TheVariants.{From, To, Weight, Entry, Whole}
use Rattle.intake.specs.Intake.{field, nothing, source_of, laid, starting_cells}

pub record Facts : Type 0 where
  -- "from 0, to m, price 2m": the first and the last cell of each, of one lane and of the most, and the cell after them; and where there is no lane.
  pub strips1 : (source_of (header_of 0x1000020000100000) 0 ≡ field 0 From)
      × (source_of (header_of 0x1000020000100000) 1 ≡ field 0 To)
      × (source_of (header_of 0x1000020000100000) 2 ≡ field 0 Weight)
      × (source_of (header_of 0x1000020000100000) 3 ≡ nothing)
      × (source_of (header_of 0x100020000800001F) 0 ≡ field 0 From)
      × (source_of (header_of 0x100020000800001F) 127 ≡ field 127 From)
      × (source_of (header_of 0x100020000800001F) 128 ≡ field 0 To)
      × (source_of (header_of 0x100020000800001F) 255 ≡ field 127 To)
      × (source_of (header_of 0x100020000800001F) 256 ≡ field 0 Weight)
      × (source_of (header_of 0x100020000800001F) 383 ≡ field 127 Weight)
      × (source_of (header_of 0x100020000800001F) 384 ≡ nothing)
      × (source_of (header_of 0x1000010000000000) 0 ≡ nothing)
  -- "U at 0", by rows: of one yard and of the most.
  pub strips2 : (source_of (header_of 0x2000010000000000) 0 ≡ field 0 Entry)
      × (source_of (header_of 0x2000010000000000) 1 ≡ nothing)
      × (source_of (header_of 0x200020000000001F) 0 ≡ field 0 Entry)
      × (source_of (header_of 0x200020000000001F) 1023 ≡ field 1023 Entry)
      × (source_of (header_of 0x200020000000001F) 1024 ≡ nothing)
  -- Ask 3: "from 0, B m (one cell), to m+1, price 2m+1", the same.
  pub strips3 : (source_of (header_of 0x3000020000100000) 0 ≡ field 0 From)
      × (source_of (header_of 0x3000020000100000) 1 ≡ nothing)
      × (source_of (header_of 0x3000020000100000) 2 ≡ field 0 To)
      × (source_of (header_of 0x3000020000100000) 3 ≡ field 0 Weight)
      × (source_of (header_of 0x3000020000100000) 4 ≡ nothing)
      × (source_of (header_of 0x300020000800001F) 127 ≡ field 127 From)
      × (source_of (header_of 0x300020000800001F) 128 ≡ nothing)
      × (source_of (header_of 0x300020000800001F) 129 ≡ field 0 To)
      × (source_of (header_of 0x300020000800001F) 256 ≡ field 127 To)
      × (source_of (header_of 0x300020000800001F) 257 ≡ field 0 Weight)
      × (source_of (header_of 0x300020000800001F) 384 ≡ field 127 Weight)
      × (source_of (header_of 0x300020000800001F) 385 ≡ nothing)
      × (source_of (header_of 0x3000010000000000) 0 ≡ nothing)
  -- Ask 8: "from 0, to m, price 2m .. Intake fills the first 3m", the same.
  pub strips4 : (source_of (header_of 0x4000020000100000) 0 ≡ field 0 From)
      × (source_of (header_of 0x4000020000100000) 1 ≡ field 0 To)
      × (source_of (header_of 0x4000020000100000) 2 ≡ field 0 Weight)
      × (source_of (header_of 0x4000020000100000) 3 ≡ nothing)
      × (source_of (header_of 0x4000200008000000) 127 ≡ field 127 From)
      × (source_of (header_of 0x4000200008000000) 128 ≡ field 0 To)
      × (source_of (header_of 0x4000200008000000) 255 ≡ field 127 To)
      × (source_of (header_of 0x4000200008000000) 256 ≡ field 0 Weight)
      × (source_of (header_of 0x4000200008000000) 383 ≡ field 127 Weight)
      × (source_of (header_of 0x4000200008000000) 384 ≡ nothing)
      × (source_of (header_of 0x4000200008000000) 1509 ≡ nothing)
      × (source_of (header_of 0x4000010000000000) 0 ≡ nothing)
  -- Ask 5: "as method 1, and Z takes the last word": Z at 3m+3n+8, of one lane, of the most and of none.
  pub strips5 : (source_of (header_of 0x5000020000100000) 0 ≡ field 0 From)
      × (source_of (header_of 0x5000020000100000) 1 ≡ field 0 To)
      × (source_of (header_of 0x5000020000100000) 2 ≡ field 0 Weight)
      × (source_of (header_of 0x5000020000100000) 3 ≡ nothing)
      × (source_of (header_of 0x5000020000100000) 16 ≡ nothing)
      × (source_of (header_of 0x5000020000100000) 17 ≡ field 1 Whole)
      × (source_of (header_of 0x5000020000100000) 18 ≡ nothing)
      × (source_of (header_of 0x500020000800001F) 127 ≡ field 127 From)
      × (source_of (header_of 0x500020000800001F) 255 ≡ field 127 To)
      × (source_of (header_of 0x500020000800001F) 383 ≡ field 127 Weight)
      × (source_of (header_of 0x500020000800001F) 487 ≡ nothing)
      × (source_of (header_of 0x500020000800001F) 488 ≡ field 128 Whole)
      × (source_of (header_of 0x500020000800001F) 489 ≡ nothing)
      × (source_of (header_of 0x5000010000000000) 11 ≡ field 0 Whole)
  -- "Intake fills the first 3m; the rest start at 0": lanes 1 to 0 at -5 and 0 to 1 at 100,000,000 laid into 22 lent cells, two more than needed.
  pub start1 : starting_cells (header_of 0x1000020000200000) (0x01000000FFFFFFFB ∷ 0x0001000005F5E100 ∷ []) (replicate 22 (pos 9))
      ≡ (pos 1 ∷ pos 0 ∷ pos 0 ∷ pos 1 ∷ negsuc 4 ∷ pos 100000000 ∷ []) ++ replicate 14 (pos 0) ++ (pos 9 ∷ pos 9 ∷ [])
  -- Ask 3: "Intake fills from, to and price; the rest start at 0": lanes 1 to 0 at -5 and 0 to 1 at 100,000,000, of 36 cells, and one more.
  pub start3 : starting_cells (header_of 0x3000020000200000) (0x01000000FFFFFFFB ∷ 0x0001000005F5E100 ∷ []) (replicate 37 (pos 9))
      ≡ (pos 1 ∷ pos 0 ∷ pos 0 ∷ pos 0 ∷ pos 1 ∷ negsuc 4 ∷ pos 100000000 ∷ []) ++ replicate 29 (pos 0) ++ (pos 9 ∷ [])
  -- Ask 8: the same lanes, of 22 cells, and one more.
  pub start4 : starting_cells (header_of 0x4000020000200000) (0x01000000FFFFFFFB ∷ 0x0001000005F5E100 ∷ []) (replicate 23 (pos 9))
      ≡ (pos 1 ∷ pos 0 ∷ pos 0 ∷ pos 1 ∷ negsuc 4 ∷ pos 100000000 ∷ []) ++ replicate 16 (pos 0) ++ (pos 9 ∷ [])
  -- Ask 5: the same lanes and the destination 1, of 24 cells, and one more.
  pub start5 : starting_cells (header_of 0x5000020000200000) (0x01000000FFFFFFFB ∷ 0x0001000005F5E100 ∷ 1 ∷ []) (replicate 25 (pos 9))
      ≡ (pos 1 ∷ pos 0 ∷ pos 0 ∷ pos 1 ∷ negsuc 4 ∷ pos 100000000 ∷ [])
      ++ replicate 14 (pos 0)
      ++ (pos 1 ∷ pos 0 ∷ pos 0 ∷ pos 0 ∷ pos 9 ∷ [])
  -- "Z takes the last word, the whole 64 bits": a number of 32 bits and more, and the highest bit, which no request that runs has.
  pub whole : (laid (0x0123456789ABCDEF ∷ []) (field 0 Whole) ≡ pos 0x0123456789ABCDEF)
      × (laid (0xFFFFFFFFFFFFFFFF ∷ []) (field 0 Whole) ≡ negsuc 0)
  -- "Intake writes the prices to U, FAR for -1; the rest start at 0."
  pub start2 : starting_cells (header_of 0x2000020000000000) (0 ∷ 0x00000000FFFFFFFF ∷ 0x0000000005F5E100 ∷ 7 ∷ []) (replicate 22 (pos 9))
      ≡ (pos 0 ∷ pos 549755813887 ∷ pos 100000000 ∷ pos 7 ∷ []) ++ replicate 16 (pos 0) ++ (pos 9 ∷ pos 9 ∷ [])
