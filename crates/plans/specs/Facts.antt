-- The limits and plans of documents 01 and 02 as facts about literal header words and numbers, in their order, so that no other limit and no other
-- order of words agrees with them. Lengths and rounds at the limits are in proofs/Figures (`largest1` to `largest5`). Rests on the definitions alone.
use Rattle.std.specs.Prelude.{◌≡◌, List, [], ◌∷◌, ◌++◌, ℕ, pos, negsuc, replicate, ◌≤ℤ◌}
use Rattle.std.proofs.Math.Option.{none, some}
use Rattle.fields.specs.Fields.{signed_of, bits_of}
use Rattle.plans.specs.Limits.{far, most_weight, least_weight, no_edge}
use Rattle.plans.specs.Plan.{header_of, header_word, Accepted, plan_of, word_count_of, cells_of, distances, parents, route, span, none_given, results_of, verdict_cell}

-- ---- "Plan of method 1" at n = 2, m = 2, source 1. Cells: from 0, to 2, price 4, D at 6, P at 8, Y at 10, X at 12.

abbrev pub opening1 : List ℕ
opening1 =
    -- For each v, SET Y+v to v, SET D+v to 0 if v is the source, else FAR, SET P+v to -1.
    (0x00000A0000000000 ∷ 0x0000067FFFFFFFFF ∷ 0x000008FFFFFFFFFF ∷ [])
    ++ (0x00000B0000000001 ∷ 0x0000070000000000 ∷ 0x000009FFFFFFFFFF ∷ [])
    -- SET X to FAR, SET X+7 to 0.
    ++ (0x00000C7FFFFFFFFF ∷ 0x0000130000000000 ∷ [])

-- Of edge 0, and of edge 1, in a pass and in the check.
abbrev pub gather0 : List ℕ
gather0 =
    -- COPY X+1 from X.
    (0x10000D0000C00000 ∷ [])
    -- For each v EQUAL X+5 (from i, Y+v), MOVEIF X+1 (X+5, D+v).
    ++ (0x400011000000000A ∷ 0x60000D0001100006 ∷ [])
    ++ (0x400011000000000B ∷ 0x60000D0001100007 ∷ [])
    -- ADD X+2 (X+1, price i); LESS X+4 (X+1, X).
    ++ (0x20000E0000D00004 ∷ 0x3000100000D0000C ∷ [])

abbrev pub gather1 : List ℕ
gather1 =
    (0x10000D0000C00000 ∷ [])
    ++ (0x400011000010000A ∷ 0x60000D0001100006 ∷ [])
    ++ (0x400011000010000B ∷ 0x60000D0001100007 ∷ [])
    ++ (0x20000E0000D00005 ∷ 0x3000100000D0000C ∷ [])

-- The rest of a pass's words of edge 0, and of edge 1.
abbrev pub relax0 : List ℕ
relax0 =
    -- SET X+3 to i.
    (0x00000F0000000000 ∷ [])
    -- For each v EQUAL X+5 (to i, Y+v), LESS X+6 (X+2, D+v), BOTH X+6 (X+6, X+4), BOTH X+6 (X+6, X+5),
    -- MOVEIF D+v (X+6, X+2), MOVEIF P+v (X+6, X+3).
    ++ (0x400011000020000A ∷ 0x3000120000E00006 ∷ 0x5000120001200010 ∷ 0x5000120001200011 ∷ 0x600006000120000E ∷ 0x600008000120000F ∷ [])
    ++ (0x400011000020000B ∷ 0x3000120000E00007 ∷ 0x5000120001200010 ∷ 0x5000120001200011 ∷ 0x600007000120000E ∷ 0x600009000120000F ∷ [])

abbrev pub relax1 : List ℕ
relax1 =
    (0x00000F0000000001 ∷ [])
    ++ (0x400011000030000A ∷ 0x3000120000E00006 ∷ 0x5000120001200010 ∷ 0x5000120001200011 ∷ 0x600006000120000E ∷ 0x600008000120000F ∷ [])
    ++ (0x400011000030000B ∷ 0x3000120000E00007 ∷ 0x5000120001200010 ∷ 0x5000120001200011 ∷ 0x600007000120000E ∷ 0x600009000120000F ∷ [])

-- The rest of the check's: without SET X+3, and with MOVEIF X+7 (X+6, X+6) in place of the two last MOVEIFs.
abbrev pub check0 : List ℕ
check0 =
    (0x400011000020000A ∷ 0x3000120000E00006 ∷ 0x5000120001200010 ∷ 0x5000120001200011 ∷ 0x6000130001200012 ∷ [])
    ++ (0x400011000020000B ∷ 0x3000120000E00007 ∷ 0x5000120001200010 ∷ 0x5000120001200011 ∷ 0x6000130001200012 ∷ [])

abbrev pub check1 : List ℕ
check1 =
    (0x400011000030000A ∷ 0x3000120000E00006 ∷ 0x5000120001200010 ∷ 0x5000120001200011 ∷ 0x6000130001200012 ∷ [])
    ++ (0x400011000030000B ∷ 0x3000120000E00007 ∷ 0x5000120001200010 ∷ 0x5000120001200011 ∷ 0x6000130001200012 ∷ [])

-- ---- "Plan of method 2" at n = 2, source 1. Cells: U at 0, D at 4, P at 6, Y at 8, O at 10, R at 12, X at 14.

abbrev pub opening2 : List ℕ
opening2 =
    -- For each v, SET Y+v, D+v, P+v as above, SET O+v to 1.
    (0x0000080000000000 ∷ 0x0000047FFFFFFFFF ∷ 0x000006FFFFFFFFFF ∷ 0x00000A0000000001 ∷ [])
    ++ (0x0000090000000001 ∷ 0x0000050000000000 ∷ 0x000007FFFFFFFFFF ∷ 0x00000B0000000001 ∷ [])
    -- SET X to FAR, SET X+4 to 0.
    ++ (0x00000E7FFFFFFFFF ∷ 0x0000120000000000 ∷ [])

abbrev pub turn2 : List ℕ
turn2 =
    -- COPY X+1 from X; SET X+3 to -1.
    (0x10000F0000E00000 ∷ 0x000011FFFFFFFFFF ∷ [])
    -- For each v LESS X+5 (D+v, X+1), BOTH X+5 (X+5, O+v), MOVEIF X+1 (X+5, D+v), MOVEIF X+3 (X+5, Y+v).
    ++ (0x300013000040000F ∷ 0x500013000130000A ∷ 0x60000F0001300004 ∷ 0x6000110001300008 ∷ [])
    ++ (0x300013000050000F ∷ 0x500013000130000B ∷ 0x60000F0001300005 ∷ 0x6000110001300009 ∷ [])
    -- For each j COPY R+j from X.
    ++ (0x10000C0000E00000 ∷ 0x10000D0000E00000 ∷ [])
    -- For each v EQUAL X+5 (X+3, Y+v), MOVEIF O+v (X+5, X+4), for each j MOVEIF R+j (X+5, U+vn+j).
    ++ (0x4000130001100008 ∷ 0x60000A0001300012 ∷ 0x60000C0001300000 ∷ 0x60000D0001300001 ∷ [])
    ++ (0x4000130001100009 ∷ 0x60000B0001300012 ∷ 0x60000C0001300002 ∷ 0x60000D0001300003 ∷ [])
    -- For each j ADD X+2 (X+1, R+j), LESS X+5 (X+2, D+j), MOVEIF D+j (X+5, X+2), MOVEIF P+j (X+5, X+3).
    ++ (0x2000100000F0000C ∷ 0x3000130001000004 ∷ 0x6000040001300010 ∷ 0x6000060001300011 ∷ [])
    ++ (0x2000100000F0000D ∷ 0x3000130001000005 ∷ 0x6000050001300010 ∷ 0x6000070001300011 ∷ [])

-- ---- "Ask 3" at n = 2, m = 2, source 1. Cells: from 0, B 2, to 3, price 5, D 7, P 9, Y 11, N 13, Q 15, X 17, S 26, F 28, T 32.

abbrev pub opening3 : List ℕ
opening3 =
    -- For each v, SET Y+v to v, SET D+v to 0 if v is the source, else FAR, SET P+v to -1, SET N+v to FAR.
    (0x00000B0000000000 ∷ 0x0000077FFFFFFFFF ∷ 0x000009FFFFFFFFFF ∷ 0x00000D7FFFFFFFFF ∷ [])
    ++ (0x00000C0000000001 ∷ 0x0000080000000000 ∷ 0x00000AFFFFFFFFFF ∷ 0x00000E7FFFFFFFFF ∷ [])
    -- SET X to FAR, SET X+8 to 0, SET B to -1.
    ++ (0x0000117FFFFFFFFF ∷ 0x0000190000000000 ∷ 0x000002FFFFFFFFFF ∷ [])

abbrev pub prepare3 : List ℕ
prepare3 =
    -- LESS S+i (to i-1, to i), where to -1 is B; for each v EQUAL F+in+v (from i, Y+v), EQUAL T+in+v (to i, Y+v).
    (0x30001A0000200003 ∷ 0x40001C000000000B ∷ 0x400020000030000B ∷ 0x40001D000000000C ∷ 0x400021000030000C ∷ [])
    ++ (0x30001B0000300004 ∷ 0x40001E000010000B ∷ 0x400022000040000B ∷ 0x40001F000010000C ∷ 0x400023000040000C ∷ [])

-- Of edge 0, and of edge 1, in a pass and in the check.
abbrev pub bid0 : List ℕ
bid0 =
    -- COPY X+1 from X; for each v MOVEIF X+1 (F+in+v, D+v).
    (0x1000120001100000 ∷ 0x6000120001C00007 ∷ 0x6000120001D00008 ∷ [])
    -- ADD X+2 (X+1, price i); LESS X+4 (X+1, X); MOVEIF X+6 (S+i, X).
    ++ (0x2000130001200005 ∷ 0x3000150001200011 ∷ 0x6000170001A00011 ∷ [])
    -- LESS X+5 (X+2, X+6); BOTH X+5 (X+5, X+4); MOVEIF X+6 (X+5, X+2).
    ++ (0x3000160001300017 ∷ 0x5000160001600015 ∷ 0x6000170001600013 ∷ [])

abbrev pub bid1 : List ℕ
bid1 =
    (0x1000120001100000 ∷ 0x6000120001E00007 ∷ 0x6000120001F00008 ∷ [])
    ++ (0x2000130001200006 ∷ 0x3000150001200011 ∷ 0x6000170001B00011 ∷ [])
    ++ (0x3000160001300017 ∷ 0x5000160001600015 ∷ 0x6000170001600013 ∷ [])

-- The rest of a pass's words of edge 0, and of edge 1.
abbrev pub sweep0 : List ℕ
sweep0 =
    -- SET X+3 to i; MOVEIF X+7 (X+5, X+3).
    (0x0000140000000000 ∷ 0x6000180001600014 ∷ [])
    -- For each v MOVEIF N+v (T+in+v, X+6), MOVEIF Q+v (T+in+v, X+7).
    ++ (0x60000D0002000017 ∷ 0x60000F0002000018 ∷ 0x60000E0002100017 ∷ 0x6000100002100018 ∷ [])

abbrev pub sweep1 : List ℕ
sweep1 =
    (0x0000140000000001 ∷ 0x6000180001600014 ∷ [])
    ++ (0x60000D0002200017 ∷ 0x60000F0002200018 ∷ 0x60000E0002300017 ∷ 0x6000100002300018 ∷ [])

-- For each v LESS X+5 (N+v, D+v), MOVEIF D+v (X+5, N+v), MOVEIF P+v (X+5, Q+v).
abbrev pub take3 : List ℕ
take3 =
    (0x3000160000D00007 ∷ 0x600007000160000D ∷ 0x600009000160000F ∷ [])
    ++ (0x3000160000E00008 ∷ 0x600008000160000E ∷ 0x60000A0001600010 ∷ [])

-- The rest of the check's: without SET X+3, without MOVEIF X+7 and without MOVEIF Q+v; then for each v LESS X+5 (N+v, D+v), MOVEIF X+8 (X+5, X+5).
abbrev pub probe0 : List ℕ
probe0 = 0x60000D0002000017 ∷ 0x60000E0002100017 ∷ []

abbrev pub probe1 : List ℕ
probe1 = 0x60000D0002200017 ∷ 0x60000E0002300017 ∷ []

abbrev pub test3 : List ℕ
test3 = 0x3000160000D00007 ∷ 0x6000190001600016 ∷ 0x3000160000E00008 ∷ 0x6000190001600016 ∷ []

-- ---- "Ask 8" at n = 2, m = 1. Cells: from 0, to 1, price 2, D 3, C 7, R 9, Y 11, X 13.

abbrev pub constants4 : List ℕ
constants4 =
    -- For each v SET Y+v to v. SET X to FAR, SET X+1 to FAR.
    (0x00000B0000000000 ∷ 0x00000C0000000001 ∷ 0x00000D7FFFFFFFFF ∷ 0x00000E7FFFFFFFFF ∷ [])
    -- 20 times ADD X+1 (X+1, X+1).
    ++ replicate 20 0x20000E0000E0000E
    -- SET X+2 to 0, SET X+5 to 0.
    ++ (0x00000F0000000000 ∷ 0x0000120000000000 ∷ [])

-- For each i, for each j, COPY D+in+j from X+1. For each v, COPY D+v(n+1) from X+2.
abbrev pub start4 : List ℕ
start4 =
    (0x1000030000E00000 ∷ 0x1000040000E00000 ∷ 0x1000050000E00000 ∷ 0x1000060000E00000 ∷ [])
    ++ (0x1000030000F00000 ∷ 0x1000060000F00000 ∷ [])

-- For each i, for each j, ADD X+3 (C+i, R+j), LESS X+4 (X+3, D+in+j), MOVEIF D+in+j (X+4, X+3).
abbrev pub update4 : List ℕ
update4 =
    (0x2000100000700009 ∷ 0x3000110001000003 ∷ 0x6000030001100010 ∷ [])
    ++ (0x200010000070000A ∷ 0x3000110001000004 ∷ 0x6000040001100010 ∷ [])
    ++ (0x2000100000800009 ∷ 0x3000110001000005 ∷ 0x6000050001100010 ∷ [])
    ++ (0x200010000080000A ∷ 0x3000110001000006 ∷ 0x6000060001100010 ∷ [])

-- For each v COPY C+v from X+1, EQUAL X+4 (from l, Y+v), MOVEIF C+v (X+4, X+2), COPY R+v from X+1, EQUAL X+4 (to l, Y+v), MOVEIF R+v (X+4, price l).
abbrev pub lane4 : List ℕ
lane4 =
    (0x1000070000E00000 ∷ 0x400011000000000B ∷ 0x600007000110000F ∷ 0x1000090000E00000 ∷ 0x400011000010000B ∷ 0x6000090001100002 ∷ [])
    ++ (0x1000080000E00000 ∷ 0x400011000000000C ∷ 0x600008000110000F ∷ 0x10000A0000E00000 ∷ 0x400011000010000C ∷ 0x60000A0001100002 ∷ [])

-- Stages 0 and 1: for each v COPY C+v from D+vn+k, COPY R+v from D+kn+v.
abbrev pub column0 : List ℕ
column0 = 0x1000070000300000 ∷ 0x1000090000300000 ∷ 0x1000080000500000 ∷ 0x10000A0000400000 ∷ []

abbrev pub column1 : List ℕ
column1 = 0x1000070000400000 ∷ 0x1000090000500000 ∷ 0x1000080000600000 ∷ 0x10000A0000600000 ∷ []

abbrev pub finish4 : List ℕ
finish4 =
    -- For each v LESS X+4 (D+vn+v, X+2), ADD X+5 (X+5, X+4). BOTH X+5 (X+5, X+5).
    (0x300011000030000F ∷ 0x2000120001200011 ∷ 0x300011000060000F ∷ 0x2000120001200011 ∷ 0x5000120001200012 ∷ [])
    -- For each i, for each j, LESS X+4 (X, D+in+j), MOVEIF D+in+j (X+4, X).
    ++ (0x3000110000D00003 ∷ 0x600003000110000D ∷ 0x3000110000D00004 ∷ 0x600004000110000D ∷ [])
    ++ (0x3000110000D00005 ∷ 0x600005000110000D ∷ 0x3000110000D00006 ∷ 0x600006000110000D ∷ [])
    -- OPEN X+5.
    ++ (0x7000000001200000 ∷ [])

-- ---- "Ask 5" at n = 2, m = 2, source 1, after method 1's words but for the last. Cells: as method 1's, then Z 20, B 21, R 23.

abbrev pub trace5 : List ℕ
trace5 =
    -- For each v COPY B+v from Y+v.
    (0x1000150000A00000 ∷ 0x1000160000B00000 ∷ [])
    -- Over all i: SET X+3 to i; for each v EQUAL X+5 (P+v, X+3), MOVEIF B+v (X+5, from i).
    ++ (0x00000F0000000000 ∷ 0x400011000080000F ∷ 0x6000150001100000 ∷ 0x400011000090000F ∷ 0x6000160001100000 ∷ [])
    ++ (0x00000F0000000001 ∷ 0x400011000080000F ∷ 0x6000150001100001 ∷ 0x400011000090000F ∷ 0x6000160001100001 ∷ [])

abbrev pub follow5 : List ℕ
follow5 =
    -- COPY X+1 from Z.
    (0x10000D0001400000 ∷ [])
    -- For k from 0 to n-2: COPY X+2 from X+1; for each v EQUAL X+5 (X+2, Y+v), MOVEIF R+k (X+5, P+v), MOVEIF X+1 (X+5, B+v).
    ++ (0x10000E0000D00000 ∷ [])
    ++ (0x4000110000E0000A ∷ 0x6000170001100008 ∷ 0x60000D0001100015 ∷ [])
    ++ (0x4000110000E0000B ∷ 0x6000170001100009 ∷ 0x60000D0001100016 ∷ [])

-- At n = 3, m = 0, source 0, where k runs to 1. Cells: D 0, P 3, Y 6, X 9, Z 17, B 18, R 21.

abbrev pub opening5 : List ℕ
opening5 =
    (0x0000060000000000 ∷ 0x0000000000000000 ∷ 0x000003FFFFFFFFFF ∷ [])
    ++ (0x0000070000000001 ∷ 0x0000017FFFFFFFFF ∷ 0x000004FFFFFFFFFF ∷ [])
    ++ (0x0000080000000002 ∷ 0x0000027FFFFFFFFF ∷ 0x000005FFFFFFFFFF ∷ [])
    ++ (0x0000097FFFFFFFFF ∷ 0x0000100000000000 ∷ [])
    -- Without edges the predecessors are the copies alone; then COPY X+1 from Z.
    ++ (0x1000120000600000 ∷ 0x1000130000700000 ∷ 0x1000140000800000 ∷ 0x10000A0001100000 ∷ [])

abbrev pub place0 : List ℕ
place0 =
    (0x10000B0000A00000 ∷ [])
    ++ (0x40000E0000B00006 ∷ 0x6000150000E00003 ∷ 0x60000A0000E00012 ∷ [])
    ++ (0x40000E0000B00007 ∷ 0x6000150000E00004 ∷ 0x60000A0000E00013 ∷ [])
    ++ (0x40000E0000B00008 ∷ 0x6000150000E00005 ∷ 0x60000A0000E00014 ∷ [])

abbrev pub place1 : List ℕ
place1 =
    (0x10000B0000A00000 ∷ [])
    ++ (0x40000E0000B00006 ∷ 0x6000160000E00003 ∷ 0x60000A0000E00012 ∷ [])
    ++ (0x40000E0000B00007 ∷ 0x6000160000E00004 ∷ 0x60000A0000E00013 ∷ [])
    ++ (0x40000E0000B00008 ∷ 0x6000160000E00005 ∷ 0x60000A0000E00014 ∷ [])

pub record Facts : Type 0 where
  -- "2^39-1 = 549,755,813,887, the largest number SET can write": its 40 bits are read back as it, and none are read as more.
  pub far_is : far ≡ pos 549755813887
  pub far_written : signed_of 40 (bits_of 40 far) ≡ far
  pub far_largest : (bits : ℕ) → signed_of 40 bits ≤ℤ far
  -- "Header: method 4 bits, n 20, m 20, source 20", both ways, and all of their bits.
  pub header_fields : (header_of 0x9123456789ABCDEF ≡ record { method = 9; vertices = 0x12345; edges = 0x6789A; source = 0xBCDEF })
      × (header_of 0xFFFFFFFFFFFFFFFF ≡ record { method = 15; vertices = 1048575; edges = 1048575; source = 1048575 })
      × (header_word (record { method = 9; vertices = 0x12345; edges = 0x6789A; source = 0xBCDEF }) ≡ 0x9123456789ABCDEF)
  -- "n is 1 to 32, m is 0 to 128", the source below n; in method 2 "its m is 0": headers at the ends.
  pub least1 : Accepted (header_of 0x1000010000000000)
  pub most1 : Accepted (header_of 0x100020000800001F)
  pub least2 : Accepted (header_of 0x2000010000000000)
  pub most2 : Accepted (header_of 0x200020000000001F)
  pub least3 : Accepted (header_of 0x3000010000000000)
  pub most3 : Accepted (header_of 0x300020000800001F)
  pub least4 : Accepted (header_of 0x4000010000000000)
  pub most4 : Accepted (header_of 0x4000200008000000)
  pub least5 : Accepted (header_of 0x5000010000000000)
  pub most5 : Accepted (header_of 0x500020000800001F)
  -- And one past each: method 0 and 6, n = 0 and 33, m = 129, m = 1 in method 2, source = n, source = 1 in method 4.
  pub method0 : ¬ Accepted (header_of 0x0000010000000000)
  pub method6 : ¬ Accepted (header_of 0x6000010000000000)
  pub vertices0 : ¬ Accepted (header_of 0x1000000000000000)
  pub vertices33 : ¬ Accepted (header_of 0x1000210000000000)
  pub edges129 : ¬ Accepted (header_of 0x1000010008100000)
  pub sorted129 : ¬ Accepted (header_of 0x3000010008100000)
  pub every129 : ¬ Accepted (header_of 0x4000010008100000)
  pub routed129 : ¬ Accepted (header_of 0x5000010008100000)
  pub edges1 : ¬ Accepted (header_of 0x2000010000100000)
  pub source_past1 : ¬ Accepted (header_of 0x1000200008000020)
  pub source_past2 : ¬ Accepted (header_of 0x2000010000000001)
  pub source_past4 : ¬ Accepted (header_of 0x4000200008000001)
  pub source_past5 : ¬ Accepted (header_of 0x5000200008000020)
  -- "prices reach 100,000,000 either way (in method 2 from 0 upward, or -1 as before)"
  pub weights : (least_weight ≡ negsuc 99999999) × (most_weight ≡ 100000000) × (no_edge ≡ negsuc 0)
  -- "3m+3n+8 in all", "n²+5n+6 in all", "2nm+4m+5n+10 in all", "3m+n²+3n+6 in all", "3m+5n+8 in all": at the limits, and at the plans below.
  pub cells : (cells_of (header_of 0x100020000800001F) ≡ 488)
      × (cells_of (header_of 0x1000020000200001) ≡ 20)
      × (cells_of (header_of 0x200020000000001F) ≡ 1190)
      × (cells_of (header_of 0x2000020000000001) ≡ 20)
      × (cells_of (header_of 0x300020000800001F) ≡ 8874)
      × (cells_of (header_of 0x3000020000200001) ≡ 36)
      × (cells_of (header_of 0x4000200008000000) ≡ 1510)
      × (cells_of (header_of 0x4000020000100000) ≡ 19)
      × (cells_of (header_of 0x500020000800001F) ≡ 552)
      × (cells_of (header_of 0x5000020000200001) ≡ 24)
  -- "m lane words", "n × n words", "m+1 words": at the limits.
  pub words : (word_count_of (header_of 0x100020000800001F) ≡ 128)
      × (word_count_of (header_of 0x200020000000001F) ≡ 1024)
      × (word_count_of (header_of 0x300020000800001F) ≡ 128)
      × (word_count_of (header_of 0x4000200008000000) ≡ 128)
      × (word_count_of (header_of 0x500020000800001F) ≡ 129)
  -- "Results: n distances and n parents", "D+v and P+v": D at 3m and P at 3m+n, D at n² and P at n²+n, D at
  -- 3m+1 and P at 3m+n+1, at the limits and at the plans below.
  pub results : (results_of (header_of 0x100020000800001F) distances ≡ span 384 32)
      × (results_of (header_of 0x100020000800001F) parents ≡ span 416 32)
      × (results_of (header_of 0x1000020000200001) distances ≡ span 6 2)
      × (results_of (header_of 0x1000020000200001) parents ≡ span 8 2)
      × (results_of (header_of 0x200020000000001F) distances ≡ span 1024 32)
      × (results_of (header_of 0x200020000000001F) parents ≡ span 1056 32)
      × (results_of (header_of 0x2000020000000001) distances ≡ span 4 2)
      × (results_of (header_of 0x2000020000000001) parents ≡ span 6 2)
      × (results_of (header_of 0x300020000800001F) distances ≡ span 385 32)
      × (results_of (header_of 0x300020000800001F) parents ≡ span 417 32)
      × (results_of (header_of 0x3000020000200001) distances ≡ span 7 2)
      × (results_of (header_of 0x3000020000200001) parents ≡ span 9 2)
  -- "Results: n² distances D+in+j; no parents": D at 3m, at the limits and at the plans below.
  pub tables : (results_of (header_of 0x4000200008000000) distances ≡ span 384 1024)
      × (results_of (header_of 0x4000200008000000) parents ≡ none_given)
      × (results_of (header_of 0x4000200008000000) route ≡ none_given)
      × (results_of (header_of 0x4000020000100000) distances ≡ span 3 4)
      × (results_of (header_of 0x4000020000100000) parents ≡ none_given)
  -- "D+v, P+v, and R+k to the route buffer, n-1 places": R at 3m+4n+9, at the limits, at the plans below and with one yard; and no route in
  -- other methods.
  pub routes : (results_of (header_of 0x500020000800001F) distances ≡ span 384 32)
      × (results_of (header_of 0x500020000800001F) parents ≡ span 416 32)
      × (results_of (header_of 0x500020000800001F) route ≡ span 521 31)
      × (results_of (header_of 0x5000020000200001) route ≡ span 23 1)
      × (results_of (header_of 0x5000030000000000) route ≡ span 21 2)
      × (results_of (header_of 0x5000010000000000) route ≡ span 13 0)
      × (results_of (header_of 0x100020000800001F) route ≡ none_given)
      × (results_of (header_of 0x200020000000001F) route ≡ none_given)
      × (results_of (header_of 0x300020000800001F) route ≡ none_given)
  -- "OPEN X+7: the verdict", "OPEN X+8: the verdict", "OPEN X+5: the verdict": at the plans below and at the limits; method 2 has none.
  pub verdict : (verdict_cell (header_of 0x1000020000200001) ≡ some 19)
      × (verdict_cell (header_of 0x100020000800001F) ≡ some 487)
      × (verdict_cell (header_of 0x2000020000000001) ≡ none)
      × (verdict_cell (header_of 0x3000020000200001) ≡ some 25)
      × (verdict_cell (header_of 0x300020000800001F) ≡ some 553)
      × (verdict_cell (header_of 0x4000020000100000) ≡ some 18)
      × (verdict_cell (header_of 0x4000200008000000) ≡ some 1509)
      × (verdict_cell (header_of 0x5000020000200001) ≡ some 19)
      × (verdict_cell (header_of 0x500020000800001F) ≡ some 487)
  -- "Plan of method 1": the opening, n-1 passes over all i, the check over all i, OPEN X+7.
  pub plan1 : plan_of (header_of 0x1000020000200001)
      ≡ (0x1000020000200001 ∷ opening1) ++ gather0 ++ relax0 ++ gather1 ++ relax1 ++ gather0 ++ check0 ++ gather1 ++ check1
      ++ (0x7000000001300000 ∷ [])
  -- "Plan of method 2": the opening, n turns.
  pub plan2 : plan_of (header_of 0x2000020000000001) ≡ (0x2000020000000001 ∷ opening2) ++ turn2 ++ turn2
  -- "Ask 3": the opening, the preparation over all i, n-1 passes, the check, OPEN X+8.
  pub plan3 : plan_of (header_of 0x3000020000200001)
      ≡ (0x3000020000200001 ∷ opening3) ++ prepare3 ++ bid0 ++ sweep0 ++ bid1 ++ sweep1 ++ take3 ++ bid0 ++ probe0 ++ bid1 ++ probe1 ++ test3
      ++ (0x7000000001900000 ∷ [])
  -- "Ask 8": constants, start, lanes, stages, circles, marks, OPEN X+5.
  pub plan4 : plan_of (header_of 0x4000020000100000)
      ≡ (0x4000020000100000 ∷ constants4) ++ start4 ++ lane4 ++ update4 ++ column0 ++ update4 ++ column1 ++ update4 ++ finish4
  -- "Ask 5": "Opening, passes and check of method 1, word for word", the predecessors, the route, OPEN X+7.
  pub plan5 : plan_of (header_of 0x5000020000200001)
      ≡ (0x5000020000200001 ∷ opening1) ++ gather0 ++ relax0 ++ gather1 ++ relax1 ++ gather0 ++ check0 ++ gather1 ++ check1 ++ trace5 ++ follow5
      ++ (0x7000000001300000 ∷ [])
  pub places5 : plan_of (header_of 0x5000030000000000) ≡ (0x5000030000000000 ∷ opening5) ++ place0 ++ place1 ++ (0x7000000001000000 ∷ [])
