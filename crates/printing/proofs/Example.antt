-- By computing, bytes read and text printed: document 01's printed request, both listings, arguments, refusals, every method, longer numbers, logs;
-- and what is lent. Rests on the definitions alone.
use mathlib.Core.Path.{◌≡◌, refl}
use mathlib.Core.Bool.{true, false}
use mathlib.Core.List.{List, [], ◌∷◌, ◌++◌}
use mathlib.Core.Option.{none}
use Prim.Native.Nat.{ℕ, ◌*◌}
use lib.IntN.{ℤ, pos, negsuc}
use lib.ListN.{length, take, drop, replicate}
use Rattle.fields.specs.Fields.{signed_of, bits_of}
use Rattle.text.specs.Text.{same_bytes, leading, decimal, signed, hexadecimal, line_of}
use Rattle.machine.specs.Effect.{bit, wrap_add, both, pick, perform}
use Rattle.machine.specs.Word.{packed, packed_set, decode_at, zeros_kept, present, admissible_at}
use Rattle.machine.specs.Log.{carry, logged, cells_after, log_from, log_of, without_published_from, without_published}
use Rattle.machine.specs.Depth.{greatest_from, decode_all, depth_of, charge_of}
use Rattle.plans.specs.Limits.{far}
use Rattle.plans.specs.Blocks.{flat}
use Rattle.plans.specs.Outline.{instructions}
use Rattle.plans.specs.Method1 as Method1
use Rattle.plans.specs.Method2 as Method2
use Rattle.plans.specs.Method3 as Method3
use Rattle.plans.specs.Method4 as Method4
use Rattle.plans.specs.Method5 as Method5
use Rattle.plans.specs.Plan.{instructions_of, plan_of, word_count_of, cells_of, distances, parents, route, by_kind, results_of, length_of, verdict_cell}
use Rattle.headers.specs.Refusal.{header_refusal}
use Rattle.limits.specs.Word.{weight_of}
use Rattle.limits.specs.Refusal.{log_length_of, sizes_refusal, in_range, edge_refusal, sorted_refusal, entry_refusal, word_refusal, words_refusal, last_refusal, request_refusal}
use Rattle.intake.specs.Intake.{strips_of, source_of, laid, copied, starting_cells}
use Rattle.demands.specs.Run.{Outcome, verdict_of, outcome}
use Rattle.demands.specs.Network.{sources_of}
use Rattle.printing.specs.Literals.{text, bytes_of}
use Rattle.printing.specs.Texts.{line_text, rows_text, text_of, log_text}
use Rattle.printing.specs.Bytes.{joined_from, whole_words, handed_over, request_of}
use Rattle.printing.specs.Desk.{desk_lent, asks_all, desk_text, host_text}

-- What a run leaves that tells these values and gives these distances: results without the run.
abbrev gave : (values : List ℕ) (distances : List ℤ) → Outcome
gave values ds = record { answer = record { number = 0; place = none; values = values }; cells = []; log = []; results = by_kind ds [] [] }

pub record Example : Type 0 where
  -- Document 01's printed request, in bytes.
  pub results : desk_text [] (0x10 ∷ 0 ∷ 2 ∷ 0 ∷ 0 ∷ 0x10 ∷ 0 ∷ 0 ∷ 0 ∷ 1 ∷ 0 ∷ 0 ∷ 0xFF ∷ 0xFF ∷ 0xFF ∷ 0xFB ∷ [])
      ≡ text "1 2 1 0 31 0\n0 0 -\n1 -5 0\n"
  -- From here on as words: a header by its method, yards, lanes and source, a lane by its from-yard, to-yard, spare bits and price. Texts are quoted.
  pub words : bytes_of (0x1_00002_00001_00000 ∷ 0x00_01_0000_FFFFFFFB ∷ [])
      ≡ 0x10 ∷ 0 ∷ 2 ∷ 0 ∷ 0 ∷ 0x10 ∷ 0 ∷ 0 ∷ 0 ∷ 1 ∷ 0 ∷ 0 ∷ 0xFF ∷ 0xFF ∷ 0xFF ∷ 0xFB ∷ []
  pub quoted : text "1 -5\nall" ≡ 49 ∷ 32 ∷ 45 ∷ 53 ∷ 10 ∷ 97 ∷ 108 ∷ 108 ∷ []
  -- Its lane among three yards; with `all`, the unreached one too.
  pub reached_alone : desk_text [] (bytes_of (0x1_00003_00001_00000 ∷ 0x00_01_0000_FFFFFFFB ∷ []))
      ≡ text "1 3 1 0 46 0\n0 0 -\n1 -5 0\n"
  pub each_vertex : desk_text (text "all") (bytes_of (0x1_00003_00001_00000 ∷ 0x00_01_0000_FFFFFFFB ∷ []))
      ≡ text "1 3 1 0 46 0\n0 0 -\n1 -5 0\n2 - -\n"
  -- `all` asks for every yard; no other argument does.
  pub all : asks_all (text "all") ≡ true
  pub no_argument : asks_all [] ≡ false
  pub a_byte_less : asks_all (text "al") ≡ false
  pub a_byte_more : asks_all (text "alll") ≡ false
  pub capitals : asks_all (text "ALL") ≡ false
  pub a_blank_more : asks_all (text "all ") ≡ false
  -- The first line is `method yards lanes source rounds verdict`: from yard 2, no two of them the same.
  pub first_line : desk_text []
      (bytes_of (0x1_00003_00004_00002 ∷ 0x02_00_0000_00000004 ∷ 0x00_01_0000_FFFFFFFB ∷ 0x02_01_0000_00000009 ∷ 0x01_00_0000_00000007 ∷ []))
      ≡ text "1 3 4 2 127 0\n0 4 0\n1 -1 1\n2 0 -\n"
  -- Method 2, an entry of 3 from 0 to 1, and none to 2, with `all`.
  pub unreached : desk_text (text "all") (bytes_of (0x2_00003_00000_00000 ∷ 0xFFFFFFFF ∷ 3 ∷ replicate 7 0xFFFFFFFF))
      ≡ text "2 3 0 0 121 0\n0 0 -\n1 3 0\n2 - -\n"
  -- The printed lane in method 3. Lanes to 1 and to 0.
  pub sorted : desk_text [] (bytes_of (0x3_00002_00001_00000 ∷ 0x00_01_0000_FFFFFFFB ∷ []))
      ≡ text "3 2 1 0 45 0\n0 0 -\n1 -5 0\n"
  pub out_of_order : desk_text [] (bytes_of (0x3_00002_00002_00000 ∷ 0x00_01_0000_00000005 ∷ 0x01_00_0000_00000005 ∷ []))
      ≡ text "refused 15 1\n"
  -- In method 5, to 1, to 0 and to 2.
  pub routed : desk_text [] (bytes_of (0x5_00002_00001_00000 ∷ 0x00_01_0000_FFFFFFFB ∷ 1 ∷ []))
      ≡ text "5 2 1 0 31 0\n0 0 -\n1 -5 0\nroute 0\n"
  pub no_route : desk_text [] (bytes_of (0x5_00002_00001_00000 ∷ 0x00_01_0000_FFFFFFFB ∷ 0 ∷ []))
      ≡ text "5 2 1 0 31 0\n0 0 -\n1 -5 0\nroute\n"
  pub no_destination : desk_text [] (bytes_of (0x5_00002_00001_00000 ∷ 0x00_01_0000_FFFFFFFB ∷ 2 ∷ []))
      ≡ text "refused 16\n"
  -- In method 4, without `all` and with it. From yard 1.
  pub pairs : desk_text [] (bytes_of (0x4_00002_00001_00000 ∷ 0x00_01_0000_FFFFFFFB ∷ []))
      ≡ text "4 2 1 0 37 0\n0 0 0\n0 1 -5\n1 1 0\n"
  pub every_pair : desk_text (text "all") (bytes_of (0x4_00002_00001_00000 ∷ 0x00_01_0000_FFFFFFFB ∷ []))
      ≡ text "4 2 1 0 37 0\n0 0 0\n0 1 -5\n1 0 -\n1 1 0\n"
  pub other_source : desk_text [] (bytes_of (0x4_00002_00001_00001 ∷ 0x00_01_0000_FFFFFFFB ∷ []))
      ≡ text "refused 4\n"
  -- A route of two lanes, the last one first.
  pub last_edge_first : desk_text [] (bytes_of (0x5_00003_00002_00000 ∷ 0x00_01_0000_00000007 ∷ 0x01_02_0000_FFFFFFF4 ∷ 2 ∷ []))
      ≡ text "5 3 2 0 75 0\n0 0 -\n1 7 0\n2 -5 1\nroute 1 0\n"
  -- Numbers of two digits: a parent, a distance and a route's lane; a source and a yard; a refusal's place; in method 4 both yards, of results given.
  pub edge_ten : desk_text [] (bytes_of (0x5_00002_0000B_00000 ∷ replicate 10 0x00_01_0000_00000014 ++ (0x00_01_0000_FFFFFFF4 ∷ 1 ∷ [])))
      ≡ text "5 2 11 0 161 0\n0 0 -\n1 -12 10\nroute 10\n"
  pub vertex_ten : desk_text [] (bytes_of (0x1_0000B_00000_0000A ∷ [])) ≡ text "1 11 0 10 2 0\n10 0 -\n"
  pub place_ten : desk_text [] (bytes_of (0x1_00002_0000B_00000 ∷ replicate 10 0x00_01_0000_00000014 ++ (0x00_02_0000_00000014 ∷ [])))
      ≡ text "refused 14 10\n"
  pub pair_ten : text_of false (0x4_0000B_00001_00000 ∷ 0x0A_00_0000_FFFFFFFD ∷ [])
      (gave (100 ∷ 5099 ∷ 0 ∷ []) (flat 9 (λ v. pos 0 ∷ replicate 11 far) ++ (pos 0 ∷ far ∷ negsuc 2 ∷ replicate 9 far ++ (pos 0 ∷ []))))
      ≡ text "4 11 1 0 100 0\n0 0 0\n1 1 0\n2 2 0\n3 3 0\n4 4 0\n5 5 0\n6 6 0\n7 7 0\n8 8 0\n9 9 0\n10 0 -3\n10 10 0\n"
  -- Seven bytes.
  pub short : desk_text [] (0x10 ∷ 0 ∷ 2 ∷ 0 ∷ 0 ∷ 0x10 ∷ 0 ∷ []) ≡ text "refused 1\n"
  -- A byte after one word that is a whole request.
  pub broken : desk_text [] (0x10 ∷ 0 ∷ 1 ∷ 0 ∷ 0 ∷ 0 ∷ 0 ∷ 0 ∷ 0 ∷ []) ≡ text "refused 5\n"
  -- A lane to a yard that is not there, at place 2.
  pub no_vertex : desk_text [] (bytes_of (0x1_00002_00003_00000 ∷ 0x00_01_0000_00000000 ∷ 0x00_01_0000_00000000 ∷ 0x00_02_0000_00000005 ∷ []))
      ≡ text "refused 14 2\n"
  -- A loss circle.
  pub loss_circle : desk_text [] (bytes_of (0x1_00001_00001_00000 ∷ 0x00_00_0000_FFFFFFFF ∷ [])) ≡ text "refused 12\n"
  -- The printed request's log, 48 words: its first, the header word, and its last, the published one.
  pub log_first : take 17 (host_text (bytes_of (0x1_00002_00001_00000 ∷ 0x00_01_0000_FFFFFFFB ∷ []))) ≡ text "1000020000100000\n"
  pub log_last : drop (17 * 47) (host_text (bytes_of (0x1_00002_00001_00000 ∷ 0x00_01_0000_FFFFFFFB ∷ []))) ≡ text "0000000000000000\n"
  -- A request that is refused has no log: the refusal is printed.
  pub log_refused : host_text (bytes_of (0x1_00002_00001_00000 ∷ 0x00_02_0000_FFFFFFFB ∷ [])) ≡ text "refused 14 0\n"
  -- The loss circle's log, which is printed too (12 comes after a run), 18 words: the header word, and at the end OPEN and the verdict 1.
  pub circle_log_first : take 17 (host_text (bytes_of (0x1_00001_00001_00000 ∷ 0x00_00_0000_FFFFFFFF ∷ []))) ≡ text "1000010000100000\n"
  pub circle_log_last : drop (17 * 16) (host_text (bytes_of (0x1_00001_00001_00000 ∷ 0x00_00_0000_FFFFFFFF ∷ [])))
      ≡ text "7000000000d00000\n0000000000000001\n"
  pub circle_log_long : length (host_text (bytes_of (0x1_00001_00001_00000 ∷ 0x00_00_0000_FFFFFFFF ∷ []))) ≡ 17 * 18
  -- "Its log holds 8,192 words and its bank 1,190 cells." Results for 32 yards: pairs, yards, and the places of a route.
  pub log_lent : length desk_lent.log ≡ 8192
  pub cells_lent : length desk_lent.cells ≡ 1190
  pub distances_lent : length (desk_lent.results distances) ≡ 1024
  pub parents_lent : length (desk_lent.results parents) ≡ 32
  pub route_lent : length (desk_lent.results route) ≡ 31
  -- The largest word, and every digit.
  pub largest : decimal 0xFFFFFFFFFFFFFFFF ≡ text "18446744073709551615"
  pub digits : hexadecimal 0xFEDCBA9876543210 ≡ text "fedcba9876543210"

pub example : Example
unfolding same_bytes leading decimal signed hexadecimal line_of signed_of bits_of bit wrap_add both pick perform packed packed_set decode_at zeros_kept present admissible_at carry logged cells_after log_from log_of without_published_from without_published greatest_from decode_all depth_of charge_of flat instructions Method1.plan Method2.plan Method3.plan Method4.plan Method5.plan instructions_of plan_of cells_of results_of length_of header_refusal weight_of word_count_of log_length_of verdict_cell sizes_refusal in_range edge_refusal sorted_refusal entry_refusal word_refusal words_refusal last_refusal request_refusal strips_of source_of laid starting_cells verdict_of copied outcome sources_of line_text rows_text joined_from whole_words handed_over request_of text_of log_text desk_text host_text
example =
    record {
      results = refl;
      words = refl;
      quoted = refl;
      reached_alone = refl;
      each_vertex = refl;
      all = refl;
      no_argument = refl;
      a_byte_less = refl;
      a_byte_more = refl;
      capitals = refl;
      a_blank_more = refl;
      first_line = refl;
      unreached = refl;
      sorted = refl;
      out_of_order = refl;
      routed = refl;
      no_route = refl;
      no_destination = refl;
      pairs = refl;
      every_pair = refl;
      other_source = refl;
      last_edge_first = refl;
      edge_ten = refl;
      vertex_ten = refl;
      place_ten = refl;
      pair_ten = refl;
      short = refl;
      broken = refl;
      no_vertex = refl;
      loss_circle = refl;
      log_first = refl;
      log_last = refl;
      log_refused = refl;
      circle_log_first = refl;
      circle_log_last = refl;
      circle_log_long = refl;
      log_lent = refl;
      cells_lent = refl;
      distances_lent = refl;
      parents_lent = refl;
      route_lent = refl;
      largest = refl;
      digits = refl;
    }
