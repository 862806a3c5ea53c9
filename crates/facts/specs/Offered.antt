-- Engines that the demands refuse, each by what it would answer and leave for one request: those that the buyer was offered, in his words and
-- order (document 01, "Note from the buyer"), and then some for the clauses that nothing else would miss. Rests on demands.
use Rattle.std.specs.Prelude.{◌≡◌, List, [], ◌∷◌, ◌++◌, ℕ, ℤ, pos, negsuc, take, drop, replicate}
use Rattle.std.proofs.Math.Option.{none}
use Rattle.lists.specs.Buffers.{overwritten}
use Rattle.answers.specs.Refusal.{Method, placed}
use Rattle.answers.specs.Told.{Told, refused}
use Rattle.machine.specs.Log.{cells_after}
use Rattle.plans.specs.Limits.{far}
use Rattle.plans.specs.Plan.{header_of, plan_of, by_kind}
use Rattle.runner.specs.Runner.{PlanOutcome, plan_outcome}
use Rattle.demands.specs.Run.{Lent, Outcome, start_of, refused_by, outcome}
use Rattle.demands.specs.Demands.{Demand1By, Demand2By, Demand3By, DemandPlanBy}
use Rattle.facts.specs.Corners.{zeros, ran}

-- ---- requests, each with buffers of zeros that are just long enough

-- A header is written by its method, yards, lanes and source, a lane by its from-yard, to-yard, spare bits and price.

-- The printed request; and with one place more of each buffer.
abbrev pub printed : List ℕ
printed = 0x1_00002_00001_00000 ∷ 0x00_01_0000_FFFFFFFB ∷ []

abbrev pub for_printed : Lent
for_printed = zeros 17 48 2

abbrev pub more : Lent
more = zeros 18 49 3

-- A loss circle: of one yard, a lane from 0 to 0 at -1.
abbrev pub circle : List ℕ
circle = 0x1_00001_00001_00000 ∷ 0x00_00_0000_FFFFFFFF ∷ []

abbrev pub for_circle : Lent
for_circle = zeros 14 18 1

-- Lanes 1 to 2 at -3 and 0 to 1 at 5: the second pass finds yard 2.
abbrev pub chained : List ℕ
chained = 0x1_00003_00002_00000 ∷ 0x01_02_0000_FFFFFFFD ∷ 0x00_01_0000_00000005 ∷ []

abbrev pub for_chained : Lent
for_chained = zeros 23 174 3

-- Two lanes 0 to 1, at 4 and at 9.
abbrev pub parallel : List ℕ
parallel = 0x1_00002_00002_00000 ∷ 0x00_01_0000_00000004 ∷ 0x00_01_0000_00000009 ∷ []

abbrev pub for_parallel : Lent
for_parallel = zeros 20 85 2

-- Lanes 0 to 1, 1 to 2 and 2 to 1, all at 0.
abbrev pub level : List ℕ
level = 0x1_00003_00003_00000 ∷ 0x00_01_0000_00000000 ∷ 0x01_02_0000_00000000 ∷ 0x02_01_0000_00000000 ∷ []

abbrev pub for_level : Lent
for_level = zeros 26 254 3

-- A table with one lane, 0 to 1 at 7.
abbrev pub table : List ℕ
table = 0x2_00002_00000_00000 ∷ 0xFFFFFFFF ∷ 7 ∷ 0xFFFFFFFF ∷ 0xFFFFFFFF ∷ []

abbrev pub for_table : Lent
for_table = zeros 20 67 2

-- Method 3: two lanes 0 to 1 at 4.
abbrev pub tied : List ℕ
tied = 0x3_00002_00002_00000 ∷ 0x00_01_0000_00000004 ∷ 0x00_01_0000_00000004 ∷ []

abbrev pub for_tied : Lent
for_tied = zeros 36 86 2

-- Method 4: the printed lane; and a loss circle of yards 1 and 2, which yard 0 does not reach.
abbrev pub every_yard : List ℕ
every_yard = 0x4_00002_00001_00000 ∷ 0x00_01_0000_FFFFFFFB ∷ []

abbrev pub for_every_yard : Lent
for_every_yard = zeros 19 104 4

abbrev pub circle_apart : List ℕ
circle_apart = 0x4_00003_00002_00000 ∷ 0x01_02_0000_FFFFFFFF ∷ 0x02_01_0000_FFFFFFFF ∷ []

abbrev pub for_circle_apart : Lent
for_circle_apart = zeros 30 256 9

-- Method 5: the lanes of `chained`, to yard 2; and to the source.
abbrev pub routed : List ℕ
routed = 0x5_00003_00002_00000 ∷ 0x01_02_0000_FFFFFFFD ∷ 0x00_01_0000_00000005 ∷ 2 ∷ []

abbrev pub to_the_source : List ℕ
to_the_source = 0x5_00003_00002_00000 ∷ 0x01_02_0000_FFFFFFFD ∷ 0x00_01_0000_00000005 ∷ 0 ∷ []

abbrev pub for_routed : Lent
for_routed = zeros 29 212 3

-- ---- outcomes that are another but for one part

abbrev pub answering : Told → Outcome → Outcome
answering t o = record { answer = t; cells = o.cells; log = o.log; results = o.results }

abbrev pub leaving : List ℤ → Outcome → Outcome
leaving cells o = record { answer = o.answer; cells = cells; log = o.log; results = o.results }

abbrev pub logging : List ℕ → Outcome → Outcome
logging log o = record { answer = o.answer; cells = o.cells; log = log; results = o.results }

abbrev pub giving : (distances parents route : List ℤ) → Outcome → Outcome
giving ds ps rs o = record { answer = o.answer; cells = o.cells; log = o.log; results = by_kind ds ps rs }

abbrev pub two : List ℤ
two = replicate 2 (pos 0)

abbrev pub three : List ℤ
three = replicate 3 (pos 0)

-- ---- the buyer's seven

-- Its log is right; its cells are those that it started from, and its results copies of them.
abbrev pub copies_the_plan : Outcome
copies_the_plan = leaving (start_of printed for_printed) (giving two two two (outcome printed for_printed))

-- Of the plan's words it carries out the 11 of the opening and the 56 of the first pass.
abbrev pub first_pass_only : Outcome
first_pass_only =
    leaving (cells_after (take 67 (drop 1 (plan_of (header_of 0x1_00003_00002_00000)))) (start_of chained for_chained))
    (giving (pos 0 ∷ pos 5 ∷ far ∷ []) (negsuc 0 ∷ pos 1 ∷ negsuc 0 ∷ []) three (outcome chained for_chained))

-- It logs the header and tells a loss circle: where there is none, and where there is one.
abbrev pub before_its_first_word : (header : ℕ) → Lent → Outcome
before_its_first_word header lent =
    record {
      answer = record { number = 12; place = none; values = 0 ∷ 1 ∷ 1 ∷ [] };
      cells = lent.cells;
      log = overwritten (header ∷ []) lent.log;
      results = lent.results;
    }

-- Whatever it computed, yard 1 is at 4.
abbrev pub fixed_distances : Outcome
fixed_distances = giving (pos 0 ∷ pos 4 ∷ []) (negsuc 0 ∷ pos 0 ∷ []) two (outcome printed for_printed)

abbrev pub refuses_everything : Outcome
refuses_everything = refused_by Method for_printed

-- Its results are right, and copies of cells D and P, which intake has filled with them; no other cell changes. What a run started from is
-- not seen in an outcome: that its log leaves other cells is.
abbrev pub at_intake : Outcome
at_intake =
    leaving (pos 0 ∷ pos 1 ∷ negsuc 4 ∷ pos 0 ∷ negsuc 4 ∷ negsuc 0 ∷ pos 0 ∷ replicate 10 (pos 0)) (outcome printed for_printed)

-- Its results are right, and no cell has them.
abbrev pub beside_the_cells : Outcome
beside_the_cells = leaving (start_of printed for_printed) (outcome printed for_printed)

-- One round less than there are.
abbrev pub invented_rounds : Outcome
invented_rounds = answering (ran 30 48) (outcome printed for_printed)

-- ---- the runner's

-- A foreign plan that doubles cell 0 and opens it, on one cell at 7 and a log of four words.
abbrev pub doubling : List ℕ
doubling = 0 ∷ 0x2_00000_00000_00000 ∷ 0x7_00000_00000_00000 ∷ []

abbrev pub one_cell : List ℤ
one_cell = pos 7 ∷ []

abbrev pub four_words : List ℕ
four_words = replicate 4 0

-- What a runner would answer and leave: its rounds, the cell, and the word that it published. `doubled 1 14 14` is right.
abbrev pub doubled : (rounds cell published : ℕ) → PlanOutcome
doubled rounds cell published =
    record {
      answer = record { number = 0; place = none; values = rounds ∷ 4 ∷ [] };
      cells = pos cell ∷ [];
      log = 0 ∷ 0x2_00000_00000_00000 ∷ 0x7_00000_00000_00000 ∷ published ∷ [];
    }

abbrev pub refuses_the_plan : PlanOutcome
refuses_the_plan = record { answer = refused (placed 9 1); cells = one_cell; log = four_words }

-- ---- and further ones

-- The parent of yard 1 is the dearer of its two lanes; and in a table yard 1 itself, from which no lane comes.
abbrev pub dearer_lane : Outcome
dearer_lane = giving (pos 0 ∷ pos 4 ∷ []) (negsuc 0 ∷ pos 1 ∷ []) two (outcome parallel for_parallel)

abbrev pub another_yard : Outcome
another_yard = giving (pos 0 ∷ pos 7 ∷ []) (negsuc 0 ∷ pos 1 ∷ []) two (outcome table for_table)

-- Each parent is the last lane of a least walk, and they lead from yard 1 to 2 and back to 1, never to the source.
abbrev pub round_and_round : Outcome
round_and_round = giving three (negsuc 0 ∷ pos 2 ∷ pos 1 ∷ []) three (outcome level for_level)

-- The place after the needed ones is written, of the distances, of the log and of the cells.
abbrev pub beyond_distances : Outcome
beyond_distances = giving (pos 0 ∷ negsuc 4 ∷ pos 1 ∷ []) (negsuc 0 ∷ pos 0 ∷ pos 0 ∷ []) three (outcome printed more)

abbrev pub beyond_log : Outcome
beyond_log = logging (take 48 (outcome printed more).log ++ 1 ∷ []) (outcome printed more)

abbrev pub beyond_cells : Outcome
beyond_cells = leaving (take 17 (outcome printed more).cells ++ pos 1 ∷ []) (outcome printed more)

-- A loss circle with results.
abbrev pub circle_with_results : Outcome
circle_with_results = giving (negsuc 0 ∷ []) (pos 0 ∷ []) (pos 0 ∷ []) (outcome circle for_circle)

-- Of the log's 48 words it tells 20.
abbrev pub stops_early : Outcome
stops_early = answering (ran 31 20) (outcome printed for_printed)

-- The last word is not the cell that was opened.
abbrev pub publishes_another : Outcome
publishes_another = logging (take 47 (outcome printed for_printed).log ++ 1 ∷ []) (outcome printed for_printed)

-- Method 3: the later of equal lanes is the parent.
abbrev pub later_lane : Outcome
later_lane = giving (pos 0 ∷ pos 4 ∷ []) (negsuc 0 ∷ pos 1 ∷ []) two (outcome tied for_tied)

-- Method 4: the table by columns; and the loss circle passed over.
abbrev pub by_columns : Outcome
by_columns = giving (pos 0 ∷ far ∷ negsuc 4 ∷ pos 0 ∷ []) (replicate 4 (pos 0)) (replicate 4 (pos 0)) (outcome every_yard for_every_yard)

abbrev pub circle_passed_over : Outcome
circle_passed_over = answering (ran 51 256) (outcome circle_apart for_circle_apart)

-- Method 5: the route's lanes first first; and a route to the source.
abbrev pub first_first : Outcome
first_first =
    giving (pos 0 ∷ pos 5 ∷ pos 2 ∷ []) (negsuc 0 ∷ pos 1 ∷ pos 0 ∷ []) (pos 1 ∷ pos 0 ∷ pos 0 ∷ []) (outcome routed for_routed)

abbrev pub route_of_nothing : Outcome
route_of_nothing =
    giving (pos 0 ∷ pos 5 ∷ pos 2 ∷ []) (negsuc 0 ∷ pos 1 ∷ pos 0 ∷ []) (pos 0 ∷ pos 0 ∷ pos 0 ∷ []) (outcome to_the_source for_routed)

pub record Offered : Type 0 where
  -- "an engine that copies the plan to the log and computes nothing (demand 2, and demand 3's carrying out, stop it)"
  pub copies_the_plan_fails : (¬ Demand2By copies_the_plan printed for_printed) × (¬ Demand3By copies_the_plan printed for_printed)
  -- "one that relaxes in the first pass and only logs the later ones (the same two)"
  pub first_pass_only_fails : (¬ Demand2By first_pass_only chained for_chained) × (¬ Demand3By first_pass_only chained for_chained)
  -- "one that reports a loss circle before its first word (demand 2's verdict, and the plan of the header, in demand 3)"
  pub before_its_first_word_fails : (¬ Demand2By (before_its_first_word 0x1_00002_00001_00000 for_printed) printed for_printed)
      × (¬ Demand3By (before_its_first_word 0x1_00001_00001_00000 for_circle) circle for_circle)
  -- "one with fixed distances (demand 2)"; and the rule on results.
  pub fixed_distances_fails : (¬ Demand2By fixed_distances printed for_printed) × (¬ Demand3By fixed_distances printed for_printed)
  -- "one refusing everything (demand 1)"
  pub refuses_everything_fails : ¬ Demand1By refuses_everything printed for_printed
  -- "one that works out the answer at intake or beside the cells and logs empty passes (the rule on intake and results, in demand 3)"
  pub at_intake_fails : ¬ Demand3By at_intake printed for_printed
  pub beside_the_cells_fails : ¬ Demand3By beside_the_cells printed for_printed
  -- "one whose rounds are invented (they equal the column's sum over the logged words, by demand 3)": with ask 4 their greatest depth.
  pub invented_rounds_fails : ¬ Demand3By invented_rounds printed for_printed
  -- The same of foreign plans: copies the plan and computes nothing; invented rounds; the cell published as it stood before; refuses everything.
  pub foreign_right : plan_outcome doubling one_cell four_words ≡ doubled 1 14 14
  pub foreign : (¬ DemandPlanBy (doubled 1 7 14) doubling one_cell four_words)
      × (¬ DemandPlanBy (doubled 0 14 14) doubling one_cell four_words)
      × (¬ DemandPlanBy (doubled 1 14 7) doubling one_cell four_words)
      × (¬ DemandPlanBy refuses_the_plan doubling one_cell four_words)
  -- "parent marks are last steps of least walks and lead back to the source": of two lanes the cheaper; in a table yards that a lane comes from;
  -- not round and round.
  pub dearer_lane_fails : ¬ Demand2By dearer_lane parallel for_parallel
  pub another_yard_fails : ¬ Demand2By another_yard table for_table
  pub round_and_round_fails : ¬ Demand2By round_and_round level for_level
  -- "Cells, log and results beyond the needed part stay untouched"; "a loss circle alone leaves cells and log, and no results".
  pub beyond : (¬ Demand1By beyond_distances printed more) × (¬ Demand1By beyond_log printed more) × (¬ Demand1By beyond_cells printed more)
  pub circle_with_results_fails : ¬ Demand1By circle_with_results circle for_circle
  -- "stopping when a pass changes nothing": the log is then not the plan; and "each OPEN followed by the published cell".
  pub stops_early_fails : ¬ Demand3By stops_early printed for_printed
  pub publishes_another_fails : ¬ Demand3By publishes_another printed for_printed
  -- Ask 3: "among equal offers the lowest lane number becomes parent". Ask 8: "distances by rows", "reached from yard 0 or not". Ask 5: "last
  -- first", "the source itself, gives padding only".
  pub later_lane_fails : ¬ Demand2By later_lane tied for_tied
  pub by_columns_fails : ¬ Demand2By by_columns every_yard for_every_yard
  pub circle_passed_over_fails : ¬ Demand2By circle_passed_over circle_apart for_circle_apart
  pub first_first_is : ¬ Demand2By first_first routed for_routed
  pub route_of_nothing_fails : ¬ Demand2By route_of_nothing to_the_source for_routed
