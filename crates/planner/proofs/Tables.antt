-- The methods' lines stand for their plans: what each method shows of them, and what is then so of a header's words.
-- Rests on the laws of tables and of plans.
use mathlib.Core.Path.{◌≡◌, subst, ◌∙◌}
use mathlib.Core.List.{List, [], ◌++◌, map, map-append, append-nil}
use Prim.Native.Nat.{ℕ, ◌^◌, ◌<◌, ◌≤◌}
use native.Mathlib.Omega.{arith}
use lib.ListN.{length, drop}
use Rattle.machine.specs.Instruction.{All}
use Rattle.machine.specs.Word.{Fits, encode}
use Rattle.machine.proofs.Encoded.{encode_small}
use Rattle.plans.specs.declared.Header.{Header}
use Rattle.plans.specs.Limits.{far}
use Rattle.plans.specs.Regions.{address}
use Rattle.plans.specs.Outline.{Outline, joined, start, instructions}
use Rattle.plans.specs.Method1 as Method1
use Rattle.plans.specs.Method2 as Method2
use Rattle.plans.specs.Method3 as Method3
use Rattle.plans.specs.Method4 as Method4
use Rattle.plans.specs.Method5 as Method5
use Rattle.plans.specs.Plan.{Accepted, instructions_of, plan_of, length_of}
use Rattle.plans.proofs.Addresses.{fits_plan}
use Rattle.plans.proofs.Blocks.{all_map}
use Rattle.plans.proofs.Figures.{length_plan}
use Rattle.plans.proofs.Headers.{instructions_one, instructions_two, instructions_three, instructions_four, instructions_five}
use Rattle.plans.proofs.Outlines.{instructions_joined}
use Rattle.rows.specs.Rows.{env_of}
use Rattle.tables.specs.Writing.{RoomAt, Wrote, lines_words, Writable}
use Rattle.tables.proofs.Tabled as Tabled
use Rattle.tables.proofs.Tabled.{SameRows}
use Rattle.tables.proofs.Written.{nothing, then, ahead}
use Rattle.planner.specs.Written.{solve_words}
use Rattle.headers.proofs.Figured.{sizes}

-- ---- any method

-- The header's plan is that of an outline over m edges, whose regions begin at `starts`.
pub record Outlined (h : Header) (m : ℕ) (starts : List ℕ) (o : Outline) : Type 0 where
  pub near : All (λ x. x < 2 ^ 19) (env_of h.vertices m starts)
  pub is : instructions_of h ≡ instructions (address starts) far h.vertices m h.source o start

-- Room for the plan's words after its header word.
plan_room : (h : Header) → Accepted h → (plan : List ℕ) → length_of h ≤ length plan → RoomAt (drop 1 (plan_of h)) plan 1
unfolding plan_of
plan_room h a plan room =
    record {
      small = all_map Fits encode (λ w. w < 2 ^ 64) encode_small (instructions_of h) (fits_plan h a);
      fits = omega (arith, length_plan h a);
    }

module _ {h : Header} {m : ℕ} {starts : List ℕ} {o : Outline} (p : Outlined h m starts o) (a : Accepted h)
    (lines : List ℕ) (rows : SameRows h.vertices (env_of h.vertices m starts) lines o) where
  pub may_write : (plan : List ℕ) → length_of h ≤ length plan
      → Writable h.vertices (env_of h.vertices m starts) lines h.source plan 1
  unfolding plan_of
  may_write plan room =
      Tabled.may_write h.vertices m h.source starts lines o rows
      (omega (arith, a.vertices_few)) p.near (rw p.is at (plan_room h a plan room))

  pub was_written : {plan after : List ℕ} {next : ℕ}
      → Wrote (lines_words h.vertices (env_of h.vertices m starts) lines h.source) plan after 1 next
      → Wrote (drop 1 (plan_of h)) plan after 1 next
  unfolding plan_of
  was_written w = rw p.is (Tabled.was_written h.vertices m h.source starts lines o rows w)

-- ---- a plan in two parts, one outline and then another

module _ {h : Header} {m : ℕ} {starts : List ℕ} (first rest : Outline) (p : Outlined h m starts (joined first rest)) (a : Accepted h) where
  abbrev words : Outline → List ℕ
  words o = map encode (instructions (address starts) far h.vertices m h.source o start)

  parts : words first ++ (words rest ++ []) ≡ drop 1 (plan_of h)
  unfolding plan_of
  parts =
      rw (p.is, instructions_joined (address starts) far h.vertices m h.source start first rest, append-nil, map-append)

  module _ (plan : List ℕ) (room : length_of h ≤ length plan) where
    pub first_room : RoomAt (words first) plan 1
    first_room = ahead (nothing plan 1) (words first) (words rest ++ []) (drop 1 (plan_of h)) parts (plan_room h a plan room)

    module _ {mid : List ℕ} {next : ℕ} (w : Wrote (words first) plan mid 1 next) where
      pub rest_room : RoomAt (words rest) mid next
      rest_room = ahead w (words rest) [] (drop 1 (plan_of h)) parts (plan_room h a plan room)

      pub all_written : {after : List ℕ} {end : ℕ} → Wrote (words rest) mid after next end → Wrote (drop 1 (plan_of h)) plan after 1 end
      all_written {after} {end} q = subst (λ ws. Wrote ws plan after 1 end) parts (rw append-nil (then w q))

      -- By lines that have the rows of the rest.
      module _ (lines : List ℕ) (rows : SameRows h.vertices (env_of h.vertices m starts) lines rest) where
        pub rest_may_write : Writable h.vertices (env_of h.vertices m starts) lines h.source mid next
        rest_may_write =
            Tabled.may_write h.vertices m h.source starts lines rest rows (omega (arith, a.vertices_few)) p.near rest_room

        pub rest_was_written : {after : List ℕ} {end : ℕ}
            → Wrote (lines_words h.vertices (env_of h.vertices m starts) lines h.source) mid after next end
            → Wrote (drop 1 (plan_of h)) plan after 1 end
        rest_was_written q = all_written (Tabled.was_written h.vertices m h.source starts lines rest rows q)

-- Method 1's opening, passes and check.
module _ (h : Header) (a : Accepted h) (lines : List ℕ)
    (rows : SameRows h.vertices (env_of h.vertices h.edges (Method1.starts h.vertices h.edges)) lines Method1.solve) where
  pub may_solve : {plan : List ℕ} → RoomAt (solve_words h) plan 1
      → Writable h.vertices (env_of h.vertices h.edges (Method1.starts h.vertices h.edges)) lines h.source plan 1
  unfolding solve_words
  may_solve room =
      let s = sizes h a in
      Tabled.may_write h.vertices h.edges h.source _ lines Method1.solve rows (omega (arith, a.vertices_few)) (omega arith) room

  pub was_solved : {plan after : List ℕ} {next : ℕ}
      → Wrote (lines_words h.vertices (env_of h.vertices h.edges (Method1.starts h.vertices h.edges)) lines h.source) plan after 1 next
      → Wrote (solve_words h) plan after 1 next
  unfolding solve_words
  was_solved w = Tabled.was_written h.vertices h.edges h.source _ lines Method1.solve rows w

-- ---- each method

module _ (h : Header) (a : Accepted h) where
  pub outlined1 : h.method ≡ 1 → Outlined h h.edges (Method1.starts h.vertices h.edges) Method1.outline
  unfolding Method1.plan
  outlined1 e = let s = sizes h a in record { near = omega arith; is = instructions_one h e }

  pub outlined2 : h.method ≡ 2 → Outlined h 0 (Method2.starts h.vertices) Method2.outline
  unfolding Method2.plan
  outlined2 e = let s = sizes h a in record { near = omega arith; is = instructions_two h e }

  pub outlined3 : h.method ≡ 3 → Outlined h h.edges (Method3.starts h.vertices h.edges) Method3.outline
  unfolding Method3.plan
  outlined3 e = let s = sizes h a in record { near = omega arith; is = instructions_three h e }

  -- Its source is 0.
  pub outlined4 : h.method ≡ 4 → Outlined h h.edges (Method4.starts h.vertices h.edges) Method4.outline
  unfolding Method4.plan
  outlined4 e =
      let s = sizes h a in
      let source0 : h.source ≡ 0 = omega (arith, rw e at a.source_there) in
      record { near = omega arith; is = instructions_four h e ∙ rw source0 }

  pub outlined5 : h.method ≡ 5 → Outlined h h.edges (Method5.starts h.vertices h.edges) Method5.outline
  unfolding Method5.plan
  outlined5 e = let s = sizes h a in record { near = omega arith; is = instructions_five h e }
