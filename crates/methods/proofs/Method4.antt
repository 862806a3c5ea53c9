-- Method 4's plan on a bank that intake has laid leaves the least totals from every vertex, and the verdict.
-- Rests on Floyd-Warshall, of this crate and of graph, and on banks.
use mathlib.Core.Path.{◌≡◌, ◌∙◌}
use mathlib.Core.Logic.Iff
use mathlib.Core.List.{List}
use Prim.Native.Nat.{ℕ, ◌+◌, ◌*◌, ◌<◌}
use native.Mathlib.Omega.{arith}
use lib.Arith.{digits_lt}
use lib.IntN.{ℤ, pos}
use Rattle.machine.specs.Effect.{bit, cell_at}
use Rattle.plans.specs.Method4 as Method4
use Rattle.plans.specs.Method4.{D, X, starts, cell_count, outline}
use Rattle.plans.proofs.Addresses.{Kept}
use Rattle.graph.specs.Walk.{Edge}
use Rattle.graph.specs.BellmanFord.{network}
use Rattle.graph.specs.Floyd.{Table, floyd, negative, marked}
use Rattle.graph.proofs.Parents.{distances_carried}
use Rattle.graph.proofs.Floyd as Floyd
use Rattle.methods.specs.Bank.{perform_all, Summed}
use Rattle.methods.specs.Edges.{Laid}
use Rattle.methods.specs.Method4.{high, Room, inputs, entry, verdict, plan, Solved}
use Rattle.methods.proofs.Sums.{summed_map}
use Rattle.methods.proofs.Banks.{Layout, Ended, on_bank}
use Rattle.methods.proofs.Names.{Name, same, pair, regions}
use Rattle.methods.proofs.Bits.{bit_one, bit_zero}
use Rattle.methods.proofs.OverEdges.{ends_below}
use Rattle.methods.proofs.Floyd.{Sum, exact, bounds, End, plan_runs}

abbrev pub layout : (n m : ℕ) → Layout Name same
layout n m = regions (starts n m) (cell_count n m) (omega arith)

-- A call of `search` takes so many steps only: one for each of the outline's first parts.
pub kept : (far : ℤ) (n m : ℕ) → Kept (layout n m).Good (λ z. Unit {0}) pair far n m outline
kept far n m =
    (search arith, (search arith, (search arith, (search arith, (search arith, (search arith, (search arith, (search arith, (search arith, (search arith, (search arith, search arith)))))))))))

module _ (far limit : ℕ) (edge : ℕ → Edge) (n m : ℕ) (cells : List ℤ) (room : Room far limit n)
    (laid : Laid (inputs n m) limit edge n m 0 cells) where
  abbrev final : Table
  final = floyd edge (pos (high far)) n m

  abbrev left : List ℤ
  left = perform_all (plan far n m) cells

  ran : Summed (Sum far limit n) (plan far n m) cells × Ended same (layout n m) cells laid.enough (End far limit edge n m room laid.limited) left
  unfolding Method4.plan
  ran =
      on_bank same (layout n m) cells laid.enough (Sum far limit n) (End far limit edge n m room laid.limited) pair (pos far) n m 0 outline
      (kept (pos far) n m)
      (plan_runs far limit edge n m room laid.limited _ (record { from = laid.from; to = laid.to; weight = laid.weight }))

  entries : (i j : ℕ) → i < n → j < n → cell_at left (entry n m (i * n + j)) ≡ marked (pos far) final i j
  entries i j l q = ran.1.mirrored.cell (D (i * n + j)) (omega (arith, digits_lt l q)) ∙ ran.1.meets.1 i j l q

  flag : cell_at left (verdict n m) ≡ bit (negative n final)
  flag = ran.1.mirrored.cell (X 5) (omega arith) ∙ ran.1.meets.0

  pub method4 : Solved far limit edge n m cells left
  method4 =
      let below = ends_below edge n m laid.limited in
      let weights = laid.limited.weight_most in
      let cycle = Floyd.negative_cycle edge m n limit far (high far) below weights room.tables in
      let none = Floyd.no_cycle edge m n limit far (high far) below weights room.tables in
      record {
        cycle = rw flag (Iff.trans (bit_one (negative n final)) cycle);
        none = rw flag (Iff.trans (bit_zero (negative n final)) none);
        distances = λ c i l.
            distances_carried (network edge m) (pos far) n i _ _ (λ j q. entries i j l q)
            (Floyd.distances edge m n limit far (high far) below weights room.tables (none.1 c) i l);
        rest = λ k l. ran.1.mirrored.rest k (omega arith);
        long = ran.1.mirrored.long;
        exact = summed_map (Sum far limit n) _ (exact far limit n room) (plan far n m) cells ran.0;
        bounded = summed_map (Sum far limit n) _ (bounds far limit n laid.source_below) (plan far n m) cells ran.0;
      }
