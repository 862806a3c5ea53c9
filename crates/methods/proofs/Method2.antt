-- Method 2's plan on a bank that intake has laid leaves least totals and their parents.
-- Rests on turns, banks and Dijkstra.
use mathlib.Core.Path.{◌≡◌, ◌∙◌}
use mathlib.Core.Logic.{inl, inr}
use mathlib.Core.List.{List}
use Prim.Native.Nat.{ℕ, ◌<◌, ◌≤◌}
use native.Mathlib.Nat.{mul-le-mul_right}
use native.Mathlib.Omega.{arith}
use lib.IntN.{ℤ, pos}
use Rattle.machine.specs.Effect.{cell_at}
use Rattle.plans.specs.Method2.{D, P, starts, cell_count, outline}
use Rattle.plans.specs.Regions.{cell}
use Rattle.plans.specs.Method2 as Method2
use Rattle.plans.proofs.Addresses.{Kept}
use Rattle.graph.specs.Dijkstra.{table_network, from_vertex, State, turns}
use Rattle.graph.proofs.Parents.{carried}
use Rattle.graph.proofs.Dijkstra.{totals_below, dijkstra}
use Rattle.methods.specs.Bank.{perform_all, Summed}
use Rattle.methods.specs.Method2.{Room, Laid, Solved, plan}
use Rattle.methods.proofs.Sums.{summed_map}
use Rattle.methods.proofs.Banks.{Layout, Ended, on_bank}
use Rattle.methods.proofs.Names.{Name, same, pair, Store, regions}
use Rattle.methods.proofs.Bits.{sum_exact}
use Rattle.methods.proofs.Turns.{Sum, Given, Holds, plan_runs}

abbrev pub layout : (n : ℕ) → Layout Name same
layout n = regions (starts n) (cell_count n) (omega arith)

pub kept : (far : ℤ) (n : ℕ) → Kept (layout n).Good (λ z. Unit {0}) pair far n 0 outline
kept far n = search arith

module _ (far limit : ℕ) (table : ℕ → ℕ → ℕ) (n source : ℕ) (cells : List ℤ) (room : Room far limit n)
    (laid : Laid far limit table n source cells) where
  abbrev final : State
  final = turns far table n source n

  abbrev left : List ℤ
  left = perform_all (plan far n source) cells

  abbrev End : Store → Type 0
  End = Holds far table n final

  most : (u j : ℕ) → u < n → j < n → table u j ≤ far
  most u j lu lj =
      elim (laid.entry_most u j lu lj) [
        | inl h ↦ omega (arith, room.deep, mul-le-mul_right {m = 1} {n = n} limit (omega arith))
        | inr e ↦ omega arith
      ]

  given : Given table n (λ a. cell_at cells ((layout n).place a))
  given = laid.entry

  ran : Summed (Sum far) (plan far n source) cells × Ended same (layout n) cells laid.enough End left
  unfolding Method2.plan
  ran =
      on_bank same (layout n) cells laid.enough (Sum far) End pair (pos far) n 0 source outline (kept (pos far) n)
      (plan_runs far table n source most room.fits (totals_below far limit n source table laid.entry_most room.deep) _ given)

  dist : (v : ℕ) → v < n → cell_at left (cell (starts n) (D v)) ≡ pos (final.dist v)
  dist v l = ran.1.mirrored.cell (D v) (omega arith) ∙ ran.1.meets.dist v l

  parent : (v : ℕ) → v < n → cell_at left (cell (starts n) (P v)) ≡ final.parent v
  parent v l = ran.1.mirrored.cell (P v) (omega arith) ∙ ran.1.meets.parent v l

  pub method2 : Solved far table n source cells left
  method2 =
      record {
        shortest =
            carried (table_network far n table) (pos far) n source _ _ dist from_vertex _ _ (λ e h. (h.0, h.1))
            laid.source_below parent (dijkstra far limit n source table laid.entry_most room.deep);
        rest = λ k l. ran.1.mirrored.rest k (omega arith);
        long = ran.1.mirrored.long;
        exact = summed_map (Sum far) _ (λ x w h. sum_exact x w h.0) (plan far n source) cells ran.0;
        below_far = summed_map (Sum far) _ (λ x w h. h.1) (plan far n source) cells ran.0;
      }
