-- What methods over private edges share on named stores: the sums that they form, their instructions as steps, and the edges that intake has laid.
-- Rests on stores, names, bits and outlines.
use mathlib.Core.Path.{◌≡◌}
use mathlib.Core.Logic.{◌⊎◌, inl, inr, ◌≢◌}
use mathlib.Core.List.{List}
use Prim.Native.Nat.{ℕ, ◌+◌, ◌^◌, ◌<◌, ◌≤◌}
use native.Mathlib.Omega.{arith}
use lib.IntN.{ℤ, pos, nat_abs, ◌+ℤ◌}
use lib.Signed.{◌<ℤ◌}
use Rattle.machine.specs.Instruction.{Instruction}
use Rattle.machine.specs.Effect.{wrap_add}
use Rattle.plans.specs.Outline.{Outline, joined, start, instructions}
use Rattle.plans.proofs.Outlines.{instructions_joined}
use Rattle.graph.specs.Walk.{Edge, Below}
use Rattle.graph.specs.BellmanFord.{network}
use Rattle.graph.proofs.Int.{arithℤ, abs_add, le_abs}
use Rattle.methods.specs.Edges.{Limited}
use Rattle.methods.proofs.Steps.{Claim, Kind, Runs, runs_then}
use Rattle.methods.proofs.Stores.{numbers}
use Rattle.methods.proofs.Names.{Name, same, pair, Store}
use Rattle.methods.proofs.Bits.{sum_exact}

-- ---- sums and steps

module _ (far limit : ℕ) where
  -- A distance that is far, or near enough for one more edge.
  abbrev pub Near : ℤ → Type 0
  Near x = (x ≡ pos far) ⊎ (nat_abs x + limit < far)

  -- A distance and a weight.
  abbrev pub Sum : ℤ → ℤ → Type 0
  Sum x w = Near x × (nat_abs w ≤ limit)

  -- The instructions as steps on named stores.
  abbrev pub steps : Kind (Instruction Name) Store
  steps = numbers same Sum

  pub near_exact : far + limit < 2 ^ 63 → (x w : ℤ) → Sum x w → wrap_add x w ≡ x +ℤ w
  near_exact fits x w (inl e, l) = sum_exact x w (rw e (omega arith))
  near_exact fits x w (inr h, l) = sum_exact x w (omega arith)

  pub below_far : (x w : ℤ) → Sum x w → x ≢ pos far → (x +ℤ w) <ℤ pos far
  below_far x w (inl e, l) ne = absurd (ne e)
  below_far x w (inr h, l) ne = omega (arithℤ, le_abs (x +ℤ w), abs_add x w)

  -- One outline, and then another.
  module _ (n m source : ℕ) where
    abbrev by_names : Outline → List (Instruction Name)
    by_names o = instructions pair (pos far) n m source o start

    pub joined_runs : (p q : Outline) (M R : Claim Store) (s : Store) → Runs steps (by_names p) M s
        → ((t : Store) → M t → Runs steps (by_names q) R t) → Runs steps (by_names (joined p q)) R s
    joined_runs p q M R s h then =
        rw (instructions_joined pair (pos far) n m source start p q) (runs_then steps (by_names p) (by_names q) M R s h then)

-- ---- the edges

-- By the names of their cells. A record type with no name: a proof for a store is, by computation, one for the store after other writes.
abbrev pub EdgesAt : (from to weight : ℕ → Name) (edge : ℕ → Edge) (m : ℕ) → Store → Type 0
EdgesAt from to weight edge m s =
    record {
      from : (i : ℕ) → i < m → s (from i) ≡ pos (edge i).from;
      to : (i : ℕ) → i < m → s (to i) ≡ pos (edge i).to;
      weight : (i : ℕ) → i < m → s (weight i) ≡ (edge i).weight;
    }

pub ends_below : {limit : ℕ} (edge : ℕ → Edge) (n m : ℕ) → Limited limit edge n m → Below (network edge m) n
ends_below edge n m limited e (i, l, q) = rw q (limited.from_below i l, limited.to_below i l)
