-- Room for every method, within 32 vertices and 128 edges: four inequalities, and that FAR and the greatest weight meet them.
-- Rests on graph's Floyd, for what is doubled.
use Prim.Native.Nat.{ℕ, suc, ◌+◌, ◌-◌, ◌*◌, ◌^◌, ◌<◌, ◌≤◌}
use native.Mathlib.Nat.{mul-le-mul, mul-le-mul_right}
use native.Mathlib.Omega.{arith}
use lib.Dec.{lit<}
use lib.IntN.{nat_abs}
use Rattle.plans.specs.Limits.{far, most_weight}
use Rattle.graph.specs.Floyd.{doubled}
use Rattle.graph.proofs.Floyd.{doubled_most}
use Rattle.methods.specs.Method1 as Method1
use Rattle.methods.specs.Method2 as Method2
use Rattle.methods.specs.Method3 as Method3
use Rattle.methods.specs.Method4 as Method4
use Rattle.methods.specs.Method4.{high}

-- 31 passes over 128 edges and one checked edge are fewer than 4096 edges; method 2 adds far to far, and method 4 HIGH to HIGH, which 32 stages
-- do not bring near far.
pub record Wide (far limit : ℕ) : Type 0 where
  pub deep : 4096 * limit < far
  pub fits : far + far < 2 ^ 63
  pub apart : far + doubled limit 32 < high far
  pub high_fits : high far + high far < 2 ^ 63

-- Doubled five times a number is 32 or more.
thirty_two : (x : ℕ) → 0 < x → 32 ≤ doubled x 5
unfolding doubled
thirty_two x some = omega arith

module _ (far limit : ℕ) (wide : Wide far limit) (n : ℕ) (few : n ≤ 32) where
  pub room1 : (m : ℕ) → m ≤ 128 → Method1.Room far limit n m
  room1 m l =
      let relaxed : (n - 1) * m ≤ 3968 = mul-le-mul {n₁ = n - 1} {m₁ = m} {n₂ = 31} {m₂ = 128} (omega arith) l in
      let most : suc ((n - 1) * m) * limit ≤ 4096 * limit = mul-le-mul_right limit (omega arith) in
      record { deep = omega (arith, wide.deep); fits = omega (arith, wide.deep, wide.fits) }

  few_edges : n * limit ≤ 4096 * limit
  few_edges = mul-le-mul_right limit (omega arith)

  pub room2 : Method2.Room far limit n
  room2 = record { deep = omega (arith, wide.deep, few_edges); fits = wide.fits }

  pub room3 : Method3.Room far limit n
  room3 = record { deep = omega (arith, wide.deep, few_edges); fits = omega (arith, wide.deep, wide.fits) }

  pub room4 : Method4.Room far limit n
  room4 =
      let short : (n - 1) * limit ≤ 4096 * limit = mul-le-mul_right limit (omega arith) in
      let most = doubled_most limit n 32 few in
      record {
        tables = record { near = omega (arith, wide.deep); apart = omega (arith, wide.apart) };
        counts = omega (arith, doubled_most far 5 20 (omega arith), thirty_two far (omega (arith, wide.deep)));
        fits = wide.high_fits;
      }

-- Those of ask 7: 4,096 times 100,000,000 is 409,600,000,000.
pub wide : Wide (nat_abs far) most_weight
unfolding doubled
wide = record { deep = lit< tt; fits = lit< tt; apart = lit< tt; high_fits = lit< tt }
