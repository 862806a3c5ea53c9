-- How large the figures of plans get within the limits: at most 32 vertices and 128 edges.
-- Rests on the toolchain's library alone.
use Prim.Native.Nat.{ℕ, ◌*◌, ◌≤◌}
use native.Mathlib.Nat.{mul-le-mul}

module _ (n : ℕ) (few : n ≤ 32) where
  pub square_le : n * n ≤ 1024
  square_le = mul-le-mul {n₁ = n} {m₁ = n} {n₂ = 32} {m₂ = 32} few few

  pub cube_le : n * n * n ≤ 32768
  cube_le = mul-le-mul {n₁ = n * n} {m₁ = n} {n₂ = 1024} {m₂ = 32} square_le few

pub edges_le : (m : ℕ) → m ≤ 128 → (x most : ℕ) → x ≤ most → m * x ≤ 128 * most
edges_le m few x most l = mul-le-mul {n₁ = m} {m₁ = x} {n₂ = 128} {m₂ = most} few l
