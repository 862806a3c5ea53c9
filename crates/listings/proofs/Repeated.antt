-- The loop that writes a line for each of a row of things: before thing k, the lines of those before it are written.
-- Rests on text's Written.
use mathlib.Core.Path.{sym, subst}
use mathlib.Core.List.{List}
use Prim.Native.Nat.{ℕ, suc, ◌+◌, ◌*◌}
use native.Mathlib.Nat.{mul-suc}
use native.Mathlib.Numerals.{add-one}
use native.Mathlib.Omega.{arith}
use Rattle.plans.specs.Blocks.{flat}
use Rattle.text.specs.Appended.{Appended}
use Rattle.text.specs.declared.Text.{Text}
use Rattle.text.proofs.Written.{then, nothing, wider}

-- At most `each` bytes for each.
module _ (each : ℕ) (f : ℕ → List ℕ) where
  pub start : (a : Text) → Appended (each * 0) (flat 0 f) a a
  unfolding flat
  start a = wider (nothing a) (each * 0) (omega arith)

  pub again : {k : ℕ} {a b c : Text} → Appended (each * k) (flat k f) a b → Appended each (f k) b c → Appended (each * (k + 1)) (flat (k + 1) f) a c
  unfolding flat
  again {k} {a} {b} {c} p q =
      subst (λ (j : ℕ). Appended (each * j) (flat j f) a c) (sym (add-one k)) (wider (then p q) (each * suc k) (omega (arith, mul-suc each k)))
