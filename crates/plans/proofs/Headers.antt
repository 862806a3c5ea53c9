-- Accepted headers, method by method: what holds of each method's headers holds of every accepted one. And how long a header's plan is.
-- Rests on the definitions alone.
use mathlib.Core.Path.{◌≡◌}
use mathlib.Core.List.{List, [], ◌∷◌}
use Prim.Native.Nat.{ℕ, zero, suc, ◌+◌, ◌^◌, ◌<◌, ◌≤◌}
use native.Mathlib.Omega.{arith}
use borrow.Author.Tests.{eqb-true}
use lib.Dec.{T, eqb}
use lib.ListN.{length, length-map}
use Rattle.lists.proofs.Test.{by_test}
use Rattle.machine.specs.Instruction.{All}
use Rattle.machine.specs.Word.{encode}
use Rattle.plans.specs.declared.Header.{Header}
use Rattle.plans.specs.Limits.{far, is_in, found, methods, by_method}
use Rattle.plans.specs.Regions.{address}
use Rattle.plans.specs.Method1 as Method1
use Rattle.plans.specs.Method2 as Method2
use Rattle.plans.specs.Method3 as Method3
use Rattle.plans.specs.Method4 as Method4
use Rattle.plans.specs.Method5 as Method5
use Rattle.plans.specs.Plan.{Accepted, instructions_of, plan_of}

-- ---- by method

-- What holds of each of some numbers holds of one of them.
module _ (Q : ℕ → Type 0) where
  of_one : (xs : List ℕ) → All Q xs → (k : ℕ) → T (is_in xs k) → Q k
  of_one [] all k t = absurd t
  of_one (x ∷ xs) all k t =
      by_test (eqb k x) (λ e. rw (eqb-true k x e) all.0) (λ e. of_one xs all.1 k (rw e at t))

-- What holds of each of a row, and of the other, holds of what a method has of it.
module _ {X : Type 0} (Q : X → Type 0) where
  found_one : (xs : List ℕ) (row : List X) → All Q row → (k : ℕ) (other : X) → Q other → Q (found xs k other row)
  found_one [] row all k other q = q
  found_one (x ∷ xs) [] all k other q = q
  found_one (x ∷ xs) (y ∷ row) all k other q =
      by_test (eqb k x) (λ e. rw e all.0) (λ e. rw e (found_one xs row all.1 k other q))

  pub of_row : (row : List X) → All Q row → (method : ℕ) (other : X) → Q other → Q (by_method method other row)
  of_row = found_one methods

abbrev pub header : (method vertices edges source : ℕ) → Header
header method vertices edges source =
    record { method = method; vertices = vertices; edges = edges; source = source }

module _ (P : Header → Type 0)
    (one : (n m source : ℕ) → Accepted (header 1 n m source) → P (header 1 n m source))
    (two : (n source : ℕ) → Accepted (header 2 n 0 source) → P (header 2 n 0 source))
    (three : (n m source : ℕ) → Accepted (header 3 n m source) → P (header 3 n m source))
    (four : (n m : ℕ) → Accepted (header 4 n m 0) → P (header 4 n m 0))
    (five : (n m source : ℕ) → Accepted (header 5 n m source) → P (header 5 n m source)) where
  -- Method 2 has no edges.
  at_two : (n m source : ℕ) → Accepted (header 2 n m source) → P (header 2 n m source)
  at_two n zero source a = two n source a
  at_two n (suc m) source a = let no : ⊥ = omega (arith, a.edges_few) in absurd no

  -- Method 4's source is 0.
  at_four : (n m source : ℕ) → Accepted (header 4 n m source) → P (header 4 n m source)
  at_four n m zero a = four n m a
  at_four n m (suc source) a = let no : ⊥ = omega (arith, a.source_there) in absurd no

  pub each_method : (h : Header) → Accepted h → P h
  each_method h a =
      of_one (λ method. (n m source : ℕ) → Accepted (header method n m source) → P (header method n m source)) methods
      (one, (at_two, (three, (at_four, (five, tt))))) h.method a.known h.vertices h.edges h.source a

pub edges_small : (h : Header) → Accepted h → h.edges ≤ 128
edges_small =
    each_method (λ h. h.edges ≤ 128) (λ n m source a. omega (arith, a.edges_few)) (λ n source a. omega arith)
    (λ n m source a. omega (arith, a.edges_few)) (λ n m a. omega (arith, a.edges_few)) (λ n m source a. omega (arith, a.edges_few))

-- The source is a vertex.
pub source_below : (h : Header) → Accepted h → h.source < h.vertices
source_below =
    each_method (λ h. h.source < h.vertices) (λ n m source a. a.source_there) (λ n source a. a.source_there)
    (λ n m source a. a.source_there) (λ n m a. a.vertices_some) (λ n m source a. a.source_there)

pub fields_small : (h : Header) → Accepted h
    → (h.method < 2 ^ 4) × (h.vertices < 2 ^ 20) × (h.edges < 2 ^ 20) × (h.source < 2 ^ 20)
fields_small h a =
    omega (
      arith,
      of_one (λ method. method < 2 ^ 4) methods (search arith) h.method a.known,
      a.vertices_few,
      edges_small h a,
      source_below h a,
    )

-- ---- the plan's instructions and words

module _ (h : Header) where
  pub instructions_one : h.method ≡ 1
      → instructions_of h
      ≡ Method1.plan (address (Method1.starts h.vertices h.edges)) far h.vertices h.edges h.source
  unfolding instructions_of
  instructions_one e = rw e

  pub instructions_two : h.method ≡ 2
      → instructions_of h ≡ Method2.plan (address (Method2.starts h.vertices)) far h.vertices h.source
  unfolding instructions_of
  instructions_two e = rw e

  pub instructions_three : h.method ≡ 3
      → instructions_of h
      ≡ Method3.plan (address (Method3.starts h.vertices h.edges)) far h.vertices h.edges h.source
  unfolding instructions_of
  instructions_three e = rw e

  pub instructions_four : h.method ≡ 4
      → instructions_of h ≡ Method4.plan (address (Method4.starts h.vertices h.edges)) far h.vertices h.edges
  unfolding instructions_of
  instructions_four e = rw e

  pub instructions_five : h.method ≡ 5
      → instructions_of h
      ≡ Method5.plan (address (Method5.starts h.vertices h.edges)) far h.vertices h.edges h.source
  unfolding instructions_of
  instructions_five e = rw e

  pub plan_length_is : length (plan_of h) ≡ length (instructions_of h) + 1
  unfolding plan_of
  plan_length_is = omega (arith, length-map (instructions_of h) encode)
