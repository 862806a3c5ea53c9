-- What follows from a header, and how large the parts of a plan's length and rounds get. Rests on the laws of plans.
use mathlib.Core.Path.{◌≡◌, refl}
use mathlib.Core.Option.{Option, none, some}
use Prim.Native.Nat.{ℕ, ◌+◌, ◌-◌, ◌*◌, ◌≤◌}
use native.Mathlib.Nat.{mul-le-mul}
use native.Mathlib.Omega.{arith}
use Rattle.plans.specs.declared.Header.{Header}
use Rattle.plans.specs.Plan.{Accepted, verdict_cell}
use Rattle.plans.proofs.Bounds.{square_le, cube_le, edges_le}
use Rattle.plans.proofs.EachKind.{each_kind}
use Rattle.plans.proofs.Headers.{each_method, edges_small}
use Rattle.answers.specs.Refusal.{option_of}
use Rattle.headers.specs.declared.Figures.{Figures}
use Rattle.headers.specs.Figures.{in_code, figures_of, Figured}

-- The last method.
pub method_five : (h : Header) → Accepted h → (h.method ≡ 1 → ⊥) → (h.method ≡ 2 → ⊥) → (h.method ≡ 3 → ⊥) → (h.method ≡ 4 → ⊥)
    → h.method ≡ 5
method_five =
    each_method (λ h. (h.method ≡ 1 → ⊥) → (h.method ≡ 2 → ⊥) → (h.method ≡ 3 → ⊥) → (h.method ≡ 4 → ⊥) → h.method ≡ 5)
    (λ n m source a one two three four. absurd (one refl))
    (λ n source a one two three four. absurd (two refl))
    (λ n m source a one two three four. absurd (three refl))
    (λ n m a one two three four. absurd (four refl))
    (λ n m source a one two three four. refl)

-- ---- the length's parts

-- Those of the lengths, of the rounds and of the cells, for n vertices and m edges.
pub record Sizes (n m : ℕ) : Type 0 where
  pub few : n ≤ 32
  pub edges_few : m ≤ 128
  pub square : n * n ≤ 1024
  pub cube : n * n * n ≤ 32768
  pub entries : n * m ≤ 4096
  pub words1 : m * (8 * (n * n) + 3 * n - 1) ≤ 1060736
  pub rounds1 : m * (n * n + 9 * n - 9) ≤ 166784
  pub words3 : m * (3 * (n * n) + 10 * n - 1) ≤ 434048
  pub words4 : m * (3 * (n * n) + 6 * n) ≤ 417792
  pub words5 : m * (8 * (n * n) + 5 * n) ≤ 1069056
  pub turns5 : (n - 1) * (n + 9) ≤ 1271
  pub rounds5 : m * ((n - 1) * (n + 9)) ≤ 162688

pub sizes : (h : Header) → Accepted h → Sizes h.vertices h.edges
sizes h a =
    let few = a.vertices_few in
    let edges_few = edges_small h a in
    let square = square_le h.vertices few in
    let turns5 = mul-le-mul {n₁ = h.vertices - 1} {m₁ = h.vertices + 9} {n₂ = 31} {m₂ = 41} (omega arith) (omega arith) in
    record {
      few = few;
      edges_few = edges_few;
      square = square;
      cube = cube_le h.vertices few;
      entries = mul-le-mul {n₁ = h.vertices} {m₁ = h.edges} {n₂ = 32} {m₂ = 128} few edges_few;
      words1 = edges_le h.edges edges_few _ 8287 (omega arith);
      rounds1 = edges_le h.edges edges_few _ 1303 (omega arith);
      words3 = edges_le h.edges edges_few _ 3391 (omega arith);
      words4 = edges_le h.edges edges_few _ 3264 (omega arith);
      words5 = edges_le h.edges edges_few _ 8352 (omega arith);
      turns5 = turns5;
      rounds5 = edges_le h.edges edges_few _ 1271 turns5;
    }

-- ---- the figures, one by one

found : (o : Option ℕ) → option_of (in_code o) ≡ o
found none = refl
found (some cell) = refl

pub figured : (h : Header) (f : Figures) → f ≡ figures_of h → Figured h f
unfolding figures_of
figured h f e =
    rw e
    (record {
      words_are = refl;
      cells_are = refl;
      length_is = refl;
      verdict_is = found (verdict_cell h);
      results_are = each_kind _ refl refl refl;
    })
