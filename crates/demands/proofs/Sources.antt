-- A method with one source: its one row of distances, and negative cycles from it. And a method with every vertex as a source.
-- Rests on graph's Parents.
use mathlib.Core.Path.{◌≡◌, refl, ap, subst, ◌∙◌}
use mathlib.Core.Logic.{◌↔◌, ◌≢◌}
use mathlib.Core.List.{[], ◌∷◌}
use Prim.Native.Nat.{ℕ, zero, suc, ◌+◌, ◌*◌, ◌/◌, ◌%◌, ◌<◌}
use native.Mathlib.Decide.{dec_le}
use native.Mathlib.Nat.{mul-le-mul_right, div-add-mod', mod-lt}
use native.Mathlib.Omega.{arith}
use lib.IntN.{ℤ}
use lib.ListN.{length, get_or}
use Rattle.plans.specs.declared.Header.{Header}
use Rattle.plans.specs.Plan.{Accepted, parents, results_of}
use Rattle.plans.proofs.Blocks.{ones_length, ones_at}
use Rattle.plans.proofs.Headers.{each_method}
use Rattle.graph.specs.Walk.{Network, NegativeCycle}
use Rattle.graph.specs.Shortest.{Distances}
use Rattle.graph.specs.Floyd.{Anywhere}
use Rattle.graph.proofs.Parents.{distances_carried}
use Rattle.demands.specs.Network.{every_vertex, sources_of, CycleFrom}

module _ (net : Network) (source : ℕ) where
  at_row : (r : ℕ) → r < 1 → NegativeCycle net (get_or (source ∷ []) r 0) → NegativeCycle net source
  at_row zero l z = z
  at_row (suc r) l z = let no : ⊥ = omega arith in absurd no

  pub only_source : NegativeCycle net source ↔ CycleFrom net (source ∷ [])
  only_source = (λ z. record { row = 0; there = omega arith; cycle = z }, λ c. at_row c.row c.there c.cycle)

  -- given i is distance i.
  pub only_row : (far : ℤ) (n : ℕ) (dist given : ℕ → ℤ) → ((v : ℕ) → given v ≡ dist v) → Distances net far n source dist
      → (r : ℕ) → r < 1 → Distances net far n (get_or (source ∷ []) r 0) (λ v. given (r * n + v))
  only_row far n dist given same d zero l =
      distances_carried net far n source dist _ (λ v l. let e : 0 * n + v ≡ v = omega arith in ap given e ∙ same v) d
  only_row far n dist given same d (suc r) l = let no : ⊥ = omega arith in absurd no

-- That row alone.
pub first_row : (net : Network) (far : ℤ) (source n : ℕ) (given : ℕ → ℤ)
    → ((r : ℕ) → r < length (source ∷ []) → Distances net far n (get_or (source ∷ []) r 0) (λ v. given (r * n + v))) → Distances net far n source given
first_row net far source n given rows =
    distances_carried net far n source _ given (λ v l. let e : v ≡ 0 * n + v = omega arith in ap given e) (rows 0 (omega arith))

-- What holds of each vertex in each row holds of every place.
pub row_by_row : (P : ℕ → Type 0) (rows n : ℕ) → 0 < n → ((r v : ℕ) → r < rows → v < n → P (r * n + v)) → (i : ℕ) → i < rows * n → P i
row_by_row P rows n some each i l =
    let split = div-add-mod' i n in
    elim (dec_le rows (i / n)) [
      | yes h ↦ absurd (omega (arith, mul-le-mul_right n h))
      | no h ↦ subst P split (each (i / n) (i % n) (omega arith) (mod-lt i some))
    ]

-- A method that gives parents has the header's source.
pub single : (h : Header) → Accepted h → (results_of h parents).count ≢ 0 → sources_of h ≡ h.source ∷ []
unfolding sources_of results_of
single =
    each_method (λ h. (results_of h parents).count ≢ 0 → sources_of h ≡ h.source ∷ [])
    (λ n m source a given. refl)
    (λ n source a given. refl)
    (λ n m source a given. refl)
    (λ n m a given. absurd (given refl))
    (λ n m source a given. refl)

-- ---- every vertex

pub every : (h : Header) → h.method ≡ 4 → sources_of h ≡ every_vertex h.vertices
unfolding sources_of
every h e = rw e

pub vertex_at : (n r : ℕ) → r < n → get_or (every_vertex n) r 0 ≡ r
vertex_at n r l = ones_at (λ v. v) n 0 r l

pub vertices_long : (n : ℕ) → length (every_vertex n) ≡ n
vertices_long n = ones_length (λ v. v) n

pub any_source : (net : Network) (n : ℕ) → Anywhere net n ↔ CycleFrom net (every_vertex n)
any_source net n = (
  λ (s, l, z). record { row = s; there = omega (arith, vertices_long n); cycle = rw (vertex_at n s l) z },
  λ c.
      let l : c.row < n = omega (arith, vertices_long n, c.there) in
      (c.row, l, subst (NegativeCycle net) (vertex_at n c.row l) c.cycle),
)

-- ---- every method's

pub source_inside : (h : Header) → Accepted h → (r : ℕ) → r < length (sources_of h) → get_or (sources_of h) r 0 < h.vertices
unfolding sources_of
source_inside =
    each_method (λ h. (r : ℕ) → r < length (sources_of h) → get_or (sources_of h) r 0 < h.vertices)
    (λ n m source a. of_one n source a.source_there)
    (λ n source a. of_one n source a.source_there)
    (λ n m source a. of_one n source a.source_there)
    (λ n m a r l. let inside : r < n = omega (arith, vertices_long n) in rw (vertex_at n r inside) inside)
    (λ n m source a. of_one n source a.source_there)
  where
    of_one : (n source : ℕ) → source < n → (r : ℕ) → r < 1 → get_or (source ∷ []) r 0 < n
    of_one n source h zero l = h
    of_one n source h (suc r) l = let no : ⊥ = omega arith in absurd no
