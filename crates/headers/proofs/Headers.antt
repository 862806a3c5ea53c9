-- Which refusal a header meets, by the ways out of `check_header`; a header that meets none is within the limits.
-- Rests on answers' Unmet and Meets.
use mathlib.Core.Path.{◌≡◌, refl, sym, ap, ◌∙◌}
use mathlib.Core.Logic.{◌⊎◌, inl, inr}
use mathlib.Core.Bool.{false, true}
use mathlib.Core.Option.{none, some}
use Prim.Native.Nat.{ℕ, ◌<◌, ◌≤◌}
use native.Mathlib.Omega.{arith}
use lib.Dec.{ltb, ltb→lt, leb→le}
use borrow.Author.Tests.{lt-ltb, le-ltb, le-leb, lt-leb}
use mir.Facts.{and_yes}
use Rattle.answers.specs.Refusal.{Refusal}
use Rattle.answers.specs.Refusal.{Method, Vertices, Edges, Source, need}
use Rattle.answers.proofs.Unmet.{first_none}
use Rattle.answers.proofs.Meets.{Meets, first_meets}
use Rattle.plans.specs.declared.Header.{Header}
use Rattle.plans.specs.Limits.{known_method, most_edges, source_count}
use Rattle.plans.specs.Plan.{Accepted}
use Rattle.headers.specs.declared.Method as Code
use Rattle.headers.specs.declared.Method.TheVariants.{BellmanFord, Dijkstra, Jacobi, FloydWarshall, Routed}
use Rattle.headers.specs.Method.{number_of}
use Rattle.headers.specs.Refusal.{header_tests, header_refusal}

-- A method's number is known.
pub known_number : (method : Code.Method) → known_method (number_of method) ≡ true
known_number BellmanFord = refl
known_number Dijkstra = refl
known_number Jacobi = refl
known_number FloydWarshall = refl
known_number Routed = refl

pub method_unknown : (h : Header) → known_method h.method ≡ false → some Method ≡ header_refusal h
unfolding header_refusal
method_unknown h unknown = simp unknown

module _ (h : Header) (method : Code.Method) (is : number_of method ≡ h.method) where
  known : known_method h.method ≡ true
  known = ap known_method (sym is) ∙ known_number method

  pub vertices_low : h.vertices < 1 → some Vertices ≡ header_refusal h
  unfolding header_refusal
  vertices_low a = simp (known, le-ltb 0 h.vertices (omega arith))

  pub vertices_high : 32 < h.vertices → some Vertices ≡ header_refusal h
  unfolding header_refusal
  vertices_high a = simp (known, lt-ltb 0 h.vertices (omega arith), lt-leb h.vertices 32 a)

  pub vertices_wrong : (h.vertices < 1) ⊎ ((1 ≤ h.vertices) × (32 < h.vertices)) → some Vertices ≡ header_refusal h
  vertices_wrong (inl low) = vertices_low low
  vertices_wrong (inr high) = vertices_high high.1

  module _ (v₁ : 1 ≤ h.vertices) (v₂ : h.vertices ≤ 32) (most : ℕ) (most_is : most ≡ most_edges (number_of method)) where
    pub edges_many : most < h.edges → some Edges ≡ header_refusal h
    unfolding header_refusal
    edges_many a =
        simp (
          known,
          lt-ltb 0 h.vertices v₁,
          le-leb h.vertices 32 v₂,
          lt-leb h.edges (most_edges h.method) (rw (← is, ← most_is) a),
        )

    -- count is what `source_count` answers.
    module _ (e : h.edges ≤ most) (count : ℕ) (count_is : count ≡ source_count (number_of method) h.vertices) where
      by_source : need (ltb h.source count) Source none ≡ header_refusal h
      unfolding header_refusal
      by_source =
          simp (
            known,
            lt-ltb 0 h.vertices v₁,
            le-leb h.vertices 32 v₂,
            le-leb h.edges (most_edges h.method) (rw (← is, ← most_is) e),
            count_is,
            is,
          )

      pub source_high : count ≤ h.source → some Source ≡ header_refusal h
      source_high a = rw (← by_source, le-ltb h.source count a)

      pub none_met : h.source < count → none ≡ header_refusal h
      none_met a = rw (← by_source, lt-ltb h.source count a)

pub accepted : (h : Header) → none ≡ header_refusal h → Accepted h
unfolding header_refusal
accepted h e =
    let (known, (vertices, (edges, (source, _)))) = (first_none (header_tests h)).0 (sym e) in
    let (some_vertex, few) = and_yes (ltb 0 h.vertices) _ vertices in
    record {
      known = known;
      vertices_some = ltb→lt 0 h.vertices some_vertex;
      vertices_few = leb→le h.vertices 32 few;
      edges_few = leb→le h.edges _ edges;
      source_there = ltb→lt h.source _ source;
    }

-- What holds of these four holds of the one that is met.
pub header_meets_each : (P : Refusal → Type 0) → P Method × P Vertices × P Edges × P Source → (h : Header) → Meets P (header_refusal h)
unfolding header_refusal
header_meets_each P (method, vertices, edges, source) h = first_meets P (header_tests h) (method, (vertices, (edges, (source, tt))))
