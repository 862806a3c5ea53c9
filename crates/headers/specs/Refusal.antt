-- Which refusal a header meets first (document 01, "Who caused it"). Rests on the refusals and the limits.
use Rattle.std.specs.Prelude.{Bool, ◌&&◌, List, [], ◌∷◌, ltb, leb}
use Rattle.std.proofs.Math.Option.{Option}
use Rattle.answers.specs.Refusal.{Refusal}
use Rattle.answers.specs.Refusal.{Method, Vertices, Edges, Source, first_of}
use Rattle.plans.specs.declared.Header.{Header}
use Rattle.plans.specs.Limits.{known_method, most_vertices, most_edges, source_count}

-- 1 to 4: method, vertices, edges, source.
abbrev pub header_tests : Header → List (Bool × Refusal)
header_tests h =
    (known_method h.method, Method)
    ∷ (ltb 0 h.vertices && leb h.vertices most_vertices, Vertices)
    ∷ (leb h.edges (most_edges h.method), Edges)
    ∷ (ltb h.source (source_count h.method h.vertices), Source)
    ∷ []

unfoldable pub header_refusal : Header → Option Refusal
header_refusal h = first_of (header_tests h)
