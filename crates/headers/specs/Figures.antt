-- What the code tells of a header, by the definitions of plans. Rests on those.
use Rattle.std.specs.Prelude.{◌≡◌, ℕ, Some, None}
use Rattle.std.specs.declared.option.Option as Code
use Rattle.std.proofs.Math.Option.{Option, none, some}
use Rattle.plans.specs.declared.Header.{Header}
use Rattle.plans.specs.declared.Span.{Span}
use Rattle.plans.specs.Plan.{word_count_of, cells_of, length_of, verdict_cell, Kind, distances, parents, route, by_kind, results_of}
use Rattle.answers.specs.Refusal.{option_of}
use Rattle.headers.specs.declared.Figures.{Figures}

-- An optional value as the code has it.
abbrev pub in_code : Option ℕ → Code.Option ℕ
in_code (some cell) = Some cell
in_code none = None

-- ---- the figures of a header

unfoldable pub figures_of : Header → Figures
figures_of h =
    record {
      words = word_count_of h;
      cells = cells_of h;
      length = length_of h;
      verdict = in_code (verdict_cell h);
      distances = results_of h distances;
      parents = results_of h parents;
      route = results_of h route;
    }

-- The cells of a kind of results.
abbrev pub span_in : Figures → Kind → Span
span_in f = by_kind f.distances f.parents f.route

-- The same, one by one.
pub record Figured (h : Header) (f : Figures) : Type 0 where
  pub words_are : f.words ≡ word_count_of h
  pub cells_are : f.cells ≡ cells_of h
  pub length_is : f.length ≡ length_of h
  pub verdict_is : option_of f.verdict ≡ verdict_cell h
  pub results_are : (k : Kind) → span_in f k ≡ results_of h k
