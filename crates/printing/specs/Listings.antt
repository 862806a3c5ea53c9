-- What the two listings of a request's results have in common, and in what they differ: "leaves out the lines of unreached yards and nothing else"
-- (document 02, ask 6), "unreached pairs only under `all`" (ask 8). Rests on Texts, walks and the outcomes of runs.
use Rattle.std.specs.Prelude.{◌≡◌, List, [], ◌++◌, ℕ, ◌+◌, ◌*◌, ◌<◌, length, get_or}
use Rattle.plans.specs.Blocks.{flat}
use Rattle.plans.specs.Plan.{distances, parents}
use Rattle.limits.specs.WithinLimits.{header_in}
use Rattle.graph.specs.Walk.{Walk}
use Rattle.demands.specs.Run.{Lent}
use Rattle.demands.specs.Network.{network_in, sources_of}
use Rattle.demands.specs.Demands.{result_of}
use Rattle.printing.specs.Texts.{line_text}

module _ (request : List ℕ) where
  -- The sources, a row for each.
  abbrev pub row_count : ℕ
  row_count = length (sources_of (header_in request))

  abbrev pub source_at : (row : ℕ) → ℕ
  source_at r = get_or (sources_of (header_in request)) r 0

  -- A walk leads from a row's source to the vertex.
  abbrev pub Reached : (row v : ℕ) → Type 0
  Reached r v = Walk (network_in request) (source_at r) v

  -- The line of a vertex with its results.
  abbrev pub line_at : Lent → (row v : ℕ) → List ℕ
  line_at lent r v =
      line_text (header_in request) (source_at r) v (result_of request lent distances (r * (header_in request).vertices + v))
      (result_of request lent parents v)

pub record Listings (request : List ℕ) (lent : Lent) (short long : List ℕ) : Type 0 where
  -- What stands before the lines of results, and after them, in both.
  pub front : List ℕ
  pub back : List ℕ
  -- The long one has the line of every vertex, row by row, in their order.
  pub long_is : long ≡ front ++ (flat (row_count request) (λ r. flat (header_in request).vertices (line_at request lent r)) ++ back)
  -- The short one has of each vertex its line, where a walk leads to it from the row's source, and otherwise nothing.
  pub listed : (row v : ℕ) → List ℕ
  pub short_is : short ≡ front ++ (flat (row_count request) (λ r. flat (header_in request).vertices (listed r)) ++ back)
  pub reached : (r v : ℕ) → r < row_count request → v < (header_in request).vertices → Reached request r v → listed r v ≡ line_at request lent r v
  pub unreached : (r v : ℕ) → r < row_count request → v < (header_in request).vertices → ¬ Reached request r v → listed r v ≡ []
