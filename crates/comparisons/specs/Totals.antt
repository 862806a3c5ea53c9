-- Totals across methods (document 02, ask 9): what two runs give, of any methods, where least prices agree. About outcomes, as the demands are.
-- Rests on least weights and on the demands.
use Rattle.std.specs.Prelude.{◌≡◌, ◌≢◌, List, ℕ, ◌+◌, ◌*◌, ◌<◌, ℤ}
use Rattle.std.proofs.Math.Option.{Option}
use Rattle.plans.specs.Plan.{distances, parents, results_of}
use Rattle.limits.specs.WithinLimits.{header_in}
use Rattle.graph.specs.LeastBetween.{LeastBetween, SameLeast}
use Rattle.demands.specs.Run.{Lent}
use Rattle.demands.specs.Network.{network_in}
use Rattle.demands.specs.Demands.{RanOn, verdict_told, result_of}
use Rattle.comparisons.specs.Rows.{RowFrom, distance_in}

-- The least price from u to v: of the request's edges from u to v, be they words of edges or entries of a table; none, where there is no such edge.
abbrev pub LeastPrice : (request : List ℕ) (u v : ℕ) → Option ℤ → Type 0
LeastPrice request = LeastBetween (network_in request)

-- Of a request that ran: for each two vertices exactly one such value, be it none.
abbrev pub OnePrice : Type 0
OnePrice = (request : List ℕ) (lent : Lent) → RanOn request lent
    → (u v : ℕ) → u < (header_in request).vertices → v < (header_in request).vertices
    → (w : Option ℤ) × LeastPrice request u v w × ((x : Option ℤ) → LeastPrice request u v x → x ≡ w)

-- As many vertices, and from each to each other the same least price, or none in both. Nothing is asked of edges from a vertex to itself.
pub record SamePrices (request request' : List ℕ) : Type 0 where
  pub vertices : (header_in request').vertices ≡ (header_in request).vertices
  pub least : SameLeast (header_in request).vertices (network_in request) (network_in request')

-- In two runs without a negative cycle, rows from the same source are the same: unreached vertices, which have FAR, among them.
abbrev pub SameTotals : Type 0
SameTotals = (request request' : List ℕ) (lent lent' : Lent) → RanOn request lent → RanOn request' lent'
    → verdict_told request lent ≡ 0 → verdict_told request' lent' ≡ 0 → SamePrices request request'
    → (s r r' : ℕ) → RowFrom request s r → RowFrom request' s r'
    → (v : ℕ) → v < (header_in request).vertices → distance_in request' lent' r' v ≡ distance_in request lent r v

-- Without rows: of two methods that give parents, which have one source; of such a one and the row of its source in method 4; of two tables of method 4.
pub record SameByMethod (request : List ℕ) (lent : Lent) (request' : List ℕ) (lent' : Lent) : Type 0 where
  pub one_source : (results_of (header_in request) parents).count ≢ 0 → (results_of (header_in request') parents).count ≢ 0
      → (header_in request').source ≡ (header_in request).source
      → (v : ℕ) → v < (header_in request).vertices → result_of request' lent' distances v ≡ result_of request lent distances v
  pub row_of_table : (results_of (header_in request) parents).count ≢ 0 → (header_in request').method ≡ 4
      → (v : ℕ) → v < (header_in request).vertices
      → result_of request' lent' distances ((header_in request).source * (header_in request).vertices + v) ≡ result_of request lent distances v
  pub tables : (header_in request).method ≡ 4 → (header_in request').method ≡ 4
      → (i : ℕ) → i < (header_in request).vertices * (header_in request).vertices
      → result_of request' lent' distances i ≡ result_of request lent distances i

abbrev pub SameTotalsByMethod : Type 0
SameTotalsByMethod = (request request' : List ℕ) (lent lent' : Lent) → RanOn request lent → RanOn request' lent'
    → verdict_told request lent ≡ 0 → verdict_told request' lent' ≡ 0
    → SamePrices request request' → SameByMethod request lent request' lent'
