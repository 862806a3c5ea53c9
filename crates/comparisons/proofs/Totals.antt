-- Totals across methods: rows from the same source are the same where least prices agree.
-- Rests on graph's LeastBetween and on the demands.
use mathlib.Core.Path.{◌≡◌, sym, ap, ◌∙◌, subst}
use Prim.Native.Nat.{ℕ, ◌+◌, ◌*◌, ◌<◌}
use Rattle.plans.specs.Limits.{far}
use Rattle.plans.specs.Plan.{distances}
use Rattle.plans.proofs.Headers.{source_below}
use Rattle.limits.specs.WithinLimits.{header_in, words_in}
use Rattle.graph.specs.Walk.{Below}
use Rattle.graph.specs.Shortest.{Distances}
use Rattle.graph.specs.LeastBetween.{HasLeast}
use Rattle.graph.proofs.LeastBetween.{same_distances}
use Rattle.demands.specs.Network.{network_in}
use Rattle.demands.specs.Demands.{result_of}
use Rattle.demands.proofs.Ran.{allowed, leaves}
use Rattle.demands.proofs.Sources.{row_by_row, source_inside}
use Rattle.demands.proofs.Theorems.{demand2}
use Rattle.comparisons.specs.Rows.{RowFrom, distance_in}
use Rattle.comparisons.specs.Totals.{SameTotals, SameTotalsByMethod}
use Rattle.comparisons.proofs.Rows.{own_row, vertex_row, first}
use Rattle.comparisons.proofs.Prices.{least_there}

pub same_totals : SameTotals
same_totals request request' lent lent' ran ran' t t' same s r r' from from' v l =
    let h = header_in request in
    let h' = header_in request' in
    let a = allowed request lent ran in
    let net' = network_in request' in
    -- As many vertices as the first has.
    let below' = subst (Below net') same.vertices (leaves request' lent' ran').below in
    let least' = subst (λ (k : ℕ). HasLeast k net') same.vertices (least_there h' (allowed request' lent' ran') (words_in request')) in
    let row' =
    subst (λ (k : ℕ). Distances net' far k s (distance_in request' lent' r')) same.vertices
    (rw from'.source at ((demand2 request' lent').least_totals ran' t' r' from'.there)) in
    same_distances (network_in request) net' far h.vertices s _ _ (leaves request lent ran).below below'
    (rw from.source at (source_inside h a r from.there)) (least_there h a (words_in request)) least' same.least
    (rw from.source at ((demand2 request lent).least_totals ran t r from.there)) row' v l

pub same_by_method : SameTotalsByMethod
same_by_method request request' lent lent' ran ran' t t' same =
    let h = header_in request in
    let n = h.vertices in
    let a = allowed request lent ran in
    let totals = same_totals request request' lent lent' ran ran' t t' same in
    let placed : (r v : ℕ) → result_of request' lent' distances (r * n + v) ≡ distance_in request' lent' r v =
    λ r v. ap (λ (k : ℕ). result_of request' lent' distances (r * k + v)) (sym same.vertices) in
    let row' : (header_in request').method ≡ 4 → (s : ℕ) → s < n → RowFrom request' s s =
    λ four s l. vertex_row request' lent' ran' four s (rw same.vertices l) in
    record {
      one_source = λ given given' sources v l.
          sym (first request' lent' v)
          ∙ totals h.source 0 0 (own_row request lent ran given) (rw sources at (own_row request' lent' ran' given')) v l
          ∙ first request lent v;
      row_of_table = λ given four v l.
          let inside = source_below h a in
          placed h.source v
          ∙ totals h.source 0 h.source (own_row request lent ran given) (row' four h.source inside) v l
          ∙ first request lent v;
      tables = λ four four'.
          row_by_row (λ i. result_of request' lent' distances i ≡ result_of request lent distances i) n n a.vertices_some
          (λ s v i l. placed s v ∙ totals s s s (vertex_row request lent ran four s i) (row' four' s i) v l);
    }
