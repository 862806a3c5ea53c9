-- The network of a request with other weights is the request's with other weights, and its marks name the same edges, whichever the method.
-- Rests on graph's Reweighed.
use mathlib.Core.Path.{◌≡◌, refl, sym, ap, ◌∙◌}
use mathlib.Core.Logic.{◌≢◌}
use mathlib.Core.List.{List}
use Prim.Native.Nat.{ℕ, ◌+◌, ◌*◌, ◌<◌}
use native.Mathlib.Omega.{arith}
use lib.IntN.{ℤ, pos, negsuc, nat_abs, ℤ_discrete, ◌*ℤ◌}
use lib.ListN.{get_or}
use Rattle.plans.specs.declared.Header.{Header}
use Rattle.plans.specs.Plan.{Accepted}
use Rattle.plans.proofs.Headers.{each_method}
use Rattle.limits.specs.Word.{weight_of}
use Rattle.graph.specs.Walk.{Edge}
use Rattle.graph.specs.Dijkstra.{from_vertex}
use Rattle.graph.specs.Reweighed.{Reweighed, Renamed, scaled}
use Rattle.graph.specs.LeastBetween.{between}
use Rattle.graph.proofs.Product.{times_abs}
use Rattle.graph.proofs.Reweighed.{row_reweighed, row_renamed}
use Rattle.demands.specs.Network.{edge_of, Entered, network_of, naming_of}
use Rattle.comparisons.specs.Repriced.{EntryRepriced, WordsRepriced}

module _ (f : Edge → ℤ) where
  module _ (n : ℕ) (ws ws' : List ℕ)
      (each : (u v : ℕ) → u < n → v < n → EntryRepriced f u v (get_or ws (u * n + v) 0) (get_or ws' (u * n + v) 0)) where
    table_reweighed : Reweighed f (Entered n ws) (Entered n ws')
    table_reweighed =
        record {
          forth = λ e real.
              let p = each e.from e.to real.from_there real.to_there in (
                between e.from e.to (weight_of (get_or ws' (e.from * n + e.to) 0)),
                record {
                  from_there = real.from_there;
                  to_there = real.to_there;
                  entered = λ none. real.entered (p.no_edge_is.1 none);
                  weighs = refl;
                },
                record {
                  begins = refl;
                  ends = refl;
                  weighs = p.weight real.entered ∙ ap (λ (w : ℤ). f (between e.from e.to w)) (sym real.weighs);
                },
              );
          back = λ e' real.
              let p = each e'.from e'.to real.from_there real.to_there in
              let entered : weight_of (get_or ws (e'.from * n + e'.to) 0) ≢ negsuc 0 = λ none. real.entered (p.no_edge_is.0 none) in (
                between e'.from e'.to (weight_of (get_or ws (e'.from * n + e'.to) 0)),
                record { from_there = real.from_there; to_there = real.to_there; entered = entered; weighs = refl },
                record { begins = refl; ends = refl; weighs = real.weighs ∙ p.weight entered },
              );
        }

  pub networks : (h : Header) → Accepted h → (ws ws' : List ℕ) → WordsRepriced f h ws ws' → Reweighed f (network_of h ws) (network_of h ws')
  unfolding network_of
  networks =
      each_method (λ h. (ws ws' : List ℕ) → WordsRepriced f h ws ws' → Reweighed f (network_of h ws) (network_of h ws'))
      (λ n m source a ws ws'. row_reweighed f (edge_of ws) (edge_of ws') m)
      (λ n source a. table_reweighed n)
      (λ n m source a ws ws'. row_reweighed f (edge_of ws) (edge_of ws') m)
      (λ n m a ws ws'. row_reweighed f (edge_of ws) (edge_of ws') m)
      (λ n m source a ws ws'. row_reweighed f (edge_of ws) (edge_of ws') m)

  from_renamed : Renamed f from_vertex from_vertex
  from_renamed k e e' w named = w.begins ∙ named

  pub namings : (h : Header) → Accepted h → (ws ws' : List ℕ) → WordsRepriced f h ws ws' → Renamed f (naming_of h ws) (naming_of h ws')
  unfolding naming_of
  namings =
      each_method (λ h. (ws ws' : List ℕ) → WordsRepriced f h ws ws' → Renamed f (naming_of h ws) (naming_of h ws'))
      (λ n m source a ws ws'. row_renamed f (edge_of ws) (edge_of ws') m)
      (λ n source a ws ws' each. from_renamed)
      (λ n m source a ws ws'. row_renamed f (edge_of ws) (edge_of ws') m)
      (λ n m a ws ws' each k e e' w named. named)
      (λ n m source a ws ws'. row_renamed f (edge_of ws) (edge_of ws') m)

-- A hundredfold is not -1: where -1 stays, nothing else becomes it.
pub entry_hundredfold : (u v word word' : ℕ) → (weight_of word ≡ negsuc 0 → weight_of word' ≡ negsuc 0)
    → (weight_of word ≢ negsuc 0 → weight_of word' ≡ pos 100 *ℤ weight_of word) → EntryRepriced (scaled 100) u v word word'
entry_hundredfold u v word word' stays weighs =
    record { no_edge_is = (stays, back); weight = weighs }
  where
    back : weight_of word' ≡ negsuc 0 → weight_of word ≡ negsuc 0
    back none =
        elim (ℤ_discrete (weight_of word) (negsuc 0)) [
          | yes e ↦ e
          | no ne ↦ absurd (omega (arith, times_abs 100 (weight_of word), ap nat_abs (sym (weighs ne) ∙ none)))
        ]
