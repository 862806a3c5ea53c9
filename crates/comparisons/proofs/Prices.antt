-- Between each two vertices of a request there is one least price, or none. Rests on graph's LeastBetween.
use mathlib.Core.Path.{refl}
use mathlib.Core.List.{List}
use mathlib.Core.Option.{none, some}
use Prim.Native.Nat.{ℕ, ◌+◌, ◌*◌}
use lib.IntN.{negsuc, ℤ_discrete}
use lib.ListN.{get_or}
use Rattle.plans.specs.declared.Header.{Header}
use Rattle.plans.specs.Plan.{Accepted}
use Rattle.plans.proofs.Headers.{each_method}
use Rattle.limits.specs.Word.{weight_of}
use Rattle.limits.specs.WithinLimits.{header_in, words_in}
use Rattle.graph.specs.LeastBetween.{HasLeast}
use Rattle.graph.proofs.Int.{arithℤ}
use Rattle.graph.proofs.LeastBetween.{one_least, row_least}
use Rattle.demands.specs.Network.{edge_of, Entered, network_of, network_in}
use Rattle.demands.proofs.Ran.{allowed}
use Rattle.comparisons.specs.Totals.{OnePrice}

entered_least : (n : ℕ) (ws : List ℕ) → HasLeast n (Entered n ws)
entered_least n ws u v i j =
    let entry = weight_of (get_or ws (u * n + v) 0) in
    elim (ℤ_discrete entry (negsuc 0)) [
      | yes e ↦ (none, λ w real. real.entered e)
      | no ne ↦ (some entry, (record { from_there = i; to_there = j; entered = ne; weighs = refl }, λ x real. omega (arithℤ, real.weighs)))
    ]

pub least_there : (h : Header) → Accepted h → (ws : List ℕ) → HasLeast h.vertices (network_of h ws)
unfolding network_of
least_there =
    each_method (λ h. (ws : List ℕ) → HasLeast h.vertices (network_of h ws))
    (λ n m source a ws u v i j. row_least (edge_of ws) u v m)
    (λ n source a. entered_least n)
    (λ n m source a ws u v i j. row_least (edge_of ws) u v m)
    (λ n m a ws u v i j. row_least (edge_of ws) u v m)
    (λ n m source a ws u v i j. row_least (edge_of ws) u v m)

pub one_price : OnePrice
one_price request lent ran u v i j =
    let (w, p) = least_there (header_in request) (allowed request lent ran) (words_in request) u v i j in
    (w, p, λ x q. one_least (network_in request) u v x w q p)
