-- The lines of a method, as the code writes them: in method 4 those of a table, in every other method the one row of yards.
-- Rests on demands' Sources, and plans' Blocks and Headers.
use mathlib.Core.Path.{◌≡◌, refl}
use mathlib.Core.Logic.{◌≢◌}
use mathlib.Core.Bool.{Bool}
use mathlib.Core.List.{List}
use Prim.Native.Nat.{ℕ, ◌+◌, ◌*◌}
use native.Mathlib.Omega.{arith}
use lib.IntN.{ℤ, pos}
use lib.ListN.{get_or}
use Rattle.plans.specs.declared.Header.{Header}
use Rattle.plans.specs.Blocks.{flat}
use Rattle.plans.specs.Plan.{Accepted}
use Rattle.plans.proofs.Blocks.{flat_same}
use Rattle.plans.proofs.Headers.{each_method}
use Rattle.demands.specs.Network.{sources_of}
use Rattle.demands.proofs.Sources.{every, vertex_at, vertices_long}
use Rattle.printing.specs.Texts.{yard_text, listed_text, line_text, rows_text}
use Rattle.listings.specs.Rows.{yard_at, pair_at, pairs_text}

module _ (all : Bool) (ds ps : List ℤ) where
  pub pairs : (h : Header) → h.method ≡ 4 → rows_text all h ds ps ≡ flat h.vertices (pairs_text all h.vertices ds)
  unfolding rows_text line_text
  pairs h four =
      let n = h.vertices in
      rw (every h four, vertices_long n)
      (flat_same n _ (pairs_text all n ds) (λ r l. flat_same n _ (pair_at all n ds r) (λ v k. rw (vertex_at n r l, four))))

  -- A table of one row.
  one_row : (n : ℕ)
      → flat 1 (λ r. flat n (λ v. let d = get_or ds (r * n + v) (pos 0) in listed_text all d (yard_text v d (get_or ps v (pos 0)))))
      ≡ flat n (yard_at all ds ps)
  unfolding flat
  one_row n = flat_same n _ (yard_at all ds ps) (λ v l. let e : 0 * n + v ≡ v = omega arith in rw e)

  pub yards : (h : Header) → Accepted h → h.method ≢ 4 → rows_text all h ds ps ≡ flat h.vertices (yard_at all ds ps)
  unfolding rows_text line_text sources_of
  yards =
      each_method (λ h. h.method ≢ 4 → rows_text all h ds ps ≡ flat h.vertices (yard_at all ds ps))
      (λ n m source a other. one_row n)
      (λ n source a other. one_row n)
      (λ n m source a other. one_row n)
      (λ n m a other. absurd (other refl))
      (λ n m source a other. one_row n)
