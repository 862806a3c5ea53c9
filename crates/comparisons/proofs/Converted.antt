-- Converted distances are those of the request in hundredths, with the parents as they were.
-- Rests on graph's Reweighed, on saved's Converts and on the demands.
use mathlib.Core.Path.{◌≡◌, refl, sym, ap, ◌∙◌, subst}
use mathlib.Core.Logic.{inl, inr, ◌≢◌}
use mathlib.Core.List.{List}
use Prim.Native.Nat.{ℕ, ◌+◌, ◌-◌, ◌*◌, ◌<◌, ◌≤◌}
use native.Mathlib.Nat.{mul-le-mul_right}
use native.Mathlib.Omega.{arith}
use lib.Arith.{digits_lt}
use lib.IntN.{ℤ, pos, nat_abs, ℤ_discrete, ◌*ℤ◌}
use lib.ListN.{length, get_or}
use Rattle.plans.specs.declared.Header.{Header}
use Rattle.plans.specs.Limits.{far, most_weight}
use Rattle.plans.specs.Plan.{Accepted, distances, results_of}
use Rattle.plans.proofs.Headers.{source_below}
use Rattle.limits.specs.WithinLimits.{header_in, words_in}
use Rattle.graph.specs.Walk.{Edge, Network, Below}
use Rattle.graph.specs.Shortest.{Distances, Shortest}
use Rattle.graph.specs.Reweighed.{Reweighed, Becomes, scaled}
use Rattle.graph.proofs.Int.{arithℤ, abs}
use Rattle.graph.proofs.Product.{times_abs}
use Rattle.graph.proofs.Distances.{no_cycle, distance_within, one_row}
use Rattle.graph.proofs.Reweighed.{scaled_distances, scaled_shortest}
use Rattle.saved.specs.Saved.{old_far, conversion_outcome}
use Rattle.saved.specs.Converts.{OfOld, AllOfOld}
use Rattle.saved.proofs.Converts.{converts}
use Rattle.demands.specs.Run.{Lent}
use Rattle.demands.specs.Network.{network_of, network_in, naming_of, sources_of}
use Rattle.demands.specs.Demands.{RanOn, result_of}
use Rattle.demands.proofs.Ran.{allowed, leaves}
use Rattle.demands.proofs.Taken.{weights_most}
use Rattle.demands.proofs.Sources.{row_by_row, source_inside}
use Rattle.demands.proofs.Theorems.{demand1, demand2}
use Rattle.comparisons.specs.Repriced.{Hundredfold}
use Rattle.comparisons.specs.Converted.{DistancesOf, ShortestOf, Agrees, ConvertedAgrees, ConvertedShortest}
use Rattle.comparisons.proofs.Repriced.{networks, namings}

-- ---- one network, and the one with every weight a hundredfold, within today's limit

module _ (net net' : Network) (like : Reweighed (scaled 100) net net') (n : ℕ) (few : n ≤ 32) (below' : Below net' n)
    (weights' : (e : Edge) → net' e → nat_abs e.weight ≤ most_weight) where
  below : Below net n
  below e real = let g = like.forth e real in let (from, to) = below' g.0 g.1 in (rw g.2.begins at from, rw g.2.ends at to)

  -- Document 01's limit.
  weights : (e : Edge) → net e → nat_abs e.weight ≤ 1000000
  weights e real = let g = like.forth e real in omega (arith, weights' g.0 g.1, ap nat_abs g.2.weighs, times_abs 100 e.weight)

  -- A row of distances from before.
  module _ (s : ℕ) (inside : s < n) (dist : ℕ → ℤ) (old : Distances net old_far n s dist) where
    small : (v : ℕ) → v < n → dist v ≢ old_far → nat_abs (dist v) ≤ 31000000
    small v l ne =
        let passes : n - 1 ≤ 31 = omega arith in
        let most : (n - 1) * 1000000 ≤ 31 * 1000000 = mul-le-mul_right 1000000 passes in
        omega (arith, distance_within net old_far n s dist old below inside 1000000 weights v l ne)

    of_old : (v : ℕ) → v < n → OfOld (dist v)
    of_old v l =
        elim (ℤ_discrete (dist v) old_far) [
          | yes e ↦ inl e
          | no ne ↦ let most = small v l ne in inr (omega (arithℤ, abs (dist v)), omega (arithℤ, abs (dist v)))
        ]

    -- The words at these places are it: each becomes what it has to.
    becomes : (saved : List ℤ) → AllOfOld saved → (place : ℕ → ℕ) → ((v : ℕ) → v < n → place v < length saved)
        → ((v : ℕ) → dist v ≡ get_or saved (place v) (pos 0))
        → Becomes (λ v t. pos 100 *ℤ t) old_far far n dist (λ v. get_or (conversion_outcome saved).saved (place v) (pos 0))
    becomes saved all place there is =
        record {
          blank = λ v l e. (converts saved).mark all (place v) (there v l) (sym (is v) ∙ e);
          each = λ v l ne. hundredfold v l ne;
          apart = λ v l ne e. omega (arith, small v l ne, times_abs 100 (dist v), ap nat_abs (sym (hundredfold v l ne) ∙ e));
        }
      where
        hundredfold : (v : ℕ) → v < n → dist v ≢ old_far → get_or (conversion_outcome saved).saved (place v) (pos 0) ≡ pos 100 *ℤ dist v
        hundredfold v l ne =
            (converts saved).distance all (place v) (there v l) (λ e. ne (is v ∙ e)) ∙ ap (λ (z : ℤ). pos 100 *ℤ z) (sym (is v))

-- ---- requests

module _ (request request' : List ℕ) (lent' : Lent) (like : Hundredfold request request') (ran : RanOn request' lent') where
  abbrev h : Header
  h = header_in request

  abbrev n : ℕ
  n = h.vertices

  abbrev ws : List ℕ
  ws = words_in request

  abbrev ws' : List ℕ
  ws' = words_in request'

  accepted : Accepted h
  accepted = subst Accepted like.header (allowed request' lent' ran)

  -- What holds of the run of the request in hundredths, by the header that both have.
  below' : Below (network_of h ws') n
  below' = subst (λ (x : Header). Below (network_of x ws') x.vertices) like.header (leaves request' lent' ran).below

  weights' : (e : Edge) → network_of h ws' e → nat_abs e.weight ≤ most_weight
  weights' =
      subst (λ (x : Header). (e : Edge) → network_of x ws' e → nat_abs e.weight ≤ most_weight) like.header
      (weights_most request' lent' ((demand1 request' lent').runs.0 ran))

  counted : (results_of h distances).count ≡ length (sources_of h) * n
  counted =
      subst (λ (x : Header). (results_of x distances).count ≡ length (sources_of x) * x.vertices) like.header ((demand2 request' lent').rows ran)

  hundredfold : Reweighed (scaled 100) (network_of h ws) (network_of h ws')
  hundredfold = networks (scaled 100) h accepted ws ws' like.words

  module _ (saved : List ℤ) where
    -- ---- rows

    module _ (long : length saved ≡ (results_of h distances).count) (old : DistancesOf old_far request saved) where
      -- Row r, from its source.
      at_row : (r : ℕ) → r < length (sources_of h)
          → Distances (network_of h ws) old_far n (get_or (sources_of h) r 0) (λ v. get_or saved (r * n + v) (pos 0))
      at_row r there = old _ r (record { there = there; source = refl })

      all_of_old : AllOfOld saved
      all_of_old i l =
          row_by_row (λ i. OfOld (get_or saved i (pos 0))) (length (sources_of h)) n accepted.vertices_some
          (λ r v there.
          of_old (network_of h ws) (network_of h ws') hundredfold n accepted.vertices_few below' weights' (get_or (sources_of h) r 0)
          (source_inside h accepted r there) _ (at_row r there) v)
          i (omega (arith, long, counted))

      least : (r : ℕ) → r < length (sources_of h)
          → Distances (network_of h ws') far n (get_or (sources_of h) r 0) (λ v. get_or (conversion_outcome saved).saved (r * n + v) (pos 0))
      least r there =
          scaled_distances 100 (network_of h ws) (network_of h ws') hundredfold old_far far n (get_or (sources_of h) r 0) _ _
          (becomes (network_of h ws) (network_of h ws') hundredfold n accepted.vertices_few below' weights' (get_or (sources_of h) r 0)
          (source_inside h accepted r there) _ (at_row r there) saved all_of_old (λ v. r * n + v)
          (λ v l. omega (arith, long, counted, digits_lt {q = r} {m = length (sources_of h)} {r = v} {c = n} there l)) (λ v. refl))
          (at_row r there)

      -- By the header of the request in hundredths.
      least' : (r : ℕ) → r < length (sources_of (header_in request'))
          → Distances (network_in request') far (header_in request').vertices (get_or (sources_of (header_in request')) r 0)
          (λ v. get_or (conversion_outcome saved).saved (r * (header_in request').vertices + v) (pos 0))
      least' =
          subst
          (λ (x : Header). (r : ℕ) → r < length (sources_of x)
          → Distances (network_of x ws') far x.vertices (get_or (sources_of x) r 0)
          (λ v. get_or (conversion_outcome saved).saved (r * x.vertices + v) (pos 0)))
          (sym like.header) least

      agrees : Agrees saved request' lent'
      agrees =
          let h' = header_in request' in
          let a' = allowed request' lent' ran in
          let d = demand2 request' lent' in
          let verdict =
          (d.no_cycle ran).1
          (λ c. no_cycle _ far _ _ _ (least' c.row c.there) (leaves request' lent' ran).below (source_inside h' a' c.row c.there) c.cycle) in
          record {
            converted = (converts saved).converts.1 all_of_old;
            verdict = verdict;
            same = λ i l.
                row_by_row (λ i. result_of request' lent' distances i ≡ get_or (conversion_outcome saved).saved i (pos 0)) (length (sources_of h'))
                h'.vertices a'.vertices_some
                (λ r v there. one_row _ far _ _ _ _ (least' r there) (d.least_totals ran verdict r there) v)
                i (omega (arith, d.rows ran));
          }

    -- ---- one row, with parents

    shortest : length saved ≡ n → (parent : ℕ → ℤ) → ShortestOf old_far request saved parent
        → ShortestOf far request' (conversion_outcome saved).saved parent
    shortest long parent old =
        let inside = source_below h accepted in
        let all : AllOfOld saved =
        λ i l.
        of_old (network_of h ws) (network_of h ws') hundredfold n accepted.vertices_few below' weights' h.source inside _ old.distances i
        (omega (arith, long)) in
        subst
        (λ (x : Header). Shortest (network_of x ws') (naming_of x ws') far x.vertices x.source
        (λ v. get_or (conversion_outcome saved).saved v (pos 0)) parent)
        (sym like.header)
        (scaled_shortest 100 (network_of h ws) (network_of h ws') hundredfold old_far far n h.source _ _
        (becomes (network_of h ws) (network_of h ws') hundredfold n accepted.vertices_few below' weights' h.source inside _ old.distances
        saved all (λ v. v) (λ v l. omega (arith, long)) (λ v. refl))
        (naming_of h ws) (naming_of h ws') (namings (scaled 100) h accepted ws ws' like.words) parent old)

pub converted_agrees : ConvertedAgrees
converted_agrees request request' lent' like ran saved long old = agrees request request' lent' like ran saved long old

pub converted_shortest : ConvertedShortest
converted_shortest request request' lent' like ran saved long parent old = shortest request request' lent' like ran saved long parent old
