-- Intake supplies to each method what it asks, for every request within the limits; and so what the run of such a request leaves. The weights of its
-- network are within the limit. Rests on the laws of limits.
use mathlib.Core.Path.{◌≡◌, refl, ◌∙◌}
use mathlib.Core.List.{List}
use Prim.Native.Nat.{ℕ, ◌+◌, ◌*◌, ◌<◌, ◌≤◌}
use native.Mathlib.Nat.{add-zero}
use native.Mathlib.Omega.{arith}
use lib.Arith.{digits_lt}
use lib.IntN.{pos, nat_abs}
use lib.ListN.{length, get_or}
use Rattle.machine.specs.Effect.{cell_at}
use Rattle.plans.specs.declared.Header.{Header}
use Rattle.plans.specs.Limits.{far, most_weight}
use Rattle.plans.specs.Plan.{cells_of}
use Rattle.plans.proofs.Headers.{each_method, source_below}
use Rattle.limits.specs.Word.{destination_in, weight_of}
use Rattle.limits.specs.WithinLimits.{header_in, words_in, WithinLimits}
use Rattle.limits.proofs.Sizes.{cells_one, cells_two, cells_three, cells_four, cells_five}
use Rattle.limits.proofs.WithinLimits.{OverEdges, accepted_in, cells_in, edge_in, sorted_in, entry_in, destination_in_is}
use Rattle.intake.proofs.Laid.{EdgesLaid, edges_one, edges_three, edges_four, edges_five, entry_laid, destination_laid}
use Rattle.graph.specs.Walk.{Edge}
use Rattle.graph.specs.BellmanFord.{network}
use Rattle.methods.specs.Edges as Edges
use Rattle.methods.specs.Method1 as Method1
use Rattle.methods.specs.Method2 as Method2
use Rattle.methods.specs.Method3 as Method3
use Rattle.methods.specs.Method4 as Method4
use Rattle.methods.specs.Method5 as Method5
use Rattle.demands.specs.Run.{Lent, lengths_of, start_of, cells_left}
use Rattle.demands.specs.Network.{edge_of, network_of}
use Rattle.demands.proofs.Intake.{long}
use Rattle.demands.proofs.Table.{table_of, Range, in_range_is, natural, same_edges}
use Rattle.demands.proofs.Left.{Laid, Left, left}

module _ (request : List ℕ) (lent : Lent)
    (w : WithinLimits request (lengths_of lent)) where
  abbrev h : Header
  h = header_in request

  abbrev ws : List ℕ
  ws = words_in request

  pub enough : cells_of h ≤ length lent.cells
  enough = cells_in _ _ w

  inside : h.source < h.vertices
  inside = source_below h (accepted_in _ _ w)

  limited : OverEdges h.method → Edges.Limited most_weight (edge_of ws) h.vertices h.edges
  limited e =
      record {
        from_below = λ i l. (edge_in request _ w i e l).from_below;
        to_below = λ i l. (edge_in request _ w i e l).to_below;
        weight_most = λ i l. (edge_in request _ w i e l).weight_most;
      }

  -- A method over edges that has its cells where intake lays them.
  given_edges : (at : Edges.Inputs) {to weight : ℕ} → OverEdges h.method → at.count ≡ cells_of h
      → EdgesLaid h ws lent.cells to weight
      → ((i : ℕ) → at.from i ≡ 0 + i) → ((i : ℕ) → at.to i ≡ to + i) → ((i : ℕ) → at.weight i ≡ weight + i)
      → Laid h ws (start_of request lent) at
  given_edges at over count laid from to weight =
      record {
        enough = omega (arith, long request lent enough, enough);
        from = λ i l. rw (from i) (laid.from_is i l);
        to = λ i l. rw (to i) (laid.to_is i l);
        weight = λ i l. rw (weight i) (laid.weight_is i l);
        limited = limited over;
        source_below = inside;
      }

  given1 : h.method ≡ 1 → Laid h ws (start_of request lent) (Method1.places h.vertices h.edges).inputs
  given1 e = given_edges _ (rw e tt) (cells_one h e) (edges_one h ws lent.cells e) (λ i. refl) (λ i. refl) (λ i. refl)

  given3 : h.method ≡ 3 → Laid h ws (start_of request lent) (Method3.places h.vertices h.edges).inputs
  given3 e = given_edges _ (rw e tt) (cells_three h e) (edges_three h ws lent.cells e) (λ i. refl) (λ i. omega arith) (λ i. refl)

  given4 : h.method ≡ 4 → Laid h ws (start_of request lent) (Method4.inputs h.vertices h.edges)
  given4 e = given_edges _ (rw e tt) (cells_four h e) (edges_four h ws lent.cells e) (λ i. refl) (λ i. refl) (λ i. refl)

  given5 : h.method ≡ 5 → Laid h ws (start_of request lent) (Method5.places h.vertices h.edges).inputs
  given5 e = given_edges _ (rw e tt) (cells_five h e) (edges_five h ws lent.cells e) (λ i. refl) (λ i. refl) (λ i. refl)

  aimed : h.method ≡ 5 → cell_at (start_of request lent) (Method5.goal h.vertices h.edges) ≡ pos (destination_in h ws)
  aimed e =
      let a = accepted_in _ _ w in
      let there = destination_in_is request _ w e in
      rw add-zero (destination_laid h ws lent.cells e a.vertices_some (omega (arith, a.vertices_few)))

  entry : h.method ≡ 2 → (u j : ℕ) → u < h.vertices → j < h.vertices → Range (weight_of (get_or ws (u * h.vertices + j) 0))
  entry e u j p q =
      let n = h.vertices in
      entry_in request _ w (u * n + j) e (digits_lt {q = u} {m = n} {r = j} {c = n} p q)

  given2 : h.method ≡ 2
      → Method2.Laid (nat_abs far) most_weight (table_of h.vertices ws) h.vertices h.source (start_of request lent)
  given2 e =
      record {
        enough = omega (arith, long request lent enough, cells_two h e, enough);
        entry = λ u j p q. entry_laid h ws lent.cells e u j p q ∙ (natural _ (entry e u j p q)).0;
        entry_most = λ u j p q. (natural _ (entry e u j p q)).1;
        source_below = inside;
      }

  pub ends : Left h ws (start_of request lent) (cells_left request lent)
  ends =
      left h (accepted_in _ _ w) ws (start_of request lent)
      (record {
        one = given1;
        two = given2;
        three = given3;
        four = given4;
        five = given5;
        aimed = aimed;
        there = destination_in_is request _ w;
        sorted = λ e i. sorted_in request _ w i e;
        same = λ e. same_edges h.vertices ws (entry e);
      })

  -- The network's weights, whichever the method.
  pub weights_most : (e : Edge) → network_of h ws e → nat_abs e.weight ≤ most_weight
  unfolding network_of
  weights_most =
      each_method
      (λ h. (OverEdges h.method → Edges.Limited most_weight (edge_of ws) h.vertices h.edges)
      → (h.method ≡ 2 → (u j : ℕ) → u < h.vertices → j < h.vertices → Range (weight_of (get_or ws (u * h.vertices + j) 0)))
      → (e : Edge) → network_of h ws e → nat_abs e.weight ≤ most_weight)
      (λ n m source a edges entries. of_row n m (edges tt))
      (λ n source a edges entries e real. rw real.weighs (in_range_is _ (entries refl e.from e.to real.from_there real.to_there)))
      (λ n m source a edges entries. of_row n m (edges tt))
      (λ n m a edges entries. of_row n m (edges tt))
      (λ n m source a edges entries. of_row n m (edges tt))
      h (accepted_in _ _ w) limited entry
    where
      of_row : (n m : ℕ) → Edges.Limited most_weight (edge_of ws) n m → (e : Edge) → network (edge_of ws) m e → nat_abs e.weight ≤ most_weight
      of_row n m edges e (i, l, is) = rw is (edges.weight_most i l)
