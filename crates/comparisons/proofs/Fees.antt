-- Moved fees: verdict, answer and log stay, and distances rise by the number of the source less that of the vertex.
-- Rests on graph's Reweighed and on the demands.
use mathlib.Core.Path.{◌≡◌, refl, sym, ap, ◌∙◌, subst}
use mathlib.Core.Logic.{◌↔◌, inl, inr}
use mathlib.Core.List.{List}
use Prim.Native.Nat.{ℕ, ◌+◌, ◌*◌, ◌<◌}
use native.Mathlib.Omega.{arith}
use lib.IntN.{ℤ, ◌+ℤ◌, ◌-ℤ◌}
use lib.ListN.{length, get_or, take}
use Rattle.answers.specs.Told.{Told}
use Rattle.plans.specs.declared.Header.{Header}
use Rattle.plans.specs.Limits.{far}
use Rattle.plans.specs.Plan.{distances, rounds_of_plan}
use Rattle.limits.specs.Refusal.{log_length_of}
use Rattle.limits.specs.WithinLimits.{header_in, words_in}
use Rattle.graph.specs.Walk.{Network}
use Rattle.graph.specs.Shortest.{Distances}
use Rattle.graph.specs.Reweighed.{Reweighed, Becomes, moved}
use Rattle.graph.proofs.Distances.{both_unreached}
use Rattle.graph.proofs.Reweighed.{moved_cycles, moved_distances}
use Rattle.demands.specs.Run.{Lent, cells_left, outcome}
use Rattle.demands.specs.Network.{network_of, network_in, sources_of, CycleFrom}
use Rattle.demands.specs.Demands.{RanOn, rounds_told, length_told, verdict_told, result_of, SamePublic}
use Rattle.demands.proofs.Ran.{allowed, verdict_of_is, verdict_is}
use Rattle.demands.proofs.Theorems.{demand1, demand2, demand3a, demand3}
use Rattle.comparisons.specs.Repriced.{FeesMoved}
use Rattle.comparisons.specs.Rows.{RowFrom, distance_in}
use Rattle.comparisons.specs.Fees.{Rises, MovedFees, MovedFeesByMethod}
use Rattle.comparisons.proofs.Repriced.{networks}
use Rattle.comparisons.proofs.Rows.{own_row, vertex_row, first}

module _ (fee : ℕ → ℤ) (request request' : List ℕ) (lent lent' : Lent) (ran : RanOn request lent) (ran' : RanOn request' lent')
    (like : FeesMoved fee request request') where
  abbrev h : Header
  h = header_in request

  abbrev net : Network
  net = network_in request

  -- By the header that both have.
  abbrev net' : Network
  net' = network_of h (words_in request')

  reweighed : Reweighed (moved fee) net net'
  reweighed = networks (moved fee) h (allowed request lent ran) (words_in request) (words_in request') like.words

  cycles : CycleFrom net (sources_of h) ↔ CycleFrom net' (sources_of h)
  cycles = (
    λ c. record { row = c.row; there = c.there; cycle = (moved_cycles fee net net' reweighed _).0 c.cycle },
    λ c. record { row = c.row; there = c.there; cycle = (moved_cycles fee net net' reweighed _).1 c.cycle },
  )

  verdict : verdict_told request' lent' ≡ verdict_told request lent
  verdict =
      let d = demand2 request lent in
      let d' = demand2 request' lent' in
      elim (verdict_of_is h (cells_left request lent)) [
        | inl e ↦
            let t : verdict_told request lent ≡ 0 = verdict_is request lent ran ∙ e in
            (rw like.header at (d'.no_cycle ran')).1 (λ c. (d.no_cycle ran).0 t (cycles.1 c)) ∙ sym t
        | inr e ↦
            let t : verdict_told request lent ≡ 1 = verdict_is request lent ran ∙ e in
            (rw like.header at (d'.cycle ran')).1 (cycles.0 ((d.cycle ran).0 t)) ∙ sym t
      ]

  becomes : verdict_told request lent ≡ 0 → (s r : ℕ) → RowFrom request s r
      → Becomes (λ v t. t +ℤ (fee s -ℤ fee v)) far far h.vertices (distance_in request lent r) (distance_in request' lent' r)
  becomes t s r from =
      let least' : (r : ℕ) → r < length (sources_of h) → Distances net' far h.vertices (get_or (sources_of h) r 0) (distance_in request' lent' r) =
      subst
      (λ (x : Header). (r : ℕ) → r < length (sources_of x)
      → Distances (network_of x (words_in request')) far x.vertices (get_or (sources_of x) r 0) (distance_in request' lent' r))
      like.header ((demand2 request' lent').least_totals ran' (verdict ∙ t)) in
      moved_distances fee net net' reweighed far far h.vertices s _ _
      (rw from.source at ((demand2 request lent).least_totals ran t r from.there)) (rw from.source at (least' r from.there))

pub moved_fees : MovedFees
moved_fees fee request request' lent lent' ran ran' like =
    let same = verdict fee request request' lent lent' ran ran' like in
    let each = becomes fee request request' lent lent' ran ran' like in
    let public : SamePublic request' lent' request lent =
    record {
      method = ap (λ (x : Header). x.method) like.header;
      vertices = ap (λ (x : Header). x.vertices) like.header;
      edges = ap (λ (x : Header). x.edges) like.header;
      source = ap (λ (x : Header). x.source) like.header;
      verdict = λ there. same;
    } in
    record {
      verdict = same;
      log = (demand3a request' request lent' lent ran' ran).1 public;
      totals = λ t s r from v l.
          let to = each t s r from in
          record { unreached = both_unreached _ _ _ _ _ _ to v l; rises = to.each v l };
    }

-- ---- without rows

-- Runs of the same header with the same verdict have the same answer.
same_answer : (request request' : List ℕ) (lent lent' : Lent) → RanOn request lent → RanOn request' lent'
    → header_in request' ≡ header_in request → verdict_told request' lent' ≡ verdict_told request lent
    → (outcome request' lent').answer ≡ (outcome request lent).answer
same_answer request request' lent lent' ran ran' header verdict =
    let d = demand3 request lent in
    let d' = demand3 request' lent' in
    let rounds : rounds_told request' lent' ≡ rounds_told request lent =
    d'.rounds_figure ran' ∙ ap rounds_of_plan header ∙ sym (d.rounds_figure ran) in
    let size : length_told request' lent' ≡ length_told request lent =
    d'.length_figure ran' ∙ ap log_length_of header ∙ sym (d.length_figure ran) in
    elim ((demand1 request lent).tells ran) [
      | inl e ↦ elim ((demand1 request' lent').tells ran') [
        | inl e' ↦ rw (e', rounds, size) (sym e)
        | inr e' ↦ absurd (omega (arith, ap second e, ap second e'))
      ]
      | inr e ↦ elim ((demand1 request' lent').tells ran') [
        | inl e' ↦ absurd (omega (arith, ap second e, ap second e'))
        | inr e' ↦ rw (e', rounds, size) (sym e)
      ]
    ]
  where
    second : Told → ℕ
    second told = get_or told.values 2 0

alike : (fee : ℕ → ℤ) (s v : ℕ) {a b c d : ℤ} → a ≡ c → b ≡ d → Rises fee s v a b → Rises fee s v c d
alike fee s v p q h = rw (p, q) at h

pub moved_by_method : MovedFeesByMethod
moved_by_method fee request request' lent lent' ran ran' like =
    let h = header_in request in
    let moves = moved_fees fee request request' lent lent' ran ran' like in
    let answer = same_answer request request' lent lent' ran ran' like.header moves.verdict in
    record {
      answer = answer;
      log = ap (λ (told : Told). take (get_or told.values 1 0) (outcome request' lent').log) (sym answer) ∙ moves.log;
      one_source = λ t given v l.
          alike fee h.source v (first request lent v) (first request' lent' v)
          (moves.totals t h.source 0 (own_row request lent ran given) v l);
      table = λ t four i j k l.
          alike fee i j refl (ap (λ (x : Header). result_of request' lent' distances (i * x.vertices + j)) like.header)
          (moves.totals t i i (vertex_row request lent ran four i k) j l);
    }
