-- What follows from the demands, in the documents' own words. Each rests on clauses that nothing else takes for granted, so that none of
-- those could be emptied unseen. Rests on the theorems.
use mathlib.Core.Path.{◌≡◌, refl, sym, ap, ap₂, ◌∙◌}
use mathlib.Core.Logic.{◌↔◌, ◌⊎◌, inl, inr, ◌≢◌}
use mathlib.Core.Bool.{false}
use mathlib.Core.List.{List, append-nil}
use mathlib.Core.Option.{Option, none, some, some-ne-none}
use Prim.Native.Nat.{ℕ, ◌≤◌}
use native.Mathlib.Decide.{dec_le}
use native.Mathlib.Omega.{arith}
use lib.IntN.{pos}
use lib.ListN.{length, drop}
use lib.Seq.{ext_get_or}
use Rattle.machine.specs.Instruction.{All}
use Rattle.machine.specs.Effect.{cell_at}
use Rattle.machine.specs.Log.{opens, replay}
use Rattle.machine.proofs.Replayed.{unopened}
use Rattle.plans.specs.Plan.{plan_of, cells_of, Kind, results_of, verdict_cell}
use Rattle.limits.specs.WithinLimits.{header_in}
use Rattle.demands.specs.Run.{Lent, start_of, verdict_of, outcome}
use Rattle.demands.specs.Demands.{RanOn, verdict_told, log_told}
use Rattle.demands.proofs.Ran.{verdict_is}
use Rattle.demands.proofs.Theorems.{demand1, demand3a, demand3}

-- ---- what is opened, and what two logs tell

-- A method with a cell for the verdict, and one without, whose verdict is 0.
has_verdict : (o : Option ℕ) → (o ≢ none) ⊎ (o ≡ none)
has_verdict none = inr refl
has_verdict (some cell) = inl (some-ne-none cell)

no_verdict : (request : List ℕ) (lent : Lent) → RanOn request lent → verdict_cell (header_in request) ≡ none → verdict_told request lent ≡ 0
unfolding verdict_of
no_verdict request lent ran e = verdict_is request lent ran ∙ rw e

-- Method 2: "Nothing is opened; the verdict is reported as 0." Its log is the plan, of which no word is an OPEN.
pub nothing_opened : (request : List ℕ) (lent : Lent) → RanOn request lent → (header_in request).method ≡ 2
    → (verdict_told request lent ≡ 0) × (log_told request lent ≡ plan_of (header_in request))
    × All (λ w. opens w ≡ false) (drop 1 (plan_of (header_in request)))
unfolding verdict_cell verdict_of
nothing_opened request lent ran two =
    let d = demand3 request lent in
    let same : log_told request lent ≡ plan_of (header_in request) = d.verdict_last ran ∙ rw two (append-nil _) in (
      no_verdict request lent ran (rw two),
      same,
      unopened (plan_of (header_in request)) (start_of request lent) (rw same at (d.as_they_stood ran)) (rw same at (d.planned ran)),
    )

same_header : (request request' : List ℕ) → (header_in request).method ≡ (header_in request').method
    → (header_in request).vertices ≡ (header_in request').vertices → (header_in request).edges ≡ (header_in request').edges
    → (header_in request).source ≡ (header_in request').source → header_in request ≡ header_in request'
same_header request request' a b c d = λ i. record { method = a i; vertices = b i; edges = c i; source = d i }

-- The logs of two runs are equal exactly when the headers' four numbers and the verdicts are: where a method has none, both are 0.
pub same_logs_plainly : (request request' : List ℕ) (lent lent' : Lent) → RanOn request lent → RanOn request' lent'
    → (log_told request lent ≡ log_told request' lent')
    ↔ (((header_in request).method ≡ (header_in request').method) × ((header_in request).vertices ≡ (header_in request').vertices)
    × ((header_in request).edges ≡ (header_in request').edges) × ((header_in request).source ≡ (header_in request').source)
    × (verdict_told request lent ≡ verdict_told request' lent'))
same_logs_plainly request request' lent lent' ran ran' = (
  λ e.
      let s = (demand3a request request' lent lent' ran ran').0 e in (
        s.method,
        s.vertices,
        s.edges,
        s.source,
        elim (has_verdict (verdict_cell (header_in request))) [
          | inl opens ↦ s.verdict opens
          | inr none_there ↦
              let same = same_header request request' s.method s.vertices s.edges s.source in
              no_verdict request lent ran none_there ∙ sym (no_verdict request' lent' ran' (sym (ap verdict_cell same) ∙ none_there))
        ],
      ),
  λ s.
      (demand3a request request' lent lent' ran ran').1
      (record { method = s.0; vertices = s.1; edges = s.2; source = s.3; verdict = λ opens. s.4 }),
)

-- ---- where a run starts from, and what it leaves

-- "Its starting cells follow from the request and the cells lent": what the needed cells held before has no part in it.
pub start_follows : (request : List ℕ) (lent lent' : Lent) → RanOn request lent → RanOn request lent'
    → length lent.cells ≡ length lent'.cells
    → ((k : ℕ) → cells_of (header_in request) ≤ k → cell_at lent.cells k ≡ cell_at lent'.cells k)
    → start_of request lent ≡ start_of request lent'
start_follows request lent lent' ran ran' long rest =
    let d = demand3 request lent in
    let d' = demand3 request lent' in
    ext_get_or (pos 0) _ _ (d.start_long ran ∙ long ∙ sym (d'.start_long ran'))
    (λ k l.
    elim (dec_le (cells_of (header_in request)) k) [
      | yes q ↦ d.lent_cells ran k q ∙ rest k q ∙ sym (d'.lent_cells ran' k q)
      | no q ↦ d.laid_cells ran k (omega arith) ∙ sym (d'.laid_cells ran' k (omega arith))
    ])

-- Whatever a run leaves, its log accounts for: with the same log, from the same starting cells, the same cells are left.
pub log_accounts : (request request' : List ℕ) (lent lent' : Lent) → RanOn request lent → RanOn request' lent'
    → log_told request lent ≡ log_told request' lent' → start_of request lent ≡ start_of request' lent'
    → (outcome request lent).cells ≡ (outcome request' lent').cells
log_accounts request request' lent lent' ran ran' logs starts =
    let e : some (outcome request lent).cells ≡ some (outcome request' lent').cells =
    sym ((demand3 request lent).carried_out ran) ∙ ap₂ replay logs starts ∙ (demand3 request' lent').carried_out ran' in
    cc

-- A buffer for results that the method does not give stays as it was lent, however long it is.
pub untouched : (request : List ℕ) (lent : Lent) → RanOn request lent → (k : Kind) → (results_of (header_in request) k).count ≡ 0
    → (outcome request lent).results k ≡ lent.results k
untouched request lent ran k none_given = rw none_given at (((demand1 request lent).beyond ran).results k)
