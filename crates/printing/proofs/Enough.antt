-- What the desk lends is enough for the results of every request: whatever it reads, it meets neither 8, a results buffer too short, nor 9, which
-- foreign plans alone meet; so it prints neither. Rests on Told, limits' Refused and Numbers, and plans' Headers, Bounds and EachKind.
use mathlib.Core.Path.{◌≡◌, refl, sym, ap, ◌∙◌}
use mathlib.Core.Logic.{◌≢◌, inl, inr, ⊎_elim}
use mathlib.Core.List.{List, [], ◌∷◌}
use mathlib.Core.Option.{Option, none, some}
use Prim.Native.Nat.{ℕ, zero, suc, ◌-◌, ◌*◌, ◌<◌, ◌≤◌}
use native.Mathlib.Omega.{arith}
use lib.ListN.{get_or, length-replicate}
use Rattle.text.specs.Text.{leading, decimal, line_of}
use Rattle.answers.specs.Refusal.{Refusal}
use Rattle.answers.specs.Refusal.{plain, placed}
use Rattle.plans.specs.declared.Header.{Header}
use Rattle.plans.specs.Plan.{Accepted, Kind, distances, parents, route, by_kind}
use Rattle.plans.proofs.EachKind.{each_kind}
use Rattle.plans.proofs.Bounds.{square_le}
use Rattle.plans.proofs.Headers.{of_row, each_method}
use Rattle.headers.proofs.Headers.{accepted}
use Rattle.limits.specs.declared.Lengths.{Lengths}
use Rattle.limits.specs.Refusal.{room_for}
use Rattle.limits.specs.Word.{destination_in}
use Rattle.limits.specs.WithinLimits.{header_in, words_in, placed_in, AllKept, FirstBroken, BrokenAt, BrokenLast}
use Rattle.limits.specs.WithinLimits.{results_figure, public_limits, edge_limits, order_limits, word_limits, limits_at, last_of, last_limits}
use Rattle.limits.proofs.WithinLimits.{public_none}
use Rattle.limits.proofs.Refused.{plain_refused, word_refused}
use Rattle.limits.proofs.Numbers.{request_formed}
use Rattle.demands.specs.Run.{lengths_of, refusal_of, verdict_of_run, ran_by, outcome_by, outcome}
use Rattle.printing.specs.Literals.{text}
use Rattle.printing.specs.Texts.{refusal_text, text_of}
use Rattle.printing.specs.Bytes.{request_of}
use Rattle.printing.specs.Desk.{desk_lent, asks_all, desk_text}
use Rattle.printing.proofs.Told.{told_by}

-- The lengths of what the desk lends.
abbrev lengths : Lengths
lengths = lengths_of desk_lent

-- ---- room for the results of 32 vertices: 1,024 distances, 32 parents, a route of 31 edges

-- Each kind of results has room for a figure of it.
abbrev Fits : (figure : Kind → ℕ) → Type 0
Fits figure = (k : Kind) → figure k ≤ room_for lengths k

fits : (ds ps rs : ℕ) → ds ≤ 1024 → ps ≤ 32 → rs ≤ 31 → Fits (by_kind ds ps rs)
fits ds ps rs d p r =
    each_kind (λ k. by_kind ds ps rs k ≤ room_for lengths k)
    (simp length-replicate (omega arith)) (simp length-replicate (omega arith)) (simp length-replicate (omega arith))

results_fit : (method n : ℕ) → n ≤ 32 → Fits (results_figure method n)
results_fit method n few =
    let row = fits n n 0 (omega arith) few (omega arith) in
    let table = fits (n * n) 0 0 (square_le n few) (omega arith) (omega arith) in
    let routed = fits n n (n - 1) (omega arith) few (omega arith) in
    of_row Fits (by_kind n n 0 ∷ by_kind n n 0 ∷ by_kind n n 0 ∷ by_kind (n * n) 0 0 ∷ by_kind n n (n - 1) ∷ [])
    (row, (row, (row, (table, (routed, tt))))) method (λ k. 0) (λ k. omega arith)

-- ---- 8 and 9 are numbers of no limit that is broken

module _ (number : ℕ) where
  -- Of limits in their order: one of this number is kept where those before it are.
  abbrev Kept : List (ℕ × Type 0) → Type 0
  Kept [] = Unit {0}
  Kept (l ∷ ls) = (number ≡ l.0 → l.1) × (l.1 → Kept ls)

  unbroken : (ls : List (ℕ × Type 0)) → Kept ls → ¬ FirstBroken ls number
  unbroken [] kept broken = broken
  unbroken (l ∷ ls) (kept, after) (inl (is, broken)) = broken (kept is)
  unbroken (l ∷ ls) (kept, after) (inr (held, rest)) = unbroken ls (after held) rest

  module _ (from : 8 ≤ number) (to : number ≤ 9) where
    -- A limit of another number.
    lower : (k : ℕ) {P : Type 0} → k < 8 → number ≡ k → P
    lower k l e = let no : ⊥ = omega arith in absurd no

    higher : (k : ℕ) {P : Type 0} → 9 < k → number ≡ k → P
    higher k g e = let no : ⊥ = omega arith in absurd no

    public_kept : (request : List ℕ) → Kept (public_limits request lengths)
    public_kept request =
        let h = header_in request in (
          lower 1 (omega arith),
          λ some_word. (
            lower 1 (omega arith),
            λ method. (
              lower 2 (omega arith),
              λ vertices. (
                lower 3 (omega arith),
                λ edges. (
                  lower 4 (omega arith),
                  λ source. (
                    lower 5 (omega arith),
                    λ words. (
                      lower 6 (omega arith),
                      λ cells. (lower 7 (omega arith), λ log. (λ e. results_fit h.method h.vertices vertices.1, λ results. tt)),
                    ),
                  ),
                ),
              ),
            ),
          ),
        )

    edge_kept : (n word : ℕ) (more : List (ℕ × Type 0)) → Kept more → Kept (edge_limits n word more)
    edge_kept n word more kept = (
      higher 10 (omega arith),
      λ spare. (higher 13 (omega arith), λ from. (higher 14 (omega arith), λ to. (higher 11 (omega arith), λ weight. kept))),
    )

    word_kept : (h : Header) → Accepted h → (before word : ℕ) → Kept (word_limits h.method h.vertices before word)
    word_kept =
        each_method (λ h. (before word : ℕ) → Kept (word_limits h.method h.vertices before word))
        (λ n m source a before word. edge_kept n word [] tt)
        (λ n source a before word. (higher 10 (omega arith), λ spare. (higher 11 (omega arith), λ weight. tt)))
        (λ n m source a before word. edge_kept n word (order_limits before word) (higher 15 (omega arith), λ order. tt))
        (λ n m a before word. edge_kept n word [] tt)
        (λ n m source a before word. edge_kept n word [] tt)

    last_kept : (h : Header) → Accepted h → (destination : ℕ) → Kept (last_of h.method h.vertices destination)
    last_kept =
        each_method (λ h. (destination : ℕ) → Kept (last_of h.method h.vertices destination))
        (λ n m source a destination. tt)
        (λ n source a destination. tt)
        (λ n m source a destination. tt)
        (λ n m a destination. tt)
        (λ n m source a destination. (higher 16 (omega arith), λ there. tt))

    module _ (request : List ℕ) where
      header_accepted : AllKept (public_limits request lengths) → Accepted (header_in request)
      header_accepted public = accepted (header_in request) (sym ((public_none request lengths).0 public).1)

      -- No limit of the number is the first one broken: of what is public, of the word at a place, and after them.
      unbroken_last : ¬ BrokenLast request lengths number
      unbroken_last b =
          let h = header_in request in
          unbroken (last_limits request) (last_kept h (header_accepted b.public) (destination_in h (words_in request))) b.broken

      unbroken_at : (place : ℕ) → ¬ BrokenAt request lengths place number
      unbroken_at place b =
          let ws = placed_in request in
          let kept = word_kept (header_in request) (header_accepted b.public) (get_or (0 ∷ ws) place 0) (get_or ws place 0) in
          unbroken (limits_at request place) kept b.broken

      -- So no refusal of the number is met, and a run is told by 0 or 12.
      not_met : (r : Refusal) → refusal_of request desk_lent ≡ some r → r.number ≢ number
      not_met r met is =
          ⊎_elim
          (λ (alone : r ≡ plain r.number).
          ⊎_elim (unbroken (public_limits request lengths) (public_kept request)) unbroken_last
          ((plain_refused request lengths number).0 (met ∙ ap some (alone ∙ ap plain is))))
          (λ (at_place_is : r ≡ placed r.number r.place).
          unbroken_at r.place ((word_refused request lengths number r.place).0 (met ∙ ap some (at_place_is ∙ ap (λ k. placed k r.place) is))))
          ((request_formed request lengths).holds r met)

      ran_otherwise : (verdict : ℕ) → (ran_by verdict request desk_lent).answer.number ≢ number
      ran_otherwise zero e = omega arith
      ran_otherwise (suc more) e = omega arith

      by_refusal : (met : Option Refusal) → refusal_of request desk_lent ≡ met → (outcome_by met request desk_lent).answer.number ≢ number
      by_refusal none e = ran_otherwise (verdict_of_run request desk_lent)
      by_refusal (some r) e = not_met r e

      told_otherwise : (outcome request desk_lent).answer.number ≢ number
      unfolding outcome
      told_otherwise = by_refusal (refusal_of request desk_lent) refl

-- ---- the desk's program

-- Whatever request it reads. 9 is met by foreign plans alone.
pub never_eight : (request : List ℕ) → (outcome request desk_lent).answer.number ≢ 8
never_eight = told_otherwise 8 (omega arith) (omega arith)

pub never_nine : (request : List ℕ) → (outcome request desk_lent).answer.number ≢ 9
never_nine = told_otherwise 9 (omega arith) (omega arith)

-- So whatever its argument and the bytes are, these are not what it prints.
module _ (argument bytes : List ℕ) where
  told : (k : ℕ) (place : Option ℕ) → k < 10 → desk_text argument bytes ≡ refusal_text k place → (outcome (request_of bytes) desk_lent).answer.number ≡ k
  unfolding desk_text text_of
  told k place few =
      let o = outcome (request_of bytes) desk_lent in
      told_by (asks_all argument) (header_in (request_of bytes)) o.answer (o.results distances) (o.results parents) (o.results route) k few place

  pub never_prints_eight : desk_text argument bytes ≢ text "refused 8\n"
  unfolding line_of decimal leading
  never_prints_eight e = never_eight (request_of bytes) (told 8 none (omega arith) e)

  pub never_prints_nine : (place : ℕ) → desk_text argument bytes ≢ refusal_text 9 (some place)
  never_prints_nine place e = never_nine (request_of bytes) (told 9 (some place) (omega arith) e)
