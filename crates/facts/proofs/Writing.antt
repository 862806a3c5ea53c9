-- What specs/Writing says of writing a plan, for every header and buffer. Rests on limits' Agreed.
use mathlib.Core.Path.{◌≡◌, refl, sym, ap, ◌∙◌, subst}
use mathlib.Core.Logic.{◌↔◌, ◌⊎◌, inl, inr}
use mathlib.Core.Bool.{Bool}
use mathlib.Core.List.{List, [], ◌∷◌, ◌++◌}
use mathlib.Core.Option.{none, some}
use Prim.Native.Nat.{ℕ, ◌≤◌}
use native.Mathlib.Omega.{arith}
use lib.Dec.{leb}
use lib.ListN.{length, drop}
use lib.Seq.{take-append_seam, drop_at}
use Rattle.lists.proofs.Test.{by_test}
use Rattle.answers.specs.Refusal.{Refusal}
use Rattle.answers.specs.Refusal.{plain, Log, need, or_else}
use Rattle.answers.specs.Told.{Told}
use Rattle.answers.specs.Facts.{by_number}
use Rattle.answers.proofs.Unmet.{first_append, or_else_none}
use Rattle.plans.specs.declared.Header.{Header}
use Rattle.plans.specs.Plan.{Accepted, header_of, plan_of, length_of}
use Rattle.plans.proofs.Headers.{each_method}
use Rattle.plans.proofs.Figures.{length_plan}
use Rattle.headers.specs.Refusal.{header_tests, header_refusal}
use Rattle.headers.proofs.Headers.{accepted}
use Rattle.limits.specs.WithinLimits.{AllKept, FirstBroken, header_limits}
use Rattle.limits.proofs.Agreed.{Agree, Agrees, agreed}
use Rattle.limits.proofs.Limits.{at_most, header_agrees}
use Rattle.planner.specs.Written.{plan_refusal}
use Rattle.planner.specs.Facts.{writing_answered}
use Rattle.facts.specs.Writing.{plan_figure, size_of, writing_limits, DemandWriting}

figure : (h : Header) → Accepted h → length (plan_of h) ≡ plan_figure h.method h.vertices h.edges
unfolding length_of
figure h a =
    length_plan h a
    ∙ each_method (λ h. length_of h ≡ plan_figure h.method h.vertices h.edges)
    (λ n m source a. refl)
    (λ n source a. refl)
    (λ n m source a. refl)
    (λ n m a. refl)
    (λ n m source a. refl)
    h a

-- ---- any tests that agree with limits

module _ (tell : ℕ → Refusal) where
  settles : (ts : List (Bool × Refusal)) (ls : List (ℕ × Type 0)) → Agree tell ts ls → AllKept ls ⊎ ((k : ℕ) × FirstBroken ls k)
  settles [] [] g = inl tt
  settles [] (l ∷ ls) g = absurd g
  settles (t ∷ ts) [] g = absurd g
  settles (t ∷ ts) (l ∷ ls) (told, same, g) =
      by_test t.0
      (λ e.
      let p = same.0 (rw e tt) in
      elim (settles ts ls (g p)) [ inl r ↦ inl (p, r) | inr r ↦ inr (r.0, inr (p, r.1)) ])
      (λ e. inr (l.0, inl (refl, λ p. rw e at (same.1 p))))

-- ---- the header's and the buffer's

module _ (h : Header) (room : ℕ) where
  tests : List (Bool × Refusal)
  tests = (leb (length (plan_of h)) room, Log) ∷ []

  abbrev limits : List (ℕ × Type 0)
  limits = header_limits h.method h.vertices h.edges h.source ++ (7, plan_figure h.method h.vertices h.edges ≤ room) ∷ []

  agree : Agree plain (header_tests h ++ tests) limits
  unfolding tests
  agree =
      header_agrees h ((leb (length (plan_of h)) room, Log) ∷ []) ((7, plan_figure h.method h.vertices h.edges ≤ room) ∷ [])
      (λ a. (refl, rw (figure h a) (at_most (plan_figure h.method h.vertices h.edges) room), λ enough. tt))

  agrees : Agrees plain (or_else (header_refusal h) (need (leb (length (plan_of h)) room) Log none)) limits
  unfolding header_refusal tests
  agrees = rw (← first_append (header_tests h) tests) (agreed plain (λ k. refl) (header_tests h ++ tests) limits agree)

  accepted_by : or_else (header_refusal h) (need (leb (length (plan_of h)) room) Log none) ≡ none → Accepted h
  accepted_by e = accepted h (sym ((or_else_none (header_refusal h) _).0 e).0)

-- ---- every header and buffer

-- An answer that is a number alone is that of what is broken first, where either all is kept, and more is told, or something is broken.
exactly : (Kept : Type 0) (Broken : ℕ → Type 0) (t : Told) (size : ℕ) → (Kept → t ≡ record { number = 0; place = none; values = size ∷ [] })
    → ((k : ℕ) → Broken k → t ≡ by_number k) → Kept ⊎ ((k : ℕ) × Broken k) → (k : ℕ) → (t ≡ by_number k) ↔ Broken k
exactly Kept Broken t size done told either k = (
  λ e.
      elim either [
        | inl kept ↦ absurd (omega (arith, ap (λ (t : Told). length t.values) (sym (done kept) ∙ e)))
        | inr r ↦ subst Broken (ap (λ (t : Told). t.number) (sym (told r.0 r.1) ∙ e)) r.1
      ],
  told k,
)

module _ (buffer : List ℕ) where
  pub demand_writing : (header : List ℕ) → DemandWriting header buffer
  unfolding plan_refusal
  demand_writing [] =
      let none_kept : AllKept (writing_limits [] (length buffer)) → ⊥ = λ k. omega (arith, k.0) in
      let first : (number : ℕ) → FirstBroken (writing_limits [] (length buffer)) number → number ≡ 1 =
      λ number b. elim b [ inl e ↦ e.0 | inr e ↦ absurd (omega (arith, e.0)) ] in
      let either : AllKept (writing_limits [] (length buffer)) ⊎ ((number : ℕ) × FirstBroken (writing_limits [] (length buffer)) number) =
      inr (1, inl (refl, λ l. omega (arith, l))) in
      record {
        answers = λ k. absurd (none_kept k);
        writes = λ k. absurd (none_kept k);
        beyond = λ k. absurd (none_kept k);
        refuses = exactly _ _ _ 0 (λ k. absurd (none_kept k)) (λ number b. rw (first number b)) either;
        unchanged = λ number b. refl;
        settled = either;
      }
  demand_writing (w ∷ rest) =
      let h = header_of w in
      let room = length buffer in
      let all = agrees h room in
      let whole : AllKept (writing_limits (w ∷ rest) room) → length (plan_of h) ≡ size_of (w ∷ rest) =
      λ k. figure h (accepted_by h room (all.kept.1 k.1)) in
      let met : (number : ℕ) → FirstBroken (writing_limits (w ∷ rest) room) number
      → or_else (header_refusal h) (need (leb (length (plan_of h)) room) Log none) ≡ some (plain number) =
      λ number b. elim b [ inl e ↦ absurd (e.1 (omega arith)) | inr e ↦ (all.broken number).1 e.1 ] in
      let either : AllKept (writing_limits (w ∷ rest) room) ⊎ ((number : ℕ) × FirstBroken (writing_limits (w ∷ rest) room) number) =
      elim (settles plain (header_tests h ++ tests h room) (limits h room) (agree h room)) [
        | inl k ↦ inl (omega arith, k)
        | inr r ↦ inr (r.0, inr (omega arith, r.1))
      ] in
      let done : AllKept (writing_limits (w ∷ rest) room)
      → writing_answered (w ∷ rest) buffer ≡ record { number = 0; place = none; values = size_of (w ∷ rest) ∷ [] } =
      λ k. rw (all.kept.1 k.1, whole k) in
      record {
        answers = done;
        writes = λ k. rw (all.kept.1 k.1, ← whole k) (take-append_seam (plan_of h) _);
        beyond = λ k. rw (all.kept.1 k.1) (drop_at (plan_of h) _ (size_of (w ∷ rest)) (whole k) ∙ ap (λ (i : ℕ). drop i buffer) (whole k));
        refuses = exactly _ _ _ (size_of (w ∷ rest)) done (λ number b. rw (met number b)) either;
        unchanged = λ number b. rw (met number b);
        settled = either;
      }
