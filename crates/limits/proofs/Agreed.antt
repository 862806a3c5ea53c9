-- Tests that agree with limits in plain propositions: no refusal is met exactly where every limit is kept, and a refusal exactly where it is that of
-- the first limit broken. Rests on answers' Unmet.
use mathlib.Core.Path.{◌≡◌, refl, sym, ap, ◌∙◌}
use mathlib.Core.Logic.{◌↔◌, ◌⊎◌, inl, inr, ⊎_elim}
use mathlib.Core.Bool.{Bool, true, false}
use mathlib.Core.List.{List, [], ◌∷◌}
use mathlib.Core.Option.{Option, none, some, some-ne-none, some-injective}
use Prim.Native.Nat.{ℕ}
use lib.Dec.{T}
use Rattle.answers.specs.Refusal.{Refusal}
use Rattle.answers.specs.Refusal.{need, first_of}
use Rattle.answers.proofs.Unmet.{need_none}
use Rattle.limits.specs.WithinLimits.{AllKept, FirstBroken}

-- Each test passes exactly where its limit is kept, as far as those before it are kept; and they are told by the same number.
abbrev pub Agree : (tell : ℕ → Refusal) → List (Bool × Refusal) → List (ℕ × Type 0) → Type 0
Agree tell [] [] = Unit {0}
Agree tell [] (l ∷ ls) = ⊥
Agree tell (t ∷ ts) [] = ⊥
Agree tell (t ∷ ts) (l ∷ ls) = (t.1 ≡ tell l.0) × (T t.0 ↔ l.1) × (l.1 → Agree tell ts ls)

-- What is met says which limits are kept.
pub record Agrees (tell : ℕ → Refusal) (met : Option Refusal) (ls : List (ℕ × Type 0)) : Type 0 where
  pub kept : (met ≡ none) ↔ AllKept ls
  pub broken : (k : ℕ) → (met ≡ some (tell k)) ↔ FirstBroken ls k

-- With or without a place, a refusal is told by its number.
module _ (tell : ℕ → Refusal) (told_by : (k : ℕ) → (tell k).number ≡ k) where
  all_kept : (ts : List (Bool × Refusal)) (ls : List (ℕ × Type 0)) → Agree tell ts ls → (first_of ts ≡ none) ↔ AllKept ls
  all_kept [] [] g = (λ e. tt, λ k. refl)
  all_kept [] (l ∷ ls) g = absurd g
  all_kept (t ∷ ts) [] g = absurd g
  all_kept (t ∷ ts) (l ∷ ls) (told, same, g) =
      let head = need_none t.0 t.1 (first_of ts) in (
        λ e. let (passed, later) = head.0 e in let p = same.0 passed in (p, (all_kept ts ls (g p)).0 later),
        λ (p, rest). head.1 (same.1 p, (all_kept ts ls (g p)).1 rest),
      )

  module _ (k : ℕ) where
    same_number : (a : ℕ) → some (tell a) ≡ some (tell k) → k ≡ a
    same_number a e = sym (told_by k) ∙ sym (ap (λ r. r.number) (some-injective (tell a) (tell k) e)) ∙ told_by a

    -- b is a test, p its limit.
    by_test : (b : Bool) (a : ℕ) (p : Type 0) (later : Option Refusal) (rest : Type 0)
        → T b ↔ p → (p → (later ≡ some (tell k)) ↔ rest)
        → (need b (tell a) later ≡ some (tell k)) ↔ (((k ≡ a) × ¬ p) ⊎ (p × rest))
    by_test true a p later rest same after = (
      λ e. inr (same.0 tt, (after (same.0 tt)).0 e),
      ⊎_elim (λ (f : (k ≡ a) × ¬ p). absurd (f.1 (same.0 tt))) (λ (r : p × rest). (after r.0).1 r.1),
    )
    by_test false a p later rest same after = (
      λ e. inl (same_number a e, same.1),
      ⊎_elim (λ (f : (k ≡ a) × ¬ p). rw f.0) (λ (r : p × rest). absurd (same.1 r.0)),
    )

    first_broken : (ts : List (Bool × Refusal)) (ls : List (ℕ × Type 0)) → Agree tell ts ls → (first_of ts ≡ some (tell k)) ↔ FirstBroken ls k
    first_broken [] [] g = (λ e. some-ne-none (tell k) (sym e), λ no. absurd no)
    first_broken [] (l ∷ ls) g = absurd g
    first_broken (t ∷ ts) [] g = absurd g
    first_broken (t ∷ ts) (l ∷ ls) (told, same, g) =
        rw told (by_test t.0 l.0 l.1 (first_of ts) (FirstBroken ls k) same (λ p. first_broken ts ls (g p)))

  pub agreed : (ts : List (Bool × Refusal)) (ls : List (ℕ × Type 0)) → Agree tell ts ls → Agrees tell (first_of ts) ls
  agreed ts ls g = record { kept = all_kept ts ls g; broken = λ k. first_broken k ts ls g }
