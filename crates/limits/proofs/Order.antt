-- The checks of a request in their order, by the ways out of `check`. Rests on Sizes and headers' Headers.
use mathlib.Core.Path.{◌≡◌, refl, sym, ap, ◌∙◌}
use mathlib.Core.List.{List, [], ◌∷◌}
use mathlib.Core.Option.{none, some}
use Rattle.std.specs.Prelude.{Ok, Err}
use Prim.Native.Nat.{ℕ, ◌-◌, ◌≤◌}
use native.Mathlib.Omega.{arith}
use lib.ListN.{length, get_or, take, drop, length-drop}
use lib.Seq.{take-length}
use Rattle.answers.specs.Refusal.{Refusal}
use Rattle.answers.specs.declared.Refusal as Code
use Rattle.answers.specs.Refusal.{Method, rule_of, Checked, found, or_else}
use Rattle.plans.specs.declared.Header.{Header}
use Rattle.plans.specs.Plan as Plan
use Rattle.plans.specs.Plan.{header_of, word_count_of}
use Rattle.plans.proofs.Headers.{each_method}
use Rattle.headers.specs.Refusal.{header_refusal}
use Rattle.headers.proofs.Headers.{accepted}
use Rattle.limits.specs.declared.Lengths.{Lengths}
use Rattle.limits.specs.Refusal.{sizes_refusal, words_refusal, last_refusal, request_refusal}
use Rattle.limits.specs.Word.{placed_count, placed_words}
use Rattle.limits.proofs.Sizes.{sizes_none}

pub no_word : (request : List ℕ) (lent : Lengths) → length request ≡ 0
    → some Method ≡ request_refusal request lent
unfolding request_refusal
no_word [] lent e = refl
no_word (w ∷ ws) lent e = let no : ⊥ = omega arith in absurd no

pub in_order : (request : List ℕ) (lent : Lengths) → (length request ≡ 0 → ⊥)
    → request_refusal request lent
    ≡ or_else (header_refusal (header_of (get_or request 0 0)))
    (or_else (sizes_refusal (header_of (get_or request 0 0)) (length (drop 1 request)) lent)
    (or_else (words_refusal (header_of (get_or request 0 0)) 0 0 (placed_words (header_of (get_or request 0 0)) (drop 1 request)))
    (last_refusal (header_of (get_or request 0 0)) (drop 1 request))))
unfolding request_refusal
in_order [] lent n = absurd (n refl)
in_order (w ∷ ws) lent n = refl

pub placed_few : (h : Header) → Plan.Accepted h → placed_count h.method h.vertices h.edges ≤ word_count_of h
unfolding word_count_of
placed_few =
    each_method (λ h. placed_count h.method h.vertices h.edges ≤ word_count_of h) (λ n m source a. omega arith)
    (λ n source a. omega arith) (λ n m source a. omega arith) (λ n m a. omega arith) (λ n m source a. omega arith)

-- The words after the header, as they are lent.
pub after_header : (request : List ℕ) → take (length request - 1) (drop 1 request) ≡ drop 1 request
after_header request = rw (← length-drop 1 request) (take-length (drop 1 request))

-- ws are the words after the header; t and u are what the checks of the sizes and of the words answer.
module _ (request : List ℕ) (lent : Lengths) (some_word : 1 ≤ length request)
    (h : Header) (is : h ≡ header_of (get_or request 0 0)) (ws : List ℕ) (after : ws ≡ drop 1 request) where
  all_checks : request_refusal request lent
      ≡ or_else (header_refusal h)
      (or_else (sizes_refusal h (length ws) lent) (or_else (words_refusal h 0 0 (placed_words h ws)) (last_refusal h ws)))
  all_checks = rw (is, after) (in_order request lent (λ none. omega arith))

  pub header_bad : (r : Refusal) → some r ≡ header_refusal h → some r ≡ request_refusal request lent
  header_bad r e = rw (all_checks, ← e)

  module _ (fine : none ≡ header_refusal h) (t : Checked) (sizes : found t ≡ sizes_refusal h (length ws) lent) where
    pub sizes_bad : (r : Code.Refusal) → t ≡ Err r → some (rule_of r) ≡ request_refusal request lent
    sizes_bad r e = rw (all_checks, ← fine, ← sizes, e)

    module _ (enough : t ≡ Ok tt) where
      -- There are as many words as the header says, those with a place among them.
      pub counted : length ws ≡ word_count_of h
      counted = ((sizes_none h _ lent).0 (rw enough at (sym sizes))).counted

      pub words_there : (count : ℕ) → count ≡ placed_count h.method h.vertices h.edges → count ≤ length ws
      words_there count e = omega (arith, e, counted, placed_few h (accepted h fine))

      module _ (count : ℕ) (count_is : count ≡ placed_count h.method h.vertices h.edges) (u : Checked)
          (words : found u ≡ words_refusal h 0 0 (take count ws)) where
        words_are : found u ≡ words_refusal h 0 0 (placed_words h ws)
        words_are = words ∙ ap (λ k. words_refusal h 0 0 (take k ws)) count_is

        pub words_bad : (r : Code.Refusal) → u ≡ Err r → some (rule_of r) ≡ request_refusal request lent
        words_bad r e = rw (all_checks, ← fine, ← sizes, enough, ← words_are, e)

        pub last_says : u ≡ Ok tt → last_refusal h ws ≡ request_refusal request lent
        last_says e = rw (all_checks, ← fine, ← sizes, enough, ← words_are, e)
