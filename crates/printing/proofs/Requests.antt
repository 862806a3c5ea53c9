-- Which request bytes make, for every row of bytes; and that a broken or cut request counts for 5, after 1 to 4.
-- Rests on Handed and Padded.
use mathlib.Core.Path.{◌≡◌, sym, ap, ◌∙◌}
use mathlib.Core.Logic.{◌⊎◌, ⊎_elim}
use mathlib.Core.List.{List, [], ◌∷◌}
use mathlib.Core.Option.{some}
use Prim.Native.Nat.{ℕ, ◌-◌, ◌/◌, ◌%◌, ◌<◌, ◌≤◌}
use native.Mathlib.Nat.{eq-zero-or-pos}
use native.Mathlib.Omega.{arith}
use lib.ListN.{length, take, drop, replicate}
use lib.Seq.{take_all, take-append_seam}
use Rattle.lists.specs.Buffers.{overwritten}
use Rattle.answers.specs.Refusal.{Method, Words, or_else}
use Rattle.plans.specs.Plan.{header_of}
use Rattle.plans.specs.Blocks.{flat}
use Rattle.headers.specs.Refusal.{header_refusal}
use Rattle.limits.specs.declared.Lengths.{Lengths}
use Rattle.limits.specs.Refusal.{request_refusal}
use Rattle.printing.specs.Bytes.{word_at, too_many, whole_count, whole_words, handed_over, request_of}
use Rattle.printing.proofs.Handed.{none_handed, whole_handed, whole_length}
use Rattle.printing.proofs.Padded.{too_many_is, padded_count, first, cut_longer}

-- Under eight bytes there is no request: refusal 1.
pub missing : (bytes : List ℕ) → length bytes < 8 → request_of bytes ≡ []
unfolding request_of
missing bytes h = rw (sym (none_handed (length bytes) h))

pub missing_refused : (bytes : List ℕ) (lent : Lengths) → length bytes < 8
    → request_refusal (request_of bytes) lent ≡ some Method
unfolding request_refusal
missing_refused bytes lent h = rw (missing bytes h)

-- Whole words make the request of just these words.
pub whole : (bytes : List ℕ) → 8 ≤ length bytes → length bytes ≤ 8208 → length bytes % 8 ≡ 0
    → request_of bytes ≡ flat (length bytes / 8) (λ k. word_at bytes k ∷ [])
unfolding request_of whole_words
whole bytes h m e =
    let n : whole_count (length bytes) ≡ length bytes / 8 = omega arith in
    let s : handed_over (length bytes) ≡ length (whole_words bytes) = sym (whole_handed (length bytes) h e) ∙ sym (whole_length bytes) in
    ap (λ (k : ℕ). take k (overwritten (whole_words bytes) (replicate too_many 0))) s
    ∙ take-append_seam (whole_words bytes) (drop (length (whole_words bytes)) (replicate too_many 0))
    ∙ ap (λ (k : ℕ). flat k (λ j. word_at bytes j ∷ [])) n

-- A broken last word, or more words than any request has: 1 to 4 by the request's own header, or else 5, whatever is lent.
pub broken : (bytes : List ℕ) (lent : Lengths) → 8 ≤ length bytes
    → (length bytes % 8 ≡ 0 → ⊥) ⊎ (8208 ≤ length bytes)
    → request_refusal (request_of bytes) lent ≡ or_else (header_refusal (header_of (word_at bytes 0))) (some Words)
broken bytes lent h x =
    too_many_is (request_of bytes) lent (omega (arith, padded_count bytes h x))
    ∙ ap (λ (w : ℕ). or_else (header_refusal (header_of w)) (some Words)) (first bytes h)

-- Nothing beyond 8,208 bytes counts, so a program may stop reading there.
pub cut : (bytes : List ℕ) → request_of (take 8208 bytes) ≡ request_of bytes
cut bytes =
    ⊎_elim (λ (e : length bytes - 8208 ≡ 0). ap request_of (take_all 8208 bytes (omega arith)))
    (λ (p : 0 < length bytes - 8208). cut_longer bytes (omega arith)) (eq-zero-or-pos (length bytes - 8208))
