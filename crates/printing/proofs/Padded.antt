-- Bytes that count as 1,026 words: which refusal such a request meets, and that bytes beyond 8,208 change nothing.
-- Rests on Handed, plans' Bounds and Headers, and headers' Headers.
use mathlib.Core.Path.{◌≡◌, refl, sym, ap, ◌∙◌}
use mathlib.Core.Logic.{◌⊎◌, inr, ⊎_elim}
use mathlib.Core.List.{List, [], ◌∷◌}
use mathlib.Core.Option.{Option, none, some}
use Prim.Native.Nat.{ℕ, zero, suc, ◌+◌, ◌*◌, ◌%◌, ◌<◌, ◌≤◌}
use native.Mathlib.Nat.{eq-zero-or-pos}
use native.Mathlib.Omega.{arith}
use lib.ListN.{length, get_or, take, drop, replicate, get_or-append}
use lib.Seq.{take_all, get_or-take, length-take-le}
use borrow.Author.Tests.{ne_eqb}
use Rattle.lists.specs.Buffers.{overwritten}
use Rattle.fields.specs.Fields.{join_of}
use Rattle.answers.specs.Refusal.{Refusal}
use Rattle.answers.specs.Refusal.{Words, or_else}
use Rattle.plans.specs.declared.Header.{Header}
use Rattle.plans.specs.Plan.{Accepted, header_of, word_count_of}
use Rattle.plans.specs.Blocks.{flat}
use Rattle.plans.proofs.Blocks.{flat_same}
use Rattle.plans.proofs.Bounds.{square_le}
use Rattle.plans.proofs.Headers.{each_method}
use Rattle.headers.specs.Refusal.{header_refusal}
use Rattle.headers.proofs.Headers.{accepted}
use Rattle.limits.specs.declared.Lengths.{Lengths}
use Rattle.limits.specs.Refusal.{sizes_refusal, request_refusal}
use Rattle.printing.specs.Bytes.{joined_from, word_at, too_many, whole_count, whole_words, handed_over, request_of}
use Rattle.printing.proofs.Handed.{whole_handed, broken_handed, whole_length, whole_at, padded_length, first_word}

-- ---- too many words

words_most : (h : Header) → Accepted h → word_count_of h ≤ 1024
unfolding word_count_of
words_most =
    each_method (λ h. word_count_of h ≤ 1024) (λ n m source a. omega (arith, a.edges_few)) (λ n source a. square_le n a.vertices_few)
    (λ n m source a. omega (arith, a.edges_few)) (λ n m a. omega (arith, a.edges_few)) (λ n m source a. omega (arith, a.edges_few))

by_header : (h : Header) (words : List ℕ) (lent : Lengths) (o later : Option Refusal) → header_refusal h ≡ o
    → 1024 < length words
    → or_else o (or_else (sizes_refusal h (length words) lent) later) ≡ or_else o (some Words)
unfolding sizes_refusal
by_header h words lent none later e l =
    let m = words_most h (accepted h (sym e)) in
    rw (ne_eqb (length words) (word_count_of h) (λ q. omega arith))
by_header h words lent (some r) later e l = refl

pub too_many_is : (request : List ℕ) (lent : Lengths) → 1025 < length request
    → request_refusal request lent ≡ or_else (header_refusal (header_of (get_or request 0 0))) (some Words)
unfolding request_refusal
too_many_is [] lent l = let no : ⊥ = omega arith in absurd no
too_many_is (w ∷ ws) lent l =
    by_header (header_of w) ws lent (header_refusal (header_of w)) _ refl (omega arith)

-- Broken, or longer than any request.
abbrev pub Excess : (size : ℕ) → Type 0
Excess size = (size % 8 ≡ 0 → ⊥) ⊎ (8208 ≤ size)

excess_handed : (size : ℕ) → 8 ≤ size → Excess size → handed_over size ≡ too_many
excess_handed size h x =
    ⊎_elim (λ (n : size % 8 ≡ 0 → ⊥). sym (broken_handed size h n))
    (λ (l : 8208 ≤ size). ⊎_elim (λ (e : size % 8 ≡ 0). sym (whole_handed size h e) ∙ omega arith)
    (λ (p : 0 < size % 8). sym (broken_handed size h (λ (e : size % 8 ≡ 0). omega arith))) (eq-zero-or-pos (size % 8))) x

pub padded : (bytes : List ℕ) → 8 ≤ length bytes → Excess (length bytes) → request_of bytes ≡ overwritten (whole_words bytes) (replicate too_many 0)
unfolding request_of
padded bytes h x =
    let l = padded_length too_many (whole_words bytes) (omega (arith, whole_length bytes)) in
    ap (λ (k : ℕ). take k (overwritten (whole_words bytes) (replicate too_many 0))) (excess_handed (length bytes) h x)
    ∙ take_all too_many (overwritten (whole_words bytes) (replicate too_many 0)) (omega (arith, l))

pub padded_count : (bytes : List ℕ) → 8 ≤ length bytes → Excess (length bytes) → length (request_of bytes) ≡ too_many
padded_count bytes h x = ap length (padded bytes h x) ∙ padded_length too_many (whole_words bytes) (omega (arith, whole_length bytes))

pub first : (bytes : List ℕ) → 8 ≤ length bytes → get_or (request_of bytes) 0 0 ≡ word_at bytes 0
first bytes h =
    sym (first_word bytes)
    ∙ get_or-append (whole_words bytes) (drop (length (whole_words bytes)) (replicate too_many 0)) 0 0 (omega (arith, whole_length bytes))
    ∙ whole_at bytes 0 (omega arith)

-- ---- nothing is read beyond 8,208 bytes

joined_cut : (n : ℕ) (bytes : List ℕ) (at count : ℕ) → at + count ≤ n → joined_from (take n bytes) at count ≡ joined_from bytes at count
unfolding joined_from
joined_cut n bytes at zero h = refl
joined_cut n bytes at (suc count) h =
    ap (λ (w : ℕ). join_of w (get_or (take n bytes) (at + count) 0) 8) (joined_cut n bytes at count (omega arith))
    ∙ ap (λ (b : ℕ). join_of (joined_from bytes at count) b 8) (get_or-take n bytes (at + count) 0 (omega arith))

cut_words : (bytes : List ℕ) → 8208 ≤ length bytes → whole_words (take 8208 bytes) ≡ whole_words bytes
unfolding whole_words
cut_words bytes l =
    let s : length (take 8208 bytes) ≡ 8208 = length-take-le 8208 bytes l in
    let n : whole_count (length (take 8208 bytes)) ≡ too_many = omega arith in
    let m : too_many ≡ whole_count (length bytes) = omega arith in
    ap (λ (k : ℕ). flat k (λ j. word_at (take 8208 bytes) j ∷ [])) n
    ∙ flat_same too_many (λ j. word_at (take 8208 bytes) j ∷ []) (λ j. word_at bytes j ∷ [])
    (λ (j : ℕ) (h : j < too_many). ap (λ (w : ℕ). w ∷ []) (joined_cut 8208 bytes (8 * j) 8 (omega arith)))
    ∙ ap (λ (k : ℕ). flat k (λ j. word_at bytes j ∷ [])) m

pub cut_longer : (bytes : List ℕ) → 8208 ≤ length bytes → request_of (take 8208 bytes) ≡ request_of bytes
cut_longer bytes l =
    let s : length (take 8208 bytes) ≡ 8208 = length-take-le 8208 bytes l in
    padded (take 8208 bytes) (omega arith) (inr (omega arith))
    ∙ ap (λ (ws : List ℕ). overwritten ws (replicate too_many 0)) (cut_words bytes l)
    ∙ sym (padded bytes (omega arith) (inr l))
