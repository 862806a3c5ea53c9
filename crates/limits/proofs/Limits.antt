-- The tests of a request agree with its limits in plain propositions: those of the header and of the sizes, and of each word.
-- Rests on Agreed and on the laws of plans.
use mathlib.Core.Path.{◌≡◌, refl, sym, ap}
use mathlib.Core.Logic.{◌↔◌, ◌⊎◌, inl, inr, ⊎_elim}
use mathlib.Core.Bool.{Bool, ◌&&◌}
use mathlib.Core.List.{List, [], ◌∷◌, ◌++◌}
use Prim.Native.Nat.{ℕ, zero, suc, ◌+◌, ◌-◌, ◌*◌, ◌<◌, ◌≤◌}
use native.Mathlib.Nat.{add-zero}
use native.Mathlib.Omega.{arith}
use lib.Dec.{T, ltb, leb, eqb, ltb→lt, leb→le, eqb→eq, lt→ltb, le→leb}
use lib.IntN.{ℤ, pos, negsuc, nat_abs, pos-ne-negsuc}
use lib.ListN.{get_or}
use lib.Signed.{le_z, ◌≤ℤ◌, le_z_yes}
use mir.Facts.{and_yes, yes_and}
use borrow.Author.Tests.{eq-eqb, eqb-true, eqb-false}
use Rattle.lists.proofs.Test.{by_test}
use Rattle.answers.specs.Refusal.{Refusal}
use Rattle.answers.specs.Refusal.{plain, placed, or_else}
use Rattle.answers.proofs.Unmet.{first_append}
use Rattle.plans.specs.declared.Header.{Header}
use Rattle.plans.specs.Limits.{is_in, methods, most_weight, least_weight}
use Rattle.plans.specs.Plan.{Accepted, word_count_of, cells_of, Kind, results_of, length_of, verdict_cell}
use Rattle.plans.proofs.EachKind.{each_kind, each_kind_is}
use Rattle.plans.proofs.Headers.{header, each_method}
use Rattle.headers.specs.Refusal.{header_tests, header_refusal}
use Rattle.limits.specs.declared.Lengths.{Lengths}
use Rattle.limits.specs.Word.{destination_in, from_field, to_field, spare_of_edge, spare_of_entry, weight_of}
use Rattle.limits.specs.Refusal.{log_length_of, room_for, asked_of, sizes_tests, sizes_refusal, in_range, edge_tests, edge_refusal, order_tests, sorted_refusal, entry_tests, entry_refusal, word_refusal, last_tests, last_refusal}
use Rattle.limits.specs.WithinLimits.{OneOf, header_limits, log_figure, results_figure, sizes_limits, edge_limits, order_limits, entry_limits, word_limits, last_of}
use Rattle.limits.proofs.Agreed.{Agree, Agrees, agreed}

-- ---- one test

is_zero_is : (x : ℕ) → T (eqb x 0) ↔ (x ≡ 0)
is_zero_is x = (eqb→eq x 0, λ e. rw (eq-eqb x 0 e) tt)

is_below : (x n : ℕ) → T (ltb x n) ↔ (x < n)
is_below x n = (ltb→lt x n, lt→ltb x n)

pub at_most : (x y : ℕ) → T (leb x y) ↔ (x ≤ y)
at_most x y = (leb→le x y, le→leb x y)

-- ---- what is public

is_one : (xs : List ℕ) (k : ℕ) → T (is_in xs k) ↔ OneOf xs k
is_one [] k = (λ t. t, λ o. o)
is_one (x ∷ xs) k =
    by_test (eqb k x)
    (λ e. (λ t. inl (eqb-true k x e), λ o. rw e tt))
    (λ e.
    let rest = is_one xs k in (
      λ t. inr (rest.0 (rw e at t)),
      ⊎_elim (λ (q : k ≡ x). absurd (eqb-false k x e q)) (λ o. rw e (rest.1 o)),
    ))

-- The log that the header asks for.
log_figure_is : (h : Header) → Accepted h → log_figure h.method h.vertices h.edges ≡ log_length_of h
unfolding log_length_of verdict_cell length_of
log_figure_is =
    each_method (λ h. log_figure h.method h.vertices h.edges ≡ log_length_of h)
    (λ n m source a. one_more (3 * n) 4 (m * (8 * (n * n) + 3 * n - 1)))
    (λ n source a. sym (add-zero _))
    (λ n m source a. one_more (3 * (n * n) + 3 * n) 5 (m * (3 * (n * n) + 10 * n - 1)))
    (λ n m a. one_more (3 * (n * n * n) + 5 * (n * n) + 4 * n) 27 (m * (3 * (n * n) + 6 * n)))
    (λ n m source a. one_more (3 * (n * n) + 2 * n) 4 (m * (8 * (n * n) + 5 * n)))
  where
    one_more : (a b x : ℕ) → a + suc b + x ≡ a + b + x + 1
    one_more a b x = omega arith

-- The results of each kind.
results_figure_is : (h : Header) → Accepted h → (k : Kind) → results_figure h.method h.vertices k ≡ room_for (asked_of h) k
unfolding results_of
results_figure_is =
    each_method (λ h. (k : Kind) → results_figure h.method h.vertices k ≡ room_for (asked_of h) k)
    (λ n m source a. each_kind _ refl refl refl)
    (λ n source a. each_kind _ refl refl refl)
    (λ n m source a. each_kind _ refl refl refl)
    (λ n m a. each_kind _ refl refl refl)
    (λ n m source a. each_kind _ refl refl refl)

sizes_agree : (h : Header) → Accepted h → (words : ℕ) (lent : Lengths)
    → Agree plain (sizes_tests h words lent) (sizes_limits h.method h.vertices h.edges words lent)
unfolding word_count_of cells_of
sizes_agree h a words lent =
    let enough : Kind → Bool = λ k. leb (room_for (asked_of h) k) (room_for lent k) in (
      refl,
      (eqb→eq words _, λ e. rw (eq-eqb words _ e) tt),
      λ counted. (
        refl,
        at_most (cells_of h) lent.cells,
        λ cells. (
          refl,
          rw (log_figure_is h a) (at_most (log_length_of h) lent.log),
          λ log. (
            refl,
            (
              λ t k. rw (results_figure_is h a k) (leb→le (room_for (asked_of h) k) (room_for lent k) ((each_kind_is enough).0 t k)),
              λ f. (each_kind_is enough).1 (λ k. le→leb (room_for (asked_of h) k) (room_for lent k) (rw (results_figure_is h a k) at (f k))),
            ),
            λ results. tt,
          ),
        ),
      ),
    )

-- The tests that come after the header's may rest on it.
pub header_agrees : (h : Header) (ts : List (Bool × Refusal)) (ls : List (ℕ × Type 0)) → (Accepted h → Agree plain ts ls)
    → Agree plain (header_tests h ++ ts) (header_limits h.method h.vertices h.edges h.source ++ ls)
header_agrees h ts ls after = (
  refl,
  is_one methods h.method,
  λ known. (
    refl,
    (
      λ t. let (some_vertex, few) = and_yes (ltb 0 h.vertices) _ t in (ltb→lt 0 h.vertices some_vertex, leb→le h.vertices 32 few),
      λ p. yes_and (ltb 0 h.vertices) _ (lt→ltb 0 h.vertices p.0) (le→leb h.vertices 32 p.1),
    ),
    λ vertices. (
      refl,
      at_most h.edges _,
      λ edges. (
        refl,
        is_below h.source _,
        λ source.
            after
            (record {
              known = (is_one methods h.method).1 known;
              vertices_some = vertices.0;
              vertices_few = vertices.1;
              edges_few = edges;
              source_there = source;
            }),
      ),
    ),
  ),
)

pub public_agrees : (h : Header) (words : ℕ) (lent : Lengths)
    → Agrees plain (or_else (header_refusal h) (sizes_refusal h words lent))
    (header_limits h.method h.vertices h.edges h.source ++ sizes_limits h.method h.vertices h.edges words lent)
unfolding header_refusal sizes_refusal
public_agrees h words lent =
    let sizes = sizes_limits h.method h.vertices h.edges words lent in
    rw (← first_append (header_tests h) (sizes_tests h words lent))
    (agreed plain (λ k. refl) (header_tests h ++ sizes_tests h words lent)
    (header_limits h.method h.vertices h.edges h.source ++ sizes)
    (header_agrees h (sizes_tests h words lent) sizes (λ a. sizes_agree h a words lent)))

-- ---- a word

between : (z : ℤ) → T (le_z least_weight z && le_z z (pos most_weight)) ↔ ((least_weight ≤ℤ z) × (z ≤ℤ pos most_weight))
between z = (
  λ t. let (least, most) = and_yes (le_z least_weight z) _ t in (le_z_yes least, le_z_yes most),
  λ p. yes_and (le_z least_weight z) _ p.0.le p.1.le,
)

-- From -1 to the most: -1, or from 0 to the most.
or_none : (z : ℤ)
    → T (le_z (negsuc 0) z && le_z z (pos most_weight)) ↔ ((z ≡ negsuc 0) ⊎ ((pos 0 ≤ℤ z) × (z ≤ℤ pos most_weight)))
or_none (pos n) = (
  λ t. inr (le_z_yes (le→leb 0 n (omega arith)), le_z_yes t),
  ⊎_elim (λ (e : pos n ≡ negsuc 0). absurd (pos-ne-negsuc n 0 e)) (λ p. p.1.le),
)
or_none (negsuc zero) = (λ t. inl refl, λ p. tt)
or_none (negsuc (suc n)) = (
  λ t. let no : ⊥ = omega (arith, leb→le (suc n) 0 (and_yes (leb (suc n) 0) _ t).0) in absurd no,
  ⊎_elim (λ (e : negsuc (suc n) ≡ negsuc 0). let no : ⊥ = omega (arith, ap nat_abs e) in absurd no) (λ p. absurd p.0.le),
)

edge_agrees : (n place w : ℕ) (ts : List (Bool × Refusal)) (ls : List (ℕ × Type 0)) → Agree (λ k. placed k place) ts ls
    → Agree (λ k. placed k place) (edge_tests n place w ts) (edge_limits n w ls)
unfolding in_range
edge_agrees n place w ts ls more = (
  refl,
  is_zero_is (spare_of_edge w),
  λ spare. (refl, is_below (from_field w) n, λ from. (refl, is_below (to_field w) n, λ to. (refl, between (weight_of w), λ weight. more))),
)

order_agrees : (place before w : ℕ) → Agree (λ k. placed k place) (order_tests place before w) (order_limits before w)
order_agrees place before w = (refl, at_most (to_field before) (to_field w), λ order. tt)

entry_agrees : (place w : ℕ) → Agree (λ k. placed k place) (entry_tests place w) (entry_limits w)
unfolding in_range
entry_agrees place w = (refl, is_zero_is (spare_of_entry w), λ spare. (refl, or_none (weight_of w), λ weight. tt))

-- With nothing more.
lone_edge : (n place w : ℕ) → Agrees (λ k. placed k place) (edge_refusal n place w) (edge_limits n w [])
unfolding edge_refusal
lone_edge n place w =
    agreed (λ k. placed k place) (λ k. refl) (edge_tests n place w []) (edge_limits n w []) (edge_agrees n place w [] [] tt)

pub word_agrees : (h : Header) → Accepted h → (place before w : ℕ)
    → Agrees (λ k. placed k place) (word_refusal h place before w) (word_limits h.method h.vertices before w)
unfolding word_refusal sorted_refusal entry_refusal
word_agrees =
    each_method
    (λ h. (place before w : ℕ)
    → Agrees (λ k. placed k place) (word_refusal h place before w) (word_limits h.method h.vertices before w))
    (λ n m source a place before w. lone_edge n place w)
    (λ n source a place before w. agreed (λ k. placed k place) (λ k. refl) (entry_tests place w) (entry_limits w) (entry_agrees place w))
    (λ n m source a place before w.
    let ts = order_tests place before w in
    let ls = order_limits before w in
    agreed (λ k. placed k place) (λ k. refl) (edge_tests n place w ts) (edge_limits n w ls)
    (edge_agrees n place w ts ls (order_agrees place before w)))
    (λ n m a place before w. lone_edge n place w)
    (λ n m source a place before w. lone_edge n place w)

-- ---- what is tested last

pub last_agrees : (h : Header) → Accepted h → (ws : List ℕ)
    → Agrees plain (last_refusal h ws) (last_of h.method h.vertices (destination_in h ws))
unfolding last_refusal
last_agrees =
    each_method (λ h. (ws : List ℕ) → Agrees plain (last_refusal h ws) (last_of h.method h.vertices (destination_in h ws)))
    (λ n m source a ws. agreed plain (λ k. refl) [] [] tt)
    (λ n source a ws. agreed plain (λ k. refl) [] [] tt)
    (λ n m source a ws. agreed plain (λ k. refl) [] [] tt)
    (λ n m a ws. agreed plain (λ k. refl) [] [] tt)
    (λ n m source a ws.
    agreed plain (λ k. refl) (last_tests (header 5 n m source) ws) (last_of 5 n (get_or ws m 0)) (refl, is_below (get_or ws m 0) n, λ there. tt))
