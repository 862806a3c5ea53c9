-- The short listing leaves out the vertices that no walk leads to, and nothing else; a refusal has one text.
-- Rests on demand 2, Unrefused and the machine's Tested.
use mathlib.Core.Path.{◌≡◌}
use mathlib.Core.Logic.{◌⊎◌, inl, inr, ◌≢◌}
use mathlib.Core.Bool.{true, false, true≢false}
use mathlib.Core.List.{List, []}
use Prim.Native.Nat.{ℕ, ◌+◌, ◌*◌, ◌<◌}
use borrow.Author.Tests.{eq-eqb, ne_eqb}
use Rattle.lists.proofs.Test.{by_test}
use Rattle.text.specs.Text.{numbers_line}
use Rattle.machine.specs.Effect.{eq_z}
use Rattle.machine.proofs.Tested.{equal}
use Rattle.plans.specs.Limits.{far}
use Rattle.plans.specs.Plan.{distances, route}
use Rattle.limits.specs.WithinLimits.{header_in}
use Rattle.demands.specs.Run.{Lent, Outcome, outcome}
use Rattle.demands.specs.Demands.{result_of}
use Rattle.demands.proofs.Theorems.{demand2}
use Rattle.printing.specs.Texts.{listed_text, rows_text, route_text, first_numbers, text_of}
use Rattle.printing.specs.Listings.{row_count, Reached, line_at, Listings}
use Rattle.printing.proofs.Unrefused.{ran, no_cycle}

module _ (request : List ℕ) (lent : Lent) (unrefused : (outcome request lent).answer.number ≡ 0) where
  -- What the short listing has of a vertex.
  abbrev listed_at : (row v : ℕ) → List ℕ
  listed_at r v = listed_text false (result_of request lent distances (r * (header_in request).vertices + v)) (line_at request lent r v)

  listed : (r v : ℕ) → r < row_count request → v < (header_in request).vertices
      → (Reached request r v × (listed_at r v ≡ line_at request lent r v)) ⊎ ((¬ Reached request r v) × (listed_at r v ≡ []))
  listed r v there below =
      let d = result_of request lent distances (r * (header_in request).vertices + v) in
      let least = (demand2 request lent).least_totals (ran request lent unrefused) (no_cycle request lent unrefused) r there in
      by_test (eq_z d far) (λ e. inr ((least.unreached v below).0 ((equal d far).0 e), rw e))
      (λ e.
      let (es, leads) = least.reached v below (λ is_far. true≢false (rw ((equal d far).1 is_far) at e)) in
      inl ((es, leads.leads), rw e))

  pub listings : Listings request lent (text_of false request (outcome request lent)) (text_of true request (outcome request lent))
  unfolding text_of rows_text
  listings =
      let h = header_in request in
      let told = (outcome request lent).answer.values in
      record {
        front = numbers_line (first_numbers h told);
        back = route_text h ((outcome request lent).results route);
        long_is = rw (eq-eqb (outcome request lent).answer.number 0 unrefused);
        listed = listed_at;
        short_is = rw (eq-eqb (outcome request lent).answer.number 0 unrefused);
        reached = λ r v there below walk. elim (listed r v there below) [ inl x ↦ x.1 | inr x ↦ absurd (x.0 walk) ];
        unreached = λ r v there below no_walk. elim (listed r v there below) [ inl x ↦ absurd (no_walk x.0) | inr x ↦ x.1 ];
      }

-- A refusal, a loss circle's too, is the same in both listings.
pub refused_alike : (request : List ℕ) (o : Outcome) → o.answer.number ≢ 0 → text_of false request o ≡ text_of true request o
unfolding text_of
refused_alike request o refused = rw (ne_eqb o.answer.number 0 refused)
