-- A header and its word, and what a plan depends on: two accepted headers have the same plan just where they are the same.
-- Rests on the machine's laws of fields.
use mathlib.Core.Path.{◌≡◌, sym, ap, ◌∙◌}
use mathlib.Core.Logic.{◌↔◌}
use mathlib.Core.List.{List}
use Prim.Native.Nat.{ℕ, ◌^◌, ◌<◌}
use lib.ListN.{get_or}
use Rattle.machine.specs.Word.{FieldsAre}
use Rattle.machine.proofs.Encoded.{fields_packed, packed_fields}
use Rattle.plans.specs.declared.Header.{Header}
use Rattle.plans.specs.Plan.{header_of, header_word, Accepted, plan_of}
use Rattle.plans.proofs.Headers.{fields_small}

pub header_word_header_of : (w : ℕ) → w < 2 ^ 64 → header_word (header_of w) ≡ w
header_word_header_of w h = packed_fields w h

pub fields_header : (h : Header) → Accepted h
    → FieldsAre (header_word h) h.method h.vertices h.edges h.source
fields_header h a =
    let (method, vertices, edges, source) = fields_small h a in
    fields_packed _ _ _ _ method vertices edges source

pub header_of_header_word : (h : Header) → Accepted h → header_of (header_word h) ≡ h
header_of_header_word h a =
    let f = fields_header h a in
    λ i. record { method = f.op_is i; vertices = f.d_is i; edges = f.a_is i; source = f.b_is i }

pub same_plan : (g h : Header) → Accepted g → Accepted h → (plan_of g ≡ plan_of h) ↔ (g ≡ h)
unfolding plan_of
same_plan g h a b = (
  λ (e : plan_of g ≡ plan_of h).
      sym (header_of_header_word g a) ∙ ap (λ (ws : List ℕ). header_of (get_or ws 0 0)) e ∙ header_of_header_word h b,
  λ (e : g ≡ h). ap plan_of e,
)
