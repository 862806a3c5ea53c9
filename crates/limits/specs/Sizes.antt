-- What a header asks a caller to lend, and which refusal a header meets that asks for nothing. Rests on headers, plans and refusals.
use Rattle.std.specs.Prelude.{List, [], ◌∷◌, ℕ}
use Rattle.std.proofs.Math.Option.{Option, none, some}
use Rattle.answers.specs.Refusal.{Refusal}
use Rattle.answers.specs.Refusal.{Method}
use Rattle.answers.specs.Told.{Told, refused}
use Rattle.plans.specs.declared.Header.{Header}
use Rattle.plans.specs.Plan.{header_of}
use Rattle.headers.specs.Refusal.{header_refusal}
use Rattle.limits.specs.declared.Lengths.{Lengths}
use Rattle.limits.specs.Refusal.{asked_of}

-- Cells, words of the log, and places of the results buffers, kind by kind.
abbrev pub asking : Lengths → Told
asking l = record { number = 0; place = none; values = l.cells ∷ l.log ∷ l.distances ∷ l.parents ∷ l.route ∷ [] }

-- For the refusal that the header meets.
abbrev pub asked_by : Option Refusal → Header → Told
asked_by none h = asking (asked_of h)
asked_by (some r) h = refused r

-- Of a header's first word: 1 to 4, or the sizes.
unfoldable pub sizes_told : (header : List ℕ) → Told
sizes_told [] = refused Method
sizes_told (w ∷ rest) = asked_by (header_refusal (header_of w)) (header_of w)
