-- `listings::put_route` meets its contract. Rests on text's Written.
use borrow.Author.Rules.{rules}
use mathlib.Core.Path.{◌≡◌}
use native.Mathlib.Omega.{arith}
use Rattle.text.proofs.Written.{then, wider}
use Rattle.listings.proofs.put_route.Goals as goal
use Rattle.listings.proofs.put_route.Goals.{in-Ok-Routed, in_default, in_default-2}

pub returns : goal.returns
returns c =
    let five : 5 ≡ c.args.h.method =
    elim c.match-matches.branch [
      | in-Ok-Routed w ↦ (rw w.in-Ok-Routed.field-0-is at w.in-Ok-Routed.ensures)
      | in_default w ↦ search rules
      | in_default-2 w ↦ search rules
    ] in
    rw (← five)
    (wider (then c.put_bytes.ensures (then c.put_steps.ensures c.put_byte.ensures)) 688 (omega (arith, c.requires.2)))
