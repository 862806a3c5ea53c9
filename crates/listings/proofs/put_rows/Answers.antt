-- `listings::put_rows` meets its contract. Rests on Methods, headers' Methods and text's Written.
use mathlib.Core.Path.{sym, ap, ◌∙◌}
use Prim.Native.Nat.{◌*◌}
use native.Mathlib.Omega.{arith}
use denote.Enum.Bare.{same_true, same_false}
use Rattle.text.proofs.Written.{wider}
use Rattle.headers.specs.contracts.Method.{the_type}
use Rattle.headers.specs.declared.Method.TheVariants.{FloydWarshall}
use Rattle.headers.specs.Method.{number_of}
use Rattle.headers.proofs.Methods.{another}
use Rattle.listings.proofs.Methods.{pairs, yards}
use Rattle.listings.proofs.put_rows.Goals as goal

pub returns-then-by_pairs : goal.returns-then-by_pairs
returns-then-by_pairs c =
    let h = c.args.h in
    let is = same_true the_type tt _ FloydWarshall (sym c.eq-by_pairs.ensures ∙ c.if-by_pairs.true) in
    rw (pairs c.args.all c.args.distances.now c.args.parents.now h.header (sym c.method_of.ensures ∙ ap number_of is))
    (wider c.put_table.ensures (65 * 1024) (omega (arith, h.within_limits.vertices_few)))

pub returns-else-by_pairs : goal.returns-else-by_pairs
returns-else-by_pairs c =
    let h = c.args.h in
    let other = another _ _ _ c.method_of.ensures (same_false the_type _ FloydWarshall (sym c.eq-by_pairs.ensures ∙ c.if-by_pairs.false)) in
    rw (yards c.args.all c.args.distances.now c.args.parents.now h.header h.within_limits other)
    (wider c.put_yards.ensures (65 * 1024) (omega (arith, h.within_limits.vertices_few)))
