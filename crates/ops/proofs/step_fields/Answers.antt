-- `ops::step_fields` meets its contract: Admitted says which cells are there, Performed has a law for each way out. Rests on both.
use Rattle.std.proofs.Common.{◌<◌, length, arith, sym, ap, ◌∙◌}
use denote.Enum.Bare.{same_true, same_false}
use Rattle.machine.proofs.Admitted.{set_d, rest_in}
use Rattle.machine.proofs.Performed.{done_set, done_open, done_move, done_value}
use Rattle.ops.specs.contracts.Op.{the_type}
use Rattle.ops.specs.declared.Op.TheVariants.{Set, MoveIf, Open}
use Rattle.ops.specs.Op.{code}
use Rattle.ops.proofs.Named.{other}
use Rattle.ops.proofs.step_fields.Goals as goal
use Rattle.ops.proofs.step_fields.Goals.{Else-publishes}

-- An op other than SET and OPEN has its three cells.
rest : (c : Else-publishes) → let w = c.args.w in
    let n = length c.args.cells.now in
    (code w.op < 7) × (w.d < n) × (w.a < n) × (w.b < n)
rest c =
    rest_in _ _ _ _ _ c.requires (other _ Set (same_false the_type _ Set (sym c.eq-sets.ensures ∙ c.if-sets.false)))
    (other _ Open (same_false the_type _ Open (sym c.eq-publishes.ensures ∙ c.if-publishes.false)))

pub move_if-requires : goal.move_if-requires
move_if-requires c =
    let e = ap code (same_true the_type tt _ MoveIf (sym c.eq-moves.ensures ∙ c.if-moves.true)) in
    let h = rest_in _ _ _ _ _ c.requires (λ q. omega arith) (λ q. omega arith) in
    (h.1, h.2, h.3)

pub returns-then-moves : goal.returns-then-moves
returns-then-moves c =
    done_move _ _ _ _ _ c.move_if.ensures (ap code (same_true the_type tt _ MoveIf (sym c.eq-moves.ensures ∙ c.if-moves.true)))

pub bounds-cells-w : goal.bounds-cells-w
bounds-cells-w c = set_d _ _ _ _ _ c.requires (ap code (same_true the_type tt _ Set (sym c.eq-sets.ensures ∙ c.if-sets.true)))

pub returns-then-sets : goal.returns-then-sets
returns-then-sets c =
    done_set _ _ _ _ _ _ c.constant-k.type_inv c.constant-k.ensures
    (ap code (same_true the_type tt _ Set (sym c.eq-sets.ensures ∙ c.if-sets.true)))

pub returns-then-publishes : goal.returns-then-publishes
returns-then-publishes c =
    done_open _ _ _ _ _ (ap code (same_true the_type tt _ Open (sym c.eq-publishes.ensures ∙ c.if-publishes.true)))

pub slice_copy_out-x : goal.slice_copy_out-x
slice_copy_out-x c = (rest c).2

pub slice_copy_out-y : goal.slice_copy_out-y
slice_copy_out-y c = (rest (goal.at.slice_copy_out-y c).Else-publishes).3

pub bounds-cells-w-2 : goal.bounds-cells-w-2
bounds-cells-w-2 c = (rest (goal.at.bounds-cells-w-2 c).Else-publishes).1

pub returns : goal.returns
returns c =
    let n = other _ MoveIf (same_false the_type _ MoveIf (sym c.eq-moves.ensures ∙ c.if-moves.false)) in
    let z = other _ Set (same_false the_type _ Set (sym c.eq-sets.ensures ∙ c.if-sets.false)) in
    let h = rest (goal.at.returns c).Else-publishes in
    done_value _ _ _ _ _ _ (omega (arith, n)) z c.value-v.type_inv c.x-1.given c.y-1.given c.value-v.ensures
