-- `ops::append` meets its contract: Appended has a law for each way out. Rests on machine's Admitted and Tested too.
use Rattle.std.proofs.Common.{◌≡◌, [], ◌∷◌, length, sym, ap, ◌∙◌, arith, length-set}
use Rattle.machine.specs.Log.{logged}
use Rattle.machine.proofs.Admitted.{op_below, open_a}
use Rattle.machine.proofs.Appended.{logged_open, logged_other, logged_some, one_more, two_more}
use Rattle.machine.proofs.Tested.{kept}
use Rattle.ops.specs.Op.{code}
use Rattle.ops.proofs.Named.{other}
use Rattle.ops.specs.declared.Op.TheVariants.{Open}
use Rattle.ops.proofs.append.Goals as goal

whole : (c : goal.After-bits) → let s = c.args in
    logged s.word s.cells.now ≡ s.word ∷ c.bits.result ∷ []
whole c =
    let f = c.of-w.ensures in
    logged_open _ _ (f.op_is ∙ ap code c.in-Open.is) ∙ rw (c.bits.ensures, kept _ c.cell-1.given, f.a_is)

pub of-w-requires : goal.of-w-requires
of-w-requires c = op_below _ _ _ _ _ c.requires.0

pub bounds-log-at : goal.bounds-log-at
bounds-log-at c = omega (arith, logged_some c.args.word c.args.cells.now, c.requires.1)

pub bounds-cells-w : goal.bounds-cells-w
bounds-cells-w c =
    let f = c.of-w.ensures in
    let h = open_a _ _ _ _ _ c.requires.0 (f.op_is ∙ ap code c.in-Open.is) in
    omega (arith, f.a_is)

pub bounds-log-at-in-Open : goal.bounds-log-at-in-Open
bounds-log-at-in-Open c = let e = ap length (whole c) in simp length-set (omega (arith, c.requires.1))

pub returns-in-Open : goal.returns-in-Open
returns-in-Open c = two_more _ _ _ _ (whole c)

pub returns : goal.returns
returns c = one_more _ _ _ (logged_other _ _ (λ e. other _ Open c.in_default.not-Open (sym c.of-w.ensures.op_is ∙ e)))
