-- `deepening::read_depth` meets its contract. Rests on Words.
use mathlib.Core.Path.{◌∙◌}
use Rattle.ops.specs.declared.Op.TheVariants.{Set, Copy, MoveIf, Open}
use Rattle.ops.proofs.Named.{below_eight, other}
use Rattle.deepening.specs.Word.{read_of}
use Rattle.deepening.proofs.Words.{two_left}
use Rattle.deepening.proofs.read_depth.Goals as goal

pub returns-in-Set : goal.returns-in-Set
unfolding read_of
returns-in-Set c = rw c.in-Set.is

pub returns-in-Copy : goal.returns-in-Copy
unfolding read_of
returns-in-Copy c = rw c.in-Copy.is

pub returns-in-MoveIf : goal.returns-in-MoveIf
unfolding read_of
returns-in-MoveIf c = rw (c.in-MoveIf.is, c.max-in-MoveIf.ensures, c.max.ensures)

pub returns-in-Open : goal.returns-in-Open
unfolding read_of
returns-in-Open c = rw c.in-Open.is

pub returns-in_default : goal.returns-in_default
returns-in_default c =
    let o = c.args.op in
    let n = c.in_default in
    c.max-in_default.ensures
    ∙ two_left _ _ _ _ (below_eight o) (other o Set n.not-Set) (other o Copy n.not-Copy) (other o MoveIf n.not-MoveIf) (other o Open n.not-Open)
