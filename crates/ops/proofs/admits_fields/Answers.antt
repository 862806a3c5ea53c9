-- `ops::admits_fields` meets its contract: a law for each op that the code tells apart. Rests on Named and machine's Admitted.
use Rattle.std.proofs.Common.{rules, sym, ap, ◌∙◌, eq-eqb, lt-ltb}
use Rattle.machine.proofs.Admitted.{is_set, is_open}
use Rattle.ops.specs.Op.{code}
use Rattle.ops.proofs.Named.{open_not, is_copy, copy_not, is_three, three_not}
use Rattle.ops.proofs.admits_fields.Goals as goal

pub returns-in-Set : goal.returns-in-Set
returns-in-Set c = sym (is_set _ _ _ _ _ (ap code c.in-Set.is))

pub returns-then-w-eq0-2 : goal.returns-then-w-eq0-2
returns-then-w-eq0-2 c =
    let z = c.if-w-eq0-2.true in
    sym (is_open _ _ _ _ _ (ap code c.in-Open.is) ∙ simp (eq-eqb _ 0 z.0, eq-eqb _ 0 z.1))

pub returns-else-w-eq0-2 : goal.returns-else-w-eq0-2
returns-else-w-eq0-2 c = open_not _ _ _ _ c.in-Open.is c.if-w-eq0-2.either (search rules)

pub returns-then-w-count : goal.returns-then-w-count
returns-then-w-count c =
    let z = c.if-w-count.true in
    sym (is_copy _ _ _ _ c.in-Copy.is ∙ simp (eq-eqb _ 0 z.0, lt-ltb _ _ z.1))

pub returns-else-w-count : goal.returns-else-w-count
returns-else-w-count c = copy_not _ _ _ _ c.in-Copy.is c.if-w-count.either (search rules)

pub returns-then-w-count-3 : goal.returns-then-w-count-3
returns-then-w-count-3 c =
    let n = c.in_default in
    let z = c.if-w-count-3.true in
    sym (is_three _ _ _ _ n.not-Set n.not-Copy n.not-Open ∙ simp (lt-ltb _ _ z.0, lt-ltb _ _ z.1))

pub returns-else-w-count-3 : goal.returns-else-w-count-3
returns-else-w-count-3 c =
    let n = c.in_default in three_not _ _ _ _ n.not-Set n.not-Copy n.not-Open c.if-w-count-3.either (search rules)
