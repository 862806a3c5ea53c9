-- `runner::run_plan` meets its contract: a law for each way out. Rests on Answered.
use Rattle.runner.proofs.Answered.{bad_word, too_short, can_work_out, can_carry, ran}
use Rattle.runner.proofs.run_plan.Goals as goal

pub returns-in-Some : goal.returns-in-Some
returns-in-Some c = bad_word _ _ _ _ c.in-Some.ensures

pub returns-then-short : goal.returns-then-short
returns-then-short c = too_short _ _ _ c.in_default.ensures _ c.log_length-size.ensures c.if-short.true

pub rounds_of-rounds-requires : goal.rounds_of-rounds-requires
rounds_of-rounds-requires c =
    can_work_out c.args.plan.now c.args.cells.now c.args.log.now c.in_default.ensures _ c.log_length-size.ensures c.if-short.false

pub carry_plan-requires : goal.carry_plan-requires
carry_plan-requires c =
    can_carry _ _ _ c.in_default.ensures _ c.log_length-size.ensures c.if-short.false c.rounds_of-rounds.ensures c.rounds_of-rounds.auto.log

pub returns : goal.returns
returns c =
    ran _ _ _ c.in_default.ensures _ c.log_length-size.ensures c.if-short.false c.rounds_of-rounds.ensures c.carry_plan.ensures
