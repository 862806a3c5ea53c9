-- `engine::carry` meets its contract. Rests on Carries.
use Rattle.engine.proofs.Carries.{plan_room, inside, words_long, words_admitted, verdict_there, publish_room, ended}
use Rattle.engine.proofs.carry.Goals as goal

pub fill-size-requires : goal.fill-size-requires
fill-size-requires c = plan_room c.args.h.within_limits c.requires.1

pub slice_bounds-carry_words-end : goal.slice_bounds-carry_words-end
slice_bounds-carry_words-end c = inside c.args.h.within_limits c.requires.1 c.fill-size.ensures

pub slice_bounds-carry_words-end-2 : goal.slice_bounds-carry_words-end-2
slice_bounds-carry_words-end-2 c = words_long c.args.h.within_limits c.requires.1 c.fill-size.ensures

pub carry_words-requires : goal.carry_words-requires
carry_words-requires c = words_admitted c.args.h.within_limits c.requires.1 c.fill-size.ensures

pub publish-length-requires : goal.publish-length-requires
publish-length-requires c =
    let a = c.args.h.within_limits in
    let (is, r) = c.requires in
    rw is (verdict_there a r c.fill-size.ensures c.carry_words.ensures, publish_room a r c.fill-size.ensures c.carry_words.ensures)

pub returns : goal.returns
returns c =
    let (is, r) = c.requires in
    ended c.args.h.within_limits r c.fill-size.ensures c.carry_words.ensures (rw is at c.publish-length.ensures) c.rounds_of-rounds.ensures
