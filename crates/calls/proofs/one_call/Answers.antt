-- The answer is written; the place of a refusal fits 16 bits.
use Rattle.calls.proofs.Outcomes.{made, place_fits}
use Rattle.calls.proofs.one_call.Goals as goal

pub put_answer-requires : goal.put_answer-requires
put_answer-requires c = (c.requires.room, place_fits _ c.add-answer.ensures c.requires.few)

pub returns : goal.returns
returns c = made c.add-answer.ensures c.put_answer.ensures
