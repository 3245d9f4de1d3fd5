-- `printing_words::word_number`: after i digits v is what they stand for, and the rest is to be read behind it.
use Rattle.std.proofs.Common.{◌≡◌, ◌^◌, ◌<◌, drop}
use Rattle.printing_words.specs.Numbers.{digits_from}
use Rattle.printing_words.proofs.word_number.Given as goal

abbrev pub invariant-loop-b : goal.invariant-loop-b
invariant-loop-b l = (l.v < 10 ^ l.b-index) × (digits_from 0 l.word ≡ digits_from l.v (drop l.b-index l.word))
