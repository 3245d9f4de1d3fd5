-- `printing_words::tool_number` meets its contract: a number up to 80 is an f32, and a greater one is in no tool's range.
use Rattle.std.proofs.Common.{refl, sym, ap, ◌∙◌, arith, pos}
use Rattle.std.specs.Float.{binary32}
use Rattle.std.specs.Float.Ieee.{of_int, of_bits}
use Rattle.tool.specs.Exact.{whole}
use Rattle.printing_words.specs.Numbers.{or_zero, word_is, number_of, number_past}
use Rattle.printing_words.proofs.tool_number.Goals as goal

pub returns-in-Some : goal.returns-in-Some
returns-in-Some c =
    let n = c.in-Some.n in
    let is = sym (word_is c.args.word.now) ∙ ap or_zero (sym c.word_number.ensures ∙ c.in-Some.is) in
    rw is (number_of (of_int binary32 (pos n)) n (whole n (omega arith)))

pub returns-in_default : goal.returns-in_default
unfolding of_bits
returns-in_default c =
    let is = sym (word_is c.args.word.now) ∙ ap or_zero (sym c.word_number.ensures ∙ c.in-Some.is) in
    rw is (number_past _ c.in-Some.n (omega arith) (refl, refl))

pub returns-in_default-2 : goal.returns-in_default-2
unfolding of_bits
returns-in_default-2 c =
    let is = sym (word_is c.args.word.now) ∙ ap or_zero (sym c.word_number.ensures ∙ c.in_default.is) in
    rw is (number_of _ 0 (refl, refl))
