-- `pages::Page::text` meets its contract.
use Rattle.std.proofs.Common.{refl, arith}
use Rattle.words.specs.Writing.{length-stored}
use Rattle.pages.specs.Pages.{text_stored}
use Rattle.pages.proofs.Page.text.Goals as goal

pub returns : goal.returns
returns c =
    let part = text_stored c.args.self.now.at c.args.text.now c.args.self.now.bytes.now c.copy_from_slice.ensures.after (omega (arith, c.requires)) in
    record { same = refl; size = length-stored part; at = refl; fits = omega (arith, c.requires, length-stored part); is = part }
