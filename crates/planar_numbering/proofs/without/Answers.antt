-- `planar_numbering::without` meets its contract: what stands left of the three, the entries, and what stands right of them are copied.
use Rattle.std.proofs.Common.{◌+◌, ◌≡◌, refl, ◌∙◌, arith, ap, length, take, length-take-le, length-drop}
use Rattle.std.proofs.lemmas.List.{take_rest}
use Rattle.planar_numbering.specs.Boundary.{begins_apart, three_long, put_three}
use Rattle.planar_numbering.proofs.without.Goals as goal

pub new-requires : goal.new-requires
new-requires c =
    let b = c.args.boundary.now in
    let a = c.args.a in
    let m = c.requires.within in
    let rest = take_rest b (a + 3) in
    let size = length-drop (a + 3) b in
    let al : length (take a b) ≡ a = length-take-le a b (omega (arith, m)) in
    let e1 = c.copy_from_slice.ensures.after in
    let e2 = c.copy_from_slice-2.ensures.after in
    let e3 = c.copy_from_slice-3.ensures.after ∙ rest in (
      omega (arith, m, size, ap length rest),
      begins_apart _ _ _ c.requires.different (three_long _ _ _ _ a _ _ _ _ e1 e2 e3 al refl (omega (arith, ap length rest))) (put_three _ _ _ _ a _ _ _ _ e1 e2 e3 al refl (omega (arith, ap length rest))),
    )

pub returns : goal.returns
returns c =
    let b = c.args.boundary.now in
    let a = c.args.a in
    let rest = take_rest b (a + 3) in
    let al : length (take a b) ≡ a = length-take-le a b (omega (arith, c.requires.within)) in
    c.new.ensures ∙ put_three _ _ _ _ a _ _ _ _ c.copy_from_slice.ensures.after c.copy_from_slice-2.ensures.after (c.copy_from_slice-3.ensures.after ∙ rest) al refl (omega (arith, ap length rest))
