-- `read_drawings::read_passed` meets its contract: the drawing as opened stores what the file begins, and the groups are added to it.
use Rattle.std.proofs.Common.{ap, ◌∙◌, arith}
use Rattle.store_links.specs.declared.Counts.{Counts}
use Rattle.read_drawings.proofs.Reading.{lines_lie, opened_holds, all_read}
use Rattle.read_drawings.proofs.read_passed.Goals as goal

pub add_groups-requires : goal.add_groups-requires
add_groups-requires c =
    let n = c.from-n.ensures ∙ c.word_at.ensures in
    let s = c.from-s.ensures ∙ c.word_at-2.ensures in
    let l = lines_lie c.requires.0 _ n in
    let y = c.moved_to-second.ensures in
    let z = c.moved_to-third.ensures in
    record {
      there = l.0;
      few = omega (arith, l.1, ap (λ (k : Counts). k.lines) c.open_in.ensures.1);
      most = omega (arith, l.2);
      stored =
          record {
            d = _;
            holds =
                opened_holds c.requires.0 _ _ n s _ c.line_size-size.ensures.value _ _ _ _
                c.entry_at-a.ensures (rw (y.same_file, y.place) at c.entry_at-b.ensures) (rw (z.same_file, z.place, y.place) at c.entry_at-c.ensures) c.open_in.ensures;
          };
    }

pub returns : goal.returns
returns c =
    let n = c.from-n.ensures ∙ c.word_at.ensures in
    let s = c.from-s.ensures ∙ c.word_at-2.ensures in
    let y = c.moved_to-second.ensures in
    let z = c.moved_to-third.ensures in
    all_read c.requires.0 _ _ n s c.open_in.new.d c.open_in.ensures.1
    (opened_holds c.requires.0 _ _ n s _ c.line_size-size.ensures.value _ _ _ _
    c.entry_at-a.ensures (rw (y.same_file, y.place) at c.entry_at-b.ensures) (rw (z.same_file, z.place, y.place) at c.entry_at-c.ensures) c.open_in.ensures)
    c.add_groups.ensures
