-- `planar_judging::taken` meets its contract: the tests of 15, the count first.
use Rattle.std.proofs.Common.{◌+◌, ◌*◌, ap, sym, ◌∙◌, eq-eqb, ne_eqb}
use Rattle.planar_reading.specs.Reads.{net_in}
use Rattle.planar_judging.specs.Laws.{taken_parts, taken_count}
use Rattle.planar_judging.proofs.taken.Goals as goal

pub returns-then-places-from : goal.returns-then-places-from
returns-then-places-from c = sym (taken_count (net_in c.args.net.now) (ne_eqb _ _ (λ e. c.if-places-from.true (ap (λ k. k + 12) c.places-places.ensures ∙ e ∙ ap (λ k. 6 * k) (sym (c.from.ensures ∙ c.n.ensures))))))

pub returns-then-sound_lists : goal.returns-then-sound_lists
returns-then-sound_lists c =
    let count = eq-eqb _ _ (ap (λ k. k + 12) (sym c.places-places.ensures) ∙ c.if-places-from.false ∙ ap (λ k. 6 * k) (c.from.ensures ∙ c.n.ensures)) in
    let lists = sym c.sound_lists.ensures ∙ c.if-sound_lists.true in
    c.sound_faces.ensures ∙ sym (taken_parts (net_in c.args.net.now) ∙ rw (count, lists))

pub returns-else-sound_lists : goal.returns-else-sound_lists
returns-else-sound_lists c =
    let count = eq-eqb _ _ (ap (λ k. k + 12) (sym c.places-places.ensures) ∙ c.if-places-from.false ∙ ap (λ k. 6 * k) (c.from.ensures ∙ c.n.ensures)) in
    let lists = sym c.sound_lists.ensures ∙ c.if-sound_lists.false in
    c.if-sound_lists.false ∙ sym (taken_parts (net_in c.args.net.now) ∙ rw (count, lists))
