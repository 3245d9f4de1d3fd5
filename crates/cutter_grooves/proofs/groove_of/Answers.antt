-- `groove_of` meets its contract: the line, its bend and its ends are the drawing's, and lie on the grid.
use Rattle.std.proofs.Common.{ℕ, ◌≡◌, ◌<◌, sym, ap, ◌∙◌}
use Rattle.std.specs.Prelude.{Ok}
use Rattle.rules.specs.declared.Line.{Line}
use Rattle.rules.specs.declared.Place.{Place}
use Rattle.rules.specs.Points.{Drawing as Plan, place_of, line_at}
use Rattle.rules.specs.Lookups.{look_line}
use Rattle.store_links.specs.Arrays.{Arrays}
use Rattle.store_links.specs.declared.Counts.{Counts}
use Rattle.store_laws.specs.Adding.{Holds}
use Rattle.answers.specs.declared.LineSeen.{LineSeen}
use Rattle.answers.specs.Told.{line_seen}
use Rattle.cutter_lines.specs.declared.Groove.{Groove}
use Rattle.cutter_grooves.specs.Grooves.{groove_of}
use Rattle.cutter_grooves.specs.Grid.{line_in, bend_in, stored_on_grid, later_there, earlier_there, line_sure, line_seen_lem, bend_seen}
use Rattle.cutter_grooves.proofs.groove_of.Goals as goal

-- with its kind, its places and its bend it is the drawing's line as it is cut
cut : {q : Plan} {a : Arrays} {c : Counts} → (h : Holds q a c) → (e : ℕ) → e < c.lines → (seen : LineSeen) → Ok seen ≡ line_seen (look_line q e) →
    (l : Line) → l ≡ line_in seen → {later earlier bend : Place} → later ≡ place_of q l.later → earlier ≡ place_of q l.earlier → bend ≡ bend_in seen earlier →
    ◌≡◌ {A = Groove} (record { kind = l.kind; later = later; bend = bend; earlier = earlier }) (groove_of q (line_at q e))
cut {q} h e b seen is l li {later} {earlier} le ea be =
    let z : l ≡ line_at q e = li ∙ line_seen_lem h e b seen is in
    let le' : later ≡ place_of q (line_at q e).later = le ∙ ap (λ (v : Line). place_of q v.later) z in
    let ea' : earlier ≡ place_of q (line_at q e).earlier = ea ∙ ap (λ (v : Line). place_of q v.earlier) z in
    rw (le', be ∙ bend_seen h e b seen is earlier, ea', z)

pub unwrap-seen-requires : goal.unwrap-seen-requires
unwrap-seen-requires c = let h = c.requires.placed.came.is in rw (c.look_line.ensures _ h, line_sure h c.args.e c.requires.there)

pub place_of-later-requires-clause-there : goal.place_of-later-requires-clause-there
place_of-later-requires-clause-there c =
    let h = c.requires.placed.came.is in
    let e = c.args.e in
    let b = c.requires.there in
    later_there h e b c.line_of-line.result (c.line_of-line.ensures ∙ line_seen_lem h e b _ (sym c.unwrap-seen.ensures ∙ c.look_line.ensures _ h))

pub place_of-earlier-requires-clause-there : goal.place_of-earlier-requires-clause-there
place_of-earlier-requires-clause-there c =
    let h = c.requires.placed.came.is in
    let e = c.args.e in
    let b = c.requires.there in
    earlier_there h e b c.line_of-line.result (c.line_of-line.ensures ∙ line_seen_lem h e b _ (sym c.unwrap-seen.ensures ∙ c.look_line.ensures _ h))

pub returns-clause-is : goal.returns-clause-is
returns-clause-is c q h =
    cut h c.args.e c.requires.there c.unwrap-seen.result (sym c.unwrap-seen.ensures ∙ c.look_line.ensures q h) c.line_of-line.result c.line_of-line.ensures
    (c.place_of-later.ensures q h) (c.place_of-earlier.ensures q h) c.bend_of.ensures

pub returns-clause-fits : goal.returns-clause-fits
returns-clause-fits c =
    let h = c.requires.placed.came.is in
    rw (cut h c.args.e c.requires.there c.unwrap-seen.result (sym c.unwrap-seen.ensures ∙ c.look_line.ensures _ h) c.line_of-line.result c.line_of-line.ensures
    (c.place_of-later.ensures _ h) (c.place_of-earlier.ensures _ h) c.bend_of.ensures)
    (stored_on_grid h c.args.e c.requires.there)
