-- Each helper makes its part of `with_point`.
use Rattle.std.proofs.Common.{◌+◌, suc, length, ap, ◌∙◌}
use Rattle.rules.specs.Styles.{taken}
use Rattle.store_links.specs.Arrays.{Arrays, at_point}
use Rattle.store_links.specs.Storing.{filled, new_line}
use Rattle.store_tables.specs.Tables.{arrays_in}
use Rattle.store_points.specs.Stages.{linked, ported}
use Rattle.store_calls.proofs.Whole.{whole}
use Rattle.store_calls.proofs.store.Goals as goal

pub returns-clause-arrays : goal.returns-clause-arrays
returns-clause-arrays c =
    let a = c.args in
    let d = a.d.now in
    let τ = d.counts.style in
    let v = d.counts.k + 1 in
    let wl = c.point_of-wl.result in
    let wr = c.point_of-wr.result in
    let rights = c.link-rights.ensures.rights ∙ ap (λ (b : Arrays). taken τ (at_point b.drs wl)) c.cover.ensures in
    let lefts = c.link-rights.ensures.lefts ∙ ap (λ (b : Arrays). taken τ (at_point b.dls wr)) c.cover.ensures in
    let points = c.link-rights.ensures.arrays ∙ ap (λ (b : Arrays). ported τ (linked b v wl wr a.p) v wl wr) c.cover.ensures in
    let new = new_line τ (suc d.counts.k) c.link-rights.result.0 c.link-rights.result.1 a.from a.e.now in
    let lines = c.push_lines.ensures ∙ ap (λ (b : Arrays). filled new b.lines d.counts.lines (length a.e.now)) points in
    (λ i. record (points i) { lines = lines i }) ∙ whole (arrays_in d.table) d.counts a.e.now a.p a.from c.point_of-wl.ensures c.point_of-wr.ensures rights lefts
