-- `planar_choosing::Row::is_inside` meets its contract: stands tells it.
use Rattle.std.proofs.Common.{◌≡◌, ◌&&◌, ltb, get_or, ap, sym, ◌∙◌, arith, lt-ltb, le-ltb}
use Rattle.planar_choosing.specs.Rows.{inside?, row_inside}
use Rattle.planar_choosing.proofs.row.Row.is_inside.Goals as goal
use Rattle.planar_choosing.proofs.row.Row.is_inside.Goals.{After-from-stands}

-- both tests
told : (c : After-from-stands) → (ltb 1 c.from-stands.result && ltb c.from-stands.result c.self.inside.count) ≡ inside? c.args.self.now c.args.v
told c =
    let r = c.self.inside in
    let i = c.self.invariant in
    let e = c.from-stands.ensures ∙ ap (λ v. get_or r.stands v 0) c.from.ensures in
    ap (λ q. ltb 1 q && ltb q r.count) e ∙ row_inside r.vertices r.stands r.count (omega (arith, i)) i.2 c.args.v ∙ ap (λ b. inside? b c.args.v) c.self.view_is

pub returns-then-stands-gt1 : goal.returns-then-stands-gt1
returns-then-stands-gt1 c =
    let n = c.self.inside.count in
    sym (ap (λ a. a && ltb c.from-stands.result n) (lt-ltb 1 _ c.if-stands-gt1.true)) ∙ told (goal.at.returns-then-stands-gt1 c).After-from-stands

pub returns-else-stands-gt1 : goal.returns-else-stands-gt1
returns-else-stands-gt1 c =
    let n = c.self.inside.count in
    let e = le-ltb 1 _ c.if-stands-gt1.false in
    e ∙ sym (ap (λ a. a && ltb c.from-stands.result n) e) ∙ told (goal.at.returns-else-stands-gt1 c).After-from-stands
