-- `store_adding::add` meets its contract: each stage asks what a call that passed has, and each return is one of the three outcomes.
use Rattle.std.proofs.Common.{◌≡◌, Err, sym, ◌∙◌, arith}
use Rattle.rules.specs.declared.Refused.{Refused}
use Rattle.rules.specs.Refusals.{Answer}
use Rattle.rules.specs.Results.{accepted, handed_on}
use Rattle.store_adding.specs.Passing.{passing, runs, small, storable, refused-early, refused-late, accepts}
use Rattle.store_adding.proofs.add.Goals as goal

pub returns-in_err-judge : goal.returns-in_err-judge
returns-in_err-judge c =
    rw (handed_on c.from_residual.result _ c.from_residual.ensures.1)
    (refused-early c.args.d.now c.args.e.now _ (sym c.judge.ensures ∙ c.in_err-judge.was))

pub spot_over-p-requires : goal.spot_over-p-requires
spot_over-p-requires c =
    let g = (accepted _ (sym c.judge.ensures ∙ c.in_ok-judge.was)).is in
    runs (passing c.requires c.args.e.now g)

pub ports_over-requires : goal.ports_over-requires
ports_over-requires c =
    let g = (accepted _ (sym c.judge.ensures ∙ c.in_ok-judge.was)).is in
    let p = passing c.requires c.args.e.now g in
    (runs p, small p _ c.spot_over-p.ensures)

-- equal answers refuse alike
alike : {A : Type 0} (e f : Refused) → ◌≡◌ {A = Answer A} (Err e) (Err f) → e ≡ f
alike e f h = cc

pub returns-in_err-from : goal.returns-in_err-from
returns-in_err-from c =
    let g = (accepted _ (sym c.judge.ensures ∙ c.in_ok-judge.was)).is in
    let none = c.in_err-from.ensures.ok_part in
    let put = alike _ c.at.result (rw none at c.in_err-from.ensures.value) in
    rw (handed_on c.from_residual-in_err-from.result _ c.from_residual-in_err-from.ensures.1)
    (refused-late c.args.d.now c.args.e.now _ g c.spot_over-p.ensures _ c.ports_over.ensures none _ (put ∙ c.at.ensures))

pub store-requires : goal.store-requires
store-requires c =
    let g = (accepted _ (sym c.judge.ensures ∙ c.in_ok-judge.was)).is in
    storable (passing c.requires c.args.e.now g) _ c.spot_over-p.ensures

pub counts_with-d-requires : goal.counts_with-d-requires
counts_with-d-requires c =
    let g = (accepted _ (sym c.judge.ensures ∙ c.in_ok-judge.was)).is in
    let p = passing c.requires c.args.e.now g in
    rw c.store.ensures.counts (p.room, p.border, omega (arith, p.lines), p.fits)

pub returns : goal.returns
returns c =
    let g = (accepted _ (sym c.judge.ensures ∙ c.in_ok-judge.was)).is in
    accepts c.args.d.now c.args.e.now _ g c.spot_over-p.ensures _ c.ports_over.ensures _ c.in_ok-from.ensures.ok_part _ c.store.ensures.arrays (c.counts_with-d.ensures ∙ rw c.store.ensures.counts)
