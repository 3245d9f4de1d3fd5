-- `read_judging::judge_file` meets its contract: the header's tests, those of the records, those of points 1 to 3.
use Rattle.std.specs.Prelude.{ℕ, List, ◌≡◌, ◌≤◌, length, Ok}
use Rattle.std.proofs.Common.{sym, ◌∙◌, arith}
use Rattle.rules.specs.declared.Style.{Style}
use Rattle.rules.specs.Refusals.{answer}
use Rattle.rules.specs.Results.{all_passed, handed_on}
use Rattle.rules.specs.Records.{head_size}
use Rattle.read_judging.specs.Files.{n_in, head_tests, head_tells, body_tells}
use Rattle.read_judging.proofs.Stages.{file-head, file-body, file-start}
use Rattle.read_judging.proofs.judge_file.Goals as goal

-- what n and the length are, once the header has passed
range : (τ : Style) (f : List ℕ) → answer (head_tests τ f) ≡ Ok tt → (n : ℕ) → n ≡ n_in f → (head_size ≤ length f) × (n ≤ 1024) × (3 ≤ n)
range τ f h n is = let t = head_tells τ f (all_passed _ h) in (t.0, omega (arith, is, t.2), omega (arith, is, t.1))

pub returns-in_err-judge_head : goal.returns-in_err-judge_head
returns-in_err-judge_head c =
    let h = sym c.judge_head.ensures ∙ c.in_err-judge_head.was in
    handed_on c.from_residual.result _ c.from_residual.ensures.1 ∙ sym h ∙ file-head _ _ _ h

pub word_at-requires : goal.word_at-requires
word_at-requires c = omega (arith, (head_tells c.args.style c.args.f.now (all_passed _ (sym c.judge_head.ensures ∙ c.in_ok-judge_head.was))).0)

pub judge_body-requires : goal.judge_body-requires
judge_body-requires c = range c.args.style c.args.f.now (sym c.judge_head.ensures ∙ c.in_ok-judge_head.was) _ (c.from-n.ensures ∙ c.word_at.ensures)

pub returns-in_err-judge_body : goal.returns-in_err-judge_body
returns-in_err-judge_body c =
    let h = sym c.judge_body.ensures ∙ c.in_err-judge_body.was in
    handed_on c.from_residual-in_err-judge_body.result _ c.from_residual-in_err-judge_body.ensures.1 ∙ sym h ∙
    file-body _ _ (sym c.judge_head.ensures ∙ c.in_ok-judge_head.was) _ (c.from-n.ensures ∙ c.word_at.ensures) _ h

pub invariant_of-lines : goal.invariant_of-lines
invariant_of-lines c =
    let r = range c.args.style c.args.f.now (sym c.judge_head.ensures ∙ c.in_ok-judge_head.was) _ (c.from-n.ensures ∙ c.word_at.ensures) in
    record { within = omega (arith, body_tells c.args.style c.args.f.now _ r.0 (all_passed _ (sym c.judge_body.ensures ∙ c.in_ok-judge_body.was))) }

pub overflow_sub-n : goal.overflow_sub-n
overflow_sub-n c = let r = range c.args.style c.args.f.now (sym c.judge_head.ensures ∙ c.in_ok-judge_head.was) _ (c.from-n.ensures ∙ c.word_at.ensures) in omega (arith, r.2)

pub judge_start-requires : goal.judge_start-requires
judge_start-requires c =
    let r = range c.args.style c.args.f.now (sym c.judge_head.ensures ∙ c.in_ok-judge_head.was) _ (c.from-n.ensures ∙ c.word_at.ensures) in
    (omega (arith, r.2), body_tells c.args.style c.args.f.now _ r.0 (all_passed _ (sym c.judge_body.ensures ∙ c.in_ok-judge_body.was)))

pub returns : goal.returns
returns c =
    c.judge_start.ensures ∙
    file-start _ _ (sym c.judge_head.ensures ∙ c.in_ok-judge_head.was) _ (c.from-n.ensures ∙ c.word_at.ensures) (sym c.judge_body.ensures ∙ c.in_ok-judge_body.was)
