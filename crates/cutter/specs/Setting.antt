-- The setting of a finished drawing with a tool, or why there is none.
use Rattle.std.specs.Prelude.{◌≡◌, refl, ◌<◌, ◌≤◌, ltb, Bool, true, false, Option, None, Ok, Err, IsErrAnd}
use Rattle.std.specs.Option.{ok_or}
use Rattle.std.proofs.Common.{ap, ◌∙◌, ltb-true, ltb-false}
use Rattle.rules.specs.declared.Refused.{Refused}
use Rattle.rules.specs.declared.Refusal.TheVariants.{BadTool, Unfinished}
use Rattle.rules.specs.Refusals.{Answer, answer, refuse_if, refusal_at}
use Rattle.rules.specs.Results.{handed_on}
use Rattle.rules.specs.Moves.{is_tool}
use Rattle.store_links.specs.declared.Counts.{Counts}
use Rattle.tool.specs.declared.Tool.{Tool}
use Rattle.tool.specs.Checking.{whole_tool, tool_of}
use Rattle.cutter_lines.specs.declared.Setting.{Setting}

-- all points are there, or the refusal while they aren't
abbrev pub Finishes : Counts → Answer (Unit {0}) → Type 0
Finishes c (Ok t) = c.n ≤ c.k
Finishes c (Err e) = (c.k < c.n) × (e ≡ refusal_at Unfinished 0)

-- the test of 22 says so
pub finishes : (c : Counts) (r : Answer (Unit {0})) → r ≡ answer (refuse_if (ltb c.k c.n) Unfinished 0) → Finishes c r
finishes c r e = rw e (go (ltb c.k c.n) refl)
  where
    go : (t : Bool) → ltb c.k c.n ≡ t → Finishes c (answer (refuse_if t Unfinished 0))
    go true h = (ltb-true c.k c.n h, refl)
    go false h = ltb-false c.k c.n h

-- the drawing is finished, the tool is one, and these are their scale and numbers
pub record IsSet (c : Counts) (t : Tool) (by : Setting) : Type 0 where
  pub is : is_tool (whole_tool t) ≡ true
  pub whole : c.n ≤ c.k
  pub scale : by.scale ≡ c.s
  pub tool : tool_of by.tool ≡ whole_tool t

-- the refusal where the tool is none, or else where the drawing is not finished
pub data NotSet (c : Counts) (t : Tool) : Refused → Type 0 where
  bad : is_tool (whole_tool t) ≡ false → NotSet c t (refusal_at BadTool 0)
  early : is_tool (whole_tool t) ≡ true → c.k < c.n → NotSet c t (refusal_at Unfinished 0)

-- the one or the other
abbrev pub Sets : Counts → Tool → Answer Setting → Type 0
Sets c t (Ok by) = IsSet c t by
Sets c t (Err e) = NotSet c t e

-- what a `?` hands on where a value was missing and a refusal was put for it
pub missing : {A B : Type 0} (o : Option A) (r : Answer B) (e f : Refused) → o ≡ None → ◌≡◌ {A = Answer A} (Err e) (ok_or o f) → IsErrAnd r (λ y. y ≡ e) → r ≡ Err f
missing {A} {B} o r e f none put h = handed_on r e h ∙ ap Err (same (rw none at put))
  where
    same : ◌≡◌ {A = Answer A} (Err e) (Err f) → e ≡ f
    same q = cc
