-- The two words of a refusal, from what they were made of.
use Rattle.std.specs.Prelude.{ℕ, ◌+◌, ◌≡◌, List, set, Err}
use Rattle.rules.specs.declared.Refusal.{Refusal}
use Rattle.rules.specs.Refusals.{Answer, number, refusal_at}
use Rattle.calls_words.specs.Lists.{with_answer}

pub refusal-told : (out : List ℕ) (at x y : ℕ) {out' : List ℕ} {a : Answer (Unit {0})} {why : Refusal} {p : ℕ} → a ≡ Err (refusal_at why p) → x ≡ number why → y ≡ p → out' ≡ set (set out at x) (at + 1) y → out' ≡ with_answer out at a
refusal-told out at x y e f g h = rw (e, ← f, ← g) h
