-- DEMAND 3 AND WISH 2 AS ONE CLAIM ABOUT THE PROGRAM: what running a list of calls leaves, for both styles, every n, every list of words and every buffer.
use Rattle.std.specs.Prelude.{ℕ, ◌*◌, ◌<◌, ◌≤◌, ◌≡◌, List, ◌++◌, length, drop, Ok, Err}
use Rattle.rules.specs.declared.Style.{Style}
use Rattle.rules.specs.Refusals.{Answer, refused_with}
use Rattle.rules.specs.Calls.{drawn, said}
use Rattle.promise.specs.Promise.{Promised}
use Rattle.store_tables.specs.declared.Drawing.{Drawing}
use Rattle.store_laws.specs.Stored.{Is}
use Rattle.drawing.specs.View.{Came, told_drawing}
use Rattle.calls_words.specs.Lists.{calls_in}
use Rattle.calls.specs.Answers.{words_of}

-- what was answered, with the drawing that was left
abbrev pub drawing_in : Answer (Unit {0}) → Drawing → Answer Drawing
drawing_in (Ok t) d = Ok d
drawing_in (Err e) d = Err e

-- refused with this number: there is no drawing, and no word of the buffer changes
pub record Refuses (why : ℕ) (before after : List ℕ) (r : Answer Drawing) : Type 0 where
  pub answer : told_drawing r ≡ refused_with why 0
  pub buffer : after ≡ before

-- accepted with the drawing d: the answers and the drawing are those of the rules, and the drawing keeps the promise of its style
pub record Accepts (τ : Style) (n : ℕ) (ws before after : List ℕ) (r : Answer Drawing) : Type 0 where
  pub d : Drawing
  pub answer : r ≡ Ok d
  pub buffer : after ≡ words_of (said τ n (calls_in ws)) ++ drop (2 * length (calls_in ws)) before
  pub drawing : Is (drawn τ n (calls_in ws)) d
  pub came : Came d
  pub promise : Promised τ (drawn τ n (calls_in ws))

-- n is tested first (3), then the buffer (24): two words a call
pub record Ran (τ : Style) (n : ℕ) (ws before after : List ℕ) (r : Answer Drawing) : Type 0 where
  pub low : n < 3 → Refuses 3 before after r
  pub high : 1024 < n → Refuses 3 before after r
  pub short : 3 ≤ n → n ≤ 1024 → length before < 2 * length (calls_in ws) → Refuses 24 before after r
  pub enough : 3 ≤ n → n ≤ 1024 → 2 * length (calls_in ws) ≤ length before → Accepts τ n ws before after r
