-- One turn of the running of a list of calls, and all of them.
use Rattle.std.specs.Prelude.{ℕ, ◌+◌, ◌*◌, ◌<◌, ◌≤◌, ◌≡◌, List, ◌++◌, length, drop}
use Rattle.rules.specs.declared.Style.{Style}
use Rattle.rules.specs.Refusals.{answer}
use Rattle.rules.specs.Points.{Drawing as Plan, opening}
use Rattle.rules.specs.Calls.{drawn, said}
use Rattle.store_links.specs.Storing.{judged, arrays_after, counts_after}
use Rattle.store_tables.specs.declared.Drawing.{Drawing}
use Rattle.store_tables.specs.Tables.{arrays_in}
use Rattle.store_laws.specs.Stored.{Is}
use Rattle.calls_words.specs.Lists.{calls_in, with_answer}
use Rattle.calls.specs.Answers.{words_of}

-- a call can be made: d is stored, the entries were counted by 16 bits, and there is room for the answer at index `at`
pub record Callable (d : Drawing) (es out : List ℕ) (at : ℕ) : Type 0 where
  pub plan : Plan
  pub is : Is plan d
  pub few : length es < 65536
  pub room : at + 1 < length out

-- it was made
pub record Made (d : Drawing) (es out : List ℕ) (at : ℕ) (d' : Drawing) (out' : List ℕ) : Type 0 where
  pub arrays : arrays_in d'.table ≡ arrays_after (judged (arrays_in d.table) d.counts es) (arrays_in d.table) d.counts es
  pub counts : d'.counts ≡ counts_after (judged (arrays_in d.table) d.counts es) d.counts es
  pub buffer : out' ≡ with_answer out at (answer (judged (arrays_in d.table) d.counts es))

-- a list of calls can be run, in either style: n is in range, and there is room for every answer
pub record Runs (τ : Style) (n : ℕ) (ws out : List ℕ) : Type 0 where
  pub low : 3 ≤ n
  pub high : n ≤ 1024
  pub room : 2 * length (calls_in ws) ≤ length out

-- d is the drawing as opened for n points, and there is room for every answer
pub record Begun (τ : Style) (n : ℕ) (ws out : List ℕ) (d : Drawing) : Type 0 where
  pub is : Is (opening τ n) d
  pub room : 2 * length (calls_in ws) ≤ length out

-- every call was made
pub record Ended (τ : Style) (n : ℕ) (ws out : List ℕ) (d : Drawing) (out' : List ℕ) : Type 0 where
  pub is : Is (drawn τ n (calls_in ws)) d
  pub buffer : out' ≡ words_of (said τ n (calls_in ws)) ++ drop (2 * length (calls_in ws)) out
