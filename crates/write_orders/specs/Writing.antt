-- What the order writer writes, from the stored lines: numbers of 16 bits, in order.
use Rattle.std.specs.Prelude.{ℕ, zero, suc, ◌+◌, ◌-◌, ◌<◌, ◌≤◌, ◌≡◌, List, [], ◌∷◌, ◌++◌, length, get_or, eqb, if◌then◌else◌}
use Rattle.rules.specs.Refusals.{good}
use Rattle.rules.specs.declared.Line.{Line}
use Rattle.rules.specs.Entries.{word_of, point_limit}
use Rattle.rules.specs.Points.{Drawing}
use Rattle.rules.specs.OrderFile.{write_order}
use Rattle.rules.specs.Output.{filled}
use Rattle.store_links.specs.declared.Counts.{Counts}
use Rattle.store_links.specs.Arrays.{Arrays, Stores}
use Rattle.store_links.specs.Opening.{no_line}
use Rattle.exchange.specs.Built.{Whole}
use Rattle.exchange.specs.Entries.{entry_for}
use Rattle.rules.specs.Records.{order_mark, scale_mark, entries_mark, end_mark}

-- ---- the numbers

-- how many of the `left` lines from `from` on have p as their later point, in succession
unfoldable pub count_of : List Line → ℕ → ℕ → ℕ → ℕ
count_of stored p from zero = 0
count_of stored p from (suc left) = if eqb (get_or stored from no_line).later p then suc (count_of stored p (suc from) left) else 0

-- the number of a line's entry
abbrev pub word_for : Line → ℕ
word_for l = word_of (entry_for l)

-- the first `lines` lines have entries with such a number
abbrev pub Joinable : List Line → ℕ → Type 0
Joinable stored lines = (e : ℕ) → e < lines → (get_or stored e no_line).earlier < point_limit

-- the entries of c lines from `from` on
unfoldable pub entry_words : List Line → ℕ → ℕ → List ℕ
entry_words stored from zero = []
entry_words stored from (suc c) = word_for (get_or stored from no_line) ∷ entry_words stored (suc from) c

-- a point's record: mark, count and entries
abbrev pub point_words : List Line → ℕ → ℕ → List ℕ
point_words stored from c = entries_mark ∷ c ∷ entry_words stored from c

-- the records of c points, p, p + 1, .., whose lines begin at `from`, of `lines` in all
unfoldable pub points_words : List Line → ℕ → ℕ → ℕ → ℕ → List ℕ
points_words stored lines zero p from = []
points_words stored lines (suc c) p from =
    let count = count_of stored p from (lines - from) in
    point_words stored from count ++ points_words stored lines c (suc p) (from + count)

-- the header, with the scale where it isn't 1
abbrev pub head_words : ℕ → ℕ → List ℕ
head_words n s = order_mark ∷ n ∷ (if eqb s 1 then [] else scale_mark ∷ s ∷ [])

-- the whole file
abbrev pub order_words : List Line → Counts → List ℕ
order_words stored c = head_words c.n c.s ++ (points_words stored c.lines c.n 1 0 ++ (end_mark ∷ []))

-- ---- what the writer asks, and what it leaves

-- a finished drawing is stored, and its order file has room
pub record OrderWritable (out : List ℕ) (a : Arrays) (c : Counts) : Type 0 where
  pub d : Drawing
  pub whole : Whole d
  pub stored : Stores d a c
  pub room : length (write_order d) ≤ length out

-- the order file of d stands at the start of the buffer, of which the rest stays; r is its length
pub record OrderWritten (d : Drawing) (out out' : List ℕ) (r : ℕ) : Type 0 where
  pub size : r ≡ length (write_order d)
  pub bytes : out' ≡ filled out (good (write_order d))
