-- "Files": "Every record begins with a two-byte mark." "File numbers are 16 bits, high byte first." Each record's shape is stated once, for the reader and the writer.
use Rattle.std.specs.Prelude.{ℕ, zero, suc, ◌+◌, ◌*◌, ◌/◌, ◌%◌, Bool, not, List, [], ◌∷◌, length, drop, ltb, eqb}
use Rattle.rules.specs.declared.Style.{Style}
use Rattle.rules.specs.declared.Refusal.TheVariants.{FileEnds, WrongMark, ExtraBytes}
use Rattle.rules.specs.Basics.{head_of}
use Rattle.rules.specs.Refusals.{Result, good, ◌>>◌, ◌>>=◌, refuse_if}
use Rattle.rules.specs.Styles.{drawing_mark, line_numbers}

-- what follows the mark: so many numbers, or a count and that many
pub data Size : Type 0 where
  plain : ℕ → Size
  counted : Size

pub record Shape : Type 0 where
  pub mark : ℕ
  pub size : Size

-- ---- the marks and shapes of both files

abbrev pub order_mark : ℕ
order_mark = 0x4844

abbrev pub scale_mark : ℕ
scale_mark = 0x5343

abbrev pub entries_mark : ℕ
entries_mark = 0x5054

abbrev pub place_mark : ℕ
place_mark = 0x504F

abbrev pub line_mark : ℕ
line_mark = 0x4C4E

abbrev pub end_mark : ℕ
end_mark = 0x454E

-- "48 44 and n"
abbrev pub order_head : Shape
order_head = record { mark = order_mark; size = plain 1 }

-- "53 43 and a scale s"
abbrev pub scale_shape : Shape
scale_shape = record { mark = scale_mark; size = plain 1 }

-- "point records 50 54, a count c, c entries"
abbrev pub point_entries : Shape
point_entries = record { mark = entries_mark; size = counted }

-- "45 4E", the end of both files
abbrev pub end_shape : Shape
end_shape = record { mark = end_mark; size = plain 0 }

-- "44 48, n, s, width, height"
abbrev pub drawing_head : Style → Shape
drawing_head style = record { mark = drawing_mark style; size = plain 4 }

-- "per point 50 4F, x, y"
abbrev pub point_place : Shape
point_place = record { mark = place_mark; size = plain 2 }

-- "per line 4C 4E, later point, earlier point, bend x, bend y", and its kind; "line records without a bend"
abbrev pub line_shape : Style → Shape
line_shape style = record { mark = line_mark; size = plain (line_numbers style) }

-- the bytes of a mark and so many numbers: a drawing file's header, a point's place, a line
abbrev pub bytes_in : ℕ → ℕ
bytes_in numbers = 2 + 2 * numbers

abbrev pub head_size : ℕ
head_size = bytes_in 4

abbrev pub place_size : ℕ
place_size = bytes_in 2

abbrev pub line_size : Style → ℕ
line_size style = bytes_in (line_numbers style)

-- ---- writing

-- "high byte first"
abbrev pub bytes_of : List ℕ → List ℕ
bytes_of [] = []
bytes_of (w ∷ ws) = (w / 256) ∷ (w % 256) ∷ bytes_of ws

abbrev pub sized : Size → List ℕ → List ℕ
sized (plain c) ws = ws
sized counted ws = length ws ∷ ws

-- the bytes of a record that holds the numbers ws
abbrev pub written : Shape → List ℕ → List ℕ
written r ws = bytes_of (r.mark ∷ sized r.size ws)

-- ---- reading

-- the first c numbers of some bytes
abbrev pub words_in : ℕ → List ℕ → List ℕ
words_in zero bs = []
words_in (suc c) [] = []
words_in (suc c) (a ∷ []) = []
words_in (suc c) (a ∷ b ∷ bs) = (a * 256 + b) ∷ words_in c bs

-- the bytes that are left, and the offset of the first of them
pub record Cursor : Type 0 where
  pub offset : ℕ
  pub bytes : List ℕ

abbrev pub skip : ℕ → Cursor → Cursor
skip c at = record { offset = at.offset + c; bytes = drop c at.bytes }

-- the numbers that a record holds, the offset of its mark, and what follows it
pub record Found : Type 0 where
  pub place : ℕ
  pub words : List ℕ
  pub next : Cursor

-- c numbers at the cursor, for the record at `place`: 1 where they aren't all there
abbrev pub words_at : ℕ → ℕ → Cursor → Result Found
words_at place c at = do
  refuse_if (ltb (length at.bytes) (2 * c)) FileEnds place
  good (record { place = place; words = words_in c at.bytes; next = skip (2 * c) at })

abbrev pub first : Found → ℕ
first f = head_of f.words

abbrev pub rest_of : ℕ → Size → Cursor → Result Found
rest_of place (plain c) at = words_at place c at
rest_of place counted at = do
  f ← words_at place 1 at
  words_at place (first f) f.next

-- "record by record: 1 if fewer than two bytes are left, 2, then 1 for the rest"
abbrev pub read_record : Shape → Cursor → Result Found
read_record r at = do
  f ← words_at at.offset 1 at
  refuse_if (not (eqb (first f) r.mark)) WrongMark at.offset
  rest_of at.offset r.size f.next

-- the next two bytes are this shape's mark
abbrev pub marked : Shape → Cursor → Bool
marked r at = eqb (head_of (words_in 1 at.bytes)) r.mark

-- c records of one shape, and what follows them
pub record Several : Type 0 where
  pub all : List Found
  pub next : Cursor

abbrev pub several : ℕ → Shape → Cursor → Result Several
several zero r at = good (record { all = []; next = at })
several (suc c) r at = do
  f ← read_record r at
  fs ← several c r f.next
  good (record { all = f ∷ fs.all; next = fs.next })

-- the end record, then 10 at "the first extra byte"
abbrev pub read_end : Cursor → Result (Unit {0})
read_end at = do
  f ← read_record end_shape at
  refuse_if (ltb 0 (length f.next.bytes)) ExtraBytes f.next.offset

-- a file from its first byte on
abbrev pub from_start : List ℕ → Cursor
from_start bytes = record { offset = 0; bytes = bytes }
