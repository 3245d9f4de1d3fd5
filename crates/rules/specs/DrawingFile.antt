-- "Drawing file, finished drawings only": 44 48 or 44 53, n, s, width, height; points; lines; 45 4E.
use Rattle.std.specs.Prelude.{ℕ, zero, suc, pred, ◌-◌, ◌*◌, max, not, ◌&&◌, List, [], ◌∷◌, ◌++◌, get_or, eqb, ltb, if◌then◌else◌}
use Rattle.rules.specs.declared.Style.{Style}
use Rattle.rules.specs.declared.Style.TheVariants.{OneBend}
use Rattle.rules.specs.declared.Kind.{Kind}
use Rattle.rules.specs.declared.Kind.TheVariants.{Guide, Plain, Feeder}
use Rattle.rules.specs.declared.Line.{Line}
use Rattle.rules.specs.declared.Place.{Place}
use Rattle.rules.specs.declared.Entry.{Entry}
use Rattle.rules.specs.declared.Refusal.TheVariants.{OutOfRange, OtherDrawing, Unfinished}
use Rattle.rules.specs.Basics.{between}
use Rattle.rules.specs.Refusals.{Result, good, refused, ◌>>◌, ◌>>=◌, refuse_if, placed}
use Rattle.rules.specs.Styles.{line_numbers, drawing_length, of_bend}
use Rattle.rules.specs.Points.{Drawing, W, fewest_points, most_points}
use Rattle.rules.specs.Ports.{bend_place}
use Rattle.rules.specs.Adding.{points_of, add_entries}
use Rattle.rules.specs.Records.{Found, several, read_record, read_end, from_start, written, drawing_head, point_place, line_shape, end_shape}
use Rattle.rules.specs.OrderFile.{start_test, start_with, read_order, write_order}

-- ---- writing: "Every length and coordinate is written times s."

-- "height (the largest y)"
abbrev pub highest : List ℕ → ℕ
highest [] = 0
highest (y ∷ ys) = max y (highest ys)

abbrev pub write_points : ℕ → List ℕ → List ℕ → List ℕ
write_points s [] ys = []
write_points s (x ∷ xs) [] = []
write_points s (x ∷ xs) (y ∷ ys) = written point_place (s * x ∷ s * y ∷ []) ++ write_points s xs ys

-- "1 for cut or 0 for guide"; "a line's last field in a drawing file is 2 for a feeder"
abbrev pub last_field : Kind → ℕ
last_field Guide = 0
last_field Plain = 1
last_field Feeder = 2

-- "later point, earlier point, bend x, bend y", and that field
abbrev pub line_words : Style → ℕ → Line → Place → List ℕ
line_words style s l b = l.later ∷ l.earlier ∷ (of_bend style (s * b.x ∷ s * b.y ∷ []) ++ (last_field l.kind ∷ []))

abbrev pub write_lines : Drawing → List Line → List ℕ
write_lines d [] = []
write_lines d (l ∷ ls) = written (line_shape d.style) (line_words d.style d.s l (bend_place d l)) ++ write_lines d ls

unfoldable pub drawing_bytes : Drawing → List ℕ
drawing_bytes d =
    written (drawing_head d.style) (d.n ∷ d.s ∷ d.s * W d ∷ d.s * highest d.ys ∷ []) ++
    (write_points d.s d.xs d.ys ++
    (write_lines d d.lines ++ written end_shape []))

-- the size of the largest drawing file; no straight one is so large
abbrev pub longest_drawing : ℕ
longest_drawing = drawing_length OneBend most_points

-- 22: "drawing wanted while k < n"
abbrev pub write_drawing : Drawing → Result (List ℕ)
write_drawing d = do
  refuse_if (ltb d.k d.n) Unfinished 0
  good (drawing_bytes d)

-- an order file into its drawing file of a style
abbrev pub draw_file : Style → List ℕ → Result (List ℕ)
draw_file style input = read_order style input >>= write_drawing

-- ---- reading

-- "a line field above 2 is read as plain"
abbrev pub kind_from : ℕ → Kind
kind_from zero = Guide
kind_from (suc zero) = Plain
kind_from (suc (suc zero)) = Feeder
kind_from (suc (suc (suc v))) = Plain

-- a line's later point, and the entry that it stands for: "the earlier point is a plain 16-bit number without a guide bit"
abbrev pub later_in : Found → ℕ
later_in f = get_or f.words 0 0

abbrev pub entry_in : Style → Found → Entry
entry_in style f = record { point = get_or f.words 1 0; kind = kind_from (get_or f.words (pred (line_numbers style)) 0) }

-- "each point's group of lines: the lines in succession that name it as later, perhaps none"; and the lines behind the group
abbrev pub group : Style → ℕ → List Found → List Entry
group style p [] = []
group style p (f ∷ fs) = if eqb (later_in f) p then entry_in style f ∷ group style p fs else []

abbrev pub behind : ℕ → List Found → List Found
behind p [] = []
behind p (f ∷ fs) = if eqb (later_in f) p then behind p fs else f ∷ fs

-- "place, the offset where the group starts or would start": the next line's, or that of the end record
abbrev pub group_place : ℕ → List Found → ℕ
group_place end [] = end
group_place end (f ∷ fs) = f.place

-- the groups of c more points
unfoldable pub judge_rest : Style → ℕ → ℕ → Drawing → List Found → Result Drawing
judge_rest style zero end d fs = good d
judge_rest style (suc c) end d fs = do
  e ← placed (group_place end fs) (add_entries d (group style (suc d.k) fs))
  judge_rest style c end e (behind (suc d.k) fs)

-- "4 to 9 on each point's group of lines in turn"
unfoldable pub judge_lines : Style → ℕ → ℕ → ℕ → List Found → Result Drawing
judge_lines style n s end fs = do
  start_test [] (points_of (group style 1 fs)) (group_place end fs)
  let gs = behind 1 fs
  start_test (1 ∷ []) (points_of (group style 2 gs)) (group_place end gs)
  let hs = behind 2 gs
  start_test (1 ∷ 2 ∷ []) (points_of (group style 3 hs)) (group_place end hs)
  judge_rest style (n - 3) end (start_with style n s (group style 2 gs) (group style 3 hs)) (behind 3 hs)

-- 11: "the first differing byte" of bytes i, i + 1, ..
abbrev pub compare_bytes : ℕ → List ℕ → List ℕ → Result (Unit {0})
compare_bytes i [] [] = good tt
compare_bytes i [] (b ∷ bs) = refused OtherDrawing i
compare_bytes i (a ∷ l) [] = refused OtherDrawing i
compare_bytes i (a ∷ l) (b ∷ bs) = do
  refuse_if (not (eqb a b)) OtherDrawing i
  compare_bytes (suc i) l bs

-- in a drawing file of a style: "1, 2, 3 on the header (s from 1 to 8), 1 and 2 on all other records, 10, then 4 to 9"
unfoldable pub judge_drawing : Style → List ℕ → Result Drawing
judge_drawing style bytes = do
  f ← read_record (drawing_head style) (from_start bytes)
  let n = get_or f.words 0 0
  let s = get_or f.words 1 0
  refuse_if (not (between fewest_points most_points n && between 1 8 s)) OutOfRange 0
  ps ← several n point_place f.next
  ls ← several (3 * n - 6) (line_shape style) ps.next
  read_end ls.next
  judge_lines style n s ls.next.offset ls.all

-- the drawing of a drawing file of a style: these tests, "then 11"
unfoldable pub read_drawing : Style → List ℕ → Result Drawing
read_drawing style bytes = do
  d ← judge_drawing style bytes
  compare_bytes 0 bytes (drawing_bytes d)
  good d

-- a drawing file into its order file: "then 22"
abbrev pub order_back : Style → List ℕ → Result (List ℕ)
order_back style bytes = do
  d ← read_drawing style bytes
  refuse_if (ltb d.k d.n) Unfinished 0
  good (write_order d)
