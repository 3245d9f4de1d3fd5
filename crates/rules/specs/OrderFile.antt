-- "Order file": 48 44 and n; optionally a scale; n point records; 45 4E.
use Rattle.std.specs.Prelude.{ℕ, zero, suc, ◌-◌, ◌*◌, not, List, [], ◌∷◌, ◌++◌, map, get_or, eqb, if◌then◌else◌}
use Rattle.rules.specs.declared.Style.{Style}
use Rattle.rules.specs.declared.Kind.{Kind}
use Rattle.rules.specs.declared.Kind.TheVariants.{Plain}
use Rattle.rules.specs.declared.Line.{Line}
use Rattle.rules.specs.declared.Entry.{Entry}
use Rattle.rules.specs.declared.Reading.{Reading}
use Rattle.rules.specs.declared.Refusal.TheVariants.{OutOfRange, BothMarks, OtherStart}
use Rattle.rules.specs.Basics.{between, same, keep, any_of}
use Rattle.rules.specs.Refusals.{Result, good, ◌>>◌, ◌>>=◌, refuse_if, placed}
use Rattle.rules.specs.Entries.{read_entry, word_of, is_both, points_read, given_in}
use Rattle.rules.specs.Points.{Drawing, start, fewest_points, most_points}
use Rattle.rules.specs.Adding.{add_read}
use Rattle.rules.specs.Records.{Cursor, Found, first, read_record, marked, read_end, from_start, written, order_head, scale_shape, point_entries, end_shape}

-- ---- points 1 to 3, in both files

-- "Point 1 has no entry, point 2 has 1, point 3 has 1, 2", of any kind: else 4
abbrev pub start_test : List ℕ → List ℕ → ℕ → Result (Unit {0})
start_test wanted points place = refuse_if (not (same points wanted)) OtherStart place

-- 13, "in the records of points 2 and 3 before 4"
abbrev pub record_tests : List ℕ → List Reading → ℕ → Result (Unit {0})
record_tests wanted rs place = do
  refuse_if (any_of is_both rs) BothMarks place
  start_test wanted (points_read rs) place

-- the kind of entry i
abbrev pub kind_at : ℕ → List Entry → Kind
kind_at i es = (get_or es i (record { point = 0; kind = Plain })).kind

-- the drawing that the entries of points 2 and 3 begin
abbrev pub start_with : Style → ℕ → ℕ → List Entry → List Entry → Drawing
start_with style n s second third = start style n s (kind_at 0 second) (kind_at 0 third) (kind_at 1 third)

-- ---- reading

-- the scale s at the cursor, and what follows it
pub record Scaled : Type 0 where
  pub s : ℕ
  pub next : Cursor

-- "53 43 and a scale s from 2 to 8": else 3, at its mark
abbrev pub given_scale : Cursor → Result Scaled
given_scale at = do
  f ← read_record scale_shape at
  refuse_if (not (between 2 8 (first f))) OutOfRange f.place
  good (record { s = first f; next = f.next })

-- "optionally .. (absent means 1)"
abbrev pub read_scale : Cursor → Result Scaled
read_scale at = if marked scale_shape at then given_scale at else good (record { s = 1; next = at })

abbrev pub entries_in : Found → List Reading
entries_in f = map read_entry f.words

-- the records of c more points, each tested as adding does, at its mark; then the end
unfoldable pub read_rest : ℕ → Drawing → Cursor → Result Drawing
read_rest zero d at = do
  read_end at
  good d
read_rest (suc c) d at = do
  f ← read_record point_entries at
  e ← placed f.place (add_read d (entries_in f))
  read_rest c e f.next

-- the records of points 1 to 3, then those of the rest
unfoldable pub read_points : Style → ℕ → ℕ → Cursor → Result Drawing
read_points style n s at = do
  f ← read_record point_entries at
  start_test [] (points_read (entries_in f)) f.place
  g ← read_record point_entries f.next
  record_tests (1 ∷ []) (entries_in g) g.place
  h ← read_record point_entries g.next
  record_tests (1 ∷ 2 ∷ []) (entries_in h) h.place
  read_rest (n - 3) (start_with style n s (given_in (entries_in g)) (given_in (entries_in h))) h.next

-- a drawing of an order file, of either style, "record by record: .., then the others; 10 last"
unfoldable pub read_order : Style → List ℕ → Result Drawing
read_order style bytes = do
  f ← read_record order_head (from_start bytes)
  refuse_if (not (between fewest_points most_points (first f))) OutOfRange 0
  c ← read_scale f.next
  read_points style (first f) c.s c.next

-- ---- writing

-- the entries of point p: its lines to earlier points, in order
abbrev pub entries_of : ℕ → List Line → List ℕ
entries_of p ls = map (λ l. word_of (record { point = l.earlier; kind = l.kind })) (keep (λ l. eqb l.later p) ls)

-- the records of points p, p + 1, .., c of them
abbrev pub order_points : ℕ → ℕ → List Line → List ℕ
order_points zero p ls = []
order_points (suc c) p ls = written point_entries (entries_of p ls) ++ order_points c (suc p) ls

abbrev pub order_scale : ℕ → List ℕ
order_scale s = if eqb s 1 then [] else written scale_shape (s ∷ [])

-- "no accepted order file is longer than 10,238"
abbrev pub longest_order : ℕ
longest_order = 10 * most_points - 2

-- the order file of a drawing
unfoldable pub write_order : Drawing → List ℕ
write_order d = written order_head (d.n ∷ []) ++ (order_scale d.s ++ (order_points d.n 1 d.lines ++ written end_shape []))
