-- The records of points 1 to 3, for any style, n and s: `read_points`, one record at a time.
use Rattle.std.specs.Prelude.{ℕ, ◌-◌, ◌≤◌, ◌≡◌, List, [], ◌∷◌, length, Ok, Err}
use Rattle.rules.specs.declared.Style.{Style}
use Rattle.rules.specs.declared.Entry.{Entry}
use Rattle.rules.specs.Refusals.{Answer, Result, refused, ◌>>◌, ◌>>=◌}
use Rattle.rules.specs.Entries.{given_in}
use Rattle.rules.specs.Readings.{entry_of}
use Rattle.rules.specs.Points.{Drawing}
use Rattle.rules.specs.Records.{Cursor, read_record, point_entries}
use Rattle.rules.specs.OrderFile.{record_tests, start_with, entries_in, read_rest, read_points}
use Rattle.store_links.specs.Judging.{point_in}
use Rattle.read_records.specs.Cursors.{cursor}
use Rattle.read_start.specs.declared.Start.{Start}

-- point 3's record and the rest, with the entries of point 2
abbrev pub third_from : List Entry → Cursor → Style → ℕ → ℕ → Result Drawing
third_from second at τ n s = do
  h ← read_record point_entries at
  record_tests (1 ∷ 2 ∷ []) (entries_in h) h.place
  read_rest (n - 3) (start_with τ n s second (given_in (entries_in h))) h.next

-- point 2's record and the rest
abbrev pub second_from : Cursor → Style → ℕ → ℕ → Result Drawing
second_from at τ n s = do
  g ← read_record point_entries at
  record_tests (1 ∷ []) (entries_in g) g.place
  third_from (given_in (entries_in g)) g.next τ n s

abbrev pub points_from : Cursor → Style → ℕ → ℕ → Result Drawing
points_from at τ n s = read_points τ n s at

-- the entries of lines 1-2, 3-1 and 3-2 were read, and the points behind 3 are left
pub record Begun (f : List ℕ) (from : Style → ℕ → ℕ → Result Drawing) (a b c next : ℕ) : Type 0 where
  pub room : next ≤ length f
  pub first : point_in a ≡ 1
  pub second : point_in b ≡ 1
  pub third : point_in c ≡ 2
  pub rest : (τ : Style) (n s : ℕ) → from τ n s ≡ read_rest (n - 3) (start_with τ n s (entry_of a ∷ []) (entry_of b ∷ entry_of c ∷ [])) (cursor f next)

-- what reading from there gives, for any style, n and s
abbrev pub StartRead : List ℕ → (Style → ℕ → ℕ → Result Drawing) → Answer Start → Type 0
StartRead f from (Ok t) = Begun f from t.a t.b t.c t.at
StartRead f from (Err e) = (τ : Style) (n s : ℕ) → from τ n s ≡ refused e.refusal e.place
