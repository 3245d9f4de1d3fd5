-- What reading a record gives, by the definitions of `rules` at a cursor.
use Rattle.std.specs.Prelude.{ℕ, ◌+◌, ◌*◌, ◌≤◌, ◌≡◌, List, [], ◌∷◌, length, drop, Ok, Err}
use Rattle.rules.specs.Refusals.{Answer, refused}
use Rattle.rules.specs.Records.{words_in, read_record, point_entries}
use Rattle.read_records.specs.declared.Entries.{Entries}
use Rattle.read_records.specs.Cursors.{cursor, plain_shape, found}

-- a record of one number
abbrev pub NumberRead : List ℕ → ℕ → ℕ → Answer ℕ → Type 0
NumberRead f at mark (Ok v) = (at + 4 ≤ length f) × (read_record (plain_shape mark 1) (cursor f at) ≡ found f at (v ∷ []) (at + 4))
NumberRead f at mark (Err e) = read_record (plain_shape mark 1) (cursor f at) ≡ refused e.refusal e.place

-- a point's record was read: its c entries stand from offset `from` on, and it ends before `next`
pub record Got (f : List ℕ) (at c from next : ℕ) : Type 0 where
  pub room : next ≤ length f
  pub behind : next ≡ from + 2 * c
  pub is : read_record point_entries (cursor f at) ≡ found f at (words_in c (drop from f)) next

abbrev pub EntriesRead : List ℕ → ℕ → Answer Entries → Type 0
EntriesRead f at (Ok e) = Got f at e.count e.from e.next
EntriesRead f at (Err e) = read_record point_entries (cursor f at) ≡ refused e.refusal e.place
