-- What C is told of each answer: "Where the answer is an enum, there is a definition that gives this paper's number and values for each of its cases."
use Rattle.std.specs.Prelude.{ℕ, List, [], ◌∷◌, Float, Result as Outcome, Ok, Err, Option, Some, None}
use Rattle.rules.specs.declared.Line.{Line}
use Rattle.rules.specs.declared.Place.{Place}
use Rattle.rules.specs.declared.Refusal.TheVariants.{OutputShort}
use Rattle.rules.specs.Refusals.{Result, good, refused, Answer}
use Rattle.rules.specs.DrawingFile.{last_field}
use Rattle.answers.specs.declared.LineSeen.{LineSeen}
use Rattle.answers.specs.declared.LineSeen.TheVariants.{Bent, Straight}
use Rattle.tool.specs.declared.Move.{Move}
use Rattle.tool.specs.Showing.{move_kind, move_numbers}
use Rattle.answers.specs.declared.NotListed.{NotListed}
use Rattle.answers.specs.declared.Sizes.{Sizes}
use Rattle.answers.specs.declared.NotImported.{NotImported}
use Rattle.panel_words.specs.Words.{no_buffer, output_buffer, numbers_buffer, vertices_buffer, bend_kind, port_of}
use Rattle.panel_told.specs.Telling.{Given, with_words, alone, given_with}

-- a file that was written: the number of its bytes
abbrev pub file_given : Answer ℕ → Result (Given ℕ)
file_given a = given_with alone a

-- a move: its kind, with its two numbers
abbrev pub move_words : Move → Given Float
move_words m = with_words (move_kind m) (move_numbers m)

abbrev pub move_given : Answer Move → Result (Given Float)
move_given a = given_with move_words a

-- all moves: how many there are
abbrev pub list_given : Outcome ℕ NotListed → Result (Given ℕ)
list_given (Ok k) = good (alone k)
list_given (Err NotListed.KindsShort) = refused OutputShort 0
list_given (Err NotListed.NumbersShort) = refused OutputShort 0
list_given (Err (NotListed.Refused e)) = refused e.refusal e.place

-- the buffer that 24 is of: the kinds, the numbers, or with another refusal `buffer`
abbrev pub short_for : ℕ → Outcome ℕ NotListed → ℕ
short_for buffer (Ok k) = buffer
short_for buffer (Err NotListed.KindsShort) = output_buffer
short_for buffer (Err NotListed.NumbersShort) = numbers_buffer
short_for buffer (Err (NotListed.Refused e)) = buffer

-- an import: the bytes of its order file
abbrev pub import_given : Outcome Sizes NotImported → Result (Given ℕ)
import_given (Ok s) = good (alone s.order)
import_given (Err NotImported.OrderShort) = refused OutputShort 0
import_given (Err NotImported.ListShort) = refused OutputShort 0
import_given (Err (NotImported.Refused e)) = refused e.refusal e.place

-- the buffer that its 24 is of: the order file's, or that of the list of vertices
abbrev pub import_short : Outcome Sizes NotImported → ℕ
import_short (Ok s) = no_buffer
import_short (Err NotImported.OrderShort) = output_buffer
import_short (Err NotImported.ListShort) = vertices_buffer
import_short (Err (NotImported.Refused e)) = no_buffer

-- "in grid units, a point's place"
abbrev pub point_words : Place → Given ℕ
point_words a = with_words 1 (a.x ∷ a.y ∷ [])

abbrev pub point_given : Answer Place → Result (Given ℕ)
point_given a = given_with point_words a

-- "a line's ends, bend and cut flag", which is its kind now, with the place of the bend
abbrev pub line_words : Line → ℕ → ℕ → List ℕ
line_words l x y = l.later ∷ l.earlier ∷ bend_kind l.bend ∷ port_of l.bend ∷ x ∷ y ∷ last_field l.kind ∷ []

-- these words are for drawings with bends; of a straight line, which has none, zeros would stand there
abbrev pub seen_words : LineSeen → Given ℕ
seen_words (Bent l a) = with_words 1 (line_words l a.x a.y)
seen_words (Straight l) = with_words 1 (line_words l 0 0)

abbrev pub line_given : Answer LineSeen → Result (Given ℕ)
line_given a = given_with seen_words a

-- "its look-up gives no bend": a line's ends and its kind
abbrev pub ends_words : Line → List ℕ
ends_words l = l.later ∷ l.earlier ∷ last_field l.kind ∷ []

abbrev pub ends_seen : LineSeen → Given ℕ
ends_seen (Bent l a) = with_words 1 (ends_words l)
ends_seen (Straight l) = with_words 1 (ends_words l)

abbrev pub ends_given : Answer LineSeen → Result (Given ℕ)
ends_given a = given_with ends_seen a

-- "some cut line ending at a given point, or none"
abbrev pub cut_words : Option ℕ → Given ℕ
cut_words (Some e) = with_words 1 (e ∷ [])
cut_words None = alone 2

abbrev pub cut_given : Answer (Option ℕ) → Result (Given ℕ)
cut_given a = given_with cut_words a
