-- "Where the answer is an enum, there is a definition that gives this paper's number and values for each of its cases."
use Rattle.std.specs.Prelude.{ℕ, ◌*◌, ◌≡◌, refl, List, length, ltb, if◌then◌else◌, Result as Outcome, Ok, Err, Option, Some, None}
use Rattle.rules.specs.declared.Refusal.TheVariants.{OutputShort}
use Rattle.rules.specs.declared.Refused.{Refused}
use Rattle.rules.specs.declared.Place.{Place}
use Rattle.rules.specs.Refusals.{number, Result, good, refused, Answer, answer_with, refusal_at, Told, gives, refused_with, told, told_with}
use Rattle.rules.specs.Lookups.{Sought, cut_line, no_cut_line}
use Rattle.rules.specs.Styles.{with_bend, without_bend}
use Rattle.rules.specs.Styles as Rules
use Rattle.rules.specs.Moves.{Move as WholeMove}
use Rattle.tool.specs.declared.Move.{Move}
use Rattle.answers.specs.declared.LineSeen.{LineSeen}
use Rattle.answers.specs.declared.LineSeen.TheVariants.{Bent, Straight}
use Rattle.answers.specs.declared.NotListed.{NotListed}
use Rattle.answers.specs.declared.Sizes.{Sizes}
use Rattle.answers.specs.declared.NotImported.{NotImported}

-- the number of bytes written
abbrev pub told_written : Answer ℕ → Told ℕ
told_written a = told_with (λ n. n) a

-- look-ups
abbrev pub told_point : Answer Place → Told Place
told_point a = told_with (λ p. p) a

abbrev pub line_of : LineSeen → Rules.LineSeen
line_of (Bent l b) = with_bend l b
line_of (Straight l) = without_bend l

abbrev pub told_line : Answer LineSeen → Told Rules.LineSeen
told_line a = told_with line_of a

-- a cut line's number, or that there is none
abbrev pub sought_of : Option ℕ → Sought
sought_of (Some e) = cut_line e
sought_of None = no_cut_line

abbrev pub told_cut : Answer (Option ℕ) → Told Sought
told_cut a = told_with sought_of a

-- moves
abbrev pub told_move : Answer Move → Told Move
told_move a = told_with (λ m. m) a

abbrev pub told_count : Answer ℕ → Told ℕ
told_count a = told_with (λ n. n) a

-- all moves in two buffers: how many there are
abbrev pub told_listed : Outcome ℕ NotListed → Told ℕ
told_listed (Ok n) = gives n
told_listed (Err NotListed.KindsShort) = refused_with (number OutputShort) 0
told_listed (Err NotListed.NumbersShort) = refused_with (number OutputShort) 0
told_listed (Err (NotListed.Refused e)) = refused_with (number e.refusal) e.place

-- the sizes of an import: order file and list of vertices
abbrev pub told_imported : Outcome Sizes NotImported → Told (ℕ × ℕ)
told_imported (Ok s) = gives (s.order, s.list)
told_imported (Err NotImported.OrderShort) = refused_with (number OutputShort) 0
told_imported (Err NotImported.ListShort) = refused_with (number OutputShort) 0
told_imported (Err (NotImported.Refused e)) = refused_with (number e.refusal) e.place

-- ---- the refusal of what was not written: a buffer that is too short is 24, at place 0

abbrev pub listed_refusal : NotListed → Refused
listed_refusal (NotListed.Refused e) = e
listed_refusal NotListed.KindsShort = refusal_at OutputShort 0
listed_refusal NotListed.NumbersShort = refusal_at OutputShort 0

abbrev pub import_refusal : NotImported → Refused
import_refusal (NotImported.Refused e) = e
import_refusal NotImported.OrderShort = refusal_at OutputShort 0
import_refusal NotImported.ListShort = refusal_at OutputShort 0

-- ---- the answer for what the rules give, which tells that

abbrev pub point_seen : Result Place → Answer Place
point_seen r = answer_with (λ a. a) r

abbrev pub seen_of : Rules.LineSeen → LineSeen
seen_of (with_bend l b) = Bent l b
seen_of (without_bend l) = Straight l

abbrev pub line_seen : Result Rules.LineSeen → Answer LineSeen
line_seen r = answer_with seen_of r

abbrev pub found_of : Sought → Option ℕ
found_of (cut_line e) = Some e
found_of no_cut_line = None

abbrev pub cut_seen : Result Sought → Answer (Option ℕ)
cut_seen r = answer_with found_of r

pub point-told : (o : Result Place) → told_point (point_seen o) ≡ told o
point-told (good a) = refl
point-told (refused r p) = refl

pub line-told : (o : Result Rules.LineSeen) → told_line (line_seen o) ≡ told o
line-told (good (with_bend l b)) = refl
line-told (good (without_bend l)) = refl
line-told (refused r p) = refl

pub cut_told : (o : Result Sought) → told_cut (cut_seen o) ≡ told o
cut_told (good (cut_line e)) = refl
cut_told (good no_cut_line) = refl
cut_told (refused r p) = refl

-- all moves, for buffers of these lengths
abbrev pub listed_for : ℕ → ℕ → Result (List WholeMove) → Outcome ℕ NotListed
listed_for kinds numbers (refused r p) = Err (NotListed.Refused (refusal_at r p))
listed_for kinds numbers (good ms) = if ltb kinds (length ms) then Err NotListed.KindsShort else if ltb numbers (2 * length ms) then Err NotListed.NumbersShort else Ok (length ms)
