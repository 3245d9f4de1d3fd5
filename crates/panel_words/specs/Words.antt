-- Parts of what C is told as words: which buffer was short, the three words of a refusal, a bend's kind and its port's index.
use Rattle.std.specs.Prelude.{ℕ, List, [], ◌∷◌, Option, Some, None, eqb, if◌then◌else◌}
use Rattle.rules.specs.declared.Bend.{Bend}
use Rattle.rules.specs.declared.Bend.TheVariants.{Left, Right, Middle, NoBend}
use Rattle.rules.specs.declared.Refusal.{Refusal}
use Rattle.rules.specs.declared.Refusal.TheVariants.{OutputShort}
use Rattle.rules.specs.Refusals.{number}
use Rattle.panel_words.specs.declared.Buffer.{Buffer}
use Rattle.panel_words.specs.declared.Buffer.TheVariants.{Output, Answers, Numbers, Vertices}

-- the buffer that a call can find too short
abbrev pub no_buffer : ℕ
no_buffer = 0

abbrev pub output_buffer : ℕ
output_buffer = 1

abbrev pub answers_buffer : ℕ
answers_buffer = 2

abbrev pub numbers_buffer : ℕ
numbers_buffer = 3

abbrev pub vertices_buffer : ℕ
vertices_buffer = 4

-- the number by which C knows a buffer
abbrev pub number_of : Buffer → ℕ
number_of Output = output_buffer
number_of Answers = answers_buffer
number_of Numbers = numbers_buffer
number_of Vertices = vertices_buffer

-- and what it is told where there may be none
abbrev pub buffer_number : Option Buffer → ℕ
buffer_number None = no_buffer
buffer_number (Some b) = number_of b

-- which buffer was short: 0 unless the number is that of "24 output too short"
abbrev pub short_of : ℕ → Refusal → ℕ
short_of buffer r = if eqb (number r) (number OutputShort) then buffer else 0

-- "A refusal returns number and place", and which buffer was short
abbrev pub refusal_words : ℕ → Refusal → ℕ → List ℕ
refusal_words buffer r p = number r ∷ p ∷ short_of buffer r ∷ []

-- "A line's bend is at a left, right or middle port, or it has none"
abbrev pub bend_kind : Bend → ℕ
bend_kind NoBend = 0
bend_kind (Left j) = 1
bend_kind (Right j) = 2
bend_kind (Middle i) = 3

-- the port's index
abbrev pub port_of : Bend → ℕ
port_of NoBend = 0
port_of (Left j) = j
port_of (Right j) = j
port_of (Middle i) = i
