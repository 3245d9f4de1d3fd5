-- Outputs: "Output past the written bytes stays"; "24 always has place 0" and is tested last; "a refusal changes no output byte".
use Rattle.std.specs.Prelude.{ℕ, ◌*◌, List, [], ◌∷◌, ◌++◌, length, take, drop, ltb}
use Rattle.rules.specs.declared.Style.{Style}
use Rattle.rules.specs.declared.Refusal.TheVariants.{OutputShort}
use Rattle.rules.specs.Refusals.{Result, good, refused, number, ◌>>◌, ◌>>=◌, refuse_if}
use Rattle.rules.specs.Decimal.{digits}
use Rattle.rules.specs.DrawingFile.{draw_file, order_back}
use Rattle.rules.specs.Moves.{Move}

-- the bytes, or other elements, that a call writes into a buffer of this length, or its refusal
abbrev pub fitted : {A : Type 0} → List A → Result (List A) → Result (List A)
fitted buffer wanted = do
  bytes ← wanted
  refuse_if (ltb (length buffer) (length bytes)) OutputShort 0
  good bytes

-- how many that is
abbrev pub counted : {A : Type 0} → Result (List A) → Result ℕ
counted wanted = do
  bytes ← wanted
  good (length bytes)

-- what the buffer holds afterwards
abbrev pub filled : {A : Type 0} → List A → Result (List A) → List A
filled buffer (good bytes) = bytes ++ drop (length bytes) buffer
filled buffer (refused r p) = buffer

-- Moves go into two buffers, one for their kinds and one for two numbers a move, here of these lengths; 24 for the first one that is too short.
abbrev pub room_for : ℕ → ℕ → Result (List Move) → Result (List Move)
room_for kinds numbers wanted = do
  ms ← wanted
  refuse_if (ltb kinds (length ms)) OutputShort 0
  refuse_if (ltb numbers (2 * length ms)) OutputShort 0
  good ms

-- ---- "The drawing program reads an order file from standard input and writes the drawing, or the line `refused N at P`."

-- "refused ", " at " and a line feed around two numbers
abbrev pub refusal_line : ℕ → ℕ → List ℕ
refusal_line n place =
    (114 ∷ 101 ∷ 102 ∷ 117 ∷ 115 ∷ 101 ∷ 100 ∷ 32 ∷ []) ++ (digits n ++ ((32 ∷ 97 ∷ 116 ∷ 32 ∷ []) ++ (digits place ++ (10 ∷ []))))

abbrev pub printed : Result (List ℕ) → List ℕ
printed (good bytes) = bytes
printed (refused r p) = refusal_line (number r) p

-- "It judges the first 32,768 bytes of its input as the whole file."
abbrev pub judged_bytes : ℕ
judged_bytes = 32768

abbrev pub program : Style → List ℕ → List ℕ
program style input = printed (draw_file style (take judged_bytes input))

-- the reading program: a drawing file, of which the order file comes back; document 01 names no limit, so the whole input is the file
abbrev pub back_program : Style → List ℕ → List ℕ
back_program style input = printed (order_back style input)
