-- The program that prints the moves of an order file's drawing, one a line, in millimetres: `travel 1.25 0.5`, `plunge -0.375`, `cut 0 0`, `lift 0.625`.
use Rattle.std.specs.Prelude.{ℕ, zero, suc, ◌/◌, ◌%◌, ◌&&◌, List, [], ◌∷◌, ◌++◌, length, take, if◌then◌else◌}
use Rattle.rules.specs.declared.Style.{Style}
use Rattle.rules.specs.Basics.{between, all_of}
use Rattle.rules.specs.Refusals.{good, ◌>>=◌}
use Rattle.rules.specs.Decimal.{digits, is_digit, value_from}
use Rattle.rules.specs.OrderFile.{read_order}
use Rattle.rules.specs.Moves.{Tool, Move, travel, cut, plunge, lift, given_moves}
use Rattle.rules.specs.Output.{judged_bytes, printed}

-- what stands behind the whole millimetres of r eighths: nothing, ".125", ".25", ".375", ".5", ".625", ".75", ".875"
abbrev pub fraction : ℕ → List ℕ
fraction zero = []
fraction (suc zero) = 46 ∷ 49 ∷ 50 ∷ 53 ∷ []
fraction (suc (suc zero)) = 46 ∷ 50 ∷ 53 ∷ []
fraction (suc (suc (suc zero))) = 46 ∷ 51 ∷ 55 ∷ 53 ∷ []
fraction (suc (suc (suc (suc zero)))) = 46 ∷ 53 ∷ []
fraction (suc (suc (suc (suc (suc zero))))) = 46 ∷ 54 ∷ 50 ∷ 53 ∷ []
fraction (suc (suc (suc (suc (suc (suc zero)))))) = 46 ∷ 55 ∷ 53 ∷ []
fraction (suc (suc (suc (suc (suc (suc (suc zero))))))) = 46 ∷ 56 ∷ 55 ∷ 53 ∷ []
fraction (suc (suc (suc (suc (suc (suc (suc (suc r)))))))) = []

-- n eighths of a millimetre in decimal
unfoldable pub millimetres : ℕ → List ℕ
millimetres n = digits (n / 8) ++ fraction (n % 8)

-- a move's line; 32 is a blank, 45 a minus, 10 a line feed
abbrev pub move_line : Move → List ℕ
move_line (travel a b) = (116 ∷ 114 ∷ 97 ∷ 118 ∷ 101 ∷ 108 ∷ 32 ∷ []) ++ (millimetres a ++ (32 ∷ (millimetres b ++ (10 ∷ []))))
move_line (plunge z) = (112 ∷ 108 ∷ 117 ∷ 110 ∷ 103 ∷ 101 ∷ 32 ∷ 45 ∷ []) ++ (millimetres z ++ (10 ∷ []))
move_line (cut a b) = (99 ∷ 117 ∷ 116 ∷ 32 ∷ []) ++ (millimetres a ++ (32 ∷ (millimetres b ++ (10 ∷ []))))
move_line (lift z) = (108 ∷ 105 ∷ 102 ∷ 116 ∷ 32 ∷ []) ++ (millimetres z ++ (10 ∷ []))

abbrev pub move_lines : List Move → List ℕ
move_lines [] = []
move_lines (m ∷ ms) = move_line m ++ move_lines ms

-- the program: as of the drawing program, the first 32,768 bytes of its input are the file; its refusals come first, then 12
abbrev pub moves_program : Style → Tool → List ℕ → List ℕ
moves_program style t input = printed (read_order style (take judged_bytes input) >>= λ d. given_moves d t >>= λ ms. good (move_lines ms))

-- ---- the tool, from the program's three arguments: pitch, depth and clearance in eighths of a millimetre

-- the number that a word of one to eight decimal digits stands for; 0, which no tool has, for any other word
abbrev pub word_number : List ℕ → ℕ
word_number w = if between 1 8 (length w) && all_of is_digit w then value_from 0 w else 0

abbrev pub words_tool : List ℕ → List ℕ → List ℕ → Tool
words_tool p d c = record { pitch = word_number p; depth = word_number d; clearance = word_number c }
