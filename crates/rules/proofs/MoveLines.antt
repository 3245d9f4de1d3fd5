-- Worked cases of the lines of moves and of the words of the tool, by computing.
use Rattle.std.specs.Prelude.{ℕ, ◌≡◌, refl, List, [], ◌∷◌, ◌++◌, map}
use Rattle.std.proofs.Common.{ap, ◌∙◌, ◌++◌, lit<, lit≤}
use Rattle.rules.specs.Basics.{snoc}
use Rattle.rules.specs.Decimal.{digits}
use Rattle.rules.proofs.Decimal.{digits_one, digits_more}
use Rattle.rules.specs.Moves.{travel, plunge}
use Rattle.rules.specs.MoveLines.{millimetres, move_lines, word_number}

-- ---- worked: "0", "0.375", "1.25", "10.875" and "408880" millimetres; "plunge -0.375" and "travel 1.25 0.5"

-- a long number, digit by digit
long : digits 408880 ≡ 52 ∷ 48 ∷ 56 ∷ 56 ∷ 56 ∷ 48 ∷ []
long =
    digits_more 408880 (lit≤ tt) ∙
    ap (λ (l : List ℕ). snoc l 48)
    (digits_more 40888 (lit≤ tt) ∙
    ap (λ (l : List ℕ). snoc l 56)
    (digits_more 4088 (lit≤ tt) ∙
    ap (λ (l : List ℕ). snoc l 56)
    (digits_more 408 (lit≤ tt) ∙
    ap (λ (l : List ℕ). snoc l 56) (digits_more 40 (lit≤ tt) ∙ ap (λ (l : List ℕ). snoc l 48) (digits_one 4 (lit< tt))))))

whole : millimetres 3271040 ≡ 52 ∷ 48 ∷ 56 ∷ 56 ∷ 56 ∷ 48 ∷ []
unfolding millimetres
whole = ap (λ (l : List ℕ). l ++ []) long

short :
    (millimetres 0 ≡ 48 ∷ []) × (millimetres 3 ≡ 48 ∷ 46 ∷ 51 ∷ 55 ∷ 53 ∷ []) ×
    (millimetres 4 ≡ 48 ∷ 46 ∷ 53 ∷ []) × (millimetres 10 ≡ 49 ∷ 46 ∷ 50 ∷ 53 ∷ []) ×
    (millimetres 87 ≡ 49 ∷ 48 ∷ 46 ∷ 56 ∷ 55 ∷ 53 ∷ [])
unfolding digits millimetres
short = (refl, refl, refl, refl, refl)

pub worked_lines :
    (map millimetres (0 ∷ 3 ∷ 10 ∷ 87 ∷ 3271040 ∷ []) ≡ (48 ∷ []) ∷ (48 ∷ 46 ∷ 51 ∷ 55 ∷ 53 ∷ []) ∷ (49 ∷ 46 ∷ 50 ∷ 53 ∷ []) ∷ (49 ∷ 48 ∷ 46 ∷ 56 ∷ 55 ∷ 53 ∷ []) ∷ (52 ∷ 48 ∷ 56 ∷ 56 ∷ 56 ∷ 48 ∷ []) ∷ []) ×
    (move_lines (plunge 3 ∷ travel 10 4 ∷ []) ≡ 112 ∷ 108 ∷ 117 ∷ 110 ∷ 103 ∷ 101 ∷ 32 ∷ 45 ∷ 48 ∷ 46 ∷ 51 ∷ 55 ∷ 53 ∷ 10 ∷ 116 ∷ 114 ∷ 97 ∷ 118 ∷ 101 ∷ 108 ∷ 32 ∷ 49 ∷ 46 ∷ 50 ∷ 53 ∷ 32 ∷ 48 ∷ 46 ∷ 53 ∷ 10 ∷ [])
worked_lines = (rw (short.0, short.1, short.3, short.4, whole), rw (short.1, short.3, short.2))

-- and words: "8", "80", an empty one, "8.5" and one of nine digits
pub worked_words : map word_number ((56 ∷ []) ∷ (56 ∷ 48 ∷ []) ∷ [] ∷ (56 ∷ 46 ∷ 53 ∷ []) ∷ (48 ∷ 48 ∷ 48 ∷ 48 ∷ 48 ∷ 48 ∷ 48 ∷ 48 ∷ 56 ∷ []) ∷ []) ≡ 8 ∷ 80 ∷ 0 ∷ 0 ∷ 0 ∷ []
worked_words = refl
