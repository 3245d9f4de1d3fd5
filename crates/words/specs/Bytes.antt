-- A 16-bit number in a list of bytes, high byte first.
use Rattle.std.specs.Prelude.{ℕ, ◌+◌, ◌*◌, ◌/◌, ◌%◌, List, get_or, set}

abbrev pub word_at : List ℕ → ℕ → ℕ
word_at s at = get_or s at 0 * 256 + get_or s (at + 1) 0

abbrev pub with_word : List ℕ → ℕ → ℕ → List ℕ
with_word s at v = set (set s at (v / 256)) (at + 1) (v % 256)
