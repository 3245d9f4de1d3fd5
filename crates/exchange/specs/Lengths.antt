-- HOW LONG THE FILES ARE: an accepted order file has 10 n - 6 bytes, 4 more with a scale record; a drawing file that is read or drawn has 42 n - 60, a straight one 30 n - 36.
-- So "no accepted order file is longer than 10,238", and each for n = 1,024 with a scale record is as long, whatever its net.
-- Nothing is asked of the numbers in a file: they need not be bytes.
use Rattle.std.specs.Prelude.{ℕ, eqb, if◌then◌else◌}

-- ---- the scale

-- the bytes of the scale's record: none where it is 1
abbrev pub scale_bytes : ℕ → ℕ
scale_bytes s = if eqb s 1 then 0 else 4
