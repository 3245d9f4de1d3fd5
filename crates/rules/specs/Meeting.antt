-- "Two pieces meet if they have a point of the real plane in common, decided by the signs of whole-number cross products and, on one straight line, by overlap."
use Rattle.std.specs.Prelude.{ℕ, ◌+◌, ◌*◌, min, max, Bool, not, ◌&&◌, ◌||◌, leb, ltb, eqb, if◌then◌else◌}
use Rattle.rules.specs.declared.Place.{Place}

-- The cross product of q - p and r - p is cross_plus - cross_minus.
unfoldable pub cross_plus : Place → Place → Place → ℕ
cross_plus p q r = q.x * r.y + p.x * q.y + p.y * r.x

unfoldable pub cross_minus : Place → Place → Place → ℕ
cross_minus p q r = q.x * p.y + p.x * r.y + q.y * r.x

-- its sign: r lies strictly to the left of the line from p to q; strictly to the right; on it (or p is q)
unfoldable pub left_of : Place → Place → Place → Bool
left_of p q r = ltb (cross_minus p q r) (cross_plus p q r)

unfoldable pub right_of : Place → Place → Place → Bool
right_of p q r = ltb (cross_plus p q r) (cross_minus p q r)

unfoldable pub in_line : Place → Place → Place → Bool
in_line p q r = not (left_of p q r) && not (right_of p q r)

-- r and s lie strictly on one side of the line through p and q
unfoldable pub one_side : Place → Place → Place → Place → Bool
one_side p q r s = left_of p q r && left_of p q s || right_of p q r && right_of p q s

-- all four on one straight line
unfoldable pub one_line : Place → Place → Place → Place → Bool
one_line p q r s = in_line p q r && in_line p q s && in_line r s p && in_line r s q

-- the numbers from a to b and those from c to d overlap
unfoldable pub overlap : ℕ → ℕ → ℕ → ℕ → Bool
overlap a b c d = leb (min a b) (max c d) && leb (min c d) (max a b)

-- the piece from p to q and the piece from r to s meet
unfoldable pub meet : Place → Place → Place → Place → Bool
meet p q r s =
    if one_line p q r s
    then overlap p.x q.x r.x s.x && overlap p.y q.y r.y s.y
    else not (one_side p q r s) && not (one_side r s p q)

unfoldable pub same_place : Place → Place → Bool
same_place p q = eqb p.x q.x && eqb p.y q.y

-- p, if it lies on the piece from r to s, is z
unfoldable pub only_if : Place → Place → Place → Place → Bool
only_if z p r s = not (meet p p r s) || same_place p z

-- the pieces have no point in common but z: they don't meet; or they lie on one line, and an end of one that lies on the other is z; or they cross, and z lies on both
unfoldable pub meet_only_at : Place → Place → Place → Place → Place → Bool
meet_only_at z p q r s =
    not (meet p q r s) ||
    (if one_line p q r s
    then only_if z p r s && only_if z q r s && only_if z r p q && only_if z s p q
    else meet z z p q && meet z z r s)
