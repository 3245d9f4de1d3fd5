-- "In an entry, the next bit below the guide bit now says feeder; the point number is the low 14 bits."
use Rattle.std.specs.Prelude.{ℕ, zero, suc, ◌+◌, ◌*◌, ◌/◌, ◌%◌, Bool, true, false, List, [], ◌∷◌, map}
use Rattle.rules.specs.declared.Kind.{Kind}
use Rattle.rules.specs.declared.Kind.TheVariants.{Guide, Plain, Feeder}
use Rattle.rules.specs.declared.Entry.{Entry}
use Rattle.rules.specs.declared.Reading.{Reading}
use Rattle.rules.specs.declared.Reading.TheVariants.{Given, Both}

-- 14 bits hold the numbers below this, which is what the feeder bit counts
abbrev pub point_limit : ℕ
point_limit = 16384

-- "The reading of one entry has three outcomes, guide, plain and feeder": what the two top bits say of a point.
-- With both bits it is none of the three.
abbrev pub reading : ℕ → ℕ → Reading
reading p zero = Given (record { point = p; kind = Plain })
reading p (suc zero) = Given (record { point = p; kind = Feeder })
reading p (suc (suc zero)) = Given (record { point = p; kind = Guide })
reading p (suc (suc (suc b))) = Both p

-- an entry, read from its 16-bit number
abbrev pub read_entry : ℕ → Reading
read_entry e = reading (e % point_limit) (e / point_limit)

-- and written as one: the two top bits of each kind
abbrev pub top_bits : Kind → ℕ
top_bits Plain = 0
top_bits Feeder = 1
top_bits Guide = 2

abbrev pub word_of : Entry → ℕ
word_of e = e.point + top_bits e.kind * point_limit

-- "A feeder is a cut line."
abbrev pub is_cut : Kind → Bool
is_cut Guide = false
is_cut Plain = true
is_cut Feeder = true

-- ---- what was read: whether it is marked both guide and feeder, the point that it names, and the entries that are one of the three

abbrev pub is_both : Reading → Bool
is_both (Given e) = false
is_both (Both p) = true

abbrev pub point_read : Reading → ℕ
point_read (Given e) = e.point
point_read (Both p) = p

abbrev pub points_read : List Reading → List ℕ
points_read rs = map point_read rs

abbrev pub given_in : List Reading → List Entry
given_in [] = []
given_in (Given e ∷ rs) = e ∷ given_in rs
given_in (Both p ∷ rs) = given_in rs
