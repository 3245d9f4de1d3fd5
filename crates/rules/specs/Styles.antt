-- THE TWO DRAWINGS: document 01's, whose lines bend once, and the straight one of document 02, wish 2. All in which they differ is here; the rest is one text for both.
use Rattle.std.specs.Prelude.{ℕ, suc, ◌-◌, ◌*◌, ◌%◌, Bool, true, List, [], eqb, if◌then◌else◌}
use Rattle.rules.specs.declared.Style.{Style}
use Rattle.rules.specs.declared.Style.TheVariants.{OneBend, Straight}
use Rattle.rules.specs.declared.Line.{Line}
use Rattle.rules.specs.declared.Place.{Place}
use Rattle.rules.specs.declared.Bend.{Bend}
use Rattle.rules.specs.declared.Bend.TheVariants.{NoBend}

-- "Opening places points 1, 2, 3 at (0,0), (6,0), (3,2)"; "Points 1, 2, 3 start at (0,0), (2,0), (1,1)": the x of point 2, the x and the y of point 3
abbrev pub second_x : Style → ℕ
second_x OneBend = 6
second_x Straight = 2

abbrev pub third_x : Style → ℕ
third_x OneBend = 3
third_x Straight = 1

abbrev pub third_y : Style → ℕ
third_y OneBend = 2
third_y Straight = 1

-- the count of an end's ports, once a new line is there: "dr of wl grows by 1"; a straight line takes no port
abbrev pub taken : Style → ℕ → ℕ
taken OneBend c = suc c
taken Straight c = c

-- where a line bends, by where document 01 has its bend; "its look-up gives no bend"
abbrev pub bent : Style → Bend → Bend
bent OneBend b = b
bent Straight b = NoBend

-- the amount of step 1 or 2 at an end with c ports: "2 if dr of wl is 0, else 1"; "moves w(l+1) and all right of it by 1, then wr and all right of it by 1 more"
abbrev pub amount : Style → ℕ → ℕ
amount OneBend c = if eqb c 0 then 2 else 1
amount Straight c = 1

-- how far the new point lies inside the lines of slope 1 through wl and of slope -1 through wr: "(x - y of wl) + 1", "(x + y of wr) - 1"; "where the line of slope 1 through wl meets that of slope -1 through wr"
abbrev pub inset : Style → ℕ
inset OneBend = 1
inset Straight = 0

-- the amount of step 3 where A + B is v: "If A + B is odd, move wr, .., wm one more"; the straight drawing has no step 3
abbrev pub evening : Style → ℕ → ℕ
evening OneBend v = if eqb (v % 2) 1 then 1 else 0
evening Straight v = 0

-- whether 25 lets a call pass, by whether every inner point is reached; "The existing checks but 25 apply"
abbrev pub reach_passes : Style → Bool → Bool
reach_passes OneBend b = b
reach_passes Straight b = true

-- ---- look-ups, files and moves

-- what a look-up gives of a line: "a line's ends, bend and cut flag" (its kind now), with the place of its bend; "its look-up gives no bend"
pub data LineSeen : Type 0 where
  with_bend : Line → Place → LineSeen
  without_bend : Line → LineSeen

abbrev pub seen : Style → Line → Place → LineSeen
seen OneBend l bend = with_bend l bend
seen Straight l bend = without_bend l

-- "Drawing file: 44 48"; "The file has mark 44 53 in place of 44 48"
abbrev pub drawing_mark : Style → ℕ
drawing_mark OneBend = 0x4448
drawing_mark Straight = 0x4453

-- how many numbers a line record has: "line records without a bend"
abbrev pub line_numbers : Style → ℕ
line_numbers OneBend = 5
line_numbers Straight = 3

-- the bytes of a drawing file: "Size: 42n - 60 bytes"; "its size is then 4 bytes a line less"
abbrev pub drawing_length : Style → ℕ → ℕ
drawing_length OneBend n = 42 * n - 60
drawing_length Straight n = 30 * n - 36

-- what is written, or cut, of a bend: "A line has one cut move, to its earlier point"
abbrev pub of_bend : {A : Type 0} → Style → List A → List A
of_bend OneBend l = l
of_bend Straight l = []
