-- "Adding a point", with the order of tests that "Refused because of the state" fixes.
use Rattle.std.specs.Prelude.{ℕ, suc, ◌+◌, ◌-◌, ◌*◌, ◌/◌, Bool, true, not, ◌&&◌, ◌||◌, List, [], ◌∷◌, ◌++◌, map, length, take, drop, eqb, ltb, leb, if◌then◌else◌}
use mathlib.Core.List.{tail}
use Rattle.rules.specs.declared.Line.{Line}
use Rattle.rules.specs.declared.Entry.{Entry}
use Rattle.rules.specs.declared.Reading.{Reading}
use Rattle.rules.specs.declared.Reading.TheVariants.{Given}
use Rattle.rules.specs.declared.Bend.{Bend}
use Rattle.rules.specs.declared.Bend.TheVariants.{Left, Right, Middle}
use Rattle.rules.specs.declared.Refusal.TheVariants.{Finished, FewEntries, BothMarks, NotPlaced, Covered, NoRun, NotWhole, NoReach}
use Rattle.rules.specs.Basics.{alter, elem, snoc, head_of, index_of}
use Rattle.rules.specs.Refusals.{Result, good, refused, ◌>>◌, refuse_if}
use Rattle.rules.specs.Entries.{read_entry, is_both, point_read, points_read, given_in}
use Rattle.rules.specs.Styles.{taken, bent, amount, inset, evening, reach_passes}
use Rattle.rules.specs.Points.{Drawing, x_of, y_of, dl_of, dr_of, w, m}
use Rattle.rules.specs.Moving.{move}

-- ---- the run wl, .., wr of boundary points; boundary indices count from 0

-- l: where the first entry stands on the boundary
abbrev pub l_of : Drawing → List ℕ → ℕ
l_of d run = index_of (head_of run) d.boundary

-- "D = r - l"
abbrev pub D : List ℕ → ℕ
D run = length run - 1

abbrev pub r_of : Drawing → List ℕ → ℕ
r_of d run = l_of d run + D run

-- the points of entries
abbrev pub points_of : List Entry → List ℕ
points_of es = map (λ e. e.point) es

-- "Points strictly inside the run": all but the first and the last
abbrev pub all_but_last : List ℕ → List ℕ
all_but_last [] = []
all_but_last (p ∷ []) = []
all_but_last (p ∷ q ∷ l) = p ∷ all_but_last (q ∷ l)

abbrev pub inner : List ℕ → List ℕ
inner run = all_but_last (tail run)

-- ---- steps 1 to 3, with the run still on the boundary

-- "dr of wl grows by 1", "dl of wr grows by 1", where lines take ports
abbrev pub grow_dr : ℕ → Drawing → Drawing
grow_dr p d =
    record { style = d.style; n = d.n; s = d.s; k = d.k; boundary = d.boundary; owners = d.owners; xs = d.xs; ys = d.ys; dls = d.dls; drs = alter (taken d.style) d.drs p; hs = d.hs; lines = d.lines }

abbrev pub grow_dl : ℕ → Drawing → Drawing
grow_dl p d =
    record { style = d.style; n = d.n; s = d.s; k = d.k; boundary = d.boundary; owners = d.owners; xs = d.xs; ys = d.ys; dls = alter (taken d.style) d.dls p; drs = d.drs; hs = d.hs; lines = d.lines }

-- 1. "Let s1 be 2 if dr of wl is 0, else 1. Move w(l+1), .., wm right by s1. dr of wl grows by 1."
abbrev pub s1 : ℕ → Drawing → ℕ
s1 l d = amount d.style (dr_of d (w d l))

abbrev pub step1 : ℕ → Drawing → Drawing
step1 l d = grow_dr (w d l) (move (l + 1) (s1 l d) d)

-- 2. "Let s2 be 2 if dl of wr is 0, else 1. Move wr, .., wm right by s2. dl of wr grows by 1."
abbrev pub s2 : ℕ → Drawing → ℕ
s2 r d = amount d.style (dl_of d (w d r))

abbrev pub step2 : ℕ → Drawing → Drawing
step2 r d = grow_dl (w d r) (move r (s2 r d) d)

-- 3. "Let A = (x - y of wl) + 1 and B = (x + y of wr) - 1."
abbrev pub A : ℕ → Drawing → ℕ
A l d = (x_of d (w d l) - y_of d (w d l)) + inset d.style

abbrev pub B : ℕ → Drawing → ℕ
B r d = (x_of d (w d r) + y_of d (w d r)) - inset d.style

-- "If A + B is odd, move wr, .., wm one more, and B grows by 1."
abbrev pub s3 : ℕ → ℕ → Drawing → ℕ
s3 l r d = evening d.style (A l d + B r d)

abbrev pub step3 : ℕ → ℕ → Drawing → Drawing
step3 l r d = move r (s3 l r d) d

abbrev pub spread : ℕ → ℕ → Drawing → Drawing
spread l r d = step3 l r (step2 r (step1 l d))

-- ---- step 4, in the drawing after steps 1 to 3: "The new point is at ((A + B)/2, (B - A)/2)."

abbrev pub new_x : ℕ → ℕ → Drawing → ℕ
new_x l r c = (A l c + B r c) / 2

abbrev pub new_y : ℕ → ℕ → Drawing → ℕ
new_y l r c = (B r c - A l c) / 2

-- ---- step 5

-- "h = D/2 rounded up", where the run has D + 1 points
abbrev pub row_height : List ℕ → ℕ
row_height run = length run / 2

-- "A middle port at (a,b) reaches (c,e) if the distance of a and c is at most b - e."
-- Port i of a point at (x,y) is at a = x - h + i, b = y - h; written with sums.
abbrev pub reaches : ℕ → ℕ → ℕ → ℕ → ℕ → ℕ → Bool
reaches x y h i c e = leb (x + i + e) (c + y) && leb (c + e + 2 * h) (x + y + i)

-- "until the first that port i doesn't reach": its index among the inner points i, i + 1, ..
abbrev pub change : ℕ → ℕ → ℕ → Drawing → ℕ → List ℕ → ℕ
change x y h c i [] = i
change x y h c i (p ∷ ps) = if reaches x y h i (x_of c p) (y_of c p) then change x y h c (suc i) ps else i

-- "Point i takes port i, until the first that port i doesn't reach; that one and all after it take port i + 1."
abbrev pub middle_of : ℕ → ℕ → ℕ
middle_of from i = if ltb i from then i else suc i

-- 25, "an inner point reaches neither port i nor port i + 1", is false of the inner points i, i + 1, ..
abbrev pub all_reach : ℕ → ℕ → ℕ → Drawing → ℕ → List ℕ → Bool
all_reach x y h c i [] = true
all_reach x y h c i (p ∷ ps) =
    (reaches x y h i (x_of c p) (y_of c p) || reaches x y h (suc i) (x_of c p) (y_of c p)) && all_reach x y h c (suc i) ps

-- ---- the tests: "21, 5, then entry by entry" 13, 6, 7, "then 8, 9, 25"

-- 13 "an entry marked both guide and feeder", 6 "an entry is 0 or not yet placed", 7 "an entry is covered": entries i, i + 1, ..
abbrev pub entry_tests : Drawing → ℕ → List Reading → Result (Unit {0})
entry_tests d i [] = good tt
entry_tests d i (r ∷ rs) = do
  refuse_if (is_both r) BothMarks i
  refuse_if (eqb (point_read r) 0 || ltb d.k (point_read r)) NotPlaced i
  refuse_if (not (elem (point_read r) d.boundary)) Covered i
  entry_tests d (suc i) rs

-- 8: "the first entry that isn't next on the boundary after the entry before it": entries i, i + 1, .. beside the boundary from the first entry on
abbrev pub run_tests : ℕ → List ℕ → List ℕ → Result (Unit {0})
run_tests i ws [] = good tt
run_tests i [] (p ∷ ps) = refused NoRun i
run_tests i (q ∷ ws) (p ∷ ps) = do
  refuse_if (not (eqb p q)) NoRun i
  run_tests (suc i) ws ps

-- 9: "point n's run isn't the whole boundary"
abbrev pub whole_test : Drawing → List ℕ → Result (Unit {0})
whole_test d run = refuse_if (eqb (d.k + 1) d.n && not (eqb (length run) (m d))) NotWhole 0

-- 25, on the copy c that steps 1 to 3 give, where it is asked
abbrev pub reach_test : ℕ → ℕ → Drawing → List ℕ → Result (Unit {0})
reach_test l r c run = refuse_if (not (reach_passes c.style (all_reach (new_x l r c) (new_y l r c) (row_height run) c 1 (inner run)))) NoReach 0

-- those that need no new place
unfoldable pub call_tests : Drawing → List Reading → Result (Unit {0})
call_tests d rs = do
  let run = points_read rs
  refuse_if (leb d.n d.k) Finished 0
  refuse_if (ltb (length run) 2) FewEntries 0
  entry_tests d 0 rs
  run_tests 0 (drop (l_of d run) d.boundary) run
  whole_test d run

-- all of them, in this order
unfoldable pub judge : Drawing → List Reading → Result (Unit {0})
judge d rs = do
  let run = points_read rs
  call_tests d rs
  reach_test (l_of d run) (r_of d run) (spread (l_of d run) (r_of d run) d) run

-- ---- "Then the covered points leave it, the new point owns them and stands between wl and wr. Its lines are added last, in entry order. k grows by 1."

-- p stands on the boundary b strictly between l and r
abbrev pub inside : ℕ → ℕ → List ℕ → ℕ → Bool
inside l r b p = ltb l (index_of p b) && ltb (index_of p b) r

-- the owners of points p, p + 1, .., where the new point owns those of a test
abbrev pub owned : (ℕ → Bool) → ℕ → ℕ → List ℕ → List ℕ
owned test new p [] = []
owned test new p (o ∷ os) = (if test p then new else o) ∷ owned test new (suc p) os

-- the bend of entry i's line, from 0, where lines bend: "its line to wl bends at wl's new highest right port, its line to wr at wr's new highest left port"
abbrev pub new_bend : ℕ → ℕ → ℕ → ℕ → ℕ → Bend
new_bend rights lefts last from i = if eqb i 0 then Right rights else if eqb i last then Left lefts else Middle (middle_of from i)

-- a line for each entry, from entry i on: "a drawing keeps the outcome for each line"
abbrev pub new_lines : ℕ → (ℕ → Bend) → ℕ → List Entry → List Line
new_lines new bend i [] = []
new_lines new bend i (e ∷ es) = record { later = new; earlier = e.point; bend = bend i; kind = e.kind } ∷ new_lines new bend (suc i) es

-- c: the drawing after steps 1 to 3; (x,y): the new place
abbrev pub joined : List Entry → List ℕ → ℕ → ℕ → ℕ → ℕ → Drawing → Drawing
joined es run l r x y c =
    record {
      style = c.style;
      n = c.n;
      s = c.s;
      k = suc c.k;
      boundary = take (suc l) c.boundary ++ suc c.k ∷ drop r c.boundary;
      owners = snoc (owned (inside l r c.boundary) (suc c.k) 1 c.owners) 0;
      xs = snoc c.xs x;
      ys = snoc c.ys y;
      dls = snoc c.dls 0;
      drs = snoc c.drs 0;
      hs = snoc c.hs (row_height run);
      lines = c.lines ++ new_lines (suc c.k) (λ i. bent c.style (new_bend (dr_of c (w c l)) (dl_of c (w c r)) (D run) (change x y (row_height run) c 1 (inner run)) i)) 0 es;
    }

abbrev pub joined_at : List Entry → List ℕ → ℕ → ℕ → Drawing → Drawing
joined_at es run l r c = joined es run l r (new_x l r c) (new_y l r c) c

-- the drawing with the new point over the run of the entries
unfoldable pub placed_new : Drawing → List Entry → List ℕ → Drawing
placed_new d es run = joined_at es run (l_of d run) (r_of d run) (spread (l_of d run) (r_of d run) d)

-- adding, from what was read; from entries, none of them marked both; from the 16-bit numbers of a call
unfoldable pub add_read : Drawing → List Reading → Result Drawing
add_read d rs = judge d rs >> good (placed_new d (given_in rs) (points_read rs))

abbrev pub add_entries : Drawing → List Entry → Result Drawing
add_entries d es = add_read d (map Given es)

abbrev pub add : Drawing → List ℕ → Result Drawing
add d call = add_read d (map read_entry call)
