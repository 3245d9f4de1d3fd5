-- WISH 4: a net in planar_code, and the order file that it becomes. Vertices count from 0 here: byte b of a list, if it isn't 0, names vertex b - 1.
use Rattle.std.specs.Prelude.{ℕ, zero, suc, ◌+◌, ◌-◌, ◌*◌, Bool, true, false, not, ◌&&◌, ◌||◌, List, [], ◌∷◌, ◌++◌, map, length, get_or, take, drop, leb, ltb, eqb, if◌then◌else◌}
use Rattle.rules.specs.declared.Entry.{Entry}
use Rattle.rules.specs.declared.Kind.TheVariants.{Plain}
use Rattle.rules.specs.declared.Refusal.TheVariants.{BadCode, NoNet, OutputShort}
use Rattle.rules.specs.Basics.{between, index_of, lowest}
use Rattle.rules.specs.Refusals.{Result, good, ◌>>◌, ◌>>=◌, refuse_if}
use Rattle.rules.specs.Entries.{word_of}
use Rattle.rules.specs.Records.{written, order_head, point_entries, end_shape}

-- ---- words used below

-- p x for every x below the bound
unfoldable pub all : (ℕ → Bool) → ℕ → Bool
all p zero = true
all p (suc n) = p n && all p n

-- the highest x below the bound with p x, or z
unfoldable pub seek : (ℕ → Bool) → ℕ → ℕ → ℕ
seek p z zero = z
seek p z (suc n) = let r = seek p z n in if p n then n else r

-- ---- the file: "the 15 characters `>>planar_code<<`, one byte n from 4 to 255, then for each vertex its neighbours in clockwise order, one byte each, ended by 0"

abbrev pub opening : List ℕ
opening = 62 ∷ 62 ∷ 112 ∷ 108 ∷ 97 ∷ 110 ∷ 97 ∷ 114 ∷ 95 ∷ 99 ∷ 111 ∷ 100 ∷ 101 ∷ 60 ∷ 60 ∷ []

-- the second list begins with the first
unfoldable pub begins? : List ℕ → List ℕ → Bool
begins? [] bs = true
begins? (a ∷ l) [] = false
begins? (a ∷ l) (b ∷ bs) = eqb a b && begins? l bs

abbrev pub fewest_vertices : ℕ
fewest_vertices = 4

abbrev pub most_vertices : ℕ
most_vertices = 255

abbrev pub n_of : List ℕ → ℕ
n_of bs = get_or bs 15 0

-- the lists
abbrev pub body : List ℕ → List ℕ
body bs = drop 16 bs

-- v lists and nothing behind them, each ended by 0, and no neighbour above n
unfoldable pub lists? : ℕ → ℕ → List ℕ → Bool
lists? n zero [] = true
lists? n zero (b ∷ bs) = false
lists? n (suc v) [] = false
lists? n (suc v) (zero ∷ bs) = lists? n v bs
lists? n (suc v) (suc b ∷ bs) = leb (suc b) n && lists? n (suc v) bs

-- 14 is false: "wrong opening characters, n out of range, a neighbour above n, missing bytes or bytes left over"
unfoldable pub formed? : List ℕ → Bool
formed? bs = begins? opening bs && (between fewest_vertices most_vertices (n_of bs) && lists? (n_of bs) (n_of bs) (body bs))

-- ---- the net: the neighbours of all vertices, one list behind another. Place d is the d-th neighbour byte, from 0.

-- which vertex each place names
unfoldable pub neighbours : List ℕ → List ℕ
neighbours [] = []
neighbours (zero ∷ bs) = neighbours bs
neighbours (suc b ∷ bs) = b ∷ neighbours bs

-- in whose list each place stands, where the first list is v's
unfoldable pub owners : ℕ → List ℕ → List ℕ
owners v [] = []
owners v (zero ∷ bs) = owners (suc v) bs
owners v (suc b ∷ bs) = v ∷ owners v bs

-- the place behind each list's last, where d places stand before
unfoldable pub ends : ℕ → List ℕ → List ℕ
ends d [] = []
ends d (zero ∷ bs) = d ∷ ends d bs
ends d (suc b ∷ bs) = ends (suc d) bs

-- n vertices and D places; own and nbr: in whose list a place stands, and which vertex it names; v's list is from place off v up to off (v + 1)
pub record Flat : Type 0 where
  pub n : ℕ
  pub D : ℕ
  pub off : ℕ → ℕ
  pub own : ℕ → ℕ
  pub nbr : ℕ → ℕ

unfoldable pub net_of : List ℕ → Flat
net_of bs =
    record {
      n = n_of bs;
      D = length (neighbours (body bs));
      off = λ v. get_or (0 ∷ ends 0 (body bs)) v 0;
      own = λ d. get_or (owners 0 (body bs)) d 0;
      nbr = λ d. get_or (neighbours (body bs)) d 0;
    }

-- the next place clockwise: the list is read cyclically
unfoldable pub after : Flat → ℕ → ℕ
after f d = if eqb (d + 1) (f.off (f.own d + 1)) then f.off (f.own d) else d + 1

-- the place of u in v's list; D if there is none
unfoldable pub place : Flat → ℕ → ℕ → ℕ
place f v u = seek (λ d. eqb (f.own d) v && eqb (f.nbr d) u) f.D f.D

-- the same line in the other list
abbrev pub back : Flat → ℕ → ℕ
back f d = place f (f.nbr d) (f.own d)

-- ---- 15: "A net is taken exactly if ..

-- .. no list names its own vertex ..
unfoldable pub not_self? : Flat → Bool
not_self? f = all (λ d. not (eqb (f.nbr d) (f.own d))) f.D

-- .. or one vertex twice ..
unfoldable pub not_twice? : Flat → Bool
not_twice? f = all (λ d. all (λ e. not (eqb (f.own d) (f.own e) && eqb (f.nbr d) (f.nbr e)) || eqb d e) f.D) f.D

-- .. every line stands in both lists ..
unfoldable pub in_both? : Flat → Bool
in_both? f = all (λ d. ltb (back f d) f.D) f.D

-- .. all is connected .. (each vertex has a label, at first its own number; each place in turn gives all that have its owner's label that of the vertex which it names)
unfoldable pub merge : (ℕ → ℕ) → ℕ → ℕ → ℕ → ℕ
merge r a b x = if eqb (r x) (r a) then r b else r x

unfoldable pub labels : Flat → ℕ → ℕ → ℕ
labels f zero = λ x. x
labels f (suc k) = merge (labels f k) (f.own k) (f.nbr k)

unfoldable pub joined? : Flat → Bool
joined? f = all (λ x. eqb (labels f f.D x) (labels f f.D 0)) f.n

-- .. there are 3n - 6 lines (each has two places) ..
abbrev pub counted? : Flat → Bool
counted? f = eqb (f.D + 12) (6 * f.n)

-- .. and every face has three sides." (to go on along a face: over the line, and to the next line clockwise)
abbrev pub side : Flat → ℕ → ℕ
side f d = after f (back f d)

unfoldable pub faces? : Flat → Bool
faces? f = all (λ d. eqb (side f (side f (side f d))) d) f.D

unfoldable pub taken? : Flat → Bool
taken? f = not_self? f && (not_twice? f && (in_both? f && (joined? f && (counted? f && faces? f))))

-- ---- the points

-- "File vertex 1 becomes point 1, and its first listed neighbour becomes point 2. The neighbour listed next after that one, cyclically, becomes point n."
abbrev pub first : ℕ
first = 0

-- place 0 is the first in vertex 0's list
abbrev pub second : Flat → ℕ
second f = f.nbr 0

abbrev pub top : Flat → ℕ
top f = f.nbr (after f 0)

-- the neighbours from place d on, clockwise, up to `last`, in front of those in `done`: clockwise is from right to left, so they come out from left to right
unfoldable pub gather : Flat → ℕ → ℕ → ℕ → List ℕ → List ℕ
gather f last zero d done = done
gather f last (suc k) d done =
    let r = gather f last k (after f d) (f.nbr d ∷ done) in
    if eqb (f.nbr d) last then f.nbr d ∷ done else r

-- the neighbours of v from l, left of it on the boundary, to r, right of it: left to right
unfoldable pub run : Flat → ℕ → ℕ → ℕ → List ℕ
run f v l r = gather f l f.D (place f v r) []

-- The boundary is the list of its vertices, from point 1 to point 2.

-- "joined to no boundary vertex but its two neighbours there": the boundary vertex at t
unfoldable pub free? : Flat → List ℕ → ℕ → Bool
free? f b t =
    all (λ d. all (λ l. not (eqb (f.own d) (get_or b t 0) && eqb (f.nbr d) (get_or b l 0)) || (eqb l (t + 1) || eqb (l + 1) t)) (length b)) f.D

-- such a vertex, "points 1 and 2 excepted"
unfoldable pub open? : Flat → List ℕ → ℕ → Bool
open? f b v = ltb 0 (index_of v b) && (ltb (index_of v b + 1) (length b) && free? f b (index_of v b))

-- "the boundary vertex with the lowest file number, points 1 and 2 excepted, that is joined to no boundary vertex but its two neighbours there"
unfoldable pub next : Flat → List ℕ → ℕ
next f b = lowest (open? f b) f.n 0

-- a point: its vertex, and its entries, as vertices
pub record Point : Type 0 where
  pub vertex : ℕ
  pub entries : List ℕ

-- the point that comes off where its vertex stands at t, and the boundary without it
unfoldable pub point_at : Flat → List ℕ → ℕ → Point
point_at f b t = record { vertex = get_or b t 0; entries = run f (get_or b t 0) (get_or b (t - 1) 0) (get_or b (t + 1) 0) }

abbrev pub comes_off : Flat → List ℕ → Point
comes_off f b = point_at f b (index_of (next f b) b)

unfoldable pub without : Flat → List ℕ → ℕ → List ℕ
without f b t = take (t - 1) b ++ ((point_at f b t).entries ++ drop (t + 2) b)

-- "Counting down from n - 1 to 3": k points more, in front of those numbered already
unfoldable pub number : Flat → ℕ → List ℕ → List Point → List Point
number f zero b later = later
number f (suc k) b later = number f k (without f b (index_of (next f b) b)) (comes_off f b ∷ later)

-- point n stands over the whole boundary
abbrev pub top_point : Flat → Point
top_point f = record { vertex = top f; entries = run f (top f) first (second f) }

-- all points, from point 1 on
unfoldable pub points : Flat → List Point
points f =
    record { vertex = first; entries = [] } ∷ record { vertex = second f; entries = first ∷ [] } ∷
    number f (f.n - 3) (top_point f).entries (top_point f ∷ [])

-- ---- "Output is the order file, all lines plain, without a scale record, and in a second buffer the list of file vertices by point"

abbrev pub vertices : List Point → List ℕ
vertices ps = map (λ p. p.vertex) ps

-- a vertex's point number, from 1, where these are the vertices by point
abbrev pub point_of : List ℕ → ℕ → ℕ
point_of vs v = suc (index_of v vs)

-- a plain line to a point
abbrev pub plain : ℕ → Entry
plain p = record { point = p; kind = Plain }

-- the words of a point's entries
abbrev pub entry_words : List ℕ → List ℕ → List ℕ
entry_words vs es = map (λ v. word_of (plain (point_of vs v))) es

unfoldable pub records : List ℕ → List Point → List ℕ
records vs [] = []
records vs (p ∷ ps) = written point_entries (entry_words vs p.entries) ++ records vs ps

unfoldable pub order_file : ℕ → List Point → List ℕ
order_file n ps = written order_head (n ∷ []) ++ (records (vertices ps) ps ++ written end_shape [])

-- "one byte each from point 1 on"
abbrev pub vertex_list : List Point → List ℕ
vertex_list ps = map suc (vertices ps)

-- both outputs
pub record Import : Type 0 where
  pub order : List ℕ
  pub list : List ℕ

abbrev pub import_of : Flat → Import
import_of f = record { order = order_file f.n (points f); list = vertex_list (points f) }

-- 14, "tested first"; 15, "tested after 14"; "place 0 for both"
unfoldable pub imported : List ℕ → Result Import
imported file = do
  refuse_if (not (formed? file)) BadCode 0
  refuse_if (not (taken? (net_of file))) NoNet 0
  good (import_of (net_of file))

-- "If either buffer is too short, 24 comes after all other tests."
abbrev pub room_for_both : ℕ → ℕ → Result Import → Result Import
room_for_both order list wanted = do
  i ← wanted
  refuse_if (ltb order (length i.order)) OutputShort 0
  refuse_if (ltb list (length i.list)) OutputShort 0
  good i

-- what goes into each buffer
abbrev pub order_of : Result Import → Result (List ℕ)
order_of wanted = do
  i ← wanted
  good i.order

abbrev pub list_of : Result Import → Result (List ℕ)
list_of wanted = do
  i ← wanted
  good i.list

-- and how many bytes that is
abbrev pub sizes_of : Result Import → Result (ℕ × ℕ)
sizes_of wanted = do
  i ← wanted
  good (length i.order, length i.list)
