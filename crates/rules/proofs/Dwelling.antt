-- What wish 3 makes of the moves: no cut goes to where the cutter is, and a dwelling cut is all that is left out.
use Rattle.std.specs.Prelude.{ℕ, ◌+◌, ◌*◌, ◌≤◌, ◌≡◌, refl, Bool, true, false, ◌&&◌, List, [], ◌∷◌, ◌++◌, length, eqb, if◌then◌else◌}
use Rattle.std.proofs.Common.{sym, ap, ◌∙◌, subst, true≢false, append_assoc, eq-eqb, eqb-true}
use Rattle.std.proofs.Math.Nat.{eq_of_mul-eq-mul_left, eq_of_mul-eq-mul_right}
use Rattle.rules.specs.declared.Style.TheVariants.{OneBend, Straight}
use Rattle.rules.specs.declared.Kind.{Kind}
use Rattle.rules.specs.declared.Kind.TheVariants.{Guide, Plain, Feeder}
use Rattle.rules.specs.declared.Line.{Line}
use Rattle.rules.specs.declared.Place.{Place}
use Rattle.rules.specs.Basics.{between}
use Rattle.rules.specs.Bools.{both, is_false, in_range}
use Rattle.rules.specs.Points.{Drawing, place_of}
use Rattle.rules.specs.Ports.{bend_place}
use Rattle.rules.specs.Meeting.{same_place}
use Rattle.rules.specs.MoveCounts.{moves_each}
use Rattle.rules.specs.Moves.{Tool, Move, travel, cut, plunge, lift, is_tool, eighths, line_moves, without_dwelling, moves_once, repeated, moves_over, all_moves}

-- no cut among these moves goes to the place before it; (x, y) is the place before them
abbrev pub NeverDwells : ℕ → ℕ → List Move → Type 0
NeverDwells x y [] = Unit {0}
NeverDwells x y (travel a b ∷ ms) = NeverDwells a b ms
NeverDwells x y (cut a b ∷ ms) = ((a ≡ x) × (b ≡ y) → ⊥) × NeverDwells a b ms
NeverDwells x y (plunge z ∷ ms) = NeverDwells x y ms
NeverDwells x y (lift z ∷ ms) = NeverDwells x y ms

-- What is left never dwells.
pub never-dwells : (x y : ℕ) (ms : List Move) → NeverDwells x y (without_dwelling x y ms)
never-dwells x y [] = tt
never-dwells x y (travel a b ∷ ms) = never-dwells a b ms
never-dwells x y (cut a b ∷ ms) = go (eqb a x && eqb b y) refl (without_dwelling a b ms) (never-dwells a b ms)
  where
    go : (t : Bool) → (eqb a x && eqb b y) ≡ t → (rest : List Move) → NeverDwells a b rest → NeverDwells x y ((if t then [] else cut a b ∷ []) ++ rest)
    go true e rest h =
        let s = both (eqb a x) (eqb b y) e in
        subst (λ (n : ℕ). NeverDwells x n rest) (eqb-true b y s.1) (subst (λ (n : ℕ). NeverDwells n b rest) (eqb-true a x s.0) h)
    go false e rest h = ((λ s. true≢false (sym (rw (eq-eqb a x s.0, eq-eqb b y s.1)) ∙ e)), h)
never-dwells x y (plunge z ∷ ms) = never-dwells x y ms
never-dwells x y (lift z ∷ ms) = never-dwells x y ms

-- Moves behind others, that never dwell wherever the cutter is.
behind : (x y : ℕ) (ms ns : List Move) → NeverDwells x y ms → ((a b : ℕ) → NeverDwells a b ns) → NeverDwells x y (ms ++ ns)
behind x y [] ns h k = k x y
behind x y (travel a b ∷ ms) ns h k = behind a b ms ns h k
behind x y (cut a b ∷ ms) ns h k = (h.0, behind a b ms ns h.1 k)
behind x y (plunge z ∷ ms) ns h k = behind x y ms ns h k
behind x y (lift z ∷ ms) ns h k = behind x y ms ns h k

-- Leaving out goes through the moves one by one: behind some moves it goes on where they end.
split : (x y : ℕ) (ms ns ns' : List Move) → ((a b : ℕ) → without_dwelling a b ns ≡ ns') → without_dwelling x y (ms ++ ns) ≡ without_dwelling x y ms ++ ns'
split x y [] ns ns' h = h x y
split x y (travel a b ∷ ms) ns ns' h = ap (λ (l : List Move). travel a b ∷ l) (split a b ms ns ns' h)
split x y (cut a b ∷ ms) ns ns' h =
    let front = if eqb a x && eqb b y then [] else cut a b ∷ [] in
    ap (λ (l : List Move). front ++ l) (split a b ms ns ns' h) ∙ sym (append_assoc front (without_dwelling a b ms) ns')
split x y (plunge z ∷ ms) ns ns' h = ap (λ (l : List Move). plunge z ∷ l) (split x y ms ns ns' h)
split x y (lift z ∷ ms) ns ns' h = ap (λ (l : List Move). lift z ∷ l) (split x y ms ns ns' h)

module _ (d : Drawing) (t : Tool) where
  -- the five moves of a line, or its four, as document 01 has them
  abbrev listed : Line → List Move
  listed l = line_moves d.style d.s t (place_of d l.later) (bend_place d l) (place_of d l.earlier)

  -- Of a line, wherever the cutter was.
  once : (l : Line) (x y : ℕ) → NeverDwells x y (moves_once d t l)
  once l x y = never-dwells 0 0 (listed l)

  lines : (ls : List Line) (x y : ℕ) → NeverDwells x y (moves_over d t ls)
  lines [] x y = tt
  lines (l ∷ ls) x y = go l.kind (lines ls)
    where
      go : (k : Kind) → ((a b : ℕ) → NeverDwells a b (moves_over d t ls)) → NeverDwells x y (repeated k (moves_once d t l) ++ moves_over d t ls)
      go Guide rest = rest x y
      go Plain rest = behind x y (moves_once d t l) (moves_over d t ls) (once l x y) rest
      go Feeder rest = behind x y (moves_once d t l ++ moves_once d t l) (moves_over d t ls) (behind x y (moves_once d t l) (moves_once d t l) (once l x y) (once l)) rest

  -- NO CUT OF A DRAWING'S MOVES GOES TO WHERE THE CUTTER IS, wherever it was before them.
  pub moves-never_dwell : (x y : ℕ) → NeverDwells x y (all_moves d t)
  moves-never_dwell x y = lines d.lines x y

  -- all moves of some lines with their dwelling cuts, as they were before wish 3
  abbrev pub listed_over : List Line → List Move
  listed_over [] = []
  listed_over (l ∷ ls) = repeated l.kind (listed l) ++ listed_over ls

  -- THE SHORTENED LIST is the whole list less its dwelling cuts.
  pub shortened : (ls : List Line) (x y : ℕ) → without_dwelling x y (listed_over ls) ≡ moves_over d t ls
  shortened [] x y = refl
  shortened (l ∷ ls) x y = go l.kind (shortened ls)
    where
      go : (k : Kind) → ((a b : ℕ) → without_dwelling a b (listed_over ls) ≡ moves_over d t ls) → without_dwelling x y (repeated k (listed l) ++ listed_over ls) ≡ repeated k (moves_once d t l) ++ moves_over d t ls
      go Guide rest = rest x y
      go Plain rest = split x y (listed l) (listed_over ls) (moves_over d t ls) rest
      go Feeder rest =
          ap (without_dwelling x y) (append_assoc (listed l) (listed l) (listed_over ls))
          ∙ split x y (listed l) (listed l ++ listed_over ls) (moves_once d t l ++ moves_over d t ls) (λ a b. split a b (listed l) (listed_over ls) (moves_over d t ls) rest)
          ∙ sym (append_assoc (moves_once d t l) (moves_once d t l) (moves_over d t ls))

-- ---- a line's moves by its places on the grid

-- Two tests with the same meaning are the same.
same_test : (a b c d : ℕ) → (a ≡ b → c ≡ d) → (c ≡ d → a ≡ b) → eqb a b ≡ eqb c d
same_test a b c d to back = go (eqb c d) refl
  where
    go : (t : Bool) → eqb c d ≡ t → eqb a b ≡ t
    go true e = eq-eqb a b (back (eqb-true c d e))
    go false e = is_false (eqb a b) (λ q. true≢false (sym (eq-eqb c d (to (eqb-true a b q))) ∙ e))

-- the same, said the other way round
pub same_turned : (a b : Place) → same_place a b ≡ same_place b a
unfolding same_place
same_turned a b = rw (turned a.x b.x, turned a.y b.y)
  where
    turned : (m n : ℕ) → eqb m n ≡ eqb n m
    turned m n = same_test m n n m (λ e. sym e) (λ e. sym e)

-- three moves, and two of which some are left out
kept : (p q : Bool) (a b c d e : Move) → length (a ∷ b ∷ ((if p then [] else c ∷ []) ++ ((if q then [] else d ∷ []) ++ (e ∷ [])))) ≡ 3 + (if p then 0 else 1) + (if q then 0 else 1)
kept true true a b c d e = refl
kept true false a b c d e = refl
kept false true a b c d e = refl
kept false false a b c d e = refl

-- A tool has a pitch.
pub has_pitch : (t : Tool) → is_tool t ≡ true → 1 ≤ t.pitch
has_pitch t is = (in_range 1 80 t.pitch (both (between 1 80 t.pitch) (between 1 40 t.depth && between 1 80 t.clearance) is).0).0

module _ (s : ℕ) (t : Tool) (some : 1 ≤ s) (wide : 1 ≤ t.pitch) where
  -- Times scale and pitch, two coordinates are the same where they were.
  scaled : (a b : ℕ) → eqb (eighths s t a) (eighths s t b) ≡ eqb a b
  scaled a b =
      same_test (eighths s t a) (eighths s t b) a b
      (λ e. eq_of_mul-eq-mul_left s some a b (eq_of_mul-eq-mul_right t.pitch wide (s * a) (s * b) e))
      (λ e. ap (eighths s t) e)

  -- the cut from one place to another: none where they are one
  abbrev pub cut_from : Place → Place → List Move
  cut_from from to = if same_place to from then [] else cut (eighths s t to.x) (eighths s t to.y) ∷ []

  -- Where lines bend: document 01's five, less a cut to the bend where that is the later point, and a cut to the earlier point where that is the bend.
  pub bent-list : (later bend earlier : Place) →
      without_dwelling 0 0 (line_moves OneBend s t later bend earlier) ≡
      travel (eighths s t later.x) (eighths s t later.y) ∷ plunge t.depth ∷ (cut_from later bend ++ (cut_from bend earlier ++ (lift t.clearance ∷ [])))
  unfolding same_place
  bent-list later bend earlier = rw (scaled bend.x later.x, scaled bend.y later.y, scaled earlier.x bend.x, scaled earlier.y bend.y)

  -- So there are so many.
  pub bent-count : (later bend earlier : Place) → length (without_dwelling 0 0 (line_moves OneBend s t later bend earlier)) ≡ moves_each later bend earlier
  bent-count later bend earlier =
      ap length (bent-list later bend earlier)
      ∙ kept (same_place bend later) (same_place earlier bend) (travel (eighths s t later.x) (eighths s t later.y)) (plunge t.depth) (cut _ _) (cut _ _) (lift t.clearance)

  -- Where they don't: one cut.
  pub straight-list : (later bend earlier : Place) →
      without_dwelling 0 0 (line_moves Straight s t later bend earlier) ≡
      travel (eighths s t later.x) (eighths s t later.y) ∷ plunge t.depth ∷ (cut_from later earlier ++ (lift t.clearance ∷ []))
  unfolding same_place
  straight-list later bend earlier = rw (scaled earlier.x later.x, scaled earlier.y later.y)

-- A straight line's moves are those of one that bends at its earlier point.
pub straight-bent : (s : ℕ) (t : Tool) (later bend earlier : Place) → without_dwelling 0 0 (line_moves Straight s t later bend earlier) ≡ without_dwelling 0 0 (line_moves OneBend s t later earlier earlier)
straight-bent s t later bend earlier = rw (eq-eqb (eighths s t earlier.x) (eighths s t earlier.x) refl, eq-eqb (eighths s t earlier.y) (eighths s t earlier.y) refl)
