-- PLACES DON'T DEPEND ON KINDS, in both drawings: guide, plain or feeder, entries that name the same points get the same answers and the same drawing but for the kinds of its lines.
use Rattle.std.specs.Prelude.{ℕ, suc, ◌/◌, ◌%◌, ◌≡◌, refl, Bool, false, not, List, [], ◌∷◌, ◌++◌, map}
use Rattle.std.proofs.Math.Path.{sym, ap, ap₂}
use Rattle.std.proofs.Common.{◌∙◌, arith}
use Rattle.rules.specs.declared.Style.{Style}
use Rattle.rules.specs.declared.Kind.TheVariants.{Plain}
use Rattle.rules.specs.declared.Line.{Line}
use Rattle.rules.specs.declared.Entry.{Entry}
use Rattle.rules.specs.declared.Bend.{Bend}
use Rattle.rules.specs.declared.Reading.{Reading}
use Rattle.rules.specs.declared.Reading.TheVariants.{Given}
use Rattle.rules.specs.declared.Refusal.TheVariants.{NoReach}
use Rattle.rules.specs.Basics.{any_of}
use Rattle.rules.specs.Refusals.{Result, good, refused, answer, ◌>>◌, refuse_if, Answer}
use Rattle.rules.specs.Entries.{point_limit, reading, read_entry, is_both, points_read}
use Rattle.rules.specs.Readings.{entry_of, tests_with}
use Rattle.rules.proofs.Readings.{entries-read, points-given, tests_of, judge_of, adding}
use Rattle.rules.proofs.Lengths.{map_append}
use Rattle.rules.specs.Styles.{bent, reach_passes}
use Rattle.rules.specs.Points.{Drawing, opening, x_of, y_of, dl_of, dr_of, w, W}
use Rattle.rules.specs.Adding.{l_of, r_of, D, points_of, inner, row_height, spread, new_x, new_y, change, all_reach, new_bend, new_lines, entry_tests, reach_test, call_tests, judge, placed_new, add_read, add_entries, add}
use Rattle.rules.specs.Calls.{left, after, answers, drawn, said}

-- a drawing with other lines
abbrev with_lines : Drawing → List Line → Drawing
with_lines d ls =
    record { style = d.style; n = d.n; s = d.s; k = d.k; boundary = d.boundary; owners = d.owners; xs = d.xs; ys = d.ys; dls = d.dls; drs = d.drs; hs = d.hs; lines = ls }

-- a drawing with every line plain: all else of it stays
abbrev pub plain_line : Line → Line
plain_line l = record { later = l.later; earlier = l.earlier; bend = l.bend; kind = Plain }

abbrev pub plainly : Drawing → Drawing
plainly d = with_lines d (map plain_line d.lines)

-- a call with its marks taken away
abbrev pub unmarked : List ℕ → List ℕ
unmarked call = map (λ e. e % point_limit) call

-- every entry of the calls is a guide, plain or a feeder
abbrev pub OneKind : List (List ℕ) → Type 0
OneKind [] = Unit {0}
OneKind (call ∷ calls) = (any_of is_both (map read_entry call) ≡ false) × OneKind calls

-- ---- tests and ports look at no line

module _ (x y h : ℕ) (c : Drawing) where
  reach-plain : (i : ℕ) (ps : List ℕ) → all_reach x y h (plainly c) i ps ≡ all_reach x y h c i ps
  reach-plain i [] = refl
  reach-plain i (p ∷ ps) = rw (reach-plain (suc i) ps)

  change-plain : (i : ℕ) (ps : List ℕ) → change x y h (plainly c) i ps ≡ change x y h c i ps
  change-plain i [] = refl
  change-plain i (p ∷ ps) = rw (change-plain (suc i) ps)

module _ (d : Drawing) where
  entries-plain : (i : ℕ) (rs : List Reading) → entry_tests (plainly d) i rs ≡ entry_tests d i rs
  entries-plain i [] = refl
  entries-plain i (r ∷ rs) = rw (entries-plain (suc i) rs)

  tests_plain : (rs : List Reading) → call_tests (plainly d) rs ≡ call_tests d rs
  unfolding call_tests
  tests_plain rs = ap (tests_with d (points_read rs)) (entries-plain 0 rs)

  judge-plain : (rs : List Reading) → judge (plainly d) rs ≡ judge d rs
  unfolding judge
  judge-plain rs =
      let run = points_read rs in
      let l = l_of d run in
      let r = r_of d run in
      let c = spread l r d in
      ap₂ (λ (t : Result (Unit {0})) (b : Bool). t >> refuse_if (not (reach_passes d.style b)) NoReach 0) (tests_plain rs) (reach-plain (new_x l r c) (new_y l r c) (row_height run) c 1 (inner run))

-- ---- nor at a kind

abbrev plain_entry : Entry → Entry
plain_entry e = record { point = e.point; kind = Plain }

points-plain : (es : List Entry) → points_of (map plain_entry es) ≡ points_of es
points-plain [] = refl
points-plain (e ∷ es) = ap (λ (l : List ℕ). e.point ∷ l) (points-plain es)

module _ (d : Drawing) where
  entries-named : (i : ℕ) (es : List Entry) → entry_tests d i (map Given (map plain_entry es)) ≡ entry_tests d i (map Given es)
  entries-named i [] = refl
  entries-named i (e ∷ es) = rw (entries-named (suc i) es)

  judge-named : (es : List Entry) → judge d (map Given (map plain_entry es)) ≡ judge d (map Given es)
  judge-named es =
      let run = points_of es in
      let rs = map Given es in
      let ps = map Given (map plain_entry es) in
      let same = points-given (map plain_entry es) ∙ points-plain es in
      let tests : call_tests d ps ≡ call_tests d rs = tests_of d ps run same ∙ ap (tests_with d run) (entries-named 0 es) ∙ sym (tests_of d rs run (points-given es)) in
      judge_of d ps run same ∙
      ap (λ (t : Result (Unit {0})). t >> reach_test (l_of d run) (r_of d run) (spread (l_of d run) (r_of d run) d) run) tests ∙
      sym (judge_of d rs run (points-given es))

  -- The new lines are those of the entries, plain.
  lines-plain : (new : ℕ) (bend : ℕ → Bend) (i : ℕ) (es : List Entry) → new_lines new bend i (map plain_entry es) ≡ map plain_line (new_lines new bend i es)
  lines-plain new bend i [] = refl
  lines-plain new bend i (e ∷ es) = ap (λ (l : List Line). record { later = new; earlier = e.point; bend = bend i; kind = Plain } ∷ l) (lines-plain new bend (suc i) es)

  placed-plain : (es : List Entry) (run : List ℕ) → placed_new (plainly d) (map plain_entry es) run ≡ plainly (placed_new d es run)
  unfolding placed_new
  placed-plain es run =
      let l = l_of d run in
      let r = r_of d run in
      let c = spread l r d in
      let x = new_x l r c in
      let y = new_y l r c in
      let h = row_height run in
      let bends : ℕ → ℕ → Bend = λ from i. bent d.style (new_bend (dr_of c (w c l)) (dl_of c (w c r)) (D run) from i) in
      let new = suc d.k in
      let from = change x y h c 1 (inner run) in
      ap (with_lines (placed_new d es run))
      (ap (λ (n : ℕ). map plain_line d.lines ++ new_lines new (bends n) 0 (map plain_entry es)) (change-plain x y h c 1 (inner run)) ∙
      ap (λ (ls : List Line). map plain_line d.lines ++ ls) (lines-plain new (bends from) 0 es) ∙
      sym (map_append plain_line d.lines (new_lines new (bends from) 0 es)))

-- ---- so a call does the same to the plain drawing

abbrev over : {A B : Type 0} → (A → B) → Result A → Result B
over f (good a) = good (f a)
over f (refused r p) = refused r p

entries-added : (d : Drawing) (es : List Entry) → add_entries (plainly d) (map plain_entry es) ≡ over plainly (add_entries d es)
entries-added d es =
    adding (plainly d) (map plain_entry es) ∙
    ap₂ (λ (t : Result (Unit {0})) (ps : List ℕ). t >> good (placed_new (plainly d) (map plain_entry es) ps)) (judge-plain d (map Given (map plain_entry es)) ∙ judge-named d es) (points-plain es) ∙
    go (judge d (map Given es)) ∙ sym (ap (over plainly) (adding d es))
  where
    go : (t : Result (Unit {0})) → (t >> good (placed_new (plainly d) (map plain_entry es) (points_of es))) ≡ over plainly (t >> good (placed_new d es (points_of es)))
    go (good u) = ap good (placed-plain d es (points_of es))
    go (refused r p) = refl

-- without its marks an entry is plain
unmarked-read : (call : List ℕ) → map read_entry (unmarked call) ≡ map Given (map plain_entry (map entry_of call))
unmarked-read [] = refl
unmarked-read (e ∷ call) =
    let low : e % point_limit % point_limit ≡ e % point_limit = omega arith in
    let top : e % point_limit / point_limit ≡ 0 = omega arith in
    ap₂ (λ (r : Reading) (l : List Reading). r ∷ l) (ap₂ reading low top) (unmarked-read call)

call-plain : (d : Drawing) (call : List ℕ) → any_of is_both (map read_entry call) ≡ false → add (plainly d) (unmarked call) ≡ over plainly (add d call)
call-plain d call one =
    ap (add_read (plainly d)) (unmarked-read call) ∙ entries-added d (map entry_of call) ∙ ap (λ (rs : List Reading). over plainly (add_read d rs)) (sym (entries-read call one))

left_plain : (d : Drawing) (r : Result Drawing) → left (plainly d) (over plainly r) ≡ plainly (left d r)
left_plain d (good e) = refl
left_plain d (refused r p) = refl

answer-plain : (r : Result Drawing) → answer (over plainly r) ≡ answer r
answer-plain (good e) = refl
answer-plain (refused r p) = refl

calls-plain : (d : Drawing) (calls : List (List ℕ)) → OneKind calls → (after (plainly d) (map unmarked calls) ≡ plainly (after d calls)) × (answers (plainly d) (map unmarked calls) ≡ answers d calls)
calls-plain d [] h = (refl, refl)
calls-plain d (call ∷ calls) h =
    let one = call-plain d call h.0 in
    let e : left (plainly d) (add (plainly d) (unmarked call)) ≡ plainly (left d (add d call)) = ap (left (plainly d)) one ∙ left_plain d (add d call) in
    let rest = calls-plain (left d (add d call)) calls h.1 in (
      ap (λ (d : Drawing). after d (map unmarked calls)) e ∙ rest.0,
      ap₂ (λ (a : Answer (Unit {0})) (l : List (Answer (Unit {0}))). a ∷ l) (ap answer one ∙ answer-plain (add d call)) (ap (λ (d : Drawing). answers d (map unmarked calls)) e ∙ rest.1),
    )

-- Calls without their marks get the same answers, and the drawing with every line plain.
pub as_plain : (τ : Style) (n : ℕ) (calls : List (List ℕ)) → OneKind calls →
    (drawn τ n (map unmarked calls) ≡ plainly (drawn τ n calls)) × (said τ n (map unmarked calls) ≡ said τ n calls)
as_plain τ n calls h = calls-plain (opening τ n) calls h

-- what two drawings share: all but the kinds of their lines
pub record SamePlaces (d e : Drawing) : Type 0 where
  pub all : plainly d ≡ plainly e
  pub x : (p : ℕ) → x_of d p ≡ x_of e p
  pub y : (p : ℕ) → y_of d p ≡ y_of e p
  pub width : W d ≡ W e

-- THE LAW: two lists of calls whose entries name the same points, each marked guide, plain or feeder in any way.
pub same_places : (τ : Style) (n : ℕ) (a b : List (List ℕ)) → OneKind a → OneKind b → map unmarked a ≡ map unmarked b →
    (said τ n a ≡ said τ n b) × SamePlaces (drawn τ n a) (drawn τ n b)
same_places τ n a b ha hb e =
    let pa = as_plain τ n a ha in
    let pb = as_plain τ n b hb in
    let same : plainly (drawn τ n a) ≡ plainly (drawn τ n b) = sym pa.0 ∙ ap (drawn τ n) e ∙ pb.0 in (
      sym pa.1 ∙ ap (said τ n) e ∙ pb.1,
      record { all = same; x = λ p. ap (λ (d : Drawing). x_of d p) same; y = λ p. ap (λ (d : Drawing). y_of d p) same; width = ap W same },
    )
