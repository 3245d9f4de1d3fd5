-- A DRAWING FILE NEVER GIVES 13: its lines have one of three kinds, and none can be marked both guide and feeder.
use Rattle.std.specs.Prelude.{ℕ, zero, suc, ◌+◌, ◌-◌, ◌*◌, ◌≡◌, refl, Bool, true, false, not, ◌&&◌, ◌||◌, List, [], ◌∷◌, map, length, get_or, drop, leb, ltb, eqb}
use Rattle.std.proofs.Common.{sym, subst, true≢false}
use Rattle.rules.specs.declared.Style.{Style}
use Rattle.rules.specs.declared.Entry.{Entry}
use Rattle.rules.specs.declared.Reading.TheVariants.{Given}
use Rattle.rules.specs.declared.Refusal.{Refusal}
use Rattle.rules.specs.declared.Refusal.TheVariants.{FileEnds, WrongMark, OutOfRange, OtherStart, FewEntries, NotPlaced, Covered, NoRun, NotWhole, ExtraBytes, OtherDrawing, BothMarks, Finished, Unfinished, NoReach}
use Rattle.rules.specs.Basics.{between, same, elem}
use Rattle.rules.specs.Refusals.{number, Result, good, refused, ◌>>=◌, ◌>>◌, refuse_if, placed}
use Rattle.rules.proofs.Readings.{points-given, tests_of, judge_of, adding}
use Rattle.rules.specs.Styles.{reach_passes}
use Rattle.rules.specs.Points.{Drawing, m}
use Rattle.rules.specs.Adding.{l_of, r_of, inner, row_height, points_of, spread, new_x, new_y, all_reach, entry_tests, run_tests, call_tests, judge, add_entries}
use Rattle.rules.specs.Records.{Size, plain, counted, Shape, Cursor, Found, first, words_at, rest_of, read_record, several, read_end, end_shape, from_start, drawing_head, point_place, line_shape}
use Rattle.rules.specs.OrderFile.{start_with}
use Rattle.rules.specs.DrawingFile.{group, behind, group_place, drawing_bytes, judge_rest, judge_lines, compare_bytes, judge_drawing, read_drawing, order_back}

-- what is given isn't 13
abbrev Other : {A : Type 0} → Result A → Type 0
Other (good a) = Unit {0}
Other (refused r p) = eqb (number r) 13 ≡ false

-- ---- parts in a row

then_other : {A B : Type 0} (a : Result A) (b : Result B) → Other a → Other b → Other (a >> b)
then_other (good x) b h k = k
then_other (refused r p) b h k = h

bind_other : {A B : Type 0} (a : Result A) (f : A → Result B) → Other a → ((x : A) → Other (f x)) → Other (a >>= f)
bind_other (good x) f h k = k x
bind_other (refused r p) f h k = h

test_other : (t : Bool) (r : Refusal) (p : ℕ) → eqb (number r) 13 ≡ false → Other (refuse_if t r p)
test_other true r p h = h
test_other false r p h = tt

goes_other : {B : Type 0} (t : Bool) (r : Refusal) (p : ℕ) (b : Result B) → eqb (number r) 13 ≡ false → Other b → Other (refuse_if t r p >> b)
goes_other t r p b h k = then_other (refuse_if t r p) b (test_other t r p h) k

placed_other : {A : Type 0} (p : ℕ) (a : Result A) → Other a → Other (placed p a)
placed_other p (good x) h = tt
placed_other p (refused r q) h = h

-- ---- records

words_other : (place c : ℕ) (at : Cursor) → Other (words_at place c at)
words_other place c at = goes_other (ltb (length at.bytes) (2 * c)) FileEnds place _ refl tt

rest_other : (place : ℕ) (z : Size) (at : Cursor) → Other (rest_of place z at)
rest_other place (plain c) at = words_other place c at
rest_other place counted at = bind_other (words_at place 1 at) _ (words_other place 1 at) (λ f. words_other place (first f) f.next)

record_other : (r : Shape) (at : Cursor) → Other (read_record r at)
record_other r at =
    bind_other (words_at at.offset 1 at) _ (words_other at.offset 1 at)
    (λ f. goes_other (not (eqb (first f) r.mark)) WrongMark at.offset _ refl (rest_other at.offset r.size f.next))

several_other : (c : ℕ) (r : Shape) (at : Cursor) → Other (several c r at)
several_other zero r at = tt
several_other (suc c) r at = bind_other (read_record r at) _ (record_other r at) (λ f. bind_other (several c r f.next) _ (several_other c r f.next) (λ fs. tt))

end_other : (at : Cursor) → Other (read_end at)
end_other at = bind_other (read_record end_shape at) _ (record_other end_shape at) (λ f. test_other (ltb 0 (length f.next.bytes)) ExtraBytes f.next.offset refl)

-- ---- a group of entries

entries_other : (d : Drawing) (i : ℕ) (es : List Entry) → Other (entry_tests d i (map Given es))
entries_other d i [] = tt
entries_other d i (e ∷ es) =
    goes_other (eqb e.point 0 || ltb d.k e.point) NotPlaced i _ refl
    (goes_other (not (elem e.point d.boundary)) Covered i _ refl (entries_other d (suc i) es))

run_other : (i : ℕ) (ws run : List ℕ) → Other (run_tests i ws run)
run_other i ws [] = tt
run_other i [] (p ∷ ps) = refl
run_other i (q ∷ ws) (p ∷ ps) = goes_other (not (eqb p q)) NoRun i _ refl (run_other (suc i) ws ps)

tests_other : (d : Drawing) (es : List Entry) → Other (call_tests d (map Given es))
tests_other d es =
    let run = points_of es in
    subst Other (sym (tests_of d (map Given es) run (points-given es)))
    (goes_other (leb d.n d.k) Finished 0 _ refl
    (goes_other (ltb (length run) 2) FewEntries 0 _ refl
    (then_other (entry_tests d 0 (map Given es)) _ (entries_other d 0 es)
    (then_other (run_tests 0 (drop (l_of d run) d.boundary) run) _ (run_other 0 (drop (l_of d run) d.boundary) run) (test_other (eqb (d.k + 1) d.n && not (eqb (length run) (m d))) NotWhole 0 refl)))))

add_other : (d : Drawing) (es : List Entry) → Other (add_entries d es)
add_other d es =
    let rs = map Given es in
    let run = points_of es in
    let l = l_of d run in
    let r = r_of d run in
    let c = spread l r d in
    subst Other (sym (adding d es))
    (then_other (judge d rs) _
    (subst Other (sym (judge_of d rs run (points-given es))) (then_other (call_tests d rs) _ (tests_other d es) (test_other (not (reach_passes d.style (all_reach (new_x l r c) (new_y l r c) (row_height run) c 1 (inner run)))) NoReach 0 refl)))
    tt)

-- ---- the file

rest-judged : (τ : Style) (c end : ℕ) (d : Drawing) (fs : List Found) → Other (judge_rest τ c end d fs)
unfolding judge_rest
rest-judged τ zero end d fs = tt
rest-judged τ (suc c) end d fs =
    let es = group τ (suc d.k) fs in
    bind_other (placed (group_place end fs) (add_entries d es)) _ (placed_other (group_place end fs) (add_entries d es) (add_other d es)) (λ e. rest-judged τ c end e (behind (suc d.k) fs))

lines-judged : (τ : Style) (n s end : ℕ) (fs : List Found) → Other (judge_lines τ n s end fs)
unfolding judge_lines
lines-judged τ n s end fs =
    let gs = behind 1 fs in
    let hs = behind 2 gs in
    goes_other (not (same (points_of (group τ 1 fs)) [])) OtherStart (group_place end fs) _ refl
    (goes_other (not (same (points_of (group τ 2 gs)) (1 ∷ []))) OtherStart (group_place end gs) _ refl
    (goes_other (not (same (points_of (group τ 3 hs)) (1 ∷ 2 ∷ []))) OtherStart (group_place end hs) _ refl
    (rest-judged τ (n - 3) end (start_with τ n s (group τ 2 gs) (group τ 3 hs)) (behind 3 hs))))

drawing-judged : (τ : Style) (bytes : List ℕ) → Other (judge_drawing τ bytes)
unfolding judge_drawing
drawing-judged τ bytes =
    bind_other (read_record (drawing_head τ) (from_start bytes)) _ (record_other (drawing_head τ) (from_start bytes)) (λ f.
    let n = get_or f.words 0 0 in
    let s = get_or f.words 1 0 in
    goes_other (not (between 3 1024 n && between 1 8 s)) OutOfRange 0 _ refl
    (bind_other (several n point_place f.next) _ (several_other n point_place f.next) (λ ps.
    bind_other (several (3 * n - 6) (line_shape τ) ps.next) _ (several_other (3 * n - 6) (line_shape τ) ps.next) (λ ls.
    then_other (read_end ls.next) _ (end_other ls.next) (lines-judged τ n s ls.next.offset ls.all)))))

compare_other : (i : ℕ) (l bs : List ℕ) → Other (compare_bytes i l bs)
compare_other i [] [] = tt
compare_other i [] (b ∷ bs) = refl
compare_other i (a ∷ l) [] = refl
compare_other i (a ∷ l) (b ∷ bs) = goes_other (not (eqb a b)) OtherDrawing i _ refl (compare_other (suc i) l bs)

back_other : (τ : Style) (bytes : List ℕ) → Other (order_back τ bytes)
unfolding read_drawing
back_other τ bytes =
    bind_other (read_drawing τ bytes) _
    (bind_other (judge_drawing τ bytes) _ (drawing-judged τ bytes) (λ d. then_other (compare_bytes 0 bytes (drawing_bytes d)) _ (compare_other 0 bytes (drawing_bytes d)) tt))
    (λ d. goes_other (ltb d.k d.n) Unfinished 0 _ refl tt)

-- THE LAW.
pub never_both : (τ : Style) (bytes : List ℕ) (p : ℕ) → order_back τ bytes ≡ refused BothMarks p → ⊥
never_both τ bytes p h = true≢false (subst Other h (back_other τ bytes))
