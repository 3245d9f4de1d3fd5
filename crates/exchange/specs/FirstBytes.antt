-- A file that is longer than every drawing file is refused by its first bytes: what stands behind byte 42,949 changes nothing.
use Rattle.std.specs.Prelude.{ℕ, zero, suc, ◌+◌, ◌-◌, ◌*◌, ◌≤◌, ◌<◌, ◌≡◌, refl, Bool, ◌&&◌, List, [], ◌∷◌, ◌++◌, take, drop, leb, ltb, eqb}
use Rattle.std.proofs.Common.{ap, ◌∙◌, arith, length-append, length-drop, take-append-drop, take_all, length-take-le, le-ltb, lt-ltb, leb-true, leb-false}
use Rattle.std.proofs.Math.Bool.{true, false, not}
use Rattle.std.proofs.Math.ListN.{length, get_or}
use Rattle.std.proofs.lemmas.List.{drop-append-le}
use Rattle.rules.specs.declared.Style.{Style}
use Rattle.rules.specs.declared.Style.TheVariants.{OneBend, Straight}
use Rattle.rules.specs.declared.Refusal.{Refusal}
use Rattle.rules.specs.declared.Refusal.TheVariants.{WrongMark, ExtraBytes, OutOfRange, Unfinished}
use Rattle.rules.specs.Basics.{head_of, between}
use Rattle.rules.specs.Refusals.{Result, good, refused, ◌>>=◌, ◌>>◌, refuse_if}
use Rattle.rules.specs.Styles.{line_numbers}
use Rattle.rules.specs.Points.{Drawing}
use Rattle.rules.specs.Records.{plain, Cursor, Found, Several, skip, words_in, words_at, read_record, several, read_end, from_start, point_place, line_shape, end_mark, bytes_in, head_size, place_size}
use Rattle.rules.specs.OrderFile.{write_order}
use Rattle.rules.specs.Found.{found}
use Rattle.rules.specs.DrawingFile.{judge_lines, judge_drawing, read_drawing, order_back, longest_drawing}
use Rattle.exchange.specs.DrawingRead.{good-range}

-- ---- results that are alike

-- both refuse in the same way, or both give values, related by R
data Alike {A : Type 0} (R : A → A → Type 0) : Result A → Result A → Type 0 where
  values : {a b : A} → R a b → Alike R (good a) (good b)
  refusals : (r : Refusal) (p : ℕ) → Alike R (refused r p) (refused r p)

-- what follows related values is alike
then-alike : {A B : Type 0} {R : A → A → Type 0} {S : B → B → Type 0} {a b : Result A} {f g : A → Result B} → Alike R a b →
    ((v w : A) → R v w → Alike S (f v) (g w)) → Alike S (a >>= f) (b >>= g)
then-alike (values h) k = k _ _ h
then-alike (refusals r p) k = refusals r p

-- both refuse
abbrev Never : {A : Type 0} → A → A → Type 0
Never a b = ⊥

-- then what would follow doesn't matter
never_same : {A B : Type 0} {a b : Result A} (f g : A → Result B) → Alike Never a b → (a >>= f) ≡ (b >>= g)
never_same f g (values h) = absurd h
never_same f g (refusals r p) = refl

-- a test that both make
test_alike : {A : Type 0} {R : A → A → Type 0} (t : Bool) (r : Refusal) (p : ℕ) {a b : Result A} → Alike R a b → Alike R (refuse_if t r p >> a) (refuse_if t r p >> b)
test_alike true r p h = refusals r p
test_alike false r p h = h

-- ---- more bytes behind those of a cursor

abbrev more : List ℕ → Cursor → Cursor
more x at = record { offset = at.offset; bytes = at.bytes ++ x }

-- the same record, found with k bytes or more behind it, and with x behind these
record FoundMore (x : List ℕ) (k : ℕ) (f g : Found) : Type 0 where
  same : g ≡ record { place = f.place; words = f.words; next = more x f.next }
  left : k ≤ length f.next.bytes

record SeveralMore (x : List ℕ) (k : ℕ) (s t : Several) : Type 0 where
  same : t.next ≡ more x s.next
  left : k ≤ length s.next.bytes

-- numbers that are there don't depend on what is behind them
words_more : (c : ℕ) (p x : List ℕ) → 2 * c ≤ length p → words_in c (p ++ x) ≡ words_in c p
words_more zero p x h = refl
words_more (suc c) [] x h = absurd (omega arith)
words_more (suc c) (a ∷ []) x h = absurd (omega arith)
words_more (suc c) (a ∷ b ∷ p) x h = ap (λ (ws : List ℕ). (a * 256 + b) ∷ ws) (words_more c p x (omega arith))

-- so many bytes at least stand behind the header of a file that is longer than every drawing file
abbrev behind : ℕ
behind = suc longest_drawing - head_size

-- what is read of a drawing file there
abbrev behind_head : Style → ℕ → ℕ → Cursor → Result Drawing
behind_head τ n s at = do
  ps ← several n point_place at
  ls ← several (3 * n - 6) (line_shape τ) ps.next
  read_end ls.next
  judge_lines τ n s ls.next.offset ls.all

-- the lines of either style take no more bytes than those with a bend
lines_most : (τ : Style) (c : ℕ) → c * bytes_in (line_numbers τ) ≤ c * 12
lines_most OneBend c = omega arith
lines_most Straight c = omega arith

module _ (x : List ℕ) where
  -- c numbers, and k bytes or more behind them
  words-alike : (place c k : ℕ) (at : Cursor) → 2 * c + k ≤ length at.bytes → Alike (FoundMore x k) (words_at place c at) (words_at place c (more x at))
  words-alike place c k at h =
      let p = at.bytes in
      let left : k ≤ length (drop (2 * c) p) = omega (arith, length-drop (2 * c) p) in
      rw (le-ltb (length p) (2 * c) (omega arith), le-ltb (length (p ++ x)) (2 * c) (omega (arith, length-append p x)), words_more c p x (omega arith), drop-append-le (2 * c) p x (omega arith))
      (values (record { same = refl; left = left }))

  -- a record of c numbers whose bytes are all there
  record_there : (mark c : ℕ) (at : Cursor) → bytes_in c ≤ length at.bytes → read_record (record { mark = mark; size = plain c }) at ≡
      (refuse_if (not (eqb (head_of (words_in 1 at.bytes)) mark)) WrongMark at.offset >> good (record { place = at.offset; words = words_in c (drop (2 * 1) at.bytes); next = skip (2 * c) (skip (2 * 1) at) }))
  record_there mark c at h =
      let p = at.bytes in
      rw (le-ltb (length p) 2 (omega arith), le-ltb (length (drop 2 p)) (2 * c) (omega (arith, length-drop 2 p)))

  -- a record of c numbers
  record_alike : (mark c k : ℕ) (at : Cursor) → bytes_in c + k ≤ length at.bytes →
      Alike (FoundMore x k) (read_record (record { mark = mark; size = plain c }) at) (read_record (record { mark = mark; size = plain c }) (more x at))
  record_alike mark c k at h =
      then-alike (words-alike at.offset 1 (2 * c + k) at (omega arith)) λ f g t.
      rw t.same (test_alike (not (eqb (head_of f.words) mark)) WrongMark at.offset (words-alike at.offset c k f.next t.left))

  -- n such records
  several-alike : (mark c n k : ℕ) (at : Cursor) → n * bytes_in c + k ≤ length at.bytes →
      Alike (SeveralMore x k) (several n (record { mark = mark; size = plain c }) at) (several n (record { mark = mark; size = plain c }) (more x at))
  several-alike mark c zero k at h = let left : k ≤ length at.bytes = omega arith in values (record { same = refl; left = left })
  several-alike mark c (suc n) k at h =
      then-alike (record_alike mark c (n * bytes_in c + k) at (omega arith)) λ f g t.
      rw t.same (then-alike (several-alike mark c n k f.next t.left) λ fs gs u. values (record { same = u.same; left = u.left }))

  -- the end record is refused where three bytes or more are left: 2, or 10
  end-alike : {A : Type 0} (at : Cursor) (a b : Result A) → 3 ≤ length at.bytes → Alike Never (read_end at >> a) (read_end (more x at) >> b)
  end-alike at a b h =
      let p = at.bytes in
      let q = drop (2 * 0) (drop (2 * 1) p) in
      let l : length q ≡ length p - 2 = omega (arith, length-drop (2 * 1) p, length-drop (2 * 0) (drop (2 * 1) p)) in
      rw (record_there end_mark 0 at (omega arith), record_there end_mark 0 (more x at) (omega (arith, length-append p x)), words_more 1 p x (omega arith), drop-append-le 2 p x (omega arith))
      (go (not (eqb (head_of (words_in 1 p)) end_mark)) at.offset (at.offset + 2 * 1 + 2 * 0) q (omega arith))
    where
      go : (t : Bool) (o e : ℕ) (q : List ℕ) → 1 ≤ length q → Alike Never
          (((refuse_if t WrongMark o >> good (found o [] e q)) >>= λ f. refuse_if (ltb 0 (length f.next.bytes)) ExtraBytes f.next.offset) >> a)
          (((refuse_if t WrongMark o >> good (found o [] e (q ++ x))) >>= λ f. refuse_if (ltb 0 (length f.next.bytes)) ExtraBytes f.next.offset) >> b)
      go true o e q h = refusals WrongMark o
      go false o e q h = rw (lt-ltb 0 (length q) h, lt-ltb 0 (length (q ++ x)) (omega (arith, length-append q x))) (refusals ExtraBytes e)

  -- a file that is longer than every drawing file is refused
  judge-alike : (τ : Style) (p : List ℕ) → longest_drawing < length p → Alike Never (judge_drawing τ p) (judge_drawing τ (p ++ x))
  unfolding judge_drawing
  judge-alike τ p h =
      then-alike (record_alike _ 4 behind (from_start p) (omega arith)) λ f g t.
      rw t.same (go f t.left (not (between 3 1024 (get_or f.words 0 0) && between 1 8 (get_or f.words 1 0))) refl)
    where
      go : (f : Found) → behind ≤ length f.next.bytes → (b : Bool) → not (between 3 1024 (get_or f.words 0 0) && between 1 8 (get_or f.words 1 0)) ≡ b → Alike Never
          (refuse_if b OutOfRange 0 >> behind_head τ (get_or f.words 0 0) (get_or f.words 1 0) f.next)
          (refuse_if b OutOfRange 0 >> behind_head τ (get_or f.words 0 0) (get_or f.words 1 0) (more x f.next))
      go f l true e = refusals OutOfRange 0
      go f l false e =
          let n = get_or f.words 0 0 in
          let r = good-range n (get_or f.words 1 0) e in
          then-alike (several-alike _ 2 n (behind - n * place_size) f.next (omega (arith, r.1))) λ ps qs t.
          rw t.same
          (then-alike (several-alike _ (line_numbers τ) (3 * n - 6) 3 ps.next (omega (arith, r.0, r.1, t.left, lines_most τ (3 * n - 6)))) λ ls ms u.
          rw u.same (end-alike ls.next _ _ u.left))

  -- and so read alike
  drawing_same : (τ : Style) (p : List ℕ) → longest_drawing < length p → read_drawing τ p ≡ read_drawing τ (p ++ x)
  unfolding read_drawing
  drawing_same τ p h = never_same _ _ (judge-alike τ p h)

-- THE FIRST BYTES DECIDE: one byte more than the longest drawing file has is enough, and so is any number above.
pub first_bytes : (τ : Style) (r : ℕ) (f : List ℕ) → longest_drawing < r → order_back τ (take r f) ≡ order_back τ f
first_bytes τ r f h = go (leb (length f) r) refl
  where
    go : (t : Bool) → leb (length f) r ≡ t → order_back τ (take r f) ≡ order_back τ f
    go true e = ap (order_back τ) (take_all r f (leb-true (length f) r e))
    go false e =
        let l = leb-false (length f) r e in
        ap (λ (o : Result Drawing). o >>= λ d. refuse_if (ltb d.k d.n) Unfinished 0 >> good (write_order d)) (drawing_same (drop r f) τ (take r f) (omega (arith, length-take-le r f (omega arith)))) ∙
        ap (order_back τ) (take-append-drop r f)
