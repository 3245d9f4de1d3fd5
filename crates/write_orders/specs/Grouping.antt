-- The lines of a finished drawing stand grouped by their later point, in point order: so the numbers that one pass over the stored lines writes are those of its order file.
use Rattle.std.specs.Prelude.{ℕ, zero, suc, ◌+◌, ◌-◌, ◌<◌, ◌≤◌, ◌≡◌, Bool, List, [], ◌∷◌, ◌++◌, map, get_or, if◌then◌else◌}
use Rattle.std.proofs.Math.Path.{refl, ap, ap₂}
use Rattle.std.proofs.Common.{sym, ◌∙◌, subst₂, add-zero, zero-add, arith, eq-eqb, ne_eqb, eqb-true}
use Rattle.std.proofs.Math.Bool.{true, false}
use Rattle.std.proofs.Math.ListN.{length}
use Rattle.std.proofs.lemmas.List.{length-map}
use Rattle.std.proofs.Math.Dec.{eqb}
use Rattle.std.proofs.lemmas.Bool.{eqb-false}
use Rattle.rules.specs.declared.Line.{Line}
use Rattle.rules.specs.declared.Style.{Style}
use Rattle.rules.specs.declared.Entry.{Entry}
use Rattle.rules.specs.declared.Bend.{Bend}
use Rattle.rules.specs.Basics.{keep}
use Rattle.rules.specs.Points.{Drawing}
use Rattle.rules.specs.Adding.{new_lines}
use Rattle.rules.specs.Records.{bytes_of, written, order_head, scale_shape, point_entries, end_shape, order_mark, scale_mark, entries_mark, end_mark}
use Rattle.rules.specs.OrderFile.{entries_of, order_scale, order_points, write_order}
use Rattle.store_links.specs.declared.Counts.{Counts}
use Rattle.store_links.specs.Arrays.{Arrays, Stores}
use Rattle.store_links.specs.Opening.{no_line}
use Rattle.store_settling.specs.Lines.{line_is}
use Rattle.exchange.specs.Built.{Built, begun, added, Whole}
use Rattle.exchange.specs.Entries.{ends, lengthened}
use Rattle.rules.proofs.Lengths.{bytes_append}
use Rattle.write_orders.specs.Writing.{count_of, word_for, entry_words, point_words, points_words, head_words, order_words}

-- ---- later points rise

-- the later points of the lines rise from p to k
abbrev pub Rising : ℕ → ℕ → List Line → Type 0
Rising p k [] = p ≤ k
Rising p k (l ∷ ls) = (p ≤ l.later) × Rising l.later k ls

-- two lists, one behind the other
rising_append : (p k q : ℕ) (a b : List Line) → Rising p k a → Rising k q b → Rising p q (a ++ b)
rising_append p k q [] [] h g = omega arith
rising_append p k q [] (l ∷ b) h g = (omega (arith, g.0), g.1)
rising_append p k q (l ∷ a) b h g = (h.0, rising_append l.later k q a b h.1 g)

-- the lines of one point
rising_new : (p q : ℕ) (bend : ℕ → Bend) (i : ℕ) (es : List Entry) → p ≤ q → Rising p q (new_lines q bend i es)
rising_new p q bend i [] h = h
rising_new p q bend i (e ∷ es) h = (h, rising_new q q bend (suc i) es (omega arith))

-- the lines of every built drawing
pub rising : {τ : Style} {n s : ℕ} {second third : List Entry} {rest : List (List Entry)} {d : Drawing} → Built τ n s second third rest d → Rising 1 d.k d.lines
rising (begun a b) = (omega arith, (omega arith, (omega arith, omega arith)))
rising (added {d = d} {e = e} es b h) =
    let a = lengthened d e es h in
    let t = rising_append 1 d.k (suc d.k) d.lines _ (rising b) (rising_new d.k (suc d.k) a.bend 0 es (omega arith)) in
    subst₂ (λ (k : ℕ) (ls : List Line). Rising 1 k ls) (sym a.k) (sym a.lines) t

-- they rise, and begin with p or a later point
abbrev pub From : ℕ → List Line → Type 0
From p [] = Unit {0}
From p (l ∷ ls) = (p ≤ l.later) × From l.later ls

from_rising : (p k : ℕ) (ls : List Line) → Rising p k ls → From p ls
from_rising p k [] h = tt
from_rising p k (l ∷ ls) h = (h.0, from_rising l.later k ls h.1)

-- beyond p no line is p's
none_own : (p q : ℕ) (ls : List Line) → p < q → From q ls → keep (ends p) ls ≡ []
none_own p q [] h g = refl
none_own p q (l ∷ ls) h g = rw (ne_eqb l.later p (λ e. omega (arith, g.0))) (none_own p l.later ls (omega (arith, g.0)) g.1)

-- ---- the stored lines

module _ (stored : List Line) where
  -- the lines ls are stored from `from` on
  abbrev pub Kept : ℕ → List Line → Type 0
  Kept from [] = Unit {0}
  Kept from (l ∷ ls) = (get_or stored from no_line ≡ l) × Kept (suc from) ls

  -- as the array stores them
  kept : (from : ℕ) (ls : List Line) → ((i : ℕ) → i < length ls → get_or stored (from + i) no_line ≡ get_or ls i no_line) → Kept from ls
  kept from [] f = tt
  kept from (l ∷ ls) f =
      let up : (i : ℕ) → suc from + i ≡ from + suc i = λ i. omega arith in
      (rw (add-zero from) at (f 0 (omega arith)), kept (suc from) ls (λ i h. rw (up i) (f (suc i) (omega arith))))

  -- the lines of p, which come first, and the others
  pub record Parted (p from : ℕ) (ls : List Line) : Type 0 where
    pub own : List Line
    pub others : List Line
    pub count : count_of stored p from (length ls) ≡ length own
    pub size : length ls ≡ length own + length others
    pub numbers : entry_words stored from (length own) ≡ map word_for own
    pub is : keep (ends p) ls ≡ own
    pub behind : (q : ℕ) → p < q → keep (ends q) ls ≡ keep (ends q) others
    pub still : Kept (from + length own) others
    pub rises : From (suc p) others

  -- no line of p comes first
  parted_none : (p from : ℕ) (ls : List Line) → count_of stored p from (length ls) ≡ 0 → Kept from ls → From (suc p) ls → Parted p from ls
  unfolding entry_words
  parted_none p from ls h t g =
      record {
        own = [];
        others = ls;
        count = h;
        size = omega arith;
        numbers = refl;
        is = none_own p (suc p) ls (omega arith) g;
        behind = λ q b. refl;
        still = rw (add-zero from) t;
        rises = g;
      }

  -- one does
  parted_more : (p from : ℕ) (l : Line) (ls : List Line) → get_or stored from no_line ≡ l → l.later ≡ p → Parted p (suc from) ls → Parted p from (l ∷ ls)
  unfolding count_of entry_words
  parted_more p from l ls a e t =
      let up : suc from + length t.own ≡ from + suc (length t.own) = omega arith in
      record {
        own = l ∷ t.own;
        others = t.others;
        count = rw (eq-eqb (get_or stored from no_line).later p (ap (λ (v : Line). v.later) a ∙ e)) (ap suc t.count);
        size = omega (arith, t.size);
        numbers = ap₂ (λ (v : ℕ) (vs : List ℕ). v ∷ vs) (ap word_for a) t.numbers;
        is = rw (eq-eqb l.later p e) (ap (λ (v : List Line). l ∷ v) t.is);
        behind = λ q h. rw (ne_eqb l.later q (λ z. omega arith)) (t.behind q h);
        still = rw up at t.still;
        rises = t.rises;
      }

  -- so rising lines are parted
  parted : (p from : ℕ) (ls : List Line) → Kept from ls → From p ls → Parted p from ls
  unfolding count_of
  parted p from [] t g = parted_none p from [] refl tt tt
  parted p from (l ∷ ls) t g = go (eqb l.later p) refl (parted p (suc from) ls t.1)
    where
      go : (c : Bool) → eqb l.later p ≡ c → (From p ls → Parted p (suc from) ls) → Parted p from (l ∷ ls)
      go true q rec = let e = eqb-true l.later p q in parted_more p from l ls t.0 e (rec (rw e at g.1))
      go false q rec =
          let e = eqb-false l.later p q in
          parted_none p from (l ∷ ls) (rw (ne_eqb (get_or stored from no_line).later p (λ z. e (ap (λ (v : Line). v.later) (sym t.0) ∙ z)))) t (omega (arith, g.0), g.1)

  -- the records of c points from p on, whose lines come first of ls
  points_are : (c p from lines : ℕ) (ls all : List Line) → lines ≡ from + length ls → Kept from ls → From p ls →
      ((q : ℕ) → p ≤ q → keep (ends q) all ≡ keep (ends q) ls) → bytes_of (points_words stored lines c p from) ≡ order_points c p all
  unfolding points_words
  points_are zero p from lines ls all e t g h = refl
  points_are (suc c) p from lines ls all e t g h =
      let u = parted p from ls t g in
      let left : lines - from ≡ length ls = omega arith in
      let count : count_of stored p from (lines - from) ≡ length u.own = ap (count_of stored p from) left ∙ u.count in
      let own : keep (ends p) all ≡ u.own = h p (omega arith) ∙ u.is in
      let more = points_are c (suc p) (from + length u.own) lines u.others all (omega (arith, u.size)) u.still u.rises (λ q b. h q (omega arith) ∙ u.behind q (omega arith)) in
      let record_is : bytes_of (point_words stored from (length u.own)) ≡ written point_entries (entries_of p all) =
      ap₂ (λ (n : ℕ) (ws : List ℕ). bytes_of (entries_mark ∷ n ∷ ws)) (sym (length-map u.own word_for)) u.numbers ∙
      ap (λ (l : List Line). written point_entries (map word_for l)) (sym own) in
      ap (λ (r : ℕ). bytes_of (point_words stored from r ++ points_words stored lines c (suc p) (from + r))) count ∙
      bytes_append (point_words stored from (length u.own)) _ ∙
      ap₂ (λ (a b : List ℕ). a ++ b) record_is more

-- ---- the whole file

-- the header, with the scale or without it
head_are : (n s : ℕ) (rest : List ℕ) → bytes_of (head_words n s) ++ rest ≡ written order_head (n ∷ []) ++ (order_scale s ++ rest)
head_are n s rest = go (eqb s 1)
  where
    go : (t : Bool) → bytes_of (order_mark ∷ n ∷ (if t then [] else scale_mark ∷ s ∷ [])) ++ rest ≡
        written order_head (n ∷ []) ++ ((if t then [] else written scale_shape (s ∷ [])) ++ rest)
    go true = refl
    go false = refl

-- WHAT IS WRITTEN from the stored lines of a finished drawing is its order file.
pub order_is : {d : Drawing} {a : Arrays} {c : Counts} → Whole d → Stores d a c → bytes_of (order_words a.lines c) ≡ write_order d
unfolding write_order
order_is {d} {a} {c} h t =
    let all : Kept a.lines 0 d.lines = kept a.lines 0 d.lines (λ i b. rw (zero-add i) (line_is t i b)) in
    let up = from_rising 1 d.k d.lines (rising h.reached.built) in
    let points = points_words a.lines c.lines c.n 1 0 in
    let points-is : bytes_of points ≡ order_points c.n 1 d.lines =
    points_are a.lines c.n 1 0 c.lines d.lines d.lines (omega (arith, t.lines)) all up (λ q b. refl) in
    bytes_append (head_words c.n c.s) (points ++ (end_mark ∷ [])) ∙
    head_are c.n c.s (bytes_of (points ++ (end_mark ∷ []))) ∙
    ap (λ (l : List ℕ). written order_head (c.n ∷ []) ++ (order_scale c.s ++ l)) (bytes_append points (end_mark ∷ []) ∙ ap (λ (l : List ℕ). l ++ written end_shape []) points-is) ∙
    ap₂ (λ (n s : ℕ). written order_head (n ∷ []) ++ (order_scale s ++ (order_points n 1 d.lines ++ written end_shape []))) t.n t.s
