-- The lines of a built drawing give its entries back: those of point p are the lines whose later point is p.
use Rattle.std.specs.Prelude.{ℕ, zero, suc, pred, ◌+◌, ◌-◌, ◌<◌, ◌≤◌, ◌≡◌, refl, Bool, true, false, List, [], ◌∷◌, ◌++◌, map, length, get_or, eqb, ltb, if◌then◌else◌}
use Rattle.std.proofs.Common.{ap, sym, subst, subst₂, ◌∙◌, append-nil, arith, length-append, eq-eqb, ne_eqb, eqb-true, ltb-true, ltb-false}
use Rattle.std.proofs.Math.ListN.{get_or-append, get_or-eq_default}
use Rattle.std.proofs.Math.Seq.{get_or-append_seam}
use Rattle.std.proofs.lemmas.Bool.{eqb-false}
use Rattle.rules.specs.declared.Line.{Line}
use Rattle.rules.specs.declared.Style.{Style}
use Rattle.rules.specs.declared.Entry.{Entry}
use Rattle.rules.specs.declared.Bend.{Bend}
use Rattle.rules.specs.Basics.{keep, snoc}
use Rattle.rules.specs.Refusals.{good}
use Rattle.rules.specs.Entries.{word_of}
use Rattle.rules.proofs.Lengths.{map_append}
use Rattle.rules.specs.Points.{Drawing}
use Rattle.rules.specs.Adding.{add_entries, new_lines, points_of}
use Rattle.rules.specs.OrderFile.{entries_of, start_with, kind_at}
use Rattle.promise.specs.Next.{next}
use Rattle.promise.specs.Accepted.{accepted}
use Rattle.exchange.specs.Built.{Built, begun, added, Reached, Whole}

-- ---- lists

-- what passes a test in two lists, one behind the other
keep_append : {A : Type 0} (t : A → Bool) (a b : List A) → keep t (a ++ b) ≡ keep t a ++ keep t b
keep_append t [] b = refl
keep_append {A} t (x ∷ a) b = go (t x) (keep_append t a b)
  where
    go : (c : Bool) → keep t (a ++ b) ≡ keep t a ++ keep t b →
        (if c then x ∷ keep t (a ++ b) else keep t (a ++ b)) ≡ (if c then x ∷ keep t a else keep t a) ++ keep t b
    go true h = ap (λ (l : List A). x ∷ l) h
    go false h = h

-- ---- the lines of one call

-- whether the line's later point is p
abbrev pub ends : ℕ → Line → Bool
ends p l = eqb l.later p

-- the new lines are those of the new point
keep-own : (new : ℕ) (f : ℕ → Bend) (i : ℕ) (es : List Entry) → keep (ends new) (new_lines new f i es) ≡ new_lines new f i es
keep-own new f i [] = refl
keep-own new f i (e ∷ es) = rw (eq-eqb new new refl, keep-own new f (suc i) es)

-- and of no other
keep_other : (p new : ℕ) (f : ℕ → Bend) (i : ℕ) (es : List Entry) → (new ≡ p → ⊥) → keep (ends p) (new_lines new f i es) ≡ []
keep_other p new f i [] h = refl
keep_other p new f i (e ∷ es) h = rw (ne_eqb new p h) (keep_other p new f (suc i) es h)

-- the entry that a line stands for
abbrev pub entry_for : Line → Entry
entry_for l = record { point = l.earlier; kind = l.kind }

-- the new lines stand for the entries of the call
entries_new : (new : ℕ) (f : ℕ → Bend) (i : ℕ) (es : List Entry) → map entry_for (new_lines new f i es) ≡ es
entries_new new f i [] = refl
entries_new new f i (e ∷ es) = ap (λ (l : List Entry). e ∷ l) (entries_new new f (suc i) es)

-- the entries of point p: what its lines stand for
abbrev pub entries_at : ℕ → List Line → List Entry
entries_at p ls = map entry_for (keep (ends p) ls)

-- the entries in two lists of lines
entries_append : (p : ℕ) (a b : List Line) → entries_at p (a ++ b) ≡ entries_at p a ++ entries_at p b
entries_append p a b = rw (keep_append (ends p) a b) (map_append entry_for (keep (ends p) a) (keep (ends p) b))

-- the numbers that the order file has for them
pub entries-words : (p : ℕ) (ls : List Line) → entries_of p ls ≡ map word_of (entries_at p ls)
entries-words p ls = go (keep (ends p) ls)
  where
    go : (l : List Line) → map (λ l. word_of (entry_for l)) l ≡ map word_of (map entry_for l)
    go [] = refl
    go (x ∷ l) = ap (λ (t : List ℕ). word_of (entry_for x) ∷ t) (go l)

-- ---- the drawing after a call

-- what a call adds to the lines
pub record Lengthened (d e : Drawing) (es : List Entry) : Type 0 where
  pub style : e.style ≡ d.style
  pub n : e.n ≡ d.n
  pub s : e.s ≡ d.s
  pub k : e.k ≡ suc d.k
  pub bend : ℕ → Bend
  pub lines : e.lines ≡ d.lines ++ new_lines (suc d.k) bend 0 es

-- promise's next drawing has those lines
lengthened_next : (d : Drawing) (es : List Entry) (l r : ℕ) → Lengthened d (next d es l r) es
unfolding next
lengthened_next d es l r = record { style = refl; n = refl; s = refl; k = refl; bend = _; lines = refl }

-- and so has the drawing after an accepted call
pub lengthened : (d e : Drawing) (es : List Entry) → add_entries d es ≡ good e → Lengthened d e es
lengthened d e es h = let a = accepted d e es h in rw a.is (lengthened_next d es a.l a.r)

-- ---- a built drawing

-- the entries of points 1, 2, 3, ..
abbrev pub every : List Entry → List Entry → List (List Entry) → List (List Entry)
every second third rest = [] ∷ second ∷ third ∷ rest

-- what the list of entries says of the drawing
pub record Listed (τ : Style) (n s : ℕ) (second third : List Entry) (rest : List (List Entry)) (d : Drawing) : Type 0 where
  pub is_style : d.style ≡ τ
  pub is_n : d.n ≡ n
  pub is_s : d.s ≡ s
  pub is_k : d.k ≡ 3 + length rest
  pub entries : (p : ℕ) → 0 < p → entries_at p d.lines ≡ get_or (every second third rest) (pred p) []

-- the entries of point 2, from their points and kinds
pub second_is : (es : List Entry) → points_of es ≡ 1 ∷ [] → (record { point = 1; kind = kind_at 0 es } ∷ []) ≡ es
second_is [] h = absurd (let z : ◌≡◌ {A = ℕ} 0 1 = cc in omega arith)
second_is (a ∷ []) h = let e : a.point ≡ 1 = cc in λ i. record { point = sym e i; kind = a.kind } ∷ []
second_is (a ∷ b ∷ es) h = absurd (let z : ◌≡◌ {A = ℕ} 0 1 = cc in omega arith)

-- the same of point 3
pub third_is : (es : List Entry) → points_of es ≡ 1 ∷ 2 ∷ [] → (record { point = 1; kind = kind_at 0 es } ∷ record { point = 2; kind = kind_at 1 es } ∷ []) ≡ es
third_is [] h = absurd (let z : ◌≡◌ {A = ℕ} 0 1 = cc in omega arith)
third_is (a ∷ []) h = absurd (let z : ◌≡◌ {A = ℕ} 0 1 = cc in omega arith)
third_is (a ∷ b ∷ []) h =
    let e : a.point ≡ 1 = cc in
    let f : b.point ≡ 2 = cc in
    λ i. record { point = sym e i; kind = a.kind } ∷ record { point = sym f i; kind = b.kind } ∷ []
third_is (a ∷ b ∷ c ∷ es) h = absurd (let z : ◌≡◌ {A = ℕ} 0 1 = cc in omega arith)

-- the drawing that points 2 and 3 begin
listed_start : (τ : Style) (n s : ℕ) (second third : List Entry) → points_of second ≡ 1 ∷ [] → points_of third ≡ 1 ∷ 2 ∷ [] →
    Listed τ n s second third [] (start_with τ n s second third)
listed_start τ n s second third a b = record { is_style = refl; is_n = refl; is_s = refl; is_k = refl; entries = go }
  where
    go : (p : ℕ) → 0 < p → entries_at p (start_with τ n s second third).lines ≡ get_or (every second third []) (pred p) []
    go zero h = absurd (omega arith)
    go (suc zero) h = refl
    go (suc (suc zero)) h = second_is second a
    go (suc (suc (suc zero))) h = third_is third b
    go (suc (suc (suc (suc p)))) h =
        let q : ℕ = suc (suc (suc (suc p))) in
        rw (ne_eqb 2 q (omega arith), ne_eqb 3 q (omega arith))

-- one element more at the end, read at its own place
at_end : {A : Type 0} (l : List A) (a z : A) (i : ℕ) → i ≡ length l → get_or (snoc l a) i z ≡ a
at_end l a z i h = rw h (get_or-append_seam l a [] z)

-- and read elsewhere, where nothing changes
before_end : {A : Type 0} (l : List A) (a z : A) (i : ℕ) → (i ≡ length l → ⊥) → get_or (snoc l a) i z ≡ get_or l i z
before_end l a z i h = go (ltb i (length l)) refl
  where
    go : (t : Bool) → ltb i (length l) ≡ t → get_or (snoc l a) i z ≡ get_or l i z
    go true q = get_or-append l (a ∷ []) z i (ltb-true i (length l) q)
    go false q =
        let f = ltb-false i (length l) q in
        get_or-eq_default (snoc l a) z (omega (arith, length-append l (a ∷ []))) ∙ sym (get_or-eq_default l z f)

-- the entries of point p after a call, where `all` has those of the points before it
entries_more : (all : List (List Entry)) (k : ℕ) → length all ≡ k → (f : ℕ → Bend) (es : List Entry) (ls : List Line) (p : ℕ) → 0 < p →
    entries_at p ls ≡ get_or all (pred p) [] → entries_at p (ls ++ new_lines (suc k) f 0 es) ≡ get_or (snoc all es) (pred p) []
entries_more all k size f es ls p low h = entries_append p ls (new_lines (suc k) f 0 es) ∙ go (eqb (suc k) p) refl
  where
    go : (t : Bool) → eqb (suc k) p ≡ t → entries_at p ls ++ entries_at p (new_lines (suc k) f 0 es) ≡ get_or (snoc all es) (pred p) []
    go true q =
        let e = eqb-true (suc k) p q in
        let here : pred p ≡ length all = omega arith in
        let old : entries_at p ls ≡ [] = h ∙ get_or-eq_default all [] (omega arith) in
        let new : entries_at p (new_lines (suc k) f 0 es) ≡ es =
        ap (λ (x : ℕ). entries_at x (new_lines (suc k) f 0 es)) (sym e) ∙ ap (map entry_for) (keep-own (suc k) f 0 es) ∙ entries_new (suc k) f 0 es
        in
        rw (old, new) (sym (at_end all es [] (pred p) here))
    go false q =
        let e = eqb-false (suc k) p q in
        let new : entries_at p (new_lines (suc k) f 0 es) ≡ [] = ap (map entry_for) (keep_other p (suc k) f 0 es e) in
        rw new (append-nil (entries_at p ls) ∙ h ∙ sym (before_end all es [] (pred p) (λ x. e (omega arith))))

-- the drawing after one more call
listed-added : (τ : Style) (n s : ℕ) (second third : List Entry) (rest : List (List Entry)) (d e : Drawing) (es : List Entry) →
    Listed τ n s second third rest d → add_entries d es ≡ good e → Listed τ n s second third (snoc rest es) e
listed-added τ n s second third rest d e es t h =
    let a = lengthened d e es h in
    record {
      is_style = a.style ∙ t.is_style;
      is_n = a.n ∙ t.is_n;
      is_s = a.s ∙ t.is_s;
      is_k = omega (arith, a.k, t.is_k, length-append rest (es ∷ []));
      entries = λ p low. rw a.lines (entries_more (every second third rest) d.k (omega (arith, t.is_k)) a.bend es d.lines p low (t.entries p low));
    }

-- every built drawing is listed so
pub listed : {τ : Style} {n s : ℕ} {second third : List Entry} {rest : List (List Entry)} {d : Drawing} → Built τ n s second third rest d → Listed τ n s second third rest d
listed {τ} {n} {s} {second} {third} (begun a b) = listed_start τ n s second third a b
listed {τ} {n} {s} {second} {third} (added {ess = ess} {d = d} {e = e} es b h) = listed-added τ n s second third ess d e es (listed b) h

-- A drawing built for n points at the scale s is reached, and with entries for all n points it is whole.
module _ {τ : Style} {n s : ℕ} {second third : List Entry} {rest : List (List Entry)} {d : Drawing} (range : (3 ≤ n) × (n ≤ 1024)) (scale : (1 ≤ s) × (s ≤ 8)) (built : Built τ n s second third rest d) where
  pub reached_so : Reached d
  reached_so =
      let t = listed built in
      record {
        second = second;
        third = third;
        rest = rest;
        built = subst (λ (τ : Style). Built τ d.n d.s second third rest d) (sym t.is_style) (subst₂ (λ (n s : ℕ). Built τ n s second third rest d) (sym t.is_n) (sym t.is_s) built);
        low = rw t.is_n range.0;
        high = rw t.is_n range.1;
        scale = rw t.is_s scale;
      }

  pub whole_so : length rest ≡ n - 3 → Whole d
  whole_so many = let t = listed built in record { reached = reached_so; full = omega (arith, t.is_k, t.is_n, range.0) }
