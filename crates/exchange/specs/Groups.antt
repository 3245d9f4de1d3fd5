-- Several records written and read back; the groups of a built drawing's line records are its entries, so that judging them in turn builds the drawing again.
use Rattle.std.specs.Prelude.{ℕ, zero, suc, ◌+◌, ◌-◌, ◌*◌, ◌<◌, ◌≡◌, refl, not, List, [], ◌∷◌, ◌++◌, length}
use Rattle.std.proofs.Common.{ap, ap₂, sym, ◌∙◌, subst, append_assoc, append-nil, zero-add, suc-mul, arith, length-append, eq-eqb, ne_eqb}
use Rattle.std.proofs.lemmas.Bool.{not-false}
use Rattle.rules.specs.declared.Kind.{Kind}
use Rattle.rules.specs.declared.Kind.TheVariants.{Guide, Plain, Feeder}
use Rattle.rules.specs.declared.Line.{Line}
use Rattle.rules.specs.declared.Style.{Style}
use Rattle.rules.specs.declared.Style.TheVariants.{OneBend, Straight}
use Rattle.rules.specs.declared.Entry.{Entry}
use Rattle.rules.specs.declared.Place.{Place}
use Rattle.rules.specs.declared.Bend.{Bend}
use Rattle.rules.specs.declared.Bend.TheVariants.{NoBend}
use Rattle.rules.specs.declared.Refusal.TheVariants.{OtherStart}
use Rattle.rules.specs.Basics.{snoc, same}
use Rattle.rules.specs.Same.{same_is}
use Rattle.rules.specs.Refusals.{Result, good, ◌>>◌, placed}
use Rattle.rules.specs.Points.{Drawing}
use Rattle.rules.specs.Styles.{bent, line_numbers}
use Rattle.rules.specs.Adding.{points_of, add_entries, new_lines, new_bend}
use Rattle.rules.specs.Ports.{bend_place}
use Rattle.rules.specs.Records.{Size, Shape, Found, written, read_record, several, line_shape}
use Rattle.rules.specs.Found.{found, Fits}
use Rattle.rules.proofs.RoundTrip.{record_back}
use Rattle.rules.specs.OrderFile.{start_test, start_with}
use Rattle.rules.specs.DrawingFile.{last_field, kind_from, line_words, write_lines, later_in, entry_in, group, behind, group_place, judge_rest, judge_lines}
use Rattle.exchange.specs.Built.{Built, begun, added}
use Rattle.exchange.specs.Entries.{lengthened, second_is, third_is}
use Rattle.rules.proofs.Lengths.{length-snoc}
use Rattle.rules.specs.Results.{same_value, bound, binds_to, tested, placed-good}

-- ---- several records of one shape

-- the bytes of records that hold these numbers
abbrev pub written_all : Shape → List (List ℕ) → List ℕ
written_all r [] = []
written_all r (ws ∷ wss) = written r ws ++ written_all r wss

-- each list of numbers has the shape's size
abbrev pub AllFit : Size → List (List ℕ) → Type 0
AllFit z [] = Unit {0}
AllFit z (ws ∷ wss) = Fits z ws × AllFit z wss

-- what is found where they were written, from the offset o on
abbrev pub found_all : Shape → ℕ → List (List ℕ) → List ℕ → List Found
found_all r o [] rest = []
found_all r o (ws ∷ wss) rest = found o ws (o + length (written r ws)) (written_all r wss ++ rest) ∷ found_all r (o + length (written r ws)) wss rest

-- the records, written and read
pub several_back : (r : Shape) (o : ℕ) (wss : List (List ℕ)) (rest : List ℕ) → AllFit r.size wss →
    several (length wss) r (record { offset = o; bytes = written_all r wss ++ rest }) ≡
    good (record { all = found_all r o wss rest; next = record { offset = o + length (written_all r wss); bytes = rest } })
several_back r o [] rest h = let z : o ≡ o + 0 = omega arith in λ i. good (record { all = []; next = record { offset = z i; bytes = rest } })
several_back r o (ws ∷ wss) rest h =
    let t = written_all r wss in
    let b = o + length (written r ws) in
    let head : read_record r (record { offset = o; bytes = (written r ws ++ t) ++ rest }) ≡ good (found o ws b (t ++ rest)) =
    ap (λ (v : List ℕ). read_record r (record { offset = o; bytes = v })) (append_assoc (written r ws) t rest) ∙ record_back r o ws (t ++ rest) h.0 in
    let end : b + length t ≡ o + length (written r ws ++ t) = omega (arith, length-append (written r ws) t) in
    binds_to _ _ (found o ws b (t ++ rest)) _ head
    (binds_to _ _ (record { all = found_all r b wss rest; next = record { offset = b + length t; bytes = rest } }) _ (several_back r b wss rest h.1)
    (λ i. good (record { all = found o ws b (t ++ rest) ∷ found_all r b wss rest; next = record { offset = end i; bytes = rest } })))

-- records of c bytes each have c times as many bytes as there are records
pub length_all : (r : Shape) (c : ℕ) (wss : List (List ℕ)) → ((ws : List ℕ) → Fits r.size ws → length (written r ws) ≡ c) → AllFit r.size wss → length (written_all r wss) ≡ length wss * c
length_all r c [] each h = omega arith
length_all r c (ws ∷ wss) each h = simp length-append (omega (arith, each ws h.0, length_all r c wss each h.1, suc-mul (length wss) c))

-- ---- records that hold lines

-- each record holds the later point and the entry of a line
pub data Reads (τ : Style) : List Found → List Line → Type 0 where
  none : Reads τ [] []
  some : {f : Found} {fs : List Found} {l : Line} {ls : List Line} → later_in f ≡ l.later → entry_in τ f ≡ record { point = l.earlier; kind = l.kind } → Reads τ fs ls → Reads τ (f ∷ fs) (l ∷ ls)

-- the numbers of each line's record
abbrev pub lines_words : Drawing → List Line → List (List ℕ)
lines_words d [] = []
lines_words d (l ∷ ls) = line_words d.style d.s l (bend_place d l) ∷ lines_words d ls

-- the lines are written so
pub lines_are : (d : Drawing) (ls : List Line) → write_lines d ls ≡ written_all (line_shape d.style) (lines_words d ls)
lines_are d [] = refl
lines_are d (l ∷ ls) = ap (λ (t : List ℕ). written (line_shape d.style) (line_words d.style d.s l (bend_place d l)) ++ t) (lines_are d ls)

-- each has its size
line_fits : (τ : Style) (s : ℕ) (l : Line) (b : Place) → length (line_words τ s l b) ≡ line_numbers τ
line_fits OneBend s l b = refl
line_fits Straight s l b = refl

pub lines_fit : (d : Drawing) (ls : List Line) → AllFit (line_shape d.style).size (lines_words d ls)
lines_fit d [] = tt
lines_fit d (l ∷ ls) = (line_fits d.style d.s l (bend_place d l), lines_fit d ls)

-- there is one for each line
pub length-lines : (d : Drawing) (ls : List Line) → length (lines_words d ls) ≡ length ls
length-lines d [] = refl
length-lines d (l ∷ ls) = ap suc (length-lines d ls)

-- the last field of a line, written and read
field_back : (k : Kind) → kind_from (last_field k) ≡ k
field_back Guide = refl
field_back Plain = refl
field_back Feeder = refl

-- the line records hold the lines
line_reads : (τ : Style) (s : ℕ) (l : Line) (b : Place) (f : Found) → f.words ≡ line_words τ s l b → (later_in f ≡ l.later) × (entry_in τ f ≡ record { point = l.earlier; kind = l.kind })
line_reads OneBend s l b f e = rw e (refl, let f = field_back l.kind in λ i. record { point = l.earlier; kind = f i })
line_reads Straight s l b f e = rw e (refl, let f = field_back l.kind in λ i. record { point = l.earlier; kind = f i })

pub lines-read : (d : Drawing) (o : ℕ) (ls : List Line) (rest : List ℕ) → Reads d.style (found_all (line_shape d.style) o (lines_words d ls) rest) ls
lines-read d o [] rest = none
lines-read d o (l ∷ ls) rest = let t = line_reads d.style d.s l (bend_place d l) (found 0 (line_words d.style d.s l (bend_place d l)) 0 []) refl in some t.0 t.1 (lines-read d (o + length (written (line_shape d.style) (line_words d.style d.s l (bend_place d l)))) ls rest)

-- ---- groups

-- the first line is no line of points up to p
abbrev pub Beyond : ℕ → List Line → Type 0
Beyond p [] = Unit {0}
Beyond p (l ∷ ls) = p < l.later

-- the lines of a point's entries lie beyond the points before it
beyond_new : (p : ℕ) (bend : ℕ → Bend) (i : ℕ) (es : List Entry) (ls : List Line) → Beyond (suc p) ls → Beyond p (new_lines (suc p) bend i es ++ ls)
beyond_new p bend i [] [] h = tt
beyond_new p bend i [] (l ∷ ls) h = omega arith
beyond_new p bend i (e ∷ es) ls h = omega arith

-- the group of point p is its entries, and behind it are the other lines
pub record Grouped (τ : Style) (p : ℕ) (es : List Entry) (fs : List Found) (ls : List Line) : Type 0 where
  pub entries : group τ p fs ≡ es
  pub others : Reads τ (behind p fs) ls

-- no line of p is next: its group is empty
pub no_group : {τ : Style} {p : ℕ} {fs : List Found} {ls : List Line} → Reads τ fs ls → Beyond p ls → Grouped τ p [] fs ls
no_group none h = record { entries = refl; others = none }
no_group {τ} {p} (some {f} {fs} {l} {ls} a b r) h =
    let t = ne_eqb (later_in f) p (λ e. omega arith) in
    record { entries = rw t; others = rw t (some a b r) }

-- one more line of p, before its group
more : {τ : Style} {p : ℕ} {f : Found} {e : Entry} {es : List Entry} {fs : List Found} {ls : List Line} → later_in f ≡ p → entry_in τ f ≡ e → Grouped τ p es fs ls → Grouped τ p (e ∷ es) (f ∷ fs) ls
more {τ} {p} {f} a b g =
    let t = eq-eqb (later_in f) p a in
    let c = g.entries in
    record { entries = rw t (cc); others = rw t g.others }

-- the lines of p's entries are its group
pub new_group : {τ : Style} (p : ℕ) (bend : ℕ → Bend) (i : ℕ) (es : List Entry) (fs : List Found) (ls : List Line) → Reads τ fs (new_lines p bend i es ++ ls) → Beyond p ls → Grouped τ p es fs ls
new_group p bend i [] fs ls r h = no_group r h
new_group {τ} p bend i (e ∷ es) fs ls r h = go r (new_group p bend (suc i) es)
  where
    go : {fs : List Found} → Reads τ fs (new_lines p bend i (e ∷ es) ++ ls) → ((gs : List Found) (ls : List Line) → Reads τ gs (new_lines p bend (suc i) es ++ ls) → Beyond p ls → Grouped τ p es gs ls) → Grouped τ p (e ∷ es) fs ls
    go (some {fs = gs} a b r) rec = more a b (rec gs ls r h)

-- ---- the groups of a built drawing

-- judging one point whose group is accepted
judge_one : (τ : Style) (c end : ℕ) (d e : Drawing) (es : List Entry) (fs : List Found) → group τ (suc d.k) fs ≡ es → add_entries d es ≡ good e →
    judge_rest τ (suc c) end d fs ≡ judge_rest τ c end e (behind (suc d.k) fs)
unfolding judge_rest
judge_one τ c end d e es fs g h = rw (g, h)

module _ (τ : Style) (n s : ℕ) (second third : List Entry) where
  -- judging count + c points from the records fs on comes to judging c points from d on, with records that hold ls
  record Judged (end count c : ℕ) (d : Drawing) (fs : List Found) (ls : List Line) : Type 0 where
    left : List Found
    holds : Reads τ left ls
    comes : judge_rest τ (count + c) end (start_with τ n s second third) fs ≡ judge_rest τ c end d left

  -- the lines behind the first three, and that records of them are judged so
  record Replays (end : ℕ) (ess : List (List Entry)) (d : Drawing) : Type 0 where
    later : List Line
    all : d.lines ≡ (start_with τ n s second third).lines ++ later
    far : (ls : List Line) → Beyond d.k ls → Beyond 3 (later ++ ls)
    judged : (c : ℕ) (fs : List Found) (ls : List Line) → Reads τ fs (later ++ ls) → Beyond d.k ls → Judged end (length ess) c d fs ls

  -- an accepted call more keeps this
  replays-added : (end : ℕ) {ess : List (List Entry)} {d e : Drawing} (es : List Entry) → Replays end ess d → add_entries d es ≡ good e → Replays end (snoc ess es) e
  replays-added end {ess} {d} {e} es a h =
      let g = lengthened d e es h in
      record {
        later = a.later ++ new_lines (suc d.k) g.bend 0 es;
        all = g.lines ∙ ap (λ (v : List Line). v ++ new_lines (suc d.k) g.bend 0 es) a.all ∙ append_assoc (start_with τ n s second third).lines a.later _;
        far = λ ls b. rw append_assoc (a.far _ (beyond_new d.k g.bend 0 es ls (rw g.k at b)));
        judged = λ c fs ls r b.
            let b' : Beyond (suc d.k) ls = rw g.k at b in
            let t = new_lines (suc d.k) g.bend 0 es ++ ls in
            let j = a.judged (suc c) fs t (rw append_assoc at r) (beyond_new d.k g.bend 0 es ls b') in
            let u = new_group (suc d.k) g.bend 0 es j.left ls j.holds b' in
            let z : length (snoc ess es) + c ≡ length ess + suc c = omega (arith, length-snoc ess es) in
            record { left = behind (suc d.k) j.left; holds = u.others; comes = rw z (j.comes ∙ judge_one τ c end d e es j.left u.entries h) };
      }

  -- so it is with every built drawing
  replays : (end : ℕ) {ess : List (List Entry)} {d : Drawing} → Built τ n s second third ess d → Replays end ess d
  replays end (begun p q) = record { later = []; all = refl; far = λ ls b. b; judged = λ c fs ls r b. record { left = fs; holds = r; comes = rw (zero-add c) } }
  replays end (added es b h) = replays-added end es (replays end b) h

-- ---- the groups of points 1 to 3

-- the first three lines are those of the entries of points 2 and 3
start-lines : (τ : Style) (n s : ℕ) (second third : List Entry) → points_of second ≡ 1 ∷ [] → points_of third ≡ 1 ∷ 2 ∷ [] →
    (start_with τ n s second third).lines ≡ new_lines 2 (λ i. NoBend) 0 second ++ new_lines 3 (λ i. bent τ (new_bend 1 1 1 1 i)) 0 third
start-lines τ n s second third p q = ap₂ (λ (a b : List Entry). new_lines 2 (λ i. NoBend) 0 a ++ new_lines 3 (λ i. bent τ (new_bend 1 1 1 1 i)) 0 b) (second_is second p) (third_is third q)

-- the entries of points 2 and 3 of a built drawing name the points that they must
begun_points : {τ : Style} {n s : ℕ} {second third : List Entry} {ess : List (List Entry)} {d : Drawing} → Built τ n s second third ess d → (points_of second ≡ 1 ∷ []) × (points_of third ≡ 1 ∷ 2 ∷ [])
begun_points (begun p q) = (p, q)
begun_points (added es b h) = begun_points b

-- the tests of points 1 to 3 pass where their groups are these
judge-start : (τ : Style) (n s end : ℕ) (second third : List Entry) (fs : List Found) → group τ 1 fs ≡ [] → group τ 2 (behind 1 fs) ≡ second → group τ 3 (behind 2 (behind 1 fs)) ≡ third →
    points_of second ≡ 1 ∷ [] → points_of third ≡ 1 ∷ 2 ∷ [] → judge_lines τ n s end fs ≡ judge_rest τ (n - 3) end (start_with τ n s second third) (behind 3 (behind 2 (behind 1 fs)))
unfolding judge_lines
judge-start τ n s end second third fs e1 e2 e3 p q = rw (e1, e2, e3, p, q)

-- the records of a built drawing's lines are judged to be that drawing
pub judge-built : {τ : Style} {n s : ℕ} {second third : List Entry} {ess : List (List Entry)} {d : Drawing} → Built τ n s second third ess d → n ≡ 3 + length ess →
    (end : ℕ) (fs : List Found) → Reads τ fs d.lines → judge_lines τ n s end fs ≡ good d
unfolding judge_rest
judge-built {τ} {n} {s} {second} {third} {ess} {d} b full end fs r =
    let p = begun_points b in
    let a = replays τ n s second third end b in
    let tail = a.later ++ [] in
    let lines : d.lines ≡ new_lines 2 (λ i. NoBend) 0 second ++ (new_lines 3 (λ i. bent τ (new_bend 1 1 1 1 i)) 0 third ++ tail) =
    a.all ∙ ap₂ (λ (v w : List Line). v ++ w) (start-lines τ n s second third p.0 p.1) (sym (append-nil a.later)) ∙ append_assoc (new_lines 2 (λ i. NoBend) 0 second) (new_lines 3 (λ i. bent τ (new_bend 1 1 1 1 i)) 0 third) tail in
    let far = a.far [] tt in
    let far3 = beyond_new 2 (λ i. bent τ (new_bend 1 1 1 1 i)) 0 third tail far in
    let far2 = beyond_new 1 (λ i. NoBend) 0 second _ far3 in
    let g1 = no_group (subst (λ (v : List Line). Reads τ fs v) lines r) far2 in
    let g2 = new_group 2 (λ i. NoBend) 0 second (behind 1 fs) _ g1.others far3 in
    let g3 = new_group 3 (λ i. bent τ (new_bend 1 1 1 1 i)) 0 third (behind 2 (behind 1 fs)) tail g2.others far in
    let j = a.judged 0 (behind 3 (behind 2 (behind 1 fs))) [] g3.others tt in
    let z : n - 3 ≡ length ess + 0 = omega arith in
    judge-start τ n s end second third fs g1.entries g2.entries g3.entries p.0 p.1 ∙
    ap (λ (c : ℕ). judge_rest τ c end (start_with τ n s second third) (behind 3 (behind 2 (behind 1 fs)))) z ∙ j.comes

-- ---- and back: what is judged good was built

-- judging c more points builds on
judged-rest : {τ : Style} {n s : ℕ} {second third : List Entry} {ess : List (List Entry)} {d : Drawing} → Built τ n s second third ess d → (c end : ℕ) (e : Drawing) (fs : List Found) →
    judge_rest τ c end d fs ≡ good e → (all : List (List Entry)) × Built τ n s second third all e × (length all ≡ length ess + c)
unfolding judge_rest
judged-rest {τ} {n} {s} {second} {third} {ess} b zero end e fs h = (ess, subst (λ (v : Drawing). Built τ n s second third ess v) (same_value _ e h) b, omega arith)
judged-rest {τ} {ess = ess} {d = d} b (suc c) end e fs h =
    let es = group τ (suc d.k) fs in
    let t = bound (placed (group_place end fs) (add_entries d es)) _ e h in
    let r = judged-rest {ess = snoc ess es} (added es b (placed-good (group_place end fs) (add_entries d es) t.value t.first)) c end e (behind (suc d.k) fs) t.last in
    (r.0, r.1, omega (arith, r.2, length-snoc ess es))

-- the entries that a drawing was built from
pub record BuiltSo (τ : Style) (n s : ℕ) (d : Drawing) : Type 0 where
  pub second : List Entry
  pub third : List Entry
  pub rest : List (List Entry)
  pub built : Built τ n s second third rest d
  pub many : length rest ≡ n - 3

-- a start that passes its test has the wanted points
start_passed : {B : Type 0} (wanted : List ℕ) (es : List Entry) (place : ℕ) (t : Result B) (e : B) → (start_test wanted (points_of es) place >> t) ≡ good e → (points_of es ≡ wanted) × (t ≡ good e)
start_passed wanted es place t e h =
    let z = tested (not (same (points_of es) wanted)) OtherStart place t e h in
    (same_is (points_of es) wanted (not-false (same (points_of es) wanted) z.passed), z.last)

-- a drawing that judging gives was built from the groups
pub judged-built : (τ : Style) (n s end : ℕ) (fs : List Found) (d : Drawing) → judge_lines τ n s end fs ≡ good d → BuiltSo τ n s d
unfolding judge_lines
judged-built τ n s end fs d h =
    let gs = behind 1 fs in
    let hs = behind 2 gs in
    let t1 = start_passed [] (group τ 1 fs) (group_place end fs) _ d h in
    let t2 = start_passed (1 ∷ []) (group τ 2 gs) (group_place end gs) _ d t1.1 in
    let t3 = start_passed (1 ∷ 2 ∷ []) (group τ 3 hs) (group_place end hs) _ d t2.1 in
    let r = judged-rest (begun t2.0 t3.0) (n - 3) end d (behind 3 hs) t3.1 in
    record { second = group τ 2 gs; third = group τ 3 hs; rest = r.0; built = r.1; many = omega (arith, r.2) }
