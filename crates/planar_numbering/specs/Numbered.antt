-- All points: those counted down to point 3, then points 1 and 2.
use Rattle.std.specs.Prelude.{ℕ, suc, ◌+◌, ◌-◌, ◌*◌, ◌<◌, ◌≤◌, ◌≡◌, List, [], ◌∷◌, length, get_or, drop, set}
use Rattle.std.proofs.Math.Path.{ap, sym}
use Rattle.std.proofs.Common.{◌∙◌, length-set, get_or-set_same, get_or-set_other, arith}
use Rattle.planar_rules.specs.PlanarCode.{Flat, Point, number, top_point, points, second}
use Rattle.planar_order.specs.Numbering.{total}
use Rattle.planar_order.specs.Theorem.{Ordered}
use Rattle.planar_order.proofs.Theorem.{ordered}
use Rattle.planar_numbering.specs.declared.points.Points.{Points}
use Rattle.planar_numbering.specs.Gathering.{drop-set}
use Rattle.planar_numbering.specs.Points.{points_in, points_from, points_same, Fitting, fitting_same}
use Rattle.planar_numbering.specs.Top.{Begin, Ready, TopNumbered}
use Rattle.planar_numbering.specs.Next.{NextNumbered, ready-again, number-again}

-- points 3 to n, as the rules number them
abbrev pub from_three : Flat → List Point
from_three f = number f (f.n - 3) (top_point f).entries (top_point f ∷ [])

-- the points with index above k are numbered, and those that the rules number from there are the others
pub record CountingDown (f : Flat) (b : List ℕ) (k : ℕ) (ver ln ent : List ℕ) (s : ℕ) : Type 0 where
  pub ready : Ready f b k ver ln ent s
  pub to_come : from_three f ≡ number f (k - 1) b (points_from f.n ver ln ent s (suc k))

-- points 3 to n are numbered, and there is room for points 1 and 2
pub record CountedDown (f : Flat) (ver ln ent : List ℕ) (s : ℕ) : Type 0 where
  pub all : points_from f.n ver ln ent s 2 ≡ from_three f
  pub ver_size : length ver ≡ 256
  pub ln_size : length ln ≡ 256
  pub ent_size : length ent ≡ 768
  pub two : 2 ≤ f.n
  pub fitting : Fitting ln 2 (f.n - 2) (drop s ent)
  pub s_some : 0 < s
  pub s_in_lem : s ≤ 768

-- all points are numbered, and none has more entries than stand there
pub record AllNumbered (f : Flat) (ver ln ent : List ℕ) (s : ℕ) : Type 0 where
  pub all : points_in ver ln 0 f.n (drop s ent) ≡ points f
  pub ver_size : length ver ≡ 256
  pub ln_size : length ln ≡ 256
  pub ent_size : length ent ≡ 768
  pub s_in_lem : s ≤ 768
  pub fitting : Fitting ln 0 f.n (drop s ent)

-- point n alone has its number
pub counting_begin : {f : Flat} {b ver ln ent : List ℕ} {s : ℕ} → TopNumbered f b ver ln ent s → CountingDown f b (f.n - 2) ver ln ent s
counting_begin {f} g =
    record {
      ready = g.ready;
      to_come = let q : f.n - 2 - 1 ≡ f.n - 3 = omega arith in sym (rw (q, g.boundary, g.later_is));
    }

module _ {f : Flat} {b ver ln ent : List ℕ} {k s : ℕ} (x : CountingDown f b k ver ln ent s) where
  -- one more has
  pub counting_on :
      {ver' ln' ent' b' : List ℕ} {s' : ℕ} → 2 ≤ k → NextNumbered f b k ver ln ent s ver' ln' ent' s' b' →
      CountingDown f b' (k - 1) ver' ln' ent' s'
  counting_on k2 z = record { ready = ready-again x.ready k2 z; to_come = x.to_come ∙ number-again x.ready k2 z }

  order : Ordered f
  order = let a = x.ready.arrays in ordered f a.kept.listed a.valid a.own0

  rest-total : total (from_three f) + 7 ≡ 3 * f.n
  unfolding points total
  rest-total = omega (arith, ap total order.points_are, order.entries-total)

  -- all have, but points 1 and 2
  pub counted-down : k < 2 → CountedDown f ver ln ent s
  unfolding number
  counted-down less =
      let none : k - 1 ≡ 0 = omega arith in
      let next : suc k ≡ 2 = omega (arith, x.ready.k_some) in
      let all : points_from f.n ver ln ent s 2 ≡ from_three f = sym (x.to_come ∙ rw (none, next)) in
      let room : s + total (points_from f.n ver ln ent s 2) ≡ 768 = rw next at x.ready.room in
      let a = x.ready.arrays in
      record {
        all = all;
        ver_size = a.ver_size;
        ln_size = a.ln_size;
        ent_size = a.ent_size;
        two = omega (arith, a.kept.some);
        fitting = rw next at x.ready.fitting;
        s_some = omega (arith, ap total all, rest-total, a.kept.byte);
        s_in_lem = omega arith;
      }

-- an array whose first two elements were put
front_0 : (l : List ℕ) (y : ℕ) → 1 < length l → get_or (set (set l 0 0) 1 y) 0 0 ≡ 0
front_0 l y p = get_or-set_other (set l 0 0) 1 0 y 0 (λ e. omega arith) ∙ get_or-set_same l 0 0 0 (omega arith)

front_1 : (l : List ℕ) (y : ℕ) → 1 < length l → get_or (set (set l 0 0) 1 y) 1 0 ≡ y
front_1 l y p = get_or-set_same (set l 0 0) 1 y 0 (omega (arith, length-set l 0 0))

front_behind : (l : List ℕ) (y j : ℕ) → 2 ≤ j → get_or (set (set l 0 0) 1 y) j 0 ≡ get_or l j 0
front_behind l y j p = get_or-set_other (set l 0 0) 1 j y 0 (λ e. omega arith) ∙ get_or-set_other l 0 j 0 0 (λ e. omega arith)

-- points 1 and 2, put in front of the others
two_more :
    (ver ln ent : List ℕ) (s v c : ℕ) → 1 < length ver → 1 < length ln → 0 < s → s ≤ length ent →
    points_in (set (set ver 0 0) 1 v) (set (set ln 0 0) 1 1) 0 (suc (suc c)) (drop (s - 1) (set ent (s - 1) 0)) ≡
    record { vertex = 0; entries = [] } ∷ record { vertex = v; entries = 0 ∷ [] } ∷ points_in ver ln 2 c (drop s ent)
unfolding points_in
two_more ver ln ent s v c vl ll s0 sl =
    let k : ℕ = s - 1 in
    let ek : suc k ≡ s = omega arith in
    rw (drop-set ent k 0 (omega arith), ek, front_0 ver v vl, front_0 ln 1 ll, front_1 ver v vl, front_1 ln 1 ll)
    (ap (λ t. record { vertex = 0; entries = [] } ∷ record { vertex = v; entries = 0 ∷ [] } ∷ t)
    (points_same ver ln (set (set ver 0 0) 1 v) (set (set ln 0 0) 1 1) 2 c (drop s ent) (front_behind ver v) (front_behind ln 1)))

two_fitting :
    (ln ent : List ℕ) (s c : ℕ) → 1 < length ln → 0 < s → s ≤ length ent → Fitting ln 2 c (drop s ent) →
    Fitting (set (set ln 0 0) 1 1) 0 (suc (suc c)) (drop (s - 1) (set ent (s - 1) 0))
unfolding Fitting
two_fitting ln ent s c ll s0 sl h =
    let k : ℕ = s - 1 in
    let ek : suc k ≡ s = omega arith in
    rw (drop-set ent k 0 (omega arith), ek, front_0 ln 1 ll, front_1 ln 1 ll)
    (omega arith, (omega arith, fitting_same ln (set (set ln 0 0) 1 1) 2 c (drop s ent) (front_behind ln 1) h))

-- and then all points are numbered
pub all_numbered :
    {f : Flat} {ver ln ent : List ℕ} {s : ℕ} → CountedDown f ver ln ent s →
    AllNumbered f (set (set ver 0 0) 1 (second f)) (set (set ln 0 0) 1 1) (set ent (s - 1) 0) (s - 1)
unfolding points
all_numbered {f} {ver} {ln} {ent} {s} z =
    let n : f.n ≡ suc (suc (f.n - 2)) = omega (arith, z.two) in
    let room : s ≤ length ent = omega (arith, z.ent_size, z.s_in_lem) in
    record {
      all =
          ap (λ k. points_in (set (set ver 0 0) 1 (second f)) (set (set ln 0 0) 1 1) 0 k (drop (s - 1) (set ent (s - 1) 0))) n ∙
          two_more ver ln ent s (second f) (f.n - 2) (omega (arith, z.ver_size)) (omega (arith, z.ln_size)) z.s_some room ∙
          ap (λ t. record { vertex = 0; entries = [] } ∷ record { vertex = second f; entries = 0 ∷ [] } ∷ t) z.all;
      ver_size = length-set (set ver 0 0) 1 (second f) ∙ length-set ver 0 0 ∙ z.ver_size;
      ln_size = length-set (set ln 0 0) 1 1 ∙ length-set ln 0 0 ∙ z.ln_size;
      ent_size = length-set ent (s - 1) 0 ∙ z.ent_size;
      s_in_lem = omega (arith, z.s_in_lem);
      fitting = rw n (two_fitting ln ent s (f.n - 2) (omega (arith, z.ln_size)) z.s_some room z.fitting);
    }

-- ---- the same of the points as the code has them

abbrev pub Beginning : Flat → Points → Type 0
Beginning f p = Begin f p.vertices p.counts p.entries

abbrev pub Readied : Flat → List ℕ → ℕ → Points → Type 0
Readied f b k p = Ready f b k p.vertices p.counts p.entries p.from

abbrev pub TopNumberedIn : Flat → List ℕ → Points → Type 0
TopNumberedIn f b p = TopNumbered f b p.vertices p.counts p.entries p.from

abbrev pub NextNumberedIn : Flat → List ℕ → ℕ → Points → Points → List ℕ → Type 0
NextNumberedIn f b k p p' b' = NextNumbered f b k p.vertices p.counts p.entries p.from p'.vertices p'.counts p'.entries p'.from b'

abbrev pub CountedDownIn : Flat → Points → Type 0
CountedDownIn f p = CountedDown f p.vertices p.counts p.entries p.from

abbrev pub AllNumberedIn : Flat → Points → Type 0
AllNumberedIn f p = AllNumbered f p.vertices p.counts p.entries p.from
