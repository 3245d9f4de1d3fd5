-- DEMAND 3, clause 4, of both drawings: two different lines have no point in common but the place of a point where both end.
use Rattle.std.specs.Prelude.{ℕ, pred, ◌<◌, ◌≡◌, refl, ◌≢◌, ◌⊎◌, Bool, true, false, not, ◌||◌, [], ◌∷◌, eqb, if◌then◌else◌}
use Rattle.std.proofs.Common.{ap, subst₂, inl, inr, arith, eqb-true}
use Rattle.std.proofs.lemmas.Bool.{eqb-false}
use Rattle.rules.specs.declared.Style.{Style}
use Rattle.rules.specs.declared.Style.TheVariants.{OneBend, Straight}
use Rattle.rules.specs.declared.Kind.{Kind}
use Rattle.rules.specs.declared.Place.{Place}
use Rattle.rules.specs.declared.Line.{Line}
use Rattle.rules.specs.declared.Bend.{Bend}
use Rattle.rules.specs.declared.Bend.TheVariants.{Left, Right, Middle, NoBend}
use Rattle.rules.specs.Basics.{keep, all_of, any_of}
use Rattle.rules.specs.Points.{Drawing, place_of, line_at}
use Rattle.rules.specs.Ports.{Piece, pieces}
use Rattle.rules.specs.Meeting.{meet, meet_only_at}
use Rattle.rules.specs.Demand.{ends_at, shared_ends, apart_pieces, apart}
use Rattle.rules.specs.Bools.{neither, either}
use Rattle.plane.specs.Apart.{OnlyAt}
use Rattle.plane.specs.Only.{only_test, only_swap, only_second}
use Rattle.net.specs.Net.{Net}
use Rattle.net.specs.Bend.{Spot}
use Rattle.net.specs.Stack.{Half, one, two, head, tail, OnlyHalf}
use Rattle.net.specs.Parting.{Missed, EndsApart, EndShared}
use Rattle.net.specs.Disjoint.{disjoint}
use Rattle.net.specs.Shared.{shared}
use Rattle.net.specs.Plane as Plane
use Rattle.promise.specs.Sound.{Sound, bent, unbent}
use Rattle.promise.specs.Nets.{net_of}
use Rattle.promise.specs.Promise.{IsLine, Planar}
use Rattle.promise.specs.Spots.{drawn, spots}

-- from p to q is one of the two pieces of a line with the places S, in one direction or the other
data Lies (S : Spot → Place) : Place → Place → Type 0 where
  along : (h : Half) → Lies S (S (head h)) (S (tail h))
  against : (h : Half) → Lies S (S (tail h)) (S (head h))

-- a test that holds of each piece of a line, in either direction, holds of all pieces that the rules list
all_pieces : (d : Drawing) (q p : ℕ) (b : Bend) (c : Kind) → let l : Line = record { later = q; earlier = p; bend = b; kind = c } in
    (t : Piece → Bool) → ((a : Piece) → Lies (drawn d l) a.from a.to → t a ≡ true) → all_of t (pieces d l) ≡ true
all_pieces d q p (Left j) c t h = rw (h _ (along one), h _ (along two))
all_pieces d q p (Right j) c t h = rw (h _ (along one), h _ (along two))
all_pieces d q p (Middle i) c t h = rw (h _ (against two), h _ (against one))
all_pieces d q p NoBend c t h = rw (h _ (along two))

-- the direction of the pieces does not matter
only_lies : (z : Place) (S T : Spot → Place) → OnlyHalf z S T → {p q r s : Place} → Lies S p q → Lies T r s → OnlyAt z p q r s
only_lies z S T h (along i) (along j) = h i j
only_lies z S T h (along i) (against j) = only_second _ _ _ _ _ (h i j)
only_lies z S T h (against i) (along j) = only_swap _ _ _ _ _ (h i j)
only_lies z S T h (against i) (against j) = only_swap _ _ _ _ _ (only_second _ _ _ _ _ (h i j))

-- places no two of which are the ends of pieces that meet
miss_lies : (S T : Spot → Place) → Missed S T → {p q r s : Place} → Lies S p q → Lies T r s → meet p q r s ≡ false
miss_lies S T h (along i) (along j) = h (head i) (tail i) (head j) (tail j)
miss_lies S T h (along i) (against j) = h (head i) (tail i) (tail j) (head j)
miss_lies S T h (against i) (along j) = h (tail i) (head i) (head j) (tail j)
miss_lies S T h (against i) (against j) = h (tail i) (head i) (tail j) (head j)

-- a disjunction by its second part
or_right : (a b : Bool) → b ≡ true → (a || b) ≡ true
or_right true b e = refl
or_right false b e = e

-- one of two numbers that passes the test t and is kept by k
any_first : (k t : ℕ → Bool) (p q : ℕ) → k p ≡ true → t p ≡ true → any_of t (keep k (p ∷ q ∷ [])) ≡ true
any_first k t p q e f = rw (e, f)

any_second : (k t : ℕ → Bool) (p q : ℕ) → k q ≡ true → t q ≡ true → any_of t (keep k (p ∷ q ∷ [])) ≡ true
any_second k t p q e f = rw e (go (k p))
  where
    go : (b : Bool) → any_of t (if b then p ∷ q ∷ [] else q ∷ []) ≡ true
    go true = or_right (t p) _ (rw f)
    go false = rw f

-- a line that ends at p, and one that does not, by the numbers of the net
ends-net : (p : ℕ) (l : Line) → ends_at p l ≡ true → (pred l.earlier ≡ pred p) ⊎ (pred l.later ≡ pred p)
ends-net p l h = go (either (eqb l.later p) (eqb l.earlier p) h)
  where
    go : (eqb l.later p ≡ true) ⊎ (eqb l.earlier p ≡ true) → (pred l.earlier ≡ pred p) ⊎ (pred l.later ≡ pred p)
    go (inl e) = inr (ap pred (eqb-true l.later p e))
    go (inr e) = inl (ap pred (eqb-true l.earlier p e))

ends_not : (p : ℕ) (l : Line) → ends_at p l ≡ false → 0 < p → 0 < l.earlier → 0 < l.later → (pred p ≢ pred l.earlier) × (pred p ≢ pred l.later)
ends_not p l h a b c =
    let n = neither (eqb l.later p) (eqb l.earlier p) h in
    let i : l.later ≢ p = eqb-false l.later p n.0 in
    let j : l.earlier ≢ p = eqb-false l.earlier p n.1 in
    (omega arith, omega arith)

-- what net says of two lines, for both drawings
record Parting (g : Net) : Type 0 where
  disjoint : EndsApart g
  shared : EndShared g

parting : (d : Drawing) → Sound d → Parting (net_of d)
parting d s = go d.style refl
  where
    go : (τ : Style) → d.style ≡ τ → Parting (net_of d)
    go OneBend b = let i = (bent s b).inv in record { disjoint = disjoint i; shared = shared i }
    go Straight b = let c = (unbent s b).core in record { disjoint = Plane.disjoint c; shared = Plane.shared c }

module _ (d : Drawing) (s : Sound d) (e f : ℕ) (el : IsLine d e) (fl : IsLine d f) (n : e ≢ f) where
  -- the two lines
  abbrev E : Line
  E = line_at d e

  abbrev F : Line
  F = line_at d f

  -- a common end p of the lines is their only common point
  only_at : (p : ℕ) → (pred E.earlier ≡ pred p) ⊎ (pred E.later ≡ pred p) → ends_at p F ≡ true → OnlyHalf (place_of d p) (drawn d E) (drawn d F)
  only_at p h k =
      subst₂ (OnlyHalf (place_of d p)) (spots d e) (spots d f) ((parting d s).shared (pred p) e f el fl n h (ends-net p F k))

  -- lines with no common end
  missed : ends_at E.later F ≡ false → ends_at E.earlier F ≡ false → Missed (drawn d E) (drawn d F)
  missed h k =
      let o = s.ended.ends e el in
      let q = s.ended.ends f fl in
      let i = ends_not E.later F h o.1 q.0 q.1 in
      let j = ends_not E.earlier F k o.0 q.0 q.1 in
      subst₂ Missed (spots d e) (spots d f) ((parting d s).disjoint e f el fl j.0 j.1 i.0 i.1)

  module _ (x y : Piece) (u : Lies (drawn d E) x.from x.to) (v : Lies (drawn d F) y.from y.to) where
    -- a piece of one and a piece of the other have only the place of p in common
    abbrev only_at_end : ℕ → Bool
    only_at_end p = meet_only_at (place_of d p) x.from x.to y.from y.to

    -- a common end passes the test
    passed : (p : ℕ) → (pred E.earlier ≡ pred p) ⊎ (pred E.later ≡ pred p) → ends_at p F ≡ true → only_at_end p ≡ true
    passed p h k = only_test _ _ _ _ _ (only_lies _ _ _ (only_at p h k) u v)

    -- one end that passes is enough
    some_end : any_of only_at_end (shared_ends E F) ≡ true → apart_pieces d (shared_ends E F) x y ≡ true
    some_end = or_right (not (meet x.from x.to y.from y.to)) (any_of only_at_end (shared_ends E F))

    -- by cases on which ends of the first line are ends of the second
    pair : apart_pieces d (shared_ends E F) x y ≡ true
    pair = go (ends_at E.later F) (ends_at E.earlier F) refl refl
      where
        go : (i j : Bool) → ends_at E.later F ≡ i → ends_at E.earlier F ≡ j → apart_pieces d (shared_ends E F) x y ≡ true
        go true j h k = some_end (any_first (λ p. ends_at p F) only_at_end E.later E.earlier h (passed E.later (inr refl) h))
        go false true h k = some_end (any_second (λ p. ends_at p F) only_at_end E.later E.earlier k (passed E.earlier (inl refl) k))
        go false false h k = rw (miss_lies (drawn d E) (drawn d F) (missed h k) u v)

  -- all pieces of both lines
  all_apart : apart d E F ≡ true
  all_apart =
      all_pieces d E.later E.earlier E.bend E.kind _ (λ x u.
      all_pieces d F.later F.earlier F.bend F.kind _ (λ y v. pair x y u v))

-- Clause 4 of the promise.
pub planar : (d : Drawing) → Sound d → Planar d
planar d s e f el fl n = all_apart d s e f el fl n
