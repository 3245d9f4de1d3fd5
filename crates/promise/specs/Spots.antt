-- How the lines of a drawing are read in its net: the three places of a line, its ends, and its pieces by its kind.
use Rattle.std.specs.Prelude.{ℕ, suc, pred, ◌+◌, ◌<◌, ◌≡◌, refl, ◌⊎◌, Bool, true, eqb}
use Rattle.std.proofs.Common.{sym, ap, ◌∙◌, ap₂, arith, eqb-true, eq-eqb}
use Rattle.std.proofs.Math.Path.{fun_ext}
use Rattle.std.proofs.Math.Logic.{⊎_map}
use Rattle.std.proofs.Math.Bool.{or-true}
use Rattle.rules.specs.declared.Kind.{Kind}
use Rattle.rules.specs.declared.Kind.TheVariants.{Guide}
use Rattle.rules.specs.declared.Line.{Line}
use Rattle.rules.specs.declared.Place.{Place}
use Rattle.rules.specs.declared.Bend.{Bend}
use Rattle.rules.specs.declared.Bend.TheVariants.{Left, Right, Middle, NoBend}
use Rattle.rules.specs.Points.{Drawing, at, x_of, y_of, dr_of, place_of, line_at}
use Rattle.rules.specs.Ports.{bend_of, bend_place, has_port, port_owner, other_end, Piece, free_piece}
use Rattle.rules.specs.Demand.{ends_at}
use Rattle.rules.specs.Bools.{either}
use Rattle.net.specs.Net.{BendKind, side, middle, flat}
use Rattle.net.specs.Bend.{Spot, start, bend, end, turn, spot}
use Rattle.promise.specs.Nets.{bend_kind, net_of}
use Rattle.promise.specs.Promise.{IsLine}
use Rattle.promise.specs.Sound.{Sound, Bent}

-- ---- the three places of a line

-- the earlier end
pub spot-start : (d : Drawing) (e : ℕ) → spot (net_of d) e start ≡ place_of d (line_at d e).earlier
spot-start d e = refl

-- the later end
pub spot-end : (d : Drawing) (e : ℕ) → spot (net_of d) e end ≡ place_of d (line_at d e).later
spot-end d e = refl

-- the bend by its kind; without a port it is the earlier end
pub turn-bend : (d : Drawing) (v u : ℕ) (b : Bend) → turn (net_of d) (pred u) (pred v) (bend_kind b) ≡ bend_of d v u b
turn-bend d v u (Left j) = refl
turn-bend d v u (Right j) =
    let e : x_of d u + (dr_of d u + 1) ≡ x_of d u + dr_of d u + 1 = omega arith in
    ap (λ a. at a (y_of d u + j)) e
turn-bend d v u (Middle i) = refl
turn-bend d v u NoBend = refl

-- a bend has a port
abbrev pub ported : Bend → Bool
ported b = has_port (record { later = 0; earlier = 0; bend = b; kind = Guide })

-- the bend
pub spot-bend : (d : Drawing) (e : ℕ) → spot (net_of d) e bend ≡ bend_place d (line_at d e)
spot-bend d e = let l = line_at d e in turn-bend d l.later l.earlier l.bend

-- In a one-bend drawing line 1-2 alone has no bend, and so "its bend is written as the place of point 1".
pub no_bend : {d : Drawing} → Bent d → (e : ℕ) → IsLine d e → (line_at d e).bend ≡ NoBend → (e ≡ 0) × (bend_place d (line_at d e) ≡ place_of d 1)
no_bend {d} s e el q =
    let f = s.inv.frees in
    let z = f.base e el (ap bend_kind q) in
    let u : (net_of d).u e ≡ 0 = ap (net_of d).u z ∙ f.grounded.0 in
    (z, sym (spot-bend d e) ∙ ap (turn (net_of d) ((net_of d).u e) ((net_of d).v e)) (ap bend_kind q) ∙ ap (λ p. place_of d (suc p)) u)

-- the three places of a line in the rules
abbrev pub drawn : Drawing → Line → Spot → Place
drawn d l start = place_of d l.earlier
drawn d l bend = bend_place d l
drawn d l end = place_of d l.later

-- all three at once
pub spots : (d : Drawing) (e : ℕ) → spot (net_of d) e ≡ drawn d (line_at d e)
spots d e = fun_ext go
  where
    go : (i : Spot) → spot (net_of d) e i ≡ drawn d (line_at d e) i
    go start = spot-start d e
    go bend = spot-bend d e
    go end = spot-end d e

-- ---- ends

-- numbers from 1 with the same predecessor are the same
unpred : (a b : ℕ) → 0 < a → 0 < b → pred a ≡ pred b → a ≡ b
unpred a b h k q = omega arith

-- a point with the same number in the net as an earlier end is that end
pub earlier_of : {d : Drawing} → Sound d → (p e : ℕ) → 0 < p → IsLine d e → (net_of d).u e ≡ pred p → (line_at d e).earlier ≡ p
earlier_of {d} s p e pos el q = unpred (line_at d e).earlier p (s.ended.ends e el).0 pos q

-- a point with the same number in the net as a later end is that end
pub later_of : {d : Drawing} → Sound d → (p e : ℕ) → 0 < p → IsLine d e → (net_of d).v e ≡ pred p → (line_at d e).later ≡ p
later_of {d} s p e pos el q = unpred (line_at d e).later p (s.ended.ends e el).1 pos q

-- a line ends at p: p is its later or its earlier end
pub ends_cases : (p : ℕ) (l : Line) → ends_at p l ≡ true → (l.later ≡ p) ⊎ (l.earlier ≡ p)
ends_cases p l t = ⊎_map (eqb-true l.later p) (eqb-true l.earlier p) (either (eqb l.later p) (eqb l.earlier p) t)

-- a line ends at its later end
pub ends-later : (p : ℕ) (l : Line) → l.later ≡ p → ends_at p l ≡ true
ends-later p l q = rw (eq-eqb l.later p q)

-- a line ends at its earlier end
pub ends-earlier : (p : ℕ) (l : Line) → l.earlier ≡ p → ends_at p l ≡ true
ends-earlier p l q = simp (eq-eqb l.earlier p q, or-true)

-- ---- owners and pieces, by the kind of a line

-- a where the port is at the earlier end, or there is none; b where it is at the later end
abbrev pub by_owner : {A : Type 0} → BendKind → A → A → A
by_owner (side s j) a b = a
by_owner (middle i) a b = b
by_owner flat a b = a

-- the line with these ends and this bend
abbrev line_of : ℕ → ℕ → Bend → Kind → Line
line_of v u b c = record { later = v; earlier = u; bend = b; kind = c }

-- its port's owner and its other end
line-ends : (v u : ℕ) (b : Bend) (c : Kind) → (port_owner (line_of v u b c) ≡ by_owner (bend_kind b) u v) × (other_end (line_of v u b c) ≡ by_owner (bend_kind b) v u)
line-ends v u (Left j) c = (refl, refl)
line-ends v u (Right j) c = (refl, refl)
line-ends v u (Middle i) c = (refl, refl)
line-ends v u NoBend c = (refl, refl)

-- the other end
pub other_end_lem : (d : Drawing) (e : ℕ) → other_end (line_at d e) ≡ by_owner ((net_of d).kind e) (line_at d e).later (line_at d e).earlier
other_end_lem d e = let l = line_at d e in (line-ends l.later l.earlier l.bend l.kind).1

-- a function goes inside
by_ap : {A B : Type 0} (f : A → B) (κ : BendKind) (a b : A) → f (by_owner κ a b) ≡ by_owner κ (f a) (f b)
by_ap f (side s j) a b = refl
by_ap f (middle i) a b = refl
by_ap f flat a b = refl

-- the place of the other end
pub other_place : (d : Drawing) (e : ℕ) → place_of d (other_end (line_at d e)) ≡ spot (net_of d) e (by_owner ((net_of d).kind e) end start)
other_place d e =
    ap (place_of d) (other_end_lem d e) ∙ by_ap (place_of d) ((net_of d).kind e) (line_at d e).later (line_at d e).earlier ∙
    sym (by_ap (spot (net_of d) e) ((net_of d).kind e) end start)

-- the piece between two places
abbrev pub piece : Place → Place → Piece
piece a b = record { from = a; to = b }

-- the free piece
pub free_piece_lem : (d : Drawing) (e : ℕ) →
    free_piece d (line_at d e) ≡ piece (spot (net_of d) e bend) (spot (net_of d) e (by_owner ((net_of d).kind e) end start))
free_piece_lem d e = ap₂ piece (sym (spot-bend d e)) (other_place d e)
