-- The direction in which a line leaves its end: the place that the rules name is the place that the net gives.
use Rattle.std.specs.Prelude.{ℕ, pred, ◌<◌, ◌≤◌, ◌≡◌, refl, ◌≢◌, ◌⊎◌, true, length, eqb, if◌then◌else◌}
use Rattle.std.proofs.Common.{ap, sym, ◌∙◌, subst, inl, inr, arith, eq-eqb, ne_eqb, eqb-true}
use Rattle.rules.specs.declared.Kind.{Kind}
use Rattle.rules.specs.declared.Bend.{Bend}
use Rattle.rules.specs.declared.Bend.TheVariants.{Left, Right, Middle, NoBend}
use Rattle.rules.specs.declared.Line.{Line}
use Rattle.rules.specs.declared.Place.{Place}
use Rattle.rules.specs.Points.{Drawing, y_of, h_of, place_of, line_at}
use Rattle.rules.specs.Meeting.{same_place}
use Rattle.rules.specs.Demand.{ends_at, towards}
use Rattle.rules.specs.Bools.{both, either, is_false}
use Rattle.net.specs.Ports.{aside_of}
use Rattle.net.specs.Bend.{turn, spot, bend}
use Rattle.net.specs.Aims.{Leaves, turning, straight, Heads, Aimed, aim-start, aim-end}
use Rattle.promise.specs.Nets.{net_of, bend_kind}
use Rattle.promise.specs.Sound.{Bent}
use Rattle.promise.specs.Spots.{turn-bend}

-- ---- the place for which a line with the bend b and the other end q leaves z

-- A bend elsewhere is left for.
leaves-turn : {z b q t : Place} → (b.x ≡ z.x → b.y ≡ z.y → ⊥) → Leaves z b q t → t ≡ b
leaves-turn off (turning h e) = e
leaves-turn off (straight a b e) = absurd (off a b)

-- In general, the other end is left for if the bend is here.
leaves_free : {z b q t : Place} → Leaves z b q t → t ≡ (if same_place b z then q else b)
unfolding same_place
leaves_free {z} {b} (turning h e) =
    rw (is_false (same_place b z) (λ s. let o = both _ _ s in h (eqb-true b.x z.x o.0) (eqb-true b.y z.y o.1))) e
leaves_free {z} {b} (straight i j e) = rw (eq-eqb b.x z.x i, eq-eqb b.y z.y j) e

-- A bend at the other end changes nothing.
leaves_same : {z b t : Place} → Leaves z b b t → t ≡ b
leaves_same (turning h e) = e
leaves_same (straight i j e) = e

-- A bend here is not left for.
leaves-here : {z q t : Place} → Leaves z z q t → t ≡ q
leaves-here (turning h e) = absurd (h refl refl)
leaves-here (straight i j e) = e

-- ---- by the bend

-- A port is not at its owner: side ports are higher, middle ports lower.
abbrev Far : Drawing → ℕ → Bend → Type 0
Far d v (Left j) = 0 < j
Far d v (Right j) = 0 < j
Far d v (Middle i) = (0 < h_of d v) × (h_of d v ≤ y_of d v)
Far d v NoBend = Unit {0}

module _ (d : Drawing) (v u : ℕ) (c : Kind) (apart : u ≢ v) where
  abbrev line : Bend → Line
  line b = record { later = v; earlier = u; bend = b; kind = c }

  -- the net's bend
  abbrev bent : Bend → Place
  bent b = turn (net_of d) (pred u) (pred v) (bend_kind b)

  -- at the earlier end
  start_to : (b : Bend) {t : Place} → Far d v b → Leaves (place_of d u) (bent b) (place_of d v) t → t ≡ towards d u (line b)
  start_to (Left j) f l = rw (eq-eqb u u refl) (leaves-turn (λ a b. omega arith) l)
  start_to (Right j) f l = rw (eq-eqb u u refl) (leaves-turn (λ a b. omega arith) l ∙ turn-bend d v u (Right j))
  start_to (Middle i) f l = rw (ne_eqb v u (λ e. apart (sym e))) (leaves_free l)
  start_to NoBend f l = rw (ne_eqb v u (λ e. apart (sym e))) (leaves-here l)

  -- at the later end
  end_to : (b : Bend) {t : Place} → Far d v b → Leaves (place_of d v) (bent b) (place_of d u) t → t ≡ towards d v (line b)
  end_to (Left j) f l = rw (ne_eqb u v apart, eq-eqb v v refl) (leaves_free l)
  end_to (Right j) f l = rw (ne_eqb u v apart, eq-eqb v v refl) (leaves_free (rw (turn-bend d v u (Right j)) at l))
  end_to (Middle i) f l = rw (eq-eqb v v refl) (leaves-turn (λ a b. omega arith) l)
  end_to NoBend f l = rw (eq-eqb v v refl) (leaves_same l)

-- ---- in a one-bend drawing

module _ (d : Drawing) (s : Bent d) (e : ℕ) (el : e < length d.lines) where
  -- The port of a line is not at its owner.
  far : Far d (line_at d e).later (line_at d e).bend
  far = go (line_at d e).bend refl
    where
      go : (b : Bend) → (line_at d e).bend ≡ b → Far d (line_at d e).later b
      go (Left j) q = (aside_of (bend_kind (line_at d e).bend) (ap bend_kind q) (s.inv.core.lines.fits e el)).1
      go (Right j) q = (aside_of (bend_kind (line_at d e).bend) (ap bend_kind q) (s.inv.core.lines.fits e el)).1
      go (Middle i) q = let r = s.inv.slopes.reach i e el (ap bend_kind q) in (omega arith, omega arith)
      go NoBend q = tt

  -- A line has two different ends.
  pub two_ends : (line_at d e).earlier ≢ (line_at d e).later
  two_ends q = omega (arith, s.inv.core.alike.up e el, ap pred q)

-- An end of a line is a placed point.
pub end-placed : (d : Drawing) → Bent d → (p e : ℕ) → e < length d.lines → ends_at p (line_at d e) ≡ true → (0 < p) × (pred p < d.k)
end-placed d s p e el h = by_end (either _ _ h)
  where
    by_end : (eqb (line_at d e).later p ≡ true) ⊎ (eqb (line_at d e).earlier p ≡ true) → (0 < p) × (pred p < d.k)
    by_end (inl q) = subst (λ z. (0 < z) × (pred z < d.k)) (eqb-true _ _ q) ((s.sound.ended.ends e el).1, (s.inv.core.lines.ends e el).1)
    by_end (inr q) = subst (λ z. (0 < z) × (pred z < d.k)) (eqb-true _ _ q) ((s.sound.ended.ends e el).0, (s.inv.core.lines.ends e el).0)

-- The line e leaves its end p for a place that the net gives too.
pub record Leaving (d : Drawing) (p e : ℕ) : Type 0 where
  pub other : Place
  pub aimed : Aimed (net_of d) (pred p) e (spot (net_of d) e bend) other
  pub there : aimed.to ≡ towards d p (line_at d e)

-- The direction of the net leads from p to the place of the rules.
pub leaving-heads : {d : Drawing} {p e : ℕ} (l : Leaving d p e) → Heads l.aimed.dir (place_of d p) (towards d p (line_at d e))
leaving-heads l = rw l.there at l.aimed.heads

-- Every line leaves both its ends so.
pub leaving : (d : Drawing) → Bent d → (p e : ℕ) → e < length d.lines → ends_at p (line_at d e) ≡ true → Leaving d p e
leaving d s p e el h = by_end (either _ _ h)
  where
    l : Line
    l = line_at d e

    at_start : Leaving d l.earlier e
    at_start =
        let a = aim-start s.inv e el in
        record { other = _; aimed = a; there = start_to d l.later l.earlier l.kind (two_ends d s e el) l.bend (far d s e el) a.leaves }

    at_end : Leaving d l.later e
    at_end =
        let a = aim-end s.inv e el in
        record { other = _; aimed = a; there = end_to d l.later l.earlier l.kind (two_ends d s e el) l.bend (far d s e el) a.leaves }

    by_end : (eqb l.later p ≡ true) ⊎ (eqb l.earlier p ≡ true) → Leaving d p e
    by_end (inl q) = subst (λ z. Leaving d z e) (eqb-true _ _ q) at_end
    by_end (inr q) = subst (λ z. Leaving d z e) (eqb-true _ _ q) at_start
