-- WISH 3, WHICH CUTS ARE LEFT OUT. In a one-bend drawing a line gives five moves each time that it is cut, or four: where its free piece has no length, or where it has no port, as line 1-2. A straight line gives four.
-- Every word is a definition of `rules`.
use Rattle.std.specs.Prelude.{ℕ, pred, ◌+◌, ◌≤◌, ◌≡◌, refl, ◌⊎◌, Bool, true, false, not, ◌&&◌, ◌||◌, length, eqb, if◌then◌else◌}
use Rattle.std.proofs.Common.{ap, ◌∙◌, inl, inr, arith, eq-eqb, ne_eqb, eqb-true}
use Rattle.rules.specs.declared.Style.{Style}
use Rattle.rules.specs.declared.Style.TheVariants.{OneBend, Straight}
use Rattle.rules.specs.declared.Line.{Line}
use Rattle.rules.specs.declared.Place.{Place}
use Rattle.rules.specs.declared.Bend.{Bend}
use Rattle.rules.specs.declared.Bend.TheVariants.{Left, Right, Middle, NoBend}
use Rattle.rules.specs.Bools.{both, is_false}
use Rattle.rules.specs.Points.{Drawing, x_of, y_of, place_of, line_at}
use Rattle.rules.specs.Ports.{bend_place, has_port, free_piece}
use Rattle.rules.specs.Meeting.{same_place}
use Rattle.rules.specs.Demand.{no_length, port_at}
use Rattle.rules.specs.Moves.{Tool, is_tool, line_moves, without_dwelling, moves_once}
use Rattle.rules.specs.MoveCounts.{moves_each}
use Rattle.rules.proofs.Dwelling.{same_turned, has_pitch, bent-count, straight-bent}
use Rattle.net.specs.BendKinds.{ends-apart}
use Rattle.promise.specs.Promise.{IsLine}
use Rattle.promise.specs.Sound.{Sound, bent}
use Rattle.promise.specs.Exact.{Exact}
use Rattle.promise.proofs.Exact.{bent-exact}
use Rattle.promise.specs.Dwelling.{LeftOut, dwells, moves_by}

-- two places with another x, or another y, are two
other_x : (a b : Place) → (a.x ≡ b.x → ⊥) → same_place a b ≡ false
unfolding same_place
other_x a b h = rw (ne_eqb a.x b.x h)

other_y : (a b : Place) → (a.y ≡ b.y → ⊥) → same_place a b ≡ false
unfolding same_place
other_y a b h = is_false _ (λ e. h (eqb-true a.y b.y (both (eqb a.x b.x) (eqb a.y b.y) e).1))

same_here : (a : Place) → same_place a a ≡ true
unfolding same_place
same_here a = rw (eq-eqb a.x a.x refl, eq-eqb a.y a.y refl)

module _ (d : Drawing) (s : Sound d) (e : ℕ) (el : IsLine d e) where
  -- the line, and the same with another bend
  abbrev l : Line
  l = line_at d e

  abbrev with : Bend → Line
  with b = record { later = l.later; earlier = l.earlier; bend = b; kind = l.kind }

  -- The ends of a line are two points at two places, in both drawings.
  pub ends-differ : same_place (place_of d l.earlier) (place_of d l.later) ≡ false
  unfolding same_place
  ends-differ =
      is_false _ (λ q.
      let t = both _ _ q in
      ends-apart s.core.lines e el (eqb-true (x_of d l.earlier) (x_of d l.later) t.0) (eqb-true (y_of d l.earlier) (y_of d l.later) t.1))

  two_ends : eqb l.earlier l.later ≡ false
  two_ends = ne_eqb l.earlier l.later (λ q. omega (arith, s.core.alike.up e el, ap pred q))

  end_two : eqb l.later l.earlier ≡ false
  end_two = ne_eqb l.later l.earlier (λ q. omega (arith, s.core.alike.up e el, ap pred q))

  module _ (bends : d.style ≡ OneBend) where
    -- WHICH CUTS ARE LEFT OUT of a line with a bend, by where that is
    pub left_out : LeftOut d l
    left_out = go l.bend refl
      where
        x : Exact d
        x = bent-exact d (bent s bends)

        go : (b : Bend) → l.bend ≡ b → LeftOut d (with b)
        go (Left j) q =
            let i = x.left e j el q in
            record {
              to_bend = rw (eq-eqb l.earlier l.earlier refl);
              to_end = rw two_ends (other_x (place_of d l.earlier) (bend_place d (with (Left j))) (λ z. omega (arith, i.2)));
            }
        go (Right j) q =
            record {
              to_bend = rw (eq-eqb l.earlier l.earlier refl);
              to_end = rw two_ends (other_x (place_of d l.earlier) (bend_place d (with (Right j))) (λ z. omega arith));
            }
        go (Middle i) q =
            let m = x.middle e i el q in
            record {
              to_bend = rw end_two (other_y (bend_place d (with (Middle i))) (place_of d l.later) (λ z. omega (arith, m.0, m.1, m.3)));
              to_end = rw (eq-eqb l.later l.later refl) (same_turned (place_of d l.earlier) (bend_place d (with (Middle i))));
            }
        go NoBend q = record { to_bend = ends-differ; to_end = same_here (place_of d l.earlier) }

    -- so many moves are left
    each : moves_each (place_of d l.later) (bend_place d l) (place_of d l.earlier) ≡ moves_by OneBend d l
    each = rw (left_out.to_bend, left_out.to_end) (go l.bend)
      where
        first : (n : Bool) → 3 + (if n then 0 else 1) + 1 ≡ (if n then 4 else 5)
        first true = refl
        first false = refl

        second : (n : Bool) → 3 + 1 + (if n then 0 else 1) ≡ (if n then 4 else 5)
        second true = refl
        second false = refl

        -- the two tests of a bend, and what the moves are then
        Each : Line → Type 0
        Each v = 3 + (if port_at v.earlier v && no_length (free_piece d v) then 0 else 1) + (if not (has_port v) || (port_at v.later v && no_length (free_piece d v)) then 0 else 1) ≡ moves_by OneBend d v

        go : (b : Bend) → Each (with b)
        go (Left j) = rw (eq-eqb l.earlier l.earlier refl, two_ends) (first (no_length (free_piece d (with (Left j)))))
        go (Right j) = rw (eq-eqb l.earlier l.earlier refl, two_ends) (first (no_length (free_piece d (with (Right j)))))
        go (Middle i) = rw (end_two, eq-eqb l.later l.later refl) (second (no_length (free_piece d (with (Middle i)))))
        go NoBend = refl

  -- THE MOVES OF A LINE, each time that it is cut, with a tool of the rules and a scale of 1 or more.
  pub moves_of-line : (t : Tool) → is_tool t ≡ true → 1 ≤ d.s → length (moves_once d t l) ≡ moves_by d.style d l
  moves_of-line t is some = go d.style refl
    where
      A : Place
      A = place_of d l.later

      B : Place
      B = bend_place d l

      C : Place
      C = place_of d l.earlier

      by : {τ : Style} → d.style ≡ τ → length (moves_once d t l) ≡ length (without_dwelling 0 0 (line_moves τ d.s t A B C))
      by q = ap (λ (σ : Style). length (without_dwelling 0 0 (line_moves σ d.s t A B C))) q

      go : (τ : Style) → d.style ≡ τ → length (moves_once d t l) ≡ moves_by τ d l
      go OneBend q = by q ∙ bent-count d.s t some (has_pitch t is) A B C ∙ each q
      go Straight q = by q ∙ ap length (straight-bent d.s t A B C) ∙ bent-count d.s t some (has_pitch t is) A C C ∙ rw (ends-differ, same_here C)

  -- Four or five.
  pub four_or_five : (t : Tool) → is_tool t ≡ true → 1 ≤ d.s → (length (moves_once d t l) ≡ 4) ⊎ (length (moves_once d t l) ≡ 5)
  four_or_five t is some = rw (moves_of-line t is some) (go d.style)
    where
      by : (n : Bool) → (◌≡◌ {A = ℕ} (if n then 4 else 5) 4) ⊎ (◌≡◌ {A = ℕ} (if n then 4 else 5) 5)
      by true = inl refl
      by false = inr refl

      go : (τ : Style) → (moves_by τ d l ≡ 4) ⊎ (moves_by τ d l ≡ 5)
      go OneBend = by (dwells d l)
      go Straight = inl refl
