-- "No point in common but the place e", as a test by cross products and overlap, and from weights.
use Rattle.std.specs.Prelude.{◌+◌, ◌*◌, ◌<◌, ◌≡◌, refl, Bool, true, false, not, ◌&&◌, ◌||◌, if◌then◌else◌}
use Rattle.std.proofs.Common.{ap, arith, eq-eqb}
use Rattle.std.proofs.Math.Nat.{eq_of_mul-eq-mul_left}
use Rattle.rules.specs.declared.Place.{Place}
use Rattle.rules.specs.Meeting.{one_line, meet, same_place, only_if, meet_only_at}
use Rattle.plane.specs.Common.{Common, meet_common, flip, swap₁}
use Rattle.plane.specs.Exact.{common_meet}
use Rattle.plane.specs.Apart.{At, OnlyAt}

at_end : (e p q r s : Place) → OnlyAt e p q r s → Common p p r s → same_place p e ≡ true
unfolding same_place
at_end e p q r s h c =
    let w : Common p q r s = record { A = c.A + c.B; B = 0; C = c.C; D = c.D; pos = omega arith; tot = omega arith; eqx = omega arith; eqy = omega arith } in
    let k = h w in
    let n : 0 < c.A + c.B = c.pos in
    let ex : p.x ≡ e.x = eq_of_mul-eq-mul_left (c.A + c.B) n _ _ (omega (arith, k.atx)) in
    let ey : p.y ≡ e.y = eq_of_mul-eq-mul_left (c.A + c.B) n _ _ (omega (arith, k.aty)) in
    simp (eq-eqb p.x e.x ex, eq-eqb p.y e.y ey)

only_if_lem : (e p q r s : Place) → OnlyAt e p q r s → only_if e p r s ≡ true
unfolding only_if
only_if_lem e p q r s h = go (meet p p r s) refl
  where
    go : (b : Bool) → meet p p r s ≡ b → (not b || same_place p e) ≡ true
    go true m = at_end e p q r s h (meet_common p p r s m)
    go false m = refl

pub only_swap : (e p q r s : Place) → OnlyAt e p q r s → OnlyAt e q p r s
only_swap e p q r s h w = let k = h (swap₁ w) in record { atx = omega (arith, k.atx); aty = omega (arith, k.aty) }

pub only_flip : (e p q r s : Place) → OnlyAt e p q r s → OnlyAt e r s p q
only_flip e p q r s h w =
    let k = h (flip w) in
    record {
      atx = omega (arith, k.atx, ap (λ n. n * e.x) w.tot);
      aty = omega (arith, k.aty, ap (λ n. n * e.y) w.tot);
    }

-- the ends of the second piece exchanged
pub only_second : (e p q r s : Place) → OnlyAt e p q r s → OnlyAt e p q s r
only_second e p q r s h = only_flip e s r p q (only_swap e r s p q (only_flip e p q r s h))

-- e is on pq
e_on : (e p q r s : Place) (w : Common p q r s) → At e w → meet e e p q ≡ true
e_on e p q r s w k =
    common_meet e e p q
    (record { A = w.A + w.B; B = 0; C = w.A; D = w.B; pos = omega arith; tot = omega arith; eqx = omega (arith, k.atx); eqy = omega (arith, k.aty) })

pub only_test : (e p q r s : Place) → OnlyAt e p q r s → meet_only_at e p q r s ≡ true
unfolding meet_only_at
only_test e p q r s h = go (meet p q r s) refl (one_line p q r s)
  where
    go : (b : Bool) → meet p q r s ≡ b → (f : Bool) →
        (not b || (if f then only_if e p r s && only_if e q r s && only_if e r p q && only_if e s p q else meet e e p q && meet e e r s)) ≡ true
    go false m f = refl
    go true m true =
        simp (
          only_if_lem e p q r s h,
          only_if_lem e q p r s (only_swap e p q r s h),
          only_if_lem e r s p q (only_flip e p q r s h),
          only_if_lem e s r p q (only_swap e r s p q (only_flip e p q r s h)),
        )
    go true m false =
        let w = meet_common p q r s m in
        simp (e_on e p q r s w (h w), e_on e r s p q (flip w) (only_flip e p q r s h (flip w)))
