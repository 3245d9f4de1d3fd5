-- Half of the darts stand for their lines.
use Rattle.std.specs.Prelude.{ℕ, ◌*◌, ◌<◌, ◌≡◌, true, not}
use Rattle.std.proofs.Common.{ap, ◌∙◌, arith, eq-eqb, ne_eqb, eqb-true}
use Rattle.std.proofs.Math.Path.{sym}
use Rattle.std.proofs.Math.Logic.{inl, inr}
use Rattle.std.proofs.lemmas.Bool.{eqb-false, not-true}
use Rattle.planar_sphere.specs.Count.{count, count_not, inject}
use Rattle.planar_sphere.specs.Map.{Map, Net, rep, is_rep, rep_α, rep-either}

module _ {g : Map} (h : Net g) where
  α_one : (x y : ℕ) → x < g.D → y < g.D → g.α x ≡ g.α y → x ≡ y
  α_one x y xl yl e = sym (h.αα x xl) ∙ ap g.α e ∙ h.αα y yl

  there : (x : ℕ) → x < g.D → is_rep g x ≡ true → not (is_rep g (g.α x)) ≡ true
  unfolding is_rep
  there x xl t =
      rw (ne_eqb (rep g (g.α x)) (g.α x) (λ e. h.loop x xl (ap g.org (sym (eqb-true (rep g x) x t) ∙ sym (rep_α h x xl) ∙ e))))

  back : (x : ℕ) → x < g.D → not (is_rep g x) ≡ true → is_rep g (g.α x) ≡ true
  unfolding is_rep
  back x xl t =
      elim (rep-either h x) [
        | inl e ↦ absurd (eqb-false (rep g x) x (not-true _ t) e)
        | inr e ↦ eq-eqb _ _ (rep_α h x xl ∙ e)
      ]

  pub halves : 2 * count (is_rep g) g.D ≡ g.D
  halves =
      omega (
        arith,
        count_not (is_rep g) g.D,
        inject (is_rep g) (λ x. not (is_rep g x)) g.α g.D g.D (λ x l _. h.α_in x l) there (λ x y xl yl _ _. α_one x y xl yl),
        inject (λ x. not (is_rep g x)) (is_rep g) g.α g.D g.D (λ x l _. h.α_in x l) back (λ x y xl yl _ _. α_one x y xl yl),
      )
