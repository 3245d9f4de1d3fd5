-- Lines that join n points are at least n - 1. Joined: every colouring that is constant along the lines is constant.
use Rattle.std.specs.Prelude.{ℕ, zero, suc, ◌+◌, ◌<◌, ◌≤◌, ◌≡◌, refl, ◌≢◌, Bool, true, eqb}
use Rattle.std.proofs.Math.Path.{ap}
use Rattle.std.proofs.Common.{sym, ◌∙◌, arith, eq-eqb, ne_eqb, eqb-true}
use Rattle.std.proofs.Math.Logic.{inl, inr}
use Rattle.std.proofs.Math.Decide.{ℕ_discrete}
use Rattle.planar_rules.specs.PlanarCode.{merge}
use Rattle.planar_sphere.specs.Count.{bit, count, count_all, count-drop, count_one, bool, clash}

pub merge_in : (r : ℕ → ℕ) (a b x : ℕ) → r x ≡ r a → merge r a b x ≡ r b
unfolding merge
merge_in r a b x e = rw (eq-eqb (r x) (r a) e)

pub merge_out : (r : ℕ → ℕ) (a b x : ℕ) → r x ≢ r a → merge r a b x ≡ r x
unfolding merge
merge_out r a b x d = rw (ne_eqb (r x) (r a) d)

pub merge-join : (r : ℕ → ℕ) (a b : ℕ) → merge r a b a ≡ merge r a b b
merge-join r a b =
    merge_in r a b a refl ∙ elim (ℕ_discrete (r b) (r a)) [ yes e ↦ sym (merge_in r a b b e) | no d ↦ sym (merge_out r a b b d) ]

pub merge_same : (r : ℕ → ℕ) (a b x y : ℕ) → r x ≡ r y → merge r a b x ≡ merge r a b y
unfolding merge
merge_same r a b x y e = rw e

abbrev root : (ℕ → ℕ) → ℕ → Bool
root r x = eqb (r x) x

merge-root : (r : ℕ → ℕ) (a b x : ℕ) → x ≢ r a → root r x ≡ true → root (merge r a b) x ≡ true
merge-root r a b x d h =
    let e = eqb-true (r x) x h in
    eq-eqb _ _ (merge_out r a b x (λ e'. d (sym e ∙ e')) ∙ e)

module _ (n : ℕ) (u v : ℕ → ℕ) (keep : ℕ → Bool) where
  record Classes (k : ℕ) : Type 0 where
    r : ℕ → ℕ
    along : (d : ℕ) → d < k → keep d ≡ true → r (u d) ≡ r (v d)
    many : n ≤ count (root r) n + count keep k

  classes : (k : ℕ) → Classes k
  unfolding count
  classes zero =
      record {
        r = λ x. x;
        along = λ d l. absurd (omega arith);
        many = omega (arith, count_all (root (λ x. x)) n (λ x l. eq-eqb x x refl));
      }
  classes (suc k) =
      let c = classes k in
      elim (bool (keep k)) [
        | inl t ↦
            record {
              r = merge c.r (u k) (v k);
              along = λ d l h. elim (ℕ_discrete d k) [
                | yes e ↦ rw e (merge-join c.r (u k) (v k))
                | no e ↦ merge_same c.r (u k) (v k) (u d) (v d) (c.along d (omega (arith, e)) h)
              ];
              many = omega (arith, c.many, ap bit t, count-drop (root c.r) (root (merge c.r (u k) (v k))) (c.r (u k)) n (λ x l. merge-root c.r (u k) (v k) x));
            }
        | inr f ↦
            record {
              r = c.r;
              along = λ d l h. elim (ℕ_discrete d k) [
                | yes e ↦ clash (ap keep (sym e) ∙ h) f
                | no e ↦ c.along d (omega (arith, e)) h
              ];
              many = omega (arith, c.many, ap bit f);
            }
      ]

  pub tree :
      (k : ℕ) → ((r : ℕ → ℕ) → ((d : ℕ) → d < k → keep d ≡ true → r (u d) ≡ r (v d)) → (x y : ℕ) → x < n → y < n → r x ≡ r y) →
      n ≤ count keep k + 1
  tree k joined =
      let c = classes k in
      elim (ℕ_discrete n 0) [
        | yes e ↦ omega arith
        | no e ↦
            let all = joined c.r c.along in
            omega (arith, c.many, count_one (root c.r) n (c.r 0) (λ x l h. sym (eqb-true (c.r x) x h) ∙ all x 0 l (omega (arith, e))))
      ]
