-- Two pieces have a point in common: weights say so, and the test of crossing gives weights.
use Rattle.std.specs.Prelude.{ℕ, ◌+◌, ◌*◌, ◌-◌, ◌<◌, ◌≤◌, min, max, ◌≡◌, refl, ◌⊎◌, ◌≢◌, Bool, true, false, not, ◌&&◌, leb, if◌then◌else◌}
use Rattle.std.proofs.Common.{ap, sym, ◌∙◌, inl, inr, true≢false, arith, add-sub_of_le, ltb-false, leb-true}
use Rattle.std.proofs.Math.Decide.{dec_le, dec_lt, ℕ_discrete}
use Rattle.std.proofs.lemmas.Bool.{not-true}
use Rattle.rules.specs.declared.Place.{Place}
use Rattle.rules.specs.Meeting.{cross_plus, cross_minus, left_of, right_of, one_side, one_line, overlap, meet}
use Rattle.plane.specs.Aligned.{Aligned, aligned_test, test_aligned}
use Rattle.plane.specs.Ident.{dep_one, dep_x, dep_y}
use Rattle.rules.specs.Bools.{both, neither, notboth}

-- The point (A p + B q) / (A + B) of the piece pq is the point (C r + D s) / (C + D) of the piece rs.
pub record Common (p q r s : Place) : Type 0 where
  pub A : ℕ
  pub B : ℕ
  pub C : ℕ
  pub D : ℕ
  pub pos : 0 < A + B
  pub tot : A + B ≡ C + D
  pub eqx : A * p.x + B * q.x ≡ C * r.x + D * s.x
  pub eqy : A * p.y + B * q.y ≡ C * r.y + D * s.y

-- ---- the crossing case

data Sides (m₁ p₁ m₂ p₂ : ℕ) : Type 0 where
  there : m₁ ≤ p₁ → p₂ ≤ m₂ → Sides m₁ p₁ m₂ p₂
  back : p₁ ≤ m₁ → m₂ ≤ p₂ → Sides m₁ p₁ m₂ p₂

sides : (m₁ p₁ m₂ p₂ : ℕ) → (p₁ ≤ m₁) ⊎ (p₂ ≤ m₂) → (m₁ ≤ p₁) ⊎ (m₂ ≤ p₂) → Sides m₁ p₁ m₂ p₂
sides m₁ p₁ m₂ p₂ (inl a) (inl b) = elim (dec_le m₂ p₂) [ yes h ↦ back a h | no h ↦ there b (omega arith) ]
sides m₁ p₁ m₂ p₂ (inl a) (inr b) = back a b
sides m₁ p₁ m₂ p₂ (inr a) (inl b) = there b a
sides m₁ p₁ m₂ p₂ (inr a) (inr b) = elim (dec_le m₁ p₁) [ yes h ↦ there h a | no h ↦ back (omega arith) b ]

pub map_or : {A B C D : Type 0} → (A → C) → (B → D) → A ⊎ B → C ⊎ D
map_or f g (inl a) = inl (f a)
map_or f g (inr b) = inr (g b)

straddle : (p q r s : Place) → one_side p q r s ≡ false → Sides (cross_minus p q r) (cross_plus p q r) (cross_minus p q s) (cross_plus p q s)
unfolding one_side left_of right_of
straddle p q r s e =
    let h = neither (left_of p q r && left_of p q s) (right_of p q r && right_of p q s) e in
    sides (cross_minus p q r) (cross_plus p q r) (cross_minus p q s) (cross_plus p q s)
    (map_or (ltb-false _ _) (ltb-false _ _) (notboth (left_of p q r) (left_of p q s) h.0))
    (map_or (ltb-false _ _) (ltb-false _ _) (notboth (right_of p q r) (right_of p q s) h.1))

-- The dependency, with each difference named.
weigh : (P₁ M₁ P₂ M₂ P₃ M₃ P₄ M₄ a b c d u v w z : ℕ) → M₄ + a ≡ P₄ → P₃ + b ≡ M₃ → M₁ + d ≡ P₁ → P₂ + c ≡ M₂ →
    P₄ * u + M₃ * v + P₂ * w + M₁ * z ≡ M₄ * u + P₃ * v + M₂ * w + P₁ * z → a * u + b * v ≡ c * w + d * z
weigh P₁ M₁ P₂ M₂ P₃ M₃ P₄ M₄ a b c d u v w z e₄ e₃ e₁ e₂ e =
    omega (arith, ap (λ n. n * u) e₄, ap (λ n. n * v) e₃, ap (λ n. n * w) e₂, ap (λ n. n * z) e₁)

-- weights are not all zero, or all four are on one line
crossed : (p q r s : Place) → (Aligned p q r s → ⊥) →
    cross_minus p q r ≤ cross_plus p q r → cross_plus p q s ≤ cross_minus p q s → cross_plus r s p ≤ cross_minus r s p → cross_minus r s q ≤ cross_plus r s q → Common p q r s
crossed p q r s nf h₁ h₂ h₃ h₄ =
    let d₁ = dep_one p q r s in
    record {
      A = cross_plus r s q - cross_minus r s q;
      B = cross_minus r s p - cross_plus r s p;
      C = cross_minus p q s - cross_plus p q s;
      D = cross_plus p q r - cross_minus p q r;
      pos =
          elim (dec_lt 0 (cross_plus r s q - cross_minus r s q + (cross_minus r s p - cross_plus r s p))) [
            | yes h ↦ h
            | no h ↦
                absurd (nf (record { r_on = omega arith; s_on = omega arith; p_on = omega arith; q_on = omega arith }))
          ];
      tot = omega arith;
      eqx =
          weigh (cross_plus p q r) (cross_minus p q r) (cross_plus p q s) (cross_minus p q s) (cross_plus r s p) (cross_minus r s p) (cross_plus r s q) (cross_minus r s q)
          _ _ _ _ p.x q.x r.x s.x
          (add-sub_of_le h₄) (add-sub_of_le h₃) (add-sub_of_le h₁) (add-sub_of_le h₂) (dep_x p q r s);
      eqy =
          weigh (cross_plus p q r) (cross_minus p q r) (cross_plus p q s) (cross_minus p q s) (cross_plus r s p) (cross_minus r s p) (cross_plus r s q) (cross_minus r s q)
          _ _ _ _ p.y q.y r.y s.y
          (add-sub_of_le h₄) (add-sub_of_le h₃) (add-sub_of_le h₁) (add-sub_of_le h₂) (dep_y p q r s);
    }

-- ---- the case of one straight line

-- a point e between r and s in x, on their line: its y by weights
between : (rx ry ex ey sx sy i j : ℕ) → rx + i ≡ ex → ex + j ≡ sx →
    sx * ey + rx * sy + ry * ex ≡ sx * ry + rx * ey + sy * ex → (i + j) * ey ≡ j * ry + i * sy
between rx ry ex ey sx sy i j e₁ e₂ e =
    omega (arith, ap (λ n. n * ey) e₂, ap (λ n. n * ry) e₂, ap (λ n. n * ey) e₁, ap (λ n. n * ry) e₁, ap (λ n. n * sy) e₁)

between_x : (rx ex sx i j : ℕ) → rx + i ≡ ex → ex + j ≡ sx → (i + j) * ex ≡ j * rx + i * sx
between_x rx ex sx i j e₁ e₂ =
    omega (arith, ap (λ n. n * i) e₂, ap (λ n. n * j) e₁)

-- x and y exchanged
abbrev pub tr : Place → Place
tr p = record { x = p.y; y = p.x }

abbrev pub swap₁ : {p q r s : Place} → Common q p r s → Common p q r s
swap₁ c = record { A = c.B; B = c.A; C = c.C; D = c.D; pos = omega arith; tot = omega arith; eqx = omega arith; eqy = omega arith }

abbrev pub swap₂ : {p q r s : Place} → Common p q s r → Common p q r s
swap₂ c = record { A = c.A; B = c.B; C = c.D; D = c.C; pos = omega arith; tot = omega arith; eqx = omega arith; eqy = omega arith }

abbrev pub flip : {p q r s : Place} → Common r s p q → Common p q r s
flip c = record { A = c.C; B = c.D; C = c.A; D = c.B; pos = omega arith; tot = omega arith; eqx = omega arith; eqy = omega arith }

unfoldable pub untr : {p q r s : Place} → Common (tr p) (tr q) (tr r) (tr s) → Common p q r s
untr c = record { A = c.A; B = c.B; C = c.C; D = c.D; pos = c.pos; tot = c.tot; eqx = c.eqy; eqy = c.eqx }

-- p lies on rs
pub p_inside : (p q r s : Place) → cross_plus r s p ≡ cross_minus r s p → r.x ≤ p.x → p.x ≤ s.x → r.x < s.x → Common p q r s
unfolding cross_plus cross_minus
p_inside p q r s e h₁ h₂ h₃ =
    let a = add-sub_of_le h₁ in
    let b = add-sub_of_le h₂ in
    record {
      A = p.x - r.x + (s.x - p.x);
      B = 0;
      C = s.x - p.x;
      D = p.x - r.x;
      pos = omega arith;
      tot = omega arith;
      eqx = omega (arith, between_x r.x p.x s.x _ _ a b);
      eqy = omega (arith, between r.x r.y p.x p.y s.x s.y _ _ a b e);
    }

row : (p q r s : Place) → Aligned p q r s → p.x ≤ q.x → r.x ≤ s.x → p.x ≤ s.x → r.x ≤ q.x → (p.x < q.x) ⊎ (r.x < s.x) → Common p q r s
row p q r s f h₁ h₂ h₃ h₄ (inr h) =
    elim (dec_le r.x p.x) [ yes k ↦ p_inside p q r s f.p_on k h₃ h | no k ↦ flip (p_inside r s p q f.r_on (omega arith) h₄ (omega arith)) ]
row p q r s f h₁ h₂ h₃ h₄ (inl h) =
    elim (dec_le p.x r.x) [ yes k ↦ flip (p_inside r s p q f.r_on k h₄ h) | no k ↦ p_inside p q r s f.p_on (omega arith) h₃ (omega arith) ]

aligned-swap₁ : {p q r s : Place} → Aligned p q r s → Aligned q p r s
unfolding cross_plus cross_minus
aligned-swap₁ f = record { r_on = omega arith; s_on = omega arith; p_on = f.q_on; q_on = f.p_on }

aligned-swap₂ : {p q r s : Place} → Aligned p q r s → Aligned p q s r
unfolding cross_plus cross_minus
aligned-swap₂ f = record { r_on = f.s_on; s_on = f.r_on; p_on = omega arith; q_on = omega arith }

aligned-tr : {p q r s : Place} → Aligned p q r s → Aligned (tr p) (tr q) (tr r) (tr s)
unfolding cross_plus cross_minus
aligned-tr f = record { r_on = omega arith; s_on = omega arith; p_on = omega arith; q_on = omega arith }

Wide : Place → Place → Place → Place → Type 0
Wide p q r s = (p.x ≢ q.x) ⊎ (r.x ≢ s.x)

Over : ℕ → ℕ → ℕ → ℕ → Type 0
Over a b c d = (min a b ≤ max c d) × (min c d ≤ max a b)

any_row : (p q r s : Place) → Aligned p q r s → Over p.x q.x r.x s.x → Wide p q r s → Common p q r s
unfolding Wide Over
any_row p q r s f o w =
    elim (dec_le p.x q.x) [
      | yes h ↦ elim (dec_le r.x s.x) [
        | yes k ↦ row p q r s f h k (omega arith) (omega arith) (map_or (λ n. omega arith) (λ n. omega arith) w)
        | no k ↦
            swap₂
            (row p q s r (aligned-swap₂ f) h (omega arith) (omega arith) (omega arith) (map_or (λ n. omega arith) (λ n. omega arith) w))
      ]
      | no h ↦ swap₁
          (elim (dec_le r.x s.x) [
            | yes k ↦
                row q p r s (aligned-swap₁ f) (omega arith) k (omega arith) (omega arith)
                (map_or (λ n. omega arith) (λ n. omega arith) w)
            | no k ↦
                swap₂
                (row q p s r (aligned-swap₂ (aligned-swap₁ f)) (omega arith) (omega arith) (omega arith) (omega arith)
                (map_or (λ n. omega arith) (λ n. omega arith) w))
          ])
    ]

wide? : (p q r s : Place) → Wide p q r s ⊎ ((p.x ≡ q.x) × (r.x ≡ s.x))
unfolding Wide
wide? p q r s =
    elim (ℕ_discrete p.x q.x) [
      | yes e ↦ elim (ℕ_discrete r.x s.x) [ yes e' ↦ inr (e, e') | no n ↦ inl (inr n) ]
      | no n ↦ inl (inl n)
    ]

aligned_common : (p q r s : Place) → Aligned p q r s → Over p.x q.x r.x s.x → Over p.y q.y r.y s.y → Common p q r s
unfolding Over
aligned_common p q r s f ox oy = go (wide? p q r s) (wide? (tr p) (tr q) (tr r) (tr s))
  where
    go : Wide p q r s ⊎ ((p.x ≡ q.x) × (r.x ≡ s.x)) → Wide (tr p) (tr q) (tr r) (tr s) ⊎ ((p.y ≡ q.y) × (r.y ≡ s.y)) → Common p q r s
    go (inl w) v = any_row p q r s f ox w
    go (inr e) (inl w) = untr (any_row (tr p) (tr q) (tr r) (tr s) (aligned-tr f) oy w)
    go (inr e) (inr e') =
        record { A = 1; B = 0; C = 1; D = 0; pos = omega arith; tot = refl; eqx = omega arith; eqy = omega arith }

over : (a b c d : ℕ) → overlap a b c d ≡ true → Over a b c d
unfolding overlap Over
over a b c d e =
    let h = both (leb (min a b) (max c d)) (leb (min c d) (max a b)) e in
    (leb-true _ _ h.0, leb-true _ _ h.1)

-- THE TEST IS SOUND: where it says that two pieces meet, weights give the point.
pub meet_common : (p q r s : Place) → meet p q r s ≡ true → Common p q r s
unfolding meet
meet_common p q r s = go (one_line p q r s) refl
  where
    go : (b : Bool) → one_line p q r s ≡ b →
        (if b then overlap p.x q.x r.x s.x && overlap p.y q.y r.y s.y else not (one_side p q r s) && not (one_side r s p q)) ≡ true →
        Common p q r s
    go true f e =
        let h = both (overlap p.x q.x r.x s.x) (overlap p.y q.y r.y s.y) e in
        aligned_common p q r s (test_aligned p q r s f) (over _ _ _ _ h.0) (over _ _ _ _ h.1)
    go false f e =
        let h = both (not (one_side p q r s)) (not (one_side r s p q)) e in
        at (straddle p q r s (not-true _ h.0)) (straddle r s p q (not-true _ h.1))
      where
        nf : Aligned p q r s → ⊥
        nf k = true≢false (sym (aligned_test p q r s k) ∙ f)

        at : Sides (cross_minus p q r) (cross_plus p q r) (cross_minus p q s) (cross_plus p q s) → Sides (cross_minus r s p) (cross_plus r s p) (cross_minus r s q) (cross_plus r s q) → Common p q r s
        at (there a b) (there c d) = let o = dep_one p q r s in crossed p q r s nf a b (omega arith) (omega arith)
        at (there a b) (back c d) = crossed p q r s nf a b c d
        at (back a b) (there c d) =
            flip (crossed r s p q (λ k. nf (record { r_on = k.p_on; s_on = k.q_on; p_on = k.r_on; q_on = k.s_on })) c d a b)
        at (back a b) (back c d) = let o = dep_one p q r s in crossed p q r s nf (omega arith) (omega arith) c d
