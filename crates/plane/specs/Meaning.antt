-- What the two tests of meeting mean for the plane.
use Rattle.std.specs.Prelude.{ℕ, ◌+◌, ◌*◌, ◌-◌, ◌<◌, ◌≤◌, ◌≡◌, refl, ◌≢◌, ◌↔◌, Bool, true, false, ◌&&◌, eqb, if◌then◌else◌}
use Rattle.std.proofs.Common.{ap, sym, ◌∙◌, subst, true≢false, arith, mul-pos, add-sub_of_le, eqb-true}
use Rattle.std.proofs.Math.Nat.{eq_of_mul-eq-mul_left}
use Rattle.std.proofs.Math.Decide.{dec_le, dec_lt, ℕ_discrete}
use Rattle.rules.specs.declared.Place.{Place}
use Rattle.rules.specs.Meeting.{cross_plus, cross_minus, one_line, meet, same_place, only_if, meet_only_at}
use Rattle.rules.specs.Bools.{both}
use Rattle.plane.specs.Aligned.{Aligned, all_four, aligned_test, test_aligned}
use Rattle.plane.specs.Common.{Common, p_inside, tr, untr, meet_common, flip, swap₂}
use Rattle.plane.specs.Exact.{common_meet, balance}
use Rattle.plane.specs.Apart.{Fun, At, OnlyAt, fx, no_common, touch}
use Rattle.plane.specs.Only.{only_test, only_swap, only_flip}

-- ---- pieces that are not on one line

-- weights in the same ratio give the same point
same_mean : (A B A' B' p q z : ℕ) → 0 < A' + B' → A * B' ≡ A' * B → A' * p + B' * q ≡ (A' + B') * z → A * p + B * q ≡ (A + B) * z
same_mean A B A' B' p q z pos e h =
    eq_of_mul-eq-mul_left (A' + B') pos _ _ (omega (arith, ap (λ n. A * n) h, ap (λ n. B * n) h, ap (λ n. n * p) e, ap (λ n. n * q) e))

-- a (P - M) = b (P - M) for different a and b
no_gap : (a b P M : ℕ) → a ≢ b → a * P + b * M ≡ a * M + b * P → P ≡ M
no_gap a b P M n e =
    elim (dec_le a b) [
      | yes h ↦ more a (b - a) (omega arith) (rw (add-sub_of_le h) e)
      | no h ↦ let k : b ≤ a = omega arith in more b (a - b) (omega arith) (rw (add-sub_of_le k) (omega arith))
    ]
  where
    more : (a i : ℕ) → 0 < i → a * P + (a + i) * M ≡ a * M + (a + i) * P → P ≡ M
    more a i h e = eq_of_mul-eq-mul_left i h P M (omega arith)

-- two pairs of weights of different ratio that balance P - M and Q - N: both are 0
both_level : (C D C' D' P M Q N : ℕ) → C * D' ≢ C' * D → C * P + D * Q ≡ C * M + D * N → C' * P + D' * Q ≡ C' * M + D' * N → (P ≡ M) × (Q ≡ N)
both_level C D C' D' P M Q N n e f = (
  no_gap (C * D') (C' * D) P M n (omega (arith, ap (λ k. D' * k) e, ap (λ k. D * k) f)),
  no_gap (C * D') (C' * D) Q N n (omega (arith, ap (λ k. C' * k) e, ap (λ k. C * k) f)),
)

-- one common point at z, and not on one line: every common point is at z
crossing : (z p q r s : Place) → (Aligned p q r s → ⊥) → (v : Common p q r s) → At z v → OnlyAt z p q r s
crossing z p q r s n v k w =
    elim (ℕ_discrete (w.A * v.B) (v.A * w.B)) [
      | yes e ↦
          record {
            atx = same_mean w.A w.B v.A v.B p.x q.x z.x v.pos e k.atx;
            aty = same_mean w.A w.B v.A v.B p.y q.y z.y v.pos e k.aty;
          }
      | no a ↦ elim (ℕ_discrete (w.C * v.D) (v.C * w.D)) [
        | yes e ↦
            record {
              atx = omega (arith, same_mean w.C w.D v.C v.D r.x s.x z.x (omega arith) e (omega (arith, k.atx, ap (λ n. n * z.x) v.tot)), ap (λ n. n * z.x) w.tot);
              aty = omega (arith, same_mean w.C w.D v.C v.D r.y s.y z.y (omega arith) e (omega (arith, k.aty, ap (λ n. n * z.y) v.tot)), ap (λ n. n * z.y) w.tot);
            }
        | no b ↦
            let f = both_level w.C w.D v.C v.D _ _ _ _ b (balance p q r s w) (balance p q r s v) in
            let g = both_level w.A w.B v.A v.B _ _ _ _ a (balance r s p q (flip w)) (balance r s p q (flip v)) in
            absurd (n (record { r_on = f.0; s_on = f.1; p_on = g.0; q_on = g.1 }))
      ]
    ]

-- a common point at z
record Joint (z p q r s : Place) : Type 0 where
  point : Common p q r s
  there : At z point

-- z is the mean of p and q
on_it : (A B C D p q z : ℕ) → A + B ≡ C + D → A * z + B * z ≡ C * p + D * q → C * p + D * q ≡ (C + D) * z
on_it A B C D p q z e h = omega (arith, ap (λ n. n * z) e)

-- the product of the weights of z on the two pieces
joint : (z p q r s : Place) → Common z z p q → Common z z r s → Joint z p q r s
joint z p q r s t u =
    let tx = on_it _ _ _ _ p.x q.x z.x t.tot t.eqx in
    let ty = on_it _ _ _ _ p.y q.y z.y t.tot t.eqy in
    let ux = on_it _ _ _ _ r.x s.x z.x u.tot u.eqx in
    let uy = on_it _ _ _ _ r.y s.y z.y u.tot u.eqy in
    let a : 0 < t.C + t.D = omega arith in
    let b : 0 < u.C + u.D = omega arith in
    record {
      point =
          record {
            A = t.C * (u.C + u.D);
            B = t.D * (u.C + u.D);
            C = u.C * (t.C + t.D);
            D = u.D * (t.C + t.D);
            pos = omega (arith, mul-pos a b);
            tot = omega arith;
            eqx = omega (arith, ap (λ n. (u.C + u.D) * n) tx, ap (λ n. (t.C + t.D) * n) ux);
            eqy = omega (arith, ap (λ n. (u.C + u.D) * n) ty, ap (λ n. (t.C + t.D) * n) uy);
          };
      there =
          record {
            atx = omega (arith, ap (λ n. (u.C + u.D) * n) tx);
            aty = omega (arith, ap (λ n. (u.C + u.D) * n) ty);
          };
    }

-- ---- pieces on one line

-- each end of a piece is in line with the other piece, and at z if it lies on it
record Lined (z p q r s : Place) : Type 0 where
  aligned : Aligned p q r s
  p_at : Common p p r s → p ≡ z
  q_at : Common q q r s → q ≡ z
  r_at : Common r r p q → r ≡ z
  s_at : Common s s p q → s ≡ z

-- the test of one end, and of all four
test_end : (z p r s : Place) → only_if z p r s ≡ true → Common p p r s → p ≡ z
unfolding only_if same_place
test_end z p r s e c =
    let f : same_place p z ≡ true = rw (common_meet p p r s c) at e in
    let h = both (eqb p.x z.x) (eqb p.y z.y) f in
    let ex : p.x ≡ z.x = eqb-true _ _ h.0 in
    let ey : p.y ≡ z.y = eqb-true _ _ h.1 in
    λ i. record { x = ex i; y = ey i }

test_lined : (z p q r s : Place) → one_line p q r s ≡ true → (only_if z p r s && only_if z q r s && only_if z r p q && only_if z s p q) ≡ true → Lined z p q r s
test_lined z p q r s f e =
    let h = all_four (only_if z p r s) (only_if z q r s) (only_if z r p q) (only_if z s p q) e in
    record { aligned = test_aligned p q r s f; p_at = test_end z p r s h.0; q_at = test_end z q r s h.1; r_at = test_end z r p q h.2; s_at = test_end z s p q h.3 }

-- both ends of a piece are at z
point_only : (z p q r s : Place) → p ≡ z → q ≡ z → OnlyAt z p q r s
point_only z p q r s a b w =
    record {
      atx = omega (arith, ap (λ t. w.A * t.x) a, ap (λ t. w.B * t.x) b);
      aty = omega (arith, ap (λ t. w.A * t.y) a, ap (λ t. w.B * t.y) b);
    }

-- x, the other way round
abbrev back : Fun
back = record { au = 0; bu = 0; av = 1; bv = 0 }

-- not both pieces are upright
abbrev Wide : Place → Place → Place → Place → Type 0
Wide p q r s = p.x ≡ q.x → r.x ≡ s.x → ⊥

module _ (z p q r s : Place) (l : Lined z p q r s) (pq : p.x ≤ q.x) (rs : r.x ≤ s.x) (rp : r.x ≤ p.x) where
  -- p lies on rs, and q does too, or s lies on pq
  wide_row : p.x ≤ s.x → r.x < s.x → OnlyAt z p q r s
  wide_row ps h =
      let a = l.p_at (p_inside p p r s l.aligned.p_on rp ps h) in
      elim (dec_le q.x s.x) [
        | yes k ↦ point_only z p q r s a (l.q_at (p_inside q q r s l.aligned.q_on (omega arith) k h))
        | no k ↦
            let b = l.s_at (p_inside s s p q l.aligned.s_on ps (omega arith) (omega arith)) in
            let c : s.x ≡ p.x = ap (λ t. t.x) (b ∙ sym a) in
            subst (λ t. OnlyAt t p q r s) a (only_swap p q p r s (touch back q p r s (omega arith) (omega arith) (omega arith)))
      ]

  -- r and s lie on pq
  upright-row : p.x ≤ s.x → s.x ≤ r.x → p.x < q.x → OnlyAt z p q r s
  upright-row ps sr h =
      only_flip z r s p q
      (point_only z r s p q (l.r_at (p_inside r r p q l.aligned.r_on (omega arith) (omega arith) h))
      (l.s_at (p_inside s s p q l.aligned.s_on ps (omega arith) h)))

  -- the pieces overlap by x, so one of the two cases holds
  row : Wide p q r s → OnlyAt z p q r s
  row d w = go (dec_le p.x s.x) (dec_lt r.x s.x) (dec_lt p.x q.x)
    where
      go : Dec (p.x ≤ s.x) → Dec (r.x < s.x) → Dec (p.x < q.x) → At z w
      go (no h) k j = absurd (no_common fx r s p q (omega arith) (omega arith) (omega arith) (omega arith) (flip w))
      go (yes h) (yes k) j = wide_row h k w
      go (yes h) (no k) (yes j) = upright-row h (omega arith) j w
      go (yes h) (no k) (no j) = absurd (d (omega arith) (omega arith))

-- the pieces exchanged; the ends of the first exchanged
lined-flip : {z p q r s : Place} → Lined z p q r s → Lined z r s p q
lined-flip l =
    let f = l.aligned in
    record { aligned = record { r_on = f.p_on; s_on = f.q_on; p_on = f.r_on; q_on = f.s_on }; p_at = l.r_at; q_at = l.s_at; r_at = l.p_at; s_at = l.q_at }

lined-swap : {z p q r s : Place} → Lined z p q r s → Lined z q p r s
unfolding cross_plus cross_minus
lined-swap l =
    let f = l.aligned in
    record { aligned = record { r_on = omega arith; s_on = omega arith; p_on = f.q_on; q_on = f.p_on }; p_at = l.q_at; q_at = l.p_at; r_at = λ c. l.r_at (swap₂ c); s_at = λ c. l.s_at (swap₂ c) }

-- whichever end of each piece, and whichever piece, has the smaller x
ordered : (z p q r s : Place) → p.x ≤ q.x → r.x ≤ s.x → Lined z p q r s → Wide p q r s → OnlyAt z p q r s
ordered z p q r s h k l d =
    elim (dec_le r.x p.x) [
      | yes a ↦ row z p q r s l h k a d
      | no a ↦ only_flip z r s p q (row z r s p q (lined-flip l) k h (omega arith) (λ a b. d b a))
    ]

rising : (z p q r s : Place) → p.x ≤ q.x → Lined z p q r s → Wide p q r s → OnlyAt z p q r s
rising z p q r s h l d =
    elim (dec_le r.x s.x) [
      | yes k ↦ ordered z p q r s h k l d
      | no k ↦ only_flip z r s p q (only_swap z s r p q (ordered z s r p q (omega arith) h (lined-swap (lined-flip l)) (λ a b. d b (sym a))))
    ]

wide_only : (z p q r s : Place) → Lined z p q r s → Wide p q r s → OnlyAt z p q r s
wide_only z p q r s l d =
    elim (dec_le p.x q.x) [
      | yes h ↦ rising z p q r s h l d
      | no h ↦ only_swap z q p r s (rising z q p r s (omega arith) (lined-swap l) (λ a b. d (sym a) b))
    ]

lined-tr : {z p q r s : Place} → Lined z p q r s → Lined (tr z) (tr p) (tr q) (tr r) (tr s)
unfolding cross_plus cross_minus
lined-tr {p = p} {q = q} {r = r} {s = s} l =
    let f = l.aligned in
    record {
      aligned = record { r_on = omega arith; s_on = omega arith; p_on = omega arith; q_on = omega arith };
      p_at = λ c. ap tr (l.p_at (untr c));
      q_at = λ c. ap tr (l.q_at (untr c));
      r_at = λ c. ap tr (l.r_at (untr c));
      s_at = λ c. ap tr (l.s_at (untr c));
    }

-- the first piece has no length
still_only : (z p q r s : Place) → Lined z p q r s → p ≡ q → OnlyAt z p q r s
still_only z p q r s l a w = let t = l.p_at (subst (λ v. Common p v r s) (sym a) w) in point_only z p q r s t (sym a ∙ t) w

only_tr : (z p q r s : Place) → OnlyAt (tr z) (tr p) (tr q) (tr r) (tr s) → OnlyAt z p q r s
unfolding untr
only_tr z p q r s h w = let k = h (untr w) in record { atx = k.aty; aty = k.atx }

-- by x, by y, or the first piece has no length
lined_only : (z p q r s : Place) → Lined z p q r s → OnlyAt z p q r s
lined_only z p q r s l =
    elim (ℕ_discrete p.x q.x) [
      | yes a ↦ elim (ℕ_discrete p.y q.y) [
        | yes b ↦ still_only z p q r s l (λ i. record { x = a i; y = b i })
        | no n ↦ only_tr z p q r s (wide_only (tr z) (tr p) (tr q) (tr r) (tr s) (lined-tr l) (λ a b. n a))
      ]
      | no n ↦ wide_only z p q r s l (λ a b. n a)
    ]

-- ---- the theorem

-- by the cases of the test: no common point, one line, a crossing
test_only : (z p q r s : Place) → meet_only_at z p q r s ≡ true → OnlyAt z p q r s
unfolding meet_only_at
test_only z p q r s e w = go (one_line p q r s) refl (rw (common_meet p q r s w) at e) w
  where
    go : (b : Bool) → one_line p q r s ≡ b →
        (if b then only_if z p r s && only_if z q r s && only_if z r p q && only_if z s p q else meet z z p q && meet z z r s) ≡ true → OnlyAt z p q r s
    go true f e = lined_only z p q r s (test_lined z p q r s f e)
    go false f e =
        let h = both (meet z z p q) (meet z z r s) e in
        let j = joint z p q r s (meet_common z z p q h.0) (meet_common z z r s h.1) in
        crossing z p q r s (λ k. true≢false (sym (aligned_test p q r s k) ∙ f)) j.point j.there

-- WHAT THE TESTS MEAN, for the piece from p to q and the piece from r to s, in both directions.
-- A common point is given by whole weights: it is (A p + B q) / (A + B) on the one piece and (C r + D s) / (C + D) on the other (`Common`).
-- So points are those with rational coordinates.
pub record Meaning (p q r s : Place) : Type 0 where
  -- `meet` says true exactly if the pieces have a point in common
  pub meets : (meet p q r s ≡ true) ↔ Common p q r s
  -- `meet_only_at z` says true exactly if every point that they have in common is z
  pub only : (z : Place) → (meet_only_at z p q r s ≡ true) ↔ OnlyAt z p q r s

pub meaning : (p q r s : Place) → Meaning p q r s
meaning p q r s =
    record {
      meets = (meet_common p q r s, common_meet p q r s);
      only = λ z. (test_only z p q r s, only_test z p q r s);
    }
