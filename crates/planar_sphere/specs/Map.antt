-- A net by its darts (a dart is a line seen from one of its ends): org d is the point it leaves, α d the same line from the other end,
-- σ d the dart that follows clockwise at the same point. Points are 0..n-1, darts 0..D-1.
use Rattle.std.specs.Prelude.{ℕ, zero, suc, ◌+◌, ◌*◌, ◌<◌, ◌≡◌, ◌≢◌, ◌⊎◌, Bool, eqb, if◌then◌else◌}
use Rattle.std.proofs.Math.Path.{refl}
use Rattle.std.proofs.Common.{ap, sym, ◌∙◌, arith, ltb-true, ltb-false, eq-eqb}
use Rattle.std.proofs.Math.Logic.{inl, inr}
use Rattle.std.proofs.Math.Bool.{true, false}
use Rattle.std.proofs.Math.Decide.{ℕ_discrete}
use Rattle.std.proofs.Math.Dec.{ltb}
use Rattle.planar_sphere.specs.Count.{bool}

pub record Map : Type 0 where
  pub n : ℕ
  pub D : ℕ
  pub org : ℕ → ℕ
  pub α : ℕ → ℕ
  pub σ : ℕ → ℕ

-- the next side of the face
abbrev pub φ : Map → ℕ → ℕ
φ g d = g.σ (g.α d)

abbrev pub end : Map → ℕ → ℕ
end g d = g.org (g.α d)

unfoldable pub turn : Map → ℕ → ℕ → ℕ
turn g zero d = d
turn g (suc q) d = turn g q (g.σ d)

pub record Net (g : Map) : Type 0 where
  pub org_in : (d : ℕ) → d < g.D → g.org d < g.n
  pub α_in : (d : ℕ) → d < g.D → g.α d < g.D
  pub σ_in : (d : ℕ) → d < g.D → g.σ d < g.D
  pub αα : (d : ℕ) → d < g.D → g.α (g.α d) ≡ d
  pub org_σ : (d : ℕ) → d < g.D → g.org (g.σ d) ≡ g.org d
  -- the darts at a point are one round
  pub round : (d e : ℕ) → d < g.D → e < g.D → g.org d ≡ g.org e → (q : ℕ) × (turn g q d ≡ e)
  -- every face has three sides
  pub three : (d : ℕ) → d < g.D → φ g (φ g (φ g d)) ≡ d
  -- no line from a point to itself, no two lines with the same ends
  pub loop : (d : ℕ) → d < g.D → g.org d ≢ end g d
  pub simple : (d e : ℕ) → d < g.D → e < g.D → g.org d ≡ g.org e → end g d ≡ end g e → d ≡ e
  -- connected, no point alone, 3n - 6 lines
  pub joined : (s : ℕ → ℕ) → ((d : ℕ) → d < g.D → s (g.org d) ≡ s (end g d)) → (x y : ℕ) → x < g.n → y < g.n → s x ≡ s y
  pub first : ℕ → ℕ
  pub first_in : (x : ℕ) → x < g.n → first x < g.D
  pub first_org : (x : ℕ) → x < g.n → g.org (first x) ≡ x
  pub lines : g.D + 12 ≡ 6 * g.n

-- one of the two darts of a line
unfoldable pub rep : Map → ℕ → ℕ
rep g d = if ltb d (g.α d) then d else g.α d

unfoldable pub is_rep : Map → ℕ → Bool
is_rep g d = eqb (rep g d) d

module _ {g : Map} (h : Net g) where
  pub φ_in : (d : ℕ) → d < g.D → φ g d < g.D
  φ_in d l = h.σ_in _ (h.α_in d l)

  pub org_φ : (d : ℕ) → d < g.D → g.org (φ g d) ≡ end g d
  org_φ d l = h.org_σ _ (h.α_in d l)

  pub rep-either : (d : ℕ) → (rep g d ≡ d) ⊎ (rep g d ≡ g.α d)
  unfolding rep
  rep-either d = elim (bool (ltb d (g.α d))) [ inl t ↦ inl (rw t) | inr f ↦ inr (rw f) ]

  pub rep_in : (d : ℕ) → d < g.D → rep g d < g.D
  rep_in d l = elim (rep-either d) [ inl e ↦ rw e l | inr e ↦ rw e (h.α_in d l) ]

  pub rep_α : (d : ℕ) → d < g.D → rep g (g.α d) ≡ rep g d
  unfolding rep
  rep_α d l = rw (h.αα d l) (go (ltb d (g.α d)) refl (ltb (g.α d) d) refl)
    where
      go : (a : Bool) → ltb d (g.α d) ≡ a → (b : Bool) → ltb (g.α d) d ≡ b → (if b then g.α d else d) ≡ (if a then d else g.α d)
      go true e true e' = absurd (omega (arith, ltb-true d (g.α d) e, ltb-true (g.α d) d e'))
      go true e false e' = refl
      go false e true e' = refl
      go false e false e' = let z : d ≡ g.α d = omega (arith, ltb-false d (g.α d) e, ltb-false (g.α d) d e') in z

  pub rep-rep : (d : ℕ) → d < g.D → rep g (rep g d) ≡ rep g d
  rep-rep d l = elim (rep-either d) [ inl e ↦ ap (rep g) e | inr e ↦ ap (rep g) e ∙ rep_α d l ]

  pub rep_is : (d : ℕ) → d < g.D → is_rep g (rep g d) ≡ true
  unfolding is_rep
  rep_is d l = eq-eqb _ _ (rep-rep d l)

  pub rep_inj : (d e : ℕ) → d < g.D → e < g.D → rep g d ≡ rep g e → (d ≡ e) ⊎ (d ≡ g.α e)
  rep_inj d e dl el p =
      elim (rep-either d) [
        | inl a ↦ elim (rep-either e) [ inl b ↦ inl (sym a ∙ p ∙ b) | inr b ↦ inr (sym a ∙ p ∙ b) ]
        | inr a ↦ elim (rep-either e) [
          | inl b ↦ inr (sym (h.αα d dl) ∙ ap g.α (sym a ∙ p ∙ b))
          | inr b ↦ inl (sym (h.αα d dl) ∙ ap g.α (sym a ∙ p ∙ b) ∙ h.αα e el)
        ]
      ]

  -- a colouring of points that agrees along one dart of a line agrees along the other
  pub along-rep : (s : ℕ → ℕ) (d : ℕ) → d < g.D → s (g.org (rep g d)) ≡ s (end g (rep g d)) → s (g.org d) ≡ s (end g d)
  along-rep s d l p =
      elim (rep-either d) [
        | inl e ↦ rw e at p
        | inr e ↦ ap (λ x. s (g.org x)) (sym (h.αα d l)) ∙ sym (rw e at p)
      ]

  -- ---- going round a point

  pub walk : (P : ℕ → Type 0) (z : ℕ) → ((d : ℕ) → P d → d ≢ z → P (g.σ d)) → (q d : ℕ) → P d → turn g q d ≡ z → P z
  unfolding turn
  walk P z f zero d p e = rw e at p
  walk P z f (suc q) d p e = elim (ℕ_discrete d z) [ yes e ↦ rw e at p | no ne ↦ walk P z f q (g.σ d) (f d p ne) e ]

  module _ (r : ℕ → ℕ) (face : (d : ℕ) → d < g.D → r (φ g d) ≡ r d) where
    pub around : (d : ℕ) → d < g.D → r (g.σ d) ≡ r (g.α d)
    around d l = ap (λ x. r (g.σ x)) (sym (h.αα d l)) ∙ face (g.α d) (h.α_in d l)

    -- where nothing at d's point parts the colours, the faces there have one colour
    pub fan :
        (d e : ℕ) → d < g.D → e < g.D → g.org d ≡ g.org e → ((x : ℕ) → x < g.D → g.org x ≡ g.org d → x ≢ e → r (g.α x) ≡ r x) → r d ≡ r e
    fan d e dl el p f =
        let t = h.round d e dl el p in
        (walk (λ x. (x < g.D) × (g.org x ≡ g.org d) × (r d ≡ r x)) e
        (λ x w ne. (h.σ_in x w.0, h.org_σ x w.0 ∙ w.1, w.2 ∙ sym (f x w.0 w.1 ne) ∙ sym (around x w.0)))
        t.0 d (dl, refl, refl) t.1).2

    -- one line alone at a point parts no colours
    pub heal : (e : ℕ) → e < g.D → ((x : ℕ) → x < g.D → g.org x ≡ g.org e → x ≢ e → r (g.α x) ≡ r x) → r (g.α e) ≡ r e
    heal e el f =
        sym (around e el) ∙ fan (g.σ e) e (h.σ_in e el) el (h.org_σ e el) (λ x xl p. f x xl (p ∙ h.org_σ e el))

    -- where no line parts colours, there is one colour
    pub whole : ((x : ℕ) → x < g.D → r (g.α x) ≡ r x) → (d e : ℕ) → d < g.D → e < g.D → r d ≡ r e
    whole f d e dl el =
        let s : ℕ → ℕ = λ x. r (h.first x) in
        let at : (x : ℕ) → x < g.D → s (g.org x) ≡ r x =
        λ x xl. fan (h.first (g.org x)) x (h.first_in _ (h.org_in x xl)) xl (h.first_org _ (h.org_in x xl)) (λ y yl _ _. f y yl) in
        sym (at d dl) ∙ h.joined s (λ x xl. at x xl ∙ sym (f x xl) ∙ sym (at _ (h.α_in x xl))) _ _ (h.org_in d dl) (h.org_in e el) ∙ at e el
