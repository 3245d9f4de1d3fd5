-- A net as a file has it: for each point in turn its neighbours in clockwise order, one after another. off v is where v's neighbours begin.
use Rattle.std.specs.Prelude.{ℕ, zero, suc, ◌+◌, ◌-◌, ◌*◌, ◌<◌, ◌≤◌, ◌≡◌, ◌≢◌, false}
use Rattle.std.proofs.Common.{ap, sym, ◌∙◌, arith, eq-eqb, ne_eqb}
use Rattle.std.proofs.Math.Decide.{ℕ_discrete, dec_lt, dec_le}
use Rattle.planar_rules.specs.PlanarCode.{Flat, after, back}
use Rattle.planar_sphere.specs.Count.{bit, put, put-here, put_else}
use Rattle.planar_sphere.specs.Map.{Map, Net, turn}
use Rattle.planar_sphere.specs.Arc.{turn-zero, turn_suc, turn-add}

-- the lists one after another
pub record Listed (f : Flat) : Type 0 where
  pub own_in : (d : ℕ) → d < f.D → f.own d < f.n
  pub from : (d : ℕ) → d < f.D → f.off (f.own d) ≤ d
  pub upto : (d : ℕ) → d < f.D → d < f.off (f.own d + 1)
  pub within : (v d : ℕ) → v < f.n → f.off v ≤ d → d < f.off (v + 1) → (d < f.D) × (f.own d ≡ v)

-- whatever is the same along every line is the same everywhere
abbrev pub Joined : Flat → Type 0
Joined f = (s : ℕ → ℕ) → ((d : ℕ) → d < f.D → s (f.own d) ≡ s (f.nbr d)) → (x y : ℕ) → x < f.n → y < f.n → s x ≡ s y

-- "A net is taken exactly if", as properties
pub record Valid (f : Flat) : Type 0 where
  pub four : 4 ≤ f.n
  -- no list names its own vertex, or one vertex twice
  pub self : (d : ℕ) → d < f.D → f.nbr d ≢ f.own d
  pub twice : (d e : ℕ) → d < f.D → e < f.D → f.own d ≡ f.own e → f.nbr d ≡ f.nbr e → d ≡ e
  -- every line stands in both lists
  pub both : (d : ℕ) → d < f.D → (e : ℕ) × (e < f.D) × (f.own e ≡ f.nbr d) × (f.nbr e ≡ f.own d)
  -- all is connected, there are 3n - 6 lines, and every face has three sides
  pub joined : Joined f
  pub lines : f.D + 12 ≡ 6 * f.n
  pub faces : (d : ℕ) → d < f.D → after f (back f (after f (back f (after f (back f d))))) ≡ d

-- and where each line stands in the other list
pub record Good (f : Flat) : Type 0 where
  pub valid : Valid f
  pub back_in : (d : ℕ) → d < f.D → back f d < f.D
  pub back_own : (d : ℕ) → d < f.D → f.own (back f d) ≡ f.nbr d
  pub back_nbr : (d : ℕ) → d < f.D → f.nbr (back f d) ≡ f.own d

abbrev pub map : (f : Flat) → (ℕ → ℕ) → Map
map f other = record { n = f.n; D = f.D; org = f.own; α = other; σ = after f }

module _ {f : Flat} (l : Listed f) where
  after_wrap : (d : ℕ) → d + 1 ≡ f.off (f.own d + 1) → after f d ≡ f.off (f.own d)
  unfolding after
  after_wrap d e = rw (eq-eqb _ _ e)

  after_next : (d : ℕ) → d + 1 ≢ f.off (f.own d + 1) → after f d ≡ d + 1
  unfolding after
  after_next d e = rw (ne_eqb _ _ e)

  pub after_both : (d : ℕ) → d < f.D → (after f d < f.D) × (f.own (after f d) ≡ f.own d)
  after_both d dl =
      let a = l.from d dl in
      let b = l.upto d dl in
      elim (ℕ_discrete (d + 1) (f.off (f.own d + 1))) [
        | yes e ↦ rw (after_wrap d e) (l.within (f.own d) (f.off (f.own d)) (l.own_in d dl) (omega arith) (omega arith))
        | no ne ↦ rw (after_next d ne) (l.within (f.own d) (d + 1) (l.own_in d dl) (omega arith) (omega (arith, ne)))
      ]

  module _ (other : ℕ → ℕ) where
    -- k steps on, in the same list
    on : (k d : ℕ) → d < f.D → d + k < f.off (f.own d + 1) → turn (map f other) k d ≡ d + k
    on zero d dl b = turn-zero _ d ∙ (let e : d ≡ d + 0 = omega arith in e)
    on (suc k) d dl b =
        let ih = on k d dl (omega arith) in
        let o = l.within (f.own d) (d + k) (l.own_in d dl) (omega (arith, l.from d dl)) (omega arith) in
        let e : d + k + 1 ≢ f.off (f.own (d + k) + 1) = λ q. omega (arith, ap (λ v. f.off (v + 1)) o.1) in
        turn_suc _ k d ∙ ap (after f) ih ∙ after_next (d + k) e ∙ (let z : d + k + 1 ≡ d + suc k = omega arith in z)

    -- over the end of the list
    wrap : (j d : ℕ) → d < f.D → f.off (f.own d) + j < f.off (f.own d + 1) → turn (map f other) (j + (f.off (f.own d + 1) - d)) d ≡ f.off (f.own d) + j
    wrap j d dl b =
        let k : ℕ = f.off (f.own d + 1) - 1 - d in
        let sk : f.off (f.own d + 1) - d ≡ suc k = omega (arith, l.upto d dl) in
        let w = l.within (f.own d) (d + k) (l.own_in d dl) (omega (arith, l.from d dl)) (omega (arith, l.upto d dl)) in
        let h : turn (map f other) (suc k) d ≡ f.off (f.own d) =
        turn_suc _ k d ∙ ap (after f) (on k d dl (omega (arith, l.upto d dl))) ∙
        after_wrap (d + k) (omega (arith, ap (λ v. f.off (v + 1)) w.1, l.upto d dl)) ∙ ap f.off w.1 in
        let v = l.within (f.own d) (f.off (f.own d)) (l.own_in d dl) (omega arith) (omega arith) in
        turn-add _ j (f.off (f.own d + 1) - d) d ∙ ap (turn (map f other) j) (ap (λ i. turn (map f other) i d) sk ∙ h) ∙
        on j (f.off (f.own d)) v.0 (omega (arith, ap (λ v. f.off (v + 1)) v.1))

    -- once round takes as many steps as the list is long
    pub once : (d : ℕ) → d < f.D → turn (map f other) (f.off (f.own d + 1) - f.off (f.own d)) d ≡ d
    once d dl =
        let a = l.from d dl in
        let b = l.upto d dl in
        let j : ℕ = d - f.off (f.own d) in
        let q : f.off (f.own d + 1) - f.off (f.own d) ≡ j + (f.off (f.own d + 1) - d) = omega arith in
        ap (λ i. turn (map f other) i d) q ∙ wrap j d dl (omega arith) ∙ (let z : f.off (f.own d) + j ≡ d = omega arith in z)

    pub before : (d k : ℕ) → d < f.D → 0 < k → k < f.off (f.own d + 1) - f.off (f.own d) → turn (map f other) k d ≢ d
    before d k dl k0 kl e =
        let a = l.from d dl in
        let b = l.upto d dl in
        elim (dec_lt (d + k) (f.off (f.own d + 1))) [
          | yes c ↦ omega (arith, on k d dl c)
          | no c ↦
              let j : ℕ = d + k - f.off (f.own d + 1) in
              let q : k ≡ j + (f.off (f.own d + 1) - d) = omega (arith, c) in
              omega (arith, c, wrap j d dl (omega (arith, c)), ap (λ i. turn (map f other) i d) q)
        ]

    pub round : (d e : ℕ) → d < f.D → e < f.D → f.own d ≡ f.own e → (q : ℕ) × (turn (map f other) q d ≡ e) × (q < f.D)
    round d e dl el o =
        let ud = l.upto d dl in
        let fe = l.from e el in
        let ue = l.upto e el in
        let x : f.off (f.own d + 1) ≡ f.off (f.own e + 1) = ap (λ v. f.off (v + 1)) o in
        let y : f.off (f.own d) ≡ f.off (f.own e) = ap f.off o in
        elim (dec_le d e) [
          | yes b ↦ (e - d, on (e - d) d dl (omega arith) ∙ (let z : d + (e - d) ≡ e = omega arith in z), omega arith)
          | no b ↦
              -- to the last of the list, to the first, and on
              let k : ℕ = f.off (f.own d + 1) - 1 - d in
              let w = l.within (f.own d) (d + k) (l.own_in d dl) (omega (arith, l.from d dl)) (omega arith) in
              let h : turn (map f other) (suc k) d ≡ f.off (f.own e) =
              turn_suc _ k d ∙ ap (after f) (on k d dl (omega arith)) ∙
              after_wrap (d + k) (omega (arith, ap (λ v. f.off (v + 1)) w.1)) ∙ ap f.off (w.1 ∙ o) in
              let j : ℕ = e - f.off (f.own e) in
              let v = l.within (f.own e) (f.off (f.own e)) (l.own_in e el) (omega arith) (omega arith) in (
                j + suc k,
                turn-add _ j (suc k) d ∙ ap (turn (map f other) j) h ∙
                    on j (f.off (f.own e)) v.0 (omega (arith, ap (λ v. f.off (v + 1)) v.1)) ∙
                    (let z : f.off (f.own e) + j ≡ e = omega arith in z),
                omega (arith, (l.within (f.own d) (f.off (f.own d + 1) - 1) (l.own_in d dl) (omega (arith, l.from d dl)) (omega arith)).0, b),
              )
        ]

  module _ (g : Good f) where
    -- no point stands alone
    pub bound : (x : ℕ) → x < f.n → f.off x < f.off (x + 1)
    bound x xl =
        elim (dec_lt (f.off x) (f.off (x + 1))) [
          | yes b ↦ b
          | no b ↦
              let none : (d : ℕ) → d < f.D → f.own d ≢ x = λ d dl e. omega (arith, b, l.from d dl, l.upto d dl, ap f.off e, ap (λ v. f.off (v + 1)) e) in
              let s : ℕ → ℕ = λ y. bit (put x (λ z. false) y) in
              let off-x : (y : ℕ) → y ≢ x → s y ≡ 0 = λ y ne. ap bit (put_else x (λ z. false) y ne) in
              let all = g.valid.joined s (λ d dl. off-x _ (none d dl) ∙ sym (off-x _ (λ e. none (back f d) (g.back_in d dl) (g.back_own d dl ∙ e)))) in
              elim (ℕ_discrete x 0) [
                | yes e ↦ absurd (omega (arith, all x 1 xl (omega (arith, g.valid.four)), ap bit (put-here x (λ z. false)), off-x 1 (λ q. omega arith)))
                | no ne ↦ absurd (omega (arith, all x 0 xl (omega (arith, g.valid.four)), ap bit (put-here x (λ z. false)), off-x 0 (λ q. ne (sym q))))
              ]
        ]

    pub net : Net (map f (back f))
    net =
        record {
          org_in = l.own_in;
          α_in = g.back_in;
          σ_in = λ d dl. (after_both d dl).0;
          αα = λ d dl.
              let b = g.back_in d dl in
              g.valid.twice _ d (g.back_in _ b) dl (g.back_own _ b ∙ g.back_nbr d dl) (g.back_nbr _ b ∙ g.back_own d dl);
          org_σ = λ d dl. (after_both d dl).1;
          round = λ d e dl el o. let w = round (back f) d e dl el o in (w.0, w.1);
          three = g.valid.faces;
          loop = λ d dl e. g.valid.self d dl (sym (g.back_own d dl) ∙ sym e);
          simple = λ d e dl el p q. g.valid.twice d e dl el p (sym (g.back_own d dl) ∙ q ∙ g.back_own e el);
          joined = λ s h. g.valid.joined s (λ d dl. h d dl ∙ ap s (g.back_own d dl));
          first = f.off;
          first_in = λ x xl. (l.within x (f.off x) xl (omega arith) (bound x xl)).0;
          first_org = λ x xl. (l.within x (f.off x) xl (omega arith) (bound x xl)).1;
          lines = g.valid.lines;
        }
