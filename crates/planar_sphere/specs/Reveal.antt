-- Where the faces hang together by lines other than the barred ones, no barred line can be spared.
use Rattle.std.specs.Prelude.{ℕ, zero, suc, ◌+◌, ◌*◌, ◌<◌, ◌≤◌, ◌≡◌, refl, ◌≢◌, Bool, true, false, not, if◌then◌else◌}
use Rattle.std.proofs.Common.{ap, sym, ◌∙◌, inl, inr, arith}
use Rattle.std.proofs.Math.Decide.{ℕ_discrete}
use Rattle.planar_sphere.specs.Count.{same_bit, bit, count, put, del, put-here, put_else, put_old, put-case, del_else, del-case, count-put, count-del, count-max, count_none, count_all, bool, clash, find}
use Rattle.planar_sphere.specs.Tree.{tree}
use Rattle.planar_sphere.specs.Map.{Map, Net, φ, end, rep, is_rep, φ_in, org_φ, rep_in, rep_α, rep_is, rep_inj, along-rep}

-- a colouring of faces, by their darts, that only a barred line parts
pub record Faces (g : Map) (bar : ℕ → Bool) (r : ℕ → ℕ) : Type 0 where
  pub face : (d : ℕ) → d < g.D → r (φ g d) ≡ r d
  pub cross : (d : ℕ) → d < g.D → bar d ≡ false → r (g.α d) ≡ r d

abbrev pub OneFace : Map → (ℕ → Bool) → Type 0
OneFace g bar = (r : ℕ → ℕ) → Faces g bar r → (d e : ℕ) → d < g.D → e < g.D → r d ≡ r e

module _ {g : Map} (h : Net g) (bar : ℕ → Bool) (even : (d : ℕ) → d < g.D → bar (g.α d) ≡ bar d) where
  -- faces are revealed one by one, each through a line that then goes
  record Shown (seen keep : ℕ → Bool) : Type 0 where
    closed : (d : ℕ) → d < g.D → seen d ≡ true → seen (φ g d) ≡ true
    spent : (d : ℕ) → d < g.D → keep (rep g d) ≡ false → seen d ≡ true
    bars : (d : ℕ) → d < g.D → bar d ≡ true → keep (rep g d) ≡ true
    conn :
        (s : ℕ → ℕ) → ((d : ℕ) → d < g.D → seen d ≡ true → keep (rep g d) ≡ true → s (g.org d) ≡ s (end g d)) →
        (d e : ℕ) → d < g.D → e < g.D → seen d ≡ true → seen e ≡ true → s (g.org d) ≡ s (g.org e)
    cnt : 3 * count keep g.D + count seen g.D ≤ 3 * count (is_rep g) g.D + 3

  -- the three sides of a face
  abbrev sides : ℕ → (ℕ → Bool) → ℕ → Bool
  sides a p = put (φ g (φ g a)) (put (φ g a) (put a p))

  module _ (a : ℕ) (al : a < g.D) where
    bl : φ g a < g.D
    bl = φ_in h a al

    cl : φ g (φ g a) < g.D
    cl = φ_in h _ bl

    a≢b : φ g a ≢ a
    a≢b e = h.loop a al (ap g.org (sym e) ∙ org_φ h a al)

    b≢c : φ g (φ g a) ≢ φ g a
    b≢c e = h.loop _ bl (ap g.org (sym e) ∙ org_φ h _ bl)

    a≢c : φ g (φ g a) ≢ a
    a≢c e = a≢b (ap (φ g) (sym e) ∙ h.three a al)

    sides-count : (p : ℕ → Bool) → p a ≡ false → p (φ g a) ≡ false → p (φ g (φ g a)) ≡ false → count (sides a p) g.D ≡ count p g.D + 3
    sides-count p x y z =
        omega (
          arith,
          count-put a p g.D al x,
          count-put (φ g a) (put a p) g.D bl (put_else _ p _ a≢b ∙ y),
          count-put (φ g (φ g a)) (put (φ g a) (put a p)) g.D cl (put_else _ _ _ b≢c ∙ put_else _ p _ a≢c ∙ z),
        )

    sides_1 : (p : ℕ → Bool) → sides a p a ≡ true
    sides_1 p = put_old _ _ _ (put_old _ _ _ (put-here a p))

    sides_2 : (p : ℕ → Bool) → sides a p (φ g a) ≡ true
    sides_2 p = put_old _ _ _ (put-here _ _)

    sides_3 : (p : ℕ → Bool) → sides a p (φ g (φ g a)) ≡ true
    sides_3 p = put-here _ _

    sides_old : (p : ℕ → Bool) (x : ℕ) → p x ≡ true → sides a p x ≡ true
    sides_old p x t = put_old _ _ _ (put_old _ _ _ (put_old _ _ _ t))

    sides-case :
        (p : ℕ → Bool) (P : ℕ → Type 0) → P a → P (φ g a) → P (φ g (φ g a)) → ((x : ℕ) → p x ≡ true → P x) → (x : ℕ) → sides a p x ≡ true → P x
    sides-case p P x y z o d t =
        elim (put-case _ _ d t) [
          | inl e ↦ rw e z
          | inr t ↦ elim (put-case _ _ d t) [
            | inl e ↦ rw e y
            | inr t ↦ elim (put-case _ _ d t) [ inl e ↦ rw e x | inr t ↦ o d t ]
          ]
        ]

    sides-closed : (p : ℕ → Bool) → ((d : ℕ) → d < g.D → p d ≡ true → p (φ g d) ≡ true) → (d : ℕ) → d < g.D → sides a p d ≡ true → sides a p (φ g d) ≡ true
    sides-closed p c d l t =
        sides-case p (λ x. x < g.D → sides a p (φ g x) ≡ true) (λ _. sides_2 p) (λ _. sides_3 p) (λ _. rw (h.three a al) (sides_1 p))
        (λ x t l. sides_old p _ (c x l t)) d t l

  start : (a : ℕ) → a < g.D → Shown (sides a (λ x. false)) (is_rep g)
  start a al =
      let p : ℕ → Bool = λ x. false in
      record {
        closed = sides-closed a al p (λ d l t. clash t refl);
        spent = λ d l f. clash (rep_is h d l) f;
        bars = λ d l t. rep_is h d l;
        conn = λ s w d e dl el t t'.
            let x : s (g.org a) ≡ s (g.org (φ g a)) = w a al (sides_1 a al p) (rep_is h a al) ∙ sym (ap s (org_φ h a al)) in
            let y : s (g.org (φ g a)) ≡ s (g.org (φ g (φ g a))) =
            w (φ g a) (bl a al) (sides_2 a al p) (rep_is h _ (bl a al)) ∙ sym (ap s (org_φ h _ (bl a al))) in
            let all = sides-case a al p (λ d. s (g.org d) ≡ s (g.org a)) refl (sym x) (sym (x ∙ y)) (λ x t. clash t refl) in
            all d t ∙ sym (all e t');
        cnt = omega (arith, sides-count a al p refl refl refl, count_none p g.D (λ x l. refl));
      }

  module _ (seen keep : ℕ → Bool) (i : Shown seen keep) (d : ℕ) (dl : d < g.D) (t : seen d ≡ true) (f : seen (g.α d) ≡ false) (nb : bar d ≡ false) where
    abbrev a : ℕ
    a = g.α d

    al : a < g.D
    al = h.α_in d dl

    fb : seen (φ g a) ≡ false
    fb = elim (bool (seen (φ g a))) [ inl t ↦ clash (ap seen (sym (h.three a al)) ∙ i.closed _ (cl a al) (i.closed _ (bl a al) t)) f | inr f ↦ f ]

    fc : seen (φ g (φ g a)) ≡ false
    fc = elim (bool (seen (φ g (φ g a)))) [ inl t ↦ clash (ap seen (sym (h.three a al)) ∙ i.closed _ (cl a al) t) f | inr f ↦ f ]

    fresh : (x : ℕ) → x < g.D → seen x ≡ false → x ≢ a → del (rep g d) keep (rep g x) ≡ true
    fresh x xl fx ne =
        elim (bool (del (rep g d) keep (rep g x))) [
          | inl t ↦ t
          | inr z ↦ elim (del-case _ _ _ z) [
            | inl e ↦ elim (rep_inj h x d xl dl e) [ inl e ↦ clash t (ap seen (sym e) ∙ fx) | inr e ↦ absurd (ne e) ]
            | inr z ↦ clash (i.spent x xl z) fx
          ]
        ]

    kept : keep (rep g d) ≡ true
    kept = elim (bool (keep (rep g d))) [ inl t ↦ t | inr z ↦ clash (i.spent a al (ap keep (rep_α h d dl) ∙ z)) f ]

    reveal-cnt : count (sides a seen) g.D ≡ count seen g.D + 3
    reveal-cnt = sides-count a al seen f fb fc

    conn' :
        (s : ℕ → ℕ) → ((x : ℕ) → x < g.D → sides a seen x ≡ true → del (rep g d) keep (rep g x) ≡ true → s (g.org x) ≡ s (end g x)) →
        (x : ℕ) → x < g.D → sides a seen x ≡ true → s (g.org x) ≡ s (g.org d)
    conn' s w x xl sx =
        let p : s (g.org (φ g a)) ≡ s (g.org (φ g (φ g a))) =
        w (φ g a) (bl a al) (sides_2 a al seen) (fresh _ (bl a al) fb (a≢b a al)) ∙ sym (ap s (org_φ h _ (bl a al))) in
        let q : s (g.org (φ g (φ g a))) ≡ s (g.org a) =
        w (φ g (φ g a)) (cl a al) (sides_3 a al seen) (fresh _ (cl a al) fc (a≢c a al)) ∙ sym (ap s (org_φ h _ (cl a al))) ∙ ap (λ z. s (g.org z)) (h.three a al) in
        let o : s (g.org (φ g a)) ≡ s (g.org d) = ap s (org_φ h a al) ∙ ap (λ z. s (g.org z)) (h.αα d dl) in
        let old = i.conn s (λ y yl ty ky.
        elim (ℕ_discrete (rep g y) (rep g d)) [
          | yes e ↦ elim (rep_inj h y d yl dl e) [
            | inl e ↦ rw e (sym o ∙ p ∙ q)
            | inr e ↦ clash ty (ap seen e ∙ f)
          ]
          | no ne ↦ w y yl (sides_old a al seen y ty) (del_else _ keep _ ne ∙ ky)
        ]) in
        sides-case a al seen (λ y. y < g.D → s (g.org y) ≡ s (g.org d)) (λ _. sym q ∙ sym p ∙ o) (λ _. o) (λ _. sym p ∙ o)
        (λ y ty yl. old y d yl dl ty t) x sx xl

    reveal : Shown (sides a seen) (del (rep g d) keep)
    reveal =
        record {
          closed = sides-closed a al seen i.closed;
          spent = λ x xl z. elim (del-case _ _ _ z) [
            | inl e ↦ elim (rep_inj h x d xl dl e) [ inl e ↦ rw e (sides_old a al seen d t) | inr e ↦ rw e (sides_1 a al seen) ]
            | inr z ↦ sides_old a al seen x (i.spent x xl z)
          ];
          bars = λ x xl b. elim (ℕ_discrete (rep g x) (rep g d)) [
            | yes e ↦ elim (rep_inj h x d xl dl e) [ inl e ↦ clash b (ap bar e ∙ nb) | inr e ↦ clash b (ap bar e ∙ even d dl ∙ nb) ]
            | no ne ↦ del_else _ keep _ ne ∙ i.bars x xl b
          ];
          conn = λ s w x y xl yl tx ty. conn' s w x xl tx ∙ sym (conn' s w y yl ty);
          cnt = omega (arith, i.cnt, reveal-cnt, count-del (rep g d) keep g.D (rep_in h d dl) kept);
        }

  module _ (one : OneFace g bar) where
    record Done : Type 0 where
      keep : ℕ → Bool
      bars : (d : ℕ) → d < g.D → bar d ≡ true → keep (rep g d) ≡ true
      conn :
          (s : ℕ → ℕ) → ((d : ℕ) → d < g.D → keep (rep g d) ≡ true → s (g.org d) ≡ s (end g d)) →
          (d e : ℕ) → d < g.D → e < g.D → s (g.org d) ≡ s (g.org e)
      cnt : 3 * count keep g.D + g.D ≤ 3 * count (is_rep g) g.D + 3

    module _ (z : ℕ) (zl : z < g.D) where
      abbrev edge : (ℕ → Bool) → ℕ → Bool
      edge seen d = if seen d then (if seen (g.α d) then false else not (bar d)) else false

      edge-true : (seen : ℕ → Bool) (d : ℕ) → edge seen d ≡ true → (seen d ≡ true) × (seen (g.α d) ≡ false) × (bar d ≡ false)
      edge-true seen d = go (seen d) refl (seen (g.α d)) refl (bar d) refl
        where
          go :
              (x : Bool) → seen d ≡ x → (y : Bool) → seen (g.α d) ≡ y → (z : Bool) → bar d ≡ z → (if x then (if y then false else not z) else false) ≡ true →
              (seen d ≡ true) × (seen (g.α d) ≡ false) × (bar d ≡ false)
          go true a false b false c t = (a, b, c)
          go true a false b true c t = clash t refl
          go true a true b z c t = clash t refl
          go false a y b z c t = clash t refl

      edge-false : (seen : ℕ → Bool) (d : ℕ) → edge seen d ≡ false → bar d ≡ false → seen d ≡ true → seen (g.α d) ≡ true
      edge-false seen d = go (seen d) refl (seen (g.α d)) refl (bar d) refl
        where
          go :
              (x : Bool) → seen d ≡ x → (y : Bool) → seen (g.α d) ≡ y → (z : Bool) → bar d ≡ z → (if x then (if y then false else not z) else false) ≡ false →
              bar d ≡ false → seen d ≡ true → seen (g.α d) ≡ true
          go true a true b z c t e k = b
          go true a false b false c t e k = clash refl t
          go true a false b true c t e k = clash c e
          go false a y b z c t e k = clash k a

      all_seen : (seen keep : ℕ → Bool) → Shown seen keep → seen z ≡ true → ((d : ℕ) → d < g.D → edge seen d ≡ false) → (d : ℕ) → d < g.D → seen d ≡ true
      all_seen seen keep i sz none d dl =
          let fs : Faces g bar (λ x. bit (seen x)) = record {
            face = λ x xl. same_bit _ _ (λ t. ap seen (sym (h.three x xl)) ∙ i.closed _ (φ_in h _ (φ_in h _ xl)) (i.closed _ (φ_in h _ xl) t)) (i.closed x xl);
            cross = λ x xl nb. same_bit _ _
                (λ t. ap seen (sym (h.αα x xl)) ∙ edge-false seen (g.α x) (none _ (h.α_in x xl)) (even x xl ∙ nb) t)
                (edge-false seen x (none x xl) nb);
          } in
          elim (bool (seen d)) [
            | inl t ↦ t
            | inr f ↦ let e : ◌≡◌ {A = ℕ} 0 1 = ap bit (sym f) ∙ one (λ x. bit (seen x)) fs d z dl zl ∙ ap bit sz in absurd (omega arith)
          ]

      reveal_all : (fuel : ℕ) (seen keep : ℕ → Bool) → Shown seen keep → seen z ≡ true → g.D < count seen g.D + fuel → Done
      reveal_all zero seen keep i sz l = absurd (omega (arith, count-max seen g.D))
      reveal_all (suc fuel) seen keep i sz l =
          elim (find (edge seen) g.D) [
            | inl w ↦
                let t = edge-true seen w.0 w.2 in
                reveal_all fuel _ _ (reveal seen keep i w.0 w.1 t.0 t.1 t.2)
                (sides_old (g.α w.0) (h.α_in _ w.1) seen z sz)
                (omega (arith, l, reveal-cnt seen keep i w.0 w.1 t.0 t.1 t.2))
            | inr none ↦
                let all = all_seen seen keep i sz none in
                record {
                  keep = keep;
                  bars = i.bars;
                  conn = λ s k d e dl el. i.conn s (λ d dl _ t. k d dl t) d e dl el (all d dl) (all e el);
                  cnt = omega (arith, i.cnt, count_all seen g.D all);
                }
          ]

      done : Done
      done = reveal_all (g.D + 1) _ _ (start z zl) (sides_1 z zl (λ x. false)) (omega arith)

    -- a barred line between points that the other barred lines join
    pub spare :
        2 * count (is_rep g) g.D ≡ g.D → (c : ℕ) → c < g.D → bar c ≡ true →
        ((s : ℕ → ℕ) → ((d : ℕ) → d < g.D → bar d ≡ true → rep g d ≢ rep g c → s (g.org d) ≡ s (end g d)) → s (g.org c) ≡ s (end g c)) → ⊥
    spare half c cl bc cyc =
        let w = done c cl in
        let keep : ℕ → Bool = del (rep g c) w.keep in
        let all : (s : ℕ → ℕ) → ((d : ℕ) → d < g.D → keep d ≡ true → s (g.org d) ≡ s (end g d)) → (x y : ℕ) → x < g.n → y < g.n → s x ≡ s y =
        λ s k x y xl yl.
        let on : (d : ℕ) → d < g.D → rep g d ≢ rep g c → w.keep (rep g d) ≡ true → s (g.org d) ≡ s (end g d) =
        λ d dl ne t. along-rep h s d dl (k (rep g d) (rep_in h d dl) (del_else _ w.keep _ ne ∙ t)) in
        let ec = cyc s (λ d dl b ne. on d dl ne (w.bars d dl b)) in
        sym (ap s (h.first_org x xl)) ∙ w.conn s (λ d dl t. elim (ℕ_discrete (rep g d) (rep g c)) [
          | yes e ↦ elim (rep_inj h d c dl cl e) [
            | inl e ↦ rw e ec
            | inr e ↦ rw e (sym (ec ∙ refl) ∙ ap (λ z. s (g.org z)) (sym (h.αα c cl)))
          ]
          | no ne ↦ on d dl ne t
        ]) (h.first x) (h.first y) (h.first_in x xl) (h.first_in y yl) ∙ ap s (h.first_org y yl) in
        omega (arith, half, h.lines, w.cnt, tree g.n g.org (end g) keep g.D all, count-del (rep g c) w.keep g.D (rep_in h c cl) (w.bars c cl bc))
