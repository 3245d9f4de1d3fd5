-- Where each vertex of a row stands.
use Rattle.std.specs.Prelude.{ℕ, suc, ◌+◌, ◌-◌, ◌<◌, ◌≤◌, ◌≡◌, refl, Bool, true, ◌&&◌, List, [], ◌∷◌, Option, Some, None, length, take, set, ltb, if◌then◌else◌, unwrap_or}
use Rattle.std.proofs.Math.Path.{ap}
use Rattle.std.proofs.Common.{sym, ◌∙◌, arith, length-set, get_or-set_same, get_or-set_other, get_or-take, length-take-le, lt-ltb, le-ltb, ltb-true}
use Rattle.std.proofs.lemmas.Option.{cond_some, none-some}
use Rattle.std.proofs.Math.Bool.{and-false}
use Rattle.std.proofs.Math.Decide.{ℕ_discrete, dec_lt}
use Rattle.std.proofs.Math.ListN.{get_or}
use Rattle.rules.specs.Basics.{index_of}
use Rattle.rules.specs.Bools.{both}
use Rattle.rules.specs.Indices.{Here, hit, miss, here, index_at}
use Rattle.planar_order.specs.Model.{Distinct, index_is}

-- pos v is one more than v's index among the first m of b, or 0
pub record Positions (b : List ℕ) (m : ℕ) (pos : List ℕ) : Type 0 where
  pub same : length pos ≡ 256
  pub here : (x : ℕ) → x < m → get_or pos (get_or b x 0) 0 ≡ x + 1
  pub only : (v x : ℕ) → get_or pos v 0 ≡ x + 1 → (x < m) × (get_or b x 0 ≡ v)

-- the first m of b are all different
abbrev pub Apart : List ℕ → ℕ → Type 0
Apart b m = (x y : ℕ) → x < m → y < m → get_or b x 0 ≡ get_or b y 0 → x ≡ y

-- where v stands, if it does
abbrev pub found_index : List ℕ → ℕ → Option ℕ
found_index b v = if ltb (index_of v b) (length b) then Some (index_of v b) else None

-- it stands between the first and the last
abbrev pub inside? : List ℕ → ℕ → Bool
inside? b v = ltb 0 (index_of v b) && ltb (index_of v b + 1) (length b)

pub found_at : (b : List ℕ) (v : ℕ) → index_of v b < length b → found_index b v ≡ Some (index_of v b)
found_at b v l = rw (lt-ltb (index_of v b) (length b) l)

pub found_nowhere : (b : List ℕ) (v : ℕ) → length b ≤ index_of v b → found_index b v ≡ None
found_nowhere b v l = rw (le-ltb (index_of v b) (length b) l)

-- what it says
pub index_some : (b : List ℕ) (v : ℕ) {t : ℕ} → found_index b v ≡ Some t → (index_of v b ≡ t) × (t < length b)
index_some b v e = let s = cond_some _ _ _ e in (s.1, omega (arith, ltb-true _ _ s.0, s.1))

pub index_none : (b : List ℕ) (v : ℕ) → found_index b v ≡ None → length b ≤ index_of v b
index_none b v e =
    elim (dec_lt (index_of v b) (length b)) [
      | yes l ↦ absurd (none-some _ (sym e ∙ found_at b v l))
      | no l ↦ omega (arith, l)
    ]

-- one inside is found
pub inside_found : (b : List ℕ) (v : ℕ) → inside? b v ≡ true → found_index b v ≡ Some (index_of v b)
inside_found b v e = found_at b v (omega (arith, ltb-true (index_of v b + 1) (length b) (both _ _ e).1))

-- the index, or one past the last where it stands nowhere: the rules' index_of
index_within : (v : ℕ) (b : List ℕ) → index_of v b ≤ length b
index_within v [] = omega arith
index_within v (x ∷ b) = go (here v x b) (index_within v b)
  where
    go : Here v x b → index_of v b ≤ length b → index_of v (x ∷ b) ≤ suc (length b)
    go (hit p e) h = omega arith
    go (miss n e) h = omega arith

pub index_or : (b : List ℕ) (v : ℕ) → unwrap_or (found_index b v) (length b) ≡ index_of v b
index_or b v =
    elim (dec_lt (index_of v b) (length b)) [
      | yes l ↦ rw (found_at b v l) refl
      | no l ↦ rw (found_nowhere b v (omega (arith, l))) (omega (arith, l, index_within v b))
    ]

-- none stands yet
pub pos_none : (b pos : List ℕ) → length pos ≡ 256 → ((v : ℕ) → get_or pos v 0 ≡ 0) → Positions b 0 pos
pos_none b pos l z = record { same = l; here = λ x p. absurd (omega arith); only = λ v x e. absurd (omega (arith, z v)) }

-- one more does
pub pos_more :
    {b pos : List ℕ} (m : ℕ) {i : ℕ} → i < m → Apart b m → get_or b i 0 < 256 → Positions b i pos → Positions b (i + 1) (set pos (get_or b i 0) (i + 1))
pos_more {b} {pos} m {i} im ap' small p =
    record {
      same = length-set pos (get_or b i 0) (i + 1) ∙ p.same;
      here = λ x xl. elim (ℕ_discrete x i) [
        | yes e ↦ rw e (get_or-set_same pos (get_or b i 0) (i + 1) 0 (omega (arith, p.same)))
        | no ne ↦ get_or-set_other pos (get_or b i 0) (get_or b x 0) (i + 1) 0 (λ e. ne (ap' x i (omega (arith, ne)) im e)) ∙ p.here x (omega (arith, ne))
      ];
      only = λ v x e. elim (ℕ_discrete v (get_or b i 0)) [
        | yes q ↦
            let here : get_or (set pos (get_or b i 0) (i + 1)) (get_or b i 0) 0 ≡ i + 1 = get_or-set_same pos (get_or b i 0) (i + 1) 0 (omega (arith, p.same)) in
            let z : i + 1 ≡ x + 1 = sym here ∙ ap (λ k. get_or (set pos (get_or b i 0) (i + 1)) k 0) (sym q) ∙ e in
            let y : x ≡ i = omega arith in
            (omega arith, ap (λ k. get_or b k 0) y ∙ sym q)
        | no ne ↦
            let w = p.only v x (sym (get_or-set_other pos (get_or b i 0) v (i + 1) 0 ne) ∙ e) in
            (omega (arith, w.0), w.1)
      ];
    }

-- ---- what stands in the array tells where

module _ (b pos : List ℕ) (m : ℕ) (long : m ≤ length b) (p : Positions b m pos) where
  abbrev B : List ℕ
  B = take m b

  B-length : length B ≡ m
  B-length = length-take-le m b long

  pub row_distinct : Distinct B
  row_distinct x y xl yl e =
      let xm : x < m = omega (arith, B-length) in
      let ym : y < m = omega (arith, B-length) in
      let same : get_or b x 0 ≡ get_or b y 0 = sym (get_or-take m b x 0 xm) ∙ e ∙ get_or-take m b y 0 ym in
      omega (arith, p.here x xm, p.here y ym, ap (λ v. get_or pos v 0) same)

  -- v stands nowhere, or at x
  pub row_none : (v : ℕ) → get_or pos v 0 ≡ 0 → found_index B v ≡ None
  row_none v e =
      found_nowhere B v (elim (dec_lt (index_of v B) (length B)) [
        | no c ↦ omega (arith, c)
        | yes c ↦
            let x : ℕ = index_of v B in
            let xm : x < m = omega (arith, c, B-length) in
            let q : get_or b x 0 ≡ v = sym (get_or-take m b x 0 xm) ∙ index_at v B c in
            absurd (omega (arith, p.here x xm, ap (λ v. get_or pos v 0) q))
      ])

  pub row_some : (v : ℕ) → 0 < get_or pos v 0 → found_index B v ≡ Some (get_or pos v 0 - 1)
  row_some v l =
      let x : ℕ = get_or pos v 0 - 1 in
      let w = p.only v x (omega arith) in
      let at : get_or B x 0 ≡ v = get_or-take m b x 0 w.0 ∙ w.1 in
      let xl : x < length B = omega (arith, w.0, B-length) in
      let q : index_of v B ≡ x = ap (λ v. index_of v B) (sym at) ∙ index_is B row_distinct x xl in
      found_at B v (omega (arith, q, xl)) ∙ ap (λ i. Some i) q

  -- v stands between the first and the last
  pub row_inside : (v : ℕ) → (ltb 1 (get_or pos v 0) && ltb (get_or pos v 0) m) ≡ inside? B v
  row_inside v =
      elim (dec_lt 0 (get_or pos v 0)) [
        | yes l ↦
            let w = index_some B v (row_some v l) in
            counted (get_or pos v 0) (index_of v B) m (length B) (omega (arith, l, w.0)) (sym B-length)
        | no c ↦
            let i = index_none B v (row_none v (omega (arith, c))) in
            rw (le-ltb 1 (get_or pos v 0) (omega (arith, c)), le-ltb (index_of v B + 1) (length B) (omega (arith, i))) (sym (and-false (ltb 0 (index_of v B))))
      ]
    where
      counted : (q i m n : ℕ) → q ≡ i + 1 → m ≡ n → (ltb 1 q && ltb q m) ≡ (ltb 0 i && ltb (i + 1) n)
      counted q i m n e h =
          elim (dec_lt 0 i) [
            | yes l ↦ rw (e, h, lt-ltb 1 (i + 1) (omega (arith, l)), lt-ltb 0 i l) refl
            | no c ↦ rw (e, le-ltb 1 (i + 1) (omega (arith, c)), le-ltb 0 i (omega (arith, c))) refl
          ]
