-- The boundary without the vertex that comes off: its entries stand there in place of it and the two beside it.
use Rattle.std.specs.Prelude.{ℕ, ◌+◌, ◌-◌, ◌<◌, ◌≤◌, ◌≡◌, refl, List, ◌++◌, length, get_or, take, drop, set, ltb, if◌then◌else◌}
use Rattle.std.proofs.Common.{ap, sym, ◌∙◌, arith, zero-add, length-set, length-drop, get_or-set_same, get_or-set_other, get_or-take, length-take-le, ext_get_or, get_or-drop, lt-ltb, le-ltb}
use Rattle.std.proofs.Math.Decide.{ℕ_discrete, dec_lt}
use Rattle.planar_order.specs.Seqs.{new_length, new_low, new_run, new_high}

-- its x-th vertex: len entries, from ent's place s on, stand in place of three vertices of b, from the a-th on
abbrev pub boundary_vertex : List ℕ → List ℕ → ℕ → ℕ → ℕ → ℕ → ℕ
boundary_vertex b ent a s len x = if ltb x a then get_or b x 0 else if ltb x (a + len) then get_or ent (s + (x - a)) 0 else get_or b (x + 3 - len) 0

-- ---- copying

-- new is old with `count` elements of src, from `from` on, put from `at` on
pub record Copied (src : List ℕ) (from count at : ℕ) (old new : List ℕ) : Type 0 where
  pub size : length new ≡ length old
  pub there : (i : ℕ) → i < count → get_or new (at + i) 0 ≡ get_or src (from + i) 0
  pub before : (x : ℕ) → x < at → get_or new x 0 ≡ get_or old x 0

pub copied_none : (src : List ℕ) (from at : ℕ) (old : List ℕ) → Copied src from 0 at old old
copied_none src from at old = record { size = refl; there = λ i l. absurd (omega arith); before = λ x l. refl }

-- one more
pub copied_more : {src : List ℕ} {from i at : ℕ} {old new : List ℕ} → Copied src from i at old new → at + i < length old → Copied src from (i + 1) at old (set new (at + i) (get_or src (from + i) 0))
copied_more {src} {from} {i} {at} {old} {new} c l =
    record {
      size = length-set new (at + i) (get_or src (from + i) 0) ∙ c.size;
      there = λ k kl. elim (ℕ_discrete k i) [
        | yes e ↦ rw e (get_or-set_same new (at + i) (get_or src (from + i) 0) 0 (omega (arith, c.size)))
        | no e ↦ get_or-set_other new (at + i) (at + k) (get_or src (from + i) 0) 0 (λ q. e (omega arith)) ∙ c.there k (omega (arith, e))
      ];
      before = λ x xl. get_or-set_other new (at + i) x (get_or src (from + i) 0) 0 (λ q. omega arith) ∙ c.before x xl;
    }

-- at the start
pub copied-start : {src : List ℕ} {from count : ℕ} {old new : List ℕ} → Copied src from count 0 old new → (x : ℕ) → x < count → get_or new x 0 ≡ get_or src (from + x) 0
copied-start c x l = rw (zero-add x) at (c.there x l)

-- what stands before the place, its entries and what stands behind it, copied one after another, are the new boundary
pub three-copied :
    {b ent c₀ c₁ c₂ c₃ : List ℕ} {m a s len : ℕ} → a + 3 ≤ m →
    Copied b 0 a 0 c₀ c₁ → Copied ent s len a c₁ c₂ → Copied b (a + 3) (m - (a + 3)) (a + len) c₂ c₃ →
    (x : ℕ) → x < m + len - 3 → get_or c₃ x 0 ≡ boundary_vertex b ent a s len x
three-copied {b} {ent} {c₀} {c₁} {c₂} {c₃} {m} {a} {s} {len} am p q r x xl =
    elim (dec_lt x a) [
      | yes l ↦ rw (lt-ltb x a l) (r.before x (omega arith) ∙ q.before x l ∙ copied-start p x l ∙ ap (λ y. get_or b y 0) (zero-add x))
      | no l ↦ elim (dec_lt x (a + len)) [
        | yes k ↦
            let i : ℕ = x - a in
            let e : x ≡ a + i = omega (arith, l) in
            rw (le-ltb x a (omega (arith, l)), lt-ltb x (a + len) k) (r.before x k ∙ ap (λ y. get_or c₂ y 0) e ∙ q.there i (omega (arith, l)))
        | no k ↦
            let i : ℕ = x - (a + len) in
            let e : x ≡ a + len + i = omega (arith, k) in
            let e' : a + 3 + i ≡ x + 3 - len = omega (arith, k) in
            rw (le-ltb x a (omega (arith, l)), le-ltb x (a + len) (omega (arith, k)))
            (ap (λ y. get_or c₃ y 0) e ∙ r.there i (omega (arith, k)) ∙ ap (λ y. get_or b y 0) e')
      ]
    ]

-- an array that has these vertices has the new boundary at its start
pub boundary_is :
    (b ent c : List ℕ) (m a s len : ℕ) → m ≤ length b → a + 3 ≤ m → s + len ≤ length ent → 0 < len → m + len ≤ length c + 3 →
    ((x : ℕ) → x < m + len - 3 → get_or c x 0 ≡ boundary_vertex b ent a s len x) →
    take (m + len - 3) c ≡ take a (take m b) ++ (take len (drop s ent) ++ drop (a + 3) (take m b))
boundary_is b ent c m a s len mb am se l0 mc h =
    ext_get_or 0 (take M c) W (length-take-le M c (omega arith) ∙ sym W-length) (λ x xl.
    let xm : x < M = omega (arith, length-take-le M c (omega arith)) in
    get_or-take M c x 0 xm ∙ h x xm ∙ at x xm)
  where
    M : ℕ
    M = m + len - 3

    B : List ℕ
    B = take m b

    E : List ℕ
    E = take len (drop s ent)

    Bl : length B ≡ m
    Bl = length-take-le m b mb

    El : length E ≡ len
    El = length-take-le len (drop s ent) (omega (arith, length-drop s ent))

    W : List ℕ
    W = take a B ++ (E ++ drop (a + 3) B)

    W-length : length W ≡ M
    W-length = omega (arith, new_length B E a (a + 3) (omega arith) (omega (arith, Bl)), Bl, El)

    from : a ≤ a + 3
    from = omega arith

    upto : a + 3 ≤ length B
    upto = omega (arith, Bl)

    low : (x : ℕ) → x < a → get_or W x 0 ≡ get_or b x 0
    low x p = new_low B E a (a + 3) from upto x p ∙ get_or-take m b x 0 (omega arith)

    run : (x : ℕ) → a ≤ x → x < a + len → get_or W x 0 ≡ get_or ent (s + (x - a)) 0
    run x p q =
        let e : x ≡ a + (x - a) = omega arith in
        ap (λ k. get_or W k 0) e ∙ new_run B E a (a + 3) from upto (x - a) (omega (arith, El)) ∙
        get_or-take len (drop s ent) (x - a) 0 (omega arith) ∙ get_or-drop s ent (x - a) 0

    high : (x : ℕ) → a + len ≤ x → x < M → get_or W x 0 ≡ get_or b (x + 3 - len) 0
    high x p q =
        let i : ℕ = x - (a + len) in
        let e : x ≡ a + (length E + i) = omega (arith, El) in
        let e' : a + 3 + i ≡ x + 3 - len = omega arith in
        ap (λ k. get_or W k 0) e ∙ new_high B E a (a + 3) from upto i ∙ ap (λ k. get_or B k 0) e' ∙ get_or-take m b (x + 3 - len) 0 (omega arith)

    at : (x : ℕ) → x < M → boundary_vertex b ent a s len x ≡ get_or W x 0
    at x xm =
        elim (dec_lt x a) [
          | yes p ↦ rw (lt-ltb x a p) (sym (low x p))
          | no p ↦
              let ax : a ≤ x = omega (arith, p) in
              elim (dec_lt x (a + len)) [
                | yes q ↦ rw (le-ltb x a ax, lt-ltb x (a + len) q) (sym (run x ax q))
                | no q ↦ let ex : a + len ≤ x = omega (arith, q) in rw (le-ltb x a ax, le-ltb x (a + len) ex) (sym (high x ex xm))
              ]
        ]
