-- Laws of the searches and lists that the rules use.
use Rattle.std.specs.Prelude.{ℕ, zero, suc, ◌+◌, ◌<◌, ◌≤◌, ◌≡◌, ◌≢◌, List, ◌∷◌, ◌++◌, Bool, true, false, length, get_or, take, drop}
use Rattle.std.proofs.Common.{ap, sym, ◌∙◌, arith, length-append, length-drop, get_or-append-add, get_or-take, get_or-drop, length-take-le, eq-eqb, ne_eqb}
use Rattle.std.proofs.Math.ListN.{get_or-append}
use Rattle.rules.specs.Basics.{lowest}
use Rattle.rules.proofs.Lowest.{is_lowest, lowest_most}
use Rattle.planar_rules.specs.PlanarCode.{Flat, after, gather}
use Rattle.planar_sphere.specs.Map.{turn}
use Rattle.planar_sphere.specs.Flat.{map}

-- ---- lowest

pub lowest-hit :
    (p : ℕ → Bool) (k x y : ℕ) → x ≤ y → y < x + k → p y ≡ true →
    (lowest p k x ≤ y) × (p (lowest p k x) ≡ true) × ((z : ℕ) → x ≤ z → z < lowest p k x → p z ≡ false)
lowest-hit p k x y a b t =
    let most = lowest_most p k x y a t in
    let is = is_lowest p k x in (most, is.passes (omega (arith, most)), is.below)

-- ---- a part of a list replaced: what stands from a up to z by run

module _ (b run : List ℕ) (a z : ℕ) (az : a ≤ z) (zb : z ≤ length b) where
  abbrev new : List ℕ
  new = take a b ++ (run ++ drop z b)

  la : length (take a b) ≡ a
  la = length-take-le a b (omega arith)

  pub new_length : length new + z ≡ length b + a + length run
  new_length = omega (arith, length-append (take a b) (run ++ drop z b), length-append run (drop z b), la, length-drop z b)

  pub new_low : (x : ℕ) → x < a → get_or new x 0 ≡ get_or b x 0
  new_low x l = get_or-append (take a b) (run ++ drop z b) 0 x (omega (arith, la)) ∙ get_or-take a b x 0 l

  at_a : (i : ℕ) → get_or new (a + i) 0 ≡ get_or (run ++ drop z b) i 0
  at_a i = ap (λ k. get_or new (k + i) 0) (sym la) ∙ get_or-append-add (take a b) (run ++ drop z b) i 0

  pub new_run : (i : ℕ) → i < length run → get_or new (a + i) 0 ≡ get_or run i 0
  new_run i l = at_a i ∙ get_or-append run (drop z b) 0 i l

  pub new_high : (i : ℕ) → get_or new (a + (length run + i)) 0 ≡ get_or b (z + i) 0
  new_high i = at_a (length run + i) ∙ get_or-append-add run (drop z b) i 0 ∙ get_or-drop z b i 0

-- ---- gather: p steps on is the first that is `last`

pub gathers :
    (f : Flat) (back : ℕ → ℕ) (last k p d : ℕ) (done : List ℕ) → p < k → f.nbr (turn (map f back) p d) ≡ last →
    ((j : ℕ) → j < p → f.nbr (turn (map f back) j d) ≢ last) →
    (length (gather f last k d done) ≡ p + 1 + length done) ×
    ((j x : ℕ) → x + j ≡ p → get_or (gather f last k d done) x 0 ≡ f.nbr (turn (map f back) j d)) ×
    ((y : ℕ) → get_or (gather f last k d done) (p + 1 + y) 0 ≡ get_or done y 0)
unfolding gather turn
gathers f back last zero p d done pk hit no_hit = absurd (omega arith)
gathers f back last (suc k) zero d done pk hit no_hit =
    rw (eq-eqb (f.nbr d) last hit) (
      (let e : suc (length done) ≡ 0 + 1 + length done = omega arith in e),
      (λ j x e. let ej : j ≡ 0 = omega arith in let ex : x ≡ 0 = omega arith in rw (ej, ex)),
      (λ y. let e : 0 + 1 + y ≡ suc y = omega arith in rw e),
    )
gathers f back last (suc k) (suc p) d done pk hit no_hit =
    let w = gathers f back last k p (after f d) (f.nbr d ∷ done) (omega arith) hit (λ j jl. no_hit (suc j) (omega arith)) in
    rw (ne_eqb (f.nbr d) last (no_hit 0 (omega arith))) (
      w.0 ∙ (let e : p + 1 + suc (length done) ≡ suc p + 1 + length done = omega arith in e),
      spots w,
      (λ y. let e : suc p + 1 + y ≡ p + 1 + suc y = omega arith in rw e (w.2 (suc y))),
    )
  where
    rest : List ℕ
    rest = gather f last k (after f d) (f.nbr d ∷ done)

    spots :
        (length rest ≡ p + 1 + suc (length done)) × ((j x : ℕ) → x + j ≡ p → get_or rest x 0 ≡ f.nbr (turn (map f back) j (after f d))) ×
        ((y : ℕ) → get_or rest (p + 1 + y) 0 ≡ get_or (f.nbr d ∷ done) y 0) →
        (j x : ℕ) → x + j ≡ suc p → get_or rest x 0 ≡ f.nbr (turn (map f back) j d)
    spots w zero x e = (let q : x ≡ p + 1 + 0 = omega arith in ap (λ i. get_or rest i 0) q) ∙ w.2 0
    spots w (suc j) x e = w.1 j x (omega arith)
