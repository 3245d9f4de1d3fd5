-- Where a number stands in a list.
use Rattle.std.specs.Prelude.{ℕ, zero, suc, ◌<◌, ◌≤◌, ◌≡◌, refl, ◌≢◌, Bool, true, false, List, [], ◌∷◌, length, get_or, eqb}
use Rattle.std.proofs.Common.{ap, sym, ◌∙◌, arith, eqb-true}
use Rattle.std.proofs.lemmas.Bool.{eqb-false}
use Rattle.rules.specs.Basics.{index_of}

-- the index in x ∷ b: q is x, or it isn't
pub data Here (q x : ℕ) (b : List ℕ) : Type 0 where
  hit : q ≡ x → index_of q (x ∷ b) ≡ 0 → Here q x b
  miss : q ≢ x → index_of q (x ∷ b) ≡ suc (index_of q b) → Here q x b

-- One of the two holds.
pub here : (q x : ℕ) (b : List ℕ) → Here q x b
here q x b = go (eqb q x) refl
  where
    go : (t : Bool) → eqb q x ≡ t → Here q x b
    go true e = hit (eqb-true q x e) (rw (e, index_of))
    go false e = miss (eqb-false q x e) (rw (e, index_of))

-- What stands at the index of q is q.
pub index_at : (q : ℕ) (b : List ℕ) → index_of q b < length b → get_or b (index_of q b) 0 ≡ q
index_at q [] h = absurd (omega arith)
index_at q (x ∷ b) h = go (here q x b) (λ k. index_at q b k)
  where
    go : Here q x b → (index_of q b < length b → get_or b (index_of q b) 0 ≡ q) → get_or (x ∷ b) (index_of q (x ∷ b)) 0 ≡ q
    go (hit p e) ih = ap (λ (i : ℕ). get_or (x ∷ b) i 0) e ∙ sym p
    go (miss p e) ih = ap (λ (i : ℕ). get_or (x ∷ b) i 0) e ∙ ih (omega arith)

-- The element at i has an index of at most i.
pub index_le : (b : List ℕ) (i : ℕ) → i < length b → index_of (get_or b i 0) b ≤ i
index_le [] i h = absurd (omega arith)
index_le (x ∷ b) zero h = go (here x x b)
  where
    go : Here x x b → index_of x (x ∷ b) ≤ 0
    go (hit p e) = omega arith
    go (miss n e) = absurd (n refl)
index_le (x ∷ b) (suc i) h = go (here (get_or b i 0) x b) (index_le b i (omega arith))
  where
    go : Here (get_or b i 0) x b → index_of (get_or b i 0) b ≤ i → index_of (get_or b i 0) (x ∷ b) ≤ suc i
    go (hit p e) ih = omega arith
    go (miss n e) ih = omega arith
