-- Where a point stands on the boundary after a covering: `join l r` of where it stood. No point needs to stand on the boundary only once.
use Rattle.std.specs.Prelude.{ℕ, zero, suc, ◌+◌, ◌<◌, ◌≤◌, ◌≡◌, refl, ◌≢◌, Bool, true, false, ◌&&◌, List, [], ◌∷◌, ◌++◌, length, get_or, take, drop, ltb}
use Rattle.std.proofs.Common.{arith, ltb-true, ltb-false}
use Rattle.net.specs.Adds.{join}
use Rattle.rules.specs.Basics.{index_of}
use Rattle.rules.specs.Indices.{Here, hit, miss, here}

-- A point at index r or later stands r earlier in the list without its first r.
index-drop : (q r : ℕ) (b : List ℕ) → r ≤ index_of q b → index_of q (drop r b) + r ≡ index_of q b
index-drop q zero b h = omega arith
index-drop q (suc r) [] h = absurd (omega arith)
index-drop q (suc r) (x ∷ b) h = go (here q x b) (λ k. index-drop q r b k)
  where
    go : Here q x b → (r ≤ index_of q b → index_of q (drop r b) + r ≡ index_of q b) → index_of q (drop r b) + suc r ≡ index_of q (x ∷ b)
    go (hit n e) ih = absurd (omega arith)
    go (miss n e) ih = omega (arith, ih (omega arith))

-- index i lies not strictly between l and r
pub data Outside (l r i : ℕ) : Type 0 where
  before : i ≤ l → Outside l r i
  behind : r ≤ i → Outside l r i

-- index i lies strictly between l and r, or not, by a test
pub data Within (l r i : ℕ) : Bool → Type 0 where
  within : l < i → i < r → Within l r i true
  without : Outside l r i → Within l r i false

-- The test of being strictly between decides it.
pub within_of : (l r i : ℕ) → Within l r i (ltb l i && ltb i r)
within_of l r i = go (ltb l i) refl (ltb i r) refl
  where
    go : (a : Bool) → ltb l i ≡ a → (b : Bool) → ltb i r ≡ b → Within l r i (a && b)
    go true e true e' = within (ltb-true l i e) (ltb-true i r e')
    go true e false e' = without (behind (ltb-false i r e'))
    go false e b e' = without (before (ltb-false l i e))

-- A point outside the run stands where the joining of columns says.
pub index-joined : (q new l r : ℕ) (b : List ℕ) → q ≢ new → l < r → r < length b → Outside l r (index_of q b) →
    index_of q (take (suc l) b ++ new ∷ drop r b) ≡ join l r (index_of q b)
index-joined q new l zero b n a c o = absurd (omega arith)
index-joined q new l (suc r) [] n a c o = absurd (omega arith)
index-joined q new zero (suc r) (x ∷ b) n a c o = go (here q x b) (here q x (new ∷ drop r b)) (here q new (drop r b)) o
  where
    go : Here q x b → Here q x (new ∷ drop r b) → Here q new (drop r b) → Outside zero (suc r) (index_of q (x ∷ b)) →
        index_of q (x ∷ new ∷ drop r b) ≡ join zero (suc r) (index_of q (x ∷ b))
    go (hit p e) (hit p' e') v o = omega arith
    go (hit p e) (miss p' e') v o = absurd (p' p)
    go (miss p e) (hit p' e') v o = absurd (p p')
    go (miss p e) (miss p' e') (hit u v) o = absurd (n u)
    go (miss p e) (miss p' e') (miss u v) (before k) = absurd (omega arith)
    go (miss p e) (miss p' e') (miss u v) (behind k) = omega (arith, index-drop q r b (omega arith))
index-joined q new (suc l) (suc r) (x ∷ b) n a c o =
    go (here q x b) (here q x (take (suc l) b ++ new ∷ drop r b)) o (λ u. index-joined q new l r b n (omega arith) (omega arith) u)
  where
    go : Here q x b → Here q x (take (suc l) b ++ new ∷ drop r b) → Outside (suc l) (suc r) (index_of q (x ∷ b)) →
        (Outside l r (index_of q b) → index_of q (take (suc l) b ++ new ∷ drop r b) ≡ join l r (index_of q b)) →
        index_of q (x ∷ (take (suc l) b ++ new ∷ drop r b)) ≡ join (suc l) (suc r) (index_of q (x ∷ b))
    go (hit p e) (hit p' e') o ih = omega arith
    go (hit p e) (miss p' e') o ih = absurd (p' p)
    go (miss p e) (hit p' e') o ih = absurd (p p')
    go (miss p e) (miss p' e') (before k) ih = omega (arith, ih (before (omega arith)))
    go (miss p e) (miss p' e') (behind k) ih = omega (arith, ih (behind (omega arith)))

-- The new point stands at l + 1.
pub index_new : (new l : ℕ) (b rest : List ℕ) → ((i : ℕ) → i < length b → new ≢ get_or b i 0) → l < length b →
    index_of new (take (suc l) b ++ new ∷ rest) ≡ suc l
index_new new l [] rest n c = absurd (omega arith)
index_new new zero (x ∷ b) rest n c = go (here new x (new ∷ rest)) (here new new rest)
  where
    go : Here new x (new ∷ rest) → Here new new rest → index_of new (x ∷ new ∷ rest) ≡ 1
    go (hit p e) v = absurd (n 0 (omega arith) p)
    go (miss p e) (hit u v) = omega arith
    go (miss p e) (miss u v) = absurd (u refl)
index_new new (suc l) (x ∷ b) rest n c =
    go (here new x (take (suc l) b ++ new ∷ rest)) (index_new new l b rest (λ i h. n (suc i) (omega arith)) (omega arith))
  where
    go : Here new x (take (suc l) b ++ new ∷ rest) → index_of new (take (suc l) b ++ new ∷ rest) ≡ suc l → index_of new (x ∷ (take (suc l) b ++ new ∷ rest)) ≡ suc (suc l)
    go (hit p e) ih = absurd (n 0 (omega arith) p)
    go (miss p e) ih = omega arith
