-- The boundary after an accepted call, read through the old one: up to l the same, then the new point, then the old one from r on.
use Rattle.std.specs.Prelude.{ℕ, suc, pred, ◌+◌, ◌-◌, ◌<◌, ◌≤◌, ◌≡◌, List, ◌∷◌, ◌++◌, length, get_or, take, drop}
use Rattle.std.proofs.Common.{ap, ◌∙◌, subst, arith, length-append, length-take, length-drop, get_or-take, get_or-drop, get_or-append-add, length-take-le}
use Rattle.std.proofs.Math.Decide.{dec_le, ℕ_discrete}
use Rattle.std.proofs.Math.ListN.{get_or-append}
use Rattle.std.proofs.lemmas.List.{get_or_at}
use Rattle.net.specs.Adds.{On, kept, fresh, join}
use Rattle.rules.specs.declared.Entry.{Entry}
use Rattle.rules.specs.Points.{Drawing, w, m}
use Rattle.promise.specs.Nets.{net_of}
use Rattle.promise.specs.Sound.{Sound}
use Rattle.promise.specs.Next.{IsRun, next}
use Rattle.promise.specs.Index.{Outside, before, behind}
use Rattle.promise.specs.Columns.{boundary_next, k_next}

-- ---- the boundary b with the points strictly between l and r replaced by `new`

module _ (b : List ℕ) (l r new : ℕ) (lr : l < r) (rm : r < length b) where
  -- The part before the new point has l + 1 points.
  front : length (take (suc l) b) ≡ suc l
  front = length-take-le (suc l) b (omega arith)

  -- Up to l it is b.
  at_left : (i : ℕ) → i ≤ l → get_or (take (suc l) b ++ new ∷ drop r b) i 0 ≡ get_or b i 0
  at_left i h =
      get_or-append (take (suc l) b) (new ∷ drop r b) 0 i (omega (arith, front)) ∙ get_or-take (suc l) b i 0 (omega arith)

  -- At l + 1 stands the new point.
  at_new : get_or (take (suc l) b ++ new ∷ drop r b) (suc l) 0 ≡ new
  at_new = get_or_at (take (suc l) b) new (drop r b) 0 (suc l) front

  -- From l + 2 on it is b from r on.
  at_right : (j : ℕ) → get_or (take (suc l) b ++ new ∷ drop r b) (suc l + suc j) 0 ≡ get_or b (r + j) 0
  at_right j =
      subst (λ (f : ℕ). get_or (take (suc l) b ++ new ∷ drop r b) (f + suc j) 0 ≡ get_or b (r + j) 0) front
      (get_or-append-add (take (suc l) b) (new ∷ drop r b) (suc j) 0 ∙ get_or-drop r b j 0)

  -- r - l - 1 points leave and one comes.
  length-joined : length (take (suc l) b ++ new ∷ drop r b) + r ≡ length b + l + 2
  length-joined = simp (length-append, length-take, length-drop) (omega arith)

-- element i of the new boundary is element j of the old one, outside the run, or the new point
pub data Stands (b : List ℕ) (l r new i v : ℕ) : Type 0 where
  old : (j : ℕ) → j < length b → Outside l r j → i ≡ join l r j → v ≡ get_or b j 0 → Stands b l r new i v
  put : i ≡ suc l → v ≡ new → Stands b l r new i v

-- Every element of the new boundary is one of the two.
pub stands : (b : List ℕ) (l r new : ℕ) → l < r → r < length b → (i : ℕ) → i < length (take (suc l) b ++ new ∷ drop r b) →
    Stands b l r new i (get_or (take (suc l) b ++ new ∷ drop r b) i 0)
stands b l r new lr rm i h =
    elim (dec_le i l) [
      | yes k ↦ old i (omega arith) (before k) (omega arith) (at_left b l r new lr rm i k)
      | no k ↦ elim (ℕ_discrete i (suc l)) [
        | yes e ↦ put e (ap (λ (v : ℕ). get_or (take (suc l) b ++ new ∷ drop r b) v 0) e ∙ at_new b l r new lr rm)
        | no n ↦
            let j : ℕ = i - (l + 2) in
            let e : i ≡ suc l + suc j = omega arith in
            old (r + j) (omega (arith, length-joined b l r new lr rm)) (behind (omega arith)) (omega arith)
            (ap (λ (v : ℕ). get_or (take (suc l) b ++ new ∷ drop r b) v 0) e ∙ at_right b l r new lr rm j)
      ]
    ]

-- ---- the fields of `Adds`

module _ (d : Drawing) (es : List Entry) (l r : ℕ) (s : Sound d) (q : IsRun d es l r) where
  -- There is one point more.
  pub k' : (net_of (next d es l r)).k ≡ suc (net_of d).k
  k' = k_next d es l r

  -- The boundary's new length.
  pub m' : (net_of (next d es l r)).m + r ≡ (net_of d).m + l + 2
  m' = rw (boundary_next d es l r) (length-joined d.boundary l r (suc d.k) q.lr q.rm)

  -- A point of the new boundary, by where it stands.
  pub stands_next : (i : ℕ) → i < m (next d es l r) → Stands d.boundary l r (suc d.k) i (w (next d es l r) i)
  stands_next i h =
      rw (boundary_next d es l r)
      (stands d.boundary l r (suc d.k) q.lr q.rm i (rw (boundary_next d es l r) at h))

  -- The same in the words of the net.
  pub onto : (i : ℕ) → i < (net_of (next d es l r)).m → On (net_of d) (net_of (next d es l r)) l r i
  onto i h = go (stands_next i h)
    where
      go : Stands d.boundary l r (suc d.k) i (w (next d es l r) i) → On (net_of d) (net_of (next d es l r)) l r i
      go (old j jm (before o) e v) = kept j jm (omega (arith, q.lr)) e (ap (λ (p : ℕ). pred p) v)
      go (old j jm (behind o) e v) = kept j jm (omega (arith, q.lr)) e (ap (λ (p : ℕ). pred p) v)
      go (put e v) = fresh e (ap (λ (p : ℕ). pred p) v)
