-- The lines that end at a point: the rules count them in the list, the net by the ends of each line.
use Rattle.std.specs.Prelude.{ℕ, zero, suc, pred, ◌+◌, ◌<◌, ◌≡◌, refl, ◌≢◌, Bool, true, false, cond, ◌||◌, List, [], ◌∷◌, length, get_or, eqb}
use Rattle.std.proofs.Common.{sym, ◌∙◌, arith, eqb-true}
use Rattle.std.proofs.Math.Dec.{eqb-suc-suc}
use Rattle.rules.specs.declared.Kind.TheVariants.{Guide}
use Rattle.rules.specs.declared.Bend.TheVariants.{NoBend}
use Rattle.rules.specs.Basics.{keep}
use Rattle.rules.specs.Points.{Drawing, line_at}
use Rattle.rules.specs.Demand.{ends_at, degree}
use Rattle.net.specs.Degs.{tally, hits, deg}
use Rattle.promise.specs.Nets.{net_of}
use Rattle.promise.specs.Sound.{Bent}
use Rattle.promise.specs.Leaving.{two_ends}

-- A tally has its first number apart.
tally-front : (f : ℕ → ℕ) (n : ℕ) → tally f (suc n) ≡ f 0 + tally (λ i. f (suc i)) n
unfolding tally
tally-front f zero = omega arith
tally-front f (suc n) = omega (arith, tally-front f n)

-- The first element that passes a test counts as one.
keep-front : {A : Type 0} (t : A → Bool) (a : A) (l : List A) → length (keep t (a ∷ l)) ≡ cond (t a) 1 0 + length (keep t l)
keep-front t a l = go (t a) refl
  where
    go : (b : Bool) → t a ≡ b → length (keep t (a ∷ l)) ≡ cond (t a) 1 0 + length (keep t l)
    go true q = rw q (omega arith)
    go false q = rw q (omega arith)

-- A tally of numbers that are 1 where a test passes, and else 0, counts the elements that pass it.
tally-keep : {A : Type 0} (t : A → Bool) (o : A) (f : ℕ → ℕ) (l : List A) → ((i : ℕ) → i < length l → f i ≡ cond (t (get_or l i o)) 1 0) →
    tally f (length l) ≡ length (keep t l)
unfolding tally
tally-keep t o f [] h = refl
tally-keep t o f (a ∷ l) h =
    omega (
      arith,
      tally-front f (length l),
      h 0 (omega arith),
      tally-keep t o (λ i. f (suc i)) l (λ i b. h (suc i) (omega arith)),
      keep-front t a l,
    )

-- Two points are the same if their predecessors are.
eqb-pred : (a b : ℕ) → 0 < a → 0 < b → eqb (pred a) (pred b) ≡ eqb a b
eqb-pred zero b h k = absurd (omega arith)
eqb-pred (suc a) zero h k = absurd (omega arith)
eqb-pred (suc a) (suc b) h k = sym (eqb-suc-suc a b)

-- At most one of two different ends is p.
one_end : (u v p : ℕ) → u ≢ v → cond (eqb u p) 1 0 + cond (eqb v p) 1 0 ≡ cond (eqb v p || eqb u p) 1 0
one_end u v p n = go (eqb u p) (eqb v p) refl refl
  where
    go : (a b : Bool) → eqb u p ≡ a → eqb v p ≡ b → cond (eqb u p) 1 0 + cond (eqb v p) 1 0 ≡ cond (eqb v p || eqb u p) 1 0
    go true true q r = absurd (n (eqb-true u p q ∙ sym (eqb-true v p r)))
    go true false q r = rw (q, r)
    go false true q r = rw (q, r)
    go false false q r = rw (q, r)

module _ (d : Drawing) (s : Bent d) (p : ℕ) (p0 : 0 < p) where
  -- A line ends at a point once or not at all.
  hits_once : (e : ℕ) → e < length d.lines → hits (net_of d) (pred p) e ≡ cond (ends_at p (line_at d e)) 1 0
  unfolding hits
  hits_once e el =
      let l = line_at d e in
      let o = s.sound.ended.ends e el in
      rw (eqb-pred l.earlier p o.0 p0, eqb-pred l.later p o.1 p0) (one_end l.earlier l.later p (two_ends d s e el))

  -- Both count the same lines.
  pub degree_is : deg (net_of d) (pred p) ≡ degree d p
  unfolding deg
  degree_is = tally-keep (ends_at p) (record { later = 0; earlier = 0; bend = NoBend; kind = Guide }) (hits (net_of d) (pred p)) d.lines hits_once
