-- The lines after a call: the old ones, then one for each entry. Lists only; nothing is known of the drawing.
use Rattle.std.specs.Prelude.{ℕ, zero, suc, ◌+◌, ◌-◌, ◌<◌, ◌≤◌, ◌≡◌, refl, Bool, true, false, List, [], ◌∷◌, ◌++◌, length, get_or, ltb}
use Rattle.std.proofs.Common.{ap, ◌∙◌, le_of_suc-le-suc, not-suc-le-zero, add-zero, add-suc, suc-add, zero-add, arith, length-append, get_or-append-add, ltb-true, ltb-false, ne_eqb, eq-eqb}
use Rattle.std.proofs.Math.ListN.{get_or-append}
use Rattle.rules.specs.declared.Line.{Line}
use Rattle.rules.specs.declared.Entry.{Entry}
use Rattle.rules.specs.declared.Bend.{Bend}
use Rattle.rules.specs.declared.Bend.TheVariants.{Left, Middle}
use Rattle.rules.specs.Basics.{nth, alter}
use Rattle.rules.proofs.Lengths.{length_new}
use Rattle.rules.specs.Adding.{new_lines, new_bend, middle_of, points_of}

-- the line of an entry has the new point, the entry's point and the entry's bend
pub record OfEntry (new p : ℕ) (b : Bend) (t : Line) : Type 0 where
  pub later : t.later ≡ new
  pub earlier : t.earlier ≡ p
  pub bend : t.bend ≡ b

-- the new lines, read by index
pub get_d_new_lines : (new : ℕ) (f : ℕ → Bend) (q : ℕ) (es : List Entry) (i : ℕ) (z : Line) → i < length es →
    OfEntry new (get_or (points_of es) i 0) (f (q + i)) (get_or (new_lines new f q es) i z)
get_d_new_lines new f q [] i z h = absurd (not-suc-le-zero h)
get_d_new_lines new f q (e ∷ es) zero z h = record { later = refl; earlier = refl; bend = rw (add-zero q) }
get_d_new_lines new f q (e ∷ es) (suc i) z h = rw (add-suc, ← suc-add) (get_d_new_lines new f (suc q) es i z (le_of_suc-le-suc h))

-- line e of the old and the new lines is an old one, or that of entry i
pub data Read (old : List Line) (new : ℕ) (f : ℕ → Bend) (es : List Entry) (z : Line) (e : ℕ) : Type 0 where
  was : e < length old → get_or (old ++ new_lines new f 0 es) e z ≡ get_or old e z → Read old new f es z e
  entry : (i : ℕ) → i < length es → e ≡ length old + i → OfEntry new (get_or (points_of es) i 0) (f i) (get_or (old ++ new_lines new f 0 es) e z) →
      Read old new f es z e

-- how many lines there are then
pub length-lines : (old : List Line) (new : ℕ) (f : ℕ → Bend) (es : List Entry) → length (old ++ new_lines new f 0 es) ≡ length old + length es
length-lines old new f es = simp (length-append, length_new)

-- every line is read so
pub read : (old : List Line) (new : ℕ) (f : ℕ → Bend) (es : List Entry) (z : Line) (e : ℕ) → e < length (old ++ new_lines new f 0 es) → Read old new f es z e
read old new f es z e h = go (ltb e (length old)) refl
  where
    go : (t : Bool) → ltb e (length old) ≡ t → Read old new f es z e
    go true k = let u = ltb-true e (length old) k in was u (get_or-append old (new_lines new f 0 es) z e u)
    go false k =
        let u = ltb-false e (length old) k in
        let i : ℕ = e - length old in
        let i< : i < length es = omega (arith, length-lines old new f es) in
        let sum : e ≡ length old + i = omega arith in
        let t : OfEntry new (get_or (points_of es) i 0) (f i) (get_or (new_lines new f 0 es) i z) = rw zero-add at (get_d_new_lines new f 0 es i z i<) in
        let q : get_or (old ++ new_lines new f 0 es) e z ≡ get_or (new_lines new f 0 es) i z =
        ap (λ (v : ℕ). get_or (old ++ new_lines new f 0 es) v z) sum ∙ get_or-append-add old (new_lines new f 0 es) i z
        in
        entry i i< sum (rw q t)

-- the bends of the last entry and of those between the first and the last
pub bend_last : (a b last from i : ℕ) → 0 < i → i ≡ last → new_bend a b last from i ≡ Left b
bend_last a b last from i z e = rw (ne_eqb i 0 (omega arith), eq-eqb i last e)

pub bend-inner : (a b last from i : ℕ) → 0 < i → i < last → new_bend a b last from i ≡ Middle (middle_of from i)
bend-inner a b last from i z e = rw (ne_eqb i 0 (omega arith), ne_eqb i last (omega arith))

-- element p after it changed
pub alter_at : (f : ℕ → ℕ) (l : List ℕ) (p : ℕ) → 0 < p → p ≤ length l → nth (alter f l p) p 0 ≡ f (nth l p 0)
alter_at f [] p z h = absurd (omega arith)
alter_at f (a ∷ l) zero z h = absurd (omega arith)
alter_at f (a ∷ l) (suc zero) z h = refl
alter_at f (a ∷ l) (suc (suc i)) z h = alter_at f l (suc i) (omega arith) (le_of_suc-le-suc h)
