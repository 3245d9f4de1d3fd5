-- The lines after an accepted call: the old ones as they were stored, and behind them one for each entry.
use Rattle.std.specs.Prelude.{ℕ, zero, suc, pred, ◌+◌, ◌-◌, ◌<◌, ◌≡◌, refl, List, [], ◌∷◌, ◌++◌, map, length, take}
use Rattle.std.proofs.Math.Path.{ap}
use Rattle.std.proofs.Common.{sym, ◌∙◌, le_of_suc-le-suc, not-suc-le-zero, add-zero, add-suc, suc-add, zero-add, arith, get_or-append-add, get_or-take, ext_get_or, length-take-le}
use Rattle.std.proofs.Math.Decide.{dec_lt}
use Rattle.std.proofs.Math.ListN.{get_or, get_or-append}
use Rattle.std.proofs.lemmas.List.{length-map}
use Rattle.rules.specs.declared.Line.{Line}
use Rattle.rules.specs.declared.Bend.{Bend}
use Rattle.rules.specs.Basics.{nth, alter}
use Rattle.rules.specs.Styles.{taken, bent}
use Rattle.rules.specs.Points.{Drawing, dl_of, dr_of, w, line_at}
use Rattle.rules.specs.Readings.{entry_of}
use Rattle.rules.proofs.Lengths.{length-call, first_at}
use Rattle.rules.specs.Adding.{points_of, new_lines, new_bend, D}
use Rattle.store_links.specs.declared.Spot.{Spot}
use Rattle.store_links.specs.declared.Counts.{Counts}
use Rattle.store_links.specs.Arrays.{Arrays, at_point}
use Rattle.store_links.specs.Placing.{entry_point}
use Rattle.store_links.specs.Opening.{no_line}
use Rattle.store_links.specs.Storing.{line_of, new_line, filled, with_point}
use Rattle.promise.specs.Next.{next}
use Rattle.promise.specs.Lined.{length-lines, alter_at}
use Rattle.promise.specs.Lines.{change_of}
use Rattle.store_laws.specs.Puts.{length-filled, filled_in, filled_out}
use Rattle.store_laws.specs.Points.{Call, after, first_w, last_w, lm, w_low}

-- ---- plain lists

-- The new lines, read by index.
get_d_new : (new : ℕ) (f : ℕ → Bend) (q : ℕ) (es : List ℕ) (i : ℕ) (z : Line) → i < length es →
    get_or (new_lines new f q (map entry_of es)) i z ≡ line_of new (f (q + i)) (get_or es i 0)
get_d_new new f q [] i z h = absurd (not-suc-le-zero h)
get_d_new new f q (e ∷ es) zero z h = rw (add-zero q)
get_d_new new f q (e ∷ es) (suc i) z h = rw (add-suc, ← suc-add) (get_d_new new f (suc q) es i z (le_of_suc-le-suc h))

-- the bends of the entries' lines
abbrev new_bends : Drawing → List ℕ → ℕ → ℕ → ℕ → Bend
new_bends d es l r i = bent d.style (new_bend (taken d.style (dr_of d (w d l))) (taken d.style (dl_of d (w d r))) (length es - 1) (change_of d (map entry_of es) l r) i)

-- line e after the call is an old one, or that of entry i
data Seen (d : Drawing) (es : List ℕ) (l r e : ℕ) : Type 0 where
  was : e < length d.lines → line_at (after d es l r) e ≡ line_at d e → Seen d es l r e
  comes : (i : ℕ) → i < length es → e ≡ length d.lines + i → line_at (after d es l r) e ≡ line_of (suc d.k) (new_bends d es l r i) (get_or es i 0) → Seen d es l r e

-- The lines after the call, with the counts of the ends as the next drawing has them.
lines-grown : (d : Drawing) (es : List ℕ) (l r : ℕ) →
    (after d es l r).lines ≡
    d.lines ++
    new_lines (suc d.k)
    (λ i. bent d.style (new_bend (nth (alter (taken d.style) d.drs (w d l)) (w d l) 0) (nth (alter (taken d.style) d.dls (w d r)) (w d r) 0) (D (points_of (map entry_of es))) (change_of d (map entry_of es) l r) i)) 0 (map entry_of es)
unfolding next change_of
lines-grown d es l r = refl

module _ {d : Drawing} {a : Arrays} {c : Counts} {es : List ℕ} {l r : ℕ} {p : Spot} {from : ℕ} (h : Call d a c es l r p from) where
  -- The lines after the call: the old ones, then those of the entries.
  lines_after : (after d es l r).lines ≡ d.lines ++ new_lines (suc d.k) (new_bends d es l r) 0 (map entry_of es)
  lines_after =
      let u = w_low h l (lm h) in
      let v = w_low h r h.run.rm in
      let s = h.sound.sized in
      lines-grown d es l r ∙
      rw (alter_at (taken d.style) d.drs (w d l) u.0 (omega (arith, s.drs)), alter_at (taken d.style) d.dls (w d r) v.0 (omega (arith, s.dls)), length-call es)

  -- There is one more for each entry.
  pub count_after : length (after d es l r).lines ≡ length d.lines + length es
  count_after =
      ap length lines_after ∙ length-lines d.lines (suc d.k) (new_bends d es l r) (map entry_of es) ∙ ap (λ (n : ℕ). length d.lines + n) (length-map es entry_of)

  -- Every line is seen so.
  seen : (e : ℕ) → e < length (after d es l r).lines → Seen d es l r e
  seen e b =
      elim (dec_lt e (length d.lines)) [
        | yes k ↦ was k (ap (λ (t : List Line). get_or t e no_line) lines_after ∙ get_or-append d.lines new no_line e k)
        | no k ↦
            let i : ℕ = e - length d.lines in
            let s : e ≡ length d.lines + i = omega arith in
            let ib : i < length es = omega (arith, count_after) in
            comes i ib s
            (ap (λ (t : List Line). get_or t e no_line) lines_after ∙
            ap (λ (n : ℕ). get_or (d.lines ++ new) n no_line) s ∙
            get_or-append-add d.lines new i no_line ∙
            get_d_new (suc d.k) (new_bends d es l r) 0 es i no_line ib ∙
            ap (λ (n : ℕ). line_of (suc d.k) (new_bends d es l r n) (get_or es i 0)) (zero-add i))
      ]
    where
      new : List Line
      new = new_lines (suc d.k) (new_bends d es l r) 0 (map entry_of es)

  -- ---- what the array holds

  -- The new lines are the rules' of the entries.
  new_is : (i : ℕ) → new_line c.style (suc c.k) (taken c.style (at_point a.drs (entry_point es 0))) (taken c.style (at_point a.dls (entry_point es (length es - 1)))) from es i ≡ line_of (suc d.k) (new_bends d es l r i) (get_or es i 0)
  new_is i =
      let u = w_low h l (lm h) in
      let v = w_low h r h.run.rm in
      rw (
        h.stores.style,
        h.stores.k,
        first_w h,
        last_w h,
        first_at a.drs d.drs d.k (pred (w d l)) h.stores.drs (omega arith),
        first_at a.dls d.dls d.k (pred (w d r)) h.stores.dls (omega arith),
        h.spotted.change,
      )

  -- The lines are the next drawing's.
  pub lines_kept : take (length (after d es l r).lines) (with_point a c es p from).lines ≡ (after d es l r).lines
  unfolding with_point
  lines_kept =
      ext_get_or no_line _ _ first
      (λ e b. let t : e < total = omega (arith, b, first) in get_or-take total lines e no_line t ∙ go e (seen e t))
    where
      total : ℕ
      total = length (after d es l r).lines

      new : ℕ → Line
      new = new_line c.style (suc c.k) (taken c.style (at_point a.drs (entry_point es 0))) (taken c.style (at_point a.dls (entry_point es (length es - 1)))) from es

      lines : List Line
      lines = filled new a.lines c.lines (length es)

      first : length (take total lines) ≡ total
      first = length-take-le total lines (omega (arith, count_after, h.fits, length-filled new a.lines c.lines (length es), h.sized.lines))

      go : (e : ℕ) → Seen d es l r e → get_or lines e no_line ≡ line_at (after d es l r) e
      go e (was k t) =
          filled_out new a.lines c.lines (length es) e no_line (omega (arith, h.stores.lines)) ∙
          sym (get_or-take (length d.lines) a.lines e no_line k) ∙ ap (λ (q : List Line). get_or q e no_line) h.stores.drawn ∙ sym t
      go e (comes i ib s t) =
          let u : e ≡ c.lines + i = omega (arith, h.stores.lines) in
          ap (λ (n : ℕ). get_or lines n no_line) u ∙ filled_in new a.lines c.lines (length es) i no_line (omega (arith, h.fits, h.sized.lines, h.stores.lines)) ib ∙ new_is i ∙ sym t
