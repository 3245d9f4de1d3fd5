-- The first cut line that ends at a point, read from the arrays.
use Rattle.std.specs.Prelude.{ℕ, ◌<◌, ◌≡◌, refl, Bool, true, false, ◌&&◌, length, get_or, Option, Some, None, Ok, Err}
use Rattle.std.proofs.Common.{sym, ◌∙◌, arith}
use Rattle.std.proofs.Math.Path.{ap}
use Rattle.rules.specs.declared.Line.{Line}
use Rattle.rules.specs.declared.Refusal.TheVariants.{NoSuch}
use Rattle.rules.specs.Basics.{between}
use Rattle.rules.specs.Bools.{both}
use Rattle.rules.specs.Entries.{is_cut}
use Rattle.rules.specs.Points.{Drawing as Plan, line_at}
use Rattle.rules.specs.Demand.{ends_at}
use Rattle.rules.specs.Lookups.{CutLineAt, LooksCut}
use Rattle.store_links.specs.declared.Counts.{Counts}
use Rattle.store_links.specs.Arrays.{Arrays}
use Rattle.store_links.specs.Opening.{no_line}
use Rattle.store_laws.specs.Adding.{Holds}
use Rattle.store_settling.specs.Lines.{line_is}
use Rattle.rules.specs.Refusals.{refusal_at}
use Rattle.answers.specs.Told.{told_cut}

-- a line is cut and ends at p
abbrev pub cut_to : Line → ℕ → Bool
cut_to l p = is_cut l.kind && ends_at p l

-- line e of the arrays is
unfoldable pub cut_at : Arrays → ℕ → ℕ → Bool
cut_at a p e = cut_to (get_or a.lines e no_line) p

-- r is the first such line of `lines` lines
pub record IsFirst (a : Arrays) (lines p r : ℕ) : Type 0 where
  pub within : r < lines
  pub before : (e : ℕ) → e < r → cut_at a p e ≡ false
  pub found : cut_at a p r ≡ true

-- the first such line, or that there is none
abbrev pub FirstCut : Arrays → ℕ → ℕ → Option ℕ → Type 0
FirstCut a lines p (Some r) = IsFirst a lines p r
FirstCut a lines p None = (e : ℕ) → e < lines → cut_at a p e ≡ false

module _ {q : Plan} {a : Arrays} {c : Counts} (h : Holds q a c) (p : ℕ) where
  -- The test on the arrays is the rules' on the drawing.
  cut_is : (e : ℕ) → e < length q.lines → cut_at a p e ≡ (is_cut (line_at q e).kind && ends_at p (line_at q e))
  unfolding cut_at
  cut_is e el = ap (λ (l : Line). cut_to l p) (line_is h.stores e el)

  module _ (is : between 1 c.k p ≡ true) where
    point_there : between 1 q.k p ≡ true
    point_there = rw h.stores.k at is

    -- A line that was found is one; where none was found there is none.
    pub finds : (o : Option ℕ) → FirstCut a c.lines p o → LooksCut q p (told_cut (Ok o))
    finds (Some r) f =
        let el : r < length q.lines = omega (arith, f.within, h.stores.lines) in
        let t = both (is_cut (line_at q r).kind) (ends_at p (line_at q r)) (sym (cut_is r el) ∙ f.found) in
        (point_there, record { there = el; cuts = t.0; ends = t.1 })
    finds None f = (point_there, λ e t. none e t)
      where
        none : (e : ℕ) → CutLineAt q p e → ⊥
        none e t =
            let z : cut_at a p e ≡ false = f e (omega (arith, t.there, h.stores.lines)) in
            let y : cut_at a p e ≡ true = cut_is e t.there ∙ rw (t.cuts, t.ends) in
            let x : ◌≡◌ {A = ℕ} 0 1 = cc in
            omega arith

  -- No such point.
  pub no_point_cut : between 1 c.k p ≡ false → LooksCut q p (told_cut (Err (refusal_at NoSuch 0)))
  no_point_cut b = (rw h.stores.k at b, refl, refl)
