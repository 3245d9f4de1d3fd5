-- The arrays as opened store the drawing as opened.
use Rattle.std.specs.Prelude.{ℕ, zero, suc, ◌+◌, ◌<◌, ◌≤◌, ◌≡◌, [], ◌∷◌, take}
use Rattle.std.proofs.Math.Path.{refl}
use Rattle.std.proofs.Common.{arith}
use Rattle.rules.specs.declared.Style.{Style}
use Rattle.rules.specs.declared.Style.TheVariants.{OneBend, Straight}
use Rattle.rules.specs.declared.Kind.{Kind}
use Rattle.rules.specs.declared.Bend.{Bend}
use Rattle.rules.specs.declared.Bend.TheVariants.{Left, Right, NoBend}
use Rattle.rules.specs.declared.Entry.{Entry}
use Rattle.rules.specs.declared.Line.{Line}
use Rattle.rules.specs.Styles.{second_x, third_x, bent}
use Rattle.rules.specs.Readings.{entry_of}
use Rattle.rules.specs.Points.{Drawing, x_of, owner_of, w, start}
use Rattle.store_links.specs.Arrays.{Sized, Stores, at_point, gap_offset}
use Rattle.store_links.specs.Opening.{open_arrays, open_counts, three_lines}

-- Point 3 stands as far from point 1 as from point 2.
halfway : (τ : Style) → second_x τ ≡ third_x τ + third_x τ
halfway OneBend = refl
halfway Straight = refl

module _ (τ : Style) (n s : ℕ) (c1 c2 c3 : Kind) (a b c : ℕ) where
  abbrev d : Drawing
  d = start τ n s c1 c2 c3

  pub sized_open : Sized (open_arrays τ a b c)
  unfolding open_arrays
  sized_open = record { next = refl; gap = refl; owner = refl; ys = refl; dls = refl; drs = refl; hs = refl; lines = refl }

  module _ (h1 : entry_of a ≡ record { point = 1; kind = c1 }) (h2 : entry_of b ≡ record { point = 1; kind = c2 }) (h3 : entry_of c ≡ record { point = 2; kind = c3 }) where
    link : (i : ℕ) → suc i < 3 → at_point (open_arrays τ a b c).next (w d i) ≡ w d (suc i)
    unfolding open_arrays
    link zero h = refl
    link (suc zero) h = refl
    link (suc (suc i)) h = absurd (omega arith)

    step : (i : ℕ) → suc i < 3 → x_of d (w d (suc i)) ≡ x_of d (w d i) + at_point (open_arrays τ a b c).gap (w d (suc i))
    unfolding open_arrays
    step zero h = omega arith
    step (suc zero) h = halfway τ
    step (suc (suc i)) h = absurd (omega arith)

    hang : (p o : ℕ) → suc p ≤ 3 → owner_of d (suc p) ≡ suc o → x_of d (suc p) + gap_offset ≡ x_of d (suc o) + at_point (open_arrays τ a b c).gap (suc p)
    hang zero o h q = absurd (omega (arith, q))
    hang (suc zero) o h q = absurd (omega (arith, q))
    hang (suc (suc zero)) o h q = absurd (omega (arith, q))
    hang (suc (suc (suc p))) o h q = absurd (omega arith)

    drawn : take 3 (three_lines τ a b c) ≡ d.lines
    drawn = λ i. line 2 NoBend (h1 i) ∷ line 3 (bent τ (Right 1)) (h2 i) ∷ line 3 (bent τ (Left 1)) (h3 i) ∷ []
      where
        line : ℕ → Bend → Entry → Line
        line v b e = record { later = v; earlier = e.point; bend = b; kind = e.kind }

    pub stores_open : Stores d (open_arrays τ a b c) (open_counts τ n s)
    unfolding open_arrays
    stores_open =
        record {
          style = refl;
          n = refl;
          s = refl;
          k = refl;
          m = refl;
          lines = refl;
          owner = refl;
          ys = refl;
          dls = refl;
          drs = refl;
          hs = refl;
          link = link;
          last = refl;
          step = step;
          hang = hang;
          drawn = drawn;
        }
