-- The header and the scale: what each test makes of the file.
use Rattle.std.proofs.Common.{◌∙◌, arith, eq-eqb, ne_eqb}
use Rattle.std.specs.Prelude.{ℕ, ◌<◌, ◌≤◌, ◌≡◌, true, false, List, [], ◌∷◌, Ok, Err, length}
use Rattle.rules.specs.declared.Style.{Style}
use Rattle.rules.specs.declared.Refusal.{Refusal}
use Rattle.rules.specs.declared.Refusal.TheVariants.{OutOfRange}
use Rattle.rules.specs.Basics.{between}
use Rattle.rules.specs.Refusals.{Answer, good, refused, ◌>>=◌}
use Rattle.rules.specs.Records.{read_record, order_head, scale_shape, scale_mark}
use Rattle.rules.specs.OrderFile.{given_scale, read_scale, read_points, read_order}
use Rattle.words.specs.Bytes.{word_at}
use Rattle.rules.specs.Bools.{in_range}
use Rattle.read_records.specs.Cursors.{cursor, found, none_left, one_left}
use Rattle.read_start.specs.declared.Head.{Head}
use Rattle.read_start.specs.Heading.{ScaleRead, HeadRead}

-- a scale is marked behind the header
pub record Marked (f : List ℕ) : Type 0 where
  pub room : 6 ≤ length f
  pub mark : word_at f 4 ≡ scale_mark

module _ {f : List ℕ} (k : Marked f) where
  scale_by : read_scale (cursor f 4) ≡ given_scale (cursor f 4)
  scale_by = rw (one_left f 4 k.room, eq-eqb (word_at f 4) scale_mark k.mark)

  pub bad_scale : (r : Refusal) (p : ℕ) → read_record scale_shape (cursor f 4) ≡ refused r p → read_scale (cursor f 4) ≡ refused r p
  bad_scale r p e = scale_by ∙ rw e

  module _ (s : ℕ) (e : read_record scale_shape (cursor f 4) ≡ found f 4 (s ∷ []) 8) where
    pub scale_out : between 2 8 s ≡ false → read_scale (cursor f 4) ≡ refused OutOfRange 4
    scale_out b = scale_by ∙ rw (e, b)

    pub scale_in : between 2 8 s ≡ true → read_scale (cursor f 4) ≡ good (record { s = s; next = cursor f 8 })
    scale_in b = scale_by ∙ rw (e, b)

module _ (f : List ℕ) where
  -- ---- the scale behind the header

  pub no_scale : length f < 6 → read_scale (cursor f 4) ≡ good (record { s = 1; next = cursor f 4 })
  no_scale l = rw (none_left f 4 l)

  pub other_mark : (w : ℕ) → 6 ≤ length f → w ≡ word_at f 4 → (w ≡ scale_mark → ⊥) → read_scale (cursor f 4) ≡ good (record { s = 1; next = cursor f 4 })
  other_mark w l q n = rw (one_left f 4 l, ← q, ne_eqb w scale_mark n)

  -- ---- the header

  pub bad_head : (r : Refusal) (p : ℕ) → read_record order_head (cursor f 0) ≡ refused r p → (τ : Style) → read_order τ f ≡ refused r p
  unfolding read_order
  bad_head r p e τ = rw e

  module _ (n : ℕ) (e : read_record order_head (cursor f 0) ≡ found f 0 (n ∷ []) 4) where
    pub head_out : between 3 1024 n ≡ false → (τ : Style) → read_order τ f ≡ refused OutOfRange 0
    unfolding read_order
    head_out b τ = rw (e, b)

    head_in : between 3 1024 n ≡ true → (τ : Style) → read_order τ f ≡ (read_scale (cursor f 4) >>= λ c. read_points τ n c.s c.next)
    unfolding read_order
    head_in b τ = rw (e, b)

    -- with the scale
    pub head-scale : (h : Answer Head) → between 3 1024 n ≡ true → ScaleRead f n h → HeadRead f h
    head-scale (Ok h) b t =
        let r = in_range 3 1024 n b in
        (omega (arith, t.0, r.0), omega (arith, t.0, r.1), t.1, λ τ. head_in b τ ∙ rw (t.2, t.0))
    head-scale (Err e) b t = λ τ. head_in b τ ∙ rw t
