-- The part of 8 about free ends outlives the step.
use Rattle.std.specs.Prelude.{ℕ, ◌<◌, ◌≡◌, ◌≢◌}
use Rattle.std.proofs.Common.{sym, ap, ◌∙◌, arith}
use Rattle.rules.specs.declared.Style.TheVariants.{OneBend}
use Rattle.net.specs.Side.{Side, rt, cols-eq}
use Rattle.net.specs.Net.{Net, middle, flat, Beyond, beyond_not}
use Rattle.net.specs.Inv.{Points, Lines, Frees}
use Rattle.net.specs.Adds.{Line, old, tip, rib, Adds}
use Rattle.net.specs.Ports.{Sided, was, new, sided, Mid, had, got, mid, within_of}
use Rattle.net.specs.BendKinds.{stays}

-- the earlier end of a middle line is not on the boundary
covered : {g : Net} → Points OneBend g → Lines OneBend g → (e j i : ℕ) → e < g.L → g.kind e ≡ middle j → i < g.m → g.u e ≢ g.w i
covered {g} h n e j i el ek im q =
    let o = n.ends e el in
    let f = within_of (g.kind e) ek (n.fits e el) in
    let c : i ≡ g.col (g.v e) = omega (arith, f.0, ap g.col q, (h.on i im).1) in
    let d : g.v e ≢ g.w i = λ z. let b : Beyond OneBend rt g (g.v e) (g.v e) = rw (q ∙ sym z) at f.1 in beyond_not rt b b in
    beyond_not rt f.1 (rw q (h.walls rt i (g.v e) im o.1 d (cols-eq rt c)))

module _ {g g' : Net} {l r : ℕ} (h : Points OneBend g) (n : Lines OneBend g) (a : Adds OneBend g g' l r) where
  late' : (s : Side) (i j e f : ℕ) → Frees g → Sided h n a s i e → Sided h n a s j f → g'.v e ≡ g'.v f → e ≡ f
  late' s i j e f b (was el ek eu ev) (was fl fk fu fv) q = b.late s i j e f el fl ek fk (omega arith)
  late' s i j e f b (was el ek eu ev) (new fn fj fu fv) q = absurd (omega (arith, n.ends e el))
  late' s i j e f b (new en ej eu ev) (was fl fk fu fv) q = absurd (omega (arith, n.ends f fl))
  late' s i j e f b (new en ej eu ev) (new fn fj fu fv) q = omega arith

  cover' : (i j e f : ℕ) → Frees g → Mid h n a i e → Mid h n a j f → g'.u e ≡ g'.u f → e ≡ f
  cover' i j e f b (had el ek eu ev) (had fl fk fu fv) q = b.cover i j e f el fl ek fk (omega arith)
  cover' i j e f b (had el ek eu ev) (got c lc cr fn fj fu fv) q = absurd (covered h n e i c el ek (omega (arith, a.rm)) (omega arith))
  cover' i j e f b (got c lc cr en ej eu ev) (had fl fk fu fv) q = absurd (covered h n f j c fl fk (omega (arith, a.rm)) (omega arith))
  cover' i j e f b (got c lc cr en ej eu ev) (got c' lc' cr' fn fj fu fv) q =
      let z : g.w c ≡ g.w c' = omega arith in
      omega (arith, ap g.col z, (h.on c (omega (arith, a.rm))).1, (h.on c' (omega (arith, a.rm))).1)

  base' : (e : ℕ) → Frees g → Line OneBend g g' l r a.port e → g'.kind e ≡ flat → e ≡ 0
  base' e b (old el eu ev ek) q = b.base e el (cc)
  base' e b (tip s i eu ev ek) q = let z : ◌≡◌ {A = ℕ} 0 1 = cc in absurd (omega arith)
  base' e b (rib i li ir en eu ev ek) q = let z : ◌≡◌ {A = ℕ} 0 1 = cc in absurd (omega arith)

  first' : (e : ℕ) → Frees g → Line OneBend g g' l r a.port e → 0 < e → (g'.v e ≢ g'.u 0) × (g'.v e ≢ g'.v 0)
  first' e b (old el eu ev ek) z = let o = stays h a 0 b.some in rw (o.2, o.3, ev) (b.first e el z)
  first' e b (tip s i eu ev ek) z = let o = stays h a 0 b.some in let k = n.ends 0 b.some in (omega arith, omega arith)
  first' e b (rib i li ir en eu ev ek) z = let o = stays h a 0 b.some in let k = n.ends 0 b.some in (omega arith, omega arith)

  pub frees' : Frees g → Frees g'
  frees' b =
      record {
        late = λ s i j e f el fl ek fk. late' s i j e f b (sided h n a s i e (a.line e el) ek) (sided h n a s j f (a.line f fl) fk);
        cover = λ i j e f el fl ek fk. cover' i j e f b (mid h n a i e (a.line e el) ek) (mid h n a j f (a.line f fl) fk);
        some = (stays h a 0 b.some).0;
        base = λ e el. base' e b (a.line e el);
        grounded = let o = stays h a 0 b.some in (o.2 ∙ b.grounded.0, o.3 ∙ b.grounded.1);
        first = λ e el. first' e b (a.line e el);
      }
