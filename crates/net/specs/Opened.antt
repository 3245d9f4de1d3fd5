-- The one-bend drawing as opened: points 0, 1, 2 at (0,0), (6,0), (3,2), and no middle port.
use Rattle.std.specs.Prelude.{ℕ, ◌<◌, ◌≤◌, ◌≡◌, refl}
use Rattle.std.proofs.Common.{arith}
use Rattle.rules.specs.declared.Style.TheVariants.{OneBend}
use Rattle.net.specs.Side.{Side, rt, lf}
use Rattle.net.specs.Net.{Net, BendKind, side, middle, flat}
use Rattle.net.specs.Start.{by3, counts, three, start, core-start}
use Rattle.net.specs.Degs.{tally, hits, deg, Degs}
use Rattle.net.specs.Inv.{Ports, Slope, Slopes, Frees, Inv, Border}

-- the opened drawing, over any net past its three points
abbrev pub opened : Net → Net
opened g = start OneBend g

-- ---- the three lines by their kinds

-- the kinds of the three lines
abbrev kinds : (ℕ → BendKind) → ℕ → BendKind
kinds f = by3 flat (side rt 1) (side lf 1) f

-- the line at a port on side s
abbrev num : Side → ℕ
num rt = 1
num lf = 2

-- What each line tells where it is at port j of side s: line 0 never is, line 1 is the right one, line 2 the left one.
none : (s : Side) (j : ℕ) → flat ≡ side s j → (0 ≡ num s) × (j ≡ 1)
none s j q = let z : ◌≡◌ {A = ℕ} 0 1 = cc in absurd (omega arith)

right : (s : Side) (j : ℕ) → side rt 1 ≡ side s j → (1 ≡ num s) × (j ≡ 1)
right rt j q = (refl, cc)
right lf j q = let z : ◌≡◌ {A = ℕ} 0 1 = cc in absurd (omega arith)

left : (s : Side) (j : ℕ) → side lf 1 ≡ side s j → (2 ≡ num s) × (j ≡ 1)
left rt j q = let z : ◌≡◌ {A = ℕ} 0 1 = cc in absurd (omega arith)
left lf j q = (refl, cc)

module _ (f : ℕ → BendKind) where
  -- a line at a port is the line of that side, at port 1
  placed : (s : Side) (j e : ℕ) → e < 3 → kinds f e ≡ side s j → (e ≡ num s) × (j ≡ 1)
  placed s j = three (λ e. kinds f e ≡ side s j → (e ≡ num s) × (j ≡ 1)) (none s j) (right s j) (left s j)

  -- no line is at a middle port
  no_middle : (j e : ℕ) → e < 3 → kinds f e ≡ middle j → ⊥
  no_middle j =
      three (λ e. kinds f e ≡ middle j → ⊥)
      (λ q. let z : ◌≡◌ {A = ℕ} 0 1 = cc in omega arith)
      (λ q. let z : ◌≡◌ {A = ℕ} 0 1 = cc in omega arith)
      (λ q. let z : ◌≡◌ {A = ℕ} 0 1 = cc in omega arith)

  -- line 0 alone is flat
  base : (e : ℕ) → e < 3 → kinds f e ≡ flat → e ≡ 0
  base =
      three (λ e. kinds f e ≡ flat → e ≡ 0)
      (λ q. refl) (λ q. let z : ◌≡◌ {A = ℕ} 0 1 = cc in omega arith) (λ q. let z : ◌≡◌ {A = ℕ} 0 1 = cc in omega arith)

-- ---- the parts of the invariant that only bends ask

module _ (g : Net) where
  -- each port has its line
  used : (s : Side) (p : ℕ) → p < 3 → (j : ℕ) → 0 < j → j ≤ counts OneBend g.d s p → (e : ℕ) × (e < 3) × (kinds g.kind e ≡ side s j) × (by3 0 0 1 g.u e ≡ p)
  used rt =
      three _ (λ j z b. let i : j ≡ 1 = omega arith in (1, omega arith, rw i, refl)) (λ j z b. absurd (omega arith)) (λ j z b. absurd (omega arith))
  used lf =
      three _ (λ j z b. absurd (omega arith)) (λ j z b. let i : j ≡ 1 = omega arith in (2, omega arith, rw i, refl)) (λ j z b. absurd (omega arith))

  -- 7
  ports : Ports OneBend (opened g)
  unfolding start
  ports =
      record {
        used = λ s p j pk. used s p pk j;
        once = λ s j e f el fl ek fk q. omega (arith, placed g.kind s j e el ek, placed g.kind s j f fl fk);
        stack = λ s i j e f el fl ek fk q lt. absurd (omega (arith, placed g.kind s i e el ek, placed g.kind s j f fl fk));
        single = λ j e f el fl ek fk q. absurd (no_middle g.kind j e el ek);
        row = λ i j e f el fl ek fk q lt. absurd (no_middle g.kind i e el ek);
      }

  -- the free pieces of lines 1 and 2
  slope : (s : Side) → Slope s (opened g) ((opened g).u (num s)) ((opened g).v (num s)) 1
  unfolding start
  slope rt = omega arith
  slope lf = omega arith

  -- 4
  slopes : Slopes (opened g)
  unfolding start
  slopes =
      record {
        slope = λ s j e el ek. let z = placed g.kind s j e el ek in rw (z.0, z.1) (slope s);
        reach = λ j e el ek. absurd (no_middle g.kind j e el ek);
      }

  -- 8 in part
  frees : Frees (opened g)
  unfolding start
  frees =
      record {
        late = λ s i j e f el fl ek fk q. omega (arith, placed g.kind s i e el ek, placed g.kind s j f fl fk);
        cover = λ i j e f el fl ek fk q. absurd (no_middle g.kind i e el ek);
        some = omega arith;
        grounded = (refl, refl);
        base = base g.kind;
        first = three _ (omega arith) (omega arith) (omega arith);
      }

  -- the opened drawing keeps the invariant
  pub inv-opened : Inv (opened g)
  inv-opened = record { core = core-start g OneBend; ports = ports; slopes = slopes; frees = frees }

  -- its width is 6
  pub border-opened : Border (opened g)
  unfolding start
  border-opened = record { width = omega arith; least = omega arith }

  -- two lines end at each point
  sides : (s : Side) (p : ℕ) → p < 3 → (opened g).d s p < deg (opened g) p
  unfolding start deg tally hits
  sides rt = three _ (omega arith) (omega arith) (omega arith)
  sides lf = three _ (omega arith) (omega arith) (omega arith)

  -- and no point has a middle row
  pub degs-opened : Degs (opened g)
  unfolding start deg tally hits
  degs-opened = record { sides = sides; depth = three _ (omega arith) (omega arith) (omega arith) }
