-- The drawing as opened is sound.
use Rattle.std.specs.Prelude.{ℕ, zero, suc, ◌≡◌, refl}
use Rattle.std.proofs.Common.{sym, subst, arith}
use Rattle.rules.specs.declared.Style.{Style}
use Rattle.rules.specs.declared.Style.TheVariants.{OneBend, Straight}
use Rattle.rules.specs.declared.Kind.{Kind}
use Rattle.rules.specs.Styles.{taken}
use Rattle.rules.specs.Points.{Drawing, owner_of, start}
use Rattle.net.specs.Side.{Side, rt, lf}
use Rattle.net.specs.Net.{Net, flat, side_kind}
use Rattle.net.specs.Start.{by3, by3-own, three, core-start}
use Rattle.net.specs.Start as Start
use Rattle.net.specs.Inv.{Core}
use Rattle.net.specs.Opened.{inv-opened, border-opened, degs-opened}
use Rattle.net.specs.Size.{width-opened}
use Rattle.promise.specs.Nets.{net_of, ports_of}
use Rattle.promise.specs.Sound.{Sized, Root, Rooted, Ended, Rest, Sound}

-- its kinds are those of the opened net
kinds : (τ : Style) (n s : ℕ) (c1 c2 c3 : Kind) → let g = net_of (start τ n s c1 c2 c3) in
    g.kind ≡ by3 flat (side_kind τ rt (taken τ 0)) (side_kind τ lf (taken τ 0)) g.kind
kinds OneBend n s c1 c2 c3 = by3-own (net_of (start OneBend n s c1 c2 c3)).kind
kinds Straight n s c1 c2 c3 = by3-own (net_of (start Straight n s c1 c2 c3)).kind

-- what each style keeps besides
rest-opened : (τ : Style) (g : Net) → Rest τ (Start.start τ g)
rest-opened OneBend g =
    let i = inv-opened g in
    record { ports = i.ports; slopes = i.slopes; frees = i.frees; border = border-opened g; degs = degs-opened g }
rest-opened Straight g = width-opened g

module _ (τ : Style) (n s : ℕ) (c1 c2 c3 : Kind) where
  -- the drawing as opened
  abbrev d : Drawing
  d = start τ n s c1 c2 c3

  -- its ports are those of the opened net
  ports : (t : Side) → ports_of d t ≡ Start.counts τ (ports_of d) t
  ports rt = by3-own (ports_of d rt)
  ports lf = by3-own (ports_of d lf)

  -- its net is the opened one: past the three points too, where `Start.start` takes what is there
  is_opened : net_of d ≡ Start.start τ (net_of d)
  unfolding Start.start
  is_opened =
      λ i. let g = net_of d in
      record {
        k = 3;
        m = 3;
        L = 3;
        x = by3-own g.x i;
        y = by3-own g.y i;
        col = by3-own g.col i;
        own = by3-own g.own i;
        w = by3-own g.w i;
        u = by3-own g.u i;
        v = by3-own g.v i;
        kind = kinds τ n s c1 c2 c3 i;
        d = λ t. ports t i;
        h = by3-own g.h i;
      }

  -- three numbers in every list
  sized : Sized d
  sized = record { owners = refl; xs = refl; ys = refl; dls = refl; drs = refl; hs = refl }

  -- nobody owns a point
  nobody : (p : ℕ) → owner_of d (suc p) ≡ 0
  nobody zero = refl
  nobody (suc zero) = refl
  nobody (suc (suc zero)) = refl
  nobody (suc (suc (suc p))) = refl

  -- every point stands on the boundary and climbs to itself
  rooted : Rooted d
  rooted =
      record {
        root =
            three (λ p. Root d (suc p))
            (record { z = 0; up = refl; placed = omega arith; nobody = refl })
            (record { z = 1; up = refl; placed = omega arith; nobody = refl })
            (record { z = 2; up = refl; placed = omega arith; nobody = refl });
        free = λ p h. nobody p;
        low = three _ (omega arith) (omega arith) (omega arith);
      }

  -- the ends of the three lines
  ended : Ended d
  ended = record { ends = three _ (omega arith) (omega arith) (omega arith) }

  -- the drawing as opened is sound, for both styles, any n and s, and each line of any kind
  pub sound-start : Sound (start τ n s c1 c2 c3)
  sound-start =
      record {
        sized = sized;
        rooted = rooted;
        ended = ended;
        core = subst (Core τ) (sym is_opened) (core-start (net_of d) τ);
        rest = subst (Rest τ) (sym is_opened) (rest-opened τ (net_of d));
      }
