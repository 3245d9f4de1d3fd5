-- 8, for both drawings: two different lines differ in at least one end.
use Rattle.std.specs.Prelude.{ℕ, ◌+◌, ◌<◌, ◌≡◌}
use Rattle.std.proofs.Common.{ap, arith}
use Rattle.rules.specs.declared.Style.{Style}
use Rattle.net.specs.Side.{at, at_in}
use Rattle.net.specs.Net.{Net}
use Rattle.net.specs.Inv.{Points, Lines, Alike}
use Rattle.net.specs.Adds.{Line, old, tip, rib, Adds}

pub other_way : {g : Net} → Alike g → (e f : ℕ) → e < g.L → f < g.L → g.u e ≡ g.v f → g.v e ≡ g.u f → ⊥
other_way b e f el fl p q = omega (arith, b.up e el, b.up f fl)

module _ {τ : Style} {g g' : Net} {l r : ℕ} (h : Points τ g) (n : Lines τ g) (a : Adds τ g g' l r) where
  data Age (e : ℕ) : Type 0 where
    was : e < g.L → g'.u e ≡ g.u e → g'.v e ≡ g.v e → Age e
    new : (i : ℕ) → i < g.m → e + l ≡ g.L + i → g'.u e ≡ g.w i → g'.v e ≡ g.k → Age e

  age : (e : ℕ) → Line τ g g' l r a.port e → Age e
  age e (old el eu ev ek) = was el eu ev
  age e (tip s i eu ev ek) = new (at s l r) (omega (arith, at_in s a.lr, a.rm)) i eu ev
  age e (rib i li ir en eu ev ek) = new i (omega (arith, a.rm)) en eu ev

  up' : (e : ℕ) → Alike g → Age e → g'.u e < g'.v e
  up' e b (was el eu ev) = omega (arith, b.up e el)
  up' e b (new i im en eu ev) = omega (arith, h.on i im)

  one' : (e f : ℕ) → Alike g → Age e → Age f → g'.u e ≡ g'.u f → g'.v e ≡ g'.v f → e ≡ f
  one' e f b (was el eu ev) (was fl fu fv) p q = b.one e f el fl (omega arith) (omega arith)
  one' e f b (was el eu ev) (new j jm fn fu fv) p q = absurd (omega (arith, n.ends e el))
  one' e f b (new i im en eu ev) (was fl fu fv) p q = absurd (omega (arith, n.ends f fl))
  one' e f b (new i im en eu ev) (new j jm fn fu fv) p q =
      let z : g.w i ≡ g.w j = omega arith in
      omega (arith, ap g.col z, h.on i im, h.on j jm)

  pub alike' : Alike g → Alike g'
  alike' b =
      record {
        up = λ e el. up' e b (age e (a.line e el));
        one = λ e f el fl. one' e f b (age e (a.line e el)) (age f (a.line f fl));
      }
