-- Two lines with four different ends do not meet.
use Rattle.std.specs.Prelude.{ℕ, ◌<◌, ◌≡◌, refl, ◌≢◌, ◌⊎◌, false}
use Rattle.std.proofs.Common.{sym, inl, inr, arith}
use Rattle.rules.specs.declared.Place.{Place}
use Rattle.rules.specs.Meeting.{meet}
use Rattle.plane.specs.Apart.{Fun, Lt, apart, apart-swap}
use Rattle.rules.specs.declared.Style.TheVariants.{OneBend}
use Rattle.net.specs.Side.{rt, lf}
use Rattle.net.specs.Net.{Net, Clear, beside, above}
use Rattle.net.specs.Inv.{Inv}
use Rattle.net.specs.Bend.{pt, Spot, start, end, spot, Way, to, high, fun, all_lt, all_gt}
use Rattle.net.specs.Parting.{EndsApart}

-- by functions F, z beats p and q in one of the three ways
abbrev pub Wins : (Way → Fun) → Place → Place → Place → Type 0
Wins F p q z = (w : Way) × Lt (F w) p z × Lt (F w) q z

clear-way : {g : Net} {p q z : ℕ} → Clear OneBend g p q z → Wins fun (pt g p) (pt g q) (pt g z)
clear-way (beside rt c c' b b') = (to rt, omega arith, omega arith)
clear-way (beside lf c c' b b') = (to lf, omega arith, omega arith)
clear-way (above b b') = (high, omega arith, omega arith)

abbrev code : Way → ℕ
code (to rt) = 0
code (to lf) = 1
code high = 2

code_in : (w : Way) → code w < 3
code_in (to rt) = omega arith
code_in (to lf) = omega arith
code_in high = omega arith

same_way : (w v : Way) → (w ≡ v) ⊎ (code w ≢ code v)
same_way (to rt) (to rt) = inl refl
same_way (to rt) (to lf) = inr (omega arith)
same_way (to rt) high = inr (omega arith)
same_way (to lf) (to rt) = inr (omega arith)
same_way (to lf) (to lf) = inl refl
same_way (to lf) high = inr (omega arith)
same_way high (to rt) = inr (omega arith)
same_way high (to lf) = inr (omega arith)
same_way high high = inl refl

-- two that beat one another use different ways
differ : (F : Way → Fun) (w v : Way) (p q : Place) → Lt (F w) p q → Lt (F v) q p → code w ≢ code v
differ F w v p q b c = go (same_way w v)
  where
    go : (w ≡ v) ⊎ (code w ≢ code v) → code w ≢ code v
    go (inl e) = absurd (let b' = rw e at b in omega arith)
    go (inr n) = n

-- one way in which both p and q beat both r and s, or the other way round
pub data Parted (F : Way → Fun) (p q r s : Place) : Type 0 where
  over : (w : Way) → Lt (F w) r p → Lt (F w) s p → Lt (F w) r q → Lt (F w) s q → Parted F p q r s
  under : (w : Way) → Lt (F w) p r → Lt (F w) q r → Lt (F w) p s → Lt (F w) q s → Parted F p q r s

pub parted : (F : Way → Fun) {p q r s : Place} → Wins F r s p → Wins F r s q → Wins F p q r → Wins F p q s → Parted F p q r s
parted F {p} {q} {r} {s} wp wq wr ws = go (same_way wp.0 wq.0) (same_way wr.0 ws.0)
  where
    go : (wp.0 ≡ wq.0) ⊎ (code wp.0 ≢ code wq.0) → (wr.0 ≡ ws.0) ⊎ (code wr.0 ≢ code ws.0) → Parted F p q r s
    go (inl e) b = over wp.0 wp.1 wp.2 (rw e wq.1) (rw e wq.2)
    go (inr n) (inl e) = under wr.0 wr.1 wr.2 (rw e ws.1) (rw e ws.2)
    go (inr n) (inr m) =
        absurd
        (omega (
          arith,
          code_in wp.0,
          code_in wq.0,
          code_in wr.0,
          code_in ws.0,
          differ F wp.0 wr.0 r p wp.1 wr.1,
          differ F wp.0 ws.0 s p wp.2 ws.1,
          differ F wq.0 wr.0 r q wq.1 wr.2,
          differ F wq.0 ws.0 s q wq.2 ws.2,
        ))

module _ {g : Net} (n : Inv g) where
  -- what holds of the ends holds of every two places of the lines
  spread : (e f : ℕ) → e < g.L → f < g.L → (w : Way) →
      Lt (fun w) (spot g e start) (spot g f start) → Lt (fun w) (spot g e end) (spot g f start) →
      Lt (fun w) (spot g e start) (spot g f end) → Lt (fun w) (spot g e end) (spot g f end) → (i j : Spot) → Lt (fun w) (spot g e i) (spot g f j)
  spread e f el fl w b c b' c' i j = all_gt n f fl w (spot g e i) (all_lt n e el w _ b c i) (all_lt n e el w _ b' c' i) j

  pub disjoint : EndsApart g
  disjoint e f el fl n₁ n₂ n₃ n₄ i j i' j' =
      go
      (parted fun (t f (g.u e) fl (o e el).0 n₁ n₂) (t f (g.v e) fl (o e el).1 n₃ n₄)
      (t e (g.u f) el (o f fl).0 (λ q. n₁ (sym q)) (λ q. n₃ (sym q))) (t e (g.v f) el (o f fl).1 (λ q. n₂ (sym q)) (λ q. n₄ (sym q))))
    where
      o : (e : ℕ) → e < g.L → (g.u e < g.k) × (g.v e < g.k)
      o = n.core.lines.ends

      t : (e p : ℕ) → e < g.L → p < g.k → p ≢ g.u e → p ≢ g.v e → Wins fun (spot g e start) (spot g e end) (pt g p)
      t e p el pk b c = clear-way (n.core.lines.tri e p el pk b c)

      go : Parted fun (spot g e start) (spot g e end) (spot g f start) (spot g f end) → meet (spot g e i) (spot g e j) (spot g f i') (spot g f j') ≡ false
      go (over w a b c d) = let h = spread f e fl el w a b c d in apart-swap (fun w) _ _ _ _ (h i' i) (h j' i) (h i' j) (h j' j)
      go (under w a b c d) = let h = spread e f el fl w a b c d in apart (fun w) _ _ _ _ (h i i') (h i j') (h j i') (h j j')
