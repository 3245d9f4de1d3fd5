-- Arrays and numbers store one drawing at most: what they store says which it is.
use Rattle.std.specs.Prelude.{ℕ, zero, suc, pred, ◌<◌, ◌≡◌, refl, List, length, take}
use Rattle.std.proofs.Common.{sym, ap, ◌∙◌, arith, ext_get_or}
use Rattle.rules.specs.Points.{Drawing, w, m}
use Rattle.promise.specs.Sound.{Sound}
use Rattle.promise.specs.Standing.{Standing}
use Rattle.store_links.specs.declared.Counts.{Counts}
use Rattle.store_links.specs.Arrays.{Arrays, Stores, at_point}
use Rattle.store_links.specs.Opening.{no_points}
use Rattle.store_settling.specs.Placed.{Settleable, settleable_of, placed_at}
use Rattle.store_settling.specs.Settling.{both_settle}

-- the boundary begins with point 1
first_is : {d : Drawing} → Sound d → w d 0 ≡ 1
first_is {d} s =
    let c = s.core.corners in
    let f : pred (w d 0) ≡ 0 = c.first in
    let z : 1 < m d = c.size in
    omega (arith, (s.rooted.low 0 (omega arith)).0)

-- two drawings p and q that came from opening and calls, in the same arrays and numbers
module _ {p q : Drawing} {a : Arrays} {c : Counts} (sp : Standing p) (sq : Standing q) (hp : Stores p a c) (hq : Stores q a c) where
  -- as many points
  same_k : p.k ≡ q.k
  same_k = sym hp.k ∙ hq.k

  -- as many boundary points
  same_m : m p ≡ m q
  same_m = sym hp.m ∙ hq.m

  -- as many lines
  same_lines : length p.lines ≡ length q.lines
  same_lines = sym hp.lines ∙ hq.lines

  -- a list with a number for each point, read from one array
  same_part : (l : List ℕ) {u v : List ℕ} → take p.k l ≡ u → take q.k l ≡ v → u ≡ v
  same_part l e f = sym e ∙ ap (λ (i : ℕ). take i l) same_k ∙ f

  -- the links lead along one boundary
  same_w : (i : ℕ) → i < m p → w p i ≡ w q i
  same_w zero b = first_is sp.sound ∙ sym (first_is sq.sound)
  same_w (suc i) b = sym (hp.link i b) ∙ ap (at_point a.next) (same_w i (omega arith)) ∙ hq.link i (omega (arith, same_m))

  -- the arrays can be settled
  settleable : Settleable no_points a c.k
  settleable = settleable_of hp sp.sound refl (omega (arith, sp.ranged.room, sp.ranged.high))

  -- one x for each point, from links and gaps
  same_xs : p.xs ≡ q.xs
  same_xs =
      let t = both_settle settleable in
      sym (t.right p sp.sound (placed_at hp.k hp)) ∙ t.right q sq.sound (placed_at hq.k hq)

  -- the same lines
  same_all : p.lines ≡ q.lines
  same_all = sym hp.drawn ∙ ap (λ (i : ℕ). take i a.lines) same_lines ∙ hq.drawn

  -- THEY ARE ONE.
  pub stored_one : p ≡ q
  stored_one = λ i.
      record {
        style = (sym hp.style ∙ hq.style) i;
        n = (sym hp.n ∙ hq.n) i;
        s = (sym hp.s ∙ hq.s) i;
        k = same_k i;
        boundary = ext_get_or 0 p.boundary q.boundary same_m same_w i;
        owners = same_part a.owner hp.owner hq.owner i;
        xs = same_xs i;
        ys = same_part a.ys hp.ys hq.ys i;
        dls = same_part a.dls hp.dls hq.dls i;
        drs = same_part a.drs hp.drs hq.drs i;
        hs = same_part a.hs hp.hs hq.hs i;
        lines = same_all i;
      }
