-- 5, 9 and the count of 8 outlive the step.
use Rattle.std.specs.Prelude.{ℕ, suc, ◌+◌, ◌-◌, ◌<◌, ◌≤◌, ◌≡◌, ◌≢◌, ◌⊎◌}
use Rattle.std.proofs.Common.{sym, ap, ◌∙◌, inl, inr, arith}
use Rattle.std.proofs.Math.Decide.{dec_lt, ℕ_discrete}
use Rattle.rules.specs.declared.Style.{Style}
use Rattle.rules.specs.declared.Style.TheVariants.{OneBend}
use Rattle.net.specs.Side.{Side, rt, lf, op, at}
use Rattle.net.specs.Net.{Net, side_kind, Next}
use Rattle.net.specs.Inv.{Points, Lines, Link, Corners, Core, Border}
use Rattle.net.specs.Adds.{Adds, Rigid, Exact}
use Rattle.net.specs.Walls.{tip-col, by_point, w_low, w_new, w_high}
use Rattle.net.specs.BendKinds.{stays, tips}

-- an end of a link is not an end of the run from which a new port leaves
off_tip : (s : Side) (l r j : ℕ) → l < r → (suc j ≤ l) ⊎ (r ≤ j) → at s j (suc j) ≢ at s l r
off_tip rt l r j lr (inl h) = omega arith
off_tip rt l r j lr (inr h) = omega arith
off_tip lf l r j lr (inl h) = omega arith
off_tip lf l r j lr (inr h) = omega arith

module _ {τ : Style} {g g' : Net} {l r : ℕ} (h : Points τ g) (n : Lines τ g) (a : Adds τ g g' l r) (x : Rigid τ g g' l r a) where
  -- two neighbours that stay
  still_next : (s : Side) (p q : ℕ) → p < g.k → q < g.k → a.σ (g.col p) ≡ a.σ (g.col q) → Next τ s g p q → Next τ s g' p q
  still_next rt p q pk qk e b = omega (arith, a.x' p pk, a.x' q qk, a.y' p pk, a.y' q qk)
  still_next lf p q pk qk e b = omega (arith, a.x' p pk, a.x' q qk, a.y' p pk, a.y' q qk)

  same_move : (j : ℕ) → (suc j ≤ l) ⊎ (r ≤ j) → a.σ j ≡ a.σ (suc j)
  same_move j (inl b) = x.still j (omega arith) ∙ sym (x.still (suc j) b)
  same_move j (inr b) = x.rigid j b ∙ sym (x.rigid (suc j) (omega arith))

  ends-move : (s : Side) (j : ℕ) → (suc j ≤ l) ⊎ (r ≤ j) → a.σ (at s j (suc j)) ≡ a.σ (at (op s) j (suc j))
  ends-move rt j b = same_move j b
  ends-move lf j b = sym (same_move j b)

  in_m : (s : Side) (j : ℕ) → suc j < g.m → at s j (suc j) < g.m
  in_m rt j b = omega arith
  in_m lf j b = b

  -- g''s boundary at i and i + 1 is g's at j and j + 1
  w_at : (s : Side) (i j : ℕ) → g'.w i ≡ g.w j → g'.w (suc i) ≡ g.w (suc j) → g'.w (at s i (suc i)) ≡ g.w (at s j (suc j))
  w_at rt i j p q = p
  w_at lf i j p q = q

  old_link : (i j : ℕ) → suc j < g.m → (suc j ≤ l) ⊎ (r ≤ j) → g'.w i ≡ g.w j → g'.w (suc i) ≡ g.w (suc j) → Link τ g j → Link τ g' i
  old_link i j jm b p q k =
      let t = stays h a k.e k.el in
      let z = w_at k.s i j p q in
      let z' = w_at (op k.s) i j p q in
      let o = h.on (at k.s j (suc j)) (in_m k.s j jm) in
      let o' = h.on (at (op k.s) j (suc j)) (in_m (op k.s) j jm) in
      let d = a.d_old k.s (g.w (at k.s j (suc j))) o.0 (λ e. off_tip k.s l r j a.lr b (omega (arith, ap g.col e, tip-col h a k.s))) in
      record {
        s = k.s;
        e = k.e;
        el = t.0;
        kind = t.1 ∙ k.kind ∙ ap (side_kind τ k.s) (sym (ap (g'.d k.s) z ∙ d));
        u = t.2 ∙ k.u ∙ sym z;
        v = t.3 ∙ k.v ∙ sym z';
        next = rw (z, z') (still_next k.s _ _ o.0 o'.0 (rw (o.1, o'.1) (ends-move k.s j b)) k.next);
      }

  new_link : (s : Side) (i : ℕ) → g'.w (at s i (suc i)) ≡ g.w (at s l r) → g'.w (at (op s) i (suc i)) ≡ g.k → Link τ g' i
  new_link s i p q =
      let t = tips h a s in
      record {
        s = s;
        e = t.0;
        el = t.1;
        kind = t.2 ∙ ap (side_kind τ s) (sym (ap (g'.d s) p ∙ a.d_tip s));
        u = t.3 ∙ sym p;
        v = t.4 ∙ sym q;
        next = rw (p, q) (x.step s);
      }

  links' : ((i : ℕ) → suc i < g.m → Link τ g i) → (i : ℕ) → suc i < g'.m → Link τ g' i
  links' f i im =
      elim (dec_lt i l) [
        | yes b ↦
            let jm : suc i < g.m = omega (arith, a.lr, a.rm) in
            old_link i i jm (inl b) (w_low h a i (omega arith)) (w_low h a (suc i) b) (f i jm)
        | no b ↦ elim (ℕ_discrete i l) [
          | yes e ↦ new_link rt i (rw e (w_low h a l (omega arith))) (rw e (w_new h a))
          | no c ↦ elim (ℕ_discrete i (suc l)) [
            | yes e ↦ new_link lf i (rw e (w_high h a (suc (suc l)) r (omega arith) a.rm (omega arith))) (rw e (w_new h a))
            | no d ↦
                let jm : suc (i + r - (l + 2)) < g.m = omega (arith, a.m', a.lr) in
                old_link i (i + r - (l + 2)) jm (inr (omega (arith, a.lr)))
                (w_high h a i (i + r - (l + 2)) (omega (arith, a.lr)) (omega arith) (omega (arith, a.lr)))
                (w_high h a (suc i) (suc (i + r - (l + 2))) (omega (arith, a.lr)) jm (omega (arith, a.lr)))
                (f (i + r - (l + 2)) jm)
          ]
        ]
      ]

  x_first : Corners τ g → g'.x 0 ≡ g.x 0
  x_first b =
      let z : g.col 0 ≡ 0 = omega (arith, ap g.col b.first, (h.on 0 (omega (arith, b.size))).1) in
      omega (arith, a.x' 0 (omega (arith, b.placed)), x.still (g.col 0) (omega arith))

  pub x_last : Corners τ g → g'.x 1 ≡ g.x 1 + x.T
  x_last b =
      let m1 : suc (g.m - 1) ≡ g.m = omega (arith, b.size) in
      let z : g.col 1 ≡ g.m - 1 = omega (arith, ap g.col (b.last (g.m - 1) m1), (h.on (g.m - 1) (omega arith)).1) in
      omega (arith, a.x' 1 b.placed, x.rigid (g.col 1) (omega (arith, a.rm)))

  pub corners' : Corners τ g → Corners τ g'
  corners' b =
      record {
        size = omega (arith, a.m', a.lr, a.rm);
        placed = omega (arith, b.placed, a.k');
        first = w_low h a 0 (omega arith) ∙ b.first;
        last = λ i e. w_high h a i (i + r - (l + 2)) (omega (arith, a.m', a.rm)) (omega (arith, a.m', a.rm, a.lr)) (omega (arith, a.m', a.rm)) ∙ b.last _ (omega (arith, a.m', a.rm));
        origin =
            let o = b.origin in
            (omega (arith, x_first b), omega (arith, a.y' 0 (omega (arith, b.placed))), omega (arith, a.y' 1 b.placed));
        rest =
            λ p lt pk.
            by_point h a (λ p. 1 < p → 0 < g'.y p) (λ p pk lt. omega (arith, a.y' p pk, b.rest p lt pk)) (λ lt. omega (arith, a.places.over rt)) p pk lt;
        count = omega (arith, b.count, a.m', a.L', a.k');
        links = links' b.links;
      }

pub border' : {g g' : Net} {l r : ℕ} → Core OneBend g → (a : Adds OneBend g g' l r) → Exact g g' l r a → Border g → Border g'
border' c a x b =
    let z = x_last c.points c.lines a x.rig c.corners in
    record { width = omega (arith, b.width, x.most, a.k'); least = omega (arith, b.least) }
