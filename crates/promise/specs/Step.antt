-- An accepted call keeps a drawing of either style sound: one instance of the step over nets.
use Rattle.std.specs.Prelude.{ℕ, ◌+◌, ◌≡◌, refl, List}
use Rattle.std.proofs.Common.{sym, subst}
use Rattle.rules.specs.declared.Style.{Style}
use Rattle.rules.specs.declared.Style.TheVariants.{OneBend, Straight}
use Rattle.rules.specs.declared.Entry.{Entry}
use Rattle.rules.specs.Points.{Drawing}
use Rattle.rules.specs.Refusals.{good}
use Rattle.rules.specs.Adding.{add_entries}
use Rattle.net.specs.Inv.{Core}
use Rattle.net.specs.Adds.{Line, Adds, Bends, Rigid, Exact, Places}
use Rattle.net.specs.Amounts.{Amounts, moves, moves-mono, moves-spread, places_of}
use Rattle.net.specs.Core.{core'}
use Rattle.net.specs.Kept as Net
use Rattle.net.specs.Border.{border'}
use Rattle.net.specs.Degs.{degs'}
use Rattle.net.specs.Size.{width'}
use Rattle.promise.specs.Nets.{net_of}
use Rattle.promise.specs.Sound.{Rest, Sound, bent, unbent}
use Rattle.promise.specs.Next.{IsRun, next}
use Rattle.promise.specs.Columns.{style_next, col', col_new}
use Rattle.promise.specs.Border.{k', m', onto}
use Rattle.promise.specs.Counts.{h', d_tip, d_old, d_new}
use Rattle.promise.specs.Kept.{owning, sized', rooted'}
use Rattle.promise.specs.Moved.{amount1, amount2}
use Rattle.promise.specs.Places.{x_old, y_old, amounts, most, two, still, rigid, step}
use Rattle.promise.specs.Lines.{L', port, rising, line, ended', h_most', reaches}
use Rattle.promise.specs.Accepted.{accepted}

module _ (d : Drawing) (es : List Entry) (l r : ℕ) (s : Sound d) (q : IsRun d es l r) where
  module _ (τ : Style) (b : d.style ≡ τ) where
    -- what the step asks of the net with the new point
    adds : Adds τ (net_of d) (net_of (next d es l r)) l r
    adds =
        record {
          lr = q.lr;
          rm = q.rm;
          k' = k' d es l r s q;
          m' = m' d es l r s q;
          L' = L' d es l r s q;
          σ = moves l r (amount1 d l) (amount2 d l r);
          mono = λ c e. moves-mono l r (amount1 d l) (amount2 d l r) c e q.lr;
          x' = x_old d es l r s q;
          y' = y_old d es l r s q;
          places = subst (λ τ. Places τ (net_of d) (net_of (next d es l r)) l r) b (places_of s.core.points (amounts d es l r s q));
          col' = col' d es l r s q;
          col_new = col_new d es l r s q;
          onto = onto d es l r s q;
          port = port d es l r;
          rising = rising d es l r s q;
          line = λ e h. subst (λ τ. Line τ (net_of d) (net_of (next d es l r)) l r (port d es l r) e) b (line d es l r s q e h);
          d_tip = λ t. rw (sym b) (d_tip d es l r s q t);
          d_old = d_old d es l r s q;
          d_new = d_new d es l r s q;
        }

    -- and of the ends of the boundary
    ends : Rigid τ (net_of d) (net_of (next d es l r)) l r adds
    unfolding adds
    ends =
        record {
          still = still d es l r s q;
          T = amount1 d l + amount2 d l r;
          rigid = rigid d es l r s q;
          step = λ t. rw (sym b) (step d es l r s q t);
        }

  -- what both drawings keep
  core_next : Core d.style (net_of (next d es l r))
  core_next = core' s.core (adds d.style refl) (ends d.style refl) (owning d es l r s q)

  -- and what each keeps besides
  rest_next : (τ : Style) → d.style ≡ τ → Rest τ (net_of (next d es l r))
  unfolding adds ends
  rest_next OneBend b =
      let i = bent s b in
      let a = adds OneBend b in
      let w = amounts d es l r s q in
      let x : Exact (net_of d) (net_of (next d es l r)) l r a = record { rig = ends OneBend b; most = most d es l r s q } in
      let t : Bends (net_of d) (net_of (next d es l r)) l r a =
      record {
        spread = moves-spread l r (amount1 d l) (amount2 d l r) w.lr w.one w.two;
        h' = h' d es l r s q;
        h_new = h_most' d es l r s q;
        reaches = reaches d es l r s q i.inv (subst (λ τ. Amounts τ (net_of d) (net_of (next d es l r)) l r (amount1 d l) (amount2 d l r)) b w);
      }
      in
      let k = Net.kept i.inv a x (owning d es l r s q) t in
      record {
        ports = k.ports;
        slopes = k.slopes;
        frees = k.frees;
        border = border' i.inv.core a x i.border;
        degs = degs' i.inv.core.points i.inv.core.lines a t i.degs;
      }
  rest_next Straight b = let i = unbent s b in width' i.core (adds Straight b) (ends Straight b) (two d es l r s q b) i.width

  pub sound_next : Sound (next d es l r)
  sound_next =
      let e = sym (style_next d es l r) in
      record {
        sized = sized' d es l r s q;
        rooted = rooted' d es l r s q;
        ended = ended' d es l r s q;
        core = subst (λ τ. Core τ (net_of (next d es l r))) e core_next;
        rest = subst (λ τ. Rest τ (net_of (next d es l r))) e (rest_next d.style refl);
      }

-- a call that is accepted leaves a sound drawing sound
pub sound-added : (d e : Drawing) (es : List Entry) → Sound d → add_entries d es ≡ good e → Sound e
sound-added d e es s h = let a = accepted d e es h in rw a.is (sound_next d es a.l a.r s a.run)
