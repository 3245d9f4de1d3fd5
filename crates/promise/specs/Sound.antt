-- What every drawing after calls is known to be, of either style: its lists have their sizes, its points climb to the boundary, and its net keeps the invariant.
use Rattle.std.specs.Prelude.{ℕ, suc, ◌<◌, ◌≤◌, ◌≡◌, length}
use Rattle.std.proofs.Common.{subst}
use Rattle.rules.specs.declared.Style.{Style}
use Rattle.rules.specs.declared.Style.TheVariants.{OneBend, Straight}
use Rattle.rules.specs.Basics.{index_of}
use Rattle.rules.specs.Points.{Drawing, owner_of, w, m, line_at}
use Rattle.rules.specs.Moving.{climb}
use Rattle.net.specs.Net.{Net}
use Rattle.net.specs.Inv.{Ports, Slopes, Frees, Core, Inv, Border}
use Rattle.net.specs.Degs.{Degs}
use Rattle.net.specs.Size.{Width}
use Rattle.promise.specs.Nets.{net_of}

-- every list has one number for each placed point
pub record Sized (d : Drawing) : Type 0 where
  pub owners : length d.owners ≡ d.k
  pub xs : length d.xs ≡ d.k
  pub ys : length d.ys ≡ d.k
  pub dls : length d.dls ≡ d.k
  pub drs : length d.drs ≡ d.k
  pub hs : length d.hs ≡ d.k

-- the boundary point that p climbs to is suc z, and nobody owns it
pub record Root (d : Drawing) (p : ℕ) : Type 0 where
  pub z : ℕ
  pub up : climb d.k d.owners p ≡ suc z
  pub placed : z < d.k
  pub nobody : owner_of d (suc z) ≡ 0

-- every placed point climbs to a point that nobody owns; nobody owns a boundary point
pub record Rooted (d : Drawing) : Type 0 where
  pub root : (p : ℕ) → p < d.k → Root d (suc p)
  pub free : (p : ℕ) → index_of (suc p) d.boundary < m d → owner_of d (suc p) ≡ 0
  pub low : (i : ℕ) → i < m d → (0 < w d i) × (w d i ≤ d.k)

-- the ends of lines are points
pub record Ended (d : Drawing) : Type 0 where
  pub ends : (e : ℕ) → e < length d.lines → (0 < (line_at d e).earlier) × (0 < (line_at d e).later)

-- what the net of a one-bend drawing keeps besides; a straight one keeps its width
pub record Bending (g : Net) : Type 0 where
  pub ports : Ports OneBend g
  pub slopes : Slopes g
  pub frees : Frees g
  pub border : Border g
  pub degs : Degs g

abbrev pub Rest : Style → Net → Type 0
Rest OneBend g = Bending g
Rest Straight g = Width g

-- BOTH DRAWINGS
pub record Sound (d : Drawing) : Type 0 where
  pub sized : Sized d
  pub rooted : Rooted d
  pub ended : Ended d
  pub core : Core d.style (net_of d)
  pub rest : Rest d.style (net_of d)

-- a one-bend drawing
pub record Bent (d : Drawing) : Type 0 where
  pub sound : Sound d
  pub inv : Inv (net_of d)
  pub border : Border (net_of d)
  pub degs : Degs (net_of d)

pub bent : {d : Drawing} → Sound d → d.style ≡ OneBend → Bent d
bent {d} s b =
    let c : Core OneBend (net_of d) = subst (λ τ. Core τ (net_of d)) b s.core in
    let r : Rest OneBend (net_of d) = subst (λ τ. Rest τ (net_of d)) b s.rest in
    record { sound = s; inv = record { core = c; ports = r.ports; slopes = r.slopes; frees = r.frees }; border = r.border; degs = r.degs }

-- a straight drawing
pub record Unbent (d : Drawing) : Type 0 where
  pub sound : Sound d
  pub style : d.style ≡ Straight
  pub core : Core Straight (net_of d)
  pub width : Width (net_of d)

pub unbent : {d : Drawing} → Sound d → d.style ≡ Straight → Unbent d
unbent {d} s b = record { sound = s; style = b; core = subst (λ τ. Core τ (net_of d)) b s.core; width = subst (λ τ. Rest τ (net_of d)) b s.rest }
