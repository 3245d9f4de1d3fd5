-- The arrays after each stage of storing a new point.
use Rattle.std.specs.Prelude.{ℕ, List}
use Rattle.rules.specs.declared.Style.{Style}
use Rattle.rules.specs.Styles.{taken}
use Rattle.store_links.specs.declared.Spot.{Spot}
use Rattle.store_links.specs.Arrays.{Arrays, at_point}
use Rattle.store_links.specs.Storing.{put_at, covered_gaps, covered_owners}

-- the inner points are covered by point v
abbrev pub covered : Arrays → List ℕ → Spot → ℕ → ℕ → Arrays
covered a es p v i = record a { gap = covered_gaps a.gap es p i; owner = covered_owners a.owner es v i }

-- point v is linked in between wl and wr
abbrev pub linked : Arrays → ℕ → ℕ → ℕ → Spot → Arrays
linked a v wl wr p =
    record a {
      next = put_at (put_at a.next v wr) wl v;
      gap = put_at (put_at a.gap v p.dx) wr p.rest;
      owner = put_at a.owner v 0;
      ys = put_at a.ys v p.y;
      hs = put_at a.hs v p.h;
    }

-- point v has no port at a side, and point w one more where lines take ports
abbrev pub grown : Style → List ℕ → ℕ → ℕ → List ℕ
grown style l v w = put_at (put_at l v 0) w (taken style (at_point l w))

abbrev pub ported : Style → Arrays → ℕ → ℕ → ℕ → Arrays
ported style a v wl wr = record a { dls = grown style a.dls v wr; drs = grown style a.drs v wl }
