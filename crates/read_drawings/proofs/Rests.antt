-- One turn of the loop over the groups: what is left to judge, from the plan that is stored.
use Rattle.std.proofs.Common.{ap, ◌∙◌, arith}
use Rattle.rules.specs.declared.Style.{Style}
use Rattle.std.specs.Prelude.{ℕ, suc, ◌+◌, ◌-◌, ◌*◌, ◌<◌, ◌≤◌, ◌≡◌, refl, List, Ok, Err}
use Rattle.rules.specs.declared.Refused.{Refused}
use Rattle.rules.specs.Refusals.{Result, good, ◌>>=◌}
use Rattle.rules.specs.Points.{Drawing as Plan}
use Rattle.rules.specs.DrawingFile.{behind, judge_rest}
use Rattle.store_links.specs.declared.Counts.{Counts}
use Rattle.store_tables.specs.declared.Drawing.{Drawing}
use Rattle.store_laws.specs.Stored.{Is}
use Rattle.rules.specs.Records.{line_size}
use Rattle.read_drawings.specs.Contracted.{lines_behind, next_group, rest_groups, Grouped}
use Rattle.read_orders.specs.Points.{Gave}

-- d stores a plan from which the rest of the groups gives z
pub record Going (τ : Style) (f : List ℕ) (base total : ℕ) (z : Result Plan) (d : Drawing) : Type 0 where
  pub plan : Plan
  pub is : Is plan d
  pub few : d.counts.lines ≤ total
  pub same : z ≡ rest_groups τ f base total d.counts plan

-- one group, then the rest
rest_more : (τ : Style) (f : List ℕ) (base total : ℕ) (c : Counts) (p : Plan) → c.k < c.n →
    rest_groups τ f base total c p ≡ (next_group τ f base total c.lines p >>= λ e. judge_rest τ (c.n - suc c.k) (base + line_size τ * total) e (behind (suc p.k) (lines_behind τ f base total c.lines)))
unfolding judge_rest next_group
rest_more τ f base total c p h =
    let one : c.n - c.k ≡ suc (c.n - suc c.k) = omega arith in
    rw one

-- no group is left
rest_none : (τ : Style) (f : List ℕ) (base total : ℕ) (c : Counts) (p : Plan) → c.n ≤ c.k → rest_groups τ f base total c p ≡ good p
unfolding judge_rest
rest_none τ f base total c p h =
    let none : c.n - c.k ≡ 0 = omega arith in
    rw none

-- the start
pub going_start : (τ : Style) (f : List ℕ) (base total : ℕ) (d : Drawing) (p : Plan) → d.counts.lines ≤ total → Is p d → Going τ f base total (rest_groups τ f base total d.counts p) d
going_start τ f base total d p few h = record { plan = p; is = h; few = few; same = refl }

module _ {τ : Style} {f : List ℕ} {base total : ℕ} {z : Result Plan} {d : Drawing} (g : Going τ f base total z d) where
  abbrev c : Counts
  c = d.counts

  -- a group is left
  module _ (more : c.k < c.n) where
    abbrev next : Result Plan
    next = next_group τ f base total c.lines g.plan

    abbrev after : Plan → Result Plan
    after e = judge_rest τ (c.n - suc c.k) (base + line_size τ * total) e (behind (suc g.plan.k) (lines_behind τ f base total c.lines))

    by_next : z ≡ (next >>= after)
    by_next = g.same ∙ rest_more τ f base total c g.plan more

    -- it is added
    pub going_on : {d' : Drawing} → Grouped τ f base total d d' (Ok tt) → Going τ f base total z d'
    going_on {d'} s =
        let x = s g.plan g.is in
        let b = x.behind_it in
        let count : c.n - suc c.k ≡ d'.counts.n - d'.counts.k = omega (arith, b.n, b.k) in
        record { plan = x.drawn.plan; is = x.drawn.is; few = b.few; same = by_next ∙ ap (λ y. y >>= after) x.drawn.given ∙ rw (b.rest, count) }

    -- it is refused
    pub stopped : {d' : Drawing} {e : Refused} → Grouped τ f base total d d' (Err e) → Gave z d' (Err e)
    stopped s = record { gives = by_next ∙ ap (λ y. y >>= after) (s g.plan g.is).0 }

  -- all groups are added
  pub all_added : c.n ≤ c.k → Gave z d (Ok tt)
  all_added full = record { gives = record { plan = g.plan; given = g.same ∙ rest_none τ f base total c g.plan full; is = g.is } }
