-- What the functions of this crate ask and leave, for a drawing file of a style.
-- Here `Plan` is the drawing as the rules see it, `Drawing` the program's.
use Rattle.std.specs.Prelude.{ℕ, suc, ◌+◌, ◌-◌, ◌*◌, ◌≤◌, ◌≡◌, List, length, Ok, Err}
use Rattle.rules.specs.declared.Style.{Style}
use Rattle.rules.specs.Refusals.{Answer, Result, refused, placed}
use Rattle.rules.specs.Points.{Drawing as Plan}
use Rattle.rules.specs.Adding.{add_entries}
use Rattle.rules.specs.Records.{Found, line_size}
use Rattle.rules.specs.DrawingFile.{group, behind, group_place, judge_rest, judge_drawing}
use Rattle.store_links.specs.declared.Counts.{Counts}
use Rattle.store_tables.specs.declared.Drawing.{Drawing}
use Rattle.store_laws.specs.Stored.{Is, Stored}
use Rattle.read_groups.specs.Lines.{lines_at}
use Rattle.read_orders.specs.Points.{Drawn, Gave}

-- ---- the groups, one after another

-- the lines from line i on, where `total` lines start at `base`
abbrev pub lines_behind : Style → List ℕ → ℕ → ℕ → ℕ → List Found
lines_behind τ f base total i = lines_at τ f (total - i) (base + line_size τ * i)

-- the group of the next point, judged at its place, where line i is next
unfoldable pub next_group : Style → List ℕ → ℕ → ℕ → ℕ → Plan → Result Plan
next_group τ f base total i p =
    placed (group_place (base + line_size τ * total) (lines_behind τ f base total i)) (add_entries p (group τ (suc p.k) (lines_behind τ f base total i)))

-- the groups of all points that are left
abbrev pub rest_groups : Style → List ℕ → ℕ → ℕ → Counts → Plan → Result Plan
rest_groups τ f base total c p = judge_rest τ (c.n - c.k) (base + line_size τ * total) p (lines_behind τ f base total c.lines)

-- the lines are there, and the drawing is stored, with so many of them
pub record Groups (τ : Style) (f : List ℕ) (base total : ℕ) (d : Drawing) : Type 0 where
  pub there : base + line_size τ * total ≤ length f
  pub few : d.counts.lines ≤ total
  pub most : total ≤ 3072
  pub stored : Stored d

-- after an accepted group: one point more, and the lines behind the group are next
pub record GroupBehind (τ : Style) (f : List ℕ) (base total : ℕ) (c : Counts) (p : Plan) (c' : Counts) : Type 0 where
  pub n : c'.n ≡ c.n
  pub k : c'.k ≡ suc c.k
  pub few : c'.lines ≤ total
  pub rest : behind (suc p.k) (lines_behind τ f base total c.lines) ≡ lines_behind τ f base total c'.lines

-- the next group was added to the plan p
pub record Entered (τ : Style) (f : List ℕ) (base total : ℕ) (c : Counts) (d' : Drawing) (p : Plan) : Type 0 where
  pub drawn : Drawn (next_group τ f base total c.lines p) d'
  pub behind_it : GroupBehind τ f base total c p d'.counts

-- what adding the next group leaves, whatever plan p was stored: after a refusal it is stored still
abbrev pub Grouped : Style → List ℕ → ℕ → ℕ → Drawing → Drawing → Answer (Unit {0}) → Type 0
Grouped τ f base total d d' (Ok t) = (p : Plan) → Is p d → Entered τ f base total d.counts d' p
Grouped τ f base total d d' (Err e) = (p : Plan) → Is p d → (next_group τ f base total d.counts.lines p ≡ refused e.refusal e.place) × Is p d'

-- what adding all groups leaves; what is stored after a refusal is left open
abbrev pub AllGrouped : Style → List ℕ → ℕ → ℕ → Drawing → Drawing → Answer (Unit {0}) → Type 0
AllGrouped τ f base total d d' r = (p : Plan) → Is p d → Gave (rest_groups τ f base total d.counts p) d' r

-- ---- the file

-- what reading a file leaves; what is stored after a refusal is left open
abbrev pub LinesRead : Style → List ℕ → Drawing → Answer (Unit {0}) → Type 0
LinesRead τ f d' r = Gave (judge_drawing τ f) d' r
