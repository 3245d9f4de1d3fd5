-- What a call on a stored drawing asks, and what it leaves.
use Rattle.std.specs.Prelude.{ℕ, ◌-◌, ◌+◌, ◌<◌, ◌≤◌, ◌≡◌, Bool, List, Option, Some, length}
use Rattle.std.proofs.Common.{sym, ap}
use Rattle.rules.specs.declared.Style.{Style}
use Rattle.rules.specs.declared.Style.TheVariants.{OneBend, Straight}
use Rattle.rules.specs.Refusals.{Answer, answer}
use Rattle.store_links.specs.Arrays.{Arrays, at_point}
use Rattle.store_links.specs.Placing.{entry_point, way}
use Rattle.store_links.specs.Runs.{Within}
use Rattle.store_links.specs.Storing.{judged, arrays_after, counts_after}
use Rattle.store_tables.specs.declared.Drawing.{Drawing}
use Rattle.store_tables.specs.Tables.{arrays_in}
use Rattle.store_placing.specs.Ports.{ports_for}

-- the call on the drawing d is judged, and leaves d' with that answer
pub record Answered (d : Drawing) (es : List ℕ) (d' : Drawing) (r : Answer (Unit {0})) : Type 0 where
  pub answer : r ≡ answer (judged (arrays_in d.table) d.counts es)
  pub arrays : arrays_in d'.table ≡ arrays_after (judged (arrays_in d.table) d.counts es) (arrays_in d.table) d.counts es
  pub counts : d'.counts ≡ counts_after (judged (arrays_in d.table) d.counts es) d.counts es

-- the entries are a run, whose ends rise less than they lie apart
pub record Runs (es : List ℕ) (a : Arrays) : Type 0 where
  pub some : 1 < length es
  pub most : length es ≤ 1024
  pub within : Within 1024 es
  pub far : way a.gap es (length es - 1) < 4294967296
  pub rise_l : at_point a.ys (entry_point es 0) ≤ way a.gap es (length es - 1) + at_point a.ys (entry_point es (length es - 1))
  pub rise_r : at_point a.ys (entry_point es (length es - 1)) ≤ way a.gap es (length es - 1) + at_point a.ys (entry_point es 0)

-- the ports of the inner points: where lines bend they change at `from`, if all reach; straight lines take none, and the last index stands there
abbrev pub ports_by : Style → ℕ → ℕ → Bool → Option ℕ
ports_by OneBend last from all = ports_for from all
ports_by Straight last from all = Some last

pub ports-bent : (τ : Style) (last from : ℕ) (all : Bool) → τ ≡ OneBend → ports_for from all ≡ ports_by τ last from all
ports-bent τ last from all b = sym (ap (λ (σ : Style). ports_by σ last from all) b)

pub ports-straight : (τ : Style) (last from : ℕ) (all : Bool) → τ ≡ Straight → Some last ≡ ports_by τ last from all
ports-straight τ last from all b = sym (ap (λ (σ : Style). ports_by σ last from all) b)
