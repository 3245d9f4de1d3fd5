-- A record with more entries than a boundary has points, and what refuses it.
use Rattle.std.specs.Prelude.{ℕ, ◌+◌, ◌*◌, ◌<◌, ◌≤◌, ◌≡◌, List, length, drop}
use Rattle.rules.specs.declared.Refusal.{Refusal}
use Rattle.rules.specs.Refusals.{Result, refused}
use Rattle.rules.specs.Points.{Drawing as Plan}
use Rattle.rules.specs.Adding.{add}
use Rattle.rules.specs.Records.{words_in}
use Rattle.store_tables.specs.declared.Drawing.{Drawing}
use Rattle.store_laws.specs.Stored.{Is, Stored}

-- a stored drawing, and more entries at an offset of the file than a boundary has points
pub record Long (f : List ℕ) (from count : ℕ) (d : Drawing) : Type 0 where
  pub stored : Stored d
  pub there : from + 2 * count ≤ length f
  pub many : 1024 < count

-- r is what refuses
pub record RefusedBy {A : Type 0} (o : Result A) (r : Refusal) : Type 0 where
  pub place : ℕ
  pub is : o ≡ refused r place

-- a call with those entries is refused by r
abbrev pub LongRead : List ℕ → ℕ → ℕ → Drawing → Refusal → Type 0
LongRead f from count d r = (p : Plan) → Is p d → RefusedBy (add p (words_in count (drop from f))) r
