-- What holds while the points are numbered (that the numbering goes through, from point n down to point 3, is in proofs/).
use Rattle.std.specs.Prelude.{ℕ, ◌+◌, ◌*◌, ◌<◌, ◌≡◌, false, List, [], ◌∷◌}
use Rattle.std.proofs.Math.ListN.{length, get_or}
use Rattle.planar_rules.specs.PlanarCode.{Flat, Point, first, second, top}
use Rattle.planar_sphere.specs.Count.{count}
use Rattle.planar_sphere.specs.Program.{Is}
use Rattle.planar_order.specs.Model.{Chain}
use Rattle.planar_order.specs.Step.{among, state_of}

-- no vertex has two numbers
pub data Fresh (n : ℕ) : List Point → Type 0 where
  none : Fresh n []
  more : {p : Point} {ps : List Point} → p.vertex < n → among p.vertex ps ≡ false → Fresh n ps → Fresh n (p ∷ ps)

-- the entries are the neighbours that have no later number
pub record Lines (f : Flat) (p : Point) (later : List Point) : Type 0 where
  pub is_line : (x : ℕ) → x < length p.entries → (d : ℕ) × (d < f.D) × (f.own d ≡ p.vertex) × (f.nbr d ≡ get_or p.entries x 0)
  pub each_line : (d : ℕ) → d < f.D → f.own d ≡ p.vertex → among (f.nbr d) later ≡ false → (x : ℕ) × (x < length p.entries) × (get_or p.entries x 0 ≡ f.nbr d)

pub data AllLines (f : Flat) : List Point → Type 0 where
  none : AllLines f []
  more : {p : Point} {ps : List Point} → Lines f p ps → AllLines f ps → AllLines f (p ∷ ps)

-- how many entries they have together
unfoldable pub total : List Point → ℕ
total [] = 0
total (p ∷ ps) = length p.entries + total ps

-- what holds after some points are numbered
pub record Going (f : Flat) (b : List ℕ) (later : List Point) : Type 0 where
  pub is : Is f (state_of b later)
  pub chain : Chain b later (first ∷ top f ∷ second f ∷ [])
  pub fresh : Fresh f.n later
  pub lines : AllLines f later
  pub counted : count (λ x. among x later) f.n ≡ length later
  pub total_is : total later + 3 ≡ 3 * length later + length b
