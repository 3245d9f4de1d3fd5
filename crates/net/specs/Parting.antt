-- What both drawings keep of two lines: without a common end they do not meet, and with one they have no other point in common.
use Rattle.std.specs.Prelude.{ℕ, ◌<◌, ◌≡◌, ◌≢◌, ◌⊎◌, false}
use Rattle.rules.specs.declared.Place.{Place}
use Rattle.rules.specs.Meeting.{meet}
use Rattle.net.specs.Net.{Net}
use Rattle.net.specs.Bend.{pt, Spot, spot}
use Rattle.net.specs.Stack.{OnlyHalf}

-- no two of the places S and of the places T are the ends of pieces that meet
abbrev pub Missed : (Spot → Place) → (Spot → Place) → Type 0
Missed S T = (i j i' j' : Spot) → meet (S i) (S j) (T i') (T j') ≡ false

-- The pieces of a line join neighbours among its three places: of two lines with no end in common no two pieces meet.
abbrev pub EndsApart : Net → Type 0
EndsApart g = (e f : ℕ) → e < g.L → f < g.L → g.u e ≢ g.u f → g.u e ≢ g.v f → g.v e ≢ g.u f → g.v e ≢ g.v f → Missed (spot g e) (spot g f)

-- Two different lines that end at z: no piece of one has a point in common with a piece of the other but z.
abbrev pub EndShared : Net → Type 0
EndShared g = (z e f : ℕ) → e < g.L → f < g.L → e ≢ f → (g.u e ≡ z) ⊎ (g.v e ≡ z) → (g.u f ≡ z) ⊎ (g.v f ≡ z) → OnlyHalf (pt g z) (spot g e) (spot g f)
