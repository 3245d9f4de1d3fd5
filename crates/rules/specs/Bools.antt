-- What a compound test tells: `&&`, `||`, `between`.
use Rattle.std.specs.Prelude.{ℕ, ◌≤◌, ◌≡◌, refl, ◌⊎◌, Bool, true, false, ◌&&◌, ◌||◌, leb}
use Rattle.std.proofs.Common.{inl, inr, true≢false, leb-true, le-leb}
use Rattle.std.proofs.lemmas.Bool.{false≢true}
use Rattle.rules.specs.Basics.{between}

pub both : (a b : Bool) → (a && b) ≡ true → (a ≡ true) × (b ≡ true)
both true b e = (refl, e)
both false b e = absurd (false≢true e)

pub neither : (a b : Bool) → (a || b) ≡ false → (a ≡ false) × (b ≡ false)
neither true b e = absurd (true≢false e)
neither false b e = (refl, e)

pub notboth : (a b : Bool) → (a && b) ≡ false → (a ≡ false) ⊎ (b ≡ false)
notboth true b e = inr e
notboth false b e = inl refl

pub either : (a b : Bool) → (a || b) ≡ true → (a ≡ true) ⊎ (b ≡ true)
either true b e = inl refl
either false b e = inr e

pub is_false : (a : Bool) → (a ≡ true → ⊥) → a ≡ false
is_false true h = absurd (h refl)
is_false false h = refl

-- v lies from a to b
pub in_range : (a b v : ℕ) → between a b v ≡ true → (a ≤ v) × (v ≤ b)
in_range a b v h = let t = both (leb a v) (leb v b) h in (leb-true a v t.0, leb-true v b t.1)

pub range_in : (a b v : ℕ) → a ≤ v → v ≤ b → between a b v ≡ true
range_in a b v h k = rw (le-leb a v h, le-leb v b k)
