-- An entry by its low bits and what its two top bits say.
use Rattle.std.specs.Prelude.{ℕ, zero, suc, ◌/◌, ◌%◌, ◌≤◌, ◌≡◌, refl}
use Rattle.std.proofs.Common.{arith}
use Rattle.rules.specs.declared.Kind.{Kind}
use Rattle.rules.specs.declared.Kind.TheVariants.{Guide, Plain, Feeder}
use Rattle.rules.specs.declared.Reading.TheVariants.{Both}
use Rattle.rules.specs.Entries.{point_limit, reading, read_entry, top_bits}
use Rattle.rules.specs.DrawingFile.{kind_from}

-- the reading of point p under the top bits b
pub reads_as : (e p b : ℕ) → p ≡ e % point_limit → e / point_limit ≡ b → reading p b ≡ read_entry e
reads_as e p b low top = rw (low, ← top)

-- neither plain nor a feeder nor a guide
pub reads_both : (e p : ℕ) → p ≡ e % point_limit → (e / point_limit ≡ 0 → ⊥) → (e / point_limit ≡ 1 → ⊥) → (e / point_limit ≡ 2 → ⊥) → Both p ≡ read_entry e
reads_both e p low n0 n1 n2 = rw low (go (e / point_limit) n0 n1 n2)
  where
    go : (b : ℕ) → (b ≡ 0 → ⊥) → (b ≡ 1 → ⊥) → (b ≡ 2 → ⊥) → Both (e % point_limit) ≡ reading (e % point_limit) b
    go zero n0 n1 n2 = absurd (n0 refl)
    go (suc zero) n0 n1 n2 = absurd (n1 refl)
    go (suc (suc zero)) n0 n1 n2 = absurd (n2 refl)
    go (suc (suc (suc b))) n0 n1 n2 = refl

-- the top bits of a kind are below 3
pub top_most : (k : Kind) → top_bits k ≤ 2
top_most Plain = omega arith
top_most Feeder = omega arith
top_most Guide = omega arith

-- a field that is neither 0 nor 2 says plain
pub field_plain : (v : ℕ) → (v ≡ 0 → ⊥) → (v ≡ 2 → ⊥) → Plain ≡ kind_from v
field_plain zero n0 n2 = absurd (n0 refl)
field_plain (suc zero) n0 n2 = refl
field_plain (suc (suc zero)) n0 n2 = absurd (n2 refl)
field_plain (suc (suc (suc v))) n0 n2 = refl
