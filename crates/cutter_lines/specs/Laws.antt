-- The moves of a line by number: which of document 01's five each is, and how many there are.
use Rattle.std.specs.Prelude.{ℕ, zero, suc, ◌+◌, ◌*◌, ◌-◌, ◌%◌, ◌≤◌, ◌<◌, ◌≡◌, refl, Bool, true, false, List, [], ◌∷◌, ◌++◌, length, get_or, if◌then◌else◌}
use Rattle.std.proofs.Common.{sym, ap, ◌∙◌, subst, mul-le-mul, arith, length-append, get_or-append-add}
use Rattle.std.proofs.Math.ListN.{get_or-append}
use Rattle.std.proofs.Math.Arith.{digits_mod}
use Rattle.std.proofs.Math.Decide.{dec_lt}
use Rattle.rules.specs.declared.Kind.{Kind}
use Rattle.rules.specs.declared.Kind.TheVariants.{Guide, Plain, Feeder}
use Rattle.rules.specs.Meeting.{same_place}
use Rattle.rules.specs.Moves.{Tool as WholeTool, Move as WholeMove, lift, repeated}
use Rattle.rules.proofs.Dwelling.{bent-list, bent-count}
use Rattle.cutter_lines.specs.declared.Groove.{Groove}
use Rattle.cutter_lines.specs.Grooves.{five_moves, once_moves, groove_moves, cuts, each, total, step_of}

-- three moves and two cuts, of which some are left out
abbrev kept : Bool → Bool → (a b c d e : WholeMove) → List WholeMove
kept p q a b c d e = a ∷ b ∷ ((if p then [] else c ∷ []) ++ ((if q then [] else d ∷ []) ++ (e ∷ [])))

-- where each of them stood
step_kept : (p q : Bool) (a b c d e : WholeMove) (i : ℕ) → i < length (kept p q a b c d e) →
    (step_of p q i < 5) × (get_or (a ∷ b ∷ c ∷ d ∷ e ∷ []) (step_of p q i) (lift 0) ≡ get_or (kept p q a b c d e) i (lift 0))
step_kept true true a b c d e zero h = (omega arith, refl)
step_kept true true a b c d e (suc zero) h = (omega arith, refl)
step_kept true true a b c d e (suc (suc zero)) h = (omega arith, refl)
step_kept true true a b c d e (suc (suc (suc i))) h = absurd (omega arith)
step_kept true false a b c d e zero h = (omega arith, refl)
step_kept true false a b c d e (suc zero) h = (omega arith, refl)
step_kept true false a b c d e (suc (suc zero)) h = (omega arith, refl)
step_kept true false a b c d e (suc (suc (suc zero))) h = (omega arith, refl)
step_kept true false a b c d e (suc (suc (suc (suc i)))) h = absurd (omega arith)
step_kept false true a b c d e zero h = (omega arith, refl)
step_kept false true a b c d e (suc zero) h = (omega arith, refl)
step_kept false true a b c d e (suc (suc zero)) h = (omega arith, refl)
step_kept false true a b c d e (suc (suc (suc zero))) h = (omega arith, refl)
step_kept false true a b c d e (suc (suc (suc (suc i)))) h = absurd (omega arith)
step_kept false false a b c d e zero h = (omega arith, refl)
step_kept false false a b c d e (suc zero) h = (omega arith, refl)
step_kept false false a b c d e (suc (suc zero)) h = (omega arith, refl)
step_kept false false a b c d e (suc (suc (suc zero))) h = (omega arith, refl)
step_kept false false a b c d e (suc (suc (suc (suc zero)))) h = (omega arith, refl)
step_kept false false a b c d e (suc (suc (suc (suc (suc i))))) h = absurd (omega arith)

module _ (s : ℕ) (t : WholeTool) (g : Groove) (some : 1 ≤ s) (wide : 1 ≤ t.pitch) where
  -- How many moves each time.
  pub each-count : length (once_moves s t g) ≡ each g
  each-count = bent-count s t some wide g.later g.bend g.earlier

  -- Which of the five each is.
  pub step_is : (i : ℕ) → i < each g →
      let j = step_of (same_place g.bend g.later) (same_place g.earlier g.bend) i in
      (j < 5) × (get_or (five_moves s t g) j (lift 0) ≡ get_or (once_moves s t g) i (lift 0))
  step_is i h =
      let l = bent-list s t some wide g.later g.bend g.earlier in
      let j = step_of (same_place g.bend g.later) (same_place g.earlier g.bend) i in
      subst (λ (ms : List WholeMove). (j < 5) × (get_or (five_moves s t g) j (lift 0) ≡ get_or ms i (lift 0))) (sym l)
      (step_kept (same_place g.bend g.later) (same_place g.earlier g.bend) _ _ _ _ _ i (omega (arith, each-count, ap length l)))

-- A list as often as a line is cut: how long it is, and what stands where.
pub repeated-count : (k : Kind) (l : List WholeMove) → length (repeated k l) ≡ cuts k * length l
repeated-count Guide l = omega arith
repeated-count Plain l = omega arith
repeated-count Feeder l = omega (arith, length-append l l)

repeated_at : (k : Kind) (l : List WholeMove) (i : ℕ) → i < cuts k * length l → get_or (repeated k l) i (lift 0) ≡ get_or l (i % length l) (lift 0)
repeated_at Guide l i h = absurd (omega arith)
repeated_at Plain l i h =
    let e : i % length l ≡ i = ap (λ (n : ℕ). n % length l) (omega arith) ∙ digits_mod 0 (omega arith) in
    rw e
repeated_at Feeder l i h =
    elim (dec_lt i (length l)) [
      | yes b ↦
          let e : i % length l ≡ i = ap (λ (n : ℕ). n % length l) (omega arith) ∙ digits_mod 0 b in
          rw e (get_or-append l l (lift 0) i b)
      | no b ↦
          let j = i - length l in
          let e : i ≡ length l + j = omega arith in
          let f : i % length l ≡ j = ap (λ (n : ℕ). n % length l) (omega arith) ∙ digits_mod 1 (omega arith) in
          rw f (ap (λ (n : ℕ). get_or (l ++ l) n (lift 0)) e ∙ get_or-append-add l l j (lift 0))
    ]

module _ (s : ℕ) (t : WholeTool) (g : Groove) (some : 1 ≤ s) (wide : 1 ≤ t.pitch) where
  -- HOW MANY MOVES THE LINE GIVES,
  pub total-count : length (groove_moves s t g) ≡ total g
  total-count = repeated-count g.kind (once_moves s t g) ∙ ap (λ (n : ℕ). cuts g.kind * n) (each-count s t g some wide)

  -- and which each is.
  pub groove_at : (i : ℕ) → i < total g → get_or (groove_moves s t g) i (lift 0) ≡ get_or (once_moves s t g) (i % each g) (lift 0)
  groove_at i h =
      let e = each-count s t g some wide in
      repeated_at g.kind (once_moves s t g) i (rw e h) ∙ ap (λ (n : ℕ). get_or (once_moves s t g) (i % n) (lift 0)) e

-- Never more than ten.
pub total_most : (g : Groove) → total g ≤ 10
total_most g = mul-le-mul (few g.kind) (five (same_place g.bend g.later) (same_place g.earlier g.bend))
  where
    few : (k : Kind) → cuts k ≤ 2
    few Guide = omega arith
    few Plain = omega arith
    few Feeder = omega arith

    five : (p q : Bool) → 3 + (if p then 0 else 1) + (if q then 0 else 1) ≤ 5
    five true true = omega arith
    five true false = omega arith
    five false true = omega arith
    five false false = omega arith
