-- Moves in two buffers: a kind and two f32 a move.
use Rattle.std.specs.Prelude.{ℕ, suc, ◌+◌, ◌*◌, ◌<◌, ◌≤◌, ◌≡◌, refl, List, [], ◌∷◌, ◌++◌, length, get_or, take, set, Float}
use Rattle.std.proofs.Common.{sym, ap, ◌∙◌, append-nil, append_assoc, arith, add-one, length-append, take-suc, take_all}
use Rattle.std.proofs.lemmas.List.Edits.{sets}
use Rattle.rules.specs.Moves.{Move as WholeMove, lift}
use Rattle.words.specs.Writing.{Stored, stored_none, behind, length-stored}
use Rattle.tool.specs.declared.Move.{Move}
use Rattle.tool.specs.declared.Move.TheVariants.{Travel, Plunge, Cut, Lift}
use Rattle.tool.specs.Showing.{Shows, in_floats, IsMove, move_kind, move_numbers}
use Rattle.cutter_lists.specs.declared.MoveLists.{MoveLists}

-- the kinds of moves, and their numbers, in f32
abbrev pub kinds_of : List WholeMove → List ℕ
kinds_of [] = []
kinds_of (m ∷ ms) = move_kind (in_floats m) ∷ kinds_of ms

abbrev pub numbers_of : List WholeMove → List Float
numbers_of [] = []
numbers_of (m ∷ ms) = move_numbers (in_floats m) ++ numbers_of ms

-- none of them has an error
abbrev pub Exactly : List WholeMove → Type 0
Exactly [] = Unit {0}
Exactly (m ∷ ms) = Shows (in_floats m) m × Exactly ms

-- the moves ms stand in the buffers as moves i, i + 1, .., and `end` is the number behind them
pub record Puts (kinds : List ℕ) (numbers : List Float) (i : ℕ) (ms : List WholeMove) (kinds' : List ℕ) (numbers' : List Float) (end : ℕ) : Type 0 where
  pub kinds-stored : Stored kinds i (kinds_of ms) kinds'
  pub numbers-stored : Stored numbers (2 * i) (numbers_of ms) numbers'
  pub behind : end ≡ i + length ms
  pub exact : Exactly ms

-- the same buffers, with the moves in them
pub record PutsIn (before : MoveLists) (i : ℕ) (ms : List WholeMove) (after : MoveLists) (end : ℕ) : Type 0 where
  pub same-kinds : after.kinds.ghost_name ≡ before.kinds.ghost_name
  pub same-numbers : after.numbers.ghost_name ≡ before.numbers.ghost_name
  pub puts : Puts before.kinds.now before.numbers.now i ms after.kinds.now after.numbers.now end

-- the same buffers, with m as move i
pub record PutsMove (before : MoveLists) (i : ℕ) (m : Move) (after : MoveLists) : Type 0 where
  pub same-kinds : after.kinds.ghost_name ≡ before.kinds.ghost_name
  pub same-numbers : after.numbers.ghost_name ≡ before.numbers.ghost_name
  pub kind : after.kinds.now ≡ set before.kinds.now i (move_kind m)
  pub pair : after.numbers.now ≡ sets before.numbers.now (2 * i) (move_numbers m)

-- ---- laws

-- a move has two numbers
pub two_numbers : (m : Move) → length (move_numbers m) ≡ 2
two_numbers (Travel x y) = refl
two_numbers (Plunge z) = refl
two_numbers (Cut x y) = refl
two_numbers (Lift z) = refl

pub length-kinds : (ms : List WholeMove) → length (kinds_of ms) ≡ length ms
length-kinds [] = refl
length-kinds (m ∷ ms) = ap suc (length-kinds ms)

pub length-numbers : (ms : List WholeMove) → length (numbers_of ms) ≡ 2 * length ms
length-numbers [] = refl
length-numbers (m ∷ ms) = omega (arith, length-append (move_numbers (in_floats m)) (numbers_of ms), two_numbers (in_floats m), length-numbers ms)

kinds_append : (ms ns : List WholeMove) → kinds_of (ms ++ ns) ≡ kinds_of ms ++ kinds_of ns
kinds_append [] ns = refl
kinds_append (m ∷ ms) ns = ap (λ (l : List ℕ). move_kind (in_floats m) ∷ l) (kinds_append ms ns)

numbers_append : (ms ns : List WholeMove) → numbers_of (ms ++ ns) ≡ numbers_of ms ++ numbers_of ns
numbers_append [] ns = refl
numbers_append (m ∷ ms) ns = ap (λ (l : List Float). move_numbers (in_floats m) ++ l) (numbers_append ms ns) ∙ sym (append_assoc (move_numbers (in_floats m)) (numbers_of ms) (numbers_of ns))

exactly_append : (ms ns : List WholeMove) → Exactly ms → Exactly ns → Exactly (ms ++ ns)
exactly_append [] ns a b = b
exactly_append (m ∷ ms) ns a b = (a.0, exactly_append ms ns a.1 b)

module _ {kinds : List ℕ} {numbers : List Float} {i : ℕ} where
  -- nothing is put
  puts_none : Puts kinds numbers i [] kinds numbers i
  puts_none = record { kinds-stored = stored_none kinds i; numbers-stored = stored_none numbers (2 * i); behind = omega arith; exact = tt }

  module _ {ms : List WholeMove} {kinds₁ : List ℕ} {numbers₁ : List Float} {j : ℕ} (p : Puts kinds numbers i ms kinds₁ numbers₁ j) where
    -- some moves, and then others behind them
    puts_both : {ns : List WholeMove} {kinds₂ : List ℕ} {numbers₂ : List Float} {end : ℕ} → Puts kinds₁ numbers₁ j ns kinds₂ numbers₂ end → Puts kinds numbers i (ms ++ ns) kinds₂ numbers₂ end
    puts_both {ns} q =
        record {
          kinds-stored = rw (kinds_append ms ns) (behind (omega (arith, p.behind, length-kinds ms)) p.kinds-stored q.kinds-stored);
          numbers-stored = rw (numbers_append ms ns) (behind (omega (arith, p.behind, length-numbers ms)) p.numbers-stored q.numbers-stored);
          behind = omega (arith, p.behind, q.behind, length-append ms ns);
          exact = exactly_append ms ns p.exact q.exact;
        }

    -- the buffers keep their lengths
    puts_long : (length kinds₁ ≡ length kinds) × (length numbers₁ ≡ length numbers)
    puts_long = (length-stored p.kinds-stored, length-stored p.numbers-stored)

module _ {before : MoveLists} where
  -- nothing is put
  pub in_none : (i : ℕ) → PutsIn before i [] before i
  in_none i = record { same-kinds = refl; same-numbers = refl; puts = puts_none }

  module _ {i : ℕ} {ms : List WholeMove} {middle : MoveLists} {j : ℕ} (p : PutsIn before i ms middle j) where
    -- some moves, and then others behind them
    pub in_both : {ns : List WholeMove} {after : MoveLists} {end : ℕ} → PutsIn middle j ns after end → PutsIn before i (ms ++ ns) after end
    in_both q = record { same-kinds = q.same-kinds ∙ p.same-kinds; same-numbers = q.same-numbers ∙ p.same-numbers; puts = puts_both p.puts q.puts }

    -- the buffers keep their lengths
    pub in_long : (length middle.kinds.now ≡ length before.kinds.now) × (length middle.numbers.now ≡ length before.numbers.now)
    in_long = puts_long p.puts

  -- one move
  pub in_one : (i : ℕ) (m : Move) {v : WholeMove} {after : MoveLists} → IsMove m v → PutsMove before i m after → PutsIn before i (v ∷ []) after (i + 1)
  in_one i m is p =
      record {
        same-kinds = p.same-kinds;
        same-numbers = p.same-numbers;
        puts =
            record {
              kinds-stored = record { is = rw (← is.0) p.kind };
              numbers-stored = record { is = rw (← is.0, append-nil (move_numbers m)) p.pair };
              behind = refl;
              exact = (rw (← is.0) is.1, tt);
            };
      }

-- one move more of some moves
pub in_next : (ms : List WholeMove) (j : ℕ) {before middle after : MoveLists} {i : ℕ} (m : Move) → j < length ms → PutsIn before i (take j ms) middle (i + j) → IsMove m (get_or ms j (lift 0)) → PutsMove middle (i + j) m after →
    PutsIn before i (take (j + 1) ms) after (i + (j + 1))
in_next ms j {i = i} m h p is q =
    let e : i + j + 1 ≡ i + (j + 1) = omega arith in
    rw (add-one j, take-suc ms j (lift 0) h, ← add-one j, ← e) (in_both p (in_one (i + j) m is q))

-- all of them
pub in_all : (ms : List WholeMove) (j : ℕ) {before after : MoveLists} {i end : ℕ} → length ms ≤ j → PutsIn before i (take j ms) after end → PutsIn before i ms after end
in_all ms j h p = rw (take_all j ms h) at p
