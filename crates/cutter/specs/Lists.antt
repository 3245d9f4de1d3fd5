-- All moves in two buffers: the answer and what the buffers hold afterwards.
use Rattle.std.specs.Prelude.{ℕ, ◌+◌, ◌*◌, ◌<◌, ◌≤◌, ◌≡◌, refl, List, length, Float, Result as Outcome, Ok, Err}
use Rattle.std.proofs.Common.{add-one, arith, ap, ◌∙◌, lt-ltb, le-ltb}
use Rattle.rules.specs.declared.Refusal.{Refusal}
use Rattle.rules.specs.declared.Refusal.TheVariants.{BadTool, Unfinished}
use Rattle.rules.specs.declared.Refused.{Refused}
use Rattle.rules.specs.Refusals.{Result, good, refused, refusal_at, told, ◌>>=◌}
use Rattle.rules.specs.Results.{never-good}
use Rattle.rules.specs.Points.{Drawing as Plan, line_at}
use Rattle.rules.specs.Output.{counted, filled, room_for}
use Rattle.rules.specs.Moves.{Tool as WholeTool, Move as WholeMove, moves_of, all_moves, given_moves}
use Rattle.store_links.specs.declared.Counts.{Counts}
use Rattle.store_links.specs.Arrays.{Arrays}
use Rattle.store_laws.specs.Adding.{Holds}
use Rattle.words.specs.Writing.{stored-filled}
use Rattle.tool.specs.declared.Tool.{Tool}
use Rattle.tool.specs.Checking.{whole_tool}
use Rattle.answers.specs.declared.NotListed.{NotListed}
use Rattle.answers.specs.Told.{told_listed, listed_for}
use Rattle.cutter_lines.specs.declared.Groove.{Groove}
use Rattle.cutter_lines.specs.Grooves.{groove_moves, total}
use Rattle.cutter_lists.specs.declared.MoveLists.{MoveLists}
use Rattle.cutter_lists.specs.Listing.{kinds_of, numbers_of, Exactly, Puts, PutsIn, length-kinds, length-numbers, in_both}
use Rattle.cutter_grooves.specs.Grooves.{groove_of, groove_moves_lem}
use Rattle.cutter.specs.Numbering.{moves_to, to_next, to_all, to_most}
use Rattle.cutter.specs.Finding.{total_is}
use Rattle.cutter.specs.Whole.{all_bad, all_early}
use Rattle.cutter.specs.Setting.{NotSet, bad, early}
use Rattle.cutter.specs.Seen.{unfinished}

-- the moves `wanted` were to be written: 24 where a buffer is too short; a refusal changes nothing, and what stands past the moves stays
pub record Lists (wanted : Result (List WholeMove)) (kinds : List ℕ) (numbers : List Float) (kinds' : List ℕ) (numbers' : List Float) (r : Outcome ℕ NotListed) : Type 0 where
  pub answer : r ≡ listed_for (length kinds) (length numbers) wanted
  pub told : told_listed r ≡ told (counted (room_for (length kinds) (length numbers) wanted))
  pub kinds_after : kinds' ≡ filled kinds (room_for (length kinds) (length numbers) wanted >>= λ ms. good (kinds_of ms))
  pub numbers_after : numbers' ≡ filled numbers (room_for (length kinds) (length numbers) wanted >>= λ ms. good (numbers_of ms))
  pub exact : (ms : List WholeMove) → room_for (length kinds) (length numbers) wanted ≡ good ms → Exactly ms

-- the same, where the two buffers are one struct, which holds the same two afterwards
pub record ListsIn (wanted : Result (List WholeMove)) (before after : MoveLists) (r : Outcome ℕ NotListed) : Type 0 where
  pub same-kinds : after.kinds.ghost_name ≡ before.kinds.ghost_name
  pub same-numbers : after.numbers.ghost_name ≡ before.numbers.ghost_name
  pub lists : Lists wanted before.kinds.now before.numbers.now after.kinds.now after.numbers.now r

module _ (kinds : List ℕ) (numbers : List Float) where
  -- nothing was to be written
  pub lists-refused : (r : Refusal) (p : ℕ) → Lists (refused r p) kinds numbers kinds numbers (Err (NotListed.Refused (refusal_at r p)))
  lists-refused r p = record { answer = refl; told = refl; kinds_after = refl; numbers_after = refl; exact = λ ms e. absurd (never-good e) }

  -- no setting: 12 or 22
  pub lists-not : {q : Plan} {a : Arrays} {c : Counts} → Holds q a c → (t : Tool) (e : Refused) → NotSet c t e → Lists (given_moves q (whole_tool t)) kinds numbers kinds numbers (Err (NotListed.Refused e))
  lists-not {q} h t _ (bad is) = rw (all_bad q (whole_tool t) is) (lists-refused BadTool 0)
  lists-not {q} h t _ (early is b) = rw (all_early q (whole_tool t) is (unfinished h b)) (lists-refused Unfinished 0)

  module _ (ms : List WholeMove) where
    -- no room for the kinds
    pub lists-kinds : length kinds < length ms → Lists (good ms) kinds numbers kinds numbers (Err NotListed.KindsShort)
    lists-kinds h = let t = lt-ltb (length kinds) (length ms) h in record { answer = rw t; told = rw t; kinds_after = rw t; numbers_after = rw t; exact = λ ns e. absurd (never-good (rw t at e)) }

    module _ (room : length ms ≤ length kinds) where
      -- no room for the numbers
      pub lists-numbers : length numbers < 2 * length ms → Lists (good ms) kinds numbers kinds numbers (Err NotListed.NumbersShort)
      lists-numbers h =
          let s = le-ltb (length kinds) (length ms) room in
          let t = lt-ltb (length numbers) (2 * length ms) h in
          record { answer = rw (s, t); told = rw (s, t); kinds_after = rw (s, t); numbers_after = rw (s, t); exact = λ ns e. absurd (never-good (rw (s, t) at e)) }

      -- room for both
      pub lists_all : {kinds' : List ℕ} {numbers' : List Float} {r : ℕ} → 2 * length ms ≤ length numbers → Puts kinds numbers 0 ms kinds' numbers' r → Lists (good ms) kinds numbers kinds' numbers' (Ok r)
      lists_all {r = r} h p =
          let s = le-ltb (length kinds) (length ms) room in
          let t = le-ltb (length numbers) (2 * length ms) h in
          let n : r ≡ length ms = omega (arith, p.behind) in
          record {
            answer = rw (s, t, n);
            told = rw (s, t, n);
            kinds_after = rw (s, t) (stored-filled (omega (arith, length-kinds ms)) p.kinds-stored);
            numbers_after = rw (s, t) (stored-filled (omega (arith, length-numbers ms)) p.numbers-stored);
            exact = λ ns e. let z : ms ≡ ns = cc (rw (s, t) at e) in rw (← z) p.exact;
          }

-- two buffers that were lent as one struct
pub lists_lent : {wanted : Result (List WholeMove)} {before after : MoveLists} {kinds' : List ℕ} {numbers' : List Float} {r : Outcome ℕ NotListed} → kinds' ≡ after.kinds.now → numbers' ≡ after.numbers.now → ListsIn wanted before after r →
    Lists wanted before.kinds.now before.numbers.now kinds' numbers' r
lists_lent k n l = rw (k, n) l.lists

-- ---- the list, line by line

module _ {q : Plan} {a : Arrays} {c : Counts} (h : Holds q a c) (t : WholeTool) (e : ℕ) {before middle : MoveLists} {i : ℕ} (p : PutsIn before 0 (moves_to q t e) middle i) where
  -- all lines are there
  pub lines_all : c.lines ≤ e → PutsIn before 0 (all_moves q t) middle i
  lines_all b = rw (to_all q t e (omega (arith, h.stores.lines))) at p

  module _ (b : e < c.lines) (g : Groove) (is : g ≡ groove_of q (line_at q e)) where
    -- one line more
    pub lines_more : {after : MoveLists} {j : ℕ} → PutsIn middle i (groove_moves c.s t g) after j → PutsIn before 0 (moves_to q t (e + 1)) after j
    lines_more {after} {j} r =
        let same : groove_moves c.s t g ≡ moves_of q t (line_at q e) =
        ap (λ (v : Groove). groove_moves c.s t v) is ∙ ap (λ (n : ℕ). groove_moves n t (groove_of q (line_at q e))) h.stores.s ∙ groove_moves_lem q t (line_at q e) in
        rw (add-one e, to_next q t e (omega (arith, h.stores.lines))) (in_both p (rw same at r))

    -- there is room for it
    pub lines-room : 1 ≤ c.s → 1 ≤ t.pitch → i + total g ≤ length (all_moves q t)
    lines-room some wide =
        omega (arith, p.puts.behind, to_most q t e (omega (arith, h.stores.lines)), total_is q t e g is (omega (arith, h.stores.s)) wide)
