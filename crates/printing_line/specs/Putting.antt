-- Bytes put into a page one behind the other, and a page that begins with what is to be printed.
use Rattle.std.specs.Prelude.{ℕ, ◌+◌, ◌≤◌, ◌≡◌, List, ◌++◌, length, take, drop}
use Rattle.std.proofs.Common.{ap, sym, ◌∙◌, subst, zero-add, arith, length-append, take_at}
use Rattle.std.proofs.Math.Seq.{take-length}
use Rattle.rules.specs.Refusals.{good}
use Rattle.rules.specs.Output.{filled}
use Rattle.words.specs.Writing.{Stored, behind, length-stored, stored-filled}

-- ---- the two statements

-- the bytes stand in the page from `at` on, and `end` is the place behind them
pub record Put (page : List ℕ) (at : ℕ) (bytes after : List ℕ) (end : ℕ) : Type 0 where
  pub is : Stored page at bytes after
  pub behind : end ≡ at + length bytes

-- the page begins with these bytes, r of them; behind them stands what stood there
pub record Printed (page bytes after : List ℕ) (r : ℕ) : Type 0 where
  pub is : after ≡ filled page (good bytes)
  pub size : r ≡ length bytes
  pub fits : r ≤ length after

-- no number of 64 bits has more digits
abbrev pub most_digits : ℕ
most_digits = 20

-- room for a refusal's line: "refused ", a number, " at ", a number and a line feed
abbrev pub line_room : ℕ
line_room = 8 + most_digits + 4 + most_digits + 1

-- ---- laws

-- THE FIRST r BYTES are the bytes to print
pub first_printed : {page bytes after : List ℕ} {r : ℕ} → Printed page bytes after r → take r after ≡ bytes
first_printed {page} {bytes} {after} {r} p = ap (take r) p.is ∙ take_at bytes (drop (length bytes) page) r (sym p.size)

-- the bytes, said otherwise
pub put_as : {page after a b : List ℕ} {at end : ℕ} → a ≡ b → Put page at a after end → Put page at b after end
put_as {page} {after} {at = at} {end = end} e p = subst (λ (l : List ℕ). Put page at l after end) e p

-- some bytes, and then others behind them
pub put_both : {page middle after a b : List ℕ} {at between end : ℕ} → Put page at a middle between → Put middle between b after end → Put page at (a ++ b) after end
put_both {a = a} {b} p q = record { is = behind p.behind p.is q.is; behind = omega (arith, p.behind, q.behind, length-append a b) }

-- from the start
pub put-start : {page bytes after : List ℕ} {end : ℕ} → length bytes ≤ length page → Put page 0 bytes after end → Printed page bytes after end
put-start {page} {bytes} h p =
    record { is = stored-filled h p.is; size = p.behind ∙ zero-add (length bytes); fits = omega (arith, p.behind, length-stored p.is) }

-- all of it
pub put_all : (text : List ℕ) (i : ℕ) {page after : List ℕ} {at : ℕ} → Stored page at (take i text) after → i ≡ length text → Put page at text after (at + i)
put_all text i {page} {after} {at} p h =
    record { is = subst (λ (bs : List ℕ). Stored page at bs after) (ap (λ (k : ℕ). take k text) h ∙ take-length text) p; behind = omega arith }
