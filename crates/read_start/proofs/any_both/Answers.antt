-- `read_start::any_both` meets its contract. The loop's invariant: what is left to find is an entry from i on.
use Rattle.std.specs.Prelude.{ℕ, ◌≡◌, ◌+◌, ◌*◌, ◌<◌, ◌≤◌, Bool, ◌||◌, List, [], map, length, get_or, drop}
use Rattle.std.proofs.Common.{sym, ap, ◌∙◌, add-one, drop_of_length-le, drop-cons}
use Rattle.rules.specs.Basics.{any_of}
use Rattle.rules.specs.Entries.{read_entry, is_both}
use Rattle.rules.specs.Records.{words_in}
use Rattle.words.specs.Bytes.{word_at}
use Rattle.read_records.specs.Cursors.{words_count}
use Rattle.read_records.specs.Marked.{words_in_lem}
use Rattle.read_start.proofs.any_both.Goals as goal

-- one of some numbers is marked both
abbrev some : List ℕ → Bool
some ws = any_of is_both (map read_entry ws)

-- the entry at hand, and those behind it
both-turn : (ws : List ℕ) (i w : ℕ) → i < length ws → w ≡ get_or ws i 0 → some (drop i ws) ≡ (is_both (read_entry w) || some (drop (i + 1) ws))
both-turn ws i w h is = rw (drop-cons ws i 0 h, ← is, add-one)

module _ (f : List ℕ) (from count : ℕ) (room : from + 2 * count ≤ length f) (i : ℕ) (so_far : some (words_in count (drop from f)) ≡ some (drop i (words_in count (drop from f)))) where
  abbrev words : List ℕ
  words = words_in count (drop from f)

  turn : i < count → (w : ℕ) → w ≡ word_at f (from + 2 * i) → (t : Bool) → t ≡ is_both (read_entry w) → some words ≡ (t || some (drop (i + 1) words))
  turn more w is t q =
      so_far ∙ both-turn words i w (rw (words_count f from count room) more) (is ∙ sym (words_in_lem f count from room i more)) ∙
      ap (λ (b : Bool). b || some (drop (i + 1) words)) (sym q)

  over : count ≤ i → some words ≡ some []
  over h = so_far ∙ ap some (drop_of_length-le words {i = i} (rw (words_count f from count room) h))

pub returns-then-is_both : goal.returns-then-is_both
returns-then-is_both c = sym (turn c.args.entries.now.file.now _ _ c.requires _ c.loop-i.invariant c.loop-i-test.true _ c.word_at.ensures _ c.if-is_both.ensures)

pub loop-i-preserved : goal.loop-i-preserved
loop-i-preserved c = turn c.args.entries.now.file.now _ _ c.requires _ c.loop-i.invariant c.loop-i-test.true _ c.word_at.ensures _ c.if-is_both.ensures

pub returns : goal.returns
returns c = sym (over c.args.entries.now.file.now _ _ c.requires _ c.loop-i.invariant c.loop-i-test.false)
