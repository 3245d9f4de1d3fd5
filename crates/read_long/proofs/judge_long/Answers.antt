-- `judge_long` meets its contract. The loop's invariant: 13, 6 and 7 are left from entry i on.
use Rattle.std.specs.Prelude.{ℕ, ◌≡◌, ◌+◌, ◌*◌, ◌<◌, ◌≤◌, List, length, get_or, drop}
use Rattle.std.proofs.Common.{sym, ◌∙◌, arith, drop_of_length-le}
use Rattle.rules.specs.Records.{words_in}
use Rattle.store_tables.specs.Tables.{arrays_in}
use Rattle.words.specs.Bytes.{word_at}
use Rattle.store_judging.specs.Passed.{entry-refused, entry_passed}
use Rattle.read_records.specs.Cursors.{words_count}
use Rattle.read_records.specs.Marked.{words_in_lem}
use Rattle.read_long.proofs.Longs.{long-finished, long-entry, long-run}
use Rattle.read_long.proofs.judge_long.Goals as goal

-- the entries, more than 1,024
module _ (f : List ℕ) (from count : ℕ) (there : from + 2 * count ≤ length f) where
  abbrev words : List ℕ
  words = words_in count (drop from f)

  many : 1024 < count → 1024 < length words
  many h = rw (words_count f from count there) h

  more : (i : ℕ) → i < count → i < length words
  more i h = rw (words_count f from count there) h

  entry_is : (i : ℕ) → i < count → (w : ℕ) → w ≡ word_at f (from + 2 * i) → w ≡ get_or words i 0
  entry_is i h w is = is ∙ sym (words_in_lem f count from there i h)

pub returns-then-d : goal.returns-then-d
returns-then-d c =
    let f = c.args.entries.now.file.now in
    let at = c.args.entries.now.at in
    λ d h. long-finished h (words f at c.args.count c.requires.there) (many f at c.args.count c.requires.there c.requires.many) c.if-d.true

pub returns-in-Err : goal.returns-in-Err
returns-in-Err c =
    let f = c.args.entries.now.file.now in
    let at = c.args.entries.now.at in
    let n = c.args.count in
    let t = c.requires.there in
    let i = c.loop-i.i in
    λ d h. long-entry h (words f at n t) (many f at n t c.requires.many) c.if-d.false _ _
    (c.loop-i.invariant ∙ entry-refused (arrays_in c.args.d.now.table).owner (words f at n t) c.args.d.now.counts.k i _ (more f at n t i c.loop-i-test.true) (entry_is f at n t i c.loop-i-test.true _ c.word_at-e.ensures) c.judge_entry.ensures _ c.in-Err.is)

pub loop-i-preserved : goal.loop-i-preserved
loop-i-preserved c =
    let f = c.args.entries.now.file.now in
    let at = c.args.entries.now.at in
    let n = c.args.count in
    let t = c.requires.there in
    let i = c.loop-i.i in
    c.loop-i.invariant ∙ entry_passed (arrays_in c.args.d.now.table).owner (words f at n t) c.args.d.now.counts.k i _ (more f at n t i c.loop-i-test.true) (entry_is f at n t i c.loop-i-test.true _ c.word_at-e.ensures) c.judge_entry.ensures c.in_default.is

pub returns : goal.returns
returns c =
    let f = c.args.entries.now.file.now in
    let at = c.args.entries.now.at in
    let n = c.args.count in
    let t = c.requires.there in
    λ d h. long-run h (words f at n t) (many f at n t c.requires.many) c.if-d.false
    (c.loop-i.invariant ∙ rw (drop_of_length-le (words f at n t) {i = c.loop-i.i} (rw (words_count f at n t) c.loop-i-test.false)))
