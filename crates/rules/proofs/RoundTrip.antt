-- Reading back what was written: an entry, the numbers of a record, a record.
use Rattle.std.specs.Prelude.{ℕ, zero, suc, ◌+◌, ◌*◌, ◌/◌, ◌%◌, ◌<◌, ◌≡◌, refl, not, false, List, [], ◌∷◌, ◌++◌, length, eqb}
use Rattle.std.proofs.Common.{ap, sym, ◌∙◌, true≢false, arith, length-append, drop_at, le-ltb, eq-eqb}
use Rattle.rules.specs.declared.Kind.{Kind}
use Rattle.rules.specs.declared.Kind.TheVariants.{Guide, Plain, Feeder}
use Rattle.rules.specs.declared.Entry.{Entry}
use Rattle.rules.specs.declared.Reading.TheVariants.{Given}
use Rattle.rules.specs.declared.Refusal.TheVariants.{WrongMark}
use Rattle.rules.specs.Refusals.{Result, good, ◌>>=◌, ◌>>◌, refuse_if}
use Rattle.rules.specs.Entries.{point_limit, reading, read_entry, top_bits, word_of, is_both}
use Rattle.rules.specs.Readings.{kind_in, entry_of}
use Rattle.rules.proofs.Lengths.{length-bytes}
use Rattle.rules.specs.Found.{found, Fits}
use Rattle.rules.specs.Records.{Size, plain, counted, Shape, Found, bytes_of, sized, written, words_in, words_at, first, rest_of, read_record}

-- an entry, written and read
pub entry_back : (e : Entry) → e.point < point_limit → read_entry (word_of e) ≡ Given e
entry_back e h = go e.kind refl
  where
    at : (b : ℕ) → read_entry (e.point + b * point_limit) ≡ reading e.point b
    at b = let p : (e.point + b * point_limit) % point_limit ≡ e.point = omega arith in let t : (e.point + b * point_limit) / point_limit ≡ b = omega arith in rw (p, t)

    go : (k : Kind) → e.kind ≡ k → read_entry (e.point + top_bits k * point_limit) ≡ Given e
    go Plain q = at 0 ∙ λ i. Given (record { point = e.point; kind = sym q i })
    go Feeder q = at 1 ∙ λ i. Given (record { point = e.point; kind = sym q i })
    go Guide q = at 2 ∙ λ i. Given (record { point = e.point; kind = sym q i })

-- a 16-bit number, read as an entry of one of the three kinds and written
pub word_back : (w : ℕ) → w < 65536 → is_both (read_entry w) ≡ false → word_of (entry_of w) ≡ w
word_back w h one = go (w / point_limit) refl one
  where
    go : (b : ℕ) → w / point_limit ≡ b → is_both (reading (w % point_limit) b) ≡ false → w % point_limit + top_bits (kind_in b) * point_limit ≡ w
    go zero q o = omega arith
    go (suc zero) q o = omega arith
    go (suc (suc zero)) q o = omega arith
    go (suc (suc (suc b))) q o = absurd (true≢false o)

-- the bytes of numbers, with anything behind them, give the numbers back
pub words_back : (ws rest : List ℕ) → words_in (length ws) (bytes_of ws ++ rest) ≡ ws
words_back [] rest = refl
words_back (w ∷ ws) rest =
    let t = words_back ws rest in
    let e : w / 256 * 256 + w % 256 ≡ w = omega arith in
    cc

-- the numbers of a record, written and read at a cursor
pub words_at_lem : (place o : ℕ) (ws rest : List ℕ) → words_at place (length ws) (record { offset = o; bytes = bytes_of ws ++ rest }) ≡ good (found place ws (o + 2 * length ws) rest)
words_at_lem place o ws rest =
    let short = le-ltb (length (bytes_of ws ++ rest)) (2 * length ws) (omega (arith, length-append (bytes_of ws) rest, length-bytes ws)) in
    rw (short, words_back ws rest, drop_at (bytes_of ws) rest (2 * length ws) (length-bytes ws))

-- what follows the mark
rest_back : (z : Size) (place o : ℕ) (ws rest : List ℕ) → Fits z ws →
    rest_of place z (record { offset = o; bytes = bytes_of (sized z ws) ++ rest }) ≡ good (found place ws (o + 2 * length (sized z ws)) rest)
rest_back (plain c) place o ws rest h = ap (λ (n : ℕ). words_at place n (record { offset = o; bytes = bytes_of ws ++ rest })) (sym h) ∙ words_at_lem place o ws rest
rest_back counted place o ws rest h =
    let after : o + 2 * 1 + 2 * length ws ≡ o + 2 * suc (length ws) = omega arith in
    ap (λ (t : Result Found). t >>= λ f. words_at place (first f) f.next) (words_at_lem place o (length ws ∷ []) (bytes_of ws ++ rest)) ∙
    words_at_lem place (o + 2 * 1) ws rest ∙
    ap (λ (n : ℕ). good (found place ws n rest)) after

-- a record, written and read
pub record_back : (r : Shape) (o : ℕ) (ws rest : List ℕ) → Fits r.size ws →
    read_record r (record { offset = o; bytes = written r ws ++ rest }) ≡ good (found o ws (o + length (written r ws)) rest)
record_back r o ws rest h =
    let after : o + 2 * 1 + 2 * length (sized r.size ws) ≡ o + length (written r ws) = omega (arith, length-bytes (sized r.size ws)) in
    ap (λ (t : Result Found). t >>= λ f. refuse_if (not (eqb (first f) r.mark)) WrongMark o >> rest_of o r.size f.next)
    (words_at_lem o o (r.mark ∷ []) (bytes_of (sized r.size ws) ++ rest)) ∙
    rw (eq-eqb r.mark r.mark refl)
    (rest_back r.size o (o + 2 * 1) ws rest h ∙ ap (λ (n : ℕ). good (found o ws n rest)) after)
