-- The order file that a finished drawing writes is a list of bytes.
use Rattle.std.specs.Prelude.{ℕ, suc, ◌+◌, ◌*◌, ◌<◌, ◌≤◌, Bool, true, false, List, [], ◌∷◌, map, length, eqb, if◌then◌else◌}
use Rattle.std.proofs.Common.{arith}
use Rattle.std.proofs.lemmas.List.{length-map}
use Rattle.rules.specs.declared.Kind.{Kind}
use Rattle.rules.specs.declared.Kind.TheVariants.{Guide, Plain, Feeder}
use Rattle.rules.specs.declared.Entry.{Entry}
use Rattle.rules.specs.Entries.{point_limit, top_bits, word_of}
use Rattle.rules.specs.Points.{Drawing}
use Rattle.rules.specs.Records.{written, scale_shape, order_head, order_mark, scale_mark, entries_mark, end_mark}
use Rattle.rules.specs.OrderFile.{order_scale, write_order}
use Rattle.exchange.specs.Built.{Whole, Bytes}
use Rattle.exchange.specs.Numbers.{Words, words-nil, words_cons, bytes_append, bytes-words}
use Rattle.exchange.specs.Replay.{Fitting, Replays, none, more, fitting_second, fitting_third, replayed}
use Rattle.exchange.specs.OrderWrite.{point_record, point_records, write_built}

-- an entry is a number of 16 bits
entry_word : (e : Entry) → e.point < point_limit → word_of e < 65536
entry_word e h = go e.kind
  where
    go : (k : Kind) → e.point + top_bits k * point_limit < 65536
    go Plain = omega arith
    go Feeder = omega arith
    go Guide = omega arith

-- so are the entries of a point
entry_words_lem : (es : List Entry) → Fitting es → Words (map word_of es)
entry_words_lem [] h = words-nil
entry_words_lem (e ∷ es) h = words_cons (entry_word e (h.fits 0 (omega arith))) (entry_words_lem es (record { fits = λ i b. h.fits (suc i) (omega arith); few = omega (arith, h.few) }))

-- a point's record
record_bytes : (es : List Entry) → Fitting es → Bytes (point_record es)
record_bytes es h =
    bytes-words (entries_mark ∷ length (map word_of es) ∷ map word_of es) (words_cons (omega arith) (words_cons (omega (arith, length-map es word_of, h.few)) (entry_words_lem es h)))

-- the records of the calls that lead to a drawing, and the end
rest-bytes : {d e : Drawing} {ess : List (List Entry)} → Replays d ess e → Bytes (point_records ess)
rest-bytes none = bytes-words (end_mark ∷ []) (words_cons (omega arith) words-nil)
rest-bytes (more es h q r) = bytes_append (point_record es) (record_bytes es h) (rest-bytes r)

-- the scale record, where there is one
scale_bytes_lem : (s : ℕ) → s ≤ 8 → Bytes (order_scale s)
scale_bytes_lem s h = go (eqb s 1)
  where
    go : (t : Bool) → Bytes (if t then [] else written scale_shape (s ∷ []))
    go true = bytes-words [] words-nil
    go false = bytes-words (scale_mark ∷ s ∷ []) (words_cons (omega arith) (words_cons (omega arith) words-nil))

pub order_bytes_lem : (d : Drawing) → Whole d → Bytes (write_order d)
order_bytes_lem d w =
    let r = replayed w.reached.low w.reached.high w.reached.built in
    rw (write_built w.reached.built w.full)
    (bytes_append (written order_head (d.n ∷ [])) (bytes-words (order_mark ∷ d.n ∷ []) (words_cons (omega arith) (words_cons (omega (arith, w.reached.high)) words-nil)))
    (bytes_append (order_scale d.s) (scale_bytes_lem d.s w.reached.scale.1)
    (bytes_append (point_record []) (record_bytes [] (record { fits = λ i b. absurd (omega arith); few = omega arith }))
    (bytes_append (point_record w.reached.second) (record_bytes w.reached.second (fitting_second w.reached.second r.second_points))
    (bytes_append (point_record w.reached.third) (record_bytes w.reached.third (fitting_third w.reached.third r.third_points)) (rest-bytes r.replays))))))
