-- Numbers of 16 bits, and their bytes.
use Rattle.std.specs.Prelude.{ℕ, zero, suc, ◌<◌, List, [], ◌∷◌, ◌++◌, length, get_or}
use Rattle.std.proofs.Common.{arith}
use Rattle.rules.specs.Records.{bytes_of}
use Rattle.exchange.specs.Built.{Bytes}

-- every number of a list is below 65,536
pub record Words (ws : List ℕ) : Type 0 where
  pub low : (i : ℕ) → i < length ws → get_or ws i 0 < 65536

pub words-nil : Words []
words-nil = record { low = λ i h. absurd (omega arith) }

-- one number more in front
pub words_cons : {w : ℕ} {ws : List ℕ} → w < 65536 → Words ws → Words (w ∷ ws)
words_cons {w} {ws} h t = record { low = at }
  where
    at : (i : ℕ) → i < length (w ∷ ws) → get_or (w ∷ ws) i 0 < 65536
    at zero k = h
    at (suc i) k = t.low i (omega arith)

-- one byte more, at the front
bytes_cons : {b : ℕ} {bs : List ℕ} → b < 256 → Bytes bs → Bytes (b ∷ bs)
bytes_cons {b} {bs} h t = record { byte = at }
  where
    at : (i : ℕ) → i < length (b ∷ bs) → get_or (b ∷ bs) i 0 < 256
    at zero k = h
    at (suc i) k = t.byte i (omega arith)

-- two lists of bytes, one behind the other
pub bytes_append : (bs : List ℕ) {cs : List ℕ} → Bytes bs → Bytes cs → Bytes (bs ++ cs)
bytes_append [] h g = g
bytes_append (b ∷ bs) h g = bytes_cons (h.byte 0 (omega arith)) (bytes_append bs (record { byte = λ i k. h.byte (suc i) (omega arith) }) g)

-- the bytes of numbers below 65,536 are bytes
pub bytes-words : (ws : List ℕ) → Words ws → Bytes (bytes_of ws)
bytes-words [] h = record { byte = λ i k. absurd (omega arith) }
bytes-words (w ∷ ws) h =
    bytes_cons (omega (arith, h.low 0 (omega arith))) (bytes_cons (omega arith) (bytes-words ws (record { low = λ i k. h.low (suc i) (omega arith) })))
