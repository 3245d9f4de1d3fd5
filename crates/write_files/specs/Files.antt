-- A whole drawing, stored, meets what its writers ask, and what they write is its files.
use Rattle.std.specs.Prelude.{ℕ, ◌≤◌, ◌≡◌, List, length, take, drop}
use Rattle.std.proofs.Common.{ap₂, sym, ◌∙◌, arith, le-ltb}
use Rattle.std.proofs.Math.Seq.{take-append_seam}
use Rattle.rules.specs.Refusals.{Answer, good}
use Rattle.rules.specs.Styles.{drawing_length}
use Rattle.rules.specs.Points.{Drawing as Plan}
use Rattle.rules.specs.DrawingFile.{drawing_bytes, longest_drawing}
use Rattle.store_links.specs.declared.Counts.{Counts}
use Rattle.store_links.specs.Arrays.{Arrays}
use Rattle.store_tables.specs.declared.Drawing.{Drawing}
use Rattle.store_tables.specs.Tables.{arrays_in}
use Rattle.store_laws.specs.Adding.{Holds}
use Rattle.store_settling.specs.Placed.{Settled, placed_at}
use Rattle.write_drawings.specs.Finished.{Finished, Writable}
use Rattle.exchange.specs.Built.{Whole}
use Rattle.exchange.proofs.Lengths.{whole_length}
use Rattle.exchange.proofs.Longest.{whole_most}
use Rattle.write_files.specs.Outputs.{Ended, Wrote}

-- the length of a whole drawing's file, from the stored numbers
pub need_is : {d : Plan} {a : Arrays} {c : Counts} → Whole d → Holds d a c → drawing_length c.style c.n ≡ length (drawing_bytes d)
need_is {d} w h = ap₂ drawing_length h.stores.style h.stores.n ∙ sym (whole_length d w)

-- with its settled x a whole drawing is finished
pub finish : {d : Plan} {a : Arrays} {c : Counts} {x : List ℕ} → Whole d → Holds d a c → Settled x a c.k → Finished d x a c
finish {d} w h s =
    record { holds = h; long = s.long; settled = s.right d h.standing.sound (placed_at h.stores.k h.stores); scale = w.reached.scale; full = w.full }

-- so it can be written where there is room
pub writable : {d : Drawing} {x out : List ℕ} → Ended d → Settled x (arrays_in d.table) d.counts.k → drawing_length d.counts.style d.counts.n ≤ length out → Writable x (arrays_in d.table) d.counts out
writable e s room = record { d = e.plan; finished = finish e.whole e.is s; room = omega (arith, need_is e.whole e.is) }

-- a buffer for the longest drawing file begins with the drawing that was written into it
pub begins : {d : Plan} {a : Arrays} {c : Counts} {before after : List ℕ} {r : Answer ℕ} {need : ℕ} → Whole d → Holds d a c → length before ≡ longest_drawing → Wrote before (good (drawing_bytes d)) after r →
    need ≡ drawing_length c.style c.n → take need after ≡ drawing_bytes d
begins {d} {before = before} w h long t e =
    let n = e ∙ need_is w h in
    let room : length (drawing_bytes d) ≤ length before = omega (arith, whole_most d w, long) in
    rw (n, t.bytes, le-ltb (length before) (length (drawing_bytes d)) room, take-append_seam (drawing_bytes d) (drop (length (drawing_bytes d)) before))
