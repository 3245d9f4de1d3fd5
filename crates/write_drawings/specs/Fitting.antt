-- Every number of the file of a finished drawing fits 16 bits: places and lengths times s are at most 8 * 5,111.
use Rattle.std.specs.Prelude.{ℕ, suc, ◌+◌, ◌*◌, ◌<◌, ◌≤◌, ◌≡◌, List, length, get_or, take}
use Rattle.std.proofs.Common.{sym, ap, ◌∙◌, subst, mul-le-mul, arith}
use Rattle.rules.specs.declared.Line.{Line}
use Rattle.rules.specs.Points.{Drawing, W, line_at}
use Rattle.rules.proofs.Lengths.{high-least}
use Rattle.rules.specs.DrawingFile.{highest, drawing_bytes}
use Rattle.store_links.specs.declared.Counts.{Counts}
use Rattle.store_links.specs.Arrays.{Arrays}
use Rattle.promise.proofs.Bounds.{width_most, lines_most, place_most, bend_most}
use Rattle.store_settling.specs.Bending.{bendable_of}
use Rattle.rules.specs.Records.{head_size, place_size, line_size}
use Rattle.write_drawings.specs.Finished.{Finished, Held, Writable, PointsReady, LineFits, LinesReady}
use Rattle.write_drawings.specs.Files.{length-file, shows, x_is, y_is, line_is, bend_is, file_is}

module _ {d : Drawing} {x : List ℕ} {a : Arrays} {c : Counts} (h : Finished d x a c) where
  -- A coordinate times s.
  scaled : {v : ℕ} → v ≤ 5111 → c.s * v < 65536
  scaled {v} b =
      let e : c.s ≤ 8 = omega (arith, h.holds.stores.s, h.scale.1) in
      let t : c.s * v ≤ 40888 = mul-le-mul e b in
      omega arith

  -- The places of the points.
  place : (i : ℕ) → i < d.k → (get_or d.xs i 0 ≤ 5111) × (get_or d.ys i 0 ≤ 5111)
  place i b =
      let w = width_most d h.holds.standing in
      let t : (get_or d.xs i 0 ≤ W d) × (2 * get_or d.ys i 0 ≤ W d) = place_most d h.holds.standing (suc i) (omega arith) (omega arith) in
      (omega arith, omega arith)

  few-points : c.k ≤ 1024
  few-points = omega (arith, h.holds.stores.k, h.holds.standing.ranged.room, h.holds.standing.ranged.high)

  few-lines : c.lines ≤ 3072
  few-lines = omega (arith, h.holds.stores.lines, lines_most d h.holds.standing)

  x_fits : (i : ℕ) → i < c.k → c.s * get_or x i 0 < 65536
  x_fits i b = let e = rw h.holds.stores.k at b in rw (x_is h i e) (scaled (place i e).0)

  y_fits : (i : ℕ) → i < c.k → c.s * get_or a.ys i 0 < 65536
  y_fits i b = let e = rw h.holds.stores.k at b in rw (y_is h i e) (scaled (place i e).1)

  pub points-ready : (at : ℕ) (buffer : List ℕ) → at + place_size * c.k ≤ length buffer → PointsReady x a.ys c.s c.k at buffer
  points-ready at buffer room =
      record {
        long = (h.long, h.holds.sized.ys);
        few = few-points;
        x = x_fits;
        y = y_fits;
        room = room;
      }

  -- The largest y.
  pub height_fits : c.s * highest (take c.k a.ys) < 65536
  height_fits =
      let e : take c.k a.ys ≡ d.ys = ap (λ (n : ℕ). take n a.ys) h.holds.stores.k ∙ h.holds.stores.ys in
      rw e (scaled (high-least d.ys 5111 (λ i b. (place i (omega (arith, h.holds.standing.sound.sized.ys))).1)))

  -- The bends of the lines.
  line_fits : (e : ℕ) → e < length d.lines → LineFits x a c.s (line_at d e)
  line_fits e el =
      let w = width_most d h.holds.standing in
      let t = bend_most d h.holds.standing e el in
      record {
        bendable = bendable_of (shows h) h.holds.standing.sound (omega (arith, h.holds.standing.ranged.room, h.holds.standing.ranged.high)) e el h.long;
        across = rw (bend_is h e el) (scaled (omega (arith, t.0)));
        up = rw (bend_is h e el) (scaled (omega (arith, t.1)));
      }

  pub lines-ready : (from count at : ℕ) (buffer : List ℕ) → from + count ≤ c.lines → at + line_size c.style * count ≤ length buffer → LinesReady c.style x a c.s from count at buffer
  lines-ready from count at buffer b room =
      record {
        few = omega (arith, few-lines, b);
        fits =
            λ i il.
            let el : from + i < length d.lines = omega (arith, h.holds.stores.lines, b) in
            subst (λ (l : Line). LineFits x a c.s l) (sym (line_is h (from + i) el)) (line_fits (from + i) el);
        room = room;
      }

-- the numbers of the header fit, and the buffer has room for the records
pub record Ready (x : List ℕ) (a : Arrays) (c : Counts) (buffer : List ℕ) : Type 0 where
  pub width : c.s * get_or x 1 0 < 65536
  pub height : c.s * highest (take c.k a.ys) < 65536
  pub few : (c.k ≤ 1024) × (c.lines ≤ 3072)
  pub room : head_size + place_size * c.k + line_size c.style * c.lines + 2 ≤ length buffer

pub ready : {x : List ℕ} {a : Arrays} {c : Counts} {buffer : List ℕ} → Writable x a c buffer → Ready x a c buffer
ready {x} {a} {c} {buffer} w =
    let h = w.finished in
    record {
      width = x_fits h 1 (omega (arith, h.holds.stores.k, h.holds.standing.ranged.three));
      height = height_fits h;
      few = (few-points h, few-lines h);
      room = rw (h.holds.stores.style, h.holds.stores.k, h.holds.stores.lines) (omega (arith, length-file h.holds.standing, w.room));
    }

-- The file of every finished drawing that is held so has room.
pub has_room : {x : List ℕ} {a : Arrays} {c : Counts} {buffer : List ℕ} {d : Drawing} → Writable x a c buffer → Finished d x a c → length (drawing_bytes d) ≤ length buffer
has_room w h = omega (arith, ap length (file_is h), ap length (file_is w.finished), w.room)

-- A finished drawing can be written where its file is as long as the buffer.
pub enough : {x : List ℕ} {a : Arrays} {c : Counts} (h : Held x a c) → Writable x a c (drawing_bytes h.d)
enough h = record { d = h.d; finished = h.finished; room = omega arith }
