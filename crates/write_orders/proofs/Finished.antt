-- From the stored lines of a finished drawing to the parts of its order file, and back.
use Rattle.std.specs.Prelude.{ℕ, pred, ◌+◌, ◌*◌, ◌<◌, ◌≤◌, ◌≡◌, List, [], ◌∷◌, ◌++◌, length}
use Rattle.std.proofs.Common.{ap, sym, ◌∙◌, arith, length-append}
use Rattle.rules.specs.Refusals.{good}
use Rattle.rules.specs.Points.{Drawing, line_at}
use Rattle.rules.specs.OrderFile.{write_order}
use Rattle.rules.specs.Output.{filled}
use Rattle.rules.proofs.Lengths.{length-bytes}
use Rattle.store_links.specs.declared.Counts.{Counts}
use Rattle.store_links.specs.Arrays.{Arrays, Stores}
use Rattle.promise.proofs.Bounds.{lines_most}
use Rattle.exchange.specs.Built.{Whole}
use Rattle.exchange.specs.Replay.{replayed}
use Rattle.rules.specs.Records.{bytes_of, end_mark}
use Rattle.pages.specs.declared.Page.{Page}
use Rattle.pages.specs.Pages.{Grown, pasted, page_filled}
use Rattle.write_orders.specs.Writing.{Joinable, head_words, points_words, order_words, OrderWritable, OrderWritten}
use Rattle.store_settling.specs.Lines.{line_is}
use Rattle.write_orders.specs.Grouping.{order_is}

-- the length of the order file
length-order : {d : Drawing} {a : Arrays} {c : Counts} → Whole d → Stores d a c → length (write_order d) ≡ 2 * length (order_words a.lines c)
length-order {a = a} {c} h t = sym (ap length (order_is h t)) ∙ length-bytes (order_words a.lines c)

-- the numbers are small, and each part has room
pub record Parts (out : List ℕ) (a : Arrays) (c : Counts) : Type 0 where
  pub n : c.n ≤ 1024
  pub s : c.s ≤ 8
  pub lines : c.lines ≤ 3072
  pub low : Joinable a.lines c.lines
  pub room : 2 * length (head_words c.n c.s) + (2 * length (points_words a.lines c.lines c.n 1 0) + 2) ≤ length out

pub parts : {out : List ℕ} {a : Arrays} {c : Counts} → OrderWritable out a c → Parts out a c
parts {a = a} {c} h =
    let w = h.whole in
    let standing = (replayed w.reached.low w.reached.high w.reached.built).standing in
    let t = h.stored in
    let points = points_words a.lines c.lines c.n 1 0 in
    record {
      n = omega (arith, t.n, w.reached.high);
      s = omega (arith, t.s, w.reached.scale.1);
      lines = omega (arith, t.lines, lines_most h.d standing);
      low = λ e b.
          let el : e < length h.d.lines = omega (arith, t.lines) in
          let most : (pred (line_at h.d e).earlier < h.d.k) × (pred (line_at h.d e).later < h.d.k) = standing.sound.core.lines.ends e el in
          rw (line_is t e el) (omega (arith, most.0, standing.ranged.room, standing.ranged.high));
      room = omega (arith, h.room, length-order w t, length-append (head_words c.n c.s) (points ++ (end_mark ∷ [])), length-append points (end_mark ∷ []));
    }

-- the three, one behind the other, are the order file of every finished drawing that is stored so
pub order-written : {first last : Page} {out : List ℕ} {a : Arrays} {c : Counts} {after : List ℕ} → first.at ≡ 0 → first.bytes.now ≡ out → Grown first (bytes_of (order_words a.lines c)) last →
    after ≡ last.bytes.now → (d : Drawing) → Whole d → Stores d a c → OrderWritten d out after last.at
order-written {out = out} {a} {c} {after} z b p e d w t =
    record {
      size = omega (arith, z, (pasted (order_words a.lines c) p).behind, length-order w t);
      bytes = page_filled z b p e ∙ ap (λ (l : List ℕ). filled out (good l)) (order_is w t);
    }
