-- What the drawing reader's answer, and the comparison behind it, say of the order file that comes back.
use Rattle.std.specs.Prelude.{ℕ, ◌≡◌, List, Ok, Err}
use Rattle.std.proofs.Common.{sym, ◌∙◌, arith, le-ltb}
use Rattle.rules.specs.declared.Style.{Style}
use Rattle.rules.specs.declared.Refused.{Refused}
use Rattle.rules.specs.Refusals.{good, Answer, answer, ◌>>◌}
use Rattle.rules.specs.Results.{accepted, refusing, then-value}
use Rattle.rules.specs.Points.{Drawing as Plan}
use Rattle.rules.specs.OrderFile.{write_order}
use Rattle.rules.specs.DrawingFile.{judge_drawing, read_drawing, compare_bytes, drawing_bytes, order_back}
use Rattle.store_tables.specs.declared.Drawing.{Drawing}
use Rattle.store_laws.specs.Stored.{Is}
use Rattle.exchange.specs.Built.{Whole}
use Rattle.exchange.specs.DrawingRead.{whole_judged}
use Rattle.read_drawings.specs.Contracted.{LinesRead}
use Rattle.write_files.specs.Outputs.{Wrote, Ended, turned}

-- what comes back once the bytes are compared
back : (τ : Style) (f : List ℕ) (d : Plan) → Whole d → judge_drawing τ f ≡ good d → order_back τ f ≡ (compare_bytes 0 f (drawing_bytes d) >> good (write_order d))
unfolding read_drawing
back τ f d w h =
    let t = le-ltb d.k d.n (omega (arith, w.full)) in
    rw h (then-value (compare_bytes 0 f (drawing_bytes d)) d _ _ (rw t))

-- A refusal of the lines is that of the file.
pub lines-refused : (τ : Style) (f : List ℕ) {d : Drawing} {e : Refused} → LinesRead τ f d (Err e) → (before : List ℕ) → Wrote before (order_back τ f) before (Err e)
unfolding read_drawing
lines-refused τ f {e = e} g before = rw g.gives (turned before e.refusal e.place)

module _ (τ : Style) (f : List ℕ) {d : Drawing} (g : LinesRead τ f d (Ok tt)) where
  -- Lines that passed give a whole drawing.
  pub ended : Ended d
  ended = let o = g.gives in record { plan = o.plan; whole = (whole_judged τ f o.plan o.given).0; is = o.is }

  module _ {r : Answer (Unit {0})} (compared : (q : Plan) → Whole q → Is q d → r ≡ answer (compare_bytes 0 f (drawing_bytes q))) where
    -- Where the file has other bytes than the drawing's, 11 is that of the file.
    pub bytes-differ : {e : Refused} → r ≡ Err e → (before : List ℕ) → Wrote before (order_back τ f) before (Err e)
    unfolding ended
    bytes-differ {e} k before =
        let q = ended.plan in
        let t = refusing (compare_bytes 0 f (drawing_bytes q)) e (sym (compared q ended.whole ended.is) ∙ k) in
        rw (back τ f q ended.whole g.gives.given, t) (turned before e.refusal e.place)

    -- With the drawing's own bytes the order file comes back.
    pub bytes_same : r ≡ Ok tt → {before after : List ℕ} {w : Answer ℕ} → ((q : Plan) → Whole q → Is q d → Wrote before (good (write_order q)) after w) → Wrote before (order_back τ f) after w
    unfolding ended
    bytes_same k wrote =
        let q = ended.plan in
        let t = (accepted (compare_bytes 0 f (drawing_bytes q)) (sym (compared q ended.whole ended.is) ∙ k)).is in
        rw (back τ f q ended.whole g.gives.given, t) (wrote q ended.whole ended.is)
