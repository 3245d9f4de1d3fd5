-- One point more, on the stored drawing: what the call's answer makes of the record.
use Rattle.std.specs.Prelude.{ℕ, suc, ◌≡◌, List, drop, Ok, Err}
use Rattle.std.proofs.Common.{sym, ◌∙◌}
use Rattle.rules.specs.declared.Refusal.{Refusal}
use Rattle.rules.specs.declared.Refused.{Refused}
use Rattle.rules.specs.Refusals.{refused}
use Rattle.rules.specs.Points.{Drawing as Plan}
use Rattle.rules.specs.Adding.{add}
use Rattle.rules.specs.Records.{words_in, read_record, point_entries}
use Rattle.rules.specs.OrderFile.{read_rest}
use Rattle.rules.specs.Results.{accepted, refusing}
use Rattle.store_tables.specs.declared.Drawing.{Drawing}
use Rattle.store_laws.specs.Adding.{called}
use Rattle.store_laws.specs.Stored.{Is}
use Rattle.store_adding.specs.Calls.{Answered}
use Rattle.read_records.specs.Cursors.{cursor}
use Rattle.read_records.specs.Reading.{Got}
use Rattle.read_long.specs.Long.{RefusedBy}
use Rattle.read_orders.specs.Points.{Drawn, Went}

-- the record is refused
pub point_bad : (f : List ℕ) (at : ℕ) (r : Refusal) (p : ℕ) → read_record point_entries (cursor f at) ≡ refused r p → (q : Plan) (k : ℕ) → read_rest (suc k) q (cursor f at) ≡ refused r p
unfolding read_rest
point_bad f at r p h q k = rw h

-- ---- a call, on a plan that is stored

module _ {p : Plan} {d d' : Drawing} {es : List ℕ} (h : Is p d) where
  pub added : Answered d es d' (Ok tt) → Drawn (add p es) d'
  added t =
      let k = called h es in
      let v = accepted (add p es) (sym (t.answer ∙ k.answers)) in
      record { plan = v.value; given = v.is; is = rw (t.arrays, t.counts) (rw v.is at k.holds) }

  pub unadded : {e : Refused} → Answered d es d' (Err e) → add p es ≡ refused e.refusal e.place
  unadded {e} t = refusing (add p es) e (sym (t.answer ∙ (called h es).answers))

module _ {f : List ℕ} {at n from next : ℕ} (g : Got f at n from next) (p : Plan) where
  -- the point is refused, by the refusal of a long record or by the call's answer
  point-refused : (r : Refusal) (place : ℕ) → add p (words_in n (drop from f)) ≡ refused r place → (k : ℕ) → read_rest (suc k) p (cursor f at) ≡ refused r at
  unfolding read_rest
  point-refused r place q k = rw (g.is, q)

  pub stopped-long : {r : Refusal} → RefusedBy (add p (words_in n (drop from f))) r → (k : ℕ) → read_rest (suc k) p (cursor f at) ≡ refused r at
  stopped-long b = point-refused _ b.place b.is

  -- the entries es were copied
  module _ {es : List ℕ} (copied : es ≡ words_in n (drop from f)) {d d' : Drawing} (h : Is p d) where
    pub stopped : {e : Refused} → Answered d es d' (Err e) → (k : ℕ) → read_rest (suc k) p (cursor f at) ≡ refused e.refusal at
    stopped {e} t = point-refused _ e.place (rw (← copied) (unadded h t))

    pub went : Answered d es d' (Ok tt) → Went f at p d' next
    unfolding read_rest
    went t = let n = added h t in record { new = n.plan; is = n.is; rest = λ k. rw (g.is, ← copied, n.given) }
