-- The loop over the points behind point 3: what holds at its head, and what each way out of a turn gives.
use Rattle.std.specs.Prelude.{ℕ, suc, ◌≤◌, ◌≡◌, List, length, Ok, Err}
use Rattle.std.proofs.Common.{ap, sym, ◌∙◌}
use Rattle.rules.specs.declared.Refused.{Refused}
use Rattle.rules.specs.Refusals.{Answer, good, answer, ◌>>◌}
use Rattle.rules.specs.Points.{Drawing as Plan}
use Rattle.rules.specs.Records.{read_end}
use Rattle.rules.specs.OrderFile.{read_rest}
use Rattle.rules.specs.Results.{accepted, refusing}
use Rattle.store_tables.specs.declared.Drawing.{Drawing}
use Rattle.store_laws.specs.Stored.{Is, Stored}
use Rattle.read_records.specs.Cursors.{cursor}
use Rattle.read_orders.specs.Points.{PointRead, RestRead}

-- `left` points are still to come, from a plan that d stores
pub record Reached (f : List ℕ) (at points : ℕ) (p : Plan) (d : Drawing) (place left : ℕ) : Type 0 where
  pub new : Plan
  pub is : Is new d
  pub rest : read_rest points p (cursor f at) ≡ read_rest left new (cursor f place)

-- the same of every plan that was stored before the loop
pub record Turn (f : List ℕ) (at points : ℕ) (d₀ d : Drawing) (place left : ℕ) : Type 0 where
  pub within : place ≤ length f
  pub reached : (p : Plan) → Is p d₀ → Reached f at points p d place left

-- before the first turn
pub turn_first : {f : List ℕ} {at : ℕ} (points : ℕ) {d : Drawing} {left : ℕ} → at ≤ length f → left ≡ points → Turn f at points d d at left
turn_first {f} {at} points w q = record { within = w; reached = λ p h. record { new = p; is = h; rest = ap (λ (k : ℕ). read_rest k p (cursor f at)) (sym q) } }

module _ {f : List ℕ} {at points : ℕ} {d₀ d : Drawing} {place left : ℕ} (t : Turn f at points d₀ d place left) where
  -- a record can be read
  pub turn-ready : Stored d₀ → Stored d
  turn-ready y = let x = t.reached y.d y.holds in record { d = x.new; holds = x.is }

  -- a turn: the records of the points that are left are this one's and the others
  module _ {k : ℕ} (more : left ≡ suc k) {d' : Drawing} where
    pub turn_next : {next : ℕ} → PointRead f place d d' (Ok next) → Turn f at points d₀ d' next k
    turn_next r =
        record {
          within = r.0;
          reached = λ p h.
              let x = t.reached p h in
              let y = r.1 x.new x.is in
              record { new = y.new; is = y.is; rest = x.rest ∙ ap (λ (n : ℕ). read_rest n x.new (cursor f place)) more ∙ y.rest k };
        }

    pub turn-refused : {e : Refused} → PointRead f place d d' (Err e) → RestRead f at points d₀ d' (Err e)
    turn-refused r = λ p h.
        let x = t.reached p h in
        record { gives = x.rest ∙ ap (λ (n : ℕ). read_rest n x.new (cursor f place)) more ∙ r x.new x.is k }

  -- no point is left: the end
  module _ (none : left ≡ 0) where
    last : (p : Plan) (h : Is p d₀) → read_rest points p (cursor f at) ≡ (read_end (cursor f place) >> good (t.reached p h).new)
    unfolding read_rest
    last p h = (t.reached p h).rest ∙ ap (λ (n : ℕ). read_rest n (t.reached p h).new (cursor f place)) none

    pub turn_end : (r : Answer (Unit {0})) → r ≡ answer (read_end (cursor f place)) → RestRead f at points d₀ d r
    turn_end (Ok u) q = λ p h. record { gives = record { plan = (t.reached p h).new; given = last p h ∙ rw (accepted _ (sym q)).is; is = (t.reached p h).is } }
    turn_end (Err e) q = λ p h. record { gives = last p h ∙ rw (refusing _ e (sym q)) }
