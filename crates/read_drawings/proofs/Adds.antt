-- A group that was taken and added: the answer is that of the rules, at the group's place, and the lines behind the group are next.
use Rattle.std.proofs.Common.{ap, ap₂, sym, ◌∙◌, arith, length-take-le}
use Rattle.rules.specs.declared.Style.{Style}
use Rattle.std.specs.Prelude.{ℕ, suc, ◌+◌, ◌-◌, ◌*◌, ◌≤◌, ◌≡◌, List, map, Ok, Err, length, take}
use Rattle.rules.specs.declared.Refused.{Refused}
use Rattle.rules.specs.Refusals.{refused, refusal_at, placed}
use Rattle.rules.specs.Results.{refusing, all_passed}
use Rattle.rules.specs.Points.{Drawing as Plan}
use Rattle.rules.specs.Adding.{add_entries, add}
use Rattle.rules.specs.Records.{Found, line_size}
use Rattle.rules.specs.DrawingFile.{group, behind, group_place}
use Rattle.store_links.specs.declared.Counts.{Counts}
use Rattle.store_links.specs.Storing.{judged, with_counts}
use Rattle.store_tables.specs.declared.Drawing.{Drawing}
use Rattle.store_tables.specs.Tables.{arrays_in}
use Rattle.store_laws.specs.Stored.{Is}
use Rattle.store_adding.specs.Calls.{Answered}
use Rattle.read_groups.specs.Lines.{group_place_lem}
use Rattle.read_groups.specs.Groups.{number_for, Taken}
use Rattle.read_orders.proofs.Rests.{added, unadded}
use Rattle.read_drawings.specs.Entered.{add-alike}
use Rattle.read_drawings.specs.Contracted.{lines_behind, next_group, Entered}

-- a lines of so many bytes, and b behind them
apart : (size base a b : ℕ) → base + size * (a + b) ≡ base + size * a + size * b
apart size base a b = omega arith

-- all lines are those before line i and those from it on
pub lines-apart : (τ : Style) (base total i : ℕ) → i ≤ total → base + line_size τ * total ≡ base + line_size τ * i + line_size τ * (total - i)
lines-apart τ base total i h =
    let all : total ≡ i + (total - i) = omega arith in
    ap (λ (n : ℕ). base + line_size τ * n) all ∙ apart (line_size τ) base i (total - i)

module _ (τ : Style) (f : List ℕ) (base total : ℕ) (d d' : Drawing) (e : List ℕ) (count q : ℕ) (few : d.counts.lines ≤ total) (room : total ≤ length e)
    (isQ : q ≡ d.counts.k + 1) (t : Taken τ f (base + line_size τ * d.counts.lines) (total - d.counts.lines) q e count) (p : Plan) (h : Is p d) where
  abbrev c : Counts
  c = d.counts

  abbrev fs : List Found
  fs = lines_behind τ f base total c.lines

  point : q ≡ suc p.k
  point = omega (arith, h.stores.k)

  -- the call is that of the rules
  entered : add_entries p (group τ (suc p.k) fs) ≡ add p (take count e)
  entered =
      add-alike p (omega (arith, h.standing.ranged.room, h.standing.ranged.high)) (group τ (suc p.k) fs) ∙
      ap (add p) (sym (t.entries ∙ ap (λ (v : ℕ). map number_for (group τ v fs)) point))

  place : group_place (base + line_size τ * total) fs ≡ base + line_size τ * c.lines
  place =
      ap (λ (n : ℕ). group_place n fs) (lines-apart τ base total c.lines few) ∙ group_place_lem τ f (total - c.lines) (base + line_size τ * c.lines)

  next_is_lem : next_group τ f base total c.lines p ≡ placed (base + line_size τ * c.lines) (add p (take count e))
  unfolding next_group
  next_is_lem = ap₂ placed place entered

  -- it is refused, at the group's place
  pub group-refused : {x : Refused} → Answered d (take count e) d' (Err x) → (y : Refused) → y ≡ refusal_at x.refusal (base + line_size τ * c.lines) → (next_group τ f base total c.lines p ≡ refused y.refusal y.place) × Is p d'
  group-refused {x} s y is =
      let j = refusing (judged (arrays_in d.table) c (take count e)) x (sym s.answer) in
      (next_is_lem ∙ rw (unadded h s, is), rw (s.arrays, s.counts, j) h)

  -- it is added
  pub group-added : Answered d (take count e) d' (Ok tt) → Entered τ f base total c d' p
  group-added s =
      let n = added h s in
      let m : d'.counts ≡ with_counts c (length (take count e)) = s.counts ∙ rw (all_passed (judged (arrays_in d.table) c (take count e)) (sym s.answer)) in
      let long : length (take count e) ≡ count = length-take-le count e (omega (arith, t.few)) in
      let lines : d'.counts.lines ≡ c.lines + count = ap (λ (x : Counts). x.lines) m ∙ ap (λ (x : ℕ). c.lines + x) long in
      let left_over : total - c.lines - count ≡ total - d'.counts.lines = omega arith in
      let from : base + line_size τ * c.lines + line_size τ * count ≡ base + line_size τ * d'.counts.lines = sym (ap (λ (n : ℕ). base + line_size τ * n) lines ∙ apart (line_size τ) base c.lines count) in
      record {
        drawn = record { plan = n.plan; given = next_is_lem ∙ rw n.given; is = n.is };
        behind_it =
            record {
              n = ap (λ (x : Counts). x.n) m;
              k = ap (λ (x : Counts). x.k) m;
              few = omega (arith, t.few);
              rest = ap (λ (x : ℕ). behind x fs) (sym point) ∙ t.rest ∙ rw (left_over, from);
            };
      }
