-- A file that passes: the drawing as opened stores the plan that it begins, and the groups of points 4 to n give the rest.
use Rattle.std.proofs.Common.{ap, ap₂, sym, ◌∙◌, subst, arith}
use Rattle.rules.specs.declared.Style.{Style}
use Rattle.std.specs.Prelude.{ℕ, ◌+◌, ◌-◌, ◌*◌, ◌≤◌, ◌≡◌, List, Err, length}
use Rattle.rules.specs.declared.Refused.{Refused}
use Rattle.rules.specs.Refusals.{Answer, Result, answer}
use Rattle.rules.specs.Readings.{entry_of}
use Rattle.rules.specs.Points.{Drawing as Plan}
use Rattle.rules.specs.DrawingFile.{entry_in, judge_rest, judge_drawing}
use Rattle.store_links.specs.declared.Counts.{Counts}
use Rattle.store_links.specs.Opening.{open_arrays, open_counts}
use Rattle.promise.proofs.Bounds.{standing-start}
use Rattle.store_tables.specs.declared.Drawing.{Drawing}
use Rattle.store_tables.specs.Tables.{arrays_in}
use Rattle.store_laws.specs.Stored.{Is}
use Rattle.store_laws.specs.Opened.{sized_open, stores_open}
use Rattle.rules.specs.Results.{refusing}
use Rattle.read_groups.specs.Lines.{lines_at, line_at}
use Rattle.read_groups.specs.Groups.{number_for}
use Rattle.read_judging.specs.Files.{n_in, s_in, lines_from, line_count, lines_end, file_tests}
use Rattle.rules.specs.Records.{head_size, place_size, line_size}
use Rattle.read_drawings.specs.Whole.{judged_so, first_line, second_line, third_line, begun_in, Passes, number_back}
use Rattle.read_drawings.specs.Contracted.{rest_groups, AllGrouped, LinesRead}
use Rattle.read_orders.specs.Points.{Gave}

-- a refusal before the groups
pub refused-early : (τ : Style) (f : List ℕ) {d : Drawing} {e : Refused} → answer (file_tests τ f) ≡ Err e → LinesRead τ f d (Err e)
refused-early τ f {e = e} h = record { gives = judged_so τ f ∙ rw (refusing (file_tests τ f) e h) }

-- where its lines lie
pub lines_lie : {τ : Style} {f : List ℕ} → Passes τ f → (n : ℕ) → n ≡ n_in f → (head_size + place_size * n + line_size τ * (3 * n - 6) ≤ length f) × (3 ≤ n) × (n ≤ 1024)
lines_lie {τ} {f} t n is = (subst (λ (m : ℕ). lines_end τ m ≤ length f) (sym is) t.there, omega (arith, t.low), omega (arith, t.high))

module _ {τ : Style} {f : List ℕ} (t : Passes τ f) (n s : ℕ) (isN : n ≡ n_in f) (isS : s ≡ s_in f) where
  -- the drawing as opened
  pub opened_holds : (size : ℕ) → size ≡ line_size τ → (x y z : ℕ) (d : Drawing) → x ≡ number_for (entry_in τ (line_at τ f (head_size + place_size * n))) → y ≡ number_for (entry_in τ (line_at τ f (head_size + place_size * n + size))) → z ≡ number_for (entry_in τ (line_at τ f (head_size + place_size * n + size + size))) →
      (arrays_in d.table ≡ open_arrays τ x y z) × (d.counts ≡ open_counts τ n s) → Is (begun_in τ f) d
  opened_holds size is x y z d hx hy hz (ha, hc) =
      let ex : entry_of x ≡ record { point = 1; kind = (entry_in τ (first_line τ f)).kind } =
      ap entry_of (hx ∙ ap (λ (m : ℕ). number_for (entry_in τ (line_at τ f (head_size + place_size * m)))) isN) ∙ number_back τ (first_line τ f) 1 t.first (omega arith)
      in
      let ey : entry_of y ≡ record { point = 1; kind = (entry_in τ (second_line τ f)).kind } =
      ap entry_of (hy ∙ ap₂ (λ (m k : ℕ). number_for (entry_in τ (line_at τ f (head_size + place_size * m + k)))) isN is) ∙ number_back τ (second_line τ f) 1 t.second (omega arith)
      in
      let ez : entry_of z ≡ record { point = 2; kind = (entry_in τ (third_line τ f)).kind } =
      ap entry_of (hz ∙ ap₂ (λ (m k : ℕ). number_for (entry_in τ (line_at τ f (head_size + place_size * m + k + k)))) isN is) ∙ number_back τ (third_line τ f) 2 t.third (omega arith)
      in
      rw (ha, hc, isN, isS)
      (record { standing = standing-start τ (n_in f) (s_in f) _ _ _ t.low t.high; sized = sized_open τ (n_in f) (s_in f) (entry_in τ (first_line τ f)).kind (entry_in τ (second_line τ f)).kind (entry_in τ (third_line τ f)).kind x y z; stores = stores_open τ (n_in f) (s_in f) _ _ _ x y z ex ey ez })

  -- what is left to judge
  left_over : {c : Counts} → c ≡ open_counts τ n s → rest_groups τ f (head_size + place_size * n) (3 * n - 6) c (begun_in τ f) ≡ judge_drawing τ f
  left_over e =
      ap (λ (c : Counts). rest_groups τ f (head_size + place_size * n) (3 * n - 6) c (begun_in τ f)) e ∙
      ap (λ (m : ℕ). judge_rest τ (m - 3) (lines_end τ m) (begun_in τ f) (lines_at τ f (line_count m - 3) (lines_from m + line_size τ * 3))) isN ∙ sym t.left

  -- the whole file
  pub all_read : (d : Drawing) {d' : Drawing} {r : Answer (Unit {0})} → d.counts ≡ open_counts τ n s → Is (begun_in τ f) d → AllGrouped τ f (head_size + place_size * n) (3 * n - 6) d d' r → LinesRead τ f d' r
  all_read d {d'} {r} e h g = subst (λ (o : Result Plan). Gave o d' r) (left_over e) (g (begun_in τ f) h)
