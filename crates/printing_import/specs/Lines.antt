-- The lines of vertices, as they are put into a page.
use Rattle.std.specs.Prelude.{ℕ, ◌+◌, ◌≤◌, ◌<◌, ◌≡◌, List, [], ◌∷◌, ◌++◌, length, take, get_or}
use Rattle.std.proofs.Common.{ap, sym, ◌∙◌, append-nil, append_assoc, add-one, arith, take-suc}
use Rattle.rules.specs.Decimal.{digits}
use Rattle.planar_rules.specs.Programs.{vertex_line, vertex_lines}
use Rattle.printing_line.specs.Numbers.{digits_most}
use Rattle.pages.specs.declared.Page.{Page}
use Rattle.pages.specs.Pages.{Grown, grown_both}

-- a byte has at most three digits; behind them is the line feed
abbrev pub vertex_most : ℕ
vertex_most = 3 + 1

pub three-digits : (v : ℕ) → v < 256 → length (digits v) ≤ 3
three-digits v h = digits_most 2 v (omega arith)

lines_more : (vs : List ℕ) (v : ℕ) → vertex_lines (vs ++ (v ∷ [])) ≡ vertex_lines vs ++ vertex_line v
lines_more [] v = append-nil (vertex_line v)
lines_more (u ∷ vs) v = ap (λ (l : List ℕ). vertex_line u ++ l) (lines_more vs v) ∙ sym (append_assoc (vertex_line u) (vertex_lines vs) (vertex_line v))

-- one line more
pub lines_next : {page middle after : Page} (vs : List ℕ) (i : ℕ) → i < length vs → Grown page (vertex_lines (take i vs)) middle → Grown middle (vertex_line (get_or vs i 0)) after →
    Grown page (vertex_lines (take (i + 1) vs)) after
lines_next vs i h p q = rw (add-one i, take-suc vs i 0 h, lines_more (take i vs) (get_or vs i 0)) (grown_both p q)
