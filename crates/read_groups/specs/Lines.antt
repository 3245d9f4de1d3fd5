-- The line records of a drawing file of a style: what stands where in them.
use Rattle.std.specs.Prelude.{ℕ, zero, suc, pred, ◌+◌, ◌-◌, ◌*◌, ◌<◌, ◌≤◌, ◌≡◌, refl, Bool, ◌&&◌, List, [], ◌∷◌, length, get_or, eqb}
use Rattle.std.proofs.Common.{ap, ◌∙◌, arith}
use Rattle.rules.specs.declared.Style.{Style}
use Rattle.rules.specs.Styles.{line_numbers}
use Rattle.rules.specs.Records.{Found, line_size}
use Rattle.rules.specs.DrawingFile.{kind_from, later_in, entry_in, group_place}
use Rattle.rules.proofs.Lengths.{line-long}
use Rattle.words.specs.Bytes.{word_at}
use Rattle.read_records.specs.Marked.{record_at, records_at, words_in_lem}

-- c line records from an offset on
abbrev pub lines_at : Style → List ℕ → ℕ → ℕ → List Found
lines_at τ f c at = records_at f (line_numbers τ) c at

-- the line record at an offset
abbrev pub line_at : Style → List ℕ → ℕ → Found
line_at τ f at = record_at f (line_numbers τ) at

-- its earlier point
abbrev pub earlier_in : Found → ℕ
earlier_in l = get_or l.words 1 0

-- where it has its kind: its last number
abbrev pub kind_place : Style → ℕ
kind_place τ = line_size τ - 2

-- what stands where in it
pub record LineIs (τ : Style) (f : List ℕ) (at : ℕ) : Type 0 where
  pub later : later_in (line_at τ f at) ≡ word_at f (at + 2)
  pub earlier : earlier_in (line_at τ f at) ≡ word_at f (at + 4)
  pub kind : (entry_in τ (line_at τ f at)).kind ≡ kind_from (word_at f (at + kind_place τ))

pub line_is : (τ : Style) (f : List ℕ) (at : ℕ) → at + line_size τ ≤ length f → LineIs τ f at
line_is τ f at h =
    let w : (i : ℕ) → i < line_numbers τ → get_or (line_at τ f at).words i 0 ≡ word_at f (at + 2 + 2 * i) = words_in_lem f (line_numbers τ) (at + 2) (omega arith) in
    let n = (line-long τ).0 in
    record {
      later = w 0 (omega arith) ∙ ap (word_at f) (omega arith);
      earlier = w 1 (omega arith) ∙ ap (word_at f) (omega arith);
      kind = ap kind_from (w (pred (line_numbers τ)) (omega arith) ∙ ap (word_at f) (omega arith));
    }

-- the line joins the points a and b
abbrev pub joins : Found → ℕ → ℕ → Bool
joins l a b = eqb (later_in l) a && eqb (earlier_in l) b

-- one line, and those behind it
pub lines_more : (τ : Style) (f : List ℕ) (c at : ℕ) → 0 < c → lines_at τ f c at ≡ line_at τ f at ∷ lines_at τ f (c - 1) (at + line_size τ)
unfolding records_at
lines_more τ f zero at h = absurd (omega arith)
lines_more τ f (suc c) at h =
    let e : c ≡ suc c - 1 = omega arith in
    ap (λ (k : ℕ). line_at τ f at ∷ lines_at τ f k (at + line_size τ)) e

pub lines_none : (τ : Style) (f : List ℕ) (at : ℕ) → lines_at τ f 0 at ≡ []
unfolding records_at
lines_none τ f at = refl

-- three lines, and those behind them, by the bytes of a line
pub three_lines_lem : (τ : Style) (f : List ℕ) (c at size : ℕ) → size ≡ line_size τ → 3 ≤ c →
    lines_at τ f c at ≡ line_at τ f at ∷ line_at τ f (at + size) ∷ line_at τ f (at + size + size) ∷ lines_at τ f (c - 3) (at + size + size + size)
three_lines_lem τ f c at size is h =
    let left : c - 1 - 1 - 1 ≡ c - 3 = omega arith in
    rw (is, lines_more τ f c at (omega arith), lines_more τ f (c - 1) (at + line_size τ) (omega arith), lines_more τ f (c - 1 - 1) (at + line_size τ + line_size τ) (omega arith), left)

-- "the offset where the group starts or would start"
pub group_place_lem : (τ : Style) (f : List ℕ) (c at : ℕ) → group_place (at + line_size τ * c) (lines_at τ f c at) ≡ at
unfolding records_at
group_place_lem τ f zero at = omega arith
group_place_lem τ f (suc c) at = refl
