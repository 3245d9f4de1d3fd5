-- The number that stands for a line's entry.
use Rattle.std.specs.Prelude.{ℕ, ◌+◌, ◌<◌, ◌≤◌, ◌≡◌, List, length}
use Rattle.std.proofs.Common.{ap, sym, ◌∙◌, lt-ltb, le-ltb}
use Rattle.rules.specs.declared.Style.{Style}
use Rattle.rules.specs.declared.Kind.{Kind}
use Rattle.rules.specs.Entries.{word_of, point_limit}
use Rattle.rules.specs.DrawingFile.{kind_from, entry_in}
use Rattle.words.specs.Bytes.{word_at}
use Rattle.rules.specs.Records.{line_size}
use Rattle.read_groups.specs.Lines.{line_at, earlier_in, kind_place, line_is}
use Rattle.read_groups.specs.Groups.{number_for}

-- the number that stands for the entry of the line at hand, from its earlier point p and its last field l
module _ (τ : Style) (f : List ℕ) (at : ℕ) (there : at + line_size τ ≤ length f) (p : ℕ) (is : p ≡ word_at f (at + 4)) where
  earlier : earlier_in (line_at τ f at) ≡ p
  earlier = (line_is τ f at there).earlier ∙ sym is

  pub no_form : point_limit ≤ p → 0 ≡ number_for (entry_in τ (line_at τ f at))
  no_form h = rw (earlier, le-ltb p point_limit h)

  pub in_form : p < point_limit → (l : ℕ) (k : Kind) → l ≡ word_at f (at + kind_place τ) → k ≡ kind_from l → word_of (record { point = p; kind = k }) ≡ number_for (entry_in τ (line_at τ f at))
  in_form h l k q r =
      let kind : (entry_in τ (line_at τ f at)).kind ≡ k = (line_is τ f at there).kind ∙ ap kind_from (sym q) ∙ sym r in
      rw (earlier, lt-ltb p point_limit h, kind)
