-- The order file that the import writes is the one that `exchange` writes of the same entries, all plain, at scale 1.
use Rattle.std.specs.Prelude.{ℕ, ◌≡◌, refl, List, [], ◌∷◌, ◌++◌, map}
use Rattle.std.proofs.Common.{ap, ap₂, ◌∙◌, append_assoc}
use Rattle.rules.specs.Entries.{word_of}
use Rattle.rules.specs.Records.{written, order_head, point_entries, end_shape}
use Rattle.exchange.specs.OrderWrite.{point_records, order_bytes}
use Rattle.planar_rules.specs.PlanarCode.{Point, vertices, point_of, plain, records, order_file}
use Rattle.planar_order.specs.Theorem.{entries_of}
use Rattle.planar_drawn.specs.Growing.{plains}

-- the numbers of a point's entries
words-plain : (vs es : List ℕ) → map (λ v. word_of (plain (point_of vs v))) es ≡ map word_of (plains (map (point_of vs) es))
words-plain vs [] = refl
words-plain vs (v ∷ es) = ap (λ (l : List ℕ). word_of (plain (point_of vs v)) ∷ l) (words-plain vs es)

-- the records of some points, and the end
records-plain : (vs : List ℕ) (ps : List Point) → records vs ps ++ written end_shape [] ≡ point_records (map plains (entries_of vs ps))
unfolding records
records-plain vs [] = refl
records-plain vs (p ∷ ps) =
    append_assoc (written point_entries (map (λ v. word_of (plain (point_of vs v))) p.entries)) (records vs ps) (written end_shape []) ∙
    ap₂ (λ (ws l : List ℕ). written point_entries ws ++ l) (words-plain vs p.entries) (records-plain vs ps)

-- the file
pub order-plain : (n : ℕ) (ps : List Point) → order_file n ps ≡ order_bytes n 1 (map plains (entries_of (vertices ps) ps))
unfolding order_file
order-plain n ps = ap (λ (l : List ℕ). written order_head (n ∷ []) ++ l) (records-plain (vertices ps) ps)
