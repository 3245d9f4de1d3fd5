-- A file that is compared part by part is compared with the whole drawing file.
use Rattle.std.specs.Prelude.{ℕ, zero, suc, ◌+◌, ◌-◌, ◌*◌, ◌≤◌, ◌≡◌, refl, List, [], ◌∷◌, ◌++◌, length, take, drop, Ok, Err}
use Rattle.std.proofs.Common.{ap, sym, ◌∙◌, add-zero, arith, drop_of_length-le, append_assoc, append-nil}
use Rattle.std.proofs.Math.Seq.{take-append_seam}
use Rattle.rules.specs.declared.Refused.{Refused}
use Rattle.rules.specs.declared.Style.{Style}
use Rattle.rules.specs.declared.Style.TheVariants.{OneBend, Straight}
use Rattle.rules.specs.Refusals.{answer}
use Rattle.rules.specs.Records.{bytes_of, end_mark, line_size}
use Rattle.rules.specs.DrawingFile.{compare_bytes}
use Rattle.store_links.specs.declared.Counts.{Counts}
use Rattle.store_links.specs.Arrays.{Arrays}
use Rattle.pages.specs.declared.Page.{Page}
use Rattle.pages.specs.Pages.{Grown, page_filled}
use Rattle.read_comparing.specs.Parts.{part_compared, Passed, passed_none, passed_more, passed_stopped}
use Rattle.write_drawings.specs.Lists.{several, starting, line_bytes, head_bytes, file_bytes}

-- what a page was filled with from its first byte on
pub part_there : {first last : Page} {buffer bytes after : List ℕ} → first.at ≡ 0 → first.bytes.now ≡ buffer → Grown first bytes last → after ≡ last.bytes.now → take last.at after ≡ bytes
part_there {first} {last} {buffer} {bytes} z b p e =
    let n : last.at ≡ length bytes = omega (arith, p.at, z) in
    rw (page_filled z b p e, n, take-append_seam bytes (drop (length bytes) buffer))

-- the same where it fills the buffer
pub all_there : {first last : Page} {bytes after : List ℕ} → first.at ≡ 0 → length first.bytes.now ≡ length bytes → Grown first bytes last → after ≡ last.bytes.now → after ≡ bytes
all_there {first} {bytes = bytes} z l p e = rw (page_filled z refl p e, drop_of_length-le first.bytes.now {i = length bytes} (omega (arith, l)), append-nil bytes)

-- So many lines have room in the buffer of a part.
pub part_fits : (τ : Style) (count : ℕ) → count ≤ 128 → line_size τ * count ≤ 1536
part_fits OneBend count h = omega arith
part_fits Straight count h = omega arith

-- Records up to the m-th, and n from it on.
several_both : (f : ℕ → List ℕ) (m n : ℕ) → several f (m + n) ≡ several f m ++ several (starting f m) n
unfolding several
several_both f m zero = ap (several f) (add-zero m) ∙ sym (append-nil (several f m))
several_both f m (suc n) =
    let e : m + suc n ≡ suc (m + n) = omega arith in
    ap (several f) e ∙ ap (λ (l : List ℕ). l ++ f (m + n)) (several_both f m n) ∙ append_assoc (several f m) (several (starting f m) n) (f (m + n))

module _ (xs : List ℕ) (a : Arrays) (c : Counts) (f : List ℕ) where
  -- the header, the points and the lines before line i are there, up to `at`
  pub record LinesPassed (i at : ℕ) : Type 0 where
    pub passed : Passed f (head_bytes xs a c ++ several (line_bytes c.style c.s xs a) i) at
    pub within : i ≤ c.lines

  -- The header and the points are there,
  pub head_passed : {at : ℕ} → part_compared f 0 (head_bytes xs a c) ≡ Ok at → Passed f (head_bytes xs a c ++ several (line_bytes c.style c.s xs a) 0) at
  unfolding several
  head_passed h = rw (append-nil (head_bytes xs a c)) (passed_more (passed_none f) (head_bytes xs a c) h)

  -- or they differ.
  pub head_stopped : {e : Refused} → part_compared f 0 (head_bytes xs a c) ≡ Err e → Err e ≡ answer (compare_bytes 0 f (file_bytes xs a c))
  unfolding file_bytes
  head_stopped h = passed_stopped (passed_none f) (head_bytes xs a c) h (several (line_bytes c.style c.s xs a) c.lines ++ bytes_of (end_mark ∷ []))

  module _ (i count : ℕ) {at : ℕ} (p : Passed f (head_bytes xs a c ++ several (line_bytes c.style c.s xs a) i) at) where
    -- More lines are there,
    pub lines_passed : {to : ℕ} → part_compared f at (several (starting (line_bytes c.style c.s xs a) i) count) ≡ Ok to →
        Passed f (head_bytes xs a c ++ several (line_bytes c.style c.s xs a) (i + count)) to
    lines_passed h =
        let g = line_bytes c.style c.s xs a in
        let part = several (starting g i) count in
        rw (several_both g i count, ← append_assoc (head_bytes xs a c) (several g i) part) (passed_more p part h)

    -- or one of them differs.
    pub lines_stopped : {e : Refused} → i + count ≤ c.lines → part_compared f at (several (starting (line_bytes c.style c.s xs a) i) count) ≡ Err e →
        Err e ≡ answer (compare_bytes 0 f (file_bytes xs a c))
    unfolding file_bytes
    lines_stopped b h =
        let g = line_bytes c.style c.s xs a in
        let end = bytes_of (end_mark ∷ []) in
        let part = several (starting g i) count in
        let rest = several (starting g (i + count)) (c.lines - (i + count)) in
        let n : c.lines ≡ i + count + (c.lines - (i + count)) = omega (arith, b) in
        let all : several g c.lines ≡ several g i ++ (part ++ rest) =
        ap (several g) n ∙ several_both g (i + count) (c.lines - (i + count)) ∙ ap (λ (l : List ℕ). l ++ rest) (several_both g i count) ∙ append_assoc (several g i) part rest in
        rw (all, append_assoc (several g i) (part ++ rest) end, append_assoc part rest end, ← append_assoc (head_bytes xs a c) (several g i) (part ++ (rest ++ end)))
        (passed_stopped p part h (rest ++ end))

  -- Behind the last line the end record decides.
  pub end_decides : {at : ℕ} → Passed f (head_bytes xs a c ++ several (line_bytes c.style c.s xs a) c.lines) at → answer (compare_bytes at (drop at f) (bytes_of (end_mark ∷ []))) ≡ answer (compare_bytes 0 f (file_bytes xs a c))
  unfolding file_bytes
  end_decides p =
      ap answer (sym (p.behind (bytes_of (end_mark ∷ []))) ∙ ap (compare_bytes 0 f) (append_assoc (head_bytes xs a c) (several (line_bytes c.style c.s xs a) c.lines) (bytes_of (end_mark ∷ []))))
