-- 24 never happens: buffers for every net that is taken have room for its outputs, and so hold them, or the refusal is the answer.
use Rattle.std.specs.Prelude.{ℕ, ◌≤◌, ◌≡◌, refl, List, length, take, drop, Result as Outcome, Ok, Err}
use Rattle.std.proofs.Common.{ap, sym, ◌∙◌, subst, arith, length-append, take_at, le-ltb}
use Rattle.rules.specs.declared.Refusal.{Refusal}
use Rattle.rules.specs.Refusals.{Result, good, refused, refusal_at, number, ◌>>=◌}
use Rattle.rules.specs.Output.{filled, refusal_line, printed, judged_bytes}
use Rattle.answers.specs.declared.Sizes.{Sizes}
use Rattle.answers.specs.declared.NotImported.{NotImported}
use Rattle.answers.specs.Told.{import_refusal}
use Rattle.printing_line.specs.Putting.{Printed}
use Rattle.printing.specs.Began.{Began}
use Rattle.planar_rules.specs.PlanarCode.{most_vertices, Import, imported, list_of}
use Rattle.planar_rules.specs.Programs.{longest_import, import_program, vertex_lines, vertices_program}
use Rattle.planar_drawn.proofs.Sizes.{order_most, list_most}
use Rattle.planar.specs.Outcome.{Fills, Imports}

-- ---- what is printed

-- of an import that is wanted: these bytes, or the line of the refusal
abbrev pub shown_as : (Import → List ℕ) → Result Import → List ℕ
shown_as bytes wanted = printed (wanted >>= λ i. good (bytes i))

abbrev pub order_in : Import → List ℕ
order_in i = i.order

abbrev pub lines_in : Import → List ℕ
lines_in i = vertex_lines i.list

-- ---- what the buffers hold

-- the list that is told lies in a buffer of this length
abbrev pub Within : Outcome Sizes NotImported → ℕ → Type 0
Within (Ok s) list = s.list ≤ list
Within (Err e) list = Unit {0}

-- both outputs of what was wanted stand at the start of their buffers, or its refusal is the answer, and the order file's buffer is as it was
pub data Shown (order list order' list' : List ℕ) (answer : Outcome Sizes NotImported) : Result Import → Type 0 where
  both : {i : Import} → answer ≡ Ok (record { order = length i.order; list = length i.list }) → order' ≡ filled order (good i.order) → list' ≡ filled list (good i.list) →
      Shown order list order' list' answer (good i)
  neither : {r : Refusal} {p : ℕ} → answer ≡ Err (NotImported.Refused (refusal_at r p)) → order' ≡ order → Shown order list order' list' answer (refused r p)

-- a buffer that begins with some bytes is as long as they are, or longer
length-filled : (before bytes : List ℕ) {after : List ℕ} → after ≡ filled before (good bytes) → length bytes ≤ length after
length-filled before bytes e = omega (arith, ap length e, length-append bytes (drop (length bytes) before))

-- sizes that are the same
same_sizes : {a b : Sizes} → ◌≡◌ {A = Outcome Sizes NotImported} (Ok a) (Ok b) → a ≡ b
same_sizes e = cc

-- which case it is
abbrev pub case : Outcome Sizes NotImported → ℕ
case (Ok s) = 0
case (Err e) = 1

module _ {order list order' list' : List ℕ} {answer : Outcome Sizes NotImported} where
  -- SO IT IS with buffers for every net
  pub shown : (file : List ℕ) → longest_import ≤ length order → most_vertices ≤ length list → Imports file order list order' list' answer →
      Shown order list order' list' answer (imported file)
  shown file a b f = go (imported file) (λ i e. omega (arith, order_most file i e)) (λ i e. omega (arith, list_most file i e)) f
    where
      go : (wanted : Result Import) → ((i : Import) → wanted ≡ good i → length i.order ≤ length order) → ((i : Import) → wanted ≡ good i → length i.list ≤ length list) →
          Fills wanted order list order' list' answer → Shown order list order' list' answer wanted
      go (good i) m k f =
          let t = le-ltb (length order) (length i.order) (m i refl) in
          let u = le-ltb (length list) (length i.list) (k i refl) in
          both {i = i} (f.answer ∙ rw (t, u)) (f.orders ∙ rw (t, u)) (f.lists ∙ rw (t, u))
      go (refused r p) m k f = neither f.answer f.orders

  pub within : {wanted : Result Import} → Shown order list order' list' answer wanted → Within answer (length list')
  within (both {i} s o l) = subst (λ (a : Outcome Sizes NotImported). Within a (length list')) (sym s) (length-filled list i.list l)
  within (neither s o) = subst (λ (a : Outcome Sizes NotImported). Within a (length list')) (sym s) tt

  -- ---- what is then printed, by the answer

  pub finished-order : {wanted : Result Import} {sizes : Sizes} → Shown order list order' list' answer wanted → answer ≡ Ok sizes → Printed order (shown_as order_in wanted) order' sizes.order
  finished-order (both {i} s o l) e =
      let size = ap (λ (z : Sizes). z.order) (same_sizes (sym e ∙ s)) in
      record { is = o; size = size; fits = omega (arith, size, length-filled order i.order o) }
  finished-order (neither s o) e = absurd (omega (arith, ap case s, ap case e))

  pub finished-lines : {wanted : Result Import} {sizes : Sizes} {page after : List ℕ} {r : ℕ} → Shown order list order' list' answer wanted → answer ≡ Ok sizes →
      Printed page (vertex_lines (take sizes.list list')) after r → Printed page (shown_as lines_in wanted) after r
  finished-lines {sizes = sizes} {page} {after} {r} (both {i} s o l) e p =
      let is : take sizes.list list' ≡ i.list = ap (take sizes.list) l ∙ take_at i.list (drop (length i.list) list) sizes.list (ap (λ (z : Sizes). z.list) (same_sizes (sym s ∙ e))) in
      subst (λ (vs : List ℕ). Printed page (vertex_lines vs) after r) is p
  finished-lines (neither s o) e p = absurd (omega (arith, ap case s, ap case e))

  -- the line of the refusal, in a page whatever it held
  pub finished-line : (bytes : Import → List ℕ) {wanted : Result Import} {e : NotImported} {page after : List ℕ} {k : ℕ} → Shown order list order' list' answer wanted → answer ≡ Err e →
      Printed page (refusal_line (number (import_refusal e).refusal) (import_refusal e).place) after k → Printed page (shown_as bytes wanted) after k
  finished-line bytes (both s o l) h q = absurd (omega (arith, ap case s, ap case h))
  finished-line bytes {e = e} (neither {r = f} {p = g} s o) h q = let a : e ≡ NotImported.Refused (refusal_at f g) = cc in rw a at q

  -- in the order file's own buffer it stands in what the buffer held
  pub finished-order-line : {wanted : Result Import} {e : NotImported} {after : List ℕ} {k : ℕ} → Shown order list order' list' answer wanted → answer ≡ Err e →
      Printed order' (refusal_line (number (import_refusal e).refusal) (import_refusal e).place) after k → Printed order (shown_as order_in wanted) after k
  finished-order-line (both s o l) h q = absurd (omega (arith, ap case s, ap case h))
  finished-order-line {e = e} {after} {k} (neither s o) h q =
      finished-line order_in (neither s o) h (subst (λ (l : List ℕ). Printed l (refusal_line (number (import_refusal e).refusal) (import_refusal e).place) after k) o q)

-- ---- THE PROGRAMS: the bytes read are those that are judged

module _ (file : List ℕ) {read : List ℕ} (b : Began file judged_bytes read) where
  pub prints-order : {page after : List ℕ} {r : ℕ} → Printed page (shown_as order_in (imported read)) after r → Printed page (import_program file) after r
  prints-order {page} {after} {r} p = subst (λ (f : List ℕ). Printed page (shown_as order_in (imported f)) after r) b.is p

  pub prints-lines : {page after : List ℕ} {r : ℕ} → Printed page (shown_as lines_in (imported read)) after r → Printed page (vertices_program file) after r
  prints-lines {page} {after} {r} p =
      subst (λ (bytes : List ℕ). Printed page bytes after r) (lines_same (imported (take judged_bytes file)))
      (subst (λ (f : List ℕ). Printed page (shown_as lines_in (imported f)) after r) b.is p)
    where
      lines_same : (wanted : Result Import) → shown_as lines_in wanted ≡ printed (list_of wanted >>= λ vs. good (vertex_lines vs))
      lines_same (good i) = refl
      lines_same (refused r p) = refl
