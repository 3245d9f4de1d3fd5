-- What a moves program prints of a file: the moves of its drawing, or a refusal, with the tool that some three words are. The words are the program's arguments, of which no clause of the system's says what they are.
use Rattle.std.specs.Prelude.{ℕ, List, take, Option, Some, None, Result, Ok, Err, OnOk, IfSome}
use Rattle.std.proofs.Common.{subst}
use Rattle.std.specs.Io.KnownBytes.{Appends}
use Rattle.rules.specs.declared.Style.{Style}
use Rattle.rules.specs.MoveLines.{words_tool, moves_program}
use Rattle.printing_line.specs.Putting.{Printed, first_printed}
use Rattle.printing.specs.Began.{Began}

-- the page begins with it, r bytes
abbrev pub PrintsMoves : Style → List ℕ → List ℕ → List ℕ → ℕ → Type 0
PrintsMoves τ file page after r = (p : List ℕ) × (d : List ℕ) × (c : List ℕ) × Printed page (moves_program τ (words_tool p d c) file) after r

-- a writer grows by it
abbrev pub AppendsMoves : Style → List ℕ → Option (List ℕ) → Option (List ℕ) → Type 0
AppendsMoves τ file held after = (p : List ℕ) × (d : List ℕ) × (c : List ℕ) × Appends held after (moves_program τ (words_tool p d c) file)

-- what was written of the bytes read is that of the file, where the file is known
pub moves_written : {T E : Type 0} (r : Result T E) (file : Option (List ℕ)) {size : ℕ} {read page after : List ℕ} {n : ℕ} (τ : Style) (held grown : Option (List ℕ)) →
    IfSome file (λ f. Began f size read) → ((f : List ℕ) → Began f size read → PrintsMoves τ f page after n) → OnOk r (Appends held grown (take n after)) → OnOk r (IfSome file (λ f. AppendsMoves τ f held grown))
moves_written (Ok t) (Some f) τ held grown b is w = let m = is f b in (m.0, m.1, m.2, subst (λ (l : List ℕ). Appends held grown l) (first_printed m.3) w)
moves_written (Ok t) None τ held grown b is w = tt
moves_written (Err e) file τ held grown b is w = tt
