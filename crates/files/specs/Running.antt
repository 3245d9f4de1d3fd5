-- What a program wrote of the bytes read, told of the file.
use Rattle.std.specs.Prelude.{ℕ, ◌≡◌, List, Option, Some, None, Result, Ok, Err, OnOk, IfSome}
use Rattle.std.proofs.Common.{subst}
use Rattle.std.specs.Io.KnownBytes.{Appends}
use Rattle.printing.specs.Began.{Began}

-- the bytes written are those that are to be printed of the file, where the file is known
pub written : {T E : Type 0} (r : Result T E) (file : Option (List ℕ)) {size : ℕ} {read bytes : List ℕ} (text : List ℕ → List ℕ) (held after : Option (List ℕ)) →
    IfSome file (λ f. Began f size read) → ((f : List ℕ) → Began f size read → bytes ≡ text f) → OnOk r (Appends held after bytes) → OnOk r (IfSome file (λ f. Appends held after (text f)))
written (Ok t) (Some f) text held after b is w = subst (λ (l : List ℕ). Appends held after l) (is f b) w
written (Ok t) None text held after b is w = tt
written (Err e) file text held after b is w = tt
