-- What C is told of an import, and what its two buffers hold afterwards.
use Rattle.std.specs.Prelude.{ℕ, ◌≡◌, List, Result as Outcome}
use Rattle.answers.specs.declared.Sizes.{Sizes}
use Rattle.answers.specs.declared.NotImported.{NotImported}
use Rattle.planar.specs.Outcome.{Imports}
use Rattle.panel_told.specs.Telling.{code_of, refusal_of}
use Rattle.panel_told.specs.Answers.{import_given, import_short}

pub record ImportTold (file order list order' list' : List ℕ) (r : ℕ) (refusal : List ℕ) : Type 0 where
  pub answer : Outcome Sizes NotImported
  pub imports : Imports file order list order' list' answer
  pub size : r ≡ code_of (import_given answer)
  pub place : refusal ≡ refusal_of (import_short answer) (import_given answer)
