-- What the exported functions that write a file answer: a number, and three words of a refusal.
use Rattle.std.specs.Prelude.{ℕ, ◌≡◌, List, Ok, Err}
use Rattle.std.proofs.Common.{arith}
use Rattle.rules.specs.declared.Refused.{Refused}
use Rattle.exchange.specs.Built.{Reached}
use Rattle.store_tables.specs.declared.Drawing.{Drawing}
use Rattle.store_laws.specs.Stored.{Is}
use Rattle.panel_asked.specs.Asking.{Drew}
use Rattle.rules.specs.declared.Style.{Style}
use Rattle.rules.specs.Refusals.{Result, good, refused, Answer, refusal_at, ◌>>=◌}
use Rattle.rules.specs.Points.{Drawing as Plan}
use Rattle.rules.specs.DrawingFile.{write_drawing}
use Rattle.write_files.specs.Outputs.{Wrote, turned}
use Rattle.panel_words.specs.Words.{output_buffer, answers_buffer}
use Rattle.panel_told.specs.Telling.{code_of, refusal_of}
use Rattle.panel_told.specs.Answers.{file_given}
use Rattle.panel_doors.specs.Sources.{CallsGive}

-- `wanted` was to be written into the output; 24 means that `buffer` was short
pub record Exported (buffer : ℕ) (before : List ℕ) (wanted : Result (List ℕ)) (after : List ℕ) (r : ℕ) (refusal : List ℕ) : Type 0 where
  pub written : Answer ℕ
  pub wrote : Wrote before wanted after written
  pub count : r ≡ code_of (file_given written)
  pub place : refusal ≡ refusal_of buffer (file_given written)

-- 24 of a source is of its own buffer, 24 behind its drawing is of the output
abbrev pub buffer_for : ℕ → Result Plan → ℕ
buffer_for short (good q) = output_buffer
buffer_for short (refused r p) = short

-- the drawing file was to be written, where a source gives a drawing, or the source's refusal stands for it
pub record FileTold (Gives : Result Plan → Type 0) (short : ℕ) (before after : List ℕ) (r : ℕ) (refusal : List ℕ) : Type 0 where
  pub outcome : Result Plan
  pub gives : Gives outcome
  pub written : Exported (buffer_for short outcome) before (outcome >>= write_drawing) after r refusal

-- a list of calls was run, and the drawing file of its drawing was to be written
abbrev pub CallsExported : Style → ℕ → List ℕ → List ℕ → List ℕ → List ℕ → List ℕ → ℕ → List ℕ → Type 0
CallsExported τ n ws saidBefore saidAfter before after r refusal = FileTold (CallsGive τ n ws saidBefore saidAfter) answers_buffer before after r refusal

module _ {Gives : Result Plan → Type 0} {short : ℕ} {before : List ℕ} (d : Drawing) {r : ℕ} {refusal : List ℕ} where
  -- The file of the drawing.
  pub told-drawn : {after : List ℕ} {w : Answer ℕ} (o : Result Plan) → Gives o → Drew o d (Ok tt) → ((q : Plan) → Reached q → Is q d → Wrote before (write_drawing q) after w) →
      r ≡ code_of (file_given w) → refusal ≡ refusal_of output_buffer (file_given w) → FileTold Gives short before after r refusal
  told-drawn {w = w} (good q) g h wrote n p = record { outcome = good q; gives = g; written = record { written = w; wrote = wrote q h.1 h.2; count = n; place = p } }
  told-drawn (refused f p) g h wrote n l = absurd (let z : ◌≡◌ {A = ℕ} 0 1 = cc h in omega arith)

  -- No file, and the source's refusal.
  pub told-refused : (o : Result Plan) (e : Refused) → Gives o → Drew o d (Err e) → r ≡ code_of (file_given (Err e)) → refusal ≡ refusal_of short (file_given (Err e)) → FileTold Gives short before before r refusal
  told-refused (good q) e g h n p = absurd (let z : ◌≡◌ {A = ℕ} 0 1 = cc h.0 in omega arith)
  told-refused (refused f p) e g h n l =
      let same : e ≡ refusal_at f p = cc h in
      record { outcome = refused f p; gives = g; written = record { written = Err e; wrote = rw same (turned before f p); count = n; place = l } }
