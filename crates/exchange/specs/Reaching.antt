-- Opening and calls reach what they give, whatever was refused among them.
use Rattle.std.specs.Prelude.{ℕ, ◌≤◌, refl, List, [], ◌∷◌, ◌≡◌}
use Rattle.std.proofs.Common.{arith}
use Rattle.rules.specs.declared.Style.{Style}
use Rattle.rules.specs.declared.Kind.TheVariants.{Plain}
use Rattle.rules.specs.declared.Entry.{Entry}
use Rattle.rules.specs.Refusals.{good}
use Rattle.rules.specs.Points.{Drawing, opening}
use Rattle.rules.specs.Adding.{add, add_entries}
use Rattle.rules.specs.Calls.{left, after, drawn}
use Rattle.promise.specs.Accepted.{after_keeps}
use Rattle.exchange.specs.Built.{Built, begun, added, Reached}
use Rattle.exchange.specs.Entries.{reached_so}

-- the entries of points 2 and 3 of a drawing opened by a call: all plain
abbrev second : List Entry
second = record { point = 1; kind = Plain } ∷ []

abbrev third : List Entry
third = record { point = 1; kind = Plain } ∷ record { point = 2; kind = Plain } ∷ []

pub reached-opening : (τ : Style) (n : ℕ) → 3 ≤ n → n ≤ 1024 → Reached (opening τ n)
reached-opening τ n low high =
    let b : Built τ n 1 second third [] (opening τ n) = begun refl refl in
    reached_so (low, high) (omega arith, omega arith) b

reached-added : (d e : Drawing) (es : List Entry) → Reached d → add_entries d es ≡ good e → Reached e
reached-added d e es r h = reached_so (r.low, r.high) r.scale (added es r.built h)

-- a list of calls, and one call
pub reached_after : (d : Drawing) → Reached d → (calls : List (List ℕ)) → Reached (after d calls)
reached_after d r calls = after_keeps Reached reached-added d r calls

pub reached_left : (d : Drawing) → Reached d → (call : List ℕ) → Reached (left d (add d call))
reached_left d r call = reached_after d r (call ∷ [])

pub reached-drawn : (τ : Style) (n : ℕ) → 3 ≤ n → n ≤ 1024 → (calls : List (List ℕ)) → Reached (drawn τ n calls)
reached-drawn τ n low high calls = reached_after (opening τ n) (reached-opening τ n low high) calls
