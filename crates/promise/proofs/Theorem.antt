-- DEMAND 3 AS ONE CLAIM: for every n from 3 to 1,024 and every list of adding calls, refused ones among them, the drawing keeps the promise;
-- and document 02's wish 2 for the straight drawing likewise.
-- Their answers and the drawings are those of the rules by definition (`said`, `drawn` of `rules`).
use Rattle.std.specs.Prelude.{ℕ, ◌≤◌, ◌≡◌, refl, List}
use Rattle.std.proofs.Common.{ap, ◌∙◌, subst}
use Rattle.rules.specs.declared.Style.{Style}
use Rattle.rules.specs.declared.Style.TheVariants.{OneBend, Straight}
use Rattle.rules.specs.declared.Kind.TheVariants.{Plain}
use Rattle.rules.specs.declared.Entry.{Entry}
use Rattle.rules.specs.Refusals.{good}
use Rattle.rules.specs.Points.{Drawing}
use Rattle.rules.specs.Adding.{add_entries}
use Rattle.rules.specs.Calls.{drawn}
use Rattle.promise.specs.Promise.{Promise, StraightPromise, Promised}
use Rattle.promise.specs.Sound.{Sound, Bent, bent, unbent}
use Rattle.promise.specs.Exact.{ExactBy}
use Rattle.promise.proofs.Exact.{sound-exact, no_step_3}
use Rattle.promise.specs.Columns.{style_next}
use Rattle.promise.specs.Opening.{sound-start}
use Rattle.promise.specs.Accepted.{accepted, after_keeps}
use Rattle.promise.specs.Step.{sound-added}
use Rattle.promise.proofs.Edges.{rising, bordered, slopes}
use Rattle.promise.proofs.Sectors.{sectors, single}
use Rattle.promise.proofs.Planar.{planar}
use Rattle.promise.proofs.Angled.{angles}
use Rattle.promise.proofs.Within.{counted, points_framed, bends_framed, narrow}
use Rattle.promise.specs.Standing.{Standing}
use Rattle.promise.proofs.Bounds.{standing-start, standing-added, place_most}
use Rattle.promise.proofs.Straight.{even, wide, finished}

-- a one-bend drawing keeps every clause of demand 3
pub bent-keeps : (d : Drawing) → Bent d → Promise d
bent-keeps d s =
    record {
      rising = rising s.sound;
      bordered = bordered s.sound;
      slanted = slopes s;
      sectored = sectors d s;
      single = single d s;
      planar = planar d s.sound;
      angled = angles d s;
      counted = counted s.sound;
      points_framed = points_framed s;
      bends_framed = bends_framed s;
      narrow = narrow s;
    }

-- a straight drawing keeps every clause of its promise
pub straight-keeps : (d : Drawing) → Standing d → d.style ≡ Straight → StraightPromise d
straight-keeps d t b =
    let s = unbent t.sound b in
    record {
      rising = rising t.sound;
      bordered = bordered t.sound;
      planar = planar d t.sound;
      counted = counted t.sound;
      framed = place_most d t;
      even = even s;
      no_step3 = no_step_3 d s;
      wide = wide s;
      finished = finished s t.ranged;
    }

-- so every standing drawing keeps the promise of its style
pub standing-keeps : (d : Drawing) → Standing d → Promised d.style d
standing-keeps d t = go d.style refl
  where
    go : (τ : Style) → d.style ≡ τ → Promised τ d
    go OneBend b = bent-keeps d (bent t.sound b)
    go Straight b = straight-keeps d t b

-- the drawing after any list of calls came from opening and calls, and is of the style that was opened
pub standing-drawn : (τ : Style) (n : ℕ) → 3 ≤ n → n ≤ 1024 → (calls : List (List ℕ)) → Standing (drawn τ n calls)
standing-drawn τ n low high calls = after_keeps Standing standing-added _ (standing-start τ n 1 Plain Plain Plain low high) calls

pub style-added : (τ : Style) (d e : Drawing) (es : List Entry) → d.style ≡ τ → add_entries d es ≡ good e → e.style ≡ τ
style-added τ d e es b h = let a = accepted d e es h in ap (λ c. c.style) a.is ∙ style_next d es a.l a.r ∙ b

pub style-drawn : (τ : Style) (n : ℕ) (calls : List (List ℕ)) → (drawn τ n calls).style ≡ τ
style-drawn τ n calls = after_keeps (λ d. d.style ≡ τ) (style-added τ) _ refl calls

-- it is sound, whatever n is
pub sound-drawn : (τ : Style) (n : ℕ) (calls : List (List ℕ)) → Sound (drawn τ n calls)
sound-drawn τ n calls = after_keeps Sound sound-added _ (sound-start τ n 1 Plain Plain Plain) calls

-- the theorem
pub demand_3 : (n : ℕ) → 3 ≤ n → n ≤ 1024 → (calls : List (List ℕ)) → Promise (drawn OneBend n calls)
demand_3 n low high calls = bent-keeps (drawn OneBend n calls) (bent (sound-drawn OneBend n calls) (style-drawn OneBend n calls))

-- and the theorem for straight drawings
pub wish_2 : (n : ℕ) → 3 ≤ n → n ≤ 1024 → (calls : List (List ℕ)) → StraightPromise (drawn Straight n calls)
wish_2 n low high calls = straight-keeps (drawn Straight n calls) (standing-drawn Straight n low high calls) (style-drawn Straight n calls)

-- In none of these drawings does a subtraction of the rules truncate, nor in a call on one.
pub drawn-exact : (τ : Style) (n : ℕ) (calls : List (List ℕ)) → ExactBy τ (drawn τ n calls)
drawn-exact τ n calls = subst (λ σ. ExactBy σ (drawn τ n calls)) (style-drawn τ n calls) (sound-exact (drawn τ n calls) (sound-drawn τ n calls))
