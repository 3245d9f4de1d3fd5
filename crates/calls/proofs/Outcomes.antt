-- The four outcomes of running a list of calls, and where it starts.
use Rattle.std.proofs.Common.{ap, ◌∙◌, arith}
use Rattle.rules.specs.declared.Style.{Style}
use Rattle.rules.specs.declared.Style.TheVariants.{OneBend, Straight}
use Rattle.rules.specs.declared.Kind.TheVariants.{Plain}
use Rattle.std.specs.Prelude.{ℕ, ◌*◌, ◌<◌, ◌≤◌, ◌≡◌, refl, List, Ok, Err, length}
use Rattle.rules.specs.declared.Refusal.TheVariants.{OutOfRange, OutputShort}
use Rattle.rules.specs.Refusals.{Answer, refusal_at}
use Rattle.rules.specs.Calls.{drawn}
use Rattle.store_links.specs.Opening.{open_arrays, open_counts}
use Rattle.promise.specs.Promise.{Promised}
use Rattle.promise.proofs.Bounds.{standing-start}
use Rattle.promise.proofs.Theorem.{demand_3, wish_2}
use Rattle.exchange.specs.Reaching.{reached-drawn}
use Rattle.store_adding.specs.Calls.{Answered}
use Rattle.store_laws.specs.Opened.{sized_open, stores_open}
use Rattle.store_tables.specs.declared.Drawing.{Drawing}
use Rattle.store_tables.specs.Tables.{arrays_in}
use Rattle.calls_words.specs.Lists.{calls_in, with_answer, place_in}
use Rattle.calls.specs.Turns.{Made, Begun, Ended, Runs}
use Rattle.calls.specs.Ran.{Refuses, Ran}
use Rattle.calls.specs.Places.{place_most}

-- The drawing as opened.
pub begun : {τ : Style} {n : ℕ} {ws out : List ℕ} (d : Drawing) → Runs τ n ws out → (arrays_in d.table ≡ open_arrays τ 1 1 2) × (d.counts ≡ open_counts τ n 1) → Begun d.counts.style d.counts.n ws out d
begun {τ} {n} d h is =
    record {
      is =
          rw (is.0, is.1)
          (record {
            standing = standing-start τ n 1 Plain Plain Plain h.low h.high;
            sized = sized_open τ n 1 Plain Plain Plain 1 1 2;
            stores = stores_open τ n 1 Plain Plain Plain 1 1 2 refl refl refl;
          });
      room = h.room;
    }

-- A call is made, accepted or refused.
pub made : {d : Drawing} {es out : List ℕ} {at : ℕ} {d' : Drawing} {out' : List ℕ} {r : Answer (Unit {0})} → Answered d es d' r → out' ≡ with_answer out at r → Made d es out at d' out'
made {out = out} {at} h w = record { arrays = h.arrays; counts = h.counts; buffer = w ∙ ap (with_answer out at) h.answer }

-- The place of a refusal fits where the entries were counted by 16 bits.
pub place_fits : {d : Drawing} {es : List ℕ} {d' : Drawing} (r : Answer (Unit {0})) → Answered d es d' r → length es < 65536 → place_in r < 65536
place_fits {d} {es} r h few = let p : place_in r ≤ length es = rw h.answer (place_most (arrays_in d.table) d.counts es) in omega (arith, p)

module _ {τ : Style} {n : ℕ} {ws before : List ℕ} where
  -- n is out of range.
  pub out_of_range : (3 ≤ n → n ≤ 1024 → ⊥) → Ran τ n ws before before (Err (refusal_at OutOfRange 0))
  out_of_range h =
      let no : Refuses 3 before before (Err (refusal_at OutOfRange 0)) = record { answer = refl; buffer = refl } in
      record { low = λ l. no; high = λ l. no; short = λ l u s. absurd (h l u); enough = λ l u s. absurd (h l u) }

  -- The buffer is too short.
  pub too_short : 3 ≤ n → n ≤ 1024 → length before < 2 * length (calls_in ws) → Ran τ n ws before before (Err (refusal_at OutputShort 0))
  too_short low high h =
      record {
        low = λ l. absurd (omega arith);
        high = λ l. absurd (omega arith);
        short = λ l u s. record { answer = refl; buffer = refl };
        enough = λ l u s. absurd (omega arith);
      }

-- The drawing keeps the promise of its style.
promised : (τ : Style) (n : ℕ) → 3 ≤ n → n ≤ 1024 → (calls : List (List ℕ)) → Promised τ (drawn τ n calls)
promised OneBend = demand_3
promised Straight = wish_2

-- Every call was made.
pub accepted : {τ : Style} {n : ℕ} {ws before after : List ℕ} (d : Drawing) → Runs τ n ws before → Ended τ n ws before d after → Ran τ n ws before after (Ok d)
accepted {τ} {n} {ws} d h e =
    record {
      low = λ l. absurd (omega (arith, h.low));
      high = λ l. absurd (omega (arith, h.high));
      short = λ l u s. absurd (omega (arith, h.room));
      enough =
          λ l u s.
          record {
            d = d;
            answer = refl;
            buffer = e.buffer;
            drawing = e.is;
            came = record { plan = drawn τ n (calls_in ws); reached = reached-drawn τ n l u (calls_in ws); is = e.is };
            promise = promised τ n l u (calls_in ws);
          };
    }
