-- A built drawing, built again from its start: the entries in order, each of them a point below 16,384, which its 16-bit number keeps.
use Rattle.std.specs.Prelude.{ℕ, zero, suc, ◌+◌, ◌<◌, ◌≤◌, ◌≡◌, refl, List, [], ◌∷◌, map, length, get_or}
use Rattle.std.proofs.Common.{ap, arith}
use Rattle.rules.specs.declared.Style.{Style}
use Rattle.rules.specs.declared.Entry.{Entry}
use Rattle.rules.specs.declared.Reading.TheVariants.{Given}
use Rattle.rules.specs.Basics.{snoc}
use Rattle.rules.specs.Refusals.{good}
use Rattle.rules.specs.Entries.{point_limit, read_entry, word_of}
use Rattle.rules.specs.Points.{Drawing}
use Rattle.rules.specs.Adding.{add_entries, points_of}
use Rattle.rules.specs.OrderFile.{start_with, kind_at}
use Rattle.rules.proofs.RoundTrip.{entry_back}
use Rattle.rules.proofs.Lengths.{length-points}
use Rattle.promise.specs.Accepted.{accepted}
use Rattle.promise.specs.Standing.{Standing}
use Rattle.promise.proofs.Bounds.{standing-start, standing-added}
use Rattle.exchange.specs.Built.{Built, begun, added}

-- every entry names a point below 16,384, and there are at most 1,024 of them
pub record Fitting (es : List Entry) : Type 0 where
  pub fits : (i : ℕ) → i < length es → get_or (points_of es) i 0 < point_limit
  pub few : length es ≤ 1024

-- such entries, written and read
pub entries_back : (es : List Entry) → Fitting es → map read_entry (map word_of es) ≡ map Given es
entries_back [] h = refl
entries_back (e ∷ es) h =
    let a = entry_back e (h.fits 0 (omega arith)) in
    let b = entries_back es (record { fits = λ i b. h.fits (suc i) (omega arith); few = omega (arith, h.few) }) in
    cc

-- the entries of point 2 are such
pub fitting_second : (es : List Entry) → points_of es ≡ 1 ∷ [] → Fitting es
fitting_second es h = record { fits = λ i b. rw h (go i (omega (arith, length-points es, ap length h))); few = omega (arith, length-points es, ap length h) }
  where
    go : (i : ℕ) → i < 1 → get_or (1 ∷ []) i 0 < point_limit
    go zero b = omega arith
    go (suc i) b = absurd (omega arith)

-- and those of point 3
pub fitting_third : (es : List Entry) → points_of es ≡ 1 ∷ 2 ∷ [] → Fitting es
fitting_third es h = record { fits = λ i b. rw h (go i (omega (arith, length-points es, ap length h))); few = omega (arith, length-points es, ap length h) }
  where
    go : (i : ℕ) → i < 2 → get_or (1 ∷ 2 ∷ []) i 0 < point_limit
    go zero b = omega arith
    go (suc zero) b = omega arith
    go (suc (suc i)) b = absurd (omega arith)

-- the entries of an accepted call are such
fitting-added : (d e : Drawing) (es : List Entry) → Standing d → add_entries d es ≡ good e → Fitting es
fitting-added d e es t h =
    let a = accepted d e es h in
    record { fits = λ i b. let z = t.sound.rooted.low (a.l + i) (omega arith) in omega (arith, a.run.point i (omega arith), z.1, t.ranged.room, t.ranged.high); few = omega (arith, a.run.size, a.run.rm, t.ranged.border, t.ranged.room, t.ranged.high) }

-- the entries of some calls take d to e
pub data Replays : Drawing → List (List Entry) → Drawing → Type 0 where
  none : {d : Drawing} → Replays d [] d
  more : {d e f : Drawing} {ess : List (List Entry)} (es : List Entry) → Fitting es → add_entries d es ≡ good e → Replays e ess f → Replays d (es ∷ ess) f

-- one call more at the end
replays_more : {d e f : Drawing} {ess : List (List Entry)} (es : List Entry) → Replays d ess e → Fitting es → add_entries e es ≡ good f → Replays d (snoc ess es) f
replays_more es none a h = more es a h none
replays_more es (more fs b g r) a h = more fs b g (replays_more es r a h)

-- a built drawing stands, began as files begin, and is built so
pub record Replayed (τ : Style) (n s : ℕ) (second third : List Entry) (rest : List (List Entry)) (d : Drawing) : Type 0 where
  pub standing : Standing d
  pub second_points : points_of second ≡ 1 ∷ []
  pub third_points : points_of third ≡ 1 ∷ 2 ∷ []
  pub replays : Replays (start_with τ n s second third) rest d

-- every built drawing is replayed
pub replayed : {τ : Style} {n s : ℕ} {second third : List Entry} {rest : List (List Entry)} {d : Drawing} → 3 ≤ n → n ≤ 1024 → Built τ n s second third rest d →
    Replayed τ n s second third rest d
replayed {τ} {n} {s} {second} {third} low high (begun a b) =
    record { standing = standing-start τ n s (kind_at 0 second) (kind_at 0 third) (kind_at 1 third) low high; second_points = a; third_points = b; replays = none }
replayed low high (added {d = d} {e = e} es b h) =
    let r = replayed low high b in
    let fits = fitting-added d e es r.standing h in
    record { standing = standing-added d e es r.standing h; second_points = r.second_points; third_points = r.third_points; replays = replays_more es r.replays fits h }
