-- A line, read from the arrays, is the drawing's; so are its bend and where that lies, where lines bend.
use Rattle.std.specs.Prelude.{Ok, Err, ℕ, ◌<◌, ◌≤◌, ◌≡◌, List, length, get_or}
use Rattle.std.proofs.Common.{sym, ap, ◌∙◌, arith, le-ltb, lt-ltb}
use Rattle.rules.specs.declared.Style.{Style}
use Rattle.rules.specs.declared.Style.TheVariants.{OneBend, Straight}
use Rattle.rules.specs.declared.Line.{Line}
use Rattle.rules.specs.Points.{Drawing as Plan, line_at}
use Rattle.rules.specs.Ports.{bend_place}
use Rattle.rules.specs.Styles.{seen}
use Rattle.rules.specs.Refusals.{good, refusal_at}
use Rattle.rules.specs.Lookups.{look_line}
use Rattle.rules.specs.declared.Refusal.TheVariants.{NoSuch}
use Rattle.store_links.specs.declared.Counts.{Counts}
use Rattle.store_links.specs.Arrays.{Arrays}
use Rattle.store_links.specs.Opening.{no_line}
use Rattle.store_laws.specs.Adding.{Holds}
use Rattle.store_settling.specs.Lines.{line_is, ends}
use Rattle.store_settling.specs.Placed.{Settled}
use Rattle.store_settling.specs.Bends.{bend_in, Bendable}
use Rattle.store_settling.specs.Bending.{Shows, shows_of, bendable_of, bend_right}
use Rattle.answers.specs.declared.LineSeen.TheVariants as Line
use Rattle.store_looking.specs.Places.{settled-xs}
use Rattle.answers.specs.Told.{line_seen}

module _ {q : Plan} {a : Arrays} {c : Counts} {xs : List ℕ} (h : Holds q a c) (s : Settled xs a c.k)
    (e : ℕ) (low : e < c.lines) where
  abbrev l : Line
  l = get_or a.lines e no_line

  el : e < length q.lines
  el = omega (arith, h.stores.lines)

  read : l ≡ line_at q e
  read = line_is h.stores e el

  shows : Shows q xs a
  shows = shows_of (settled-xs h s) h.stores

  -- Where it bends can be found, and is where the rules say.
  pub line-bends : Bendable xs a l.later l.earlier l.bend
  line-bends =
      let small : q.k ≤ 1024 = omega (arith, h.standing.ranged) in
      rw read (bendable_of shows h.standing.sound small e el s.long)

  -- What the rules give of it, by the style that the numbers name.
  seen_by : (τ : Style) → c.style ≡ τ → line_seen (look_line q e) ≡ line_seen (good (seen τ (line_at q e) (bend_place q (line_at q e))))
  seen_by τ b =
      rw (lt-ltb e (length q.lines) el)
      (ap (λ (σ : Style). line_seen (good (seen σ (line_at q e) (bend_place q (line_at q e))))) (sym h.stores.style ∙ b))

  -- A line with its bend.
  pub line_seen_lem : c.style ≡ OneBend → Ok (Line.Bent l (bend_in xs a l.later l.earlier l.bend)) ≡ line_seen (look_line q e)
  line_seen_lem b =
      let v = line_at q e in
      let p = ends h.standing e el in
      rw (read, bend_right shows v.later v.earlier p.0 p.1 p.2 p.3 v.bend) (sym (seen_by OneBend b))

  -- A straight line.
  pub straight_seen : c.style ≡ Straight → Ok (Line.Straight l) ≡ line_seen (look_line q e)
  straight_seen b = rw read (sym (seen_by Straight b))

-- no such line
pub no_line_lem : {q : Plan} {a : Arrays} {c : Counts} → Holds q a c → (e : ℕ) → c.lines ≤ e → Err (refusal_at NoSuch 0) ≡ line_seen (look_line q e)
no_line_lem {q} h e b = rw (le-ltb e (length q.lines) (omega (arith, h.stores.lines)))
