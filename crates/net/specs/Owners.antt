-- Adding a point keeps what is known of owners: an owner is a later point of the same column.
use Rattle.std.specs.Prelude.{ℕ, ◌<◌, ◌≡◌, ◌≢◌}
use Rattle.std.proofs.Common.{sym, ap, ◌∙◌, arith}
use Rattle.std.proofs.Math.Decide.{dec_le, ℕ_discrete}
use Rattle.rules.specs.declared.Style.{Style}
use Rattle.net.specs.Net.{Net}
use Rattle.net.specs.Inv.{Points, Owners}
use Rattle.net.specs.Adds.{join, Adds, Owning}
use Rattle.net.specs.Walls.{by_point, w_low, w_new, w_high}

module _ {τ : Style} {g g' : Net} {l r : ℕ} (h : Points τ g) (a : Adds τ g g' l r) (s : Owning g g' l r) where
  owned' : Owners g → (p : ℕ) → p < g.k → p ≢ g'.w (g'.col p) → (p < g'.own p) × (g'.own p < g'.k) × (g'.col (g'.own p) ≡ g'.col p)
  owned' o p pk d =
      elim (ℕ_discrete p (g.w (g.col p))) [
        | no e ↦
            let t = o.owned p pk e in
            rw (s.own_old p pk e) (t.0, omega (arith, a.k'), a.col' (g.own p) t.1 ∙ ap (join l r) t.2 ∙ sym (a.col' p pk))
        | yes e ↦ elim (dec_le (g.col p) l) [
          | yes b ↦
              let z : g'.col p ≡ g.col p = omega (arith, a.col' p pk, a.lr) in
              absurd (d (rw z (e ∙ sym (w_low h a (g.col p) b))))
          | no b ↦ elim (dec_le r (g.col p)) [
            | yes b' ↦ absurd (d (e ∙ sym (w_high h a (g'.col p) (g.col p) b' (h.cols p pk) (omega (arith, a.col' p pk, a.lr)))))
            | no b' ↦
                let q : g'.own p ≡ g.k = ap g'.own e ∙ s.own_new (g.col p) (omega arith) (omega arith) in
                rw q (pk, omega (arith, a.k'), omega (arith, a.col' p pk, a.col_new))
          ]
        ]
      ]

  pub owners' : Owners g → Owners g'
  owners' o =
      record {
        owned =
            by_point h a (λ p. p ≢ g'.w (g'.col p) → (p < g'.own p) × (g'.own p < g'.k) × (g'.col (g'.own p) ≡ g'.col p))
            (owned' o)
            (λ d. absurd (d (rw a.col_new (sym (w_new h a)))));
      }
