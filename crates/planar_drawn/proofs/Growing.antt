-- Points that stand over runs of the boundary, one after another (`Stands`), are drawn: each step is an accepted call.
use Rattle.std.specs.Prelude.{ℕ, suc, ◌+◌, ◌<◌, ◌≤◌, ◌≡◌, refl, List, [], ◌∷◌, ◌++◌, map, length, get_or, take, drop}
use Rattle.std.proofs.Common.{ap, sym, subst, ◌∙◌, append_assoc, append-nil, arith}
use Rattle.std.proofs.lemmas.List.{length-map}
use Rattle.rules.specs.declared.Style.{Style}
use Rattle.rules.specs.declared.Entry.{Entry}
use Rattle.rules.specs.Basics.{snoc}
use Rattle.rules.proofs.Lengths.{map_append, length-snoc}
use Rattle.rules.specs.Points.{Drawing, m}
use Rattle.promise.specs.Next.{IsRun, next}
use Rattle.promise.specs.Columns.{boundary_next}
use Rattle.promise.specs.Taking.{run_taken}
use Rattle.exchange.specs.Built.{Built, begun, added}
use Rattle.exchange.specs.Entries.{listed}
use Rattle.exchange.specs.DrawingRead.{standing}
use Rattle.planar_rules.specs.PlanarCode.{plain}
use Rattle.planar_order.specs.Model.{Over, Stands, none, more}
use Rattle.planar_order.proofs.Model.{over_whole}
use Rattle.planar_drawn.specs.Runs.{left_at, right_at, old_length, run_length, run_at, new_at}
use Rattle.planar_drawn.proofs.Runs.{over_pair}
use Rattle.planar_drawn.specs.Growing.{plains, points-plain, second, third}

-- the run under a new point, in a drawing with that boundary
is_run : {k : ℕ} {old run new : List ℕ} (o : Over k old run new) (d : Drawing) → d.boundary ≡ old → IsRun d (plains run) (left_at o) (right_at o)
is_run {run = run} o d e =
    record {
      lr = omega arith;
      rm = omega (arith, ap length e, old_length o);
      size = omega (arith, run_length o, length-map run plain);
      point = λ i b.
          ap (λ (l : List ℕ). get_or l i 0) (points-plain run) ∙ run_at o i (omega (arith, run_length o)) ∙ ap (λ (l : List ℕ). get_or l (left_at o + i) 0) (sym e);
    }

-- where no point comes any more, the boundary stays
stays : {k : ℕ} {b b'' : List ℕ} {es : List (List ℕ)} → Stands k b es b'' → length es ≡ 0 → b ≡ b''
stays none z = refl
stays (more o s) z = absurd (omega arith)

module _ (τ : Style) (n : ℕ) (low : 3 ≤ n) (high : n ≤ 1024) where
  -- a drawing with this boundary, built of these entries of points 4, 5, ..
  pub record Grown (ess : List (List ℕ)) (b : List ℕ) : Type 0 where
    pub drawing : Drawing
    pub built : Built τ n 1 second third (map plains ess) drawing
    pub boundary : drawing.boundary ≡ b

  -- it has three points more than it has entries
  grown_k : {ess : List (List ℕ)} {b : List ℕ} (g : Grown ess b) → (g.drawing.k ≡ 3 + length ess) × (g.drawing.n ≡ n)
  grown_k {ess} g = let t = listed g.built in (omega (arith, t.is_k, length-map ess plains), t.is_n)

  -- one point more: there is room, and point n leaves three on the boundary
  one_more : {ess : List (List ℕ)} {b b' e : List ℕ} {k : ℕ} (g : Grown ess b) → Over (suc k) b e b' → k ≡ 3 + length ess → k < n → (suc k ≡ n → length b' ≡ 3) → Grown (snoc ess e) b'
  one_more {ess} {b} {b'} {e} {k} g o ke room last =
      let d = g.drawing in
      let c = grown_k g in
      let q = is_run o d g.boundary in
      let dk : d.k ≡ k = omega (arith, c.0) in
      let whole : suc d.k ≡ d.n → length (plains e) ≡ m d =
      λ f. length-map e plain ∙ ap length (over_whole o (last (omega (arith, c.1)))) ∙ ap length (sym g.boundary)
      in
      let h = run_taken d (plains e) (left_at o) (right_at o) (standing g.built low high).sound q (omega (arith, c.1)) whole in
      record {
        drawing = next d (plains e) (left_at o) (right_at o);
        built = subst (λ (l : List (List Entry)). Built τ n 1 second third l (next d (plains e) (left_at o) (right_at o))) (sym (map_append plains ess (e ∷ []))) (added (plains e) g.built h);
        boundary =
            boundary_next d (plains e) (left_at o) (right_at o) ∙
            ap (λ (l : List ℕ). take (suc (left_at o)) l ++ suc d.k ∷ drop (right_at o) l) g.boundary ∙
            ap (λ (i : ℕ). take (suc (left_at o)) b ++ suc i ∷ drop (right_at o) b) dk ∙
            sym (new_at o);
      }

  -- all points up to n
  grows : {k : ℕ} {b b'' : List ℕ} {es : List (List ℕ)} → Stands k b es b'' → (ess : List (List ℕ)) → Grown ess b → k ≡ 3 + length ess → k + length es ≡ n → length b'' ≡ 3 → Grown (ess ++ es) b''
  grows {b = b} none ess g ke count three = subst (λ (l : List (List ℕ)). Grown l b) (sym (append-nil ess)) g
  grows {b'' = b''} (more {e = e} {es = es} o s) ess g ke count three =
      let g' = one_more g o ke (omega arith) (λ f. ap length (stays s (omega arith)) ∙ three) in
      subst (λ (l : List (List ℕ)). Grown l b'') (append_assoc ess (e ∷ []) es) (grows s (snoc ess e) g' (omega (arith, length-snoc ess e)) (omega arith) three)

  -- from points 1 and 2 on: point 3 has both, and the others are drawn
  pub record Drawn (es : List (List ℕ)) : Type 0 where
    pub rest : List (List ℕ)
    pub are : es ≡ (1 ∷ 2 ∷ []) ∷ rest
    pub drawing : Drawing
    pub built : Built τ n 1 second third (map plains rest) drawing

  pub drawn : {es : List (List ℕ)} {b'' : List ℕ} → Stands 2 (1 ∷ 2 ∷ []) es b'' → 2 + length es ≡ n → length b'' ≡ 3 → Drawn es
  drawn none count three = absurd (omega arith)
  drawn {b'' = b''} (more {b' = b'} {e = e} {es = es} o s) count three =
      let p = over_pair o in
      let g : Grown [] b' = record { drawing = _; built = begun refl refl; boundary = sym p.1 } in
      let a = grows s [] g refl (omega arith) three in
      record { rest = es; are = ap (λ (e : List ℕ). e ∷ es) p.0; drawing = a.drawing; built = a.built }
