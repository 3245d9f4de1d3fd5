-- Shelling from the top never sticks: as long as more than two points are left, one can be taken off, and then the rest is as before.
use Rattle.std.specs.Prelude.{ℕ, zero, suc, ◌+◌, ◌-◌, ◌<◌, ◌≤◌, ◌≡◌, ◌≢◌, true, false, not}
use Rattle.std.proofs.Math.Path.{refl}
use Rattle.std.proofs.Common.{ap, ◌∙◌, lt-ltb, le-ltb, arith}
use Rattle.std.proofs.Math.Decide.{ℕ_discrete}
use Rattle.planar_sphere.specs.Count.{count, count-put, count_none, count_all, count_not, inject}
use Rattle.planar_sphere.specs.Map.{Map, Net, φ, turn}
use Rattle.planar_sphere.specs.Half.{halves}
use Rattle.planar_sphere.specs.Shell.{Shell, Rim}
use Rattle.planar_sphere.specs.Cross.{Chordless}
use Rattle.planar_sphere.proofs.Cross.{removable}
use Rattle.planar_sphere.specs.Arc.{arc, first_hit}
use Rattle.planar_sphere.specs.Take.{Taken, taken, zero', last'}
use Rattle.planar_sphere.specs.Open.{Opened, hub, opened, zero-org, closing}
use Rattle.planar_sphere.specs.End.{left_two}
use Rattle.planar_sphere.specs.Order.{take, start, Shelled, first, next}

pub take_is : (g : Map) (h : Shell) (s t p : ℕ) → s + 1 ≡ t → 2 ≤ h.m → Taken g h (take g h s t p) s t p
unfolding take
take_is g h s t p st m2 =
    record {
      m' = omega arith;
      gone' = λ x. refl;
      lo = λ x l. rw (lt-ltb x s l);
      mid = λ x j jp q.
          let e : s + p - (x + 1) ≡ j = omega arith in
          rw (le-ltb x s (omega arith), lt-ltb x (s + p) (omega arith)) (ap (λ k. φ g (g.σ (turn g k (h.b t)))) e);
      hi = λ x y ty q.
          let e : x + 2 - p ≡ y = omega arith in
          rw (le-ltb x s (omega arith), le-ltb x (s + p) (omega arith)) (ap h.b e);
    }

pub start_is : {g : Map} (n : Net g) (e : ℕ) → e < g.D → (m : ℕ) × Opened g (start g e m) e
unfolding start turn
start_is {g} n e el =
    let z = hub g e in
    let zl = n.α_in _ (n.σ_in e el) in
    let q = n.round (g.σ z) z (n.σ_in z zl) zl (n.org_σ z zl) in
    let t = first_hit g q.0 (g.σ z) z q.1 in (
      suc t.0,
      record {
        gone' = λ x. refl;
        once = t.2;
        new = λ k pos l. go t.0 t.1 k pos l;
        some = omega arith;
        lines = λ x j q. let i : suc t.0 - (x + 1) ≡ j = omega arith in ap (λ k. φ g (g.σ (turn g k z))) i;
      },
    )
  where
    go : (p : ℕ) → ((k : ℕ) → k < p → turn g k (g.σ (hub g e)) ≢ hub g e) → (k : ℕ) → 0 < k → k < suc p → turn g k (hub g e) ≢ hub g e
    go p f zero pos l = absurd (omega arith)
    go p f (suc k) pos l = f k (omega arith)

module _ {g : Map} (n : Net g) (e : ℕ) (el : e < g.D) where
  pub sound : {h : Shell} → Shelled g e h → Rim g h
  sound (first v) = opened n e el v
  sound (next s t p c a less v) = taken n (sound c) s t p a less v

  -- points 1 and 2 stay the ends of the boundary
  pub point_1 : {h : Shell} → Shelled g e h → g.org (h.b 0) ≡ g.org e
  point_1 (first v) = zero-org n e el v
  point_1 (next s t p c a less v) = zero' n (sound c) s t p a less v ∙ point_1 c

  pub line_12 : {h : Shell} → Shelled g e h → (x : ℕ) → x + 1 ≡ h.m → h.b x ≡ g.α e
  line_12 (first v) x q = closing n e el v x q
  line_12 (next {h} s t p c a less v) x q =
      let y : ℕ = h.m - 1 in
      let yq : y + 1 ≡ h.m = omega (arith, a.next) in
      last' n (sound c) s t p a less v x y q yq ∙ line_12 c y yq

  -- THE THEOREM: while more than two points are left, a boundary point other than the first and the last has no chord
  pub never_stuck : {h : Shell} → Shelled g e h → count h.gone g.n + 3 ≤ g.n → (t : ℕ) × (0 < t) × (t + 1 < h.m) × Chordless g h t
  never_stuck {h} c more =
      let w = sound c in
      elim (ℕ_discrete h.m 2) [
        | yes q ↦ absurd (omega (arith, left_two n w q))
        | no ne ↦ removable n (halves n) w (omega (arith, ne, w.two))
      ]

  -- and any such point can be taken off, which leaves one point less
  pub step : {h : Shell} → Shelled g e h → (t : ℕ) → 0 < t → t + 1 < h.m → Chordless g h t → (h' : Shell) × Shelled g e h' × (count h'.gone g.n ≡ count h.gone g.n + 1)
  unfolding take
  step {h} c t pos l less =
      let w = sound c in
      let s : ℕ = t - 1 in
      let st : s + 1 ≡ t = omega arith in
      let a = arc n w s t st l in (
        take g h s t a.0,
        next s t a.0 c a.1 less (take_is g h s t a.0 st w.two),
        count-put (g.org (h.b t)) h.gone g.n (n.org_in _ (w.b_in t (omega arith))) (w.there t (omega arith)),
      )

  -- so there is a whole order
  pub order : (k : ℕ) → k + 3 ≤ g.n → (h : Shell) × Shelled g e h × (count h.gone g.n ≡ k + 1)
  unfolding start
  order zero l =
      let v = start_is n e el in (
        start g e v.0,
        first v.1,
        omega (arith, count-put (g.org (hub g e)) (λ y. false) g.n (n.org_in _ (n.α_in _ (n.σ_in e el))) refl, count_none (λ y. false) g.n (λ x _. refl)),
      )
  order (suc k) l =
      let c = order k (omega arith) in
      let t = never_stuck c.1 (omega (arith, c.2)) in
      let d = step c.1 t.0 t.1 t.2 t.3 in
      (d.0, d.1, omega (arith, c.2, d.2))

  -- the boundary is no longer than the points left
  pub size : {h : Shell} → Shelled g e h → h.m + count h.gone g.n ≤ g.n
  size {h} c =
      let w = sound c in
      omega (
        arith,
        count_not h.gone g.n,
        count_all (λ x. true) h.m (λ x _. refl),
        inject (λ x. true) (λ v. not (h.gone v)) (λ x. g.org (h.b x)) h.m g.n (λ x l _. n.org_in _ (w.b_in x l))
            (λ x l _. rw (w.there x l)) (λ x y l l' _ _. w.apart x y l l'),
      )

  -- the last point taken off stands over the line 1-2
  pub three_left : {h : Shell} → Shelled g e h → count h.gone g.n + 3 ≡ g.n → h.m ≡ 3
  three_left {h} c q = let t = never_stuck c (omega arith) in omega (arith, size c, t.1, t.2)
