-- The numbers of a point after an accepted call: old heights and h stay, and of dl and dr only those of the run's ends grow, where lines take ports.
use Rattle.std.specs.Prelude.{ℕ, zero, suc, ◌/◌, ◌<◌, ◌≡◌, refl, ◌≢◌, List, [], ◌∷◌, length}
use Rattle.std.proofs.Math.Path.{ap, sym}
use Rattle.std.proofs.Common.{◌∙◌, arith}
use Rattle.std.proofs.Math.ListN.{get_or, get_or-append}
use Rattle.std.proofs.lemmas.List.{length-map, get_or_at}
use Rattle.net.specs.Side.{Side, rt, lf, at, at_in}
use Rattle.rules.specs.declared.Entry.{Entry}
use Rattle.rules.specs.Basics.{alter, snoc}
use Rattle.rules.specs.Styles.{taken}
use Rattle.rules.specs.Points.{Drawing, w, m}
use Rattle.rules.specs.Adding.{points_of, row_height}
use Rattle.promise.specs.Nets.{net_of, ports_of}
use Rattle.promise.specs.Sound.{Sound, Sized}
use Rattle.promise.specs.Next.{IsRun, next}
use Rattle.promise.specs.Columns.{w_suc, w_placed}

-- ---- plain lists

-- A list keeps its length as one element changes.
pub length-alter : (f : ℕ → ℕ) (a : List ℕ) (p : ℕ) → length (alter f a p) ≡ length a
length-alter f [] p = refl
length-alter f (x ∷ a) zero = refl
length-alter f (x ∷ a) (suc zero) = refl
length-alter f (x ∷ a) (suc (suc i)) = ap suc (length-alter f a (suc i))

-- The element that changes.
alter_same : (f : ℕ → ℕ) (a : List ℕ) (p : ℕ) → p < length a → get_or (alter f a (suc p)) p 0 ≡ f (get_or a p 0)
alter_same f [] p h = absurd (omega arith)
alter_same f (x ∷ a) zero h = refl
alter_same f (x ∷ a) (suc p) h = alter_same f a p (omega arith)

-- Every other element stays.
alter_other : (f : ℕ → ℕ) (a : List ℕ) (p i : ℕ) → i ≢ p → get_or (alter f a (suc p)) i 0 ≡ get_or a i 0
alter_other f [] p i n = refl
alter_other f (x ∷ a) zero zero n = absurd (n refl)
alter_other f (x ∷ a) zero (suc i) n = refl
alter_other f (x ∷ a) (suc p) zero n = refl
alter_other f (x ∷ a) (suc p) (suc i) n = alter_other f a p i (λ e. n (ap suc e))

-- One more element at the end leaves the others.
pub get_d_snoc : (a : List ℕ) (x p n : ℕ) → length a ≡ n → p < n → get_or (snoc a x) p 0 ≡ get_or a p 0
get_d_snoc a x p n e h = get_or-append a (x ∷ []) 0 p (omega arith)

-- It stands behind them.
pub snoc_new : (a : List ℕ) (x n : ℕ) → length a ≡ n → get_or (snoc a x) n 0 ≡ x
snoc_new a x n e = get_or_at a x [] 0 n e

-- ---- the ports of a side

-- the list of all ports on a side: dr on the right, dl on the left
abbrev pub port_list : Drawing → Side → List ℕ
port_list d rt = d.drs
port_list d lf = d.dls

-- Ports are read from that list.
ports_of_lem : (d : Drawing) (t : Side) (p : ℕ) → ports_of d t p ≡ get_or (port_list d t) p 0
ports_of_lem d rt p = refl
ports_of_lem d lf p = refl

-- It has one number for each point.
pub ports-sized : (d : Drawing) → Sized d → (t : Side) → length (port_list d t) ≡ d.k
ports-sized d z rt = z.drs
ports-sized d z lf = z.dls

-- In the new drawing the run's end on that side grew, and the new point has none.
pub ports_next : (d : Drawing) (es : List Entry) (l r : ℕ) (t : Side) → port_list (next d es l r) t ≡ snoc (alter (taken d.style) (port_list d t) (w d (at t l r))) 0
unfolding next
ports_next d es l r rt = refl
ports_next d es l r lf = refl

-- The new point's h stands behind the old ones.
pub hs_next : (d : Drawing) (es : List Entry) (l r : ℕ) → (next d es l r).hs ≡ snoc d.hs (row_height (points_of es))
unfolding next
hs_next d es l r = refl

-- The new point's height stands behind the old ones.
pub ys_next : (d : Drawing) (es : List Entry) (l r : ℕ) → (y : ℕ) × ((next d es l r).ys ≡ snoc d.ys y)
unfolding next
ys_next d es l r = (_, refl)

-- ---- the fields of `Adds` and `Bends`

module _ (d : Drawing) (es : List Entry) (l r : ℕ) (s : Sound d) (q : IsRun d es l r) where
  -- The depth of a middle row never changes.
  pub h' : (p : ℕ) → p < (net_of d).k → (net_of (next d es l r)).h p ≡ (net_of d).h p
  h' p h = ap (λ (a : List ℕ). get_or a p 0) (hs_next d es l r) ∙ get_d_snoc d.hs (row_height (points_of es)) p d.k s.sized.hs h

  -- The new point's row is half as deep as the run is long.
  pub h_new : (net_of (next d es l r)).h (net_of d).k ≡ length es / 2
  h_new =
      ap (λ (a : List ℕ). get_or a d.k 0) (hs_next d es l r) ∙
      snoc_new d.hs (row_height (points_of es)) d.k s.sized.hs ∙
      ap (λ (n : ℕ). n / 2) (length-map es (λ e. e.point))

  -- An end of the run stands on the boundary.
  tip_on : (t : Side) → at t l r < m d
  tip_on t = omega (arith, at_in t q.lr, q.rm)

  -- the ports of a side, where the run's end grew
  grown : Side → List ℕ
  grown t = alter (taken d.style) (port_list d t) (suc ((net_of d).w (at t l r)))

  -- It has one number for each old point.
  length-grown : (t : Side) → length (grown t) ≡ d.k
  unfolding grown
  length-grown t = length-alter (taken d.style) (port_list d t) (suc ((net_of d).w (at t l r))) ∙ ports-sized d s.sized t

  -- Ports in the new drawing are read from it.
  ports-grown : (t : Side) (p : ℕ) → (net_of (next d es l r)).d t p ≡ get_or (snoc (grown t) 0) p 0
  unfolding grown
  ports-grown t p =
      ports_of_lem (next d es l r) t p ∙
      ap (λ (a : List ℕ). get_or a p 0) (ports_next d es l r t) ∙
      ap (λ (i : ℕ). get_or (snoc (alter (taken d.style) (port_list d t) i) 0) p 0) (sym (w_suc d s.rooted (at t l r) (tip_on t)))

  -- The run's ends get a port each, where lines take ports.
  pub d_tip : (t : Side) → (net_of (next d es l r)).d t ((net_of d).w (at t l r)) ≡ taken d.style ((net_of d).d t ((net_of d).w (at t l r)))
  unfolding grown
  d_tip t =
      let p = (net_of d).w (at t l r) in
      let h : p < d.k = w_placed d s.rooted (at t l r) (tip_on t) in
      ports-grown t p ∙
      get_d_snoc (grown t) 0 p d.k (length-grown t) h ∙
      alter_same (taken d.style) (port_list d t) p (omega (arith, ports-sized d s.sized t)) ∙
      ap (taken d.style) (sym (ports_of_lem d t p))

  -- Every other point keeps its ports.
  pub d_old : (t : Side) (p : ℕ) → p < (net_of d).k → p ≢ (net_of d).w (at t l r) → (net_of (next d es l r)).d t p ≡ (net_of d).d t p
  unfolding grown
  d_old t p h n =
      ports-grown t p ∙
      get_d_snoc (grown t) 0 p d.k (length-grown t) h ∙
      alter_other (taken d.style) (port_list d t) ((net_of d).w (at t l r)) p n ∙
      sym (ports_of_lem d t p)

  -- The new point has none.
  pub d_new : (t : Side) → (net_of (next d es l r)).d t (net_of d).k ≡ 0
  d_new t = ports-grown t d.k ∙ snoc_new (grown t) 0 d.k (length-grown t)
