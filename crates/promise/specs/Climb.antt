-- What covering does to climbing: whoever climbed to a covered point now climbs to the new one. Points are suc p.
use Rattle.std.specs.Prelude.{ℕ, zero, suc, ◌≡◌, refl, Bool, true, false, List, get_or, if◌then◌else◌}
use Rattle.std.proofs.Common.{sym, ◌∙◌, arith}
use Rattle.rules.specs.Moving.{climb}

-- o' are the owners o after `suc new` took the points of a test, which nobody owned
pub record Took (o o' : List ℕ) (test : ℕ → Bool) (new : ℕ) : Type 0 where
  pub taken : (p : ℕ) → test (suc p) ≡ true → get_or o' p 0 ≡ suc new
  pub other : (p : ℕ) → test (suc p) ≡ false → get_or o' p 0 ≡ get_or o p 0
  pub free : (p : ℕ) → test (suc p) ≡ true → get_or o p 0 ≡ 0
  pub top : get_or o' new 0 ≡ 0

-- A point that nobody owns stays, whatever the steps.
pub climb-root : (o : List ℕ) (f p : ℕ) → get_or o p 0 ≡ 0 → climb f o (suc p) ≡ suc p
climb-root o zero p e = refl
climb-root o (suc f) p e = rw (e, climb)

-- A point that another one owns climbs from there on.
pub climb-owned : (o : List ℕ) (f p q : ℕ) → get_or o p 0 ≡ suc q → climb (suc f) o (suc p) ≡ climb f o (suc q)
climb-owned o f p q e = rw (e, climb)

module _ (o o' : List ℕ) (test : ℕ → Bool) (new : ℕ) (t : Took o o' test new) where
  -- A point that nobody owned climbs to the new point where that took it, and stays where it did not.
  root-climb : (f p : ℕ) → get_or o p 0 ≡ 0 → climb (suc f) o' (suc p) ≡ (if test (suc p) then suc new else suc p)
  root-climb f p e = go (test (suc p)) refl
    where
      go : (b : Bool) → test (suc p) ≡ b → climb (suc f) o' (suc p) ≡ (if b then suc new else suc p)
      go true h = climb-owned o' f p new (t.taken p h) ∙ climb-root o' f new t.top
      go false h = climb-root o' (suc f) p (t.other p h ∙ e)

  -- z, where p climbs to in f steps, is nobody's
  abbrev Took-at : ℕ → ℕ → Type 0
  Took-at f p = (z : ℕ) → climb f o (suc p) ≡ suc z → get_or o z 0 ≡ 0 → climb (suc f) o' (suc p) ≡ (if test (suc z) then suc new else suc z)

  -- One owner more.
  climb-step : (f p : ℕ) → ((q : ℕ) → Took-at f q) → Took-at (suc f) p
  climb-step f p ih z up root = go (get_or o p 0) refl (test (suc p)) refl
    where
      go : (v : ℕ) → get_or o p 0 ≡ v → (b : Bool) → test (suc p) ≡ b → climb (suc (suc f)) o' (suc p) ≡ (if test (suc z) then suc new else suc z)
      go zero e b h =
          let same : p ≡ z = omega (arith, climb-root o (suc f) p e, up) in
          rw (← same) (root-climb (suc f) p e)
      go (suc q) e true h = absurd (omega (arith, t.free p h, e))
      go (suc q) e false h =
          climb-owned o' (suc f) p q (t.other p h ∙ e) ∙ ih q z (sym (climb-owned o f p q e) ∙ up) root

  -- In one step more, a point climbs to the new point where its old goal was taken, and to its old goal where it was not.
  pub climb-took : (f p : ℕ) → Took-at f p
  climb-took zero p z up root = let same : p ≡ z = omega arith in rw (← same) (root-climb zero p (rw same root))
  climb-took (suc f) p z up root = climb-step f p (λ q. climb-took f q) z up root
