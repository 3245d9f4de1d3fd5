-- The records of the points behind point 3, on the stored drawing. A contract has the drawing as it is stored and not the one of the rules, so each claim is of every drawing that it stores (there is one at most: `stored_one` of `store_settling`).
-- Here `Plan` is the drawing as the rules see it, `Drawing` the program's.
use Rattle.std.specs.Prelude.{ℕ, suc, ◌≤◌, ◌≡◌, refl, List, length, Ok, Err}
use Rattle.std.proofs.Common.{ap, subst, arith}
use Rattle.rules.specs.declared.Refusal.{Refusal}
use Rattle.rules.specs.Refusals.{Answer, Result, good, refused, refusal_at}
use Rattle.rules.specs.Points.{Drawing as Plan}
use Rattle.rules.specs.OrderFile.{read_rest}
use Rattle.store_tables.specs.declared.Drawing.{Drawing}
use Rattle.store_tables.specs.Tables.{zeros}
use Rattle.store_laws.specs.Stored.{Is}
use Rattle.read_records.specs.Cursors.{cursor}

-- a point was added to the plan p: d stores the plan with it, and the records behind `next` are left
pub record Went (f : List ℕ) (at : ℕ) (p : Plan) (d : Drawing) (next : ℕ) : Type 0 where
  pub new : Plan
  pub is : Is new d
  pub rest : (k : ℕ) → read_rest (suc k) p (cursor f at) ≡ read_rest k new (cursor f next)

-- a point's record, on a drawing d that becomes d', with the offset behind it
abbrev pub PointRead : List ℕ → ℕ → Drawing → Drawing → Answer ℕ → Type 0
PointRead f at d d' (Ok next) = (next ≤ length f) × ((p : Plan) → Is p d → Went f at p d' next)
PointRead f at d d' (Err e) = (p : Plan) → Is p d → (k : ℕ) → read_rest (suc k) p (cursor f at) ≡ refused e.refusal e.place

-- ---- an answer with the drawing

-- the rules give a plan, and d stores it
pub record Drawn (o : Result Plan) (d : Drawing) : Type 0 where
  pub plan : Plan
  pub given : o ≡ good plan
  pub is : Is plan d

abbrev pub Gives : Result Plan → Drawing → Answer (Unit {0}) → Type 0
Gives o d (Ok t) = Drawn o d
Gives o d (Err e) = o ≡ refused e.refusal e.place

-- what reading gave: the plan, stored, or the refusal; after that d is anything
pub record Gave (o : Result Plan) (d : Drawing) (r : Answer (Unit {0})) : Type 0 where
  pub gives : Gives o d r

-- the same, by what the rules give
pub gave-good : {o : Result Plan} {d : Drawing} {r : Answer (Unit {0})} → Gave o d r → (p : Plan) → o ≡ good p → (r ≡ Ok tt) × Is p d
gave-good {d = d} {r = Ok t} g p h = let s : g.gives.plan ≡ p = cc (g.gives.given, h) in (refl, subst (λ (x : Plan). Is x d) s g.gives.is)
gave-good {r = Err e} g p h = let z : ◌≡◌ {A = ℕ} 0 1 = cc (g.gives, h) in absurd (omega arith)

pub gave-refused : {o : Result Plan} {d : Drawing} {r : Answer (Unit {0})} → Gave o d r → (x : Refusal) (p : ℕ) → o ≡ refused x p → r ≡ Err (refusal_at x p)
gave-refused {r = Ok t} g x p h = let z : ◌≡◌ {A = ℕ} 0 1 = cc (g.gives.given, h) in absurd (omega arith)
gave-refused {r = Err e} g x p h =
    let a : e.refusal ≡ x = cc (g.gives, h) in
    let b : e.place ≡ p = cc (g.gives, h) in
    ap Err (λ i. record { refusal = a i; place = b i })

-- k points more and the end, from the drawing d on
abbrev pub RestRead : List ℕ → ℕ → ℕ → Drawing → Drawing → Answer (Unit {0}) → Type 0
RestRead f at k d d' r = (p : Plan) → Is p d → Gave (read_rest k p (cursor f at)) d' r

-- an empty table, behind the header of a file with n points
pub record Headed (n : ℕ) (d : Drawing) : Type 0 where
  pub none : d.table ≡ zeros
  pub low : 3 ≤ n
  pub high : n ≤ 1024
