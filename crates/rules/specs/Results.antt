-- Laws of results: what an answer, a value and a refusal tell of the parts, and what becomes of the parts behind them.
use Rattle.std.specs.Prelude.{ℕ, ◌≡◌, refl, Bool, true, false, Result as Outcome, Ok, Err, IsErrAnd}
use Rattle.std.proofs.Common.{ap, ◌∙◌, arith}
use Rattle.rules.specs.declared.Refusal.{Refusal}
use Rattle.rules.specs.declared.Refused.{Refused}
use Rattle.rules.specs.Refusals.{Result, good, refused, answer, ◌>>=◌, ◌>>◌, refuse_if, placed}

-- a refusal is no value
pub never-good : {A : Type 0} {r : Refusal} {p : ℕ} {e : A} → ◌≡◌ {A = Result A} (refused r p) (good e) → ⊥
never-good h = let z : ◌≡◌ {A = ℕ} 0 1 = cc in omega arith

-- the value of a good result
pub same_value : {A : Type 0} (a b : A) → good a ≡ good b → a ≡ b
same_value a b h = cc

-- ---- an answer

-- an accepted answer has a value
pub record Value {A : Type 0} (o : Result A) : Type 0 where
  pub value : A
  pub is : o ≡ good value

pub accepted : {A : Type 0} (o : Result A) → answer o ≡ Ok tt → Value o
accepted (good a) h = record { value = a; is = refl }
accepted (refused r p) h = absurd (let z : ◌≡◌ {A = ℕ} 0 1 = cc in omega arith)

-- tests that were accepted passed
pub all_passed : (q : Result (Unit {0})) → answer q ≡ Ok tt → q ≡ good tt
all_passed q h = (accepted q h).is

-- a refused one is that refusal
pub refusing : {A : Type 0} (o : Result A) (e : Refused) → answer o ≡ Err e → o ≡ refused e.refusal e.place
refusing (good a) e h = absurd (let z : ◌≡◌ {A = ℕ} 0 1 = cc in omega arith)
refusing (refused s q) e h = cc

-- a refusal is the answer, whatever comes behind it
pub stops : {A B : Type 0} (q : Result A) (z : Result B) (e : Refused) → answer q ≡ Err e → answer q ≡ answer (q >> z)
stops q z e h = rw (refusing q e h)

-- what follows is the answer, where nothing is refused before it
pub goes_on : {A B : Type 0} (q : Result A) (z : Result B) → answer q ≡ Ok tt → answer z ≡ answer (q >> z)
goes_on q z h = rw (accepted q h).is

-- a value behind tests leaves their answer
pub answer-then : {A B : Type 0} (t : Result A) (x : B) → answer (t >> good x) ≡ answer t
answer-then (good u) x = refl
answer-then (refused r p) x = refl

-- a `?` hands on the error that it found
pub handed_on : {T E : Type 0} (r : Outcome T E) (e : E) → IsErrAnd r (λ y. y ≡ e) → r ≡ Err e
handed_on (Ok x) e h = absurd h
handed_on (Err y) e h = ap Err h

-- ---- what a value tells of the parts that gave it

-- the first part gave a value, and what follows it gave e
pub record Bound {A B : Type 0} (a : Result A) (f : A → Result B) (e : B) : Type 0 where
  pub value : A
  pub first : a ≡ good value
  pub last : f value ≡ good e

-- two parts, where the second uses the value of the first
pub bound : {A B : Type 0} (a : Result A) (f : A → Result B) (e : B) → (a >>= f) ≡ good e → Bound a f e
bound (good a) f e h = record { value = a; first = refl; last = h }
bound (refused r p) f e h = absurd (never-good h)

-- the first part gave a value that nothing uses, and what follows it gave e
pub record Followed {A B : Type 0} (a : Result A) (b : Result B) (e : B) : Type 0 where
  pub value : A
  pub first : a ≡ good value
  pub last : b ≡ good e

-- two parts, where it doesn't
pub followed : {A B : Type 0} (a : Result A) (b : Result B) (e : B) → (a >> b) ≡ good e → Followed a b e
followed (good a) b e h = record { value = a; first = refl; last = h }
followed (refused r p) b e h = absurd (never-good h)

-- two parts that are tests
pub both_pass : (a b : Result (Unit {0})) → (a >> b) ≡ good tt → (a ≡ good tt) × (b ≡ good tt)
both_pass a b h = let t = followed a b tt h in (t.first, t.last)

-- a test that didn't refuse was false
pub test_false : (t : Bool) (r : Refusal) (p : ℕ) {u : Unit {0}} → refuse_if t r p ≡ good u → t ≡ false
test_false true r p h = absurd (never-good h)
test_false false r p h = refl

-- such a test, and what follows it gave e
pub record Tested {B : Type 0} (t : Bool) (b : Result B) (e : B) : Type 0 where
  pub passed : t ≡ false
  pub last : b ≡ good e

pub tested : {B : Type 0} (t : Bool) (r : Refusal) (p : ℕ) (b : Result B) (e : B) → (refuse_if t r p >> b) ≡ good e → Tested t b e
tested t r p b e h = let f = followed (refuse_if t r p) b e h in record { passed = test_false t r p f.first; last = f.last }

-- where a refusal stands doesn't matter to a value
pub placed-good : {A : Type 0} (p : ℕ) (a : Result A) (e : A) → placed p a ≡ good e → a ≡ good e
placed-good p (good a) e h = h
placed-good p (refused r q) e h = absurd (never-good h)

-- ---- read forwards

-- the value goes on
pub binds : {A B : Type 0} (a : Result A) (f : A → Result B) (x : A) → a ≡ good x → (a >>= f) ≡ f x
binds a f x h = rw h

-- on to what the rest gives
pub binds_to : {A B : Type 0} (a : Result A) (f : A → Result B) (x : A) (e : Result B) → a ≡ good x → f x ≡ e → (a >>= f) ≡ e
binds_to a f x e p q = rw p q

-- so do tests that passed
pub then_to : {A B : Type 0} (a : Result A) (b e : Result B) {x : A} → a ≡ good x → b ≡ e → (a >> b) ≡ e
then_to a b e p q = rw p q

-- a false test changes nothing
pub goes : {B : Type 0} (t : Bool) (r : Refusal) (p : ℕ) (b : Result B) → t ≡ false → (refuse_if t r p >> b) ≡ b
goes t r p b h = rw h

-- and goes on to what the rest gives
pub goes_to : {B : Type 0} (t : Bool) (r : Refusal) (p : ℕ) (b e : Result B) → t ≡ false → b ≡ e → (refuse_if t r p >> b) ≡ e
goes_to t r p b e h q = rw h q

-- two sequences are equal where their first parts are, and their second parts once the first passed
pub then_same : {B : Type 0} (x x' : Result (Unit {0})) (y y' : Result B) → x ≡ x' → (x ≡ good tt → y ≡ y') → (x >> y) ≡ (x' >> y')
then_same x x' y y' e f = go x refl ∙ ap (λ z. z >> y') e
  where
    go : (z : Result (Unit {0})) → x ≡ z → (z >> y) ≡ (z >> y')
    go (good u) h = f h
    go (refused r p) h = refl

-- ---- several parts in a row, grouped either way

pub then-then : {A B C : Type 0} (a : Result A) (b : Result B) (c : Result C) → (a >> (b >> c)) ≡ ((a >> b) >> c)
then-then (good x) b c = refl
then-then (refused r p) b c = refl

-- nothing behind some tests
pub then-good : (a : Result (Unit {0})) → (a >> good tt) ≡ a
then-good (good u) = refl
then-good (refused r p) = refl

-- a value behind some tests, and what is made of it
pub then-value : {A B : Type 0} (t : Result (Unit {0})) (x : A) (k : A → Result B) (z : Result B) → k x ≡ z → ((t >> good x) >>= k) ≡ (t >> z)
then-value (good u) x k z h = h
then-value (refused r p) x k z h = refl
