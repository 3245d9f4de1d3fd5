-- The comparison of a file with what it should be, part by part.
use Rattle.std.specs.Prelude.{ℕ, suc, ◌+◌, ◌-◌, ◌<◌, ◌≤◌, ◌≡◌, refl, Bool, true, false, not, List, [], ◌∷◌, ◌++◌, length, take, drop, min, eqb, ltb, Ok, Err}
use Rattle.std.proofs.Common.{ap, sym, ◌∙◌, add-zero, arith, drop_of_length-le, drop-cons, ltb-true, ltb-false}
use Rattle.std.proofs.lemmas.List.{length-drop, length-take, length-take-le, take_all, drop-drop, append_assoc, append-nil}
use Rattle.rules.specs.declared.Refusal.{Refusal}
use Rattle.rules.specs.declared.Refusal.TheVariants.{OtherDrawing}
use Rattle.rules.specs.declared.Refused.{Refused}
use Rattle.rules.specs.Refusals.{Result, good, refused, Answer, answer, answer_with, refusal_at, ◌>>◌, refuse_if}
use Rattle.rules.specs.Results.{never-good, then-then, all_passed, refusing}
use Rattle.rules.specs.DrawingFile.{compare_bytes}
use Rattle.read_comparing.specs.Comparing.{compared}

-- a result whose place is n further on
abbrev pub later : {A : Type 0} → ℕ → Result A → Result A
later n (good a) = good a
later n (refused r p) = refused r (n + p)

-- Bytes are compared in the same way wherever they stand.
pub compare_later : (n i : ℕ) (a b : List ℕ) → compare_bytes (n + i) a b ≡ later n (compare_bytes i a b)
compare_later n i [] [] = refl
compare_later n i [] (y ∷ b) = refl
compare_later n i (x ∷ a) [] = refl
compare_later n i (x ∷ a) (y ∷ b) = go (eqb x y) (compare_later n (suc i) a b)
  where
    go : (t : Bool) → compare_bytes (n + suc i) a b ≡ later n (compare_bytes (suc i) a b) →
        (refuse_if (not t) OtherDrawing (n + i) >> compare_bytes (suc (n + i)) a b) ≡ later n (refuse_if (not t) OtherDrawing i >> compare_bytes (suc i) a b)
    go true h = ap (λ (k : ℕ). compare_bytes k a b) (let e : suc (n + i) ≡ n + suc i = omega arith in e) ∙ h
    go false h = refl

-- A file is compared with one part first, and behind it with the rest.
pub compare_both : (i : ℕ) (f a b : List ℕ) → compare_bytes i f (a ++ b) ≡ (compare_bytes i (take (length a) f) a >> compare_bytes (i + length a) (drop (length a) f) b)
compare_both i f [] b = ap (λ (k : ℕ). compare_bytes k f b) (let e : i ≡ i + 0 = omega arith in e)
compare_both i [] (x ∷ a) b = refl
compare_both i (y ∷ f) (x ∷ a) b =
    let e : suc i + length a ≡ i + suc (length a) = omega arith in
    let rest = compare_both (suc i) f a b ∙ ap (λ (k : ℕ). compare_bytes (suc i) (take (length a) f) a >> compare_bytes k (drop (length a) f) b) e in
    ap (λ z. refuse_if (not (eqb y x)) OtherDrawing i >> z) rest ∙ then-then (refuse_if (not (eqb y x)) OtherDrawing i) _ _

-- the comparison of the bytes of a file from `at` on with the next part of what it should be; what comes next is compared behind them
abbrev pub part_compared : List ℕ → ℕ → List ℕ → Answer ℕ
part_compared f at part = answer_with (λ t. at + length part) (compare_bytes at (take (length part) (drop at f)) part)

-- what such an answer tells: the part's bytes are there,
value_of : (o : Result (Unit {0})) (v w : ℕ) → answer_with (λ t. v) o ≡ Ok w → (o ≡ good tt) × (w ≡ v)
value_of (good u) v w h = (refl, cc)
value_of (refused r p) v w h = absurd (let z : ◌≡◌ {A = ℕ} 0 1 = cc in omega arith)

-- or they differ
refusal_of : (o : Result (Unit {0})) (v : ℕ) (e : Refused) → answer_with (λ t. v) o ≡ Err e → o ≡ refused e.refusal e.place
refusal_of (good u) v e h = absurd (let z : ◌≡◌ {A = ℕ} 0 1 = cc in omega arith)
refusal_of (refused r p) v e h = cc

-- the bytes `done` of what a file should be stand there, up to `at`; the others are compared with those from `at` on
pub record Passed (f done : List ℕ) (at : ℕ) : Type 0 where
  pub within : at ≤ length f
  pub behind : (bs : List ℕ) → compare_bytes 0 f (done ++ bs) ≡ compare_bytes at (drop at f) bs

-- Before the first part,
pub passed_none : (f : List ℕ) → Passed f [] 0
passed_none f = record { within = omega arith; behind = λ bs. refl }

module _ {f done : List ℕ} {at : ℕ} (p : Passed f done at) (part : List ℕ) where
  part_behind : (bs : List ℕ) → compare_bytes 0 f (done ++ (part ++ bs)) ≡ (compare_bytes at (take (length part) (drop at f)) part >> compare_bytes (at + length part) (drop (at + length part) f) bs)
  part_behind bs =
      p.behind (part ++ bs) ∙ compare_both at (drop at f) part bs ∙
      ap (λ (l : List ℕ). compare_bytes at (take (length part) (drop at f)) part >> compare_bytes (at + length part) l bs) (drop-drop (length part) at f)

  -- behind a part whose bytes are there,
  pub passed_more : {to : ℕ} → part_compared f at part ≡ Ok to → Passed f (done ++ part) to
  passed_more {to} h =
      let v = value_of (compare_bytes at (take (length part) (drop at f)) part) (at + length part) to h in
      let same = compared at (take (length part) (drop at f)) part v.0 in
      record {
        within = omega (arith, v.1, ap length same, length-take (length part) (drop at f), length-drop at f, p.within);
        behind = λ bs. ap (compare_bytes 0 f) (append_assoc done part bs) ∙ part_behind bs ∙ rw (v.0, v.1);
      }

  -- at one that differs,
  pub passed_stopped : {e : Refused} → part_compared f at part ≡ Err e → (bs : List ℕ) → Err e ≡ answer (compare_bytes 0 f (done ++ (part ++ bs)))
  passed_stopped {e} h bs =
      let v = refusal_of (compare_bytes at (take (length part) (drop at f)) part) (at + length part) e h in
      rw (part_behind bs, v)

-- and behind all.
pub passed_all : {f done : List ℕ} {at : ℕ} → Passed f done at → answer (compare_bytes at (drop at f) []) ≡ answer (compare_bytes 0 f done)
passed_all {f} {done} p = ap answer (sym (p.behind []) ∙ ap (compare_bytes 0 f) (append-nil done))

-- ---- the last part

module _ (f part : List ℕ) (at : ℕ) where
  part_last : compare_bytes at (drop at f) part ≡ (compare_bytes at (take (length part) (drop at f)) part >> compare_bytes (at + length part) (drop (at + length part) f) [])
  part_last =
      ap (compare_bytes at (drop at f)) (sym (append-nil part)) ∙ compare_both at (drop at f) part [] ∙
      ap (λ (l : List ℕ). compare_bytes at (take (length part) (drop at f)) part >> compare_bytes (at + length part) l []) (drop-drop (length part) at f)

  -- Behind it nothing more should be,
  pub last_passed : {end : ℕ} → part_compared f at part ≡ Ok end → answer (compare_bytes end (drop end f) []) ≡ answer (compare_bytes at (drop at f) part)
  last_passed {end} h = let v = value_of (compare_bytes at (take (length part) (drop at f)) part) (at + length part) end h in rw (part_last, v.0, v.1)

  -- or it differs.
  pub last_stopped : {e : Refused} → part_compared f at part ≡ Err e → Err e ≡ answer (compare_bytes at (drop at f) part)
  last_stopped {e} h = let v = refusal_of (compare_bytes at (take (length part) (drop at f)) part) (at + length part) e h in rw (part_last, v)

-- ---- a part of a file

-- A place at which files differ isn't behind them.
pub differs_within : (i : ℕ) (a b : List ℕ) (r : Refusal) (p : ℕ) → compare_bytes i a b ≡ refused r p → p ≤ i + length a
differs_within i [] [] r p h = absurd (never-good (sym h))
differs_within i [] (y ∷ b) r p h = let e : p ≡ i = cc in omega (arith, e)
differs_within i (x ∷ a) [] r p h = let e : p ≡ i = cc in omega (arith, e)
differs_within i (x ∷ a) (y ∷ b) r p h = go (eqb x y) h (differs_within (suc i) a b r p)
  where
    go : (t : Bool) → (refuse_if (not t) OtherDrawing i >> compare_bytes (suc i) a b) ≡ refused r p → (compare_bytes (suc i) a b ≡ refused r p → p ≤ suc i + length a) → p ≤ i + suc (length a)
    go true q rest = omega (arith, rest q)
    go false q rest = let e : p ≡ i = cc in omega (arith, e)

module _ (f part : List ℕ) (at end : ℕ) (in_file : at ≤ length f) (end_is : end ≡ min (length f) (at + length part)) where
  -- The bytes up to `end` are as many as the part has, or all that are left.
  here_is : take (end - at) (drop at f) ≡ take (length part) (drop at f)
  here_is = go (ltb (length f) (at + length part)) refl
    where
      go : (t : Bool) → ltb (length f) (at + length part) ≡ t → take (end - at) (drop at f) ≡ take (length part) (drop at f)
      go true h =
          let l = ltb-true (length f) (at + length part) h in
          take_all (end - at) (drop at f) (omega (arith, length-drop at f, end_is)) ∙ sym (take_all (length part) (drop at f) (omega (arith, length-drop at f)))
      go false h =
          let l = ltb-false (length f) (at + length part) h in
          ap (λ (k : ℕ). take k (drop at f)) (let e : end - at ≡ length part = omega (arith, end_is) in e)

  -- They are compared as they stand in the file.
  here_compared : compare_bytes at (take (length part) (drop at f)) part ≡ later at (compare_bytes 0 (take (end - at) (drop at f)) part)
  here_compared = rw (← here_is) (ap (λ (k : ℕ). compare_bytes k (take (end - at) (drop at f)) part) (sym (add-zero at)) ∙ compare_later at 0 (take (end - at) (drop at f)) part)

  module _ {r : Answer (Unit {0})} (h : r ≡ answer (compare_bytes 0 (take (end - at) (drop at f)) part)) where
    -- Where they are the part's, the next part is compared behind them.
    pub part_passed : r ≡ Ok tt → Ok end ≡ part_compared f at part
    part_passed k =
        let good_is = all_passed (compare_bytes 0 (take (end - at) (drop at f)) part) (sym h ∙ k) in
        let same = compared 0 (take (end - at) (drop at f)) part good_is in
        let n : end ≡ at + length part = omega (arith, ap length same, length-take-le (end - at) (drop at f) (omega (arith, length-drop at f, end_is)), end_is, length-drop at f) in
        rw (here_compared, good_is, n)

    -- Where they differ from it, the place is the file's.
    pub part_stopped : (e : Refused) → r ≡ Err e → Err (refusal_at e.refusal (at + e.place)) ≡ part_compared f at part
    part_stopped e k = rw (here_compared, refusing (compare_bytes 0 (take (end - at) (drop at f)) part) e (sym h ∙ k))

    -- It lies before `end`, or there.
    pub stopped_within : (e : Refused) → r ≡ Err e → at + e.place ≤ end
    stopped_within e k =
        let d = differs_within 0 (take (end - at) (drop at f)) part e.refusal e.place (refusing (compare_bytes 0 (take (end - at) (drop at f)) part) e (sym h ∙ k)) in
        omega (arith, d, length-take-le (end - at) (drop at f) (omega (arith, length-drop at f, end_is)), end_is)

-- ---- the end of a file

-- No bytes are left where nothing more should be,
pub end_passed : (f : List ℕ) (at : ℕ) → length f ≤ at → Ok tt ≡ answer (compare_bytes at (drop at f) [])
end_passed f at h = rw (drop_of_length-le f h)

-- or the first that is left differs.
pub end_stopped : (f : List ℕ) (at : ℕ) → at < length f → Err (refusal_at OtherDrawing at) ≡ answer (compare_bytes at (drop at f) [])
end_stopped f at h = rw (drop-cons f at 0 h)
