-- A point over a run of the boundary (`Over`), as the rules of adding see it: where the run begins and ends, and the boundary with the new point.
use Rattle.std.specs.Prelude.{ℕ, suc, ◌+◌, ◌<◌, ◌≡◌, List, [], ◌∷◌, ◌++◌, length, get_or, take, drop}
use Rattle.std.proofs.Common.{ap, sym, ◌∙◌, append_assoc, arith, length-append, get_or-append-add, take_at, drop_at}
use Rattle.std.proofs.Math.ListN.{get_or-append}
use Rattle.planar_order.specs.Model.{Over}

module _ {k : ℕ} {old run new : List ℕ} (o : Over k old run new) where
  -- the run is from l to r on the old boundary
  abbrev pub left_at : ℕ
  left_at = length o.before

  abbrev pub right_at : ℕ
  right_at = suc (length o.before + length o.inner)

  pub old_length : length old ≡ suc (right_at + length o.after)
  old_length = omega (arith, ap length o.old_is, length-append o.before (o.left ∷ (o.inner ++ (o.right ∷ o.after))), length-append o.inner (o.right ∷ o.after))

  pub run_length : left_at + length run ≡ suc right_at
  run_length = omega (arith, ap length o.run_is, length-append o.inner (o.right ∷ []))

  pub new_length : length new ≡ left_at + 3 + length o.after
  new_length = omega (arith, ap length o.new_is, length-append o.before (o.left ∷ k ∷ o.right ∷ o.after))

  -- its points follow each other there
  pub run_at : (i : ℕ) → i < length run → get_or run i 0 ≡ get_or old (left_at + i) 0
  run_at i b = sym (ap (λ (l : List ℕ). get_or l (left_at + i) 0) parts ∙ get_or-append-add o.before (run ++ o.after) i 0 ∙ get_or-append run o.after 0 i b)
    where
      parts : old ≡ o.before ++ (run ++ o.after)
      parts =
          o.old_is ∙
          ap (λ (l : List ℕ). o.before ++ (o.left ∷ l)) (sym (append_assoc o.inner (o.right ∷ []) o.after)) ∙
          ap (λ (l : List ℕ). o.before ++ (l ++ o.after)) (sym o.run_is)

  -- the new boundary is the old one up to l, the new point, and the old one from r on
  pub new_at : new ≡ take (suc left_at) old ++ k ∷ drop right_at old
  new_at =
      o.new_is ∙
      sym (append_assoc o.before (o.left ∷ []) (k ∷ o.right ∷ o.after)) ∙
      ap (λ (l : List ℕ). l ++ (k ∷ o.right ∷ o.after)) (sym front) ∙
      ap (λ (l : List ℕ). take (suc left_at) old ++ k ∷ l) (sym back)
    where
      front : take (suc left_at) old ≡ o.before ++ (o.left ∷ [])
      front =
          ap (take (suc left_at)) (o.old_is ∙ sym (append_assoc o.before (o.left ∷ []) (o.inner ++ (o.right ∷ o.after)))) ∙
          take_at (o.before ++ (o.left ∷ [])) _ (suc left_at) (omega (arith, length-append o.before (o.left ∷ [])))

      back : drop right_at old ≡ o.right ∷ o.after
      back =
          ap (drop right_at) (o.old_is ∙ sym (append_assoc o.before (o.left ∷ o.inner) (o.right ∷ o.after))) ∙
          drop_at (o.before ++ (o.left ∷ o.inner)) _ right_at (omega (arith, length-append o.before (o.left ∷ o.inner)))
