-- The words of a list of calls, call by call: the first call and the rest.
use Rattle.std.specs.Prelude.{ℕ, zero, suc, ◌+◌, ◌-◌, ◌<◌, ◌≤◌, min, ◌≡◌, refl, List, [], ◌∷◌, length, get_or, take, drop}
use Rattle.std.proofs.Common.{ap, sym, ◌∙◌, arith, add-one, length-drop, drop-cons, drop-drop}
use Rattle.std.proofs.Math.Nat.{zero-min, min-zero, suc-min-suc}
use Rattle.calls_words.specs.Lists.{calls_within, calls_in, end_of}

-- Past the end there is nothing to take and nothing to drop.
take_min : (c : ℕ) (l : List ℕ) → take (min c (length l)) l ≡ take c l
take_min zero l = rw zero-min
take_min (suc c) [] = rw min-zero
take_min (suc c) (x ∷ l) = rw suc-min-suc (ap (λ (t : List ℕ). x ∷ t) (take_min c l))

drop_min : (c : ℕ) (l : List ℕ) → drop (min c (length l)) l ≡ drop c l
drop_min zero l = rw zero-min
drop_min (suc c) [] = rw min-zero
drop_min (suc c) (x ∷ l) = rw suc-min-suc (drop_min c l)

-- Every number that is as large as the words are long gives the same calls.
within_same : (f g : ℕ) (ws : List ℕ) → length ws ≤ f → length ws ≤ g → calls_within f ws ≡ calls_within g ws
within_same zero zero ws hf hg = refl
within_same zero (suc g) [] hf hg = refl
within_same zero (suc g) (c ∷ ws) hf hg = absurd (omega arith)
within_same (suc f) zero [] hf hg = refl
within_same (suc f) zero (c ∷ ws) hf hg = absurd (omega arith)
within_same (suc f) (suc g) [] hf hg = refl
within_same (suc f) (suc g) (c ∷ ws) hf hg =
    ap (λ (t : List (List ℕ)). take c ws ∷ t)
    (within_same f g (drop c ws) (omega (arith, length-drop c ws)) (omega (arith, length-drop c ws)))

-- There are no more calls than words.
within_most : (f : ℕ) (ws : List ℕ) → length (calls_within f ws) ≤ f
within_most zero ws = omega arith
within_most (suc f) [] = omega arith
within_most (suc f) (c ∷ ws) = omega (arith, within_most f (drop c ws))

pub calls_most : (ws : List ℕ) → length (calls_in ws) ≤ length ws
unfolding calls_in
calls_most ws = within_most (length ws) ws

-- The first call and the rest.
calls_cons : (c : ℕ) (ws : List ℕ) → calls_in (c ∷ ws) ≡ take c ws ∷ calls_in (drop c ws)
unfolding calls_in
calls_cons c ws =
    ap (λ (t : List (List ℕ)). take c ws ∷ t)
    (within_same (length ws) (length (drop c ws)) (drop c ws) (omega (arith, length-drop c ws)) (omega arith))

-- No words, no calls.
pub no_calls : (ws : List ℕ) (at : ℕ) → length ws ≤ at → calls_in (drop at ws) ≡ []
unfolding calls_in
no_calls [] zero h = refl
no_calls [] (suc at) h = refl
no_calls (c ∷ ws) zero h = absurd (omega arith)
no_calls (c ∷ ws) (suc at) h = no_calls ws at (omega arith)

module _ (ws : List ℕ) (at : ℕ) (h : at < length ws) where
  -- how many words of the call are there
  size : end_of ws at ≡ suc at + min (get_or ws at 0) (length (drop (suc at) ws))
  size = omega (arith, length-drop (suc at) ws)

  -- It ends behind its count, and no later than the words.
  pub end_low : at + 1 ≤ end_of ws at
  end_low = omega arith

  pub end-high : end_of ws at ≤ length ws
  end-high = omega arith

  -- The call's part of the words is its entries.
  pub first_call : take (end_of ws at - (at + 1)) (drop (at + 1) ws) ≡ take (get_or ws at 0) (drop (suc at) ws)
  first_call =
      let e : end_of ws at - (at + 1) ≡ min (get_or ws at 0) (length (drop (suc at) ws)) = omega (arith, size) in
      rw (e, add-one at) (take_min (get_or ws at 0) (drop (suc at) ws))

  -- The calls from here on are this one and those from its end on.
  pub rest-calls : calls_in (drop at ws) ≡ take (end_of ws at - (at + 1)) (drop (at + 1) ws) ∷ calls_in (drop (end_of ws at) ws)
  rest-calls =
      ap calls_in (drop-cons ws at 0 h) ∙
      calls_cons (get_or ws at 0) (drop (suc at) ws) ∙
      ap (λ (t : List (List ℕ)). take (get_or ws at 0) (drop (suc at) ws) ∷ t)
      (ap calls_in (sym (drop_min (get_or ws at 0) (drop (suc at) ws)) ∙ drop-drop (min (get_or ws at 0) (length (drop (suc at) ws))) (suc at) ws ∙ ap (λ (i : ℕ). drop i ws) (sym size))) ∙
      ap (λ (t : List ℕ). t ∷ calls_in (drop (end_of ws at) ws)) (sym first_call)
