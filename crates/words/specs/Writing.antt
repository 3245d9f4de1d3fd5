-- Bytes and numbers stored into a buffer, one behind the other, for everything that writes a file or a list: laws over plain lists.
use Rattle.std.specs.Prelude.{ℕ, suc, ◌+◌, ◌*◌, ◌<◌, ◌≤◌, ◌≡◌, refl, List, [], ◌∷◌, ◌++◌, length, get_or, take, drop, set}
use Rattle.std.proofs.Common.{ap, sym, ◌∙◌, subst, add-zero, zero-add, add-one, arith, length-append, take-suc, length-take-le}
use Rattle.std.proofs.lemmas.List.Edits.{sets, sets-eq}
use Rattle.std.proofs.Math.Seq.{length-sets}
use Rattle.rules.specs.Refusals.{good}
use Rattle.rules.specs.Records.{bytes_of}
use Rattle.rules.specs.Output.{filled}
use Rattle.rules.proofs.Lengths.{length-bytes, bytes_append}
use Rattle.words.specs.Bytes.{with_word}

-- ---- bytes, or other elements

module _ {A : Type 0} where
  -- two runs of stores are one
  sets_append : (l : List A) (i : ℕ) (us vs : List A) → sets l i (us ++ vs) ≡ sets (sets l i us) (i + length us) vs
  sets_append l i [] vs = ap (λ (k : ℕ). sets l k vs) (sym (add-zero i))
  sets_append l i (u ∷ us) vs =
      let e : suc i + length us ≡ i + suc (length us) = omega arith in
      sets_append (set l i u) (suc i) us vs ∙ ap (λ (k : ℕ). sets (sets (set l i u) (suc i) us) k vs) e

  -- the buffer l is l₀ with the bytes bs stored from the place `at` on
  pub record Stored (l₀ : List A) (at : ℕ) (bs l : List A) : Type 0 where
    pub is : l ≡ sets l₀ at bs

  -- nothing is stored
  pub stored_none : (l : List A) (at : ℕ) → Stored l at [] l
  stored_none l at = record { is = refl }

  -- what is stored behind other bytes is stored with them
  pub behind : {l₀ l l' bs cs : List A} {at to : ℕ} → to ≡ at + length bs → Stored l₀ at bs l → Stored l to cs l' → Stored l₀ at (bs ++ cs) l'
  behind {l₀} {l} {l'} {bs} {cs} {at} p h e = record { is = rw (e.is, h.is, p) (sym (sets_append l₀ at bs cs)) }

  -- the buffer keeps its length
  pub length-stored : {l₀ bs l : List A} {at : ℕ} → Stored l₀ at bs l → length l ≡ length l₀
  length-stored {l₀} {bs} {at = at} h = ap length h.is ∙ length-sets l₀ at bs

  -- FROM THE START: the buffer holds the bytes, and behind them what it held
  pub stored-filled : {l bs l' : List A} → length bs ≤ length l → Stored l 0 bs l' → l' ≡ filled l (good bs)
  stored-filled {l} {bs} h e =
      e.is ∙ sets-eq bs l 0 (rw (zero-add (length bs)) h) ∙ ap (λ (n : ℕ). bs ++ drop n l) (zero-add (length bs))

-- one more byte of a list
pub stored_next : (bs : List ℕ) (i : ℕ) {l₀ l : List ℕ} {at : ℕ} → i < length bs → Stored l₀ at (take i bs) l → Stored l₀ at (take (i + 1) bs) (set l (at + i) (get_or bs i 0))
stored_next bs i {at = at} h p =
    rw (add-one i, take-suc bs i 0 h) (behind (ap (λ (k : ℕ). at + k) (sym (length-take-le i bs (omega arith)))) p (record { is = refl }))

-- ---- numbers, two bytes each

-- a number stored at a place is its two bytes stored there
pub word_stored : (l : List ℕ) (at w : ℕ) {l' : List ℕ} → l' ≡ with_word l at w → Stored l at (bytes_of (w ∷ [])) l'
word_stored l at w e = record { is = rw (e, add-one) }

-- behind the numbers us, the numbers ws
pub words_behind : (us ws : List ℕ) {l₀ l l' : List ℕ} {at to : ℕ} → to ≡ at + 2 * length us → Stored l₀ at (bytes_of us) l → Stored l to (bytes_of ws) l' →
    Stored l₀ at (bytes_of (us ++ ws)) l'
words_behind us ws p h e = rw (bytes_append us ws) (behind (omega (arith, length-bytes us)) h e)

-- behind them, one number more
pub word_behind : (ws : List ℕ) (to w : ℕ) {l₀ l l' : List ℕ} {at : ℕ} → to ≡ at + 2 * length ws → Stored l₀ at (bytes_of ws) l → l' ≡ with_word l to w →
    Stored l₀ at (bytes_of (ws ++ (w ∷ []))) l'
word_behind ws to w {l = l} p h e = words_behind ws (w ∷ []) p h (word_stored l to w e)

-- ---- what a function that writes numbers leaves

-- the numbers ws stand in the buffer from `at` on, and `end` is the place behind them
pub record Pasted (out : List ℕ) (at : ℕ) (ws out' : List ℕ) (end : ℕ) : Type 0 where
  pub is : Stored out at (bytes_of ws) out'
  pub behind : end ≡ at + 2 * length ws

-- nothing is written
pub pasted_nothing : (out : List ℕ) (at : ℕ) → Pasted out at [] out at
pasted_nothing out at = record { is = stored_none out at; behind = omega arith }

-- several numbers, and then others behind them
pub pasted_both : {out out'' out' : List ℕ} {at at'' end : ℕ} {us ws : List ℕ} → Pasted out at us out'' at'' → Pasted out'' at'' ws out' end → Pasted out at (us ++ ws) out' end
pasted_both {us = us} {ws = ws} g h =
    record { is = words_behind us ws g.behind g.is h.is; behind = omega (arith, g.behind, h.behind, length-append us ws) }

-- a number, and then others behind it
pub pasted_then : {out out'' out' : List ℕ} {at w at'' end : ℕ} {ws : List ℕ} → out'' ≡ with_word out at w → at'' ≡ at + 2 → Pasted out'' at'' ws out' end → Pasted out at (w ∷ ws) out' end
pasted_then {out = out} {at = at} {w = w} a b h = pasted_both {us = w ∷ []} (record { is = word_stored out at w a; behind = b }) h

-- ---- a loop that writes

-- `all` was to be written at `at₀` of out₀; `rest` is left of it, to be written at `at`
pub record Ahead (out₀ : List ℕ) (at₀ : ℕ) (all out : List ℕ) (at : ℕ) (rest : List ℕ) : Type 0 where
  pub same : sets out at (bytes_of rest) ≡ sets out₀ at₀ (bytes_of all)
  pub place : at + 2 * length rest ≡ at₀ + 2 * length all
  pub long : length out ≡ length out₀

-- before the first turn
pub ahead_all : (out : List ℕ) (at : ℕ) (all : List ℕ) → Ahead out at all out at all
ahead_all out at all = record { same = refl; place = refl; long = refl }

module _ {out₀ : List ℕ} {at₀ : ℕ} {all out : List ℕ} {at : ℕ} where
  -- what is left, said otherwise
  pub ahead_as : {rest rest' : List ℕ} → rest ≡ rest' → Ahead out₀ at₀ all out at rest → Ahead out₀ at₀ all out at rest'
  ahead_as e h = subst (λ (l : List ℕ). Ahead out₀ at₀ all out at l) e h

  -- several numbers are written
  pub ahead-part : {us rest out' : List ℕ} {end : ℕ} → Ahead out₀ at₀ all out at (us ++ rest) → Pasted out at us out' end → Ahead out₀ at₀ all out' end rest
  ahead-part {us} {rest} h p =
      record {
        same = (words_behind us rest p.behind p.is (record { is = refl })).is ∙ h.same;
        place = omega (arith, h.place, p.behind, length-append us rest);
        long = length-stored p.is ∙ h.long;
      }

  -- one number is
  pub ahead_word : {w : ℕ} {rest out' : List ℕ} → Ahead out₀ at₀ all out at (w ∷ rest) → out' ≡ with_word out at w → Ahead out₀ at₀ all out' (at + 2) rest
  ahead_word {w} h e = ahead-part {us = w ∷ []} h (record { is = word_stored out at w e; behind = refl })

  -- nothing is left
  pub ahead_none : Ahead out₀ at₀ all out at [] → Pasted out₀ at₀ all out at
  ahead_none h = record { is = record { is = h.same }; behind = omega (arith, h.place) }
