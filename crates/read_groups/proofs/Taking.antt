-- One turn of the loop that takes a group, on lists: the line at hand is the group's, or the group ends before it.
use Rattle.std.specs.Prelude.{ℕ, ◌+◌, ◌-◌, ◌*◌, ◌<◌, ◌≤◌, ◌≡◌, List, [], ◌∷◌, ◌++◌, map, length, take, set}
use Rattle.std.proofs.Common.{ap, sym, ◌∙◌, subst, append-nil, append_assoc, add-one, arith, take-suc-set, eq-eqb, ne_eqb}
use Rattle.rules.specs.declared.Style.{Style}
use Rattle.rules.specs.DrawingFile.{later_in, entry_in, group, behind}
use Rattle.rules.proofs.Lengths.{lines_fit}
use Rattle.words.specs.Bytes.{word_at}
use Rattle.rules.specs.Records.{line_size}
use Rattle.read_groups.specs.Lines.{lines_at, line_at, line_is, lines_more, lines_none}
use Rattle.read_groups.specs.Groups.{number_for, Taken}

-- the first i lines are the group's, and stand in e
pub record Taking (τ : Style) (f : List ℕ) (at left p : ℕ) (e : List ℕ) (i : ℕ) : Type 0 where
  pub few : i ≤ left
  pub entries : take i e ++ map number_for (group τ p (lines_at τ f (left - i) (at + line_size τ * i))) ≡ map number_for (group τ p (lines_at τ f left at))
  pub rest : behind p (lines_at τ f left at) ≡ behind p (lines_at τ f (left - i) (at + line_size τ * i))

pub taking_none : (τ : Style) (f : List ℕ) (at left p : ℕ) (e : List ℕ) → Taking τ f at left p e 0
taking_none τ f at left p e =
    let here : at + line_size τ * 0 ≡ at = omega arith in
    let all : left - 0 ≡ left = omega arith in
    record { few = omega arith; entries = rw (here, all); rest = rw (here, all) }

module _ {τ : Style} {f : List ℕ} {at left p : ℕ} {e : List ℕ} {i : ℕ} (t : Taking τ f at left p e i) where
  -- no line is left
  pub taken_all : left ≤ i → Taken τ f at left p e left
  taken_all h =
      let none : left - i ≡ 0 = omega arith in
      let lines : lines_at τ f (left - i) (at + line_size τ * i) ≡ [] = ap (λ (c : ℕ). lines_at τ f c (at + line_size τ * i)) none ∙ lines_none τ f (at + line_size τ * i) in
      let taken : Taken τ f at left p e i = record {
        few = t.few;
        entries = sym (append-nil (take i e)) ∙ ap (λ l. take i e ++ map number_for (group τ p l)) (sym lines) ∙ t.entries;
        rest = t.rest ∙ ap (behind p) lines ∙ sym lines;
      } in
      subst (λ (c : ℕ). Taken τ f at left p e c) (omega (arith, t.few)) taken

  module _ (h : i < left) (there : at + line_size τ * left ≤ length f) (here : ℕ) (is-here : here ≡ at + line_size τ * i) (v : ℕ) (is : v ≡ word_at f (here + 2)) where
    -- the line at hand, and those behind it
    lines : lines_at τ f (left - i) (at + line_size τ * i) ≡ line_at τ f (at + line_size τ * i) ∷ lines_at τ f (left - (i + 1)) (at + line_size τ * (i + 1))
    lines =
        let next : at + line_size τ * i + line_size τ ≡ at + line_size τ * (i + 1) = omega arith in
        let less : left - i - 1 ≡ left - (i + 1) = omega arith in
        rw (lines_more τ f (left - i) (at + line_size τ * i) (omega arith), next, less)

    later : later_in (line_at τ f (at + line_size τ * i)) ≡ v
    later = (line_is τ f (at + line_size τ * i) (omega (arith, lines_fit τ (i + 1) left (omega arith)))).later ∙ sym (is ∙ ap (λ (o : ℕ). word_at f (o + 2)) is-here)

    -- it is another point's
    pub taken_some : (v ≡ p → ⊥) → Taken τ f at left p e i
    taken_some o =
        let no = ne_eqb (later_in (line_at τ f (at + line_size τ * i))) p (λ q. o (sym later ∙ q)) in
        record {
          few = t.few;
          entries = sym (append-nil (take i e)) ∙ rw (← t.entries, lines, no);
          rest = t.rest ∙ rw (lines, no);
        }

    -- it is p's
    pub taking_more : v ≡ p → i < length e → (w : ℕ) → w ≡ number_for (entry_in τ (line_at τ f here)) → Taking τ f at left p (set e i w) (i + 1)
    taking_more o room w q =
        let yes = eq-eqb (later_in (line_at τ f (at + line_size τ * i))) p (later ∙ o) in
        let behind_it = map number_for (group τ p (lines_at τ f (left - (i + 1)) (at + line_size τ * (i + 1)))) in
        let first : take (i + 1) (set e i w) ≡ take i e ++ (w ∷ []) = rw (add-one i) (take-suc-set e i w room) in
        let at-hand : w ∷ behind_it ≡ map number_for (group τ p (lines_at τ f (left - i) (at + line_size τ * i))) = rw (lines, yes, q, is-here) in
        record {
          few = omega arith;
          entries = ap (λ l. l ++ behind_it) first ∙ append_assoc (take i e) (w ∷ []) behind_it ∙ ap (λ l. take i e ++ l) at-hand ∙ t.entries;
          rest = t.rest ∙ rw (lines, yes);
        }
