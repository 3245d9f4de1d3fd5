-- What the calls answer, against the rules: a move in f32 with no error, or the same refusal; and how many moves there are.
use Rattle.std.specs.Prelude.{ℕ, ◌-◌, ◌<◌, ◌≤◌, ◌≡◌, refl, length, get_or, ltb, None, Ok, Err}
use Rattle.std.proofs.Common.{arith, sym, ap, subst, ◌∙◌, lt-ltb, le-ltb}
use Rattle.rules.specs.declared.Refused.{Refused}
use Rattle.rules.specs.declared.Refusal.TheVariants.{BadTool, Unfinished, NoSuch}
use Rattle.rules.specs.Refusals.{Result, good, Answer, refusal_at, Told, gives, refused_with, told, ◌>>◌, refuse_if}
use Rattle.rules.specs.Points.{Drawing as Plan, line_at}
use Rattle.rules.specs.Moves.{Tool as WholeTool, Move as WholeMove, lift, moves_of, all_moves, move_at}
use Rattle.rules.proofs.Dwelling.{has_pitch}
use Rattle.store_links.specs.declared.Counts.{Counts}
use Rattle.store_links.specs.Arrays.{Arrays}
use Rattle.store_laws.specs.Adding.{Holds}
use Rattle.tool.specs.declared.Tool.{Tool}
use Rattle.tool.specs.declared.Move.{Move}
use Rattle.tool.specs.Checking.{whole_tool, checked_of}
use Rattle.tool.specs.Showing.{IsMove}
use Rattle.tool.specs.Laws as Laws
use Rattle.answers.specs.Told.{told_move, told_count}
use Rattle.cutter_lines.specs.declared.Groove.{Groove}
use Rattle.cutter_lines.specs.declared.Setting.{Setting}
use Rattle.cutter_lines.specs.Grooves.{groove_moves, groove_move, total}
use Rattle.cutter_grooves.specs.Grooves.{groove_of, groove_moves_lem}
use Rattle.cutter.specs.declared.Found.{Found}
use Rattle.cutter.specs.Numbering.{move_in}
use Rattle.cutter.specs.Finding.{FindsMove, total_is}
use Rattle.cutter.specs.Whole.{bad_tool, too_early, past_all, given}
use Rattle.cutter.specs.Setting.{IsSet, NotSet, bad, early}

-- what is said is what the rules give: the same move, or the same number and place
abbrev pub SaysMove : Told Move → Told WholeMove → Type 0
SaysMove (gives m) (gives v) = IsMove m v
SaysMove (gives m) (refused_with n p) = ⊥
SaysMove (refused_with n p) (gives v) = ⊥
SaysMove (refused_with n p) (refused_with n' p') = (n ≡ n') × (p ≡ p')

abbrev pub MoveSeen : Answer Move → Result WholeMove → Type 0
MoveSeen r o = SaysMove (told_move r) (told o)

-- how many moves a finished drawing has
abbrev pub move_count : Plan → WholeTool → Result ℕ
move_count q t = do
  refuse_if (ltb q.k q.n) Unfinished 0
  good (length (all_moves q t))

-- 12
pub seen_bad : (q : Plan) (t : Tool) (i : ℕ) → checked_of t ≡ None → MoveSeen (Err (refusal_at BadTool 0)) (move_at q (whole_tool t) i)
seen_bad q t i e = rw (bad_tool q (whole_tool t) i (Laws.bad_tool t e)) (refl, refl)

module _ {q : Plan} {a : Arrays} {c : Counts} (h : Holds q a c) where
  -- a drawing is finished, or not, by the stored numbers
  pub finished : c.n ≤ c.k → q.n ≤ q.k
  finished all = omega (arith, h.stores.k, h.stores.n)

  pub unfinished : c.k < c.n → q.k < q.n
  unfinished b = omega (arith, h.stores.k, h.stores.n)

  -- 12 or 22
  pub seen_not : (t : Tool) (i : ℕ) (e : Refused) → NotSet c t e → MoveSeen (Err e) (move_at q (whole_tool t) i)
  seen_not t i _ (bad is) = rw (bad_tool q (whole_tool t) i is) (refl, refl)
  seen_not t i _ (early is b) = rw (too_early q (whole_tool t) i is (unfinished b)) (refl, refl)

  module _ (t : Tool) (by : Setting) (set : IsSet c t by) (i : ℕ) where
    -- 23
    pub seen_none : length (all_moves q (whole_tool t)) ≤ i → MoveSeen (Err (refusal_at NoSuch 0)) (move_at q (whole_tool t) i)
    seen_none b = rw (past_all q (whole_tool t) i set.is (finished set.whole) b) (refl, refl)

    module _ (r : Found) (f : FindsMove q (whole_tool t) i r) (g : Groove) (is : g ≡ groove_of q (line_at q r.line)) where
      -- it is one of the line's
      pub seen_within : 1 ≤ c.s → i - r.before < total g
      seen_within some = omega (arith, total_is q (whole_tool t) r.line g is (omega (arith, h.stores.s)) (has_pitch (whole_tool t) set.is), f.high, f.low)

      -- the move
      pub seen_made : (m : Move) → IsMove m (groove_move (i - r.before) by.scale by.tool g) → MoveSeen (Ok m) (move_at q (whole_tool t) i)
      seen_made m v =
          let z = move_in q (whole_tool t) r.line i f.within (omega (arith, f.before, f.low)) (omega (arith, f.before, f.high)) in
          let same : groove_move (i - r.before) by.scale by.tool g ≡ get_or (all_moves q (whole_tool t)) i (lift 0) =
          ap (λ (v : Groove). groove_move (i - r.before) by.scale by.tool v) is
          ∙ ap (λ (x : ℕ). groove_move (i - r.before) x by.tool (groove_of q (line_at q r.line))) (set.scale ∙ h.stores.s)
          ∙ ap (λ (x : WholeTool). get_or (groove_moves q.s x (groove_of q (line_at q r.line))) (i - r.before) (lift 0)) set.tool
          ∙ ap (λ l. get_or l (i - r.before) (lift 0)) (groove_moves_lem q (whole_tool t) (line_at q r.line))
          ∙ ap (λ (x : ℕ). get_or (moves_of q (whole_tool t) (line_at q r.line)) (i - x) (lift 0)) f.before
          ∙ sym z.1 in
          rw (given q (whole_tool t) i set.is (finished set.whole) z.0) (subst (λ (x : WholeMove). IsMove m x) same v)

  -- The count.
  module _ (t : WholeTool) where
    pub count-early : c.k < c.n → told_count (Err (refusal_at Unfinished 0)) ≡ told (move_count q t)
    count-early b = rw (lt-ltb q.k q.n (unfinished b))

    pub count_made : {n : ℕ} → n ≡ length (all_moves q t) → c.n ≤ c.k → told_count (Ok n) ≡ told (move_count q t)
    count_made e b = rw (e, le-ltb q.k q.n (finished b))
