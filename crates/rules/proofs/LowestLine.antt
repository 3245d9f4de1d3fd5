-- Request 5: what the look-up of a cut line gives, told by its properties, both ways; and that what is added later leaves it.
use Rattle.std.specs.Prelude.{ℕ, ◌<◌, ◌≤◌, ◌≡◌, Bool, true, false, List, [], ◌∷◌, ◌++◌, map, length, ltb}
use Rattle.std.proofs.Math.Path.{refl}
use Rattle.std.proofs.Common.{sym, subst, ◌∙◌, true≢false, arith, length-append, ltb-true, ltb-false, lt-ltb, le-ltb}
use Rattle.std.proofs.Math.ListN.{get_or-append}
use Rattle.rules.specs.declared.Line.{Line}
use Rattle.rules.specs.declared.Entry.{Entry}
use Rattle.rules.specs.declared.Refusal.TheVariants.{NoSuch}
use Rattle.rules.specs.Basics.{between, lowest}
use Rattle.rules.specs.Bools.{both, is_false, in_range, range_in}
use Rattle.rules.specs.Refusals.{Result, good, refused}
use Rattle.rules.specs.Entries.{is_cut, read_entry, given_in, points_read}
use Rattle.rules.specs.Points.{Drawing, line_at}
use Rattle.rules.specs.Adding.{judge, placed_new, add_read, add}
use Rattle.rules.specs.Calls.{left, after}
use Rattle.rules.specs.Lookups.{CutLineAt, cut_at, Sought, cut_line, no_cut_line, look_cut}
use Rattle.rules.proofs.Lowest.{IsLowest, is_lowest, lowest_only}

-- line e is a cut line that ends at p, and no cut line with a lower number does
pub record LowestCutLine (d : Drawing) (p e : ℕ) : Type 0 where
  pub is : CutLineAt d p e
  pub first : (f : ℕ) → f < e → CutLineAt d p f → ⊥

-- what each answer says: 23 exactly if there is no such point, the lowest cut line, none exactly if there is none
abbrev pub Says : Drawing → ℕ → Result Sought → Type 0
Says d p (refused r a) = (between 1 d.k p ≡ false) × (r ≡ NoSuch) × (a ≡ 0)
Says d p (good (cut_line e)) = (between 1 d.k p ≡ true) × LowestCutLine d p e
Says d p (good no_cut_line) = (between 1 d.k p ≡ true) × ((e : ℕ) → CutLineAt d p e → ⊥)

module _ (d : Drawing) (p : ℕ) where
  -- the test says that it is one
  is_one : (e : ℕ) → e < length d.lines → cut_at d p e ≡ true → CutLineAt d p e
  is_one e l h = let t = both (is_cut (line_at d e).kind) _ h in record { there = l; cuts = t.0; ends = t.1 }

  one_is : (e : ℕ) → CutLineAt d p e → cut_at d p e ≡ true
  one_is e h = rw (h.cuts, h.ends)

  -- the line that is found, or the number of lines
  abbrev first : ℕ
  first = lowest (cut_at d p) (length d.lines) 0

  found : IsLowest (cut_at d p) (length d.lines) 0 first
  found = is_lowest (cut_at d p) (length d.lines) 0

  low : (f : ℕ) → f < first → CutLineAt d p f → ⊥
  low f l h = true≢false (sym (one_is f h) ∙ found.below f (omega arith) l)

  -- The answer is right.
  pub look_says : Says d p (look_cut d p)
  look_says = go (between 1 d.k p) refl (ltb first (length d.lines)) refl
    where
      go : (b : Bool) → between 1 d.k p ≡ b → (c : Bool) → ltb first (length d.lines) ≡ c → Says d p (look_cut d p)
      go false e c h = rw e (e, refl, refl)
      go true e true h =
          let l : first < length d.lines = ltb-true _ _ h in
          rw (e, h) (e, record { is = is_one first l (found.passes (omega (arith, l))); first = low })
      go true e false h =
          let l : length d.lines ≤ first = ltb-false _ _ h in
          rw (e, h) (e, λ f o. low f (omega (arith, l, o.there)) o)

  -- below e there is none, and e is one unless it is the number of lines: so the search finds e
  finds : (e : ℕ) → e ≤ length d.lines → ((f : ℕ) → f < e → CutLineAt d p f → ⊥) → (e < length d.lines → CutLineAt d p e) → first ≡ e
  finds e l none one =
      lowest_only (cut_at d p) (length d.lines) 0 e
      (record {
        from = omega arith;
        to = omega arith;
        below = λ f a b. is_false (cut_at d p f) (λ t. none f b (is_one f (omega (arith, l, b)) t));
        passes = λ b. one_is e (one (omega (arith, b)));
      })

  -- No other answer is.
  pub says_look : (o : Result Sought) → Says d p o → look_cut d p ≡ o
  says_look (refused r a) h = rw (h.0, h.1, h.2)
  says_look (good (cut_line e)) h =
      let l = h.1.is.there in
      rw (h.0, finds e (omega (arith, l)) h.1.first (λ b. h.1.is), lt-ltb e (length d.lines) l)
  says_look (good no_cut_line) h =
      let c = length d.lines in
      rw (h.0, finds c (omega arith) (λ f b. h.1 f) (λ b. absurd (omega (arith, b))), le-ltb c c (omega arith))

-- ---- lines that are added later have higher numbers

-- A drawing with more points and more lines behind has the same answer, where a line is given.
more_lines : (d g : Drawing) (ls : List Line) (p e : ℕ) → g.lines ≡ d.lines ++ ls → d.k ≤ g.k → look_cut d p ≡ good (cut_line e) → look_cut g p ≡ good (cut_line e)
more_lines d g ls p e more k is =
    let s : Says d p (good (cut_line e)) = subst (Says d p) is (look_says d p) in
    let r = in_range 1 _ p s.0 in
    let low : (f : ℕ) → f < e → CutLineAt g p f → ⊥ = λ f l h. s.1.first f l (back f (omega (arith, s.1.is.there)) h) in
    says_look g p (good (cut_line e)) (range_in 1 _ p r.0 (omega (arith, r.1)), record { is = on e s.1.is; first = low })
  where
    same : (f : ℕ) → f < length d.lines → line_at g f ≡ line_at d f
    same f l = rw more (get_or-append d.lines ls _ f l)

    on : (f : ℕ) → CutLineAt d p f → CutLineAt g p f
    on f h =
        let w = same f h.there in
        record { there = rw (more, length-append d.lines ls) (omega (arith, h.there)); cuts = rw w h.cuts; ends = rw w h.ends }

    back : (f : ℕ) → f < length d.lines → CutLineAt g p f → CutLineAt d p f
    back f l h = let w = sym (same f l) in record { there = l; cuts = rw w h.cuts; ends = rw w h.ends }

module _ (p e : ℕ) where
  -- A new point's lines stand behind.
  new_point : (d : Drawing) (es : List Entry) (run : List ℕ) → look_cut d p ≡ good (cut_line e) → look_cut (placed_new d es run) p ≡ good (cut_line e)
  unfolding placed_new
  new_point d es run is = more_lines d (placed_new d es run) _ p e refl (omega arith) is

  -- A call, accepted or refused, leaves the line that is given.
  pub stays : (d : Drawing) (call : List ℕ) → look_cut d p ≡ good (cut_line e) → look_cut (left d (add d call)) p ≡ good (cut_line e)
  unfolding add_read
  stays d call is = go (judge d (map read_entry call)) refl
    where
      go : (o : Result (Unit {0})) → judge d (map read_entry call) ≡ o → look_cut (left d (add d call)) p ≡ good (cut_line e)
      go (good u) h = rw h (new_point d (given_in (map read_entry call)) (points_read (map read_entry call)) is)
      go (refused r a) h = rw h is

  -- So does a list of calls.
  pub stays_after : (d : Drawing) (calls : List (List ℕ)) → look_cut d p ≡ good (cut_line e) → look_cut (after d calls) p ≡ good (cut_line e)
  stays_after d [] is = is
  stays_after d (call ∷ calls) is = stays_after (left d (add d call)) calls (stays d call is)
