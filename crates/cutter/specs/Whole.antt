-- Asking for moves 0, 1, 2, .. until 23 gives exactly the list of all moves.
use Rattle.std.specs.Prelude.{ℕ, zero, suc, ◌<◌, ◌≤◌, ◌≡◌, refl, true, false, List, [], ◌∷◌, map, length, get_or, take}
use Rattle.std.proofs.Common.{arith, sym, ap, ◌∙◌, take-suc, lt-ltb, le-ltb}
use Rattle.rules.specs.declared.Refusal.TheVariants.{BadTool, Unfinished, NoSuch}
use Rattle.rules.specs.Basics.{snoc}
use Rattle.rules.specs.Refusals.{Result, good, refused}
use Rattle.rules.specs.Points.{Drawing as Plan}
use Rattle.rules.specs.Moves.{Tool, Move, lift, is_tool, all_moves, given_moves, move_at}

-- the answers to moves 0, .., n - 1
abbrev pub asked : ℕ → Plan → Tool → List (Result Move)
asked zero q t = []
asked (suc n) q t = snoc (asked n q t) (move_at q t n)

-- what asking gives: each move, then 23, and so the whole list
pub record AsksAll (q : Plan) (t : Tool) : Type 0 where
  pub each : (i : ℕ) → i < length (all_moves q t) → move_at q t i ≡ good (get_or (all_moves q t) i (lift 0))
  pub past : move_at q t (length (all_moves q t)) ≡ refused NoSuch 0
  pub all : asked (length (all_moves q t)) q t ≡ map good (all_moves q t)

-- the answer to all moves, and to one, by the tests that it passes
module _ (q : Plan) (t : Tool) where
  pub all_bad : is_tool t ≡ false → given_moves q t ≡ refused BadTool 0
  all_bad e = rw e

  module _ (is : is_tool t ≡ true) where
    pub all_early : q.k < q.n → given_moves q t ≡ refused Unfinished 0
    all_early h = rw (is, lt-ltb q.k q.n h)

    pub all_given : q.n ≤ q.k → given_moves q t ≡ good (all_moves q t)
    all_given h = rw (is, le-ltb q.k q.n h)

module _ (q : Plan) (t : Tool) (i : ℕ) where
  pub bad_tool : is_tool t ≡ false → move_at q t i ≡ refused BadTool 0
  bad_tool e = rw e

  module _ (is : is_tool t ≡ true) where
    pub too_early : q.k < q.n → move_at q t i ≡ refused Unfinished 0
    too_early h = rw (is, lt-ltb q.k q.n h)

    module _ (whole : q.n ≤ q.k) where
      pub past_all : length (all_moves q t) ≤ i → move_at q t i ≡ refused NoSuch 0
      past_all h = rw (is, le-ltb q.k q.n whole, le-ltb i (length (all_moves q t)) h)

      pub given : i < length (all_moves q t) → move_at q t i ≡ good (get_or (all_moves q t) i (lift 0))
      given h = rw (is, le-ltb q.k q.n whole, lt-ltb i (length (all_moves q t)) h)

map_snoc : {A B : Type 0} (f : A → B) (l : List A) (a : A) → map f (snoc l a) ≡ snoc (map f l) (f a)
map_snoc f [] a = refl
map_snoc f (b ∷ l) a = ap (λ m. f b ∷ m) (map_snoc f l a)

take_whole : {A : Type 0} (l : List A) → take (length l) l ≡ l
take_whole [] = refl
take_whole (a ∷ l) = ap (λ m. a ∷ m) (take_whole l)

module _ (q : Plan) (t : Tool) (is : is_tool t ≡ true) (whole : q.n ≤ q.k) where
  asked-front : (n : ℕ) → n ≤ length (all_moves q t) → asked n q t ≡ map good (take n (all_moves q t))
  asked-front zero h = refl
  asked-front (suc n) h =
      rw (asked-front n (omega arith), given q t n is whole (omega arith), take-suc (all_moves q t) n (lift 0) h)
      (sym (map_snoc good (take n (all_moves q t)) (get_or (all_moves q t) n (lift 0))))

  -- The finished drawing's moves, asked for one by one.
  pub asks_all : AsksAll q t
  asks_all =
      record {
        each = λ i h. given q t i is whole h;
        past = past_all q t (length (all_moves q t)) is whole (omega arith);
        all = asked-front (length (all_moves q t)) (omega arith) ∙ ap (map good) (take_whole (all_moves q t));
      }
