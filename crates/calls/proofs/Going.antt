-- The calls made so far, over plain lists: what the loop keeps, and one turn of it.
use Rattle.std.specs.Prelude.{ℕ, suc, ◌+◌, ◌-◌, ◌*◌, ◌<◌, ◌≤◌, ◌≡◌, refl, List, [], ◌∷◌, ◌++◌, length, get_or, take, drop, set}
use Rattle.std.proofs.Common.{ap, sym, ◌∙◌, subst, append_assoc, append-nil, add-one, arith, length-set, length-take, take-append-drop, take-suc-set, drop-set-lt, drop-drop, lt-length-set}
use Rattle.rules.specs.declared.Style.{Style}
use Rattle.rules.specs.Refusals.{Answer, answer}
use Rattle.rules.specs.Points.{Drawing as Plan, opening}
use Rattle.rules.specs.Adding.{add}
use Rattle.rules.specs.Calls.{left, after, answers, drawn, said}
use Rattle.store_links.specs.Storing.{judged}
use Rattle.store_tables.specs.declared.Drawing.{Drawing}
use Rattle.store_tables.specs.Tables.{arrays_in}
use Rattle.store_laws.specs.Adding.{called}
use Rattle.store_laws.specs.Stored.{Is}
use Rattle.calls_words.specs.Lists.{calls_in, end_of, number_in, place_in, with_answer}
use Rattle.calls_words.specs.Rests.{no_calls, rest-calls}
use Rattle.calls.specs.Answers.{answer_words, words_of}
use Rattle.calls.specs.Turns.{Callable, Made, Begun, Ended}

-- the calls up to index `at` of the words are made, and the first `told` words of the buffer are their answers
pub record Going (τ : Style) (n : ℕ) (ws before : List ℕ) (d : Drawing) (at told : ℕ) (out : List ℕ) : Type 0 where
  pub plan : Plan
  pub is : Is plan d
  pub range : at ≤ length ws
  pub drawing : after plan (calls_in (drop at ws)) ≡ drawn τ n (calls_in ws)
  pub buffer : take told out ++ words_of (answers plan (calls_in (drop at ws))) ≡ words_of (said τ n (calls_in ws))
  pub behind : drop told out ≡ drop told before
  pub long : length out ≡ length before
  pub room : 2 * length (calls_in ws) ≤ length before
  pub words : told + 2 * length (calls_in (drop at ws)) ≡ 2 * length (calls_in ws)

-- Before the first call.
pub going_first : {τ : Style} {n : ℕ} {ws out : List ℕ} {d : Drawing} → Begun τ n ws out d → Going τ n ws out d 0 0 out
going_first {τ} {n} b =
    record {
      plan = opening τ n;
      is = b.is;
      range = omega arith;
      drawing = refl;
      buffer = refl;
      behind = refl;
      long = refl;
      room = b.room;
      words = omega arith;
    }

-- An answer's two words: the words before them and those behind them.
take-answer : (out : List ℕ) (i : ℕ) (a : Answer (Unit {0})) → i + 1 < length out → take (i + 2) (with_answer out i a) ≡ take i out ++ answer_words a
take-answer out i a h =
    let two : i + 2 ≡ suc (suc i) = omega arith in
    rw (two, add-one i)
    (take-suc-set (set out i (number_in a)) (suc i) (place_in a) (lt-length-set out i (number_in a) (omega arith)) ∙
    ap (λ (t : List ℕ). t ++ (place_in a ∷ [])) (take-suc-set out i (number_in a) (omega arith)) ∙
    append_assoc (take i out) (number_in a ∷ []) (place_in a ∷ []))

drop-answer : (out : List ℕ) (i : ℕ) (a : Answer (Unit {0})) → drop (i + 2) (with_answer out i a) ≡ drop (i + 2) out
drop-answer out i a = drop-set-lt (i + 2) (set out i (number_in a)) (i + 1) (place_in a) (omega arith) ∙ drop-set-lt (i + 2) out i (number_in a) (omega arith)

module _ {τ : Style} {n : ℕ} {ws before : List ℕ} {d : Drawing} {at told : ℕ} {out : List ℕ} (g : Going τ n ws before d at told out) where
  -- After the last call.
  pub going_last : length ws ≤ at → Ended τ n ws before d out
  going_last h =
      let none : calls_in (drop at ws) ≡ [] = no_calls ws at h in
      let all : told ≡ 2 * length (calls_in ws) = omega (arith, ap length none, g.words) in
      let plan : g.plan ≡ drawn τ n (calls_in ws) = sym (ap (after g.plan) none) ∙ g.drawing in
      let front : take told out ≡ words_of (said τ n (calls_in ws)) =
      sym (append-nil (take told out)) ∙ ap (λ (cs : List (List ℕ)). take told out ++ words_of (answers g.plan cs)) (sym none) ∙ g.buffer
      in
      record {
        is = subst (λ (p : Plan). Is p d) plan g.is;
        buffer = sym (take-append-drop told out) ∙ rw (front, g.behind, all);
      }

  module _ (h : at < length ws) (end : ℕ) (is : end ≡ end_of ws at) where
    -- the entries of the next call
    abbrev es : List ℕ
    es = take (end - (at + 1)) (drop (at + 1) ws)

    -- this call and those behind it
    rest : calls_in (drop at ws) ≡ es ∷ calls_in (drop end ws)
    rest = rw is (rest-calls ws at h)

    -- There is room for its answer.
    pub told-room : told + 2 ≤ length before
    told-room = omega (arith, ap length rest, g.words, g.room)

    -- It can be made.
    pub callable : get_or ws at 0 < 65536 → Callable d es out told
    callable b =
        record {
          plan = g.plan;
          is = g.is;
          few = omega (arith, length-take (end - (at + 1)) (drop (at + 1) ws));
          room = omega (arith, told-room, g.long);
        }

    -- One turn.
    pub turn : {d' : Drawing} {out' : List ℕ} → Made d es out told d' out' → Going τ n ws before d' end (told + 2) out'
    turn m =
        let k = called g.is es in
        let told-now = answer (judged (arrays_in d.table) d.counts es) in
        let others : List ℕ = words_of (answers (left g.plan (add g.plan es)) (calls_in (drop end ws))) in
        record {
          plan = left g.plan (add g.plan es);
          is = rw (m.arrays, m.counts) k.holds;
          range = omega (arith, is);
          drawing = sym (ap (after g.plan) rest) ∙ g.drawing;
          buffer =
              ap (λ (t : List ℕ). take (told + 2) t ++ others) m.buffer ∙
              ap (λ (t : List ℕ). t ++ others) (take-answer out told told-now (omega (arith, told-room, g.long))) ∙
              ap (λ (t : Answer (Unit {0})). (take told out ++ answer_words t) ++ others) k.answers ∙
              append_assoc (take told out) (answer_words (answer (add g.plan es))) others ∙
              ap (λ (cs : List (List ℕ)). take told out ++ words_of (answers g.plan cs)) (sym rest) ∙
              g.buffer;
          behind =
              ap (drop (told + 2)) m.buffer ∙ drop-answer out told told-now ∙
              sym (drop-drop 2 told out) ∙ ap (drop 2) g.behind ∙ drop-drop 2 told before;
          long = ap length m.buffer ∙ simp length-set g.long;
          room = g.room;
          words = omega (arith, ap length rest, g.words);
        }
