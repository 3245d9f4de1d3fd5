-- An order file's points over a plain list, the boundary from left to right: what the drawing rules ask of the entries.
use Rattle.std.specs.Prelude.{ℕ, suc, ◌+◌, ◌<◌, ◌≡◌, refl, List, [], ◌∷◌, ◌++◌, map, length, get_or, take, drop}
use Rattle.std.proofs.Common.{ap, sym, ◌∙◌, append_assoc, arith, length-append, drop-cons}
use Rattle.std.proofs.Math.Seq.{split_at}
use Rattle.planar_rules.specs.PlanarCode.{Point}
use Rattle.planar_order.specs.Model.{Over, Stands, none, more, Chain, end, link, by_ends}

-- ---- from vertices to numbers

map_append : (h : ℕ → ℕ) (a b : List ℕ) → map h (a ++ b) ≡ map h a ++ map h b
map_append h [] b = refl
map_append h (x ∷ a) b = ap (λ l. h x ∷ l) (map_append h a b)

over_map : (h : ℕ → ℕ) (k : ℕ) {v : ℕ} {old run new : List ℕ} → h v ≡ k → Over v old run new → Over k (map h old) (map h run) (map h new)
over_map h k e o =
    record {
      before = map h o.before;
      left = h o.left;
      inner = map h o.inner;
      right = h o.right;
      after = map h o.after;
      old_is = ap (map h) o.old_is ∙ map_append h o.before _ ∙ ap (λ l. map h o.before ++ (h o.left ∷ l)) (map_append h o.inner _);
      run_is = ap (map h) o.run_is ∙ ap (λ l. h o.left ∷ l) (map_append h o.inner _);
      new_is = ap (map h) o.new_is ∙ map_append h o.before _ ∙ ap (λ x. map h o.before ++ (h o.left ∷ x ∷ h o.right ∷ map h o.after)) e;
    }

pub numbered :
    (h : ℕ → ℕ) (k : ℕ) {b b'' : List ℕ} {ps : List Point} → Chain b ps b'' → ((i : ℕ) → i < length ps → h (get_or (map (λ p. p.vertex) ps) i 0) ≡ suc (k + i)) →
    Stands k (map h b) (map (λ p. map h p.entries) ps) (map h b'')
numbered h k end e = none
numbered h k (link {p = p} {ps = ps} o c) e =
    more (over_map h (suc k) (e 0 (omega arith) ∙ (let z : suc (k + 0) ≡ suc k = omega arith in z)) o)
    (numbered h (suc k) c (λ i l. e (suc i) (omega arith) ∙ (let z : suc (k + suc i) ≡ suc (suc k + i) = omega arith in z)))

three : (b : List ℕ) (a : ℕ) → a + 2 < length b → b ≡ take a b ++ (get_or b a 0 ∷ get_or b (suc a) 0 ∷ get_or b (suc (suc a)) 0 ∷ drop (suc (suc (suc a))) b)
three b a l =
    split_at b a 0 (omega arith) ∙
    ap (λ l. take a b ++ (get_or b a 0 ∷ l)) (drop-cons b (suc a) 0 (omega arith) ∙ ap (λ l. get_or b (suc a) 0 ∷ l) (drop-cons b (suc (suc a)) 0 (omega arith)))

-- a vertex of the boundary, at suc a, and the boundary with E in place of it and the two beside it
pub over :
    (b E : List ℕ) (a p : ℕ) → a + 2 < length b → length E ≡ p + 1 → 0 < p → get_or E 0 0 ≡ get_or b a 0 → get_or E p 0 ≡ get_or b (suc (suc a)) 0 →
    Over (get_or b (suc a) 0) (take a b ++ (E ++ drop (suc (suc (suc a))) b)) E b
over b E a p l el p0 first last =
    let w = by_ends E p el p0 in
    let E-is : E ≡ get_or b a 0 ∷ (w.0 ++ (get_or b (suc (suc a)) 0 ∷ [])) = w.1 ∙ ap (λ x. x ∷ (w.0 ++ (get_or E p 0 ∷ []))) first ∙ ap (λ x. get_or b a 0 ∷ (w.0 ++ (x ∷ []))) last in
    record {
      before = take a b;
      left = get_or b a 0;
      inner = w.0;
      right = get_or b (suc (suc a)) 0;
      after = drop (suc (suc (suc a))) b;
      old_is =
          ap (λ e. take a b ++ (e ++ drop (suc (suc (suc a))) b)) E-is ∙
          ap (λ e. take a b ++ (get_or b a 0 ∷ e)) (append_assoc w.0 (get_or b (suc (suc a)) 0 ∷ []) (drop (suc (suc (suc a))) b));
      run_is = E-is;
      new_is = three b a l;
    }

-- ---- what the drawing rules ask

nil : (l : List ℕ) → length l ≡ 0 → l ≡ []
nil [] e = refl
nil (x ∷ l) e = absurd (omega arith)

-- a point that leaves three on the boundary stands over all of it
pub over_whole : {k : ℕ} {old run new : List ℕ} → Over k old run new → length new ≡ 3 → run ≡ old
over_whole {k} {old} {run} {new} o e =
    let l = ap length o.new_is ∙ length-append o.before (o.left ∷ k ∷ o.right ∷ o.after) in
    let b = nil o.before (omega (arith, l)) in
    let a = nil o.after (omega (arith, l)) in
    o.run_is ∙ sym (o.old_is ∙ ap (λ x. x ++ (o.left ∷ (o.inner ++ (o.right ∷ o.after)))) b ∙ ap (λ x. o.left ∷ (o.inner ++ (o.right ∷ x))) a)
