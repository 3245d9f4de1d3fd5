-- The numbered points in arrays give the words of the order file and the list of vertices.
use Rattle.std.specs.Prelude.{ℕ, zero, suc, ◌+◌, ◌*◌, ◌<◌, ◌≤◌, ◌≡◌, refl, List, [], ◌∷◌, ◌++◌, map, length, get_or, take, drop}
use Rattle.std.proofs.Math.Path.{ap}
use Rattle.std.proofs.Common.{sym, ◌∙◌, subst, arith, add-zero, get_or-take, drop-cons}
use Rattle.rules.specs.Entries.{word_of}
use Rattle.rules.specs.Records.{bytes_of, order_mark, entries_mark, end_mark}
use Rattle.rules.proofs.Lengths.{bytes_append, length-bytes}
use Rattle.planar_rules.specs.PlanarCode.{Flat, points, vertices, point_of, plain, entry_words, records, order_file, vertex_list}
use Rattle.planar_order.specs.Theorem.{Ordered}
use Rattle.planar_order.proofs.Theorem.{order-length, list_length}
use Rattle.planar_reading.specs.Reads.{net_in}
use Rattle.planar_reading.specs.declared.net.Net.{Net}
use Rattle.planar_choosing.specs.Rows.{Apart}
use Rattle.planar_numbering.specs.Points.{points_in}
use Rattle.planar_numbering.specs.Numbered.{AllNumbered}
use Rattle.planar_writing.specs.Words.{numbers_of, point_words, points_words, order_words, Puttable}
use Rattle.words.specs.Writing.{Stored}
use Rattle.planar.specs.Net.{TakenIn, its_order}

-- ---- words and bytes

-- a plain entry's word is its point
plain_word : (p : ℕ) → word_of (plain p) ≡ p
plain_word p = add-zero p

-- the numbers of vertices are the words of their entries
same_words : (vs es : List ℕ) → numbers_of vs es ≡ entry_words vs es
same_words vs [] = refl
same_words vs (v ∷ es) = rw (plain_word (point_of vs v)) (ap (λ t. point_of vs v ∷ t) (same_words vs es))

-- the records of some points
records_in : (vs ver ln : List ℕ) (i c : ℕ) (l : List ℕ) → bytes_of (points_words vs ln i c l) ≡ records vs (points_in ver ln i c l)
unfolding points_words points_in records
records_in vs ver ln i zero l = refl
records_in vs ver ln i (suc c) l =
    let es : List ℕ = take (get_or ln i 0) l in
    bytes_append (point_words vs es) (points_words vs ln (suc i) c (drop (get_or ln i 0) l)) ∙
    ap (λ t. bytes_of (point_words vs es) ++ t) (records_in vs ver ln (suc i) c (drop (get_or ln i 0) l)) ∙
    ap (λ t. bytes_of (entries_mark ∷ t) ++ records vs (points_in ver ln (suc i) c (drop (get_or ln i 0) l))) (counted es (same_words vs es))
  where
    counted : (es : List ℕ) → numbers_of vs es ≡ entry_words vs es → length es ∷ numbers_of vs es ≡ length (entry_words vs es) ∷ entry_words vs es
    counted es q = ap (λ t. length es ∷ t) q ∙ ap (λ k. k ∷ entry_words vs es) (same_length es)
      where
        same_length : (es : List ℕ) → length es ≡ length (entry_words vs es)
        same_length [] = refl
        same_length (v ∷ es) = ap suc (same_length es)

-- The vertices of the points from i on.
pub vertices_in : (ver ln : List ℕ) (i c : ℕ) (l : List ℕ) → i + c ≤ length ver → vertices (points_in ver ln i c l) ≡ take c (drop i ver)
unfolding points_in
vertices_in ver ln i zero l p = refl
vertices_in ver ln i (suc c) l p =
    ap (λ t. get_or ver i 0 ∷ t) (vertices_in ver ln (suc i) c (drop (get_or ln i 0) l) (omega arith)) ∙ ap (take (suc c)) (sym (drop-cons ver i 0 (omega arith)))

-- ---- the points of a net that is taken

module _ {file : List ℕ} {net : Net} (t : TakenIn file net) where
  abbrev f : Flat
  f = net_in net

  abbrev n : ℕ
  n = f.n

  abbrev vs : List ℕ
  vs = vertices (points f)

  order : Ordered f
  order = its_order t

  -- the order file has 10n - 6 bytes
  pub order-size : length (order_file n (points f)) + 6 ≡ 10 * n
  order-size = order-length f order

  -- the list one byte for each point
  pub list-size : length (vertex_list (points f)) ≡ n
  list-size = list_length f order

  module _ {ver ln ent : List ℕ} {s : ℕ} (a : AllNumbered f ver ln ent s) where
    ver_is : take n ver ≡ vs
    ver_is = sym (vertices_in ver ln 0 n (drop s ent) (omega (arith, a.ver_size, net.kept.byte))) ∙ ap vertices a.all

    ver_at : (x : ℕ) → x < n → get_or vs x 0 ≡ get_or ver x 0
    ver_at x xl = ap (λ l. get_or l x 0) (sym ver_is) ∙ get_or-take n ver x 0 xl

    -- none stands twice
    pub ver_apart : Apart ver n
    ver_apart x y xl yl e = order.once x y (omega (arith, order.count_is)) (omega (arith, order.count_is)) (ver_at x xl ∙ e ∙ sym (ver_at y yl))

    vs-length : length vs ≡ n
    vs-length = order.count_is

    points-bytes : bytes_of (points_words vs ln 0 n (drop s ent)) ≡ records vs (points f)
    points-bytes = records_in vs ver ln 0 n (drop s ent) ∙ ap (records vs) a.all

    -- THE ORDER FILE
    order_is : bytes_of (order_words vs ln (drop s ent)) ≡ order_file n (points f)
    unfolding order_file
    order_is =
        rw vs-length
        (bytes_append (order_mark ∷ n ∷ []) (points_words vs ln 0 n (drop s ent) ++ (end_mark ∷ [])) ∙
        ap (λ t. bytes_of (order_mark ∷ n ∷ []) ++ t) (bytes_append (points_words vs ln 0 n (drop s ent)) (end_mark ∷ []) ∙ ap (λ t. t ++ bytes_of (end_mark ∷ [])) points-bytes))

    -- and its room
    order-room : 2 * length (order_words vs ln (drop s ent)) + 6 ≡ 10 * n
    order-room = omega (arith, length-bytes (order_words vs ln (drop s ent)), ap length order_is, order-size)

    -- ---- writing both, with b as the vertices by point

    module _ {b : List ℕ} (e : b ≡ take n ver) where
      same : b ≡ vs
      same = e ∙ ver_is

      -- the points are ready, where there is room
      pub puttable : {order list : List ℕ} → 10 * n ≤ length order + 6 → n ≤ length list → Puttable order list b ln ent s
      puttable {order = o} {list} r q =
          subst (λ b. Puttable o list b ln ent s) (sym same)
          (record {
            fits = rw vs-length a.fitting;
            small = λ i il. omega (arith, order.are_vertices i (omega (arith, il, vs-length)), net.kept.byte);
            order-room = omega (arith, order-room);
            list-room = omega (arith, vs-length);
          })

      -- and what is written is both outputs
      pub order-stored : {order order' : List ℕ} → Stored order 0 (bytes_of (order_words b ln (drop s ent))) order' → Stored order 0 (order_file n (points f)) order'
      order-stored {order = o} {order'} h =
          subst (λ bs. Stored o 0 bs order') (ap (λ b. bytes_of (order_words b ln (drop s ent))) same ∙ order_is) h

      pub list-stored : {list list' : List ℕ} → Stored list 0 (map suc b) list' → Stored list 0 (vertex_list (points f)) list'
      list-stored {list} {list'} h = subst (λ bs. Stored list 0 bs list') (ap (map suc) same) h
