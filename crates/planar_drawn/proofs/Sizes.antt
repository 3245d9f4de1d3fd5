-- HOW LONG THEY ARE: a file that is taken has 7n + 4 bytes, its order file 10n - 6 and its list n. So the programs cut no such file.
use Rattle.std.specs.Prelude.{ℕ, zero, suc, ◌+◌, ◌*◌, ◌≤◌, ◌≡◌, refl, Bool, true, false, List, [], ◌∷◌, length, take, leb, ltb}
use Rattle.std.proofs.Common.{ap, ◌∙◌, take_all, ltb-true, ltb-false, arith}
use Rattle.std.proofs.Math.ListN.{length-drop, get_or-eq_default}
use Rattle.rules.specs.declared.Style.{Style}
use Rattle.rules.specs.Bools.{both}
use Rattle.rules.specs.Refusals.{Result, good, ◌>>=◌}
use Rattle.rules.specs.DrawingFile.{drawing_bytes, draw_file}
use Rattle.rules.specs.Output.{judged_bytes, printed, program}
use Rattle.planar_rules.specs.PlanarCode.{lists?, neighbours, n_of, body, net_of, most_vertices, Import, imported, order_of, list_of}
use Rattle.planar_rules.specs.Programs.{longest_net, longest_import, import_program, vertex_lines, vertices_program}
use Rattle.planar_sphere.specs.Count.{clash}
use Rattle.planar_order.specs.File.{all_lists, four, byte}
use Rattle.planar_order.proofs.Theorem.{valid, always, order-length, list_length}
use Rattle.planar_drawn.specs.Theorem.{Passed}
use Rattle.planar_drawn.proofs.Theorem.{import_passed, import_drawable}

-- v lists are v zeros and their places
lists_length : (n v : ℕ) (bs : List ℕ) → lists? n v bs ≡ true → length bs ≡ v + length (neighbours bs)
unfolding lists? neighbours
lists_length n zero [] t = refl
lists_length n zero (b ∷ bs) t = clash t refl
lists_length n (suc v) [] t = clash t refl
lists_length n (suc v) (zero ∷ bs) t = omega (arith, lists_length n v bs t)
lists_length n (suc v) (suc b ∷ bs) t = omega (arith, lists_length n (suc v) bs (both (leb (suc b) n) _ t).1)

-- a file with an n that isn't 0 has 16 bytes
has_n : (file : List ℕ) → 1 ≤ n_of file → 16 ≤ length file
has_n file h = go (ltb 15 (length file)) refl
  where
    go : (t : Bool) → ltb 15 (length file) ≡ t → 16 ≤ length file
    go true e = omega (arith, ltb-true 15 (length file) e)
    go false e = absurd (omega (arith, get_or-eq_default file 0 {n = 15} (ltb-false 15 (length file) e)))

module _ (file : List ℕ) (i : Import) (h : imported file ≡ good i) where
  passed : Passed file i
  passed = import_passed file i h

  -- THE FILE
  pub imported-length : length file ≡ 7 * n_of file + 4
  unfolding net_of
  imported-length =
      let ok = passed.formed in
      omega (
        arith,
        lists_length (n_of file) (n_of file) (body file) (all_lists file ok),
        length-drop 16 file,
        has_n file (omega (arith, four file ok)),
        (valid file ok passed.taken).lines,
      )

  pub imported_most : length file ≤ longest_net
  unfolding net_of
  imported_most = omega (arith, imported-length, byte file passed.formed)

  -- ITS OUTPUTS
  pub order_most : length i.order ≤ longest_import
  order_most =
      let o = order-length (net_of file) (always file passed.formed passed.taken) in
      omega (arith, ap (λ (i : Import). length i.order) passed.is, o, byte file passed.formed)

  pub list_most : length i.list ≤ most_vertices
  list_most =
      let l = list_length (net_of file) (always file passed.formed passed.taken) in
      omega (arith, ap (λ (i : Import). length i.list) passed.is, l, byte file passed.formed)

  -- THE PROGRAMS judge all of it,
  pub not_cut : take judged_bytes file ≡ file
  not_cut = take_all judged_bytes file (omega (arith, imported_most))

  whole : imported (take judged_bytes file) ≡ good i
  whole = ap imported not_cut ∙ h

  -- print its order file and its list ..
  pub import_printed : import_program file ≡ i.order
  import_printed = ap (λ (r : Result Import). printed (order_of r)) whole

  pub vertices-printed : vertices_program file ≡ vertex_lines i.list
  vertices-printed = ap (λ (r : Result Import). printed (list_of r >>= λ vs. good (vertex_lines vs))) whole

  -- .. and `import | draw` draws it, in both styles.
  pub then-drawn : (τ : Style) → program τ (import_program file) ≡ drawing_bytes (import_drawable τ file i h).drawing
  then-drawn τ =
      ap (program τ) import_printed ∙ ap (λ (f : List ℕ). printed (draw_file τ f)) (take_all judged_bytes i.order (omega (arith, order_most))) ∙
      ap printed (import_drawable τ file i h).drawn
