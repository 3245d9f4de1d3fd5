-- WISH 4 AND THE DRAWING RULES: every order file that the import writes is accepted, with bends and straight; its drawing keeps the promise, and its net is the file's net.
use Rattle.std.specs.Prelude.{ℕ, suc, pred, ◌<◌, ◌≤◌, ◌≡◌, true, not, List}
use Rattle.std.proofs.Common.{ap, sym, subst, ◌∙◌, arith}
use Rattle.std.proofs.lemmas.Bool.{not-false}
use Rattle.rules.specs.declared.Style.{Style}
use Rattle.rules.specs.declared.Refusal.TheVariants.{BadCode, NoNet}
use Rattle.rules.specs.Basics.{nth}
use Rattle.rules.specs.Refusals.{good}
use Rattle.rules.specs.Results.{tested, same_value}
use Rattle.rules.specs.DrawingFile.{drawing_bytes, draw_file}
use Rattle.exchange.specs.Demand2.{drawn_as}
use Rattle.exchange.specs.Kept.{read_keeps}
use Rattle.planar_rules.specs.PlanarCode.{net_of, formed?, taken?, points, vertices, order_file, Import, import_of, imported}
use Rattle.planar_order.specs.File.{four, byte}
use Rattle.planar_order.proofs.Theorem.{valid, own_first, always}
use Rattle.planar_drawn.proofs.Read.{drawn_of, order_of_lem}
use Rattle.planar_drawn.specs.Members.{at_map}
use Rattle.planar_drawn.specs.SameNet.{vertex_of}
use Rattle.planar_drawn.proofs.SameNet.{same_net}
use Rattle.planar_drawn.specs.Theorem.{Drawable, Passed}

-- So is the order file of every file that passes the tests, in both styles.
pub taken_drawable : (τ : Style) (file : List ℕ) → formed? file ≡ true → taken? (net_of file) ≡ true → Drawable τ (net_of file) (order_file (net_of file).n (points (net_of file)))
taken_drawable τ file ok t =
    let f = net_of file in
    let o = always file ok t in
    let g = drawn_of τ f (omega (arith, four file ok)) (omega (arith, byte file ok)) o in
    let r = order_of_lem τ f g in
    record {
      drawing = g.drawing;
      read = r;
      whole = g.whole;
      drawn = drawn_as τ (order_file f.n (points f)) g.drawing g.whole r;
      promised = read_keeps τ (order_file f.n (points f)) g.drawing r;
      same = same_net τ f (valid file ok t) (own_first file ok t) o g;
    }

pub import_passed : (file : List ℕ) (i : Import) → imported file ≡ good i → Passed file i
unfolding imported
import_passed file i h =
    let a = tested (not (formed? file)) BadCode 0 _ i h in
    let b = tested (not (taken? (net_of file))) NoNet 0 _ i a.last in
    record { formed = not-false _ a.passed; taken = not-false _ b.passed; is = same_value (import_of (net_of file)) i b.last }

-- THE THEOREM, of every list of bytes: what the import writes is the order file of a drawing of its net ..
pub import_drawable : (τ : Style) (file : List ℕ) (i : Import) → imported file ≡ good i → Drawable τ (net_of file) i.order
import_drawable τ file i h =
    let q = import_passed file i h in
    subst (λ (i : Import). Drawable τ (net_of file) i.order) q.is (taken_drawable τ file q.formed q.taken)

-- .. so drawing never refuses it.
pub import_drawn : (τ : Style) (file : List ℕ) (i : Import) → imported file ≡ good i → (b : List ℕ) × (draw_file τ i.order ≡ good b)
import_drawn τ file i h = let d = import_drawable τ file i h in (drawing_bytes d.drawing, d.drawn)

-- The list that is written beside it names each point's vertex, counted from 1 as in the file.
pub import_list : (file : List ℕ) (i : Import) → imported file ≡ good i → (p : ℕ) → 0 < p → p ≤ (net_of file).n → nth i.list p 0 ≡ suc (vertex_of (net_of file) p)
import_list file i h p low high =
    let q = import_passed file i h in
    let o = always file q.formed q.taken in
    ap (λ (i : Import). nth i.list p 0) (sym q.is) ∙ at_map suc (vertices (points (net_of file))) (pred p) (omega (arith, o.count_is))
