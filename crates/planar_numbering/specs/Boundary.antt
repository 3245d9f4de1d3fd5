-- The boundary without the vertex that comes off: its entries stand there in place of it and the two beside it.
use Rattle.std.specs.Prelude.{ℕ, ◌+◌, ◌<◌, ◌≤◌, ◌≡◌, List, ◌++◌, length, get_or, take, drop}
use Rattle.std.proofs.Common.{ap, sym, ◌∙◌, arith, get_or-take, length-take-le, length-append, take_at, append_assoc}
use Rattle.std.proofs.lemmas.Slice.{take-put_mid}
use borrow.Rule.Slice.PartMut.{put_mid, post_of}
use Rattle.planar_order.specs.Model.{Distinct}
use Rattle.planar_choosing.specs.Rows.{Apart}

-- an array that begins with a list of different vertices has them all different
pub begins_apart : (w vertices : List ℕ) (c : ℕ) → Distinct w → c ≤ length vertices → take c vertices ≡ w → Apart vertices c
begins_apart w vertices c d l e x y xl yl q =
    let long : length w ≡ c = sym (ap length e) ∙ length-take-le c vertices l in
    let at : (i : ℕ) → i < c → get_or w i 0 ≡ get_or vertices i 0 = λ i il. ap (λ t. get_or t i 0) (sym e) ∙ get_or-take c vertices i 0 il in
    d x y (omega (arith, long)) (omega (arith, long)) (at x xl ∙ q ∙ sym (at y yl))

-- what is put at the start of an array is its first part
pub put_first : (ys zs : List ℕ) (a : ℕ) {A : List ℕ} → ys ≡ A → length A ≡ a → take a (ys ++ drop a zs) ≡ A
put_first ys zs a e l = take_at ys (drop a zs) a (ap length e ∙ l) ∙ e

pub first_long : (ys zs : List ℕ) (a : ℕ) {A : List ℕ} → ys ≡ A → length A ≡ a → a ≤ length (ys ++ drop a zs)
first_long ys zs a e l = omega (arith, length-append ys (drop a zs), ap length e, l)

-- an array is as long as what is put into it reaches
put_long : (a k : ℕ) (xs ys : List ℕ) (n : ℕ) → n ≡ a + length ys → a ≤ length xs → n ≤ length (put_mid a k xs ys)
put_long a k xs ys n e l = omega (arith, length-append (take a xs) (ys ++ post_of a k xs), length-append ys (post_of a k xs), length-take-le a xs l)

-- three lists put into an array one behind another
module _ (zs ys₁ ys₂ ys₃ : List ℕ) (a b c k₂ k₃ : ℕ) {A B C : List ℕ} (e₁ : ys₁ ≡ A) (e₂ : ys₂ ≡ B) (e₃ : ys₃ ≡ C)
    (al : length A ≡ a) (bl : b ≡ a + length B) (cl : c ≡ b + length C) where
  abbrev one : List ℕ
  one = ys₁ ++ drop a zs

  abbrev two : List ℕ
  two = put_mid a k₂ one ys₂

  one_long : a ≤ length one
  one_long = first_long ys₁ zs a e₁ al

  two_long : b ≤ length two
  two_long = put_long a k₂ one ys₂ b (omega (arith, bl, ap length e₂)) one_long

  pub three_long : c ≤ length (put_mid b k₃ two ys₃)
  three_long = put_long b k₃ two ys₃ c (omega (arith, cl, ap length e₃)) two_long

  pub put_three : take c (put_mid b k₃ two ys₃) ≡ A ++ (B ++ C)
  put_three =
      take-put_mid b k₃ two ys₃ c (omega (arith, cl, ap length e₃)) two_long ∙
      ap (λ t. t ++ ys₃) (take-put_mid a k₂ one ys₂ b (omega (arith, bl, ap length e₂)) one_long ∙ ap (λ t. t ++ ys₂) (put_first ys₁ zs a e₁ al)) ∙
      ap (λ t. (A ++ ys₂) ++ t) e₃ ∙ ap (λ t. (A ++ t) ++ C) e₂ ∙ append_assoc A B C
