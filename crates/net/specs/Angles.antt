-- Two lines leave a point at an angle that is wide enough: by their roles, over plain numbers.
-- A direction is (e - w, n - s). k is 2d - 1.
use Rattle.std.specs.Prelude.{ℕ, ◌+◌, ◌*◌, ◌<◌, ◌≤◌, ◌≡◌}
use Rattle.std.proofs.Common.{ap, sym, arith, mul-le-mul, mul-le-mul_left, mul-le-mul_right, le-mul_of_pos_right}
use Rattle.net.specs.Side.{Side, rt, lf, op}

pub record Dir : Type 0 where
  pub e : ℕ
  pub w : ℕ
  pub n : ℕ
  pub s : ℕ

abbrev pub dot⁺ : Dir → Dir → ℕ
dot⁺ a b = a.e * b.e + a.w * b.w + a.n * b.n + a.s * b.s

abbrev pub dot⁻ : Dir → Dir → ℕ
dot⁻ a b = a.e * b.w + a.w * b.e + a.n * b.s + a.s * b.n

abbrev pub cross⁺ : Dir → Dir → ℕ
cross⁺ a b = a.e * b.n + a.w * b.s + a.n * b.w + a.s * b.e

abbrev pub cross⁻ : Dir → Dir → ℕ
cross⁻ a b = a.e * b.s + a.w * b.n + a.n * b.e + a.s * b.w

-- the dot product is at most 0, or at most k times the size of the cross product
pub data Wide (k : ℕ) (a b : Dir) : Type 0 where
  dull : dot⁺ a b ≤ dot⁻ a b → Wide k a b
  left : dot⁺ a b + k * cross⁻ a b ≤ dot⁻ a b + k * cross⁺ a b → Wide k a b
  right : dot⁺ a b + k * cross⁺ a b ≤ dot⁻ a b + k * cross⁻ a b → Wide k a b

dot⁺-sym : (a b : Dir) → dot⁺ a b ≡ dot⁺ b a
dot⁺-sym a b = omega arith

dot⁻-sym : (a b : Dir) → dot⁻ a b ≡ dot⁻ b a
dot⁻-sym a b = omega arith

cross-sym : (a b : Dir) → cross⁺ a b ≡ cross⁻ b a
cross-sym a b = omega arith

exchange : (k p p' m m' c c' d d' : ℕ) → p ≡ p' → m ≡ m' → c ≡ c' → d ≡ d' → p + k * c ≤ m + k * d → p' + k * c' ≤ m' + k * d'
exchange k p p' m m' c c' d d' e f g h b = omega (arith, ap (λ n. k * n) g, ap (λ n. k * n) h)

pub wide-flip : {k : ℕ} {a b : Dir} → Wide k a b → Wide k b a
wide-flip {a = a} {b = b} (dull h) = dull (omega (arith, dot⁺-sym a b, dot⁻-sym a b))
wide-flip {k} {a} {b} (left h) = right (exchange k _ _ _ _ _ _ _ _ (dot⁺-sym a b) (dot⁻-sym a b) (sym (cross-sym b a)) (cross-sym a b) h)
wide-flip {k} {a} {b} (right h) = left (exchange k _ _ _ _ _ _ _ _ (dot⁺-sym a b) (dot⁻-sym a b) (cross-sym a b) (sym (cross-sym b a)) h)

-- the directions by roles: side port j of c; free, by x and y; middle port, aside and h down; free upwards
abbrev pub port : Side → ℕ → ℕ → Dir
port rt c j = record { e = c + 1; w = 0; n = j; s = 0 }
port lf c j = record { e = 0; w = c + 1; n = j; s = 0 }

abbrev pub free : Side → ℕ → ℕ → Dir
free rt x y = record { e = x; w = 0; n = 0; s = y }
free lf x y = record { e = 0; w = x; n = 0; s = y }

abbrev pub mid : ℕ → ℕ → ℕ → Dir
mid e w h = record { e = e; w = w; n = 0; s = h }

abbrev pub top : ℕ → ℕ → ℕ → Dir
top e w y = record { e = e; w = w; n = y; s = 0 }

-- ---- two ports on one side

ports_le : (k c i j : ℕ) → 2 * c + 1 ≤ k → i < j → j ≤ c → (c + 1) * (c + 1) + i * j + k * (i * (c + 1)) ≤ k * ((c + 1) * j)
ports_le k c i j b lt jc =
    omega (
      arith,
      mul-le-mul {n₁ = i} {m₁ = j} {n₂ = c} {m₂ = c} (omega arith) jc,
      mul-le-mul_left (k * (c + 1)) lt,
      mul-le-mul_right (c + 1) b,
    )

pub port-port : (s : Side) (k c i j : ℕ) → 2 * c + 1 ≤ k → i < j → j ≤ c → Wide k (port s c i) (port s c j)
port-port rt k c i j b lt jc = left (omega (arith, ports_le k c i j b lt jc))
port-port lf k c i j b lt jc = right (omega (arith, ports_le k c i j b lt jc))

pub port_other : (s : Side) (k c c' i j : ℕ) → i ≤ c → j ≤ c' → Wide k (port s c i) (port (op s) c' j)
port_other rt k c c' i j b b' = dull (omega (arith, mul-le-mul {n₁ = i} {m₁ = j} {n₂ = c} {m₂ = c'} b b'))
port_other lf k c c' i j b b' = dull (omega (arith, mul-le-mul {n₁ = i} {m₁ = j} {n₂ = c} {m₂ = c'} b b'))

-- ---- a port and the rest

mid_le : (k c j e w h : ℕ) → 1 ≤ k → j ≤ c → e + w ≤ h → (c + 1) * e + k * (j * w) ≤ k * ((c + 1) * h)
mid_le k c j e w h b jc eh =
    omega (
      arith,
      mul-le-mul_left (k * (c + 1)) eh,
      mul-le-mul_right ((c + 1) * e) b,
      mul-le-mul_right (k * w) jc,
    )

pub port-mid : (s : Side) (k c j e w h : ℕ) → 1 ≤ k → j ≤ c → e + w ≤ h → Wide k (port s c j) (mid e w h)
port-mid rt k c j e w h b jc eh = right (omega (arith, mid_le k c j e w h b jc eh))
port-mid lf k c j e w h b jc eh = left (omega (arith, mid_le k c j w e h b jc (omega arith)))

pub port-away : (s : Side) (k c j x y : ℕ) → Wide k (port s c j) (free (op s) x y)
port-away rt k c j x y = dull (omega arith)
port-away lf k c j x y = dull (omega arith)

free_le : (k c j x : ℕ) → 2 * c + 1 ≤ k → 0 < j → (c + 1) * x ≤ k * (j * x)
free_le k c j x b z = let h : c + 1 ≤ k = omega arith in omega (arith, mul-le-mul_right x h, mul-le-mul_left (k * x) z)

pub port-free : (s : Side) (k c j x y : ℕ) → 2 * c + 1 ≤ k → 0 < j → Wide k (port s c j) (free s x y)
port-free rt k c j x y b z = right (omega (arith, free_le k c j x b z))
port-free lf k c j x y b z = left (omega (arith, free_le k c j x b z))

top-num : (k c j : ℕ) → 2 * c + 1 ≤ k → j ≤ c → c + 1 + j + k * j ≤ k * (c + 1)
top-num k c j b jc = omega (arith, mul-le-mul_left k jc)

top_le : (k c j e y : ℕ) → 2 * c + 1 ≤ k → j ≤ c → e ≤ y → (c + 1) * e + j * y + k * (j * e) ≤ k * ((c + 1) * y)
top_le k c j e y b jc ey = omega (arith, mul-le-mul_right y (top-num k c j b jc), mul-le-mul_left (c + 1) ey, mul-le-mul_left (k * j) ey)

pub port-top : (s : Side) (k c j e w y : ℕ) → 2 * c + 1 ≤ k → j ≤ c → e ≤ y → w ≤ y → Wide k (port s c j) (top e w y)
port-top rt k c j e w y b jc ey wy = left (omega (arith, top_le k c j e y b jc ey))
port-top lf k c j e w y b jc ey wy = right (omega (arith, top_le k c j w y b jc wy))

-- ---- a middle port and the rest

pub mid-mid : (k e w e' w' h : ℕ) → 4 * h ≤ k + 1 → e ≤ h → w ≤ h → e' ≤ h → w' ≤ h → e + w' < e' + w → Wide k (mid e w h) (mid e' w' h)
mid-mid k e w e' w' h b eh wh eh' wh' lt =
    left
    (omega (
      arith,
      mul-le-mul {n₁ = e} {m₁ = e'} {n₂ = h} {m₂ = h} eh eh',
      mul-le-mul {n₁ = w} {m₁ = w'} {n₂ = h} {m₂ = h} wh wh',
      mul-le-mul_left (k * h) lt,
      mul-le-mul_right h b,
      le-mul_of_pos_right h z,
    ))
  where
    z : 0 < h
    z = omega arith

mid-free_le : (k e h x y : ℕ) → 4 * h ≤ k + 1 → e < h → y ≤ x → e * x + h * y + k * (e * y) ≤ k * (h * x)
mid-free_le k e h x y b eh yx =
    omega (
      arith,
      mul-le-mul_left h yx,
      mul-le-mul_left (k * e) yx,
      mul-le-mul_left (k * x) eh,
      mul-le-mul_right x b,
      mul-le-mul_right x eh,
    )

pub mid-free : (s : Side) (k e w h x y : ℕ) → 4 * h ≤ k + 1 → e < h → w < h → y ≤ x → Wide k (mid e w h) (free s x y)
mid-free rt k e w h x y b eh wh yx = left (omega (arith, mid-free_le k e h x y b eh yx))
mid-free lf k e w h x y b eh wh yx = right (omega (arith, mid-free_le k w h x y b wh yx))

pub mid-top : (k e w h e' w' y : ℕ) → e + w ≤ h → e' ≤ y → w' ≤ y → Wide k (mid e w h) (top e' w' y)
mid-top k e w h e' w' y b c d = dull (omega (arith, mul-le-mul_left e c, mul-le-mul_left w d, mul-le-mul_right y b))

-- ---- free ends

pub free-free : (s : Side) (k x y x' y' : ℕ) → y ≤ x → y' ≤ x' → Wide k (free s x y) (free (op s) x' y')
free-free rt k x y x' y' b c = dull (omega (arith, mul-le-mul {n₁ = y} {m₁ = y'} {n₂ = x} {m₂ = x'} b c))
free-free lf k x y x' y' b c = dull (omega (arith, mul-le-mul {n₁ = y} {m₁ = y'} {n₂ = x} {m₂ = x'} b c))

free-top_le : (k x y e w z : ℕ) → 1 ≤ k → y ≤ x → e + w ≤ z → x * e + k * (y * w) ≤ k * (x * z)
free-top_le k x y e w z b yx ez = omega (arith, mul-le-mul_left (k * x) ez, mul-le-mul_right (x * e) b, mul-le-mul_right (k * w) yx)

pub free-top : (s : Side) (k x y e w z : ℕ) → 1 ≤ k → y ≤ x → e + w ≤ z → Wide k (free s x y) (top e w z)
free-top rt k x y e w z b yx ez = left (omega (arith, free-top_le k x y e w z b yx ez))
free-top lf k x y e w z b yx ez = right (omega (arith, free-top_le k x y w e z b yx (omega arith)))
