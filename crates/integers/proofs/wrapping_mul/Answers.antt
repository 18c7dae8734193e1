-- `integers::wrapping_mul` meets its contract: what its products and its sum ensure, joined by the law of products by halves.
use Rattle.std.proofs.Common.{◌≡◌, ℕ, ◌+◌, ◌*◌, ◌/◌, ◌%◌, ap, ◌∙◌, ap₂, div-add-mod', refl}
use Rattle.integers.proofs.Modulo.{mul_halves}
use Rattle.integers.proofs.wrapping_mul.Goals as goal

joined : (H a b u v w r : ℕ) → u ≡ a / H * (b % H) → v ≡ a % H * (b / H) → w ≡ a % H * (b % H)
    → r ≡ (w + (u % H + v % H) % H * H) % (H * H) → r ≡ a * b % (H * H)
joined H a b u v w r eu ev ew e =
    e ∙ ap₂ (λ (x y : ℕ). (w + (x % H + y % H) % H * H) % (H * H)) eu ev
    ∙ ap (λ (x : ℕ). (x + (a / H * (b % H) % H + a % H * (b / H) % H) % H * H) % (H * H)) ew
    ∙ mul_halves H (a / H) (a % H) (b / H) (b % H)
    ∙ ap₂ (λ (x y : ℕ). x * y % (H * H)) (div-add-mod' a H) (div-add-mod' b H)

pub returns : goal.returns
returns c = joined 4294967296 _ _ _ _ _ _ c.product.ensures c.product-2.ensures c.product-3.ensures refl
