-- The number of cells: floor(log2 n) is the k with 2^k ≤ n < 2·2^k.
use Rattle.std.proofs.Common.{◌≡◌, ℕ, suc, ◌*◌, ◌^◌, ◌≤◌, ◌<◌, inl, inr, arith, pow_mono, pow-suc}
use Rattle.integers.specs.Numbers.{log2}
use Rattle.integers.proofs.Finite.{lt_or_ge}
use Rattle.integers.proofs.Log2.{log2-below, log2_upper}

pub log2_is : (n k : ℕ) → 1 ≤ n → 2 ^ k ≤ n → n < 2 * 2 ^ k → k ≡ log2 n
log2_is n k s l u =
    let above : n < 2 ^ suc k = rw (pow-suc 2 k) (omega arith) in
    let most : log2 n < suc k = log2-below (suc k) n s above in
    elim (lt_or_ge (log2 n) k) [
      | inl h ↦ absurd (omega (arith, log2_upper n, pow_mono {i = suc (log2 n)} {j = k} h))
      | inr h ↦ omega arith
    ]
