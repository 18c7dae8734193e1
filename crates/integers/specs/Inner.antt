-- Words of private functions; no public contract cites them.
--
--   Newton q x r   where q x is 1 modulo K, q r is 1 modulo K K, for each K whose square divides 2^64
use Rattle.std.specs.Prelude.{◌≡◌, ℕ, ◌*◌, ◌%◌, ◌^◌, ◌<◌}

abbrev pub Newton : ℕ → ℕ → ℕ → Type 0
Newton q x r = (K c : ℕ) → 1 < K → K * K * c ≡ 2 ^ 64 → q * x % K ≡ 1 → q * r % (K * K) ≡ 1
