-- `periods::order::Modulus::power` meets its contract: r is 2 to the digits of e read so far, and each turn squares it and takes one digit more.
use Rattle.std.proofs.Common.{◌≡◌, ◌/◌, ◌%◌, ◌^◌, ◌<◌}
use Rattle.periods.proofs.order.Modulus.power.Given as goal

abbrev pub invariant-loop-i : goal.invariant-loop-i
invariant-loop-i l = (l.r ≡ 2 ^ (l.e / 2 ^ l.i) % l.c) × (l.r < l.c)
