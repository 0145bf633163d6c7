-- `player::bytes_of` meets its contract. The loop's invariant: the first i numbers are bytes.
use Rattle.std.proofs.Common.{◌≡◌, ℕ, ◌<◌, ◌%◌, get_or, length}
use Rattle.carry.proofs.player.bytes_of.Given as goal

abbrev pub invariant-loop-i : goal.invariant-loop-i
invariant-loop-i l = record { long : length l.bytes ≡ 32; low : (k : ℕ) → k < l.i → get_or l.bytes k 0 ≡ get_or l.values k 0 % 256 }
