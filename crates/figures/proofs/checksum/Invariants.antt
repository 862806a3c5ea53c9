-- `figures::checksum` is safe: a sum is below the modulus. Rests on the toolchain's library alone.
use Prim.Native.Nat.{◌<◌}
use Rattle.figures.proofs.checksum.Given as goal

abbrev pub invariant-loop-word : goal.invariant-loop-word
invariant-loop-word l = l.sum < 1000000007
