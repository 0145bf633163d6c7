-- EVERY DEFINITION of the crate and of the crates below, opened by one name: a proof by computing says `unfolding opened`.
use mathlib.Core.Bool.{Bool, true}
use Rattle.words.proofs.Opened as words
use Rattle.bits.specs.Bits.{below, bits_of, spelled, front, value, number, numbers, bytes_for, in_bytes, bits_from, laid}

unfoldable pub opened : Bool
unfolding words.opened
    below bits_of spelled front value number numbers bytes_for in_bytes bits_from laid
opened = true
