-- `pins::Pins::word` meets its contract. The loop's invariant: the word is that of the pins from here to the last.
use mathlib.Core.Path.{◌≡◌}
use lib.ListN.{drop}
use Rattle.words.specs.Words.{table}
use Rattle.words.specs.Bits.{binary}
use Rattle.pins.specs.Pins.{bit_of}
use Rattle.pins.proofs.Pins.word.Given as goal

abbrev pub invariant-loop-pin : goal.invariant-loop-pin
invariant-loop-pin l = l.word ≡ binary (drop l.pin (table (bit_of l.what l.self.kept l.self.edge l.self.level l.size) 19))
