-- EVERY DEFINITION of the crate and of the crates below, opened by one name: a proof by computing says `unfolding opened`.
use mathlib.Core.Bool.{Bool, true}
use Rattle.words.proofs.Opened as words
use Rattle.pins.specs.Rules.{used, after_reset, bank, paired, drives, shows, edge, clears, word, byte_by, is_data, reads}
use Rattle.pins.specs.Pins.{place, address_of, kept_in, newest_of, fresh, cleared, written, edged, sampled, raised, bit_of, edges, byte_of, driven, levels}

unfoldable pub opened : Bool
unfolding words.opened
    used after_reset bank paired drives shows edge clears word byte_by is_data reads
    place address_of kept_in newest_of fresh cleared written edged sampled raised bit_of edges byte_of driven levels
opened = true
