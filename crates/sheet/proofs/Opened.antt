-- EVERY DEFINITION of the crate and of the crates below, opened by one name: a proof by computing says `unfolding opened`.
use mathlib.Core.Bool.{Bool, true}
use Rattle.keys.proofs.Opened as keys
use Rattle.contact.proofs.Opened as contact
use Rattle.registers.proofs.Opened as registers
use Rattle.pins.specs.Rules as pins
use Rattle.sheet.specs.Ledger.{code_got, taken, room, arriving, codes, kept, lost, coming, arrivals, demanded, unreported, acknowledged}
use Rattle.sheet.specs.Sheet.{cleared, bounce, size, mask, history, held, changed, change, changes_below, changes, waiting, relint, all_read, marks, rsint, rklint, kept_at, pin_samples, newest, pending, driven, levels, flags, revtint, ris, mis, porirq, raised, line, irqst, held_below, nth, picture, oldest, byte_of, settling, settling_below, calm, quiet_looks, quiet, asleep}

unfoldable pub opened : Bool
unfolding keys.opened contact.opened registers.opened
    pins.used pins.after_reset pins.bank pins.paired pins.drives pins.shows pins.edge pins.clears pins.word pins.byte_by pins.is_data pins.reads
    code_got taken room arriving codes kept lost coming arrivals demanded unreported acknowledged
    cleared bounce size mask history held changed change changes_below changes waiting relint all_read marks rsint rklint
    kept_at pin_samples newest pending driven levels flags revtint ris mis porirq raised line irqst held_below nth picture oldest byte_of
    settling settling_below calm quiet_looks quiet asleep
opened = true
