-- EVERY DEFINITION of the crate and of the crates below, opened by one name: a proof by computing says `unfolding opened`.
use mathlib.Core.Bool.{Bool, true}
use Rattle.state.proofs.Opened as state
use Rattle.flags.specs.Flags.{weigh, ris, mis, line, irqst}

unfoldable pub opened : Bool
unfolding state.opened
    weigh ris mis line irqst
opened = true
