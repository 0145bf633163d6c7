-- EVERY DEFINITION of the crate and of the crates below, opened by one name: a proof by computing says `unfolding opened`.
use mathlib.Core.Bool.{Bool, true}
use Rattle.words.proofs.Opened as words
use Rattle.pins.proofs.Opened as pins
use Rattle.state.specs.Module.{forgotten, fresh, restarted}
use Rattle.state.specs.Queue.{waiting, waits, put, put_all, oldest, shifted, taken}
use Rattle.state.specs.Sleep.{counted}

unfoldable pub opened : Bool
unfolding words.opened pins.opened
    forgotten fresh restarted
    waiting waits put put_all oldest shifted taken
    counted
opened = true
