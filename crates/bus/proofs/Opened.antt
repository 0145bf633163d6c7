-- EVERY DEFINITION of the crate and of the crates below, opened by one name: a proof by computing says `unfolding opened`.
use mathlib.Core.Bool.{Bool, true}
use Rattle.demands.proofs.Opened as demands
use Rattle.wire.specs.Wire.{readable, longest, least, shared, filled, opened as openedWire, idle, ahead, begin_read, begin_write, take_byte, has_more, next_byte, sent, agreed, counted, stop, drop_open}
use Rattle.bus.specs.Bus.{told, heard, hears, restarts, emptied, goes_on, story, state, fit, mild, proper, sending, asking}
use Rattle.bus.specs.Ours.{nameless, rouses, twice, access_of, made, moved, steps}
use Rattle.bus.specs.Wrong.{stopping, committed, single, naively, beginning, silently, hearing_none, dropping}

unfoldable pub opened : Bool
unfolding demands.opened
    readable longest least shared filled openedWire idle ahead begin_read begin_write take_byte has_more next_byte sent agreed counted stop drop_open
    told heard hears restarts emptied goes_on story state fit mild proper sending asking
    nameless rouses twice access_of made moved steps
    stopping committed single naively beginning silently hearing_none dropping
opened = true
