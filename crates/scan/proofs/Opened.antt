-- EVERY DEFINITION of the crate and of the crates below, opened by one name: a proof by computing says `unfolding opened`.
use mathlib.Core.Bool.{Bool, true}
use Rattle.keys.proofs.Opened as keys
use Rattle.contact.proofs.Opened as contact
use Rattle.state.proofs.Opened as state
use Rattle.scan.specs.Scan.{sight, contact_at, changes_below, changes, settles_below, calm, contacts, noticed, looked}
use Rattle.scan.specs.Walk.{counted, shows, first_shown, at_key, at_row, at_rows, runs}

unfoldable pub opened : Bool
unfolding keys.opened contact.opened state.opened
    sight contact_at changes_below changes settles_below calm contacts noticed looked
    counted shows first_shown at_key at_row at_rows runs
opened = true
