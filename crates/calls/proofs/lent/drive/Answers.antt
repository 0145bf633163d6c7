-- `calls::lent::drive` meets its contract: declined for an unsound state, or done.
use mathlib.Core.Path.{◌≡◌}
use borrow.Author.Rules.{rules}
use Rattle.std.specs.Prelude.{Err}
use Rattle.pins.specs.Pins.{bit_of, driven, levels}
use Rattle.calls.specs.Calls.{drive_call}
use Rattle.calls.proofs.Laws.{drive_done, drive_declined}
use Rattle.calls.proofs.lent.drive.Goals as goal

pub returns-in_err-of_state : goal.returns-in_err-of_state
unfolding drive_call
returns-in_err-of_state c =
    let r = c.in_err-of_state.field-0.0 in
    let same : c.from_residual.result ≡ Err r = search rules in
    rw same (drive_declined c.args.m.now _ r c.in_err-of_state.ensures)

pub returns : goal.returns
unfolding drive_call driven levels bit_of
returns c = drive_done _ _ _ _ c.word.ensures c.word-2.ensures c.in_ok-of_state.ensures
