-- `calls::lent::held` meets its contract: each return is declined at its line, or done.
use Prim.Native.Nat.{ℕ}
use native.Mathlib.Omega.{arith}
use mathlib.Core.Path.{◌≡◌, sym, ◌∙◌, ap}
use mathlib.Core.Bool.{false}
use lib.ListN.{get_or}
use borrow.Author.Rules.{rules}
use Rattle.std.specs.Prelude.{Err}
use Rattle.judge.proofs.Laws.{key_there}
use Rattle.calls.specs.Calls.{held_lines, held_number, held_call}
use Rattle.calls.proofs.Laws.{state_err, state_ok, answer_done, answer_declined}
use Rattle.calls.proofs.lent.held.Goals as goal

pub returns-in_err-of_state : goal.returns-in_err-of_state
unfolding held_call held_number held_lines
returns-in_err-of_state c =
    let r = c.in_err-of_state.field-0.0 in
    let same : c.from_residual.result ≡ Err r = search rules in
    rw same (answer_declined c.args.m.now _ _ r (state_err _ _ r c.in_err-of_state.ensures))

pub returns-in_err-of_key : goal.returns-in_err-of_key
unfolding held_call held_number held_lines
returns-in_err-of_key c =
    let r = c.in_err-of_key.field-0.0 in
    let same : c.from_residual-in_err-of_key.result ≡ Err r = search rules in
    rw same (answer_declined c.args.m.now _ _ r (c.in_err-of_key.ensures ∙ state_ok _ _ c.in_ok-of_state.ensures))

pub bounds-m-key_at : goal.bounds-m-key_at
bounds-m-key_at c = omega (arith, c.key_at.ensures, key_there _ _ (sym c.in_ok-of_key.ensures))

pub returns : goal.returns
unfolding held_call held_number held_lines
returns c =
    let m = c.args.m.now in
    answer_done m _ _ _ (ap (λ (k : ℕ). get_or m.held k false) c.key_at.ensures) (c.in_ok-of_key.ensures ∙ state_ok _ _ c.in_ok-of_state.ensures)
