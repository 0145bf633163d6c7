use native.Mathlib.Omega.{arith}
use mathlib.Core.Path.{sym, ap, ◌∙◌}
use lib.ListN.{length}
use borrow.Author.Rules.{rules}
use Rattle.std.proofs.lemmas.Result.{err_from_is_err_and}
use Rattle.numbers.specs.Numbers.{number_of}
use Rattle.numbers.proofs.Laws.{refused}
use Rattle.numbers.specs.Refusals.{number}
use Rattle.carry.specs.Carried.{records}
use Rattle.carry.specs.Writer.{list_lines}
use Rattle.carry.proofs.Lists.{begun_all}
use Rattle.carry.proofs.Writing.{list_none, list_next, list_declined, records_none, place_next}
use Rattle.carry.proofs.writer.measured.Goals as goal

pub returns-in_err-of_call-clause-number : goal.returns-in_err-of_call-clause-number
returns-in_err-of_call-clause-number c =
    let l = c.loop-i in
    let r = c.in_err-of_call.field-0.0 in
    let p = err_from_is_err_and c.from_residual.result c.from_residual.ensures.1 in
    rw (p.1, p.2) (list_declined c.args.calls.now l.i _ c.call_at-call.ensures (number r) c.loop-i-test.true l.invariant.none c.in_err-of_call.ensures (refused r))

pub loop-i-init : goal.loop-i-init
loop-i-init c =
    let ws = c.args.calls.now in
    record { low = search rules; few = search rules; none = list_none ws; behind = sym (ap length (records_none ws)) }

pub loop-i-preserved : goal.loop-i-preserved
loop-i-preserved c =
    let l = c.loop-i in
    let ws = c.args.calls.now in
    let at = c.call_at-call.ensures in
    let size = c.bits_of.ensures in
    let there = c.behind-place.ensures in
    record {
      low = there.1;
      few = omega (arith, l.invariant.few, l.invariant.low, size.2, there);
      none = list_next ws l.i _ at l.invariant.none (sym c.in_ok-of_call.ensures);
      behind = place_next ws l.i _ at l.invariant.behind there.0 size.0;
    }

pub returns-clause-number : goal.returns-clause-number
returns-clause-number c =
    let l = c.loop-i in
    let all = begun_all c.args.calls.now l.i (omega (arith, l.auto.i-end, c.loop-i-test.false)) in
    sym l.invariant.none ∙ ap (λ cs. number_of (list_lines cs)) all

pub returns-clause-place : goal.returns-clause-place
returns-clause-place c =
    let l = c.loop-i in
    let all = begun_all c.args.calls.now l.i (omega (arith, l.auto.i-end, c.loop-i-test.false)) in
    (l.invariant.low, omega (arith, l.invariant.few, l.auto.i-end), l.invariant.behind ∙ ap (λ cs. length (records cs)) all)
