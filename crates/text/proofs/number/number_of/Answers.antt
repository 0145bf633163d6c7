use Rattle.std.proofs.Common.{arith, refl, ◌∙◌}
use Rattle.std.proofs.lemmas.Grind.{common_steps}
use Rattle.std.proofs.lemmas.Result.{err_from_is_err_and}
use Rattle.text.proofs.Laws.{digits_end, digits_no, digits_yes, told_end, told_yes, number_none, number_no_digit, number_large, number_value}
use Rattle.text.proofs.number.number_of.Goals as goal

pub returns-then-is_empty : goal.returns-then-is_empty
returns-then-is_empty c = number_none _ _ _ (grind (arith, common_steps))

pub returns-in_err-digit_in : goal.returns-in_err-digit_in
returns-in_err-digit_in c =
    let l = c.loop-byte in
    let f = c.in_err-digit_in.ensures in
    let p = err_from_is_err_and c.from_residual.result c.from_residual.ensures.1 in
    rw (p.1, p.2, f.0) (number_no_digit _ _ _ (grind (arith, common_steps)) (l.invariant.1 ∙ digits_no _ _ l.byte-index c.loop-byte-test.true _ refl f.1))

pub loop-byte-preserved : goal.loop-byte-preserved
loop-byte-preserved c =
    let l = c.loop-byte in
    let h = c.loop-byte-test.true in
    let d = c.in_ok-digit_in.ensures in (
      omega arith,
      l.invariant.1 ∙ digits_yes _ _ l.byte-index h _ d.0 d.1,
      l.invariant.2 ∙ told_yes _ _ l.value _ l.byte-index h _ d.0 d.1 _ c.min-value.ensures,
    )

pub returns-then-value-over : goal.returns-then-value-over
returns-then-value-over c =
    let l = c.loop-byte in
    let e = l.invariant.2 ∙ told_end _ _ l.value _ l.byte-index c.loop-byte-test.false l.invariant.0 in
    number_large _ _ _ (grind (arith, common_steps)) (l.invariant.1 ∙ digits_end _ _ l.byte-index c.loop-byte-test.false) (omega (arith, e, c.if-value-over.true))

pub returns-else-value-over : goal.returns-else-value-over
returns-else-value-over c =
    let l = c.loop-byte in
    let e = l.invariant.2 ∙ told_end _ _ l.value _ l.byte-index c.loop-byte-test.false l.invariant.0 in
    number_value _ _ _ (grind (arith, common_steps)) (l.invariant.1 ∙ digits_end _ _ l.byte-index c.loop-byte-test.false) _ (omega (arith, e)) (omega arith)
