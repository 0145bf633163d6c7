-- `undo::of_list` meets its contract: how far the codes are good, and agree, decides.
use native.Mathlib.Omega.{arith}
use mathlib.Core.Path.{sym}
use Rattle.undo.proofs.Judged.{trim_no, code_no, change_no, list_yes}
use Rattle.undo.proofs.of_list.Goals as goal
use Rattle.undo.proofs.of_list.Goals.{then-not-is_trim-via-then-not-is_trim, then-not-is_trim-via-else-not-is_trim+then-good-codes}

pub returns-then-not-is_trim : goal.returns-then-not-is_trim
returns-then-not-is_trim c =
    elim c.then-not-is_trim.branch [
      | then-not-is_trim-via-then-not-is_trim w ↦ trim_no _ _ (sym w.if-not-is_trim.ensures)
      | then-not-is_trim-via-else-not-is_trim+then-good-codes w ↦ let good = w.good.ensures.0 in code_no _ _ (sym w.if-not-is_trim.ensures) (omega (arith, good, w.if-good-codes.true))
    ]

pub returns-then-agreeing-codes : goal.returns-then-agreeing-codes
returns-then-agreeing-codes c =
    let good = c.good.ensures.0 in
    let agree = c.agreeing.ensures.0 in
    change_no _ _ (sym c.if-not-is_trim.ensures) (omega (arith, good, c.if-good-codes.false)) (omega (arith, agree, c.if-agreeing-codes.true))

pub returns : goal.returns
returns c =
    let good = c.good.ensures.0 in
    let agree = c.agreeing.ensures.0 in
    list_yes _ _ (sym c.if-not-is_trim.ensures) (omega (arith, good, c.if-good-codes.false)) (omega (arith, agree, c.if-agreeing-codes.false))
