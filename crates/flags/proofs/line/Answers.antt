-- `flags::line` meets its contract: PORIRQ decides, or else KBDMIS, or else the pins.
use Prim.Native.Nat.{ℕ}
use mathlib.Core.Path.{sym, ap, ◌∙◌}
use mathlib.Core.Bool.{not}
use lib.Dec.{eqb}
use Rattle.flags.proofs.Laws.{line_porirq, line_mis, line_pins}
use Rattle.flags.proofs.line.Goals as goal
use Rattle.flags.proofs.line.Goals.{then-m, else-m}

pub returns-then-mis-ne0 : goal.returns-then-mis-ne0
returns-then-mis-ne0 c =
    let m = c.args.m.now in
    c.if-mis-ne0.true ∙ sym (elim c.if-m.branch [
      | then-m w ↦ line_porirq m w.if-m.true
      | else-m w ↦ line_mis m w.if-m.false (ap (λ (n : ℕ). not (eqb n 0)) (sym w.mis.ensures) ∙ sym w.value-is ∙ c.if-mis-ne0.true)
    ])

pub returns-else-mis-ne0 : goal.returns-else-mis-ne0
returns-else-mis-ne0 c =
    let m = c.args.m.now in
    elim c.if-m.branch [
      | then-m w ↦ cc
      | else-m w ↦ c.is_raised.ensures ∙ sym (line_pins m w.if-m.false (ap (λ (n : ℕ). not (eqb n 0)) (sym w.mis.ensures) ∙ sym w.value-is ∙ c.if-mis-ne0.false))
    ]
