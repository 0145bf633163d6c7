-- NO SILENT LOSS, for every past: RELINT is set exactly when a change was lost since the restart or since it was last cleared.
--
--    relint_exact      RELINT is set exactly when a loss is unreported
--    all_unreported    with no write that clears RELINT since the restart, every loss is
--    no_silent_loss    so then RELINT is set exactly when a change was lost since the restart
-- Assumes nothing.
use Prim.Native.Nat.{ℕ}
use mathlib.Core.Path.{◌≡◌, refl, sym, ap, ◌∙◌}
use mathlib.Core.Bool.{Bool, true, false, cond, ◌&&◌, ◌||◌}
use mathlib.Core.List.{List, [], ◌∷◌, ◌++◌}
use lib.Dec.{ltb}
use lib.ListN.{length, length-append}
use Rattle.words.specs.Words.{some, bit, without}
use Rattle.registers.specs.declared.Register.TheVariants.{KBDSIZE, KBDIC}
use Rattle.registers.specs.Registers.{◌is◌}
use Rattle.sheet.specs.Sheet.{Past, looked, wrote, got, beside, cleared, changes, waiting, relint}
use Rattle.sheet.specs.Ledger.{taken, Arrival, kept, lost, coming, arrivals, unreported, acknowledged}
use Rattle.words.proofs.Lists.{some_append}
use Rattle.sheet.proofs.Facts.{waiting_most}
use Rattle.sheet.proofs.Arrivals.{lost_append, lost_arriving}
use Rattle.sheet.proofs.Ledger.{ledger, count_waiting}

-- a look loses a change exactly when more come than there is room for
loss_look : (s : List ℕ) (past : Past) → ltb 15 (length (waiting past ++ changes s past)) ≡ some (lost (coming (arrivals past) s past))
unfolding coming
loss_look s past =
    rw (count_waiting (taken past) (waiting past) (kept (arrivals past)) (ledger past), length-append (waiting past) (changes s past))
    (sym (lost_arriving (length (waiting past)) (changes s past) (waiting_most past)))

-- a byte written: a restart and bit 1 of KBDIC clear both sides
loss_write : (size ic one : Bool) (f : Bool) (l : List ℕ) → f ≡ some l → cond size false (cond ic (cond one false f) f) ≡ some (cond (size || (ic && one)) [] l)
unfolding some
loss_write true ic one f l e = refl
loss_write false true true f l e = refl
loss_write false true false f l e = e
loss_write false false one f l e = e

-- RELINT is set exactly when a change was lost since the restart or the last KBDIC write with bit 1
pub relint_exact : (past : Past) → relint past ≡ some (unreported past)
unfolding relint unreported some cleared without
relint_exact [] = refl
relint_exact (looked s ∷ past) =
    (λ i. relint_exact past i || loss_look s past i) ∙ sym (some_append (unreported past) (lost (coming (arrivals past) s past)))
relint_exact (wrote r b ∷ past) = loss_write (r is KBDSIZE) (r is KBDIC) (bit 1 b) (relint past) (unreported past) (relint_exact past)
relint_exact (got r ∷ past) = relint_exact past
relint_exact (beside e ∷ past) = relint_exact past

all_write : (size ack : Bool) (u : List ℕ) (a : List Arrival) (before : Bool) → (before ≡ false → u ≡ lost a) → cond size false (before || ack) ≡ false
    → cond (size || ack) [] u ≡ lost (cond size [] a)
unfolding lost
all_write true ack u a before h e = refl
all_write false true u a true h e = cc
all_write false true u a false h e = cc
all_write false false u a true h e = cc
all_write false false u a false h e = h refl

pub all_unreported : (past : Past) → acknowledged past ≡ false → unreported past ≡ lost (arrivals past)
unfolding acknowledged unreported arrivals lost
all_unreported [] e = refl
all_unreported (looked s ∷ past) e = rw (all_unreported past e) (sym (lost_append (arrivals past) (coming (arrivals past) s past)))
all_unreported (wrote r b ∷ past) e = all_write (r is KBDSIZE) (r is KBDIC && bit 1 b) (unreported past) (arrivals past) (acknowledged past) (all_unreported past) e
all_unreported (got r ∷ past) e = all_unreported past e
all_unreported (beside x ∷ past) e = all_unreported past e

-- no acknowledging write since the restart: RELINT is set exactly when a change was lost since the restart
pub no_silent_loss : (past : Past) → acknowledged past ≡ false → relint past ≡ some (lost (arrivals past))
no_silent_loss past e = relint_exact past ∙ ap some (all_unreported past e)
