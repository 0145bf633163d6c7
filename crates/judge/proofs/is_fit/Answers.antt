-- `judge::is_fit` meets its contract: a byte for KBDSIZE is asked, and one for another register is not.
use mathlib.Core.Path.{sym, ◌∙◌}
use Rattle.judge.proofs.Laws.{fits_size, fits_other}
use Rattle.judge.proofs.is_fit.Goals as goal

pub returns-in-KBDSIZE : goal.returns-in-KBDSIZE
returns-in-KBDSIZE c = c.is_acceptable.ensures ∙ sym (fits_size _ _ c.in-KBDSIZE.is)

pub returns-in_default : goal.returns-in_default
returns-in_default c = sym (fits_other _ c.args.register c.in_default.not-KBDSIZE)
