-- `Page::last_digits` meets its contract: all digits but the last go on the page by the same rule, and behind them the last.
use Rattle.text.proofs.page.Page.+last_digits.Given as goal

abbrev pub decreases-last_digits : goal.decreases-last_digits
decreases-last_digits l = l.most
