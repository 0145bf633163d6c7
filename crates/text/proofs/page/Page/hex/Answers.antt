-- `Page::hex` meets its contract: the one digit, and behind it the other.
use Rattle.std.proofs.Common.{◌%◌, ap, ◌∙◌, arith}
use Rattle.text.specs.declared.page.Page.{Page}
use Rattle.text.specs.Pages.{glyph, put, two_digits, wrote}
use Rattle.text.proofs.page.Page.hex.Goals as goal

pub returns : goal.returns
unfolding wrote two_digits
returns c = (c.digit-2.ensures.0 ∙ ap (λ (p : Page). put p (glyph (c.args.byte % 16))) c.digit.ensures.0, omega arith)
