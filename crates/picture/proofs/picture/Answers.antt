-- `picture::picture` meets its contract: the rows' masks give the held keys' codes in order.
use mathlib.Core.Path.{ap, ◌∙◌}
use Rattle.picture.specs.Picture.{nth, picture}
use Rattle.picture.proofs.picture.Goals as goal

pub returns : goal.returns
unfolding picture
returns c = c.shown.ensures ∙ ap (nth c.args.n) c.masks-rows.ensures.1
