-- `Page::put` meets its contract: the byte stands behind those used.
use Rattle.std.proofs.Common.{refl}
use Rattle.text.specs.Pages.{put}
use Rattle.text.proofs.page.Page.put.Goals as goal

pub returns : goal.returns
unfolding put
returns c = (refl, refl)
