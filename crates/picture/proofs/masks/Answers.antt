-- `picture::masks` meets its contract: a mask for each row, and `order_by_masks`.
use mathlib.Core.Path.{◌≡◌, sym, ap, ◌∙◌}
use mathlib.Core.List.{[], ◌∷◌}
use borrow.Author.Rules.{rules}
use Rattle.words.specs.Words.{table}
use Rattle.picture.specs.Masks.{masks, by_masks}
use Rattle.picture.proofs.Rows.{order_by_masks}
use Rattle.picture.proofs.masks.Goals as goal

pub returns : goal.returns
unfolding masks table
returns c =
    let held = c.args.held.now in
    let e : _ ≡ masks held = λ i. c.mask_of_row.ensures i ∷ c.mask_of_row-2.ensures i ∷ c.mask_of_row-3.ensures i ∷ c.mask_of_row-4.ensures i ∷ c.mask_of_row-5.ensures i ∷ c.mask_of_row-6.ensures i ∷ c.mask_of_row-7.ensures i ∷ c.mask_of_row-8.ensures i ∷ [] in
    (e, ap (by_masks 0) e ∙ sym (order_by_masks held (search rules)))
