-- `picture::first_code` meets its contract: another key is in the row, or the rows behind it are looked at.
use mathlib.Core.Path.{sym, ap, ◌∙◌}
use Prim.Native.Nat.{ℕ, ◌+◌, ◌*◌}
use borrow.Author.Rules.{rules}
use Rattle.picture.specs.Picture.{more}
use Rattle.picture.specs.Masks.{first_of, codes_from}
use Rattle.picture.proofs.Rows.{first_place, more_in, row_passed}
use Rattle.picture.proofs.first_code.Goals as goal

pub overflow_cast-code-2 : goal.overflow_cast-code-2
unfolding first_of
overflow_cast-code-2 c = let low = first_place c.args.mask (search rules) (search rules) in search rules

pub overflow_add-code : goal.overflow_add-code
unfolding first_of
overflow_add-code c = let low = first_place c.args.mask (search rules) (search rules) in search rules

pub overflow_add-result : goal.overflow_add-result
unfolding first_of
overflow_add-result c = let low = first_place c.args.mask (search rules) (search rules) in search rules

pub returns-then-but_first-gt0 : goal.returns-then-but_first-gt0
unfolding first_of
returns-then-but_first-gt0 c =
    let a = c.args in
    let m = c.but_first.result in
    ap (λ (k : ℕ). 16 * a.row + first_of a.mask + k) (sym (more_in a.rows.now a.row m (search rules) (search rules)) ∙ ap (λ (k : ℕ). more (codes_from a.rows.now a.row k)) c.but_first.ensures)

pub returns-else-but_first-gt0 : goal.returns-else-but_first-gt0
unfolding first_of
returns-else-but_first-gt0 c =
    let a = c.args in
    let b = c.but_first in
    ap (λ (k : ℕ). 16 * a.row + first_of a.mask + k)
    (c.more.ensures.0 ∙ ap more (sym (row_passed a.rows.now a.row b.result (search rules))) ∙ ap (λ (k : ℕ). more (codes_from a.rows.now a.row k)) b.ensures)
