-- What holds of every key, row by row: f tells it of a key's number, g of the columns of one row.
--
--    rows_yes   it holds of the rows below and of this one
--    rows_no    it fails in this row, and so it doesn't hold of all keys
-- Assumes nothing.
use Prim.Native.Nat.{ℕ, ◌+◌, ◌*◌, ◌<◌}
use native.Mathlib.Omega.{arith}
use mathlib.Core.Path.{◌≡◌, ap, ◌∙◌}
use mathlib.Core.Bool.{Bool, true, false}
use Rattle.words.specs.Words.{all_below}
use Rattle.words.proofs.Laws.{below_split, below_same, below_still}

module _ (f g : ℕ → Bool) (row : ℕ) (h : row < 8) (same : (col : ℕ) → col < 13 → f (13 * row + col) ≡ g col) (below : all_below f (13 * row) ≡ true) where
  row_all : all_below f (13 * row + 13) ≡ all_below g 13
  row_all = below_split f (13 * row) 13 ∙ rw below (below_same (λ j. f (13 * row + j)) g 13 same)

  pub rows_yes : all_below g 13 ≡ true → all_below f (13 * (row + 1)) ≡ true
  rows_yes e = ap (all_below f) (omega arith) ∙ row_all ∙ e

  pub rows_no : all_below g 13 ≡ false → all_below f 104 ≡ false
  rows_no e = below_still f (13 * row + 13) 104 (omega arith) (row_all ∙ e)
