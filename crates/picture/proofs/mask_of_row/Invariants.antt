-- `picture::mask_of_row` meets its contract. The loop's invariant: the mask is that of the row's keys behind those that are left.
use Prim.Native.Nat.{◌*◌}
use lib.ListN.{take, drop}
use Rattle.picture.proofs.Rows.{MaskFrom}
use Rattle.picture.proofs.mask_of_row.Given as goal

abbrev pub invariant-loop-held : goal.invariant-loop-held
invariant-loop-held l = MaskFrom (take 13 (drop (13 * l.row) l.table)) l.held-iterator.iter.rest.now l.mask
