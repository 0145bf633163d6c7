-- EVERY DEFINITION of the crate and of the crates below, opened by one name: a proof by computing says `unfolding opened`.
use mathlib.Core.Bool.{Bool, true}
use Rattle.keys.proofs.Opened as keys
use Rattle.codes.specs.Codes.{none_down, agrees, after, down_after, leading, agreeing, opposite}

unfoldable pub opened : Bool
unfolding keys.opened none_down agrees after down_after leading agreeing opposite
opened = true
