-- EVERY DEFINITION of the crate and of the crates below, opened by one name: a proof by computing says `unfolding opened`.
use mathlib.Core.Bool.{Bool, true}
use Rattle.numbers.specs.Numbers.{number_of, Given}

unfoldable pub opened : Bool
unfolding number_of Given
opened = true
