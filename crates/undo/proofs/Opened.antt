-- EVERY DEFINITION of the crate and of the crates below, opened by one name: a proof by computing says `unfolding opened`.
use mathlib.Core.Bool.{Bool, true}
use Rattle.numbers.proofs.Opened as numbers
use Rattle.codes.proofs.Opened as codes
use Rattle.undo.specs.Groups.{more, closes, cut, groups_of, joined, last_is, ends_with_release}
use Rattle.undo.specs.Stands.{values_of, tail_from, marks_from, marks_of, begins, stand_at, is_trim, lines, stands_by, stands, first_in, end_in}
use Rattle.undo.specs.Walk.{ends_from, walk_lines, handed, walk_by, walk_call, over, walk_buffer}

unfoldable pub opened : Bool
unfolding numbers.opened codes.opened
    more closes cut groups_of joined last_is ends_with_release
    values_of tail_from marks_from marks_of begins stand_at is_trim lines stands_by stands first_in end_in
    ends_from walk_lines handed walk_by walk_call over walk_buffer
opened = true
