-- What C is told of undo groups, in words.
--
--    kind_of x       which kind of answer x is: 0 declined, 1 a finished group, 2 an open one, 3 the end of the list
--    of_stand x      the answer x: document 02's number and values, and the kind
--    part_of x       the part of the list that x leads to, by its first place and its length
--    of_walked w     what the walk has handed out
use Rattle.std.specs.Prelude.{ℕ, ◌-◌}
use Rattle.undo.specs.Answers.{Stand, Group, Open, Nothing, Declined, Walked}
use Rattle.undo.specs.Stands.{values_of, first_in, end_in}
use Rattle.groups.specs.declared.Standing.{Standing}
use Rattle.groups.specs.declared.Part.{Part}
use Rattle.groups.specs.declared.Handed.{Handed}

unfoldable pub kind_of : Stand → ℕ
kind_of (Group f e) = 1
kind_of (Open p) = 2
kind_of Nothing = 3
kind_of (Declined n) = 0

unfoldable pub of_stand : Stand → Standing
of_stand x = record { number = (values_of x).number; kind = kind_of x; first = (values_of x).first; end = (values_of x).end }

unfoldable pub part_of : Stand → Part
part_of x = record { number = (values_of x).number; first = first_in x; length = end_in x - first_in x }

unfoldable pub of_walked : Walked → Handed
of_walked w = record { number = w.number; groups = w.groups; tail = w.tail }
