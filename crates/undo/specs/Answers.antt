-- The answers of the questions, and how the module's own answers are told as these.
--
--    Stand        what stands at a place: a finished group, by its first place and the place after its last; one that is open, by its
--                 first place; the end of the list; or nothing is told, and the number says why
--    Walked       what the walk has handed out: its number, how many groups, and the first place of the open tail
--    stood x      what the module found at a place, as a Stand; answered x: the same where it may have declined the question
--    walked x     what the module's walk handed out, or why it didn't, as a Walked
use Rattle.std.specs.Prelude.{ℕ, Result, Ok, Err}
use Rattle.numbers.specs.Numbers.{done}
use Rattle.numbers.specs.declared.Refusal.{Refusal}
use Rattle.numbers.specs.Refusals.{number}
use Rattle.undo.specs.declared.Stand as found
use Rattle.undo.specs.declared.Stand.TheVariants as found-
use Rattle.undo.specs.declared.Walked as handed

pub data Stand : Type 0 where
  Group : ℕ → ℕ → Stand
  Open : ℕ → Stand
  Nothing : Stand
  Declined : ℕ → Stand

pub record Walked : Type 0 where
  pub number : ℕ
  pub groups : ℕ
  pub tail : ℕ

abbrev pub stood : found.Stand → Stand
stood (found-.Group f e) = Group f e
stood (found-.Open p) = Open p
stood found-.Nothing = Nothing

abbrev pub answered : Result found.Stand Refusal → Stand
answered (Ok x) = stood x
answered (Err r) = Declined (number r)

abbrev pub walked : Result handed.Walked Refusal → Walked
walked (Ok w) = record { number = done; groups = w.groups; tail = w.tail }
walked (Err r) = record { number = number r; groups = 0; tail = 0 }
