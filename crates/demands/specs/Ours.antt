-- OUR CALLS, as a machine, with blocks of looks, and with the question what is driven.
--
--    changing d buffer, asking a    what a call and a question of crates/calls give back, as a machine's call gives it
--    called m c                     what our calls do
--    ours                           the machine
--    blocking b                     what a block of crates/calls gives back, as a machine's block gives it
--    wide                           ours, with our blocks
--    driving d                      what that question of crates/calls gives back, as a machine's gives it
--    pinned                         ours, with that question
--    as_done r after, as_answered r m, as_block r after, as_driven r m
--                                   what a call of crates/calls that is lent the module tells and leaves, as the call by value gives it
use Rattle.std.specs.Prelude.{ℕ, Bool, false, List, [], length, Result}
use Rattle.std.specs.Result.{result_unwrap_or}
use Rattle.numbers.specs.declared.Refusal.{Refusal}
use Rattle.numbers.specs.Refusals.{told}
use Rattle.state.specs.declared.Module.{Module}
use Rattle.state.specs.Module.{fresh}
use Rattle.calls.specs.declared.Done.{Done}
use Rattle.calls.specs.declared.Answered.{Answered}
use Rattle.calls.specs.declared.Block.{Block as Looked}
use Rattle.calls.specs.declared.Driven.{Driven as Told}
use Rattle.calls.specs.declared.lent.Made.{Made}
use Rattle.calls.specs.declared.lent.Levels.{Levels}
use Rattle.calls.specs.Lent.{undriven}
use Rattle.calls.specs.Calls.{reset_call, look_call, write_call, read_call, read_buffer, held_call, interrupt_call, pins_call, drive_call}
use Rattle.calls.specs.Blocks.{looks_call}
use Rattle.demands.specs.Machine.{Call, reset, look, write, read, held, interrupt, pins, Gives, Machine}
use Rattle.demands.specs.Blocks.{Block, Wide}
use Rattle.demands.specs.Pins.{Driven, Pinned}

unfoldable pub changing : Done → List ℕ → Gives Module
changing d buffer = record { number = d.number; next = d.after; buffer = buffer; answer = false }

unfoldable pub asking : Answered → Gives Module
asking a = record { number = a.number; next = a.after; buffer = []; answer = a.yes }

unfoldable pub called : Module → Call → Gives Module
called m reset = changing reset_call []
called m (look s) = changing (look_call m s) []
called m (write a bs) = changing (write_call m a bs) []
called m (read a out) = changing (read_call m a (length out)) (read_buffer m a out)
called m (held row col) = asking (held_call m row col)
called m interrupt = asking (interrupt_call m)
called m (pins x) = changing (pins_call m x) []

abbrev pub ours : Machine
ours = record { State = Module; start = fresh; parts = λ m. m; does = called }

unfoldable pub blocking : Looked → Block Module
blocking b = record { number = b.number; done = b.done; next = b.after }

abbrev pub wide : Wide
wide = record { calls = ours; looks = λ m s. blocking (looks_call m s) }

unfoldable pub driving : Told → Driven Module
driving d = record { number = d.number; next = d.after; driven = d.driven; level = d.level }

abbrev pub pinned : Pinned
pinned = record { calls = ours; drives = λ m. driving (drive_call m) }

abbrev pub as_done : Result Unit Refusal → Module → Done
as_done r after = record { after = after; number = told r }

abbrev pub as_answered : Result Bool Refusal → Module → Answered
as_answered r m = record { after = m; number = told r; yes = result_unwrap_or r false }

abbrev pub as_block : Made → Module → Looked
as_block r after = record { after = after; done = r.done; number = told r.outcome }

abbrev pub as_driven : Result Levels Refusal → Module → Told
as_driven r m = record { after = m; number = told r; driven = (result_unwrap_or r undriven).driven; level = (result_unwrap_or r undriven).level }
