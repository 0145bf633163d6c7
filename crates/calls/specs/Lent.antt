-- What a call over a lent module tells, and leaves in the module's place, by what it gives by value.
--
--    Lent d r after     the call that gives d: it tells r, and leaves the module after
--    Asked a r m        the question that gives a, asked of the module m: it tells r
--    Looked b r after   the block that gives b: it tells r, and leaves the module after
--    undriven           no pin is driven
--    Told d r m         the question what is driven, which gives d, asked of the module m: it tells r
use Rattle.std.specs.Prelude.{◌≡◌, Bool, false, Result}
use Rattle.std.specs.Result.{result_unwrap_or}
use Rattle.numbers.specs.declared.Refusal.{Refusal}
use Rattle.numbers.specs.Refusals.{told}
use Rattle.state.specs.declared.Module.{Module}
use Rattle.calls.specs.declared.Done.{Done}
use Rattle.calls.specs.declared.Answered.{Answered}
use Rattle.calls.specs.declared.Block.{Block}
use Rattle.calls.specs.declared.Driven.{Driven}
use Rattle.calls.specs.declared.lent.Made.{Made}
use Rattle.calls.specs.declared.lent.Levels.{Levels}

abbrev pub Lent : Done → Result Unit Refusal → Module → Type 0
Lent d r after = (told r ≡ d.number) × (after ≡ d.after)

abbrev pub Asked : Answered → Result Bool Refusal → Module → Type 0
Asked a r m = (told r ≡ a.number) × (result_unwrap_or r false ≡ a.yes) × (m ≡ a.after)

abbrev pub Looked : Block → Made → Module → Type 0
Looked b r after = (told r.outcome ≡ b.number) × (r.done ≡ b.done) × (after ≡ b.after)

abbrev pub undriven : Levels
undriven = record { driven = 0; level = 0 }

abbrev pub Told : Driven → Result Levels Refusal → Module → Type 0
Told d r m = (told r ≡ d.number) × ((result_unwrap_or r undriven).driven ≡ d.driven) × ((result_unwrap_or r undriven).level ≡ d.level) × (m ≡ d.after)
