-- What a piece of an answer leaves of an output.
--
--    Kept before after      after holds no more on its page than there is room for, and goes where before went
--    Passed before after    the same, where before held no more either: the piece may be nothing at all
use Rattle.std.specs.Prelude.{◌≡◌, ◌≤◌}
use Rattle.answers.specs.declared.out.Output.{Output}

abbrev pub Kept : Output → Output → Type 0
Kept before after = (after.page.at ≤ 256) × (after.to ≡ before.to)

abbrev pub Passed : Output → Output → Type 0
Passed before after = (before.page.at ≤ 256 → after.page.at ≤ 256) × (after.to ≡ before.to)
