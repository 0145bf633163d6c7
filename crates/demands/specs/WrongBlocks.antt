-- WRONG BLOCKS: our calls, and blocks of looks with one thing wrong in each. None meets the demand: proofs/RefutedBlocks.antt.
--
--    with f           our calls, with these blocks
--    rolling_back     a block that stops at a look leaves the module as it was before the block
--    going_on         the looks behind a declined one are made all the same
--    judging_first    the samples of the whole block are judged before its first look
--    counting_one     the look that is declined is counted
--    late_length      the length is judged after the looks were made
--    newest_only      the last look of a block alone is made
--    mute             a block that stops at a look gives 0
use Rattle.std.specs.Prelude.{ℕ, zero, suc, ◌-◌, ◌*◌, ◌/◌, ◌%◌, List, length, take, drop, eqb}
use Rattle.words.specs.Words.{◌if◌, ◌else◌}
use Rattle.state.specs.declared.Module.{Module}
use Rattle.demands.specs.Machine.{look}
use Rattle.demands.specs.Blocks.{Block, Wide, none, one_more, singles}
use Rattle.demands.specs.Ours.{called, ours, wide}

abbrev pub with : (Module → List ℕ → Block Module) → Wide
with f = record { calls = ours; looks = f }

-- the module as it came, if the block is declined
unfoldable pub restored : Module → List ℕ → Block Module
restored m s = let b = wide.looks m s in record { number = b.number; done = b.done; next = b.next if eqb b.number 0 else m }

abbrev pub rolling_back : Wide
rolling_back = with restored

-- the number of the first look that is declined, and what all the others do
unfoldable pub onward : ℕ → Module → List ℕ → Block Module
onward zero m s = none 0 m
onward (suc n) m s =
    let one = called m (look (take 8 s)) in
    let rest = onward n one.next (drop 8 s) in
    one_more rest if eqb one.number 0 else record { number = one.number; done = rest.done; next = rest.next }

unfoldable pub all_made : Module → List ℕ → Block Module
all_made m s = onward (length s / 8) m s if eqb (length s % 8) 0 else wide.looks m s

abbrev pub going_on : Wide
going_on = with all_made

unfoldable pub all_or_none : Module → List ℕ → Block Module
all_or_none m s = let b = wide.looks m s in b if eqb b.number 0 else none b.number m

abbrev pub judging_first : Wide
judging_first = with all_or_none

unfoldable pub over_counted : Module → List ℕ → Block Module
over_counted m s = let b = wide.looks m s in b if eqb b.number 0 else one_more b

abbrev pub counting_one : Wide
counting_one = with over_counted

unfoldable pub made_first : Module → List ℕ → Block Module
made_first m s =
    let b = singles ours (length s / 8) m s in
    b if eqb (length s % 8) 0 else record { number = 1; done = b.done; next = b.next }

abbrev pub late_length : Wide
late_length = with made_first

unfoldable pub newest : Module → List ℕ → Block Module
newest m s = record { number = 0; done = length s / 8; next = (called m (look (drop (8 * (length s / 8 - 1)) s))).next }

abbrev pub newest_only : Wide
newest_only = with newest

unfoldable pub hushed_up : Module → List ℕ → Block Module
hushed_up m s = let b = wide.looks m s in record { number = 0; done = b.done; next = b.next }

abbrev pub mute : Wide
mute = with hushed_up
