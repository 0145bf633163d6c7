-- A block of looks: "Take a list of samples eight to a look and give what single looks give, in order."
--
--    stopped m n       no look is done, with the number n
--    one_more b        the block b, with one look done before it
--    singles n m s     n single looks of eight samples each, up to the first that is declined
--    block_lines m s   the lines of a block, before its first look
--    looks_call m s    the call: number, how many looks were done, and next state
use Rattle.std.specs.Prelude.{ℕ, zero, suc, ◌+◌, ◌/◌, ◌%◌, not, List, [], ◌∷◌, length, take, drop, eqb}
use Rattle.words.specs.Words.{◌if◌, ◌else◌}
use Rattle.numbers.specs.Numbers.{Line, ◌gives◌, number_of, not_eight, unsound}
use Rattle.state.specs.declared.Module.{Module}
use Rattle.sound.specs.Sound.{sound}
use Rattle.calls.specs.declared.Block.{Block}
use Rattle.calls.specs.Calls.{look_call}

abbrev pub stopped : Module → ℕ → Block
stopped m n = record { after = m; done = 0; number = n }

abbrev pub one_more : Block → Block
one_more b = record { after = b.after; done = b.done + 1; number = b.number }

-- "At a look that is declined stop, keep the earlier ones, and give its number and how many were done"
unfoldable pub singles : ℕ → Module → List ℕ → Block
singles zero m s = stopped m 0
singles (suc n) m s =
    let one = look_call m (take 8 s) in
    one_more (singles n one.after (drop 8 s)) if eqb one.number 0 else stopped m one.number

-- "Refusals: 8 first, then 1 if the length isn't a multiple of eight, with nothing done."
unfoldable pub block_lines : Module → List ℕ → List Line
block_lines m s = not (sound m) gives unsound ∷ not (eqb (length s % 8) 0) gives not_eight ∷ []

unfoldable pub looks_call : Module → List ℕ → Block
looks_call m s =
    let n = number_of (block_lines m s) in
    singles (length s / 8) m s if eqb n 0 else stopped m n
