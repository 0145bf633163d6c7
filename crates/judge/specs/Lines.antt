-- The lines of document 01's table that are told from a call's arguments alone, in its order.
--
--    high x             the sample x has bit 13, 14 or 15 set
--    sample_lines s     1 and 2, for a look with the samples s
--    access_lines way a n    3, 4 and 5, for an access of n bytes at the address a
--    byte_fits r b      the byte b for the register r is acceptable, if r is KBDSIZE
--    sizes_fit a bs     every byte for KBDSIZE is acceptable
--    read_lines a n     all lines of a read
--    write_lines a bs   all lines of a write of the bytes bs
--    key_lines row col  7, for a question about the key in this row and column
--    pin_lines x        26, for the pin samples x
use Rattle.std.specs.Prelude.{ℕ, Bool, true, not, ◌&&◌, ◌||◌, List, [], ◌∷◌, ◌++◌, length, leb, eqb, ltb}
use Rattle.words.specs.Words.{◌if◌, ◌else◌, all, bit}
use Rattle.numbers.specs.Numbers.{Line, ◌gives◌, not_eight, high_bits, no_bytes, too_many, not_allowed, bad_size, no_key, bad_pins}
use Rattle.keys.specs.Keys.{is_key, acceptable}
use Rattle.registers.specs.declared.Access.{Access}
use Rattle.registers.specs.declared.Access.TheVariants.{Read, Write}
use Rattle.registers.specs.declared.Register.{Register}
use Rattle.registers.specs.declared.Register.TheVariants.{KBDSIZE}
use Rattle.registers.specs.Registers.{register_at, ◌is◌}
use Rattle.registers.specs.Runs.{next, run_allowed}

-- "bits 13 to 15 must be 0"
unfoldable pub high : ℕ → Bool
high x = bit 13 x || bit 14 x || bit 15 x

-- "list isn't eight samples", "some sample has bit 13, 14 or 15 set"
unfoldable pub sample_lines : List ℕ → List Line
sample_lines s = not (eqb (length s) 8) gives not_eight ∷ not (all (λ x. not (high x)) s) gives high_bits ∷ []

-- "no bytes", "more than 32 bytes", "some address of the run is unknown, or can't be read or written as asked"
unfoldable pub access_lines : Access → ℕ → ℕ → List Line
access_lines way a n = eqb n 0 gives no_bytes ∷ ltb 32 n gives too_many ∷ not (run_allowed way a n) gives not_allowed ∷ []

unfoldable pub byte_fits : Register → ℕ → Bool
byte_fits r b = acceptable b if r is KBDSIZE else true

unfoldable pub sizes_fit : ℕ → List ℕ → Bool
sizes_fit a [] = true
sizes_fit a (b ∷ bs) = byte_fits (register_at a) b && sizes_fit (next a) bs

unfoldable pub read_lines : ℕ → ℕ → List Line
read_lines a n = access_lines Read a n

-- "a byte for KBDSIZE isn't acceptable"
unfoldable pub write_lines : ℕ → List ℕ → List Line
write_lines a bs = access_lines Write a (length bs) ++ (not (sizes_fit a bs) gives bad_size ∷ [])

-- "row above 7 or column above 12"
unfoldable pub key_lines : ℕ → ℕ → List Line
key_lines row col = not (is_key row col) gives no_key ∷ []

-- document 02, E6: "a pin sample with a bit above 18"
unfoldable pub pin_lines : ℕ → List Line
pin_lines x = leb 0x80000 x gives bad_pins ∷ []
