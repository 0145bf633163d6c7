-- The number that a call gives.
--
--    done, not_eight, high_bits, ..    document 01's numbers by name
--    T gives N                      a line of the table: N, when T is true
--    number_of lines                the number that a call gives, from its lines in document 01's order
--    Given lines N                  "its line is true and no line before it in this order is"
use Rattle.std.specs.Prelude.{ℕ, ◌≡◌, ◌⊎◌, Bool, true, false, List, [], ◌∷◌}

abbrev pub done : ℕ
done = 0

-- "list isn't eight samples"
abbrev pub not_eight : ℕ
not_eight = 1

-- "some sample has bit 13, 14 or 15 set"
abbrev pub high_bits : ℕ
high_bits = 2

-- "no bytes"
abbrev pub no_bytes : ℕ
no_bytes = 3

-- "more than 32 bytes"
abbrev pub too_many : ℕ
too_many = 4

-- "some address of the run is unknown, or can't be read or written as asked"
abbrev pub not_allowed : ℕ
not_allowed = 5

-- "a byte for KBDSIZE isn't acceptable"
abbrev pub bad_size : ℕ
bad_size = 6

-- "row above 7 or column above 12"
abbrev pub no_key : ℕ
no_key = 7

-- "module state unsound"
abbrev pub unsound : ℕ
unsound = 8

-- "list cut short or padded wrongly"
abbrev pub cut_short : ℕ
cut_short = 20

-- "no room"
abbrev pub no_room : ℕ
no_room = 21

-- "place beyond the end"
abbrev pub beyond_end : ℕ
beyond_end = 22

-- "a code, the trim key's included, that isn't a press (for the trim key) or a press or release of rows 0 to 7, columns 0 to 12"
abbrev pub bad_code : ℕ
bad_code = 23

-- "a press of a key that is down or a release of one that is up"
abbrev pub bad_change : ℕ
bad_change = 24

-- "place before the end that is inside a group or past the start of an open tail"
abbrev pub inside_group : ℕ
inside_group = 25

-- "a pin sample with a bit above 18"
abbrev pub bad_pins : ℕ
bad_pins = 26

-- document 02, E7: "27 asleep"
abbrev pub sleeping : ℕ
sleeping = 27

infix 70 ◌gives◌
pub data Line : Type 0 where
  ◌gives◌ : Bool → ℕ → Line

-- the number of the first line that is true; done if none is
unfoldable pub number_of : List Line → ℕ
number_of [] = done
number_of ((true gives n) ∷ l) = n
number_of ((false gives n) ∷ l) = number_of l

-- "A number is given exactly when its line is true and no line before it in this order is"
unfoldable pub Given : List Line → ℕ → Type 0
Given [] k = k ≡ done
Given ((b gives n) ∷ l) k = ((b ≡ true) × (k ≡ n)) ⊎ ((b ≡ false) × Given l k)
