-- The pins' part of the module state, and what a call does to it.
--
--    place a               the place among the 33 kept bytes of the register at the address a; 33 if it keeps none
--    address_of n          the address of place n
--    kept_in k a           the byte kept at an address, in a list of kept bytes; flag_in l i: the pin i in a list of pins
--    newest_of p           the newest samples
--    kept p, pending p, newest p    the byte kept at an address; is a pin's edge pending? its newest sample
--    pins k e l s          the part, of its fields
--    fresh                 the part after reset
--    cleared e a b         the pending edges once the byte b is written to GPIOIC at the address a
--    written p a b         the part once the byte b is written to the register at the address a
--    edged p size x i      the pin's edge is pending once the pins are sampled
--    sampled p size x      the part once they are
--    raised k e            an enabled edge is pending
--    bit_of w k e l size i    what a word of the kind w tells of the pin i
--    edges k e             the six bytes of GPIORIS and GPIOMIS, in front of a list as long as the kept bytes
--    byte_of p size a      the byte that a read at the address a gives
--    driven p size, levels p size    the pins that are driven, as bits, and those of them that are driven to 1
use Rattle.std.specs.Prelude.{ℕ, ◌+◌, ◌-◌, Bool, true, false, ◌&&◌, ◌||◌, List, ◌∷◌, get_or, set, replicate, ltb}
use Rattle.words.specs.Words.{◌if◌, ◌else◌, within, bit, table}
use Rattle.pins.specs.declared.Pins.{Pins}
use Rattle.pins.specs.declared.What.{What}
use Rattle.pins.specs.declared.What.TheVariants.{Data, Raw, Masked, Driven, High}
use Rattle.pins.specs.Rules.{after_reset, DATA, IE, drives, shows, edge, clears, some_pin, word, byte_by, reads}

-- 0xAA to 0xAF, 0xC0 to 0xD4, 0xE0 to 0xE5
unfoldable pub place : ℕ → ℕ
place a =
    a - 0xAA if within 0xAA 0xAF a else
    (a - 0xBA if within 0xC0 0xD4 a else
    (a - 0xC5 if within 0xE0 0xE5 a else 33))

unfoldable pub address_of : ℕ → ℕ
address_of n = n + 0xAA if ltb n 6 else (n + 0xBA if ltb n 27 else n + 0xC5)

unfoldable pub kept_in : List ℕ → ℕ → ℕ
kept_in kept a = get_or kept (place a) 0 if ltb (place a) 33 else 0

abbrev pub flag_in : List Bool → ℕ → Bool
flag_in l i = get_or l i false

abbrev pub kept : Pins → ℕ → ℕ
kept p = kept_in p.kept

abbrev pub pending : Pins → ℕ → Bool
pending p = flag_in p.edge

-- before the first sample the levels aren't looked at
unfoldable pub newest_of : Pins → List Bool
newest_of p = p.level if p.sampled else replicate 19 false

abbrev pub newest : Pins → ℕ → Bool
newest p = flag_in (newest_of p)

abbrev pub pins : List ℕ → List Bool → List Bool → Bool → Pins
pins k e l s = record { kept = k; edge = e; level = l; sampled = s }

unfoldable pub fresh : Pins
fresh = pins (table (λ n. after_reset (address_of n)) 33) (replicate 19 false) (replicate 19 false) false

unfoldable pub cleared : List Bool → ℕ → ℕ → List Bool
cleared edge a b = table (λ i. false if clears a b i else flag_in edge i) 19

-- "a write to its bits is kept"

unfoldable pub written : Pins → ℕ → ℕ → Pins
written p a b =
    pins (set p.kept (place a) b) p.edge p.level p.sampled if ltb (place a) 33
    else pins p.kept (cleared p.edge a b) p.level p.sampled

-- "the first after reset makes no edge"
unfoldable pub edged : Pins → ℕ → ℕ → ℕ → Bool
edged p size x i = pending p i || (p.sampled && edge (kept p) size i (flag_in p.level i) (bit i x))

unfoldable pub sampled : Pins → ℕ → ℕ → Pins
sampled p size x = pins p.kept (table (edged p size x) 19) (table (λ i. bit i x) 19) true

unfoldable pub raised : List ℕ → List Bool → Bool
raised kept edge = some_pin (λ i. flag_in edge i && IE (kept_in kept) i)

-- what a word of bits tells of each pin: GPIODATA, GPIORIS, GPIOMIS, whether it is driven, and whether to 1
unfoldable pub bit_of : What → List ℕ → List Bool → List Bool → ℕ → ℕ → Bool
bit_of Data kept edge level size i = shows (kept_in kept) size (flag_in level) i
bit_of Raw kept edge level size i = flag_in edge i
bit_of Masked kept edge level size i = flag_in edge i && IE (kept_in kept) i
bit_of Driven kept edge level size i = drives (kept_in kept) size i
bit_of High kept edge level size i = drives (kept_in kept) size i && DATA (kept_in kept) i

-- GPIORIS and GPIOMIS, byte for byte
unfoldable pub edges : List ℕ → List Bool → List ℕ
edges kept edge =
    let raw : ℕ → Bool = flag_in edge in
    let masked : ℕ → Bool = λ i. flag_in edge i && IE (kept_in kept) i in
    byte_by raw 0 ∷ byte_by raw 1 ∷ byte_by raw 2 ∷ byte_by masked 0 ∷ byte_by masked 1 ∷ byte_by masked 2 ∷ replicate 27 0

unfoldable pub byte_of : Pins → ℕ → ℕ → ℕ
byte_of p size a = reads (kept p) (pending p) (newest p) size a

unfoldable pub driven : Pins → ℕ → ℕ
driven p size = word (drives (kept p) size)

unfoldable pub levels : Pins → ℕ → ℕ
levels p size = word (λ i. drives (kept p) size i && DATA (kept p) i)
