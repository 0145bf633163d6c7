-- The registers: document 01's table, and those of the spare pins.
--
--    pin_reads a, pin_writes a    may the pins' register at this address be read, written?
--    register_at a        the register at an address; keypad_at a, pin_at a: below 0x91, and from there on
--    can_read r, can_write r    may the register be read, written?
--    allowed way r        may it be accessed so?
--    after_reset r        what it reads after reset; 0 if it can't be read
--    r is KBDSIZE         the same register; the four of the picture count as one, and so do those of the pins
--    pictured r           which of the picture's four it is, if it is one
--    r is_pin a           it is the pins' register at this address
use Rattle.std.specs.Prelude.{ℕ, ◌-◌, Bool, true, false, ◌&&◌, ◌||◌, List, [], ◌∷◌, leb, ltb, eqb}
use Rattle.words.specs.Words.{◌if◌, ◌else◌, within}
use Rattle.pins.specs.Rules as pins
use Rattle.registers.specs.declared.Register.{Register}
use Rattle.registers.specs.declared.Register.TheVariants.{KBDBOUNCE, KBDSIZE, KBDRIS, KBDMIS, KBDIC, KBDMSK, KBDCODE, EVTCODE, RSTINTCLR, PIN, Unknown}
use Rattle.registers.specs.declared.Access.{Access}
use Rattle.registers.specs.declared.Access.TheVariants.{Read, Write}

-- the data sheet's map, column "Access": R/W or R. IRQST; IOPC; GPIODATA; GPIODIR to GPIOIE; GPIORIS and GPIOMIS; GPIOOME and GPIOOMS
unfoldable pub pin_reads : ℕ → Bool
pin_reads a =
    eqb a 0x91
    || (within 0xAA 0xAF a
    || (eqb a 0xC0
    || (eqb a 0xC2
    || (eqb a 0xC4
    || (within 0xC6 0xD4 a
    || (within 0xD6 0xDB a
    || within 0xE0 0xE5 a))))))

-- R/W or W: IOPC; GPIODATA with GPIOMASK, GPIODIR to GPIOIE; GPIOIC; GPIOOME and GPIOOMS
unfoldable pub pin_writes : ℕ → Bool
pin_writes a = within 0xAA 0xAF a || (within 0xC0 0xD4 a || (within 0xDC 0xDE a || within 0xE0 0xE5 a))

abbrev pub pin_at : ℕ → Register
pin_at a = PIN a if pin_reads a || pin_writes a else Unknown

abbrev pub keypad_at : ℕ → Register
keypad_at a =
    KBDBOUNCE if eqb a 0x02 else
    (KBDSIZE if eqb a 0x03 else
    (KBDRIS if eqb a 0x06 else
    (KBDMIS if eqb a 0x07 else
    (KBDIC if eqb a 0x08 else
    (KBDMSK if eqb a 0x09 else
    (KBDCODE (a - 0x0B) if leb 0x0B a && leb a 0x0E else
    (EVTCODE if eqb a 0x10 else
    (RSTINTCLR if eqb a 0x84 else Unknown))))))))

-- "Every other register address counts as unknown." Document 02, E6: "number 5 no longer counts these addresses as unknown"
unfoldable pub register_at : ℕ → Register
register_at a = keypad_at a if ltb a 0x91 else pin_at a

-- the column "Access": R/W, R or W. E6: "but still declines a write where document 000 only reads and a read where it only writes"
abbrev pub can_read : Register → Bool
can_read KBDBOUNCE = true
can_read KBDSIZE = true
can_read KBDRIS = true
can_read KBDMIS = true
can_read KBDIC = false
can_read KBDMSK = true
can_read (KBDCODE n) = true
can_read EVTCODE = true
can_read RSTINTCLR = false
can_read (PIN a) = pin_reads a
can_read Unknown = false

abbrev pub can_write : Register → Bool
can_write KBDBOUNCE = true
can_write KBDSIZE = true
can_write KBDRIS = false
can_write KBDMIS = false
can_write KBDIC = true
can_write KBDMSK = true
can_write (KBDCODE n) = false
can_write EVTCODE = false
can_write RSTINTCLR = true
can_write (PIN a) = pin_writes a
can_write Unknown = false

unfoldable pub allowed : Access → Register → Bool
allowed Read r = can_read r
allowed Write r = can_write r

-- the column "After reset"; IRQST shows PORIRQ
unfoldable pub after_reset : Register → ℕ
after_reset KBDBOUNCE = 0x03
after_reset KBDSIZE = 0x22
after_reset KBDRIS = 0
after_reset KBDMIS = 0
after_reset KBDIC = 0
after_reset KBDMSK = 0x03
after_reset (KBDCODE n) = 0x7F
after_reset EVTCODE = 0x7F
after_reset RSTINTCLR = 0
after_reset (PIN a) = 0x80 if eqb a 0x91 else pins.after_reset a
after_reset Unknown = 0

-- the first address of a register; 0 if it has none
unfoldable pub address : Register → ℕ
address KBDBOUNCE = 0x02
address KBDSIZE = 0x03
address KBDRIS = 0x06
address KBDMIS = 0x07
address KBDIC = 0x08
address KBDMSK = 0x09
address (KBDCODE n) = 0x0B
address EVTCODE = 0x10
address RSTINTCLR = 0x84
address (PIN a) = 0x91
address Unknown = 0

infix 40 ◌is◌
unfoldable pub ◌is◌ : Register → Register → Bool
r is s = eqb (address s) (address r)

unfoldable pub pictured : Register → List ℕ
pictured KBDBOUNCE = []
pictured KBDSIZE = []
pictured KBDRIS = []
pictured KBDMIS = []
pictured KBDIC = []
pictured KBDMSK = []
pictured (KBDCODE n) = n ∷ []
pictured EVTCODE = []
pictured RSTINTCLR = []
pictured (PIN a) = []
pictured Unknown = []

infix 40 ◌is_pin◌
unfoldable pub ◌is_pin◌ : Register → ℕ → Bool
KBDBOUNCE is_pin a = false
KBDSIZE is_pin a = false
KBDRIS is_pin a = false
KBDMIS is_pin a = false
KBDIC is_pin a = false
KBDMSK is_pin a = false
KBDCODE n is_pin a = false
EVTCODE is_pin a = false
RSTINTCLR is_pin a = false
PIN b is_pin a = eqb b a
Unknown is_pin a = false
