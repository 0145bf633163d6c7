-- The registers against document 01's own table and the data sheet's map of the pins' registers, copied here and computed.
--
--    rows             the tables: address, R, W, after reset
--    reads, writes    the accesses that can be done: first address, most bytes
--    names            the register at each of the 256 addresses
--    kinds            the registers, with a number for each that counts as another one, the picture's place, and the pins' address
--    after            the address after each of the 256
-- Assumes nothing.
use Prim.Native.Nat.{ℕ}
use mathlib.Core.Path.{◌≡◌, refl}
use mathlib.Core.Bool.{Bool, true, false, not, ◌&&◌, ◌||◌, beq}
use mathlib.Core.List.{List, [], ◌∷◌, ◌++◌, map}
use lib.ListN.{length, replicate}
use lib.Dec.{leb, eqb}
use Rattle.words.specs.Words.{all, all_below, among, table}
use Rattle.registers.specs.declared.Access.{Access}
use Rattle.registers.specs.declared.Access.TheVariants.{Read, Write}
use Rattle.registers.specs.declared.Register.{Register}
use Rattle.registers.specs.declared.Register.TheVariants.{KBDBOUNCE, KBDSIZE, KBDRIS, KBDMIS, KBDIC, KBDMSK, KBDCODE, EVTCODE, RSTINTCLR, PIN, Unknown}
use Rattle.pins.specs.Rules as pins
use Rattle.registers.specs.Registers.{pin_reads, pin_writes, register_at, allowed, after_reset, address, ◌is◌, pictured, ◌is_pin◌}
use Rattle.registers.specs.Runs.{next, addresses, run_allowed}

record Entry : Type 0 where
  at : ℕ
  readable : Bool
  writable : Bool
  reads : ℕ

entry : ℕ → Bool → Bool → ℕ → Entry
entry a r w v = record { at = a; readable = r; writable = w; reads = v }

rows : List Entry
rows =
    entry 0x02 true true 0x03
    ∷ entry 0x03 true true 0x22
    ∷ entry 0x06 true false 0
    ∷ entry 0x07 true false 0
    ∷ entry 0x08 false true 0
    ∷ entry 0x09 true true 0x03
    ∷ entry 0x0B true false 0x7F
    ∷ entry 0x0C true false 0x7F
    ∷ entry 0x0D true false 0x7F
    ∷ entry 0x0E true false 0x7F
    ∷ entry 0x10 true false 0x7F
    ∷ entry 0x84 false true 0
    -- IRQST
    ∷ entry 0x91 true false 0x80
    -- IOPC0, IOPC1, IOPC2
    ∷ entry 0xAA true true 0xAA
    ∷ entry 0xAB true true 0xAA
    ∷ entry 0xAC true true 0x55
    ∷ entry 0xAD true true 0x55
    ∷ entry 0xAE true true 0x15
    ∷ entry 0xAF true true 0x5A
    -- GPIODATA0, GPIOMASK0, GPIODATA1, GPIOMASK1, GPIODATA2, GPIOMASK2
    ∷ entry 0xC0 true true 0
    ∷ entry 0xC1 false true 0
    ∷ entry 0xC2 true true 0
    ∷ entry 0xC3 false true 0
    ∷ entry 0xC4 true true 0
    ∷ entry 0xC5 false true 0
    -- GPIODIR0, 1, 2
    ∷ entry 0xC6 true true 0
    ∷ entry 0xC7 true true 0
    ∷ entry 0xC8 true true 0x08
    -- GPIOIS
    ∷ entry 0xC9 true true 0
    ∷ entry 0xCA true true 0
    ∷ entry 0xCB true true 0
    -- GPIOIBE
    ∷ entry 0xCC true true 0
    ∷ entry 0xCD true true 0
    ∷ entry 0xCE true true 0
    -- GPIOIEV
    ∷ entry 0xCF true true 0xFF
    ∷ entry 0xD0 true true 0xFF
    ∷ entry 0xD1 true true 0xFF
    -- GPIOIE
    ∷ entry 0xD2 true true 0
    ∷ entry 0xD3 true true 0
    ∷ entry 0xD4 true true 0
    -- GPIORIS
    ∷ entry 0xD6 true false 0
    ∷ entry 0xD7 true false 0
    ∷ entry 0xD8 true false 0
    -- GPIOMIS
    ∷ entry 0xD9 true false 0
    ∷ entry 0xDA true false 0
    ∷ entry 0xDB true false 0
    -- GPIOIC
    ∷ entry 0xDC false true 0
    ∷ entry 0xDD false true 0
    ∷ entry 0xDE false true 0
    -- GPIOOME0, GPIOOMS0, GPIOOME1, GPIOOMS1, GPIOOME2, GPIOOMS2
    ∷ entry 0xE0 true true 0
    ∷ entry 0xE1 true true 0
    ∷ entry 0xE2 true true 0
    ∷ entry 0xE3 true true 0
    ∷ entry 0xE4 true true 0x08
    ∷ entry 0xE5 true true 0
    ∷ []

row_right : Entry → Bool
row_right e =
    beq (allowed Read (register_at e.at)) e.readable
    && beq (allowed Write (register_at e.at)) e.writable
    && eqb (after_reset (register_at e.at)) e.reads

rows_right : (length rows ≡ 55) × (all row_right rows ≡ true)
unfolding rows row_right entry all pin_reads pin_writes register_at allowed after_reset pins.after_reset
rows_right = (refl, refl)

-- a first address, and the most bytes that an access there can carry
record Most : Type 0 where
  from : ℕ
  bytes : ℕ

most : ℕ → ℕ → Most
most a n = record { from = a; bytes = n }

reads : List Most
reads =
    most 0x02 2 ∷ most 0x03 1 ∷ most 0x06 2 ∷ most 0x07 1 ∷ most 0x09 1 ∷ most 0x0B 4 ∷ most 0x0C 3 ∷ most 0x0D 2 ∷ most 0x0E 1 ∷ most 0x10 32
    ∷ most 0x91 1
    ∷ most 0xAA 6 ∷ most 0xAB 5 ∷ most 0xAC 4 ∷ most 0xAD 3 ∷ most 0xAE 2 ∷ most 0xAF 1 ∷ most 0xC0 1 ∷ most 0xC2 1
    ∷ most 0xC4 1
    ∷ most 0xC6 15 ∷ most 0xC7 14 ∷ most 0xC8 13 ∷ most 0xC9 12 ∷ most 0xCA 11 ∷ most 0xCB 10 ∷ most 0xCC 9 ∷ most 0xCD 8
    ∷ most 0xCE 7 ∷ most 0xCF 6 ∷ most 0xD0 5 ∷ most 0xD1 4 ∷ most 0xD2 3 ∷ most 0xD3 2 ∷ most 0xD4 1
    ∷ most 0xD6 6 ∷ most 0xD7 5 ∷ most 0xD8 4 ∷ most 0xD9 3 ∷ most 0xDA 2 ∷ most 0xDB 1
    ∷ most 0xE0 6 ∷ most 0xE1 5 ∷ most 0xE2 4 ∷ most 0xE3 3 ∷ most 0xE4 2 ∷ most 0xE5 1
    ∷ []

writes : List Most
writes =
    most 0x02 2 ∷ most 0x03 1 ∷ most 0x08 2 ∷ most 0x09 1 ∷ most 0x84 1
    ∷ most 0xAA 6 ∷ most 0xAB 5 ∷ most 0xAC 4 ∷ most 0xAD 3 ∷ most 0xAE 2 ∷ most 0xAF 1
    ∷ most 0xC0 21 ∷ most 0xC1 20 ∷ most 0xC2 19 ∷ most 0xC3 18 ∷ most 0xC4 17 ∷ most 0xC5 16 ∷ most 0xC6 15 ∷ most 0xC7 14
    ∷ most 0xC8 13 ∷ most 0xC9 12 ∷ most 0xCA 11 ∷ most 0xCB 10 ∷ most 0xCC 9 ∷ most 0xCD 8 ∷ most 0xCE 7 ∷ most 0xCF 6
    ∷ most 0xD0 5 ∷ most 0xD1 4 ∷ most 0xD2 3 ∷ most 0xD3 2 ∷ most 0xD4 1
    ∷ most 0xDC 3 ∷ most 0xDD 2 ∷ most 0xDE 1
    ∷ most 0xE0 6 ∷ most 0xE1 5 ∷ most 0xE2 4 ∷ most 0xE3 3 ∷ most 0xE4 2 ∷ most 0xE5 1
    ∷ []

-- "An access carries 1 to 32 bytes"
done : Access → ℕ → ℕ → Bool
done way a n = leb 1 n && leb n 32 && run_allowed way a n

-- an access of 0 to 40 bytes at one of the 256 addresses can be done exactly when it is listed
most_right : Access → Most → Bool
most_right way m = all_below (λ n. beq (done way m.from n) (leb 1 n && leb n m.bytes)) 41

none_right : Access → List Most → ℕ → Bool
none_right way l a = among a (map (λ m. m.from) l) || all_below (λ n. not (done way a n)) 41

reads_right : (all (most_right Read) reads ≡ true) × (all_below (none_right Read reads) 256 ≡ true)
unfolding all all_below among most_right none_right done reads most run_allowed addresses next pin_reads pin_writes register_at allowed
reads_right = (refl, refl)

writes_right : (all (most_right Write) writes ≡ true) × (all_below (none_right Write writes) 256 ≡ true)
unfolding all all_below among most_right none_right done writes most run_allowed addresses next pin_reads pin_writes register_at allowed
writes_right = (refl, refl)

-- ---- the columns "Address" and "Name"
-- "Every other register address counts as unknown."
names : List Register
names =
    -- 0x00 to 0x09
    Unknown ∷ Unknown ∷ KBDBOUNCE ∷ KBDSIZE ∷ Unknown ∷ Unknown ∷ KBDRIS ∷ KBDMIS ∷ KBDIC ∷ KBDMSK
    -- 0x0A to 0x10
    ∷ Unknown ∷ KBDCODE 0 ∷ KBDCODE 1 ∷ KBDCODE 2 ∷ KBDCODE 3 ∷ Unknown ∷ EVTCODE
    -- 0x11 to 0x83, 0x84, 0x85 to 0x90
    ∷ replicate 0x73 Unknown ++ (RSTINTCLR ∷ replicate 0x0C Unknown
    -- 0x91, 0x92 to 0xA9
    ++ (PIN 0x91 ∷ replicate 0x18 Unknown
    -- 0xAA to 0xAF, 0xB0 to 0xBF
    ++ (PIN 0xAA ∷ PIN 0xAB ∷ PIN 0xAC ∷ PIN 0xAD ∷ PIN 0xAE ∷ PIN 0xAF ∷ replicate 0x10 Unknown
    -- 0xC0 to 0xD4
    ++ (PIN 0xC0 ∷ PIN 0xC1 ∷ PIN 0xC2 ∷ PIN 0xC3 ∷ PIN 0xC4 ∷ PIN 0xC5
    ∷ PIN 0xC6 ∷ PIN 0xC7 ∷ PIN 0xC8 ∷ PIN 0xC9 ∷ PIN 0xCA ∷ PIN 0xCB ∷ PIN 0xCC ∷ PIN 0xCD ∷ PIN 0xCE
    ∷ PIN 0xCF ∷ PIN 0xD0 ∷ PIN 0xD1 ∷ PIN 0xD2 ∷ PIN 0xD3 ∷ PIN 0xD4
    -- 0xD5, 0xD6 to 0xDE
    ∷ Unknown ∷ PIN 0xD6 ∷ PIN 0xD7 ∷ PIN 0xD8 ∷ PIN 0xD9 ∷ PIN 0xDA ∷ PIN 0xDB ∷ PIN 0xDC ∷ PIN 0xDD ∷ PIN 0xDE
    -- 0xDF, 0xE0 to 0xE5
    ∷ Unknown ∷ PIN 0xE0 ∷ PIN 0xE1 ∷ PIN 0xE2 ∷ PIN 0xE3 ∷ PIN 0xE4 ∷ PIN 0xE5
    -- 0xE6 to 0xFF
    ∷ replicate 0x1A Unknown))))

names_right : (length names ≡ 256) × (table register_at 256 ≡ names)
unfolding names table pin_reads pin_writes register_at
names_right = (refl, refl)

-- a register, the number of what it counts as, its place in the picture, and its address if it is one of the pins'
record Kind : Type 0 where
  register : Register
  counts : ℕ
  place : List ℕ
  pin : List ℕ

kind : Register → ℕ → List ℕ → List ℕ → Kind
kind r n l p = record { register = r; counts = n; place = l; pin = p }

-- the four of the picture count as one, those of the pins do, and no other two
kinds : List Kind
kinds =
    kind KBDBOUNCE 1 [] []
    ∷ kind KBDSIZE 2 [] []
    ∷ kind KBDRIS 3 [] []
    ∷ kind KBDMIS 4 [] []
    ∷ kind KBDIC 5 [] []
    ∷ kind KBDMSK 6 [] []
    ∷ kind (KBDCODE 0) 7 (0 ∷ []) []
    ∷ kind (KBDCODE 1) 7 (1 ∷ []) []
    ∷ kind (KBDCODE 2) 7 (2 ∷ []) []
    ∷ kind (KBDCODE 3) 7 (3 ∷ []) []
    ∷ kind EVTCODE 8 [] []
    ∷ kind RSTINTCLR 9 [] []
    ∷ kind (PIN 0x91) 10 [] (0x91 ∷ [])
    ∷ kind (PIN 0xE5) 10 [] (0xE5 ∷ [])
    ∷ kind Unknown 11 [] []
    ∷ []

-- all pairs
is_right_lem : (length kinds ≡ 15) × (all (λ x. all (λ y. beq (x.register is y.register) (eqb x.counts y.counts)) kinds) kinds ≡ true)
unfolding all kinds kind ◌is◌ address
is_right_lem = (refl, refl)

pictured_right : map (λ x. pictured x.register) kinds ≡ map (λ x. x.place) kinds
unfolding kinds kind pictured
pictured_right = refl

-- all 256 addresses
is_pin_right : all (λ x. all_below (λ a. beq (x.register is_pin a) (among a x.pin)) 256) kinds ≡ true
unfolding all all_below among kinds kind ◌is_pin◌
is_pin_right = refl

-- ---- "The address rises by one per byte, except at 0x10, where it stays. It doesn't wrap after 0xFF": after 0xFF comes 0x100, which is none
after : List ℕ
after =
    0x01 ∷ 0x02 ∷ 0x03 ∷ 0x04 ∷ 0x05 ∷ 0x06 ∷ 0x07 ∷ 0x08 ∷ 0x09 ∷ 0x0A ∷ 0x0B ∷ 0x0C ∷ 0x0D ∷ 0x0E ∷ 0x0F ∷ 0x10
    ∷ 0x10 ∷ 0x12 ∷ 0x13 ∷ 0x14 ∷ 0x15 ∷ 0x16 ∷ 0x17 ∷ 0x18 ∷ 0x19 ∷ 0x1A ∷ 0x1B ∷ 0x1C ∷ 0x1D ∷ 0x1E ∷ 0x1F ∷ 0x20
    ∷ 0x21 ∷ 0x22 ∷ 0x23 ∷ 0x24 ∷ 0x25 ∷ 0x26 ∷ 0x27 ∷ 0x28 ∷ 0x29 ∷ 0x2A ∷ 0x2B ∷ 0x2C ∷ 0x2D ∷ 0x2E ∷ 0x2F ∷ 0x30
    ∷ 0x31 ∷ 0x32 ∷ 0x33 ∷ 0x34 ∷ 0x35 ∷ 0x36 ∷ 0x37 ∷ 0x38 ∷ 0x39 ∷ 0x3A ∷ 0x3B ∷ 0x3C ∷ 0x3D ∷ 0x3E ∷ 0x3F ∷ 0x40
    ∷ 0x41 ∷ 0x42 ∷ 0x43 ∷ 0x44 ∷ 0x45 ∷ 0x46 ∷ 0x47 ∷ 0x48 ∷ 0x49 ∷ 0x4A ∷ 0x4B ∷ 0x4C ∷ 0x4D ∷ 0x4E ∷ 0x4F ∷ 0x50
    ∷ 0x51 ∷ 0x52 ∷ 0x53 ∷ 0x54 ∷ 0x55 ∷ 0x56 ∷ 0x57 ∷ 0x58 ∷ 0x59 ∷ 0x5A ∷ 0x5B ∷ 0x5C ∷ 0x5D ∷ 0x5E ∷ 0x5F ∷ 0x60
    ∷ 0x61 ∷ 0x62 ∷ 0x63 ∷ 0x64 ∷ 0x65 ∷ 0x66 ∷ 0x67 ∷ 0x68 ∷ 0x69 ∷ 0x6A ∷ 0x6B ∷ 0x6C ∷ 0x6D ∷ 0x6E ∷ 0x6F ∷ 0x70
    ∷ 0x71 ∷ 0x72 ∷ 0x73 ∷ 0x74 ∷ 0x75 ∷ 0x76 ∷ 0x77 ∷ 0x78 ∷ 0x79 ∷ 0x7A ∷ 0x7B ∷ 0x7C ∷ 0x7D ∷ 0x7E ∷ 0x7F ∷ 0x80
    ∷ 0x81 ∷ 0x82 ∷ 0x83 ∷ 0x84 ∷ 0x85 ∷ 0x86 ∷ 0x87 ∷ 0x88 ∷ 0x89 ∷ 0x8A ∷ 0x8B ∷ 0x8C ∷ 0x8D ∷ 0x8E ∷ 0x8F ∷ 0x90
    ∷ 0x91 ∷ 0x92 ∷ 0x93 ∷ 0x94 ∷ 0x95 ∷ 0x96 ∷ 0x97 ∷ 0x98 ∷ 0x99 ∷ 0x9A ∷ 0x9B ∷ 0x9C ∷ 0x9D ∷ 0x9E ∷ 0x9F ∷ 0xA0
    ∷ 0xA1 ∷ 0xA2 ∷ 0xA3 ∷ 0xA4 ∷ 0xA5 ∷ 0xA6 ∷ 0xA7 ∷ 0xA8 ∷ 0xA9 ∷ 0xAA ∷ 0xAB ∷ 0xAC ∷ 0xAD ∷ 0xAE ∷ 0xAF ∷ 0xB0
    ∷ 0xB1 ∷ 0xB2 ∷ 0xB3 ∷ 0xB4 ∷ 0xB5 ∷ 0xB6 ∷ 0xB7 ∷ 0xB8 ∷ 0xB9 ∷ 0xBA ∷ 0xBB ∷ 0xBC ∷ 0xBD ∷ 0xBE ∷ 0xBF ∷ 0xC0
    ∷ 0xC1 ∷ 0xC2 ∷ 0xC3 ∷ 0xC4 ∷ 0xC5 ∷ 0xC6 ∷ 0xC7 ∷ 0xC8 ∷ 0xC9 ∷ 0xCA ∷ 0xCB ∷ 0xCC ∷ 0xCD ∷ 0xCE ∷ 0xCF ∷ 0xD0
    ∷ 0xD1 ∷ 0xD2 ∷ 0xD3 ∷ 0xD4 ∷ 0xD5 ∷ 0xD6 ∷ 0xD7 ∷ 0xD8 ∷ 0xD9 ∷ 0xDA ∷ 0xDB ∷ 0xDC ∷ 0xDD ∷ 0xDE ∷ 0xDF ∷ 0xE0
    ∷ 0xE1 ∷ 0xE2 ∷ 0xE3 ∷ 0xE4 ∷ 0xE5 ∷ 0xE6 ∷ 0xE7 ∷ 0xE8 ∷ 0xE9 ∷ 0xEA ∷ 0xEB ∷ 0xEC ∷ 0xED ∷ 0xEE ∷ 0xEF ∷ 0xF0
    ∷ 0xF1 ∷ 0xF2 ∷ 0xF3 ∷ 0xF4 ∷ 0xF5 ∷ 0xF6 ∷ 0xF7 ∷ 0xF8 ∷ 0xF9 ∷ 0xFA ∷ 0xFB ∷ 0xFC ∷ 0xFD ∷ 0xFE ∷ 0xFF ∷ 0x100
    ∷ []

next_right : table next 256 ≡ after
unfolding table next after
next_right = refl
