-- The sheet against document 01: short pasts and what it says of them, written out and computed.
--
--    reads rs past           the bytes that reads of the registers rs give, one after the other
--    P6, P7, P8, P10, P12    sessions of document 01
--    Losses                  which changes are lost
--    Changes, Clearing       what a look with a change does to the flags; what clears them
--    Restarts                what a restart clears and what stays
--    FootSwitch, Lamp        a spare pin that is watched, and one that is driven
--    Quiet, Settling, Wakes  a look that is quiet, one that isn't, and what breaks the row
--    examples_right          all of it is so
-- Assumes nothing.
use Prim.Native.Nat.{ℕ}
use mathlib.Core.Path.{◌≡◌, refl}
use mathlib.Core.Bool.{true, false}
use mathlib.Core.List.{List, [], ◌∷◌, ◌++◌}
use lib.ListN.{replicate, drop}
use Rattle.registers.specs.declared.Register.{Register}
use Rattle.registers.specs.declared.Register.TheVariants.{KBDBOUNCE, KBDSIZE, KBDRIS, KBDMIS, KBDIC, KBDMSK, KBDCODE, EVTCODE, RSTINTCLR, PIN}
use Rattle.sheet.specs.Sheet.{Happening, Past, looked, wrote, got, beside, sampled, refused, held, waiting, driven, levels, line, byte_of, quiet, asleep}
use Rattle.sheet.proofs.Opened.{opened}
use Rattle.sheet.specs.Ledger.{taken, lost, arrivals}

abbrev reads : List Register → Past → List ℕ
reads [] past = []
reads (r ∷ rs) past = byte_of r past ∷ reads rs (got r ∷ past)

abbrev four : List Register
four = KBDCODE 0 ∷ KBDCODE 1 ∷ KBDCODE 2 ∷ KBDCODE 3 ∷ []

-- a look with these samples of rows 0, 1, 3 and 7, the other rows open
abbrev look : ℕ → ℕ → ℕ → ℕ → Happening
look row0 row1 row3 row7 = looked (row0 ∷ row1 ∷ 0 ∷ row3 ∷ 0 ∷ 0 ∷ 0 ∷ row7 ∷ [])

-- a look with row 1 column 1 closed
abbrev key11 : Happening
key11 = look 0 0x0002 0 0

-- "Size 8C, bounce 1"
abbrev settings : Past
settings = wrote KBDBOUNCE 1 ∷ wrote KBDSIZE 0x8C ∷ []

-- "P6 Bounce 5, three closed looks, bounce 2, a fourth closed look: 11."
abbrev P6 : Type 0
P6 =
    let three = key11 ∷ key11 ∷ key11 ∷ wrote KBDBOUNCE 5 ∷ [] in
    (reads (EVTCODE ∷ []) three ≡ 0x7F ∷ []) × (reads (EVTCODE ∷ []) (key11 ∷ wrote KBDBOUNCE 2 ∷ three) ≡ 0x11 ∷ [])

-- "P7 Size 8C, bounce 1, SF of row 7 closed, then open: 7C, FC, 7F."
abbrev P7 : Type 0
P7 = reads (replicate 3 EVTCODE) (look 0 0 0 0 ∷ look 0 0 0 0x1000 ∷ settings) ≡ 0x7C ∷ 0xFC ∷ 0x7F ∷ []

-- "P8 Size 8C, bounce 1, row 3 column 5 and row 0 column 11 in one look: EVTCODE 0B 35 7F; picture 8B 35 7F 7F."
abbrev P8 : Type 0
P8 =
    let past = look 0x0800 0 0x0020 0 ∷ settings in
    (reads (replicate 3 EVTCODE) past ≡ 0x0B ∷ 0x35 ∷ 0x7F ∷ []) × (reads four past ≡ 0x8B ∷ 0x35 ∷ 0x7F ∷ 0x7F ∷ [])

-- "all 12 matrix keys of row 0 and columns 0 to 3 of row 1"
abbrev sixteen : Past
sixteen = look 0x0FFF 0x000F 0 0 ∷ settings

-- "P10 .. fifteen codes ending in 12; before any fetch KBDRIS is 0D and KBDMIS is 0C." "The key counts as changed either way."
abbrev P10 : Type 0
P10 =
    (reads (replicate 16 EVTCODE) sixteen ≡ 0x00 ∷ 0x01 ∷ 0x02 ∷ 0x03 ∷ 0x04 ∷ 0x05 ∷ 0x06 ∷ 0x07 ∷ 0x08 ∷ 0x09 ∷ 0x0A ∷ 0x0B ∷ 0x10 ∷ 0x11 ∷ 0x12 ∷ 0x7F ∷ [])
    × (reads (KBDRIS ∷ KBDMIS ∷ []) sixteen ≡ 0x0D ∷ 0x0C ∷ [])
    × (held 16 sixteen ≡ true)

-- "less only those that arrived when 15 were waiting"; "Room freed by reading is used again."
abbrev Losses : Type 0
Losses =
    let more = look 0x0FFF 0x001F 0 0 ∷ got EVTCODE ∷ sixteen in
    (lost (arrivals sixteen) ≡ 0x13 ∷ []) × (lost (arrivals more) ≡ 0x13 ∷ []) × (taken more ≡ 0x00 ∷ []) × (drop 14 (waiting more) ≡ 0x14 ∷ [])

-- "P12 Row 1 column 1 held, then size 22 written: EVTCODE 7F; the contact still closed gives 11 again after D looks."
abbrev P12 : Type 0
P12 =
    let again = wrote KBDSIZE 0x22 ∷ key11 ∷ key11 ∷ key11 ∷ [] in
    (reads (EVTCODE ∷ []) again ≡ 0x7F ∷ [])
    × (reads (EVTCODE ∷ []) (key11 ∷ key11 ∷ again) ≡ 0x7F ∷ [])
    × (reads (EVTCODE ∷ []) (key11 ∷ key11 ∷ key11 ∷ again) ≡ 0x11 ∷ [])

-- row 0 column 0 closed, then open
abbrev twice : Past
twice = look 0 0 0 0 ∷ look 1 0 0 0 ∷ settings

-- "if RSINT is already set, set RKLINT; set RSINT; forget which picture registers were read"
abbrev Changes : Type 0
Changes =
    (reads (KBDRIS ∷ KBDMIS ∷ []) (look 1 0 0 0 ∷ settings) ≡ 0x05 ∷ 0x04 ∷ [])
    × (reads (KBDRIS ∷ KBDMIS ∷ []) twice ≡ 0x07 ∷ 0x04 ∷ [])
    × (reads (KBDRIS ∷ []) (look 0 0 0 0 ∷ twice) ≡ 0x07 ∷ [])
    × (reads (KBDCODE 3 ∷ KBDRIS ∷ []) (look 1 0 0 0 ∷ got (KBDCODE 2) ∷ got (KBDCODE 1) ∷ got (KBDCODE 0) ∷ twice) ≡ 0x7F ∷ 0x07 ∷ [])

-- "Once all four have been read since they were last forgotten, RSINT is cleared (RKLINT stays)"; "REVTINT .. KBDIC can't clear it";
-- "bit 0 clears RSINT and RKLINT; bit 1 clears RELINT; other bits ignored"; "bit 0 clears PORIRQ; other bits ignored"
abbrev Clearing : Type 0
Clearing =
    (reads (four ++ KBDRIS ∷ []) twice ≡ 0x7F ∷ 0x7F ∷ 0x7F ∷ 0x7F ∷ 0x06 ∷ [])
    × (reads (KBDRIS ∷ []) (wrote KBDIC 0xFD ∷ twice) ≡ 0x04 ∷ [])
    × (reads (KBDRIS ∷ []) (wrote KBDIC 0xFD ∷ sixteen) ≡ 0x0C ∷ [])
    × (reads (KBDRIS ∷ []) (wrote KBDIC 0xFE ∷ sixteen) ≡ 0x05 ∷ [])
    × (reads (KBDMSK ∷ KBDMIS ∷ []) (wrote KBDMSK 0xF7 ∷ sixteen) ≡ 0x07 ∷ 0x08 ∷ [])
    × (line (wrote RSTINTCLR 0xFE ∷ []) ≡ true)
    × (line (wrote RSTINTCLR 0x01 ∷ []) ≡ false)
    × (line (wrote RSTINTCLR 0x01 ∷ sixteen) ≡ true)

-- "A restart by KBDSIZE opens all keys, empties their sample history and the queue, clears RSINT, RKLINT and RELINT,
-- and forgets which picture registers were read; KBDBOUNCE, KBDMSK and PORIRQ stay."
abbrev Restarts : Type 0
Restarts =
    (reads (KBDRIS ∷ EVTCODE ∷ four) (wrote KBDSIZE 0x8C ∷ sixteen) ≡ 0 ∷ 0x7F ∷ 0x7F ∷ 0x7F ∷ 0x7F ∷ 0x7F ∷ [])
    × (reads (KBDBOUNCE ∷ KBDMSK ∷ []) (wrote KBDSIZE 0x8C ∷ wrote KBDMSK 5 ∷ sixteen) ≡ 1 ∷ 5 ∷ [])
    × (line (wrote KBDSIZE 0x22 ∷ []) ≡ true)
    × (line (wrote KBDSIZE 0x22 ∷ wrote RSTINTCLR 0x01 ∷ sixteen) ≡ false)

-- pin 4 is free and low, then high; PORIRQ is cleared
abbrev foot : Past
foot = beside (sampled 0x10) ∷ beside (sampled 0) ∷ wrote RSTINTCLR 1 ∷ wrote KBDSIZE 0x44 ∷ []

-- IRQST, GPIORIS0, GPIOMIS0 and GPIODATA0
abbrev shown : List Register
shown = PIN 0x91 ∷ PIN 0xD6 ∷ PIN 0xD9 ∷ PIN 0xC0 ∷ []

-- A foot switch: document 02, E6: "The interrupt line now also follows enabled pin edges"; "the first after reset makes no edge"
abbrev FootSwitch : Type 0
FootSwitch =
    let enabled = wrote (PIN 0xD2) 0x10 ∷ foot in
    (line foot ≡ false)
    × (line enabled ≡ true)
    × (reads shown (wrote (PIN 0xC1) 0x10 ∷ enabled) ≡ 0x01 ∷ 0x10 ∷ 0x10 ∷ 0x10 ∷ [])
    × (reads shown foot ≡ 0 ∷ 0x10 ∷ 0 ∷ 0 ∷ [])
    × (line (wrote (PIN 0xDC) 0xEF ∷ enabled) ≡ true)
    × (line (wrote (PIN 0xDD) 0x10 ∷ enabled) ≡ true)
    × (line (wrote (PIN 0xDC) 0x10 ∷ enabled) ≡ false)
    × (line (wrote (PIN 0xDC) 0x10 ∷ wrote (PIN 0xD2) 0x10 ∷ beside (sampled 0x10) ∷ beside (sampled 0) ∷ wrote KBDSIZE 0x44 ∷ []) ≡ true)
    × (line (wrote KBDSIZE 0x88 ∷ enabled) ≡ true)
    × (line (wrote (PIN 0xD2) 0x10 ∷ beside (sampled 0x10) ∷ wrote RSTINTCLR 1 ∷ []) ≡ false)
    × (line (beside (sampled 0x10) ∷ beside (sampled 0) ∷ wrote (PIN 0xD2) 0x10 ∷ wrote RSTINTCLR 1 ∷ wrote KBDSIZE 0x52 ∷ []) ≡ false)

-- A lamp at pin 18, KPY10: "a write to its bits is kept but drives nothing until the pin is free"
abbrev Lamp : Type 0
Lamp =
    let lit = wrote (PIN 0xC4) 0x04 ∷ wrote (PIN 0xC5) 0x04 ∷ wrote (PIN 0xC8) 0x04 ∷ wrote KBDSIZE 0x8B ∷ [] in
    (driven lit ≡ 0)
    × (levels lit ≡ 0)
    × (driven (wrote KBDSIZE 0x8A ∷ lit) ≡ 0x40000)
    × (levels (wrote KBDSIZE 0x8A ∷ lit) ≡ 0x40000)
    × (levels (wrote (PIN 0xC4) 0 ∷ wrote KBDSIZE 0x8A ∷ lit) ≡ 0)
    × (driven (wrote (PIN 0xE4) 0x04 ∷ wrote KBDSIZE 0x8A ∷ lit) ≡ 0)
    × (driven (wrote (PIN 0xE5) 0x04 ∷ wrote (PIN 0xE4) 0x04 ∷ wrote KBDSIZE 0x8A ∷ lit) ≡ 0x40000)

-- a look with every contact open, and one with the special function contact of row 1 closed
abbrev calm_look : Happening
calm_look = look 0 0 0 0

abbrev jog : Happening
jog = look 0 0x1000 0 0

-- Document 02, E7: "The module sleeps after 255 looks in a row [..] with no change, no settling and no done access between them": counted from reset on
abbrev Quiet : Type 0
Quiet =
    (quiet [] ≡ 0)
    × (quiet (calm_look ∷ calm_look ∷ calm_look ∷ []) ≡ 3)
    × (asleep (calm_look ∷ calm_look ∷ calm_look ∷ []) ≡ false)

-- "settling: its newest existing sample differs from what it is held as": KBDBOUNCE is 3, so row 1 column 1 changes at its third closed look.
-- Half pressed and then hidden by the special function key of its row, it settles on; without it, the look after that key's change is quiet
abbrev Settling : Type 0
Settling =
    let changing = key11 ∷ key11 ∷ key11 ∷ calm_look ∷ calm_look ∷ [] in
    let believed = jog ∷ jog ∷ jog ∷ [] in
    (quiet (key11 ∷ calm_look ∷ calm_look ∷ []) ≡ 0)
    × (quiet changing ≡ 0)
    × (quiet (key11 ∷ changing) ≡ 1)
    × (quiet (calm_look ∷ key11 ∷ changing) ≡ 0)
    × (quiet (jog ∷ believed) ≡ 1)
    × (quiet (jog ∷ jog ∷ believed ++ key11 ∷ []) ≡ 0)

-- "no done access between them"; "An access is declined once and wakes it"; "A restart wakes it. Waking sets the count to 0."
abbrev Wakes : Type 0
Wakes =
    let two = calm_look ∷ calm_look ∷ [] in
    (quiet (got KBDRIS ∷ two) ≡ 0)
    × (quiet (calm_look ∷ got KBDRIS ∷ two) ≡ 1)
    × (quiet (calm_look ∷ wrote KBDMSK 0 ∷ two) ≡ 1)
    × (quiet (calm_look ∷ wrote KBDSIZE 0x22 ∷ two) ≡ 1)
    × (quiet (calm_look ∷ beside refused ∷ two) ≡ 1)
    × (quiet (calm_look ∷ beside (sampled 1) ∷ two) ≡ 3)

examples_right : P6 × P7 × P8 × P10 × Losses × P12 × Changes × Clearing × Restarts × FootSwitch × Lamp × Quiet × Settling × Wakes
unfolding opened
examples_right = (
  (refl, refl),
  refl,
  (refl, refl),
  (refl, refl, refl),
  (refl, refl, refl, refl),
  (refl, refl, refl),
  (refl, refl, refl, refl),
  (refl, refl, refl, refl, refl, refl, refl, refl),
  (refl, refl, refl, refl),
  (refl, refl, refl, refl, refl, refl, refl, refl, refl, refl, refl),
  (refl, refl, refl, refl, refl, refl, refl),
  (refl, refl, refl),
  (refl, refl, refl, refl, refl, refl),
  (refl, refl, refl, refl, refl, refl),
)
