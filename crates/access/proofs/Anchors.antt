-- What the registers read after reset, computed, against the column "After reset" of the register table.
-- Assumes nothing.
use mathlib.Core.Path.{◌≡◌, refl}
use mathlib.Core.List.{List, [], ◌∷◌}
use lib.ListN.{length}
use lib.Dec.{eqb}
use Rattle.words.specs.Words.{all, without, bit}
use Rattle.registers.specs.declared.Register.{Register}
use Rattle.registers.specs.declared.Register.TheVariants.{KBDBOUNCE, KBDSIZE, KBDRIS, KBDMIS, KBDMSK, KBDCODE, EVTCODE, PIN}
use Rattle.registers.specs.Registers.{after_reset}
use Rattle.state.specs.Module.{fresh, forgotten}
use Rattle.state.specs.Queue.{waits, oldest}
use Rattle.flags.specs.Flags.{weigh, ris, mis}
use Rattle.picture.specs.Picture.{held_codes, more, nth, picture}
use Rattle.access.specs.Bytes.{byte_of}
use mathlib.Core.Bool.{true}
use Prim.Native.Nat.{ℕ}
use Rattle.access.proofs.Opened.{opened}

readable : List Register
readable = KBDBOUNCE ∷ KBDSIZE ∷ KBDRIS ∷ KBDMIS ∷ KBDMSK ∷ KBDCODE 0 ∷ KBDCODE 1 ∷ KBDCODE 2 ∷ KBDCODE 3 ∷ EVTCODE ∷ []

reset_right : (length readable ≡ 10) × (all (λ r. eqb (byte_of fresh r) (after_reset r)) readable ≡ true)
unfolding all readable byte_of fresh forgotten after_reset waits oldest weigh ris mis without bit held_codes more nth picture
reset_right = (refl, refl)

-- those of the pins, and IRQST
pin_addresses : List ℕ
pin_addresses = 0x91 ∷ 0xAA ∷ 0xAB ∷ 0xAC ∷ 0xAD ∷ 0xAE ∷ 0xAF ∷ 0xC0 ∷ 0xC2 ∷ 0xC4
    ∷ 0xC6 ∷ 0xC7 ∷ 0xC8 ∷ 0xC9 ∷ 0xCA ∷ 0xCB ∷ 0xCC ∷ 0xCD ∷ 0xCE ∷ 0xCF ∷ 0xD0 ∷ 0xD1 ∷ 0xD2 ∷ 0xD3 ∷ 0xD4
    ∷ 0xD6 ∷ 0xD7 ∷ 0xD8 ∷ 0xD9 ∷ 0xDA ∷ 0xDB ∷ 0xE0 ∷ 0xE1 ∷ 0xE2 ∷ 0xE3 ∷ 0xE4 ∷ 0xE5 ∷ []

pins_reset_right : (length pin_addresses ≡ 37) × (all (λ a. eqb (byte_of fresh (PIN a)) (after_reset (PIN a))) pin_addresses ≡ true)
unfolding opened pin_addresses
pins_reset_right = (refl, refl)
