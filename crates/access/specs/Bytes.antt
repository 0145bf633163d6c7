-- What one byte of an access does to a module.
--
--    written m r b     the state once the byte b is written to the register r
--    byte_of m r       the byte that a read of the register r gives
--    read_out m r      the state once it is read
--
-- A register that can't be accessed so never comes here: a written byte then changes nothing, and a byte read is 0.
use Rattle.std.specs.Prelude.{ℕ, ◌%◌, eqb}
use Rattle.words.specs.Words.{◌if◌, ◌else◌, without}
use Rattle.pins.specs.Pins as pins
use Rattle.registers.specs.declared.Register.{Register}
use Rattle.registers.specs.declared.Register.TheVariants.{KBDBOUNCE, KBDSIZE, KBDRIS, KBDMIS, KBDIC, KBDMSK, KBDCODE, EVTCODE, RSTINTCLR, PIN, Unknown}
use Rattle.state.specs.declared.Module.{Module}
use Rattle.state.specs.Module.{restarted, queue_of, with_queue, with_bounce, with_mask, with_rsint, with_rklint, with_relint, with_porirq, with_pins}
use Rattle.state.specs.Queue.{oldest, taken}
use Rattle.flags.specs.Flags.{ris, mis, irqst}
use Rattle.picture.specs.Picture.{picture, marked}

unfoldable pub written : Module → Register → ℕ → Module
-- "D, any byte"
written m KBDBOUNCE b = with_bounce m b
-- "a write restarts"
written m KBDSIZE b = restarted m b
-- "bit 0 clears RSINT and RKLINT; bit 1 clears RELINT; other bits ignored"
written m KBDIC b = with_relint (with_rklint (with_rsint m (without 0 m.rsint b)) (without 0 m.rklint b)) (without 1 m.relint b)
-- "low four bits kept, high four read 0"
written m KBDMSK b = with_mask m (b % 16)
-- "bit 0 clears PORIRQ; other bits ignored"
written m RSTINTCLR b = with_porirq m (without 0 m.porirq b)
-- document 02, E6: "a write to its bits is kept"
written m (PIN a) b = with_pins m (pins.written m.pins a b)
written m KBDRIS b = m
written m KBDMIS b = m
written m (KBDCODE n) b = m
written m EVTCODE b = m
written m Unknown b = m

unfoldable pub byte_of : Module → Register → ℕ
-- "reads back as written, 0 too"
byte_of m KBDBOUNCE = m.bounce
byte_of m KBDSIZE = m.size
byte_of m KBDRIS = ris m
byte_of m KBDMIS = mis m
byte_of m KBDMSK = m.mask
-- "the picture"
byte_of m (KBDCODE n) = picture n m.held
-- "oldest waiting code, which is taken out; 0x7F when none waits"
byte_of m EVTCODE = oldest (queue_of m)
byte_of m (PIN a) = irqst m if eqb a 0x91 else pins.byte_of m.pins m.size a
byte_of m KBDIC = 0
byte_of m RSTINTCLR = 0
byte_of m Unknown = 0

-- "The byte that completes the four is worked out before the clearing."
unfoldable pub read_out : Module → Register → Module
read_out m (KBDCODE n) = marked m n
read_out m EVTCODE = with_queue m (taken (queue_of m))
read_out m KBDBOUNCE = m
read_out m KBDSIZE = m
read_out m KBDRIS = m
read_out m KBDMIS = m
read_out m KBDIC = m
read_out m KBDMSK = m
read_out m RSTINTCLR = m
read_out m (PIN a) = m
read_out m Unknown = m
