-- The module after a past, twice: as its own rules make it, and as the sheet writes it down.
--
--    after past      the module after a past: reset, then what each look and each byte makes of it
--    run k past      key k's run
--    places w        the queue's 15 places while the codes w wait
--    pins_shown past    its pins' part
--    shown past      THE MODULE THAT THE SHEET WRITES DOWN, field by field
--    fitting past    every byte written is one, and those for KBDSIZE are acceptable
--
-- The two are the same, for every past: proofs/Simulation.antt.
use Rattle.std.specs.Prelude.{ℕ, ◌-◌, Bool, true, ◌&&◌, List, [], ◌∷◌, ◌++◌, length, replicate, leb}
use Rattle.words.specs.Words.{among, some, table}
use Rattle.pins.specs.declared.Pins.{Pins}
use Rattle.pins.specs.Pins.{address_of, pins}
use Rattle.contact.specs.Contact.{samples, run_of}
use Rattle.sheet.specs.Sheet.{Past, sampled, refused, looked, wrote, got, beside, bounce, size, mask, history, held, waiting, relint, marks, rsint, rklint, porirq, kept_at, pin_samples, newest, pending, quiet, asleep}
use Rattle.judge.specs.Lines.{byte_fits}
use Rattle.state.specs.declared.Module.{Module}
use Rattle.state.specs.Module.{fresh, woken}
use Rattle.calls.specs.Calls.{sampling}
use Rattle.scan.specs.Scan as scan
use Rattle.access.specs.Bytes.{written, read_out}

-- "Bytes take effect one at a time, in order."; after each of them, and after a refusal, the panel is awake and its count is 0
unfoldable pub after : Past → Module
after [] = fresh
after (looked s ∷ past) = scan.looked (after past) s
after (wrote r b ∷ past) = woken (written (after past) r b)
after (got r ∷ past) = woken (read_out (after past) r)
after (beside (sampled x) ∷ past) = sampling (after past) x
after (beside refused ∷ past) = woken (after past)

-- "its run: how many of its newest ones in a row are the opposite of how it is held"
unfoldable pub run : ℕ → Past → ℕ
run k past = run_of (held k past) (samples (history k past))

-- "kept oldest first from the first place, and unused places hold 0x7F"
unfoldable pub places : List ℕ → List ℕ
places w = w ++ replicate (15 - length w) 0x7F

unfoldable pub pins_shown : Past → Pins
pins_shown past = pins (table (λ n. kept_at past (address_of n)) 33) (table (pending past) 19) (table (newest past) 19) (some (pin_samples past))

-- each field is what the sheet says under the same name; seen, which picture registers are among its marks
unfoldable pub shown : Past → Module
shown past =
    record {
      held = table (λ k. held k past) 104;
      run = table (λ k. run k past) 104;
      queue = places (waiting past);
      count = length (waiting past);
      bounce = bounce past;
      size = size past;
      mask = mask past;
      rsint = rsint past;
      rklint = rklint past;
      relint = relint past;
      porirq = porirq past;
      seen = table (λ n. among n (marks past)) 4;
      quiet = quiet past;
      asleep = asleep past;
      pins = pins_shown past;
    }

-- what the calls' types and number 6 say of the bytes that are written
unfoldable pub fitting : Past → Bool
fitting [] = true
fitting (looked s ∷ past) = fitting past
fitting (wrote r b ∷ past) = leb b 0xFF && byte_fits r b && fitting past
fitting (got r ∷ past) = fitting past
fitting (beside e ∷ past) = fitting past
