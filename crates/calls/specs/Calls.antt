-- The eight calls: number, next state, and answer or buffer, for all arguments.
--
--    look_lines, held_lines           the lines of a look and of the held question
--    look_number, write_number, ..    the number that the call gives
--    access_number m lines            the number of an access, by its own lines
--    outcome m x n, answer m a n      what a call hands back, by its number
--    accessed m x n                   what an access hands back, by its number
--    reset_call, look_call, write_call, read_call    the call: number and next state
--    read_buffer m a out              the caller's buffer after a read
--    held_call, interrupt_call        the questions: number, state and answer
--    sampling m x                     the state once the pins are sampled
--    pins_call, drive_call            the pins are sampled; the question what is driven
use Rattle.std.specs.Prelude.{ℕ, Bool, false, not, List, [], ◌∷◌, length, get_or, eqb}
use Rattle.words.specs.Words.{◌if◌, ◌else◌}
use Rattle.numbers.specs.Numbers.{Line, ◌gives◌, number_of, done, unsound, sleeping}
use Rattle.keys.specs.Keys.{key_at}
use Rattle.pins.specs.Pins as pins
use Rattle.judge.specs.Lines.{sample_lines, read_lines, write_lines, key_lines, pin_lines}
use Rattle.state.specs.declared.Module.{Module}
use Rattle.state.specs.Module.{fresh, with_pins, woken}
use Rattle.flags.specs.Flags.{line}
use Rattle.sound.specs.Sound.{sound}
use Rattle.scan.specs.Scan.{looked}
use Rattle.access.specs.Accesses.{wrote, read_all, bytes_read}
use Rattle.calls.specs.declared.Done.{Done}
use Rattle.calls.specs.declared.Answered.{Answered}
use Rattle.calls.specs.declared.Driven.{Driven}

-- "Order: 8; then 1, 2, 9 for a look; 3, 4, 5, 6 for an access; 7 for the held question.": without 9, which is retired
unfoldable pub look_lines : Module → List ℕ → List Line
look_lines m s = not (sound m) gives unsound ∷ sample_lines s

unfoldable pub held_lines : Module → ℕ → ℕ → List Line
unfolding key_lines
held_lines m row col = not (sound m) gives unsound ∷ key_lines row col

unfoldable pub look_number : Module → List ℕ → ℕ
look_number m s = number_of (look_lines m s)

-- document 02, E7: "27 asleep, after 8 and before 3"
unfoldable pub access_number : Module → List Line → ℕ
access_number m lines = number_of (not (sound m) gives unsound ∷ m.asleep gives sleeping ∷ lines)

unfoldable pub write_number : Module → ℕ → List ℕ → ℕ
write_number m a bs = access_number m (write_lines a bs)

unfoldable pub read_number : Module → ℕ → ℕ → ℕ
read_number m a n = access_number m (read_lines a n)

unfoldable pub held_number : Module → ℕ → ℕ → ℕ
held_number m row col = number_of (held_lines m row col)

unfoldable pub interrupt_number : Module → ℕ
interrupt_number m = number_of (not (sound m) gives unsound ∷ [])

-- "A declined call returns its number, the state as given": the number n, and the state x if it is 0, else m
unfoldable pub outcome : Module → Module → ℕ → Done
outcome m x n = record { after = x if eqb n done else m; number = n }

-- E7: "An access is declined once and wakes it"; "that refusal alters only the sleep state and the count". One that is done begins the count anew:
-- "with no change, no settling and no done access between them"
unfoldable pub accessed : Module → Module → ℕ → Done
accessed m x n = record { after = woken x if eqb n done else (woken m if eqb n sleeping else m); number = n }

-- "for a question the answer no"
unfoldable pub answer : Module → Bool → ℕ → Answered
answer m a n = record { after = m; number = n; yes = a if eqb n done else false }

unfoldable pub reset_call : Done
reset_call = record { after = fresh; number = done }

unfoldable pub look_call : Module → List ℕ → Done
look_call m s = outcome m (looked m s) (look_number m s)

unfoldable pub write_call : Module → ℕ → List ℕ → Done
write_call m a bs = accessed m (wrote m a bs) (write_number m a bs)

unfoldable pub read_call : Module → ℕ → ℕ → Done
read_call m a n = accessed m (read_all m a n) (read_number m a n)

-- "A read fills the whole buffer lent"; a declined one "leaves the buffer's bytes as they were"
unfoldable pub read_buffer : Module → ℕ → List ℕ → List ℕ
read_buffer m a out = bytes_read m a (length out) if eqb (read_number m a (length out)) done else out

-- "A key out of the size is simply not held."
unfoldable pub held_call : Module → ℕ → ℕ → Answered
held_call m row col = answer m (get_or m.held (key_at row col) false) (held_number m row col)

unfoldable pub interrupt_call : Module → Answered
interrupt_call m = answer m (line m) (interrupt_number m)

-- document 02, E6: "A new call takes pin samples"; "26 [..], after 8"
unfoldable pub pins_number : Module → ℕ → ℕ
pins_number m x = number_of (not (sound m) gives unsound ∷ pin_lines x)

unfoldable pub sampling : Module → ℕ → Module
sampling m x = with_pins m (pins.sampled m.pins m.size x)

unfoldable pub pins_call : Module → ℕ → Done
pins_call m x = outcome m (sampling m x) (pins_number m x)

-- a declined question tells of no pin
unfoldable pub drive_of : Module → ℕ → Driven
drive_of m n =
    record {
      after = m;
      number = n;
      driven = pins.driven m.pins m.size if eqb n done else 0;
      level = pins.levels m.pins m.size if eqb n done else 0;
    }

unfoldable pub drive_call : Module → Driven
drive_call m = drive_of m (interrupt_number m)
