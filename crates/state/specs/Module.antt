-- The module state: after reset, after a restart, and with a part of it changed.
--
--    fresh                          the state after reset
--    forgotten                      no picture register is marked as read
--    Keys, Queue, Settings, Flags, Sleep    the parts of the keypad's state
--    keys h r, queue p n r, settings b s m, flags s k p l, sleep q a    a part, of its fields
--    keys_of m, queue_of m, ..      a part of the state m
--    made k q s f p z               the state of these parts, the pins' part p among them
--    anew f m size                  the state f, but for what a restart keeps of m, and the size
--    restarted m size               the state after an accepted write of KBDSIZE
--    with_keys m h r, with_queue m q, ..    the state m, with these for its own
--    woken m                        the state m, awake, with a count of 0
--    keypad m                       the state m, awake with a count of 0, and with the pins as they are after reset
use Rattle.std.specs.Prelude.{ℕ, Bool, true, false, List, replicate}
use Rattle.pins.specs.declared.Pins.{Pins}
use Rattle.pins.specs.Pins as pins
use Rattle.state.specs.declared.Module.{Module}

unfoldable pub forgotten : List Bool
forgotten = replicate 4 false

-- "After a restart every key is open"; the column "After reset"; "Reset sets PORIRQ."
unfoldable pub fresh : Module
fresh =
    record {
      held = replicate 104 false;
      run = replicate 104 0;
      queue = replicate 15 0x7F;
      count = 0;
      bounce = 0x03;
      size = 0x22;
      mask = 0x03;
      rsint = false;
      rklint = false;
      relint = false;
      porirq = true;
      seen = forgotten;
      quiet = 0;
      asleep = false;
      pins = pins.fresh;
    }

-- how each key is held, and its run
pub record Keys : Type 0 where
  pub held : List Bool
  pub run : List ℕ

-- the queue's 15 places, how many of them wait, and whether a code was dropped
pub record Queue : Type 0 where
  pub places : List ℕ
  pub count : ℕ
  pub relint : Bool

-- KBDBOUNCE, KBDSIZE and KBDMSK
pub record Settings : Type 0 where
  pub bounce : ℕ
  pub size : ℕ
  pub mask : ℕ

-- the flags but for RELINT, and which picture registers were read
pub record Flags : Type 0 where
  pub rsint : Bool
  pub rklint : Bool
  pub porirq : Bool
  pub seen : List Bool

-- how many quiet looks there were in a row, 255 at most, and whether the panel sleeps
pub record Sleep : Type 0 where
  pub quiet : ℕ
  pub asleep : Bool

abbrev pub keys : List Bool → List ℕ → Keys
keys held run = record { held = held; run = run }

abbrev pub queue : List ℕ → ℕ → Bool → Queue
queue places count relint = record { places = places; count = count; relint = relint }

abbrev pub settings : ℕ → ℕ → ℕ → Settings
settings bounce size mask = record { bounce = bounce; size = size; mask = mask }

abbrev pub flags : Bool → Bool → Bool → List Bool → Flags
flags rsint rklint porirq seen = record { rsint = rsint; rklint = rklint; porirq = porirq; seen = seen }

abbrev pub sleep : ℕ → Bool → Sleep
sleep quiet asleep = record { quiet = quiet; asleep = asleep }

abbrev pub keys_of : Module → Keys
keys_of m = keys m.held m.run

abbrev pub queue_of : Module → Queue
queue_of m = queue m.queue m.count m.relint

abbrev pub settings_of : Module → Settings
settings_of m = settings m.bounce m.size m.mask

abbrev pub flags_of : Module → Flags
flags_of m = flags m.rsint m.rklint m.porirq m.seen

abbrev pub sleep_of : Module → Sleep
sleep_of m = sleep m.quiet m.asleep

abbrev pub made : Keys → Queue → Settings → Flags → Pins → Sleep → Module
made k q s f p z =
    record {
      held = k.held;
      run = k.run;
      queue = q.places;
      count = q.count;
      bounce = s.bounce;
      size = s.size;
      mask = s.mask;
      rsint = f.rsint;
      rklint = f.rklint;
      relint = q.relint;
      porirq = f.porirq;
      seen = f.seen;
      quiet = z.quiet;
      asleep = z.asleep;
      pins = p;
    }

-- the state f, but for what a restart keeps of m, and the size
abbrev pub anew : Module → Module → ℕ → Module
anew f m size =
    made (keys_of f) (queue_of f) (settings m.bounce size m.mask) (flags f.rsint f.rklint m.porirq f.seen) m.pins (sleep_of f)

-- "A restart by KBDSIZE opens all keys, empties their sample history and the queue, clears RSINT, RKLINT and RELINT,
-- and forgets which picture registers were read; KBDBOUNCE, KBDMSK and PORIRQ stay." Document 02, E6: "a size write keeps the pin registers";
-- E7: "A restart wakes it."
unfoldable pub restarted : Module → ℕ → Module
restarted m size = anew fresh m size

abbrev pub with_keys : Module → List Bool → List ℕ → Module
with_keys m held run = made (keys held run) (queue_of m) (settings_of m) (flags_of m) m.pins (sleep_of m)

abbrev pub with_queue : Module → Queue → Module
with_queue m q = made (keys_of m) q (settings_of m) (flags_of m) m.pins (sleep_of m)

abbrev pub with_settings : Module → Settings → Module
with_settings m s = made (keys_of m) (queue_of m) s (flags_of m) m.pins (sleep_of m)

abbrev pub with_flags : Module → Flags → Module
with_flags m f = made (keys_of m) (queue_of m) (settings_of m) f m.pins (sleep_of m)

abbrev pub with_bounce : Module → ℕ → Module
with_bounce m bounce = with_settings m (settings bounce m.size m.mask)

abbrev pub with_mask : Module → ℕ → Module
with_mask m mask = with_settings m (settings m.bounce m.size mask)

abbrev pub with_rsint : Module → Bool → Module
with_rsint m rsint = with_flags m (flags rsint m.rklint m.porirq m.seen)

abbrev pub with_rklint : Module → Bool → Module
with_rklint m rklint = with_flags m (flags m.rsint rklint m.porirq m.seen)

abbrev pub with_relint : Module → Bool → Module
with_relint m relint = with_queue m (queue m.queue m.count relint)

abbrev pub with_porirq : Module → Bool → Module
with_porirq m porirq = with_flags m (flags m.rsint m.rklint porirq m.seen)

abbrev pub with_seen : Module → List Bool → Module
with_seen m seen = with_flags m (flags m.rsint m.rklint m.porirq seen)

abbrev pub with_pins : Module → Pins → Module
with_pins m p = made (keys_of m) (queue_of m) (settings_of m) (flags_of m) p (sleep_of m)

abbrev pub with_sleep : Module → Sleep → Module
with_sleep m z = made (keys_of m) (queue_of m) (settings_of m) (flags_of m) m.pins z

-- E7: "Waking sets the count to 0."
abbrev pub woken : Module → Module
woken m = with_sleep m (sleep 0 false)

abbrev pub keypad : Module → Module
keypad m = woken (with_pins m pins.fresh)
