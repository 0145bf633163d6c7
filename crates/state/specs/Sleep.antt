-- The count of quiet looks, and the sleep: document 02, E7.
--
--    counted z calm    the count and the sleep after a look; calm: it had no change, and no contact is settling
use Rattle.std.specs.Prelude.{◌+◌, min, Bool, false, leb}
use Rattle.words.specs.Words.{◌if◌, ◌else◌}
use Rattle.state.specs.Module.{Sleep, sleep}

-- "The module sleeps after 255 looks in a row [..] with no change, no settling"; "one with a change or a contact settling wakes it.";
-- "Waking sets the count to 0."; "the count is at most 255"
unfoldable pub counted : Sleep → Bool → Sleep
counted z calm = sleep (min 255 (z.quiet + 1)) (leb 255 (z.quiet + 1)) if calm else sleep 0 false
