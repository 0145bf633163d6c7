-- After every past the module is exactly the one that the sheet writes down.
--
--    reset_shown          the module after reset
--    sampling_shown       the pins are sampled
--    refused_shown        an access is refused while the panel sleeps
--    as_the_sheet_says    THE MODULE IS WHAT THE SHEET SAYS
-- Assumes nothing.
use Prim.Native.Nat.{ℕ}
use mathlib.Core.Path.{◌≡◌, refl, ap, ◌∙◌}
use mathlib.Core.List.{[], ◌∷◌}
use Rattle.words.specs.Words.{among, some, bit, table}
use Rattle.contact.specs.Contact.{samples, held_after, run_of}
use Rattle.sheet.specs.Sheet.{Past, sampled, refused, looked, wrote, got, beside, bounce, size, mask, history, held, waiting, relint, marks, rsint, rklint, kept_at, pin_samples, newest, pending, porirq, quiet_looks, quiet, asleep}
use Rattle.state.specs.declared.Module.{Module}
use Rattle.state.specs.Module.{with_pins, woken, fresh, forgotten}
use Rattle.pins.specs.Pins as pins
use Rattle.scan.specs.Scan as scan
use Rattle.access.specs.Bytes.{written, read_out}
use Rattle.calls.specs.Calls.{sampling}
use Rattle.demands.specs.Shown.{after, run, places, pins_shown, shown}
use Rattle.demands.proofs.Pins.{sampled_shown}
use Rattle.demands.proofs.Look.{look_shown}
use Rattle.demands.proofs.Bytes.{write_shown, read_shown}

pub reset_shown : fresh ≡ shown []
unfolding fresh forgotten pins.fresh shown pins_shown bounce size mask history held waiting relint marks rsint rklint kept_at pin_samples newest pending porirq table run run_of samples held_after places among some bit quiet_looks quiet asleep
reset_shown = refl

pub sampling_shown : (x : ℕ) (past : Past) → sampling (shown past) x ≡ shown (beside (sampled x) ∷ past)
unfolding sampling shown bounce size mask history held waiting relint marks rsint rklint porirq run quiet_looks quiet asleep
sampling_shown x past = ap (with_pins (shown past)) (sampled_shown x past)

pub refused_shown : (past : Past) → woken (shown past) ≡ shown (beside refused ∷ past)
unfolding shown pins_shown bounce size mask history held waiting relint marks rsint rklint kept_at pin_samples newest pending porirq run quiet_looks quiet asleep
refused_shown past = refl

pub as_the_sheet_says : (past : Past) → after past ≡ shown past
unfolding after
as_the_sheet_says [] = reset_shown
as_the_sheet_says (looked s ∷ past) = ap (λ (m : Module). scan.looked m s) (as_the_sheet_says past) ∙ look_shown s past
as_the_sheet_says (wrote r b ∷ past) = ap (λ (m : Module). woken (written m r b)) (as_the_sheet_says past) ∙ write_shown r b past
as_the_sheet_says (got r ∷ past) = ap (λ (m : Module). woken (read_out m r)) (as_the_sheet_says past) ∙ read_shown r past
as_the_sheet_says (beside (sampled x) ∷ past) = ap (λ (m : Module). sampling m x) (as_the_sheet_says past) ∙ sampling_shown x past
as_the_sheet_says (beside refused ∷ past) = ap woken (as_the_sheet_says past) ∙ refused_shown past
