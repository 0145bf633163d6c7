-- OUR QUESTION WHAT IS DRIVEN MEETS ITS DEMANDS. They are in specs/Pins.antt, ours in specs/Ours.antt.
--
--    ours_drive1    its number is exact, it alters nothing, and declined it tells of no pin
--    ours_drive2    what is driven is what the sheet says, after every list of calls
--    drive_acts     the same after every list of calls and blocks
-- Assumes nothing.
use mathlib.Core.Path.{◌≡◌, refl, ap, ◌∙◌}
use mathlib.Core.Bool.{true}
use mathlib.Core.List.{List, [], ◌∷◌}
use borrow.Author.Tests.{ne_eqb}
use Rattle.words.specs.Words.{all}
use Rattle.pins.specs.Pins.{driven, levels}
use Rattle.sheet.specs.Sheet as sheet
use Rattle.state.specs.declared.Module.{Module}
use Rattle.state.specs.Typed.{Typed}
use Rattle.calls.specs.Calls.{interrupt_number, drive_of, drive_call}
use Rattle.demands.specs.Machine.{Call, after, done, fits}
use Rattle.demands.specs.Table.{◌⇒◌, First, Unsound}
use Rattle.demands.specs.Blocks.{Act, fit, after_acts, past_of}
use Rattle.demands.specs.Pins.{DriveDemand1, DriveDemand2}
use Rattle.demands.specs.Ours.{ours, wide, driving, pinned}
use Rattle.demands.specs.Shown.{shown}
use Rattle.demands.proofs.Pins.{driven_shown, levels_shown}
use Rattle.demands.proofs.Reached.{reached, reached_sound}
use Rattle.demands.proofs.Observed.{line_done}
use Rattle.demands.proofs.Numbers.{none, ◌then◌, lines_first}
use Rattle.demands.proofs.Rows.{unsound_decided}
use Rattle.demands.proofs.Blocks.{reads_as_looks}
use Rattle.demands.proofs.MeetsBlocks.{ours_blocks}

module _ (m : Module) where
  drive_exact : Typed m → First (Unsound m ⇒ 8 ∷ []) (driving (drive_call m)).number
  unfolding driving drive_call drive_of interrupt_number
  drive_exact t = lines_first (unsound_decided m t then none)

  drive_asks : (driving (drive_call m)).next ≡ m
  unfolding driving drive_call drive_of
  drive_asks = refl

  drive_declined : ((driving (drive_call m)).number ≡ 0 → ⊥) → ((driving (drive_call m)).driven ≡ 0) × ((driving (drive_call m)).level ≡ 0)
  unfolding driving drive_call drive_of
  drive_declined h = let d = ne_eqb (interrupt_number m) 0 h in (rw d, rw d)

pub ours_drive1 : DriveDemand1 pinned
ours_drive1 = record { exact = drive_exact; asks = drive_asks; declined = drive_declined }

module _ (cs : List Call) (t : all fits cs ≡ true) where
  driven_observed : (driving (drive_call (after ours cs))).driven ≡ sheet.driven (done ours cs)
  unfolding driving drive_call drive_of shown
  driven_observed = rw (line_done (after ours cs) (reached_sound cs t)) (ap (λ (m : Module). driven m.pins m.size) (reached cs) ∙ driven_shown (done ours cs))

  levels_observed : (driving (drive_call (after ours cs))).level ≡ sheet.levels (done ours cs)
  unfolding driving drive_call drive_of shown
  levels_observed = rw (line_done (after ours cs) (reached_sound cs t)) (ap (λ (m : Module). levels m.pins m.size) (reached cs) ∙ levels_shown (done ours cs))

pub ours_drive2 : DriveDemand2 pinned
ours_drive2 = record { driven = driven_observed; level = levels_observed }

pub drive_acts : (acts : List Act) → all fit acts ≡ true
    → ((pinned.drives (after_acts wide acts)).driven ≡ sheet.driven (past_of wide acts)) × ((pinned.drives (after_acts wide acts)).level ≡ sheet.levels (past_of wide acts))
drive_acts =
    reads_as_looks wide ours_blocks (λ σ past codes. ((pinned.drives σ).driven ≡ sheet.driven past) × ((pinned.drives σ).level ≡ sheet.levels past))
    (λ cs t. (driven_observed cs t, levels_observed cs t))
