-- NO WRONG MACHINE OF specs/Wrong.antt MEETS THE DEMANDS: for each a short list of calls after which it is seen.
--
--    built_usual                with our own effects the machine that is built is ours
--    rows, pressed, ..          the calls, newest first
--    Told, told                 what is found of each machine, and what was to be found: ALL COMPUTED
--    declining_refuted, ..      no wrong machine meets the demand
-- Assumes nothing.
use Prim.Native.Nat.{ℕ, ◌≤◌}
use native.Mathlib.Omega.{arith}
use mathlib.Core.Path.{◌≡◌, refl, sym, ap, ◌∙◌}
use mathlib.Core.Bool.{false}
use mathlib.Core.List.{List, [], ◌∷◌}
use lib.ListN.{replicate}
use lib.Dec.{ltb}
use borrow.Author.Tests.{ltb-true}
use Rattle.words.proofs.Lists.{all_anywhere, all_replicate}
use Rattle.state.specs.declared.Module.{Module}
use Rattle.state.specs.Module.{fresh, with_bounce, with_mask}
use Rattle.state.specs.Typed.{Typed}
use Rattle.demands.specs.Machine.{Call, reset, look, write, read, held, interrupt, pins, after}
use Rattle.demands.specs.Table.{rules}
use Rattle.demands.specs.Demands.{Demand1, Demand2, Demand3, NoSilentLoss}
use Rattle.demands.specs.Ours.{called, ours}
use Rattle.demands.specs.Wrong.{usual, called_by, declining, blank, stuck, idle, first_look, once, inventive, remembering, unchanged, lowering, emptying, trusted, trusting, passing, hasty, forgetful, stingy, silent}
use Rattle.demands.proofs.Failing.{LedgerWrong, no_ledger, KeyWrong, no_key_lem, BytesWrong, no_bytes_lem, ProgressWrong, no_progress, LossWrong, no_report}
use Rattle.demands.proofs.Opened.{opened}
use Rattle.demands.proofs.Numbers.{first_only}
use Rattle.demands.proofs.Rows.{numbers_exact}

-- ---- ours, but for one effect
built_usual : (m : Module) (c : Call) → called_by usual m c ≡ called m c
unfolding opened
built_usual m reset = refl
built_usual m (look s) = refl
built_usual m (write a bs) = refl
built_usual m (read a out) = refl
built_usual m (held row col) = refl
built_usual m interrupt = refl
built_usual m (pins x) = refl

-- ---- the calls, newest first
-- a look with these samples of rows 0 and 1, the other rows open
abbrev rows : ℕ → ℕ → Call
rows row0 row1 = look (row0 ∷ row1 ∷ 0 ∷ 0 ∷ 0 ∷ 0 ∷ 0 ∷ 0 ∷ [])

-- row 1 column 1 closed for one look, with bounce 1
abbrev pressed : List Call
pressed = rows 0 0x0002 ∷ write 0x02 (1 ∷ []) ∷ []

-- the same key closed for one look before a restart and one after it, with bounce 2
abbrev restarted : List Call
restarted = rows 0 0x0002 ∷ write 0x03 (0x22 ∷ []) ∷ rows 0 0x0002 ∷ write 0x02 (2 ∷ []) ∷ []

-- the same key closed in the second look, with bounce 1
abbrev second : List Call
second = rows 0 0x0002 ∷ rows 0 0 ∷ write 0x02 (1 ∷ []) ∷ []

-- sixteen keys closed in one look, with bounce 1 and size 8C
abbrev sixteen : List Call
sixteen = rows 0x0FFF 0x000F ∷ write 0x02 (1 ∷ 0x8C ∷ []) ∷ []

-- a state like that after reset, with a mask and a bounce; unsound if the mask is above 0x0F
abbrev settings : ℕ → ℕ → Module
settings mask bounce = with_bounce (with_mask fresh mask) bounce

settings_typed : (mask bounce : ℕ) → bounce ≤ 255 → Typed (settings mask bounce)
unfolding opened
settings_typed mask bounce low =
    record {
      keys = refl;
      runs = refl;
      places = refl;
      bytes = λ i. ltb-true _ 256 (all_anywhere (λ c. ltb c 256) 0 refl (replicate 15 0x7F) (all_replicate (λ c. ltb c 256) 15 0x7F refl) i);
      bounce_low = low;
      marks = refl;
    }

-- a code waits, and a read of 33 bytes of EVTCODE, though it is declined, takes it out
abbrev TakenWrong : Type 0
TakenWrong =
    let m = after hasty pressed in
    let g = hasty.does m (read 0x10 (replicate 33 0)) in
    (g.number ≡ 4) × (m.count ≡ 1) × (g.next.count ≡ 0)

-- ---- what is found, and what was to be found
record Told : Type 0 where
  declining : (called (settings 0x03 0x03) interrupt).number ≡ 0
  trusting : ((called (settings 0x37 0xC5) interrupt).number ≡ 8) × ((trusted (settings 0x37 0xC5) interrupt).number ≡ 0)
  blank_bytes_lem : BytesWrong blank pressed 0x10 (0x7F ∷ []) (0x11 ∷ [])
  blank : LedgerWrong blank pressed [] (0x11 ∷ [])
  stuck_bytes : BytesWrong stuck pressed 0x10 (0x7F ∷ []) (0x11 ∷ [])
  stuck : LedgerWrong stuck pressed [] (0x11 ∷ [])
  idle : KeyWrong idle pressed 1 1 false
  first_look : LedgerWrong first_look second [] (0x11 ∷ [])
  once : LedgerWrong once (rows 0 0 ∷ pressed) (0x11 ∷ []) (0x11 ∷ 0x91 ∷ [])
  inventive : LedgerWrong inventive (rows 0 0 ∷ []) (0x00 ∷ []) []
  remembering : LedgerWrong remembering restarted (0x11 ∷ []) []
  unchanged : KeyWrong unchanged sixteen 1 3 false
  lowering : BytesWrong lowering (write 0x08 (0xFF ∷ []) ∷ pressed) 0x06 (0x00 ∷ []) (0x04 ∷ [])
  emptying : LedgerWrong emptying (write 0x08 (0x02 ∷ []) ∷ pressed) [] (0x11 ∷ [])
  passing : BytesWrong passing [] 0x10 (0x7F ∷ 0x00 ∷ []) (0x7F ∷ 0x7F ∷ [])
  hasty : TakenWrong
  forgetful :
      LedgerWrong forgetful sixteen
      (1 ∷ 2 ∷ 3 ∷ 4 ∷ 5 ∷ 6 ∷ 7 ∷ 8 ∷ 9 ∷ 0x0A ∷ 0x0B ∷ 0x10 ∷ 0x11 ∷ 0x12 ∷ 0x13 ∷ [])
      (0 ∷ 1 ∷ 2 ∷ 3 ∷ 4 ∷ 5 ∷ 6 ∷ 7 ∷ 8 ∷ 9 ∷ 0x0A ∷ 0x0B ∷ 0x10 ∷ 0x11 ∷ 0x12 ∷ [])
  stingy : ProgressWrong stingy pressed [] (0x11 ∷ [])
  silent : LossWrong silent sixteen

told : Told
unfolding opened
told =
    record {
      declining = refl;
      trusting = (refl, refl);
      blank_bytes_lem = (refl, refl, refl, refl);
      blank = (refl, refl, refl, refl);
      stuck_bytes = (refl, refl, refl, refl);
      stuck = (refl, refl, refl, refl);
      idle = (refl, refl, refl);
      first_look = (refl, refl, refl, refl);
      once = (refl, refl, refl, refl);
      inventive = (refl, refl, refl, refl);
      remembering = (refl, refl, refl, refl);
      unchanged = (refl, refl, refl);
      lowering = (refl, refl, refl, refl);
      emptying = (refl, refl, refl, refl);
      passing = (refl, refl, refl, refl);
      hasty = (refl, refl, refl);
      forgetful = (refl, refl, refl, refl);
      stingy = (refl, refl, refl, refl, refl);
      silent = (refl, refl, refl);
    }

-- ---- "Try these and see them rejected"
-- "a module that declines every call (the table's exact conditions, demand 1)"
pub declining_refuted : Demand1 declining → ⊥
unfolding opened
declining_refuted d =
    let m = settings 0x03 0x03 in
    let t = settings_typed 0x03 0x03 (omega arith) in
    let e : 8 ≡ (called m interrupt).number = first_only (rules ours m interrupt) 8 (called m interrupt).number (d.exact m t interrupt) (numbers_exact m t interrupt) in
    omega (arith, e ∙ told.declining)

-- "one whose EVTCODE is always 7F" (the history rule, demand 2), the code being taken out
pub blank_bytes_refuted : Demand2 blank → ⊥
blank_bytes_refuted = no_bytes_lem blank pressed 0x10 _ _ told.blank_bytes_lem

-- and the ledger too
pub blank_refuted : Demand3 blank → ⊥
blank_refuted = no_ledger blank pressed _ _ told.blank

-- the same, the code not being taken out
pub stuck_bytes_refuted : Demand2 stuck → ⊥
stuck_bytes_refuted = no_bytes_lem stuck pressed 0x10 _ _ told.stuck_bytes

pub stuck_refuted : Demand3 stuck → ⊥
stuck_refuted = no_ledger stuck pressed _ _ told.stuck

-- "or whose look does nothing (the history rule, demand 2)"
pub idle_refuted : Demand2 idle → ⊥
idle_refuted = no_key_lem idle pressed 1 1 false (omega arith) (omega arith) told.idle

-- "one that handles the first look and ignores later ones (demand 3, over all looks)"
pub first_look_refuted : Demand3 first_look → ⊥
first_look_refuted = no_ledger first_look second _ _ told.first_look

-- "one with a made-up number waiting (demand 3 ties the queue to the history)"
pub inventive_refuted : Demand3 inventive → ⊥
inventive_refuted = no_ledger inventive _ _ _ told.inventive

-- ---- "Plausible errors in a key module"
-- "Counting a bounce run across a restart, so that one look presses a key."
pub remembering_refuted : Demand3 remembering → ⊥
remembering_refuted = no_ledger remembering _ _ _ told.remembering

-- "Not changing the held key when its code was dropped"
pub unchanged_refuted : Demand2 unchanged → ⊥
unchanged_refuted = no_key_lem unchanged sixteen 1 3 false (omega arith) (omega arith) told.unchanged

-- "Clearing REVTINT on a KBDIC write while codes wait."
pub lowering_refuted : Demand2 lowering → ⊥
lowering_refuted = no_bytes_lem lowering _ 0x06 _ _ told.lowering

-- "Stepping past EVTCODE in a long read"
pub passing_refuted : Demand2 passing → ⊥
passing_refuted = no_bytes_lem passing [] 0x10 _ _ told.passing

-- "or taking codes out for an access that is then declined"
pub hasty_refuted : Demand1 hasty → ⊥
hasty_refuted d =
    let t = told.hasty in
    let e = d.declined (after hasty pressed) (read 0x10 (replicate 33 0)) (λ z. omega (arith, sym t.0 ∙ z)) (λ z. omega (arith, sym t.0 ∙ z)) in
    let z : ◌≡◌ {A = ℕ} 0 1 = sym t.2 ∙ ap (λ (m : Module). m.count) e.0 ∙ t.1 in
    omega arith

-- "Letting the oldest code fall out of a full queue."
pub forgetful_refuted : Demand3 forgetful → ⊥
forgetful_refuted = no_ledger forgetful sixteen _ _ told.forgetful

-- ---- beyond document 01's list
-- a look does nothing once a code waits
pub once_refuted : Demand3 once → ⊥
once_refuted = no_ledger once _ _ _ told.once

-- KBDIC empties the queue
pub emptying_refuted : Demand3 emptying → ⊥
emptying_refuted = no_ledger emptying _ _ _ told.emptying

-- "Number 8 is given exactly otherwise": a state with KBDMSK 0x37 is served
pub trusting_refuted : Demand1 trusting → ⊥
unfolding opened
trusting_refuted d =
    let m = settings 0x37 0xC5 in
    let t = settings_typed 0x37 0xC5 (omega arith) in
    let e = first_only (rules ours m interrupt) (trusted m interrupt).number (called m interrupt).number (d.exact m t interrupt) (numbers_exact m t interrupt) in
    omega (arith, e, told.trusting)

-- the ledger alone would let this one pass: its codes can be seen, but not fetched one by one
pub stingy_refuted : Demand3 stingy → ⊥
stingy_refuted = no_progress stingy pressed _ _ told.stingy

-- "Last spring a release went missing"
pub silent_refuted : NoSilentLoss silent → ⊥
silent_refuted = no_report silent sixteen told.silent
