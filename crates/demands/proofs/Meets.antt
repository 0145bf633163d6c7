-- OUR CALLS MEET THE DEMANDS. The demands are in specs/Demands.antt, the calls as a machine in specs/Ours.antt.
--
--    ours_parts              what ours tell of a state is the state
--    ours_demand1            numbers, and declined calls
--    ours_never_unsound      8 is never given for a reached state
--    ours_demand2            held keys, bytes, flags and the line
--    ours_demand3            the codes
--    ours_no_silent_loss     RELINT
-- Assumes nothing.
use Prim.Native.Nat.{◌+◌, ◌*◌}
use native.Mathlib.Omega.{arith}
use mathlib.Core.Path.{◌≡◌, refl, sym, ap, ◌∙◌}
use mathlib.Core.Bool.{true, false}
use mathlib.Core.List.{List, [], ◌++◌, append-nil}
use Rattle.words.specs.Words.{all}
use Rattle.keys.specs.Replay.{replayed}
use Rattle.sheet.specs.Sheet.{waiting}
use Rattle.sheet.specs.Ledger.{taken, kept, arrivals}
use Rattle.sheet.proofs.Ledger.{ledger}
use Rattle.sheet.proofs.Replay.{replay}
use Rattle.sheet.proofs.Loss.{relint_exact}
use Rattle.state.specs.declared.Module.{Module}
use Rattle.demands.specs.Machine.{Call, after, done, fits, fetched, seen}
use Rattle.demands.specs.Demands.{Demand1, NeverUnsound, Demand2, Demand3, NoSilentLoss}
use Rattle.demands.specs.Ours.{ours}
use Rattle.demands.proofs.Rows.{numbers_exact, declined_alters_nothing, refused_wakes}
use Rattle.demands.proofs.Reached.{reached_said}
use Rattle.demands.proofs.Observed.{bytes_observed, held_observed, line_observed, fetched_taken, seen_waiting, none_waits, relint_observed}

-- row 8 of the table is judged by what the machine tells of its states: ours tell the whole truth
pub ours_parts : (m : Module) → ours.parts m ≡ m
ours_parts m = refl

-- "1. The module takes every call, with every value, and finishes it. What it can't do it declines with a number from our list,
-- and a declined call alters neither the module nor the caller's buffer."
pub ours_demand1 : Demand1 ours
ours_demand1 = record { exact = numbers_exact; declined = declined_alters_nothing; refused = refused_wakes }

-- "Number 8 is given .. never for a state reached by calls from reset."
pub ours_never_unsound : NeverUnsound ours
ours_never_unsound =
    record { never = reached_said }

-- "2. Held keys, fetched bytes, flags and the interrupt line are what the LM8328 data sheet, as narrowed by document 01,
-- gives for the looks and bus accesses made so far. That holds for setting registers as well as for fetching them."
pub ours_demand2 : Demand2 ours
ours_demand2 =
    record {
      bytes = bytes_observed;
      keys = held_observed;
      line = line_observed;
    }

-- the codes that a caller fetched and those that it can see are those that the sheet says were taken and wait
codes_observed : (cs : List Call) → all fits cs ≡ true → fetched ours cs ++ seen ours (after ours cs) ≡ taken (done ours cs) ++ waiting (done ours cs)
codes_observed cs t = λ i. fetched_taken cs i ++ seen_waiting cs t i

-- if none waits, all that were kept were taken
all_fetched : (cs : List Call) → waiting (done ours cs) ≡ [] → taken (done ours cs) ≡ kept (arrivals (done ours cs))
all_fetched cs e = sym (append-nil (taken (done ours cs))) ∙ rw (← e) (ledger (done ours cs))

-- "3. Start from the last reset or accepted write of the keypad size. The codes taken from the queue since then (its empty mark is no code),
-- followed by those still waiting, are exactly the changes that the contacts' own history demands under the bounce settings in force,
-- each once and in order, less only those that arrived when 15 were waiting.
-- If none arrived so, replaying the codes from no key held gives the keys held now."
pub ours_demand3 : Demand3 ours
ours_demand3 =
    record {
      ledger = λ cs t. codes_observed cs t ∙ ledger (done ours cs);
      progress = λ cs t e. fetched_taken cs ∙ all_fetched cs (none_waits cs t e);
      replay = λ cs t none row col r c.
          ap (replayed (13 * row + col) false) (codes_observed cs t)
          ∙ replay (done ours cs) none (13 * row + col) (omega arith)
          ∙ sym (held_observed cs t row col r c);
    }

-- beyond the demands: RELINT is set exactly when a change was lost since the restart or the last done KBDIC write with bit 1
pub ours_no_silent_loss : NoSilentLoss ours
ours_no_silent_loss = record { told = λ cs t. relint_observed cs t ∙ relint_exact (done ours cs) }
