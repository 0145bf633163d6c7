-- NO WRONG PART OF specs/Wrong.antt MEETS BusDemand: for each a short story after which it is seen.
--
--    LedgerIs P es found wanted    the values fit, the story is proper, the codes that the host got, with those that wait, are found, and wanted were demanded
--    LedgerWrong, no_ledger        the same, and they aren't those; such a part doesn't meet the demand
--    pressed, naming, asked, ..   the stories, newest first
--    Told, told                    what is found of each part, and what was to be found: ALL COMPUTED
--    naive_refuted, ..             no wrong part meets the demand
-- Assumes nothing.
use Prim.Native.Nat.{ℕ}
use native.Mathlib.Omega.{arith}
use mathlib.Core.Path.{◌≡◌, refl, sym, ap, ◌∙◌}
use mathlib.Core.Bool.{true, false}
use mathlib.Core.List.{List, [], ◌∷◌, ◌++◌}
use lib.ListN.{replicate}
use Rattle.words.specs.Words.{all}
use Rattle.sheet.specs.Ledger.{kept, arrivals}
use Rattle.state.specs.declared.Module.{Module}
use Rattle.demands.specs.Machine.{look, write, read, done, seen}
use Rattle.demands.specs.Ours as calls
use Rattle.demands.specs.Ours.{called}
use Rattle.demands.specs.Sessions.{same}
use Rattle.demands.proofs.Failing.{differ}
use Rattle.bus.specs.Bus.{reads, writes, takes, gives, stops, drops, Event, bus, own, Part, story, state, fit, proper, sending, asking, BusDemand}
use Rattle.bus.specs.Ours.{ours}
use Rattle.bus.specs.Wrong.{naive, greedy, early, stubborn, blind, mute, deaf, loud}
use Rattle.bus.proofs.Opened.{opened}

-- ---- the stories, newest first
-- two keys of row 0 close in one look, with bounce 1 and size 8C
abbrev pressed : List Event
pressed = own (look (0x0003 ∷ replicate 7 0)) ∷ own (write 0x02 (1 ∷ 0x8C ∷ [])) ∷ []

-- the host names EVTCODE
abbrev naming : List Event → List Event
naming es = bus (stops 0) ∷ bus (takes 0x10) ∷ bus writes ∷ es

-- it reads one byte, and the bus asks for one more
abbrev asked : List Event → List Event
asked es = bus (stops 1) ∷ bus gives ∷ bus gives ∷ bus reads ∷ naming es

-- it reads three bytes, and a look comes between, in which a third key closes
abbrev between : List Event
between = bus (stops 3) ∷ own (look (0x0007 ∷ replicate 7 0)) ∷ bus gives ∷ bus gives ∷ bus gives ∷ bus reads ∷ naming pressed

-- it reads one byte, and the transfer is dropped
abbrev dropped : List Event
dropped = bus drops ∷ bus gives ∷ bus reads ∷ naming pressed

-- it reads a byte of KBDMSK; or it writes KBDMSK
abbrev masked : List Event
masked = bus (stops 0) ∷ bus (takes 0x09) ∷ bus writes ∷ []

-- ---- what is found, and what was to be found
abbrev LedgerIs : Part calls.ours → List Event → List ℕ → List ℕ → Type 0
LedgerIs P es found wanted =
    (all fit es ≡ true)
    × (proper P es ≡ true)
    × ((story P es).got ++ seen calls.ours (state P es) ≡ found)
    × (kept (arrivals (done calls.ours (story P es).calls)) ≡ wanted)

abbrev LedgerWrong : Part calls.ours → List Event → List ℕ → List ℕ → Type 0
LedgerWrong P es found wanted = LedgerIs P es found wanted × (same found wanted ≡ false)

no_ledger : (P : Part calls.ours) (es : List Event) (found wanted : List ℕ) → LedgerWrong P es found wanted → BusDemand P → ⊥
no_ledger P es found wanted w d = differ found wanted w.1 (sym w.0.2 ∙ d.ledger es w.0.0 w.0.1 ∙ w.0.3)

record Told : Type 0 where
  -- of ours: the codes that were demanded
  right : LedgerIs ours (asked pressed) (0x00 ∷ 0x01 ∷ []) (0x00 ∷ 0x01 ∷ [])
  right_between : LedgerIs ours between (0x00 ∷ 0x01 ∷ 0x02 ∷ []) (0x00 ∷ 0x01 ∷ 0x02 ∷ [])
  right_dropped : LedgerIs ours dropped (0x00 ∷ 0x01 ∷ []) (0x00 ∷ 0x01 ∷ [])
  naive : LedgerWrong naive (asked pressed) (0x00 ∷ []) (0x00 ∷ 0x01 ∷ [])
  greedy : LedgerWrong greedy (asked pressed) (0x00 ∷ []) (0x00 ∷ 0x01 ∷ [])
  early : LedgerWrong early (asked pressed) (0x00 ∷ []) (0x00 ∷ 0x01 ∷ [])
  stubborn : LedgerWrong stubborn (asked pressed) (0x00 ∷ 0x00 ∷ 0x01 ∷ []) (0x00 ∷ 0x01 ∷ [])
  blind : LedgerWrong blind between (0x00 ∷ 0x01 ∷ []) (0x00 ∷ 0x01 ∷ 0x02 ∷ [])
  loud : LedgerWrong loud dropped (0x01 ∷ []) (0x00 ∷ 0x01 ∷ [])
  -- KBDMSK reads 03 after reset
  silence : (story mute (asking 1 (bus reads ∷ masked))).host.bytes ≡ 0xFF ∷ []
  spoken : (called (state mute masked) (read 0x09 (0 ∷ []))).buffer ≡ 0x03 ∷ []
  -- a write of 0C there, and a read of it
  unheard : (state deaf (bus (stops 0) ∷ sending (0x09 ∷ 0x0C ∷ []) (bus writes ∷ []))).mask ≡ 0x03
  heeded : (called (state deaf []) (write 0x09 (0x0C ∷ []))).next.mask ≡ 0x0C

told : Told
unfolding opened
told =
    record {
      right = (refl, refl, refl, refl);
      right_between = (refl, refl, refl, refl);
      right_dropped = (refl, refl, refl, refl);
      naive = ((refl, refl, refl, refl), refl);
      greedy = ((refl, refl, refl, refl), refl);
      early = ((refl, refl, refl, refl), refl);
      stubborn = ((refl, refl, refl, refl), refl);
      blind = ((refl, refl, refl, refl), refl);
      loud = ((refl, refl, refl, refl), refl);
      silence = refl;
      spoken = refl;
      unheard = refl;
      heeded = refl;
    }

-- ---- the parts
pub naive_refuted : BusDemand naive → ⊥
naive_refuted = no_ledger naive (asked pressed) _ _ told.naive

pub greedy_refuted : BusDemand greedy → ⊥
greedy_refuted = no_ledger greedy (asked pressed) _ _ told.greedy

pub early_refuted : BusDemand early → ⊥
early_refuted = no_ledger early (asked pressed) _ _ told.early

pub stubborn_refuted : BusDemand stubborn → ⊥
stubborn_refuted = no_ledger stubborn (asked pressed) _ _ told.stubborn

pub blind_refuted : BusDemand blind → ⊥
blind_refuted = no_ledger blind between _ _ told.blind

pub loud_refuted : BusDemand loud → ⊥
loud_refuted = no_ledger loud dropped _ _ told.loud

pub mute_refuted : BusDemand mute → ⊥
unfolding opened
mute_refuted d = differ (0xFF ∷ []) (0x03 ∷ []) refl (d.bytes masked 1 (0 ∷ []) refl (omega arith) refl)

pub deaf_refuted : BusDemand deaf → ⊥
unfolding opened
deaf_refuted d = differ (0x03 ∷ []) (0x0C ∷ []) refl (ap (λ (m : Module). m.mask ∷ []) (d.one_write [] 0x09 0x0C [] 0 refl refl (λ z. differ (0 ∷ []) (27 ∷ []) refl (ap (λ n. n ∷ []) z))))
