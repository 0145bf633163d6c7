-- HOW A MACHINE IS SEEN NOT TO MEET A DEMAND: by a list of calls, what is found after them, and what was to be found.
--
--    LedgerWrong found wanted      the codes fetched and those that wait           no-ledger
--    KeyWrong row col found        how a key is held                               no_key_lem
--    BytesWrong a found wanted     the bytes of a done read at a                   no_bytes_lem
--    ProgressWrong found wanted    the codes fetched, once EVTCODE gives 7F        no-progress
--    LossWrong                     RELINT, once a change was lost                  no-report
--    LineWrong found               the interrupt line                              no_line
--    SleepWrong a found            27, for a read of a byte at a                   no-sleep
--    CountWrong found wanted       the count of quiet looks                        no-count
--    DrivenWrong found wanted      the pins that are driven                        no-driven
--    differ                        two lists of numbers that differ are not the same
--
-- Each is of a machine M and calls cs, newest first, whose bytes fit if the demand asks that. The law beside it: then M does not meet the demand.
-- Assumes nothing.
use Prim.Native.Nat.{ℕ, ◌+◌, ◌*◌, ◌≤◌}
use mathlib.Core.Path.{◌≡◌, refl, sym, ap, ◌∙◌}
use mathlib.Core.Bool.{Bool, true, false, not}
use mathlib.Core.List.{List, [], ◌∷◌, ◌++◌}
use borrow.Author.Tests.{eq-eqb, eqb-false}
use lib.Dec.{eqb}
use lib.ListN.{length, replicate}
use Rattle.words.specs.Words.{all, some, bit}
use Rattle.words.proofs.Laws.{true_false, and_both}
use Rattle.sheet.specs.Sheet as sheet
use Rattle.sheet.specs.Ledger.{kept, arrivals, unreported}
use Rattle.demands.specs.Machine.{Call, read, held, interrupt, Machine, after, done, fits, fetched, awake, seen}
use Rattle.demands.specs.Demands.{Demand2, Demand3, NoSilentLoss, bytes_of}
use Rattle.demands.specs.Pins.{Pinned, DriveDemand2}
use Rattle.demands.specs.Sleep.{SleepDemand}
use Rattle.demands.specs.Sessions.{same}

same_refl : (l : List ℕ) → same l l ≡ true
unfolding same
same_refl [] = refl
same_refl (x ∷ l) = and_both (eqb x x) (same l l) (eq-eqb x x refl) (same_refl l)

pub differ : (k l : List ℕ) → same k l ≡ false → k ≡ l → ⊥
differ k l e f = true_false (sym (same_refl k) ∙ ap (same k) f ∙ e)

opposite_not : (b : Bool) → b ≡ not b → ⊥
opposite_not true e = true_false e
opposite_not false e = true_false (sym e)

module _ (M : Machine) (cs : List Call) where
  -- the codes fetched and those that wait
  abbrev pub LedgerWrong : List ℕ → List ℕ → Type 0
  LedgerWrong found wanted =
      (all fits cs ≡ true) × (fetched M cs ++ seen M (after M cs) ≡ found) × (kept (arrivals (done M cs)) ≡ wanted) × (same found wanted ≡ false)

  pub no_ledger : (found wanted : List ℕ) → LedgerWrong found wanted → Demand3 M → ⊥
  no_ledger found wanted w d = differ found wanted w.3 (sym w.1 ∙ d.ledger cs w.0 ∙ w.2)

  -- how a key is held
  abbrev pub KeyWrong : ℕ → ℕ → Bool → Type 0
  KeyWrong row col found = (all fits cs ≡ true) × ((M.does (after M cs) (held row col)).answer ≡ found) × (sheet.held (13 * row + col) (done M cs) ≡ not found)

  pub no_key_lem : (row col : ℕ) (found : Bool) → row ≤ 7 → col ≤ 12 → KeyWrong row col found → Demand2 M → ⊥
  no_key_lem row col found r c w d = opposite_not found (sym w.1 ∙ d.keys cs w.0 row col r c ∙ w.2)

  -- the bytes of a done read, into a buffer of 0xEE
  abbrev pub BytesWrong : ℕ → List ℕ → List ℕ → Type 0
  BytesWrong a found wanted =
      let out : List ℕ = replicate (length wanted) 0xEE in
      let g = M.does (after M cs) (read a out) in
      (g.number ≡ 0) × (g.buffer ≡ found) × (bytes_of a (length out) (done M cs) ≡ wanted) × (same found wanted ≡ false)

  pub no_bytes_lem : (a : ℕ) (found wanted : List ℕ) → BytesWrong a found wanted → Demand2 M → ⊥
  no_bytes_lem a found wanted w d = differ found wanted w.3 (sym w.1 ∙ d.bytes cs a (replicate (length wanted) 0xEE) w.0 ∙ w.2)

  -- a byte of EVTCODE is the empty mark; what was fetched, and what the history demands
  abbrev pub ProgressWrong : List ℕ → List ℕ → Type 0
  ProgressWrong found wanted =
      (all fits cs ≡ true) × ((M.does (awake M (after M cs)) (read 0x10 (0 ∷ []))).buffer ≡ 0x7F ∷ []) × (fetched M cs ≡ found) × (kept (arrivals (done M cs)) ≡ wanted) × (same found wanted ≡ false)

  pub no_progress : (found wanted : List ℕ) → ProgressWrong found wanted → Demand3 M → ⊥
  no_progress found wanted w d = differ found wanted w.4 (sym w.2 ∙ d.progress cs w.0 w.1 ∙ w.3)

  -- RELINT is not set, though a loss is unreported
  abbrev pub LossWrong : Type 0
  LossWrong = (all fits cs ≡ true) × (all (bit 3) (M.does (awake M (after M cs)) (read 0x06 (0 ∷ []))).buffer ≡ false) × (some (unreported (done M cs)) ≡ true)

  pub no_report : LossWrong → NoSilentLoss M → ⊥
  no_report w d = true_false (sym w.2 ∙ sym (d.told cs w.0) ∙ w.1)

  -- whether the interrupt line is asserted
  abbrev pub LineWrong : Bool → Type 0
  LineWrong found = (all fits cs ≡ true) × ((M.does (after M cs) interrupt).answer ≡ found) × (sheet.line (done M cs) ≡ not found)

  pub no_line : (found : Bool) → LineWrong found → Demand2 M → ⊥
  no_line found w d = opposite_not found (sym w.1 ∙ d.line cs w.0 ∙ w.2)

  -- whether a read of one byte is declined because the panel sleeps
  abbrev pub SleepWrong : ℕ → Bool → Type 0
  SleepWrong a found = (all fits cs ≡ true) × (eqb (M.does (after M cs) (read a (0 ∷ []))).number 27 ≡ found) × (sheet.asleep (done M cs) ≡ not found)

  pub no_sleep : (a : ℕ) (found : Bool) → SleepWrong a found → SleepDemand M → ⊥
  no_sleep a found w d = opposite_not found (sym w.1 ∙ d.reads cs w.0 a (0 ∷ []) ∙ w.2)

  -- how many quiet looks there were in a row
  abbrev pub CountWrong : ℕ → ℕ → Type 0
  CountWrong found wanted = (all fits cs ≡ true) × ((M.parts (after M cs)).quiet ≡ found) × (sheet.quiet (done M cs) ≡ wanted) × (eqb found wanted ≡ false)

  pub no_count : (found wanted : ℕ) → CountWrong found wanted → SleepDemand M → ⊥
  no_count found wanted w d = eqb-false found wanted w.3 (sym w.1 ∙ d.count cs w.0 ∙ w.2)

module _ (P : Pinned) (cs : List Call) where
  -- the pins that are driven, as bits
  abbrev pub DrivenWrong : ℕ → ℕ → Type 0
  DrivenWrong found wanted =
      (all fits cs ≡ true) × ((P.drives (after P.calls cs)).driven ≡ found) × (sheet.driven (done P.calls cs) ≡ wanted) × (eqb found wanted ≡ false)

  pub no_driven : (found wanted : ℕ) → DrivenWrong found wanted → DriveDemand2 P → ⊥
  no_driven found wanted w d = eqb-false found wanted w.3 (sym w.1 ∙ d.driven cs w.0 ∙ w.2)
