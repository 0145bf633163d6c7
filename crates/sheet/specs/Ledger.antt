-- THE LEDGER: the changes that the contacts' own history demands since the restart, and what became of each.
--
--    code_got b            the code in a byte of EVTCODE
--    taken past            the codes taken from the queue since the restart, oldest first
--    Arrival, room n       a change and how many codes waited when it came; fewer than 15 wait
--    arriving n cs         the arrivals of the changes cs, one after the other, when n codes wait
--    codes, kept, lost     of arrivals: all their codes; those that came when there was room; those that came when there was none
--    coming a s past       the arrivals of a look
--    arrivals past         every arrival since the restart, oldest first
--    demanded past         every change since the restart, told without the queue
--    acknowledges r b      the byte b, written to r, is KBDIC's with bit 1
--    unreported past       the changes lost since the restart or the last such write
--    acknowledged past     there was such a write since the restart
--
-- What is quoted is the customer's demand 3, unless it says otherwise. A past has its newest happening first, and every table the sheet's five lines.
use Rattle.std.specs.Prelude.{ℕ, ◌+◌, ◌-◌, Bool, false, ◌&&◌, ◌||◌, List, [], ◌∷◌, ◌++◌, length, ltb, eqb}
use Rattle.words.specs.Words.{◌if◌, ◌else◌, bit}
use Rattle.registers.specs.declared.Register.{Register}
use Rattle.registers.specs.declared.Register.TheVariants.{KBDIC, EVTCODE}
use Rattle.registers.specs.Registers.{◌is◌}
use Rattle.sheet.specs.Sheet.{Past, looked, wrote, got, beside, restarts, changes, byte_of}

-- "its empty mark is no code"
unfoldable pub code_got : ℕ → List ℕ
code_got b = [] if eqb b 0x7F else b ∷ []

-- "Start from the last reset or accepted write of the keypad size. The codes taken from the queue since then"
unfoldable pub taken : Past → List ℕ
taken [] = []
taken (looked s ∷ past) = taken past
taken (wrote r b ∷ past) = [] if restarts r else taken past
taken (got r ∷ past) = taken past ++ code_got (byte_of EVTCODE past) if r is EVTCODE else taken past
taken (beside e ∷ past) = taken past

-- a change, and how many codes waited when it came
pub record Arrival : Type 0 where
  pub change : ℕ
  pub waited : ℕ

-- "fewer than 15 codes wait" (document 01)
unfoldable pub room : ℕ → Bool
room n = ltb n 15

-- a change that is kept waits when the next one comes
unfoldable pub arriving : ℕ → List ℕ → List Arrival
arriving n [] = []
arriving n (c ∷ cs) = record { change = c; waited = n } ∷ arriving (n + 1 if room n else n) cs

unfoldable pub codes : List Arrival → List ℕ
codes [] = []
codes (a ∷ l) = a.change ∷ codes l

-- "less only those that arrived when 15 were waiting"
unfoldable pub kept : List Arrival → List ℕ
kept [] = []
kept (a ∷ l) = (a.change ∷ [] if room a.waited else []) ++ kept l

unfoldable pub lost : List Arrival → List ℕ
lost [] = []
lost (a ∷ l) = ([] if room a.waited else a.change ∷ []) ++ lost l

-- the arrivals of a look with samples s, those before it being a. How many codes wait is counted:
-- the changes kept so far, less the codes taken so far
unfoldable pub coming : List Arrival → List ℕ → Past → List Arrival
coming a s past = arriving (length (kept a) - length (taken past)) (changes s past)

unfoldable pub arrivals : Past → List Arrival
arrivals [] = []
arrivals (looked s ∷ past) = arrivals past ++ coming (arrivals past) s past
arrivals (wrote r b ∷ past) = [] if restarts r else arrivals past
arrivals (got r ∷ past) = arrivals past
arrivals (beside e ∷ past) = arrivals past

-- "exactly the changes that the contacts' own history demands under the bounce settings in force, each once and in order"
unfoldable pub demanded : Past → List ℕ
demanded [] = []
demanded (looked s ∷ past) = demanded past ++ changes s past
demanded (wrote r b ∷ past) = [] if restarts r else demanded past
demanded (got r ∷ past) = demanded past
demanded (beside e ∷ past) = demanded past

-- the host clears RELINT
abbrev pub acknowledges : Register → ℕ → Bool
acknowledges r b = r is KBDIC && bit 1 b

unfoldable pub unreported : Past → List ℕ
unreported [] = []
unreported (looked s ∷ past) = unreported past ++ lost (coming (arrivals past) s past)
unreported (wrote r b ∷ past) = [] if restarts r || acknowledges r b else unreported past
unreported (got r ∷ past) = unreported past
unreported (beside e ∷ past) = unreported past

unfoldable pub acknowledged : Past → Bool
acknowledged [] = false
acknowledged (looked s ∷ past) = acknowledged past
acknowledged (wrote r b ∷ past) = false if restarts r else acknowledged past || acknowledges r b
acknowledged (got r ∷ past) = acknowledged past
acknowledged (beside e ∷ past) = acknowledged past
