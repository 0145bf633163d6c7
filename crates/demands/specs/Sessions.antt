-- THE SESSIONS of document 01 that are marked P: the calls, and what each must give. Ours give it: proofs/Sessions.antt.
--
--    Step            a call with its number, the buffer as it leaves it, and the answer
--    does, declines, gives    a call that is done; one that is declined; a read that gives bytes
--    says, holds     the interrupt line; a key that is held
--    same k l        the two lists are the same
--    passes M σ l    the machine M, in the state σ, gives what the steps l say, one after the other
--    sessions        THE TABLE: P1 to P12
use Rattle.std.specs.Prelude.{ℕ, Bool, true, false, ◌&&◌, List, [], ◌∷◌, length, replicate, eqb}
use Rattle.std.specs.Bool.{beq}
use Rattle.demands.specs.Machine.{Call, reset, look, write, read, held, interrupt, Gives, Machine}

pub record Step : Type 0 where
  pub call : Call
  pub number : ℕ
  pub buffer : List ℕ
  pub answer : Bool

abbrev pub does : Call → Step
does c = record { call = c; number = 0; buffer = []; answer = false }

abbrev pub declines : ℕ → Call → Step
declines n c = record { call = c; number = n; buffer = []; answer = false }

-- a read from the address a on
abbrev pub gives : ℕ → List ℕ → Step
gives a bytes = record { call = read a (replicate (length bytes) 0); number = 0; buffer = bytes; answer = false }

abbrev pub says : Bool → Step
says asserted = record { call = interrupt; number = 0; buffer = []; answer = asserted }

-- the held question, answered yes
abbrev pub holds : ℕ → ℕ → Step
holds row col = record { call = held row col; number = 0; buffer = []; answer = true }

unfoldable pub same : List ℕ → List ℕ → Bool
same [] [] = true
same [] (y ∷ l) = false
same (x ∷ k) [] = false
same (x ∷ k) (y ∷ l) = eqb x y && same k l

unfoldable pub agrees : {S : Type 0} → Gives S → Step → Bool
agrees g s = eqb g.number s.number && same g.buffer s.buffer && beq g.answer s.answer

unfoldable pub passes : (M : Machine) → M.State → List Step → Bool
passes M σ [] = true
passes M σ (s ∷ l) = agrees (M.does σ s.call) s && passes M (M.does σ s.call).next l

-- ""Bounce n" and "size s" stand for writes to 0x02 and 0x03."
abbrev pub bounce : ℕ → Step
bounce n = does (write 0x02 (n ∷ []))

abbrev pub size : ℕ → Step
size n = does (write 0x03 (n ∷ []))

-- one byte of EVTCODE
abbrev pub evtcode : ℕ → Step
evtcode c = gives 0x10 (c ∷ [])

-- a look with these samples of rows 0, 1, 3 and 7, the other rows open
abbrev pub rows : ℕ → ℕ → ℕ → ℕ → Step
rows row0 row1 row3 row7 = does (look (row0 ∷ row1 ∷ 0 ∷ row3 ∷ 0 ∷ 0 ∷ 0 ∷ row7 ∷ []))

-- row 1 column 1 closed; all open
abbrev pub key11 : Step
key11 = rows 0 0x0002 0 0

abbrev pub none : Step
none = rows 0 0 0 0

-- "Each session begins with one reset of its own."
unfoldable pub sessions : List (List Step)
sessions =
    -- "P1 Reset, read 0x10: 7F. Read 0x0B, four bytes: 7F 7F 7F 7F."
    (does reset ∷ evtcode 0x7F ∷ gives 0x0B (0x7F ∷ 0x7F ∷ 0x7F ∷ 0x7F ∷ []) ∷ [])
    -- "P2 Reset: interrupt asserted. Write 0x84 with 00: still asserted. With 01: not."
    ∷ (does reset ∷ says true ∷ does (write 0x84 (0x00 ∷ [])) ∷ says true ∷ does (write 0x84 (0x01 ∷ [])) ∷ says false ∷ [])
    -- "P3 Bounce 2, one look with row 1 column 1 closed: EVTCODE 7F. A second such look: 11."
    ∷ (does reset ∷ bounce 2 ∷ key11 ∷ evtcode 0x7F ∷ key11 ∷ evtcode 0x11 ∷ [])
    -- "P4 Bounce 2, that key closed, open, closed: 7F."
    ∷ (does reset ∷ bounce 2 ∷ key11 ∷ none ∷ key11 ∷ evtcode 0x7F ∷ [])
    -- "P5 Bounce 0, closed once: 11."
    ∷ (does reset ∷ bounce 0 ∷ key11 ∷ evtcode 0x11 ∷ [])
    -- "P6 Bounce 5, three closed looks, bounce 2, a fourth closed look: 11."
    ∷ (does reset ∷ bounce 5 ∷ key11 ∷ key11 ∷ key11 ∷ bounce 2 ∷ key11 ∷ evtcode 0x11 ∷ [])
    -- "P7 Size 8C, bounce 1, SF of row 7 closed, then open: 7C, FC, 7F."
    ∷ (does reset ∷ size 0x8C ∷ bounce 1 ∷ rows 0 0 0 0x1000 ∷ none ∷ evtcode 0x7C ∷ evtcode 0xFC ∷ evtcode 0x7F ∷ [])
    -- "P8 Size 8C, bounce 1, row 3 column 5 and row 0 column 11 in one look: EVTCODE 0B 35 7F; picture 8B 35 7F 7F."
    ∷ (does reset ∷ size 0x8C ∷ bounce 1 ∷ rows 0x0800 0 0x0020 0 ∷ gives 0x10 (0x0B ∷ 0x35 ∷ 0x7F ∷ []) ∷ gives 0x0B (0x8B ∷ 0x35 ∷ 0x7F ∷ 0x7F ∷ []) ∷ [])
    -- "P9 Same settings, row 0 columns 0 to 4: picture 80 81 82 83."
    ∷ (does reset ∷ size 0x8C ∷ bounce 1 ∷ rows 0x001F 0 0 0 ∷ gives 0x0B (0x80 ∷ 0x81 ∷ 0x82 ∷ 0x83 ∷ []) ∷ [])
    -- "P10 Same settings, all 12 matrix keys of row 0 and columns 0 to 3 of row 1: fifteen codes ending in 12;
    -- before any fetch KBDRIS is 0D and KBDMIS is 0C."
    ∷ (does reset ∷ size 0x8C ∷ bounce 1 ∷ rows 0x0FFF 0x000F 0 0 ∷ gives 0x06 (0x0D ∷ 0x0C ∷ [])
    ∷ gives 0x10 (0x00 ∷ 0x01 ∷ 0x02 ∷ 0x03 ∷ 0x04 ∷ 0x05 ∷ 0x06 ∷ 0x07 ∷ 0x08 ∷ 0x09 ∷ 0x0A ∷ 0x0B ∷ 0x10 ∷ 0x11 ∷ 0x12 ∷ 0x7F ∷ []) ∷ [])
    -- "P11 Size values 22 and 8C: number 0. Values 1C, 2D, 92, 81: number 6."
    ∷ (does reset ∷ size 0x22 ∷ size 0x8C ∷ declines 6 (write 0x03 (0x1C ∷ [])) ∷ declines 6 (write 0x03 (0x2D ∷ [])) ∷ declines 6 (write 0x03 (0x92 ∷ []))
    ∷ declines 6 (write 0x03 (0x81 ∷ [])) ∷ [])
    -- "P12 Row 1 column 1 held, then size 22 written: EVTCODE 7F; the contact still closed gives 11 again after D looks."
    ∷ (does reset ∷ key11 ∷ key11 ∷ key11 ∷ holds 1 1 ∷ size 0x22 ∷ evtcode 0x7F ∷ key11 ∷ key11 ∷ evtcode 0x7F ∷ key11 ∷ evtcode 0x11 ∷ [])
    ∷ []
