-- SLEEP: request E7. "Suites leave panels on overnight."
--
--    SleepDemand M    a machine sleeps exactly when the sheet says so, and its count is the sheet's
--    looks_in cs      how many looks are among the calls
--    NotTwice M       after an access that was declined with 27, none is again before 255 looks were made
--    looks_among acts, NotTwiceWide W    the same over calls and blocks
use Rattle.std.specs.Prelude.{ℕ, ◌+◌, ◌/◌, ◌≤◌, ◌≡◌, true, List, [], ◌∷◌, ◌++◌, length, eqb}
use Rattle.words.specs.Words.{all}
use Rattle.sheet.specs.Sheet as sheet
use Rattle.demands.specs.Machine.{Call, reset, look, write, read, held, interrupt, pins, Machine, after, done, fits}
use Rattle.demands.specs.Blocks.{Wide, Act, call, block, fit, after_acts}

-- "The module sleeps after 255 looks in a row (1020 ms, document 000's default) with no change, no settling and no done access between them.
-- Looks count as usual while asleep; one with a change or a contact settling wakes it. An access is declined once and wakes it [..]
-- A restart wakes it. Waking sets the count to 0."
pub record SleepDemand (M : Machine) : Type 0 where
  -- 27 is given exactly while it sleeps, whatever the access asks for
  pub reads : (cs : List Call) → all fits cs ≡ true → (a : ℕ) (out : List ℕ) → eqb (M.does (after M cs) (read a out)).number 27 ≡ sheet.asleep (done M cs)
  pub writes : (cs : List Call) → all fits cs ≡ true → (a : ℕ) (bs : List ℕ) → eqb (M.does (after M cs) (write a bs)).number 27 ≡ sheet.asleep (done M cs)
  -- what the state tells
  pub count : (cs : List Call) → all fits cs ≡ true → (M.parts (after M cs)).quiet ≡ sheet.quiet (done M cs)
  pub sleep : (cs : List Call) → all fits cs ≡ true → (M.parts (after M cs)).asleep ≡ sheet.asleep (done M cs)

unfoldable pub looks_in : List Call → ℕ
looks_in [] = 0
looks_in (reset ∷ cs) = looks_in cs
looks_in (look s ∷ cs) = looks_in cs + 1
looks_in (write a bs ∷ cs) = looks_in cs
looks_in (read a out ∷ cs) = looks_in cs
looks_in (held row col ∷ cs) = looks_in cs
looks_in (interrupt ∷ cs) = looks_in cs
looks_in (pins x ∷ cs) = looks_in cs

-- "declined once": the calls cs, then c, which gave 27, then the calls ds, and an access that gives 27
pub record NotTwice (M : Machine) : Type 0 where
  pub read_next : (cs : List Call) (c : Call) (ds : List Call) → all fits (ds ++ (c ∷ cs)) ≡ true → (M.does (after M cs) c).number ≡ 27
      → (a : ℕ) (out : List ℕ) → (M.does (after M (ds ++ (c ∷ cs))) (read a out)).number ≡ 27 → 255 ≤ looks_in ds
  pub write_next : (cs : List Call) (c : Call) (ds : List Call) → all fits (ds ++ (c ∷ cs)) ≡ true → (M.does (after M cs) c).number ≡ 27
      → (a : ℕ) (bs : List ℕ) → (M.does (after M (ds ++ (c ∷ cs))) (write a bs)).number ≡ 27 → 255 ≤ looks_in ds

-- ---- with blocks
unfoldable pub looks_among : List Act → ℕ
looks_among [] = 0
looks_among (call c ∷ acts) = looks_in (c ∷ []) + looks_among acts
looks_among (block s ∷ acts) = length s / 8 + looks_among acts

-- "declined once": the acts, then the call c, which gave 27, then later acts, and an access that gives 27
pub record NotTwiceWide (W : Wide) : Type 0 where
  pub read_next : (acts : List Act) (c : Call) (later : List Act) → all fit (later ++ (call c ∷ acts)) ≡ true → (W.calls.does (after_acts W acts) c).number ≡ 27
      → (a : ℕ) (out : List ℕ) → (W.calls.does (after_acts W (later ++ (call c ∷ acts))) (read a out)).number ≡ 27 → 255 ≤ looks_among later
  pub write_next : (acts : List Act) (c : Call) (later : List Act) → all fit (later ++ (call c ∷ acts)) ≡ true → (W.calls.does (after_acts W acts) c).number ≡ 27
      → (a : ℕ) (bs : List ℕ) → (W.calls.does (after_acts W (later ++ (call c ∷ acts))) (write a bs)).number ≡ 27 → 255 ≤ looks_among later
