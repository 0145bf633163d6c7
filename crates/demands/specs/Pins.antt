-- THE QUESTION WHAT IS DRIVEN, beside any machine: request E6.
--
--    Driven         what the question gives back: bit i for pin i
--    Pinned         a machine with that question
--    DriveDemand1   demand 1 of it: its number is exact, and it alters nothing
--    DriveDemand2   demand 2 of it: what is driven is what the sheet says
use Rattle.std.specs.Prelude.{ℕ, ◌≡◌, true, List, [], ◌∷◌}
use Rattle.words.specs.Words.{all}
use Rattle.sheet.specs.Sheet as sheet
use Rattle.state.specs.Typed.{Typed}
use Rattle.demands.specs.Machine.{Call, Machine, after, done, fits}
use Rattle.demands.specs.Table.{◌⇒◌, First, Unsound}

pub record Driven (State : Type 0) : Type 0 where
  pub number : ℕ
  pub next : State
  -- the pins that are driven
  pub driven : ℕ
  -- those of them that are driven to 1
  pub level : ℕ

pub record Pinned : Type 1 where
  pub calls : Machine
  pub drives : calls.State → Driven calls.State

pub record DriveDemand1 (P : Pinned) : Type 0 where
  -- of every state whose parts are values of their types
  pub exact : (σ : P.calls.State) → Typed (P.calls.parts σ) → First (Unsound (P.calls.parts σ) ⇒ 8 ∷ []) (P.drives σ).number
  pub asks : (σ : P.calls.State) → (P.drives σ).next ≡ σ
  pub declined : (σ : P.calls.State) → ((P.drives σ).number ≡ 0 → ⊥) → ((P.drives σ).driven ≡ 0) × ((P.drives σ).level ≡ 0)

pub record DriveDemand2 (P : Pinned) : Type 0 where
  pub driven : (cs : List Call) → all fits cs ≡ true → (P.drives (after P.calls cs)).driven ≡ sheet.driven (done P.calls cs)
  pub level : (cs : List Call) → all fits cs ≡ true → (P.drives (after P.calls cs)).level ≡ sheet.levels (done P.calls cs)
