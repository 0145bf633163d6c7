-- What the types of the struct's fields say of a module.
-- In a definition a module is a record of plain lists and numbers, so a statement that needs this asks for it.
--
--    Typed m    held: [bool; 104], run: [u8; 104], queue: [u8; 15], bounce: u8, seen: [bool; 4]; of the other fields soundness says more than their types do
--
-- Every value of the type of the struct is so: proofs/Types.antt.
use Rattle.std.specs.Prelude.{ℕ, ◌<◌, ◌≤◌, ◌≡◌, length, get_or}
use Rattle.state.specs.declared.Module.{Module}

pub record Typed (m : Module) : Type 0 where
  pub keys : length m.held ≡ 104
  pub runs : length m.run ≡ 104
  pub places : length m.queue ≡ 15
  pub bytes : (i : ℕ) → get_or m.queue i 0 < 256
  pub bounce_low : m.bounce ≤ 255
  pub marks : length m.seen ≡ 4
