-- What the bytes of one access do, one at a time, in order. A is the address of the first.
--
--    wrote m a bs         the state once the bytes bs are written
--    read_all m a n       the state once n bytes are read
--    bytes_read m a n     those bytes
use Rattle.std.specs.Prelude.{ℕ, zero, suc, List, [], ◌∷◌}
use Rattle.registers.specs.Registers.{register_at}
use Rattle.registers.specs.Runs.{next}
use Rattle.state.specs.declared.Module.{Module}
use Rattle.access.specs.Bytes.{written, byte_of, read_out}

-- "Bytes take effect one at a time, in order."
unfoldable pub wrote : Module → ℕ → List ℕ → Module
wrote m a [] = m
wrote m a (b ∷ bs) = wrote (written m (register_at a) b) (next a) bs

-- "After each byte the rest of the caller's buffer, from the next place on, is filled by the same rule."
unfoldable pub read_all : Module → ℕ → ℕ → Module
read_all m a zero = m
read_all m a (suc n) = read_all (read_out m (register_at a)) (next a) n

unfoldable pub bytes_read : Module → ℕ → ℕ → List ℕ
bytes_read m a zero = []
bytes_read m a (suc n) = byte_of m (register_at a) ∷ bytes_read (read_out m (register_at a)) (next a) n
