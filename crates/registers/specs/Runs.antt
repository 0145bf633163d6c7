-- The addresses of an access.
--
--    next a                 the address of the next byte
--    addresses first n      the addresses of an access of n bytes
--    run_allowed way first n    may all of them be read, or written?
use Rattle.std.specs.Prelude.{ℕ, zero, suc, ◌+◌, Bool, ◌||◌, List, [], ◌∷◌, leb, eqb}
use Rattle.words.specs.Words.{◌if◌, ◌else◌, all}
use Rattle.registers.specs.declared.Access.{Access}
use Rattle.registers.specs.Registers.{register_at, allowed}

-- "The address rises by one per byte, except at 0x10, where it stays. It doesn't wrap after 0xFF: there is no address 0x100."
-- 0x100 stands for none: it is unknown as a register, and none follows it
unfoldable pub next : ℕ → ℕ
next a = a if eqb a 0x10 || leb 0x100 a else a + 1

unfoldable pub addresses : ℕ → ℕ → List ℕ
addresses a zero = []
addresses a (suc n) = a ∷ addresses (next a) n

-- not: "some address of the run is unknown, or can't be read or written as asked"
unfoldable pub run_allowed : Access → ℕ → ℕ → Bool
run_allowed way first n = all (λ a. allowed way (register_at a)) (addresses first n)
