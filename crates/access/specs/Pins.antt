-- What a read of the pins' registers gives.
--
--    pin_byte m p a     the byte at the address a, IRQST among them: the state is m, and p its pins with the levels that are shown
--    along f a n        f of the n addresses from a on
--    items l at n       n items of the list l, from a place on
--    kept_run a n       the n bytes from the address a on all read as they are kept
use Rattle.std.specs.Prelude.{ℕ, zero, suc, ◌+◌, Bool, ◌&&◌, ◌||◌, List, [], ◌∷◌, get_or, leb, eqb}
use Rattle.words.specs.Words.{◌if◌, ◌else◌}
use Rattle.pins.specs.declared.Pins.{Pins}
use Rattle.pins.specs.Rules.{reads}
use Rattle.pins.specs.Pins.{kept_in, flag_in}
use Rattle.registers.specs.Runs.{next}
use Rattle.state.specs.declared.Module.{Module}
use Rattle.flags.specs.Flags.{irqst}

unfoldable pub pin_byte : Module → Pins → ℕ → ℕ
pin_byte m p a = irqst m if eqb a 0x91 else reads (kept_in p.kept) (flag_in p.edge) (flag_in p.level) m.size a

unfoldable pub along : (ℕ → ℕ) → ℕ → ℕ → List ℕ
along f a zero = []
along f a (suc n) = f a ∷ along f (next a) n

unfoldable pub items : List ℕ → ℕ → ℕ → List ℕ
items l at zero = []
items l at (suc n) = get_or l at 0 ∷ items l (at + 1) n

unfoldable pub kept_run : ℕ → ℕ → Bool
kept_run a n = (leb 0xAA a && leb (a + n) 0xB0) || ((leb 0xC6 a && leb (a + n) 0xD5) || (leb 0xE0 a && leb (a + n) 0xE6))
