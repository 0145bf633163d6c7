-- Between a two-wire bus and the module: what each event of a transfer does, for all arguments. The module is only looked at; the access is made at the stop.
--
--    Begun, Kept, Handed, Ended    what an event gives: the wire after it, and its number, answer, byte or count
--    readable a n         how many of the n addresses from a on can be read, up to the first that can't
--    longest a            how many bytes a read from the address a can have
--    least a b            the smaller of two numbers
--    shared k l           how many items two lists have in common, from the first on
--    filled l             the room for a transfer's bytes, with the bytes l at its front
--    opened w d l         the wire w, with a transfer open that does d and has the bytes l
--    idle w               the wire w, with no transfer open
--    ahead m a            the bytes that are made ahead for a read from the address a
--    begin_read m w, begin_write m w    the host begins a read, or a write
--    take_byte w b        a byte came from the host
--    next_byte w          the bus asks for a byte
--    sent w n             the bytes of a read that were sent, where the bus says that n were
--    agreed m a l         how many of the bytes l a read from a gives now, from the first on
--    stop m w n           the transfer stops: how many bytes its access has, from the first of the wire's on
--    drop_open w          the transfer is dropped
use Rattle.std.specs.Prelude.{ℕ, zero, suc, ◌+◌, ◌-◌, Bool, true, false, not, ◌&&◌, List, [], ◌∷◌, ◌++◌, length, take, set, get_or, replicate, leb, ltb, eqb}
use Rattle.words.specs.Words.{◌if◌, ◌else◌}
use Rattle.numbers.specs.Numbers.{done}
use Rattle.registers.specs.declared.Access.TheVariants.{Read}
use Rattle.registers.specs.Registers.{register_at, allowed}
use Rattle.registers.specs.Runs.{next}
use Rattle.state.specs.declared.Module.{Module}
use Rattle.access.specs.Accesses.{bytes_read}
use Rattle.calls.specs.Calls.{access_number, read_number}
use Rattle.wire.specs.declared.Wire.{Wire}

-- what the beginning of a transfer gives
pub record Begun : Type 0 where
  pub wire : Wire
  pub number : ℕ

-- what a byte from the host and a drop give: was the byte taken; was a transfer open?
pub record Kept : Type 0 where
  pub wire : Wire
  pub yes : Bool

-- what the bus is handed when it asks for a byte
pub record Handed : Type 0 where
  pub wire : Wire
  pub byte : ℕ

-- what the stop of a transfer gives: how many bytes its access has
pub record Ended : Type 0 where
  pub wire : Wire
  pub count : ℕ

-- how many of the n addresses from a on can be read, up to the first that can't
unfoldable pub readable : ℕ → ℕ → ℕ
readable a zero = 0
readable a (suc n) = readable (next a) n + 1 if allowed Read (register_at a) else 0

-- document 01: an access has 1 to 32 bytes
unfoldable pub longest : ℕ → ℕ
longest a = readable a 32

unfoldable pub least : ℕ → ℕ → ℕ
least a b = a if leb a b else b

unfoldable pub shared : List ℕ → List ℕ → ℕ
shared [] l = 0
shared (x ∷ k) [] = 0
shared (x ∷ k) (y ∷ l) = shared k l + 1 if eqb x y else 0

-- what a transfer is doing
abbrev pub idles : ℕ
idles = 0

abbrev pub names : ℕ
names = 1

abbrev pub writes : ℕ
writes = 2

abbrev pub reads : ℕ
reads = 3

abbrev pub refuses : ℕ
refuses = 4

-- what a bus reads as that nobody drives
abbrev pub nothing : ℕ
nothing = 0xFF

unfoldable pub filled : List ℕ → List ℕ
filled l = l ++ replicate (33 - length l) 0

unfoldable pub opened : Wire → ℕ → List ℕ → Wire
opened w d l = record { bytes = filled l; count = length l; given = 0; first = w.first; doing = d }

unfoldable pub idle : Wire → Wire
idle w = record { bytes = w.bytes; count = 0; given = 0; first = w.first; doing = idles }

-- ---- the beginning
-- all that a read could give, worked out on a copy
unfoldable pub ahead : Module → ℕ → List ℕ
ahead m a = bytes_read m a (longest a) if eqb (read_number m a 1) done else []

-- the number is that of a read of one byte there; declined, a read has no bytes
unfoldable pub begin_read : Module → Wire → Begun
begin_read m w = record { wire = opened w reads (ahead m w.first); number = read_number m w.first 1 }

-- the number is that of an access, whatever it asks for; declined, a write takes nothing but the address
unfoldable pub begin_write : Module → Wire → Begun
begin_write m w =
    let n = access_number m [] in
    record { wire = opened w (names if eqb n done else refuses) []; number = n }

-- ---- bytes
abbrev pub named : Wire → ℕ → ℕ → Wire
named w b d = record { bytes = w.bytes; count = w.count; given = w.given; first = b; doing = d }

abbrev pub one_more : Wire → ℕ → Wire
one_more w b = record { bytes = set w.bytes w.count b; count = w.count + 1; given = w.given; first = w.first; doing = w.doing }

abbrev pub kept : Wire → Bool → Kept
kept w t = record { wire = w; yes = t }

-- the first byte of a write is the address, and names it for a read that follows, also if the write is declined
unfoldable pub take_byte : Wire → ℕ → Kept
take_byte w b =
    kept (named w b writes) true if eqb w.doing names
    else (kept (named w b idles) false if eqb w.doing refuses
    else (kept (one_more w b) true if eqb w.doing writes && ltb w.count 33 else kept w false))

abbrev pub one_given : Wire → Wire
one_given w = record { bytes = w.bytes; count = w.count; given = w.given + 1; first = w.first; doing = w.doing }

unfoldable pub has_more : Wire → Bool
has_more w = eqb w.doing reads && (ltb w.given w.count && ltb w.given 33)

-- "Bytes asked for past the longest run are FF and take nothing."
unfoldable pub next_byte : Wire → Handed
next_byte w = record { wire = one_given w; byte = get_or w.bytes w.given 0 } if has_more w else record { wire = w; byte = nothing }

-- ---- the end
-- the bytes of a read that were sent, where the bus says that n were: no more than it was handed
unfoldable pub sent : Wire → ℕ → List ℕ
sent w n = take (least n (least w.given (longest w.first))) w.bytes

unfoldable pub agreed : Module → ℕ → List ℕ → ℕ
agreed m a l = shared l (bytes_read m a (length l))

-- how many bytes the access has: of a write all that were collected; of a read those that were sent, as far as the module still gives them,
-- since a look may have come between
unfoldable pub counted : Module → Wire → ℕ → ℕ
counted m w n =
    least w.count 33 if eqb w.doing writes
    else (agreed m w.first (sent w n) if eqb w.doing reads else 0)

unfoldable pub stop : Module → Wire → ℕ → Ended
stop m w n = record { wire = idle w; count = counted m w n }

unfoldable pub drop_open : Wire → Kept
drop_open w = kept (idle w) (not (eqb w.doing idles))
