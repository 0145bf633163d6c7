-- A CALL AS NUMBERS: the form in which lists of calls are lent. By its type it can hold what 1 to 4 decline.
--
--    code k          the number of a kind
--    firsts n xs     the first n of the numbers xs; those past the end are 0
--    low x           a number modulo 256
--    of_kind k a n xs the call of the kind k modulo 4, with an address, a count, and samples or bytes
--    carried c       the call that the numbers c tell
--    filled xs       numbers, and 0 in the places beyond them, 32 in all
--    call_of c       the numbers that tell the call c
--    header c k      the bits of the call c, an access, before a write's bytes: the kind k, the address, and the count less one
--    call_at ws i    call i of a list of numbers, 35 a call
--    listed ws       the calls of a list of numbers; numbers at its end that make no whole call are none
--    numbered cs     the numbers that tell the calls cs
use Rattle.std.specs.Prelude.{ℕ, zero, suc, ◌+◌, ◌-◌, ◌*◌, ◌/◌, ◌%◌, Bool, List, [], ◌∷◌, ◌++◌, map, length, take, drop, get_or, replicate, eqb}
use Rattle.words.specs.Words.{◌if◌, ◌else◌, table}
use Rattle.bits.specs.Bits.{bits_of}
use Rattle.carry.specs.declared.call.Call.{Call}
use Rattle.carry.specs.declared.call.Kind.{Kind}
use Rattle.carry.specs.declared.call.Kind.TheVariants.{Look, Write, Read, Reset}
use Rattle.carry.specs.Carried.{Carried, look, write, read, reset}

abbrev pub code : Kind → ℕ
code Look = 0
code Write = 1
code Read = 2
code Reset = 3

unfoldable pub firsts : ℕ → List ℕ → List ℕ
firsts zero xs = []
firsts (suc n) [] = 0 ∷ firsts n []
firsts (suc n) (x ∷ xs) = x ∷ firsts n xs

unfoldable pub low : ℕ → ℕ
low x = x % 256

unfoldable pub of_kind : ℕ → ℕ → ℕ → List ℕ → Carried
of_kind k a n xs =
    look (firsts n xs) if eqb (k % 4) 0 else
    (write (low a) (map low (firsts n xs)) if eqb (k % 4) 1 else
    (read (low a) n if eqb (k % 4) 2 else reset))

unfoldable pub carried : Call → Carried
carried c = of_kind c.kind c.first c.count c.values

unfoldable pub filled : List ℕ → List ℕ
filled xs = xs ++ replicate (32 - length xs) 0

unfoldable pub call_of : Carried → Call
call_of (look samples) = record { kind = 0; first = 0; count = length samples; values = filled samples }
call_of (write a bytes) = record { kind = 1; first = a; count = length bytes; values = filled bytes }
call_of (read a n) = record { kind = 2; first = a; count = n; values = filled [] }
call_of reset = record { kind = 3; first = 0; count = 0; values = filled [] }

abbrev pub header : Call → ℕ → List Bool
header c k = bits_of 2 k ++ (bits_of 8 c.first ++ bits_of 5 (c.count - 1))

unfoldable pub call_at : List ℕ → ℕ → Call
call_at ws i = record { kind = get_or ws (i * 35) 0; first = get_or ws (i * 35 + 1) 0; count = get_or ws (i * 35 + 2) 0; values = take 32 (drop (i * 35 + 3) ws) }

unfoldable pub listed : List ℕ → List Carried
listed ws = table (λ i. carried (call_at ws i)) (length ws / 35)

unfoldable pub numbered : List Carried → List ℕ
numbered [] = []
numbered (c ∷ cs) = (call_of c).kind ∷ (call_of c).first ∷ (call_of c).count ∷ (call_of c).values ++ numbered cs
