-- The queue of 15 one-byte codes.
--
--    waiting q      the codes that wait, oldest first
--    waits n        a code waits, where n is how many do
--    put q c        the queue with the code c put in, or dropped
--    put_all q cs   the same for codes one after the other
--    oldest q       the oldest waiting code, or 0x7F
--    shifted l      the places with the first code gone, each other one place down, and the last unused
--    taken q        the queue with the oldest code taken out
use Rattle.std.specs.Prelude.{ℕ, ◌+◌, ◌-◌, Bool, true, List, [], ◌∷◌, ◌++◌, get_or, set, take, drop, ltb}
use Rattle.words.specs.Words.{◌if◌, ◌else◌}
use Rattle.state.specs.Module.{Queue}

-- "kept oldest first from the first place"
unfoldable pub waiting : Queue → List ℕ
waiting q = take q.count q.places

unfoldable pub waits : ℕ → Bool
waits count = ltb 0 count

-- "Each is put in the queue if fewer than 15 codes wait; otherwise it is dropped and RELINT is set."
unfoldable pub put : Queue → ℕ → Queue
put q c =
    record { places = set q.places q.count c; count = q.count + 1; relint = q.relint } if ltb q.count 15
    else record { places = q.places; count = q.count; relint = true }

unfoldable pub put_all : Queue → List ℕ → Queue
put_all q [] = q
put_all q (c ∷ cs) = put_all (put q c) cs

-- "oldest waiting code, which is taken out; 0x7F when none waits"
unfoldable pub oldest : Queue → ℕ
oldest q = get_or q.places 0 0 if waits q.count else 0x7F

unfoldable pub shifted : List ℕ → List ℕ
shifted places = drop 1 places ++ (0x7F ∷ [])

unfoldable pub taken : Queue → Queue
taken q = record { places = shifted q.places; count = q.count - 1; relint = q.relint } if waits q.count else q
