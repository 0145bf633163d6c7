-- UNDO GROUPS AGAINST DOCUMENT 02: short lists, written out by hand and computed. The trim key is row 1 column 0: 10, and 90 its release.
--
--    standings, standings_right     what stands at the places of lists
--    refusals, refusals_right       each refusal, and which comes first
--    walks_right                    all groups handed out, into buffers that are too short, long enough and longer
-- Assumes nothing.
use Prim.Native.Nat.{ℕ}
use mathlib.Core.Path.{◌≡◌, refl}
use mathlib.Core.List.{List, [], ◌∷◌, map}
use Rattle.undo.specs.Stands.{stands}
use Rattle.undo.specs.Walk.{walk_call, walk_buffer}
use Rattle.undo.specs.Answers.{Stand, Group, Open, Nothing, Declined}
use Rattle.undo.proofs.Opened.{opened}

-- 21 before; the trim key with 32 pressed inside and let go late; 21 let go; the trim key again, still down
pub late : List ℕ
late = 0x21 ∷ 0x10 ∷ 0x32 ∷ 0x90 ∷ 0xB2 ∷ 0xA1 ∷ 0x10 ∷ 0x43 ∷ []

-- a place of a list, and what stands there
pub record Example : Type 0 where
  pub trim : ℕ
  pub codes : List ℕ
  pub place : ℕ
  pub stand : Stand

at : ℕ → List ℕ → ℕ → Stand → Example
at trim codes place stand = record { trim = trim; codes = codes; place = place; stand = stand }

pub standings : List Example
standings =
    at 0x10 late 0 (Group 0 1)
    ∷ at 0x10 late 1 (Group 1 4)
    ∷ at 0x10 late 2 (Declined 25)
    ∷ at 0x10 late 3 (Declined 25)
    ∷ at 0x10 late 4 (Group 4 5)
    ∷ at 0x10 late 5 (Group 5 6)
    ∷ at 0x10 late 6 (Open 6)
    ∷ at 0x10 late 7 (Declined 25)
    ∷ at 0x10 late 8 Nothing
    ∷ at 0x10 late 9 (Declined 22)
    -- another trim key of the same list
    ∷ at 0x21 late 0 (Group 0 6)
    ∷ at 0x21 late 6 (Group 6 7)
    -- a group in a group's place: none nests; the row's special function key; row 0 column 0
    ∷ at 0x10 (0x10 ∷ 0x90 ∷ 0x10 ∷ 0x90 ∷ []) 2 (Group 2 4)
    ∷ at 0x7C (0x7C ∷ 0x00 ∷ 0x80 ∷ 0xFC ∷ []) 0 (Group 0 4)
    ∷ at 0x00 (0x00 ∷ 0x80 ∷ []) 0 (Group 0 2)
    ∷ at 0x10 (0x10 ∷ []) 0 (Open 0)
    ∷ at 0x10 (0x10 ∷ []) 1 Nothing
    ∷ at 0x10 [] 0 Nothing
    ∷ []

pub standing : Example → Stand
standing e = stands e.trim e.codes e.place

pub standings_right : map standing standings ≡ map (λ (e : Example). e.stand) standings
unfolding standing standings late at opened
standings_right = refl

pub refusals : List Example
refusals =
    -- 22 before 23, 23 before 24, though the wrong press comes first; 24 before 25
    at 0x10 (0x10 ∷ 0x10 ∷ 0x0D ∷ []) 4 (Declined 22)
    ∷ at 0x10 (0x10 ∷ 0x10 ∷ 0x0D ∷ []) 1 (Declined 23)
    ∷ at 0x10 (0x10 ∷ 0x10 ∷ []) 1 (Declined 24)
    -- the place is not narrowed
    ∷ at 0x10 (0x10 ∷ []) 256 (Declined 22)
    ∷ at 0x10 (0x10 ∷ []) 65536 (Declined 22)
    -- the trim key: no key, a release, a column that isn't there; also of no codes
    ∷ at 0x7F [] 0 (Declined 23)
    ∷ at 0x90 [] 0 (Declined 23)
    ∷ at 0x0D [] 0 (Declined 23)
    -- a code: no end mark is one; judged behind the place, too
    ∷ at 0x10 (0x7F ∷ []) 0 (Declined 23)
    ∷ at 0x10 (0x21 ∷ 0xFF ∷ []) 0 (Declined 23)
    ∷ at 0x10 (0x21 ∷ 0x0D ∷ []) 2 (Declined 23)
    -- a press of a key that is down, the trim key's too; a release of one that is up; behind the place, too
    ∷ at 0x10 (0x21 ∷ 0x21 ∷ []) 0 (Declined 24)
    ∷ at 0x10 (0x10 ∷ 0x10 ∷ []) 0 (Declined 24)
    ∷ at 0x10 (0x90 ∷ []) 0 (Declined 24)
    ∷ at 0x10 (0x21 ∷ 0xA1 ∷ 0xA1 ∷ []) 3 (Declined 24)
    ∷ []

pub refusals_right : map standing refusals ≡ map (λ (e : Example). e.stand) refusals
unfolding standing refusals at opened
refusals_right = refl

pub Walks : Type 0
Walks =
    (walk_call 0x10 late ≡ record { number = 0; groups = 4; tail = 6 })
    × ((walk_buffer 0x10 late (9 ∷ 9 ∷ 9 ∷ 9 ∷ 9 ∷ 9 ∷ []) ≡ 1 ∷ 4 ∷ 5 ∷ 6 ∷ 9 ∷ 9 ∷ [])
    × ((walk_buffer 0x10 late (9 ∷ 9 ∷ []) ≡ 1 ∷ 4 ∷ [])
    × ((walk_buffer 0x10 late [] ≡ [])
    × ((walk_call 0x10 [] ≡ record { number = 0; groups = 0; tail = 0 })
    × ((walk_call 0x7F late ≡ record { number = 23; groups = 0; tail = 0 })
    × ((walk_call 0x10 (0x90 ∷ []) ≡ record { number = 24; groups = 0; tail = 0 })
    × (walk_buffer 0x10 (0x90 ∷ []) (9 ∷ 9 ∷ []) ≡ 9 ∷ 9 ∷ [])))))))

pub walks_right : Walks
unfolding Walks late opened
walks_right = (refl, (refl, (refl, (refl, (refl, (refl, (refl, refl)))))))
