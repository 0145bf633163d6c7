-- NO WRONG CARRIER OF specs/Wrong.antt MEETS THE STATEMENTS: for each a short list by which it is seen. ALL COMPUTED.
--
--    mirrored_refuted, ..      no wrong carrier meets the statements
-- Assumes nothing.
use Prim.Native.Nat.{ℕ}
use native.Mathlib.Omega.{arith}
use mathlib.Core.Path.{◌≡◌, refl, sym, ap, ◌∙◌}
use mathlib.Core.Bool.{Bool, true}
use mathlib.Core.List.{List, [], ◌∷◌, ◌++◌}
use mathlib.Core.Option.{none}
use lib.ListN.{length, drop, get_or, replicate}
use Rattle.words.specs.Words.{all}
use Rattle.numbers.specs.Numbers.{number_of, done}
use Rattle.numbers.proofs.Laws.{only}
use Rattle.bits.specs.Bits.{below}
use Rattle.calls.specs.declared.Done.{Done}
use Rattle.carry.specs.Carried.{Carried, write, read, packing, unpack}
use Rattle.carry.specs.Calls.{listed}
use Rattle.carry.specs.Writer.{writer_lines}
use Rattle.carry.specs.Statements.{Carrier, Carries}
use Rattle.carry.specs.Wrong.{records_by, leaves_by, bits_back, spelled_back, packed_back, packed_count, packed_swapped, packs_by, spills, calls_by}
use Rattle.carry.specs.Wrong.{checks_by, number_for, stops_from, plays_by, calls_up_to, plays_eagerly, mirrored, counting, swapped, hasty, wasteful}
use Rattle.carry.specs.Wrong.{spilling, loose, sleepy, stopping, eager}
use Rattle.carry.proofs.Laws.{twenty_exactly}
use Rattle.carry.proofs.Opened as ours

unfoldable opened : Bool
unfolding ours.opened
    records_by leaves_by bits_back spelled_back packed_back packed_count packed_swapped packs_by spills calls_by checks_by number_for stops_from plays_by calls_up_to plays_eagerly
opened = true

-- calls as numbers: a look with column 0 of row 0 closed, a read of one byte of EVTCODE, one of no byte, four resets
abbrev key35 : List ℕ
key35 = 0 ∷ 0 ∷ 8 ∷ 1 ∷ replicate 31 0

abbrev read35 : ℕ → List ℕ
read35 n = 2 ∷ 0x10 ∷ n ∷ replicate 32 0

abbrev reset35 : List ℕ
reset35 = 3 ∷ replicate 34 0

-- ---- how a writer is seen: by a byte that it leaves, or by its number

module _ (K : Carrier) (ws out : List ℕ) where
  wrong_byte : (k : ℕ) → (K.packs ws out).number ≡ done
      → (get_or (K.leaves ws out) k 0 ≡ get_or (packing (listed ws) ++ drop (length (packing (listed ws))) out) k 0 → ⊥) → Carries K → ⊥
  wrong_byte k e h c = h (ap (λ (l : List ℕ). get_or l k 0) (c.written ws out e).1)

  wrong_number : ((K.packs ws out).number ≡ number_of (writer_lines (listed ws) (length out)) → ⊥) → Carries K → ⊥
  wrong_number h c = h (only (writer_lines (listed ws) (length out)) (K.packs ws out).number (c.exact ws out))

pub mirrored_refuted : Carries mirrored → ⊥
unfolding opened
mirrored_refuted = wrong_byte mirrored key35 (replicate 14 0) 0 refl (λ (e : ◌≡◌ {A = ℕ} 0x20 0). absurd (omega arith))

pub counting_refuted : Carries counting → ⊥
unfolding opened
counting_refuted = wrong_byte counting (read35 1) (replicate 2 0) 1 refl (λ (e : ◌≡◌ {A = ℕ} 0x02 0). absurd (omega arith))

pub swapped_refuted : Carries swapped → ⊥
unfolding opened
swapped_refuted = wrong_byte swapped (read35 1) (replicate 2 0) 0 refl (λ (e : ◌≡◌ {A = ℕ} 0x44 0x84). absurd (omega arith))

pub hasty_refuted : Carries hasty → ⊥
unfolding opened
hasty_refuted = wrong_number hasty (read35 0) [] (λ (e : ◌≡◌ {A = ℕ} 21 3). absurd (omega arith))

pub wasteful_refuted : Carries wasteful → ⊥
unfolding opened
wasteful_refuted = wrong_number wasteful (read35 1) (0 ∷ 0 ∷ []) (λ (e : ◌≡◌ {A = ℕ} 21 0). absurd (omega arith))

pub spilling_refuted : Carries spilling → ⊥
unfolding opened
spilling_refuted c =
    let e : ◌≡◌ {A = List ℕ} (0x84 ∷ []) (0x55 ∷ []) = (c.declined (read35 1) (0x55 ∷ []) (λ (e : ◌≡◌ {A = ℕ} 21 0). absurd (omega arith))).1 in
    let z : ◌≡◌ {A = ℕ} 0x84 0x55 = ap (λ (l : List ℕ). get_or l 0 0) e in
    absurd (omega arith)

-- ---- how a reader is seen: by bytes that are no list

wrong_list : (K : Carrier) (bytes : List ℕ) → all (below 8) bytes ≡ true → unpack bytes ≡ none → K.checks bytes ≡ done → Carries K → ⊥
wrong_list K bytes h n e c =
    let z : ◌≡◌ {A = ℕ} 20 0 = sym ((c.cut bytes h).1 ((twenty_exactly bytes h).0 n)) ∙ e in
    absurd (omega arith)

pub loose_refuted : Carries loose → ⊥
unfolding opened
loose_refuted = wrong_list loose (0xC1 ∷ []) refl refl refl

pub sleepy_refuted : Carries sleepy → ⊥
unfolding opened
sleepy_refuted = wrong_list sleepy (0x00 ∷ []) refl refl refl

-- ---- how a player is seen: by KBDBOUNCE, which a write sets to 1

-- a read of an unknown address, then the write
abbrev declined_first : List Carried
declined_first = read 0x00 1 ∷ write 0x02 (0x01 ∷ []) ∷ []

pub stopping_refuted : Carries stopping → ⊥
unfolding opened
stopping_refuted c =
    let e = c.played declined_first refl in
    let z : ◌≡◌ {A = ℕ} 3 1 = ap (λ (d : Done). d.after.bounce) e in
    absurd (omega arith)

-- the write, and nine bits 0
abbrev write_cut : List ℕ
write_cut = 0x40 ∷ 0x80 ∷ 0x02 ∷ 0x00 ∷ []

pub eager_refuted : Carries eager → ⊥
unfolding opened
eager_refuted c =
    let e = c.refused write_cut refl in
    let z : ◌≡◌ {A = ℕ} 1 3 = ap (λ (d : Done). d.after.bounce) e in
    absurd (omega arith)
