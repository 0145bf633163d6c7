-- THE ROWS OF THE TABLE, for our calls: each Bool that a call judges by decides the proposition of its row.
--
--    decide_high                "some sample has bit 13, 14 or 15 set"
--    decide_run                 "some address of the run is unknown, or can't be read or written as asked"
--    size_place                 KBDSIZE is at 0x03 and nowhere else
--    decide_sizes               "a byte for KBDSIZE isn't acceptable"
--    decide_key                 "row above 7 or column above 12"
--    decide_pins                "a pin sample with a bit above 18"
--    unsound_decided            "module state unsound": document 01's sentences, by Said
--    numbers_exact              EVERY CALL, IN EVERY STATE, gives the number of the first row that holds
--    declined_alters_nothing    a number that isn't 0 or 27 leaves state and buffer as they came, and a question's answer is no
--    refused_wakes              27 wakes the panel, and alters nothing else
-- Assumes nothing.
use Prim.Native.Nat.{ℕ, suc, ◌-◌, ◌≤◌}
use native.Mathlib.Decide.{ℕ_discrete, dec_le}
use native.Mathlib.Omega.{arith}
use native.Mathlib.Nat.{le_refl}
use mathlib.Core.Path.{◌≡◌, refl, sym, ap, ◌∙◌}
use mathlib.Core.Logic.{◌⊎◌, inl, inr}
use mathlib.Core.Bool.{Bool, true, false, cond, not, ◌&&◌, ◌||◌}
use mathlib.Core.List.{List, [], ◌∷◌}
use borrow.Author.Tests.{ne_eqb, eqb-true, leb-true, leb-false}
use lib.Dec.{eqb, leb, ltb}
use lib.ListN.{length, get_or, drop, drop_of_length-le}
use lib.Seq.{drop-cons}
use Rattle.words.specs.Words.{all, all_below, bit}
use Rattle.words.proofs.Laws.{true_false, all_below_lem}
use Rattle.words.proofs.Bits.{high_bit, no_high_bit}
use Rattle.words.proofs.Lists.{all_at}
use Rattle.words.proofs.Places.{chain, all_places, fails_at}
use Rattle.numbers.specs.Numbers.{◌gives◌, unsound, sleeping}
use Rattle.numbers.proofs.Laws.{lacks, never_given}
use Rattle.keys.specs.Keys.{is_key, acceptable}
use Rattle.keys.proofs.Laws.{key_yes, key_row, key_col}
use Rattle.registers.specs.declared.Register.TheVariants.{KBDBOUNCE, KBDSIZE, KBDRIS, KBDMIS, KBDIC, KBDMSK, KBDCODE, EVTCODE, RSTINTCLR, PIN, Unknown}
use Rattle.registers.specs.declared.Access.{Access}
use Rattle.registers.specs.declared.Access.TheVariants.{Read, Write}
use Rattle.registers.specs.Registers.{pin_reads, pin_writes, register_at, address, allowed, ◌is◌}
use Rattle.registers.specs.Runs.{addresses, run_allowed}
use Rattle.judge.specs.Lines.{high, byte_fits, sizes_fit, sample_lines, access_lines, read_lines, write_lines, key_lines, pin_lines}
use Rattle.state.specs.declared.Module.{Module}
use Rattle.state.specs.Module.{woken}
use Rattle.state.specs.Typed.{Typed}
use Rattle.sound.specs.Sound.{sound}
use Rattle.sound.proofs.Exactly.{sound_said, said_sound}
use Rattle.calls.specs.Calls.{look_lines, held_lines, look_number, access_number, write_number, read_number, held_number, interrupt_number, pins_number, outcome, accessed, answer, reset_call, look_call, write_call, read_call, read_buffer, held_call, interrupt_call, pins_call}
use Rattle.demands.specs.Machine.{Call, reset, look, write, read, held, interrupt, pins, lent}
use Rattle.demands.specs.Table.{First, place, Unsound, HighBits, NotAllowed, BadSize, NoKey, HighPin, rules}
use Rattle.demands.specs.Ours.{changing, asking, called, ours}
use Rattle.demands.proofs.Numbers.{Decides, none, ◌then◌, lines_first, refused, decide_true, decide_eq, decide_ne, decide_lt}

-- ---- samples
one_of : (a b c : Bool) → not (a || b || c) ≡ false → (a ≡ true) ⊎ ((b ≡ true) ⊎ (c ≡ true))
one_of true b c e = inl refl
one_of false true c e = inr (inl refl)
one_of false false true e = inr (inr refl)
one_of false false false e = true_false e

none_of : (a b c : Bool) → not (a || b || c) ≡ true → (a ≡ true) ⊎ ((b ≡ true) ⊎ (c ≡ true)) → ⊥
none_of true b c e h = true_false (sym e)
none_of false true c e h = true_false (sym e)
none_of false false true e h = true_false (sym e)
none_of false false false e (inl f) = true_false (sym f)
none_of false false false e (inr (inl f)) = true_false (sym f)
none_of false false false e (inr (inr f)) = true_false (sym f)

-- "some sample has bit 13, 14 or 15 set"
pub decide_high : (s : List ℕ) → Decides (not (all (λ x. not (high x)) s)) (HighBits s)
unfolding high
decide_high s =
    let f : ℕ → Bool = λ x. not (high x) in
    refused (all f s)
    (λ e. let r = fails_at (λ k. f (get_or s k 0)) (length s) (sym (all_places f 0 s) ∙ e) in (r.0, (r.1.0, one_of (bit 13 (get_or s r.0 0)) (bit 14 (get_or s r.0 0)) (bit 15 (get_or s r.0 0)) r.1.1)))
    (λ e h. none_of (bit 13 (get_or s h.0 0)) (bit 14 (get_or s h.0 0)) (bit 15 (get_or s h.0 0)) (all_at f 0 s e h.0 h.1.0) h.1.1)

-- ---- runs of addresses
-- the run from place k on
run_places : (f : ℕ → Bool) (a n : ℕ) → all f (addresses a n) ≡ all_below (λ k. f (place a k)) n
unfolding addresses all place
run_places f a n =
    let whole : n ≡ n - 0 = omega arith in
    ap (λ (m : ℕ). all f (addresses a m)) whole
    ∙ chain (λ k. f (place a k)) (λ k. all f (addresses (place a k) (n - k))) n
    (λ k h. let more : n - k ≡ suc (n - suc k) = omega arith in ap (λ (m : ℕ). all f (addresses (place a k) m)) more)
    (let none : n - n ≡ 0 = omega arith in ap (λ (m : ℕ). all f (addresses (place a n) m)) none)

-- "some address of the run is unknown, or can't be read or written as asked"
decide_run : (way : Access) (a n : ℕ) → Decides (not (run_allowed way a n)) (NotAllowed way a n)
unfolding run_allowed
decide_run way a n =
    let f : ℕ → Bool = λ k. allowed way (register_at (place a k)) in
    let e = run_places (λ b. allowed way (register_at b)) a n in
    refused (run_allowed way a n) (λ g. fails_at f n (sym e ∙ g)) (λ g h. true_false (sym (all_below_lem f n (sym e ∙ g) h.0 h.1.0) ∙ h.1.1))

-- ---- bytes for KBDSIZE
-- no other register counts as KBDSIZE
others : (low two six seven eight nine code evt rst pin : Bool) (n a : ℕ)
    → eqb 3 (address (cond low (cond two KBDBOUNCE (cond six KBDRIS (cond seven KBDMIS (cond eight KBDIC (cond nine KBDMSK (cond code (KBDCODE n) (cond evt EVTCODE (cond rst RSTINTCLR Unknown)))))))) (cond pin (PIN a) Unknown))) ≡ false
unfolding address
others false two six seven eight nine code evt rst true n a = refl
others false two six seven eight nine code evt rst false n a = refl
others true true six seven eight nine code evt rst pin n a = refl
others true false true seven eight nine code evt rst pin n a = refl
others true false false true eight nine code evt rst pin n a = refl
others true false false false true nine code evt rst pin n a = refl
others true false false false false true code evt rst pin n a = refl
others true false false false false false true evt rst pin n a = refl
others true false false false false false false true rst pin n a = refl
others true false false false false false false false true pin n a = refl
others true false false false false false false false false pin n a = refl

-- KBDSIZE is at 0x03 and nowhere else
pub size_place : (a : ℕ) → (register_at a is KBDSIZE) ≡ eqb a 3
unfolding register_at ◌is◌ address
size_place a = go (ℕ_discrete a 3)
  where
    go : Dec (a ≡ 3) → (register_at a is KBDSIZE) ≡ eqb a 3
    go (yes e) = rw e
    go (no e) = rw (ne_eqb a 3 e) (others (ltb a 0x91) (eqb a 2) (eqb a 6) (eqb a 7) (eqb a 8) (eqb a 9) (leb 11 a && leb a 14) (eqb a 16) (eqb a 132) (pin_reads a || pin_writes a) (a - 11) a)

byte_fits_lem : (a b : ℕ) → byte_fits (register_at a) b ≡ cond (eqb a 3) (acceptable b) true
unfolding byte_fits
byte_fits_lem a b = rw (size_place a)

byte_fails : (a b : ℕ) → byte_fits (register_at a) b ≡ false → (a ≡ 3) × (acceptable b ≡ false)
byte_fails a b e = go (eqb a 3) refl (sym (byte_fits_lem a b) ∙ e)
  where
    go : (t : Bool) → eqb a 3 ≡ t → cond t (acceptable b) true ≡ false → (a ≡ 3) × (acceptable b ≡ false)
    go true f g = (eqb-true a 3 f, g)
    go false f g = true_false g

byte_bad : (a b : ℕ) → a ≡ 3 → acceptable b ≡ false → byte_fits (register_at a) b ≡ false
byte_bad a b e f = byte_fits_lem a b ∙ rw (e, f)

-- the byte for place k of the run
fitting_at : ℕ → List ℕ → ℕ → Bool
fitting_at a bs k = byte_fits (register_at (place a k)) (get_or bs k 0)

sizes_places : (a : ℕ) (bs : List ℕ) → sizes_fit a bs ≡ all_below (fitting_at a bs) (length bs)
unfolding sizes_fit place fitting_at
sizes_places a bs =
    chain (fitting_at a bs) (λ k. sizes_fit (place a k) (drop k bs)) (length bs)
    (λ k h. ap (sizes_fit (place a k)) (drop-cons bs k 0 h)) (ap (sizes_fit (place a (length bs))) (drop_of_length-le bs (le_refl (length bs))))

-- "a byte for KBDSIZE isn't acceptable"
decide_sizes : (a : ℕ) (bs : List ℕ) → Decides (not (sizes_fit a bs)) (BadSize a bs)
unfolding fitting_at
decide_sizes a bs =
    let e = sizes_places a bs in
    refused (sizes_fit a bs)
    (λ g. let r = fails_at (fitting_at a bs) (length bs) (sym e ∙ g) in (r.0, (r.1.0, byte_fails (place a r.0) (get_or bs r.0 0) r.1.1)))
    (λ g h. true_false (sym (all_below_lem (fitting_at a bs) (length bs) (sym e ∙ g) h.0 h.1.0) ∙ byte_bad (place a h.0) (get_or bs h.0 0) h.1.1.0 h.1.1.1))

-- ---- keys
key_none : (row col : ℕ) → is_key row col ≡ false → NoKey row col
key_none row col e = go (dec_le row 7) (dec_le col 12)
  where
    go : Dec (row ≤ 7) → Dec (col ≤ 12) → NoKey row col
    go (no r) d = inl (omega (arith, r))
    go (yes r) (no c) = inr (omega (arith, c))
    go (yes r) (yes c) = true_false (sym (key_yes row col r c) ∙ e)

key_some : (row col : ℕ) → is_key row col ≡ true → NoKey row col → ⊥
key_some row col e (inl h) = omega (arith, key_row row col e)
key_some row col e (inr h) = omega (arith, key_col row col e)

-- "row above 7 or column above 12"
decide_key : (row col : ℕ) → Decides (not (is_key row col)) (NoKey row col)
decide_key row col = refused (is_key row col) (key_none row col) (key_some row col)

-- ---- pins
-- "a pin sample with a bit above 18"
decide_pins : (x : ℕ) → Decides (leb 0x80000 x) (HighPin x)
decide_pins x = record { holds = λ e. high_bit 19 x (leb-true 0x80000 x e); fails = λ e. no_high_bit 19 x (leb-false 0x80000 x e) }

-- ---- the state
-- "module state unsound"
pub unsound_decided : (m : Module) → Typed m → Decides (not (sound m)) (Unsound m)
unsound_decided m t = refused (sound m) (λ e h. true_false (sym (said_sound m t h) ∙ e)) (λ e h. h (sound_said m t e))

-- ---- every call
module _ (m : Module) where
  -- "What it can't do it declines with a number from our list"
  pub numbers_exact : Typed m → (c : Call) → First (rules ours m c) (called m c).number
  unfolding called changing asking reset_call look_call write_call read_call held_call interrupt_call pins_call outcome accessed answer look_number access_number write_number read_number held_number interrupt_number pins_number look_lines held_lines sample_lines read_lines write_lines access_lines pin_lines rules First
  numbers_exact t reset = refl
  numbers_exact t (look s) = lines_first (unsound_decided m t then decide_ne (length s) 8 then decide_high s then none)
  numbers_exact t (write a bs) =
      let n = length bs in
      lines_first (unsound_decided m t then decide_true m.asleep then decide_eq n 0 then decide_lt 32 n then decide_run Write a n then decide_sizes a bs then none)
  numbers_exact t (read a out) =
      let n = length out in
      lines_first (unsound_decided m t then decide_true m.asleep then decide_eq n 0 then decide_lt 32 n then decide_run Read a n then none)
  numbers_exact t (held row col) = lines_first (unsound_decided m t then decide_key row col then none)
  numbers_exact t interrupt = lines_first (unsound_decided m t then none)
  numbers_exact t (pins x) = lines_first (unsound_decided m t then decide_pins x then none)

  -- "and a declined call alters neither the module nor the caller's buffer"; "for a question the answer no"
  pub declined_alters_nothing : (c : Call) → ((called m c).number ≡ 0 → ⊥) → ((called m c).number ≡ 27 → ⊥)
      → ((called m c).next ≡ m) × (((called m c).buffer ≡ lent c) × ((called m c).answer ≡ false))
  unfolding called changing asking reset_call look_call write_call read_call held_call interrupt_call pins_call outcome accessed answer read_buffer lent
  declined_alters_nothing reset h z = absurd (h refl)
  declined_alters_nothing (look s) h z = (rw (ne_eqb (look_number m s) 0 h), (refl, refl))
  declined_alters_nothing (write a bs) h z = (rw (ne_eqb (write_number m a bs) 0 h, ne_eqb (write_number m a bs) 27 z), (refl, refl))
  declined_alters_nothing (read a out) h z =
      let d = ne_eqb (read_number m a (length out)) 0 h in
      (rw (d, ne_eqb (read_number m a (length out)) 27 z), (rw d, refl))
  declined_alters_nothing (held row col) h z = (refl, (refl, rw (ne_eqb (held_number m row col) 0 h)))
  declined_alters_nothing interrupt h z = (refl, (refl, rw (ne_eqb (interrupt_number m) 0 h)))
  declined_alters_nothing (pins x) h z = (rw (ne_eqb (pins_number m x) 0 h), (refl, refl))

  -- document 02, E7: "that refusal alters only the sleep state and the count"
  pub refused_wakes : (c : Call) → (called m c).number ≡ 27 → ((called m c).next ≡ woken m) × (((called m c).buffer ≡ lent c) × ((called m c).answer ≡ false))
  unfolding called changing asking reset_call look_call write_call read_call held_call interrupt_call pins_call outcome accessed answer read_buffer lent look_number look_lines sample_lines held_number held_lines key_lines interrupt_number pins_number pin_lines lacks
  refused_wakes reset z = absurd (omega arith)
  refused_wakes (look s) z = absurd (never_given sleeping (look_lines m s) refl z)
  refused_wakes (write a bs) z = (rw z, (refl, refl))
  refused_wakes (read a out) z = (rw z, (rw z, refl))
  refused_wakes (held row col) z = absurd (never_given sleeping (held_lines m row col) refl z)
  refused_wakes interrupt z = absurd (never_given sleeping (not (sound m) gives unsound ∷ []) refl z)
  refused_wakes (pins x) z = absurd (never_given sleeping (not (sound m) gives unsound ∷ pin_lines x) refl z)
