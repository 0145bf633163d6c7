-- THE KEYPAD AND THE SPARE PINS LEAVE EACH OTHER ALONE, in every state, reached or not.
--
--    pins_leave_keys      a pin sample leaves all but the pins' part; an access that begins at an address of the pins leaves the keypad's state, but for the count and the sleep; a read there the pins' part too
--    keypad_leaves_pins   a look, a block of looks, a read, and a write that begins at an address of the keypad, leaves the pins' part as it was
--    size_keeps_pins      so does a write that covers KBDSIZE, bit for bit
--    first_makes_none     the first sample after reset makes no edge
--    used_not_driven      a pin that the keypad uses isn't driven, by the answer to the question
--    kept_until_free      after an accepted size write that frees it, it is driven as its kept bits say
-- Assumes nothing.
use Prim.Native.Nat.{ℕ, zero, suc, ◌+◌, ◌/◌, ◌<◌, ◌≤◌}
use native.Mathlib.Decide.{ℕ_discrete, dec_lt}
use native.Mathlib.Omega.{arith}
use mathlib.Core.Path.{◌≡◌, refl, sym, ap, subst, ◌∙◌}
use mathlib.Core.Bool.{Bool, true, false, cond, not, ◌&&◌, ◌||◌, beq, or-true, or-false}
use mathlib.Core.List.{List, [], ◌∷◌}
use borrow.Author.Tests.{ne_eqb, eqb-true, not-false}
use lib.Dec.{eqb}
use lib.ListN.{length, set, take, drop, get_or-replicate}
use Rattle.words.specs.Words.{all, some, bit, table}
use Rattle.words.proofs.Laws.{true_false, and_left}
use Rattle.words.proofs.Lists.{by_test}
use Rattle.words.proofs.Bits.{bit_none, binary_bit}
use Rattle.words.proofs.Tables.{table_at, by_table}
use Rattle.numbers.specs.Numbers.{◌gives◌, number_of, unsound, sleeping}
use Rattle.numbers.proofs.Laws.{declining, line_false}
use Rattle.keys.specs.Keys.{acceptable, key_in}
use Rattle.pins.specs.Rules.{used, DATA, MASK, DIR, OME, OMS, drives, edge, word}
use Rattle.pins.specs.Pins as part
use Rattle.pins.specs.Pins.{flag_in, edged}
use Rattle.pins.proofs.Laws.{drives_used}
use Rattle.registers.specs.declared.Access.TheVariants.{Write}
use Rattle.registers.specs.declared.Register.{Register}
use Rattle.registers.specs.declared.Register.TheVariants.{KBDBOUNCE, KBDSIZE, KBDRIS, KBDMIS, KBDIC, KBDMSK, KBDCODE, EVTCODE, RSTINTCLR, PIN, Unknown}
use Rattle.registers.specs.Registers.{pin_reads, pin_writes, register_at, allowed, ◌is◌, address}
use Rattle.registers.specs.Runs.{next, run_allowed}
use Rattle.registers.proofs.Laws.{run_no, pin_from}
use Rattle.judge.specs.Lines.{byte_fits, sizes_fit, access_lines, write_lines}
use Rattle.state.specs.declared.Module.{Module}
use Rattle.state.specs.Module.{queue_of, with_queue, with_rsint, with_seen, with_pins, woken, keypad, fresh, forgotten, restarted}
use Rattle.state.specs.Queue.{waiting, put_all}
use Rattle.picture.specs.Picture.{all_read, marked}
use Rattle.sound.specs.Sound.{key_sound, codes_sound, rest_unused, sound}
use Rattle.sound.proofs.Laws.{sound_facts, facts_sound}
use Rattle.scan.specs.Scan as scan
use Rattle.access.specs.Bytes.{written, read_out}
use Rattle.access.specs.Accesses.{wrote, read_all}
use Rattle.access.proofs.Pins.{next_from, next_most, along_read, keypad_run, told_no_pin}
use Rattle.calls.specs.Calls.{look_number, access_number, write_number, read_number, interrupt_number, pins_number, outcome, accessed, look_call, write_call, read_call, sampling, pins_call, drive_of, drive_call}
use Rattle.calls.specs.Blocks as blocks
use Rattle.calls.specs.Blocks.{block_lines, looks_call}
use Rattle.demands.specs.Machine.{look, write, read, pins, covers}
use Rattle.demands.specs.Ours.{changing, called, blocking, wide}
use Rattle.demands.proofs.Rows.{size_place}
use Rattle.demands.proofs.Reached.{write_run, write_fit}
use Rattle.demands.proofs.Observed.{line_done}

-- ---- the pins leave the keypad
pin_written : (m : Module) (a b : ℕ) → 0x91 ≤ a → keypad (written m (register_at a) b) ≡ keypad m
unfolding written
pin_written m a b h =
    subst (λ (r : Register). keypad (written m r b) ≡ keypad m) (sym (pin_from a h))
    (by_test (λ t. keypad (written m (cond t (PIN a) Unknown) b) ≡ keypad m) (pin_reads a || pin_writes a) (λ e. refl) (λ e. refl))

pins_wrote : (bs : List ℕ) (m : Module) (a : ℕ) → 0x91 ≤ a → keypad (wrote m a bs) ≡ keypad m
unfolding wrote
pins_wrote [] m a h = refl
pins_wrote (b ∷ bs) m a h = pins_wrote bs (written m (register_at a) b) (next a) (next_from a h) ∙ pin_written m a b h

-- an access is done, and wakes; or it is declined, and wakes or leaves the module
accessed_case : (P : Module → Type 0) (m x : Module) (n : ℕ) → (n ≡ 0 → P (woken x)) → P (woken m) → P m → P (accessed m x n).after
unfolding accessed
accessed_case P m x n done refused declined =
    by_test (λ t. P (cond t (woken x) (cond (eqb n sleeping) (woken m) m))) (eqb n 0) (λ e. done (eqb-true n 0 e))
    (λ _. by_test (λ t. P (cond t (woken m) m)) (eqb n sleeping) (λ _. refused) (λ _. declined))

pub pins_leave_keys : (m : Module)
    → ((x : ℕ) → with_pins (called m (pins x)).next m.pins ≡ m)
    × (((a : ℕ) (bs : List ℕ) → 0x91 ≤ a → keypad (called m (write a bs)).next ≡ keypad m)
    × ((a : ℕ) (out : List ℕ) → 0x91 ≤ a → woken (called m (read a out)).next ≡ woken m))
unfolding called changing pins_call sampling write_call read_call outcome
pins_leave_keys m = (
  (λ x. by_test (λ t. with_pins (cond t (sampling m x) m) m.pins ≡ m) (eqb (pins_number m x) 0) (λ e. refl) (λ e. refl)),
  (
    (λ a bs h. accessed_case (λ y. keypad y ≡ keypad m) m (wrote m a bs) (write_number m a bs) (λ _. pins_wrote bs m a h) refl refl),
    (λ a out h. accessed_case (λ y. woken y ≡ woken m) m (read_all m a (length out)) (read_number m a (length out)) (λ _. ap woken (sym (along_read m (length out) a h).0)) refl refl),
  ),
)

-- ---- the keypad leaves the pins
look_pins : (m : Module) (s : List ℕ) → (scan.looked m s).pins ≡ m.pins
unfolding scan.looked scan.noticed scan.contacts
look_pins m s =
    let put = scan.noticed (with_queue (scan.contacts m s) (put_all (queue_of m) (scan.changes m s))) in
    by_test (λ t. (cond t put (scan.contacts m s)).pins ≡ m.pins) (some (scan.changes m s)) (λ e. refl) (λ e. refl)

looked_pins : (m : Module) (s : List ℕ) → (look_call m s).after.pins ≡ m.pins
unfolding look_call outcome
looked_pins m s = by_test (λ t. (cond t (scan.looked m s) m).pins ≡ m.pins) (eqb (look_number m s) 0) (λ e. look_pins m s) (λ e. refl)

singles_pins : (n : ℕ) (m : Module) (s : List ℕ) → (blocks.singles n m s).after.pins ≡ m.pins
unfolding blocks.singles
singles_pins zero m s = refl
singles_pins (suc n) m s =
    let one = look_call m (take 8 s) in
    by_test (λ t. (cond t (blocks.one_more (blocks.singles n one.after (drop 8 s))) (blocks.stopped m one.number)).after.pins ≡ m.pins) (eqb one.number 0)
    (λ e. singles_pins n one.after (drop 8 s) ∙ looked_pins m (take 8 s)) (λ e. refl)

read_pins : (m : Module) (r : Register) → (read_out m r).pins ≡ m.pins
unfolding read_out marked
read_pins m KBDBOUNCE = refl
read_pins m KBDSIZE = refl
read_pins m KBDRIS = refl
read_pins m KBDMIS = refl
read_pins m KBDIC = refl
read_pins m KBDMSK = refl
read_pins m (KBDCODE n) =
    by_test (λ t. (cond t (with_seen (with_rsint m false) forgotten) (with_seen m (set m.seen n true))).pins ≡ m.pins) (all_read (set m.seen n true)) (λ e. refl) (λ e. refl)
read_pins m EVTCODE = refl
read_pins m RSTINTCLR = refl
read_pins m (PIN a) = refl
read_pins m Unknown = refl

reads_pins : (n : ℕ) (m : Module) (a : ℕ) → (read_all m a n).pins ≡ m.pins
unfolding read_all
reads_pins zero m a = refl
reads_pins (suc n) m a = reads_pins n (read_out m (register_at a)) (next a) ∙ read_pins m (register_at a)

-- a byte for a register of the keypad
write_pins : (m : Module) (r : Register) (b : ℕ) → (r is PIN 0x91) ≡ false → (written m r b).pins ≡ m.pins
unfolding written restarted ◌is◌ address
write_pins m KBDBOUNCE b e = refl
write_pins m KBDSIZE b e = refl
write_pins m KBDRIS b e = refl
write_pins m KBDMIS b e = refl
write_pins m KBDIC b e = refl
write_pins m KBDMSK b e = refl
write_pins m (KBDCODE n) b e = refl
write_pins m EVTCODE b e = refl
write_pins m RSTINTCLR b e = refl
write_pins m (PIN a) b e = true_false e
write_pins m Unknown b e = refl

writes_pins : (bs : List ℕ) (m : Module) (a : ℕ) → a + length bs ≤ 0x91 → (wrote m a bs).pins ≡ m.pins
unfolding wrote
writes_pins [] m a h = refl
writes_pins (b ∷ bs) m a h =
    let most = next_most a in
    writes_pins bs (written m (register_at a) b) (next a) (omega arith) ∙ write_pins m (register_at a) b (told_no_pin (register_at a) a refl (omega arith))

-- a write that may be done stays among the keypad's registers if it begins there
run_stays : (a n : ℕ) → a < 0x91 → run_allowed Write a n ≡ true → a + n ≤ 0x91
unfolding allowed register_at
run_stays a zero h run = omega arith
run_stays a (suc n) h run = go (ℕ_discrete a 0x10)
  where
    go : Dec (a ≡ 0x10) → a + suc n ≤ 0x91
    go (yes e) = true_false (sym run ∙ run_no Write a (suc n) (omega arith) (ap (λ (b : ℕ). allowed Write (register_at b)) e))
    go (no e) = keypad_run Write (suc n) a h e run

write_leaves : (m : Module) (a : ℕ) (bs : List ℕ) → a < 0x91 → (called m (write a bs)).next.pins ≡ m.pins
unfolding called changing write_call
write_leaves m a bs h =
    accessed_case (λ y. y.pins ≡ m.pins) m (wrote m a bs) (write_number m a bs) (λ z. writes_pins bs m a (run_stays a (length bs) h (write_run m a bs z))) refl refl

pub keypad_leaves_pins : (m : Module)
    → ((s : List ℕ) → (called m (look s)).next.pins ≡ m.pins)
    × (((s : List ℕ) → (wide.looks m s).next.pins ≡ m.pins)
    × (((a : ℕ) (out : List ℕ) → (called m (read a out)).next.pins ≡ m.pins)
    × ((a : ℕ) (bs : List ℕ) → a < 0x91 → (called m (write a bs)).next.pins ≡ m.pins)))
unfolding called changing read_call blocking looks_call
keypad_leaves_pins m = (
  looked_pins m,
  (
    (λ s. by_test (λ t. (cond t (blocks.singles (length s / 8) m s) (blocks.stopped m (number_of (block_lines m s)))).after.pins ≡ m.pins) (eqb (number_of (block_lines m s)) 0)
        (λ e. singles_pins (length s / 8) m s) (λ e. refl)),
    (
      (λ a out. accessed_case (λ y. y.pins ≡ m.pins) m (read_all m a (length out)) (read_number m a (length out)) (λ _. reads_pins (length out) m a) refl refl),
      write_leaves m,
    ),
  ),
)

-- no write from the pins' addresses on covers KBDSIZE
covers_none : (bs : List ℕ) (a : ℕ) → 0x91 ≤ a → covers a bs ≡ false
unfolding covers
covers_none [] a h = refl
covers_none (b ∷ bs) a h = rw (size_place a, ne_eqb a 3 (omega arith)) (covers_none bs (next a) (next_from a h))

pub size_keeps_pins : (m : Module) (a : ℕ) (bs : List ℕ) → covers a bs ≡ true → (called m (write a bs)).next.pins ≡ m.pins
size_keeps_pins m a bs e = go (dec_lt a 0x91)
  where
    go : Dec (a < 0x91) → (called m (write a bs)).next.pins ≡ m.pins
    go (yes h) = write_leaves m a bs h
    go (no h) = true_false (sym e ∙ covers_none bs a (omega arith))

-- ---- edges
pub first_makes_none : (m : Module) (x : ℕ) → length m.pins.edge ≡ 19 → m.pins.sampled ≡ false → (called m (pins x)).next.pins.edge ≡ m.pins.edge
unfolding called changing pins_call sampling outcome part.sampled edged
first_makes_none m x long first =
    by_test (λ t. (cond t (sampling m x) m).pins.edge ≡ m.pins.edge) (eqb (pins_number m x) 0)
    (λ e. by_table false (edged m.pins m.size x) 19 m.pins.edge long (λ i h. still i)) (λ e. refl)
  where
    still : (i : ℕ) → edged m.pins m.size x i ≡ flag_in m.pins.edge i
    still i =
        ap (λ t. flag_in m.pins.edge i || (t && edge (part.kept m.pins) m.size i (flag_in m.pins.level i) (bit i x))) first
        ∙ or-false (flag_in m.pins.edge i)

-- ---- what is driven
word_bit : (f : ℕ → Bool) (i : ℕ) → i < 19 → bit i (word f) ≡ f i
unfolding word
word_bit f i h = binary_bit (table f 19) i ∙ table_at f 19 i false h

pub used_not_driven : (m : Module) (i : ℕ) → i < 19 → used m.size i ≡ true → bit i (drive_call m).driven ≡ false
unfolding drive_call drive_of part.driven
used_not_driven m i h e =
    by_test (λ t. bit i (cond t (part.driven m.pins m.size) 0) ≡ false) (eqb (interrupt_number m) 0)
    (λ _. word_bit (drives (part.kept m.pins) m.size) i h ∙ drives_used (part.kept m.pins) m.size i e) (λ _. bit_none i)

-- a sound module restarted with an acceptable size is sound
restarted_sound : (m : Module) (s : ℕ) → sound m ≡ true → acceptable s ≡ true → sound (restarted m s) ≡ true
unfolding restarted fresh forgotten key_sound codes_sound rest_unused waiting all all_read
restarted_sound m s ok e =
    facts_sound (restarted m s) (record {
      size = e;
      keys = λ k h. rw (get_or-replicate 104 k false false h, get_or-replicate {A = ℕ} 104 k 0 0 h, or-true (key_in s k));
      few = omega arith;
      codes = refl;
      rest = refl;
      mask = (sound_facts m ok).mask;
      marks = refl;
      counted = omega arith;
      asleep = refl;
    })

module _ (m : Module) (s : ℕ) (z : (called m (write 0x03 (s ∷ []))).number ≡ 0) where
  was_sound : sound m ≡ true
  unfolding called changing write_call accessed write_number access_number write_lines access_lines declining
  was_sound = not-false (sound m) (line_false [] (not (sound m)) unsound (m.asleep gives sleeping ∷ write_lines 0x03 (s ∷ [])) refl z)

  accepted : acceptable s ≡ true
  unfolding called changing write_call accessed sizes_fit byte_fits register_at ◌is◌ address
  accepted = and_left (acceptable s) true (write_fit m 0x03 (s ∷ []) z)

  size_written : (called m (write 0x03 (s ∷ []))).next ≡ restarted m s
  unfolding called changing write_call accessed wrote written register_at restarted fresh
  size_written = rw z

  pub kept_until_free : (i : ℕ) → i < 19 → used s i ≡ false
      → let K = part.kept m.pins in
      bit i (drive_call (called m (write 0x03 (s ∷ []))).next).driven ≡ (DIR K i && (MASK K i && (not (OME K i) || beq (OMS K i) (DATA K i))))
  unfolding drive_call drive_of part.driven drives restarted
  kept_until_free i h free =
      rw (size_written, line_done (restarted m s) (restarted_sound m s was_sound accepted))
      (word_bit (drives (part.kept m.pins) s) i h ∙ rw free)
