-- EVERY SOUND STATE IS REACHED BY CALLS FROM RESET, but for its pins, its count and its sleep: awake, with a count of 0, and with the pins as after reset.
-- So what holds after every list of calls holds of every such state.
--
--    place r          the address of a register
--    wake             an access of no bytes: awake it alters nothing, asleep it wakes
--    calls_of past     the calls that make a past, a byte each, and one that wakes the panel before each
--    calls_types      their values are of the calls' types; types-fit: as the demands ask
--    look_made        a look is done; write-made, read_made: so is an access after one that wakes
--    calls_after      so they lead to the module after that past
--    reached_by       THE THEOREM: calls that reach the state with the keypad of a given sound state, awake, with a count of 0, and with the pins as after reset
--    of_every         so what holds of every state that calls reach holds of every such state
-- Assumes nothing.
use Prim.Native.Nat.{ℕ, zero, suc, ◌+◌, ◌<◌}
use native.Mathlib.Omega.{arith}
use mathlib.Core.Path.{◌≡◌, refl, sym, ap, ◌∙◌, subst}
use mathlib.Core.Bool.{true, false, cond, not, ◌&&◌}
use mathlib.Core.List.{List, [], ◌∷◌}
use borrow.Author.Tests.{leb-true, lt-ltb, ltb-true}
use lib.Dec.{eqb, leb, ltb}
use lib.ListN.{length}
use Rattle.words.specs.Words.{all}
use Rattle.words.proofs.Laws.{true_false, and_left, and_right, and_both, all_cons, all_first, all_rest}
use Rattle.words.proofs.Lists.{by_test, all_none, all_one}
use Rattle.numbers.specs.Numbers.{number_of}
use Rattle.registers.specs.declared.Access.{Access}
use Rattle.registers.specs.declared.Access.TheVariants.{Read, Write}
use Rattle.registers.specs.declared.Register.{Register}
use Rattle.registers.specs.declared.Register.TheVariants.{KBDBOUNCE, KBDSIZE, KBDRIS, KBDMIS, KBDIC, KBDMSK, KBDCODE, EVTCODE, RSTINTCLR, PIN, Unknown}
use Rattle.registers.specs.Registers.{register_at, can_read, can_write, allowed, ◌is◌, address, pictured}
use Rattle.registers.specs.Runs.{addresses, run_allowed}
use Rattle.judge.specs.Lines.{high, byte_fits, sample_lines, access_lines, sizes_fit, read_lines, write_lines}
use Rattle.sheet.specs.Sheet.{Past, looked, wrote, got, beside}
use Rattle.state.specs.declared.Module.{Module}
use Rattle.state.specs.Module.{woken, keypad}
use Rattle.state.specs.Typed.{Typed}
use Rattle.sound.specs.Sound.{sound}
use Rattle.sound.specs.Said.{Said}
use Rattle.scan.specs.Scan as scan
use Rattle.access.specs.Bytes.{written, read_out}
use Rattle.access.specs.Accesses as access
use Rattle.calls.specs.Calls.{look_lines, look_number, write_number, read_number, outcome, accessed, look_call, write_call, read_call}
use Rattle.calls.proofs.Laws.{asleep_first, awake_then}
use Rattle.demands.specs.Machine as machine
use Rattle.demands.specs.Machine.{Call, reset, look, write, read, held, interrupt, pins, fits}
use Rattle.demands.specs.Ours.{changing, called, ours}
use Rattle.demands.specs.Shown.{after, shown}
use Rattle.demands.proofs.Simulation.{as_the_sheet_says}
use Rattle.demands.proofs.Sleep.{wrote_woken, reads_woken}
use Rattle.demands.proofs.Reached.{reached_sound}
use Rattle.reach.proofs.Steps.{of_keys, possible, doable, doable_last, doable_before}
use Rattle.reach.specs.Reach.{callable, ReachedBy}
use Rattle.reach.proofs.Only.{only}
use Rattle.reach.proofs.Apart.{woken_sound}

unfoldable pub place : Register → ℕ
place KBDBOUNCE = 0x02
place KBDSIZE = 0x03
place KBDRIS = 0x06
place KBDMIS = 0x07
place KBDIC = 0x08
place KBDMSK = 0x09
place (KBDCODE n) = 0x0B + n
place EVTCODE = 0x10
place RSTINTCLR = 0x84
place (PIN a) = a
place Unknown = 0

abbrev pub wake : Call
wake = read 0x10 []

-- newest first, as the past
unfoldable pub calls_of : Past → List Call
calls_of [] = []
calls_of (looked s ∷ past) = look s ∷ calls_of past
calls_of (wrote r b ∷ past) = write (place r) (b ∷ []) ∷ wake ∷ calls_of past
calls_of (got r ∷ past) = read (place r) (0 ∷ []) ∷ wake ∷ calls_of past
calls_of (beside x ∷ past) = calls_of past

four_places : (n : ℕ) → n < 4 → register_at (0x0B + n) ≡ KBDCODE n
unfolding register_at
four_places zero h = refl
four_places (suc zero) h = refl
four_places (suc (suc zero)) h = refl
four_places (suc (suc (suc zero))) h = refl
four_places (suc (suc (suc (suc n)))) h = absurd (omega arith)

read_back : (r : Register) → can_read r ≡ true → all (λ n. ltb n 4) (pictured r) ≡ true → of_keys r ≡ true → register_at (place r) ≡ r
unfolding place register_at pictured ◌is◌ address
read_back KBDBOUNCE e f o = refl
read_back KBDSIZE e f o = refl
read_back KBDRIS e f o = refl
read_back KBDMIS e f o = refl
read_back KBDIC e f o = true_false (sym e)
read_back KBDMSK e f o = refl
read_back (KBDCODE n) e f o = four_places n (ltb-true n 4 (all_first (λ n. ltb n 4) n [] f))
read_back EVTCODE e f o = refl
read_back RSTINTCLR e f o = true_false (sym e)
read_back (PIN a) e f o = true_false (sym o)
read_back Unknown e f o = true_false (sym e)

write_back : (r : Register) → can_write r ≡ true → of_keys r ≡ true → register_at (place r) ≡ r
unfolding place register_at ◌is◌ address
write_back KBDBOUNCE e o = refl
write_back KBDSIZE e o = refl
write_back KBDRIS e o = true_false (sym e)
write_back KBDMIS e o = true_false (sym e)
write_back KBDIC e o = refl
write_back KBDMSK e o = refl
write_back (KBDCODE n) e o = true_false (sym e)
write_back EVTCODE e o = true_false (sym e)
write_back RSTINTCLR e o = refl
write_back (PIN a) e o = true_false (sym o)
write_back Unknown e o = true_false (sym e)

-- ---- the bytes are bytes
read_low : (r : Register) → all (λ n. ltb n 4) (pictured r) ≡ true → of_keys r ≡ true → ltb (place r) 256 ≡ true
unfolding place pictured ◌is◌ address
read_low KBDBOUNCE f o = refl
read_low KBDSIZE f o = refl
read_low KBDRIS f o = refl
read_low KBDMIS f o = refl
read_low KBDIC f o = refl
read_low KBDMSK f o = refl
read_low (KBDCODE n) f o = let l = ltb-true n 4 (all_first (λ n. ltb n 4) n [] f) in lt-ltb (0x0B + n) 256 (omega arith)
read_low EVTCODE f o = refl
read_low RSTINTCLR f o = refl
read_low (PIN a) f o = true_false (sym o)
read_low Unknown f o = refl

write_low : (r : Register) → can_write r ≡ true → of_keys r ≡ true → ltb (place r) 256 ≡ true
unfolding place ◌is◌ address
write_low KBDBOUNCE e o = refl
write_low KBDSIZE e o = refl
write_low KBDRIS e o = refl
write_low KBDMIS e o = refl
write_low KBDIC e o = refl
write_low KBDMSK e o = refl
write_low (KBDCODE n) e o = true_false (sym e)
write_low EVTCODE e o = refl
write_low RSTINTCLR e o = refl
write_low (PIN a) e o = true_false (sym o)
write_low Unknown e o = refl

one : (c : Call) → callable c ≡ true → fits c ≡ true
unfolding callable fits
one reset e = refl
one (look s) e = refl
one (write a bs) e = and_right (ltb a 256) (all (λ b. ltb b 256) bs) e
one (read a out) e = refl
one (held row col) e = refl
one interrupt e = refl
one (pins x) e = refl

-- values of these types are all that the demands ask for
pub types_fit : (cs : List Call) → all callable cs ≡ true → all fits cs ≡ true
types_fit [] e = all_none fits
types_fit (c ∷ cs) e = all_cons fits c cs (one c (all_first callable c cs e)) (types_fit cs (all_rest callable c cs e))

-- what is known of a byte that can be written, and of a register that can be read
record Writes (r : Register) (b : ℕ) : Type 0 where
  pub byte : b < 256
  pub fit : byte_fits r b ≡ true
  pub may : can_write r ≡ true
  pub own : of_keys r ≡ true

record Reads (r : Register) : Type 0 where
  pub may : can_read r ≡ true
  pub few : all (λ n. ltb n 4) (pictured r) ≡ true
  pub own : of_keys r ≡ true

writes : (r : Register) (b : ℕ) → possible (wrote r b) ≡ true → Writes r b
unfolding possible
writes r b e =
    let three = and_left (leb b 0xFF && byte_fits r b && can_write r) (of_keys r) e in
    let two = and_left (leb b 0xFF && byte_fits r b) (can_write r) three in
    let low = leb-true b 0xFF (and_left (leb b 0xFF) (byte_fits r b) two) in
    record {
      byte = omega arith;
      fit = and_right (leb b 0xFF) (byte_fits r b) two;
      may = and_right (leb b 0xFF && byte_fits r b) (can_write r) three;
      own = and_right (leb b 0xFF && byte_fits r b && can_write r) (of_keys r) e;
    }

reads : (r : Register) → possible (got r) ≡ true → Reads r
unfolding possible
reads r e =
    let two = and_left (can_read r && all (λ n. ltb n 4) (pictured r)) (of_keys r) e in
    record {
      may = and_left (can_read r) (all (λ n. ltb n 4) (pictured r)) two;
      few = and_right (can_read r) (all (λ n. ltb n 4) (pictured r)) two;
      own = and_right (can_read r && all (λ n. ltb n 4) (pictured r)) (of_keys r) e;
    }

pub calls_types : (past : Past) → doable past ≡ true → all callable (calls_of past) ≡ true
unfolding calls_of callable possible
calls_types [] e = all_none callable
calls_types (looked s ∷ past) e =
    all_cons callable (look s) (calls_of past)
    (and_right (eqb (length s) 8 && all (λ x. not (high x)) s) (all (λ x. ltb x 0x10000) s) (doable_last (looked s) past e)) (calls_types past (doable_before (looked s) past e))
calls_types (wrote r b ∷ past) e =
    let w = writes r b (doable_last (wrote r b) past e) in
    all_cons callable (write (place r) (b ∷ [])) (wake ∷ calls_of past)
    (and_both (ltb (place r) 256) (all (λ b. ltb b 256) (b ∷ [])) (write_low r w.may w.own) (all_one (λ b. ltb b 256) b (lt-ltb b 256 w.byte)))
    (all_cons callable wake (calls_of past) (all_none (λ b. ltb b 256)) (calls_types past (doable_before (wrote r b) past e)))
calls_types (got r ∷ past) e =
    let g = reads r (doable_last (got r) past e) in
    all_cons callable (read (place r) (0 ∷ [])) (wake ∷ calls_of past)
    (and_both (ltb (place r) 256) (all (λ b. ltb b 256) (0 ∷ [])) (read_low r g.few g.own) (all_one (λ b. ltb b 256) 0 refl))
    (all_cons callable wake (calls_of past) (all_none (λ b. ltb b 256)) (calls_types past (doable_before (got r) past e)))
calls_types (beside x ∷ past) e = true_false (sym (doable_last (beside x) past e))

-- ---- each of them is done
may_run : (way : Access) (a : ℕ) → allowed way (register_at a) ≡ true → run_allowed way a 1 ≡ true
unfolding run_allowed addresses
may_run way a e = all_one (λ a. allowed way (register_at a)) a e

write_judged : (a b : ℕ) → allowed Write (register_at a) ≡ true → byte_fits (register_at a) b ≡ true → number_of (write_lines a (b ∷ [])) ≡ 0
unfolding write_lines access_lines sizes_fit number_of
write_judged a b e f = rw (may_run Write a e, f) refl

read_judged : (a : ℕ) → allowed Read (register_at a) ≡ true → number_of (read_lines a 1) ≡ 0
unfolding read_lines access_lines number_of
read_judged a e = rw (may_run Read a e) refl

module _ (m : Module) (ok : sound m ≡ true) where
  -- of a state that is awake
  write_done : m.asleep ≡ false → (a : ℕ) (bs : List ℕ) → number_of (write_lines a bs) ≡ 0 → (called m (write a bs)).next ≡ woken (access.wrote m a bs)
  unfolding called changing write_call accessed write_number
  write_done z a bs e = rw (awake_then m (write_lines a bs) ok z ∙ e) refl

  read_done : m.asleep ≡ false → (a : ℕ) (out : List ℕ) → number_of (read_lines a (length out)) ≡ 0 → (called m (read a out)).next ≡ woken (access.read_all m a (length out))
  unfolding called changing read_call accessed read_number
  read_done z a out e = rw (awake_then m (read_lines a (length out)) ok z ∙ e) refl

module _ (m : Module) (ok : sound m ≡ true) where
  pub look_made : (s : List ℕ) → eqb (length s) 8 ≡ true → all (λ x. not (high x)) s ≡ true → (called m (look s)).next ≡ scan.looked m s
  unfolding called changing look_call outcome look_number look_lines sample_lines number_of
  look_made s e f = rw (ok, e, f) refl

  -- awake it is declined by 3
  wakes : (called m wake).next ≡ cond m.asleep (woken m) m
  unfolding called changing read_call accessed read_number read_lines access_lines number_of
  wakes =
      by_test (λ t. m.asleep ≡ t → (called m wake).next ≡ cond t (woken m) m) m.asleep
      (λ _ z. rw (asleep_first m (read_lines 0x10 0) ok z) refl)
      (λ _ z. rw (awake_then m (read_lines 0x10 0) ok z) refl) refl

  -- whether it slept or not
  once_awake : (P : Module → Type 0) → (m.asleep ≡ true → P (woken m)) → (m.asleep ≡ false → P m) → P (called m wake).next
  once_awake P t f = subst P (sym wakes) (by_test (λ b. P (cond b (woken m) m)) m.asleep t f)

  write_made : (a : ℕ) (bs : List ℕ) → number_of (write_lines a bs) ≡ 0 → (called (called m wake).next (write a bs)).next ≡ woken (access.wrote m a bs)
  write_made a bs e =
      once_awake (λ x. (called x (write a bs)).next ≡ woken (access.wrote m a bs))
      (λ _. write_done (woken m) (woken_sound m ok) refl a bs e ∙ ap woken (wrote_woken m a bs))
      (λ z. write_done m ok z a bs e)

  read_made : (a : ℕ) (out : List ℕ) → number_of (read_lines a (length out)) ≡ 0 → (called (called m wake).next (read a out)).next ≡ woken (access.read_all m a (length out))
  read_made a out e =
      once_awake (λ x. (called x (read a out)).next ≡ woken (access.read_all m a (length out)))
      (λ _. read_done (woken m) (woken_sound m ok) refl a out e ∙ ap woken (reads_woken m a (length out)))
      (λ z. read_done m ok z a out e)

-- ---- and they lead to the module after that past
calls_sound : (past : Past) → doable past ≡ true → sound (machine.after ours (calls_of past)) ≡ true
calls_sound past e = reached_sound (calls_of past) (types_fit (calls_of past) (calls_types past e))

pub calls_after : (past : Past) → doable past ≡ true → machine.after ours (calls_of past) ≡ after past
unfolding calls_of machine.after after possible allowed access.wrote access.read_all
calls_after [] e = refl
calls_after (looked s ∷ past) e =
    let before = doable_before (looked s) past e in
    let two = and_left (eqb (length s) 8 && all (λ x. not (high x)) s) (all (λ x. ltb x 0x10000) s) (doable_last (looked s) past e) in
    look_made (machine.after ours (calls_of past)) (calls_sound past before) s
    (and_left (eqb (length s) 8) (all (λ x. not (high x)) s) two) (and_right (eqb (length s) 8) (all (λ x. not (high x)) s) two)
    ∙ ap (λ (m : Module). scan.looked m s) (calls_after past before)
calls_after (wrote r b ∷ past) e =
    let before = doable_before (wrote r b) past e in
    let w = writes r b (doable_last (wrote r b) past e) in
    let back = write_back r w.may w.own in
    write_made (machine.after ours (calls_of past)) (calls_sound past before) (place r) (b ∷ [])
    (write_judged (place r) b (ap (allowed Write) back ∙ w.may) (ap (λ (x : Register). byte_fits x b) back ∙ w.fit))
    ∙ (λ i. woken (written (calls_after past before i) (back i) b))
calls_after (got r ∷ past) e =
    let before = doable_before (got r) past e in
    let g = reads r (doable_last (got r) past e) in
    let back = read_back r g.may g.few g.own in
    read_made (machine.after ours (calls_of past)) (calls_sound past before) (place r) (0 ∷ []) (read_judged (place r) (ap (allowed Read) back ∙ g.may))
    ∙ (λ i. woken (read_out (calls_after past before i) (back i)))
calls_after (beside x ∷ past) e = true_false (sym (doable_last (beside x) past e))

-- ---- THE THEOREM
pub reached_by : (m : Module) → Typed m → Said m → ReachedBy (keypad m)
reached_by m y e = go (only m y e)
  where
    go : (past : Past) × ((doable past ≡ true) × (shown past ≡ keypad m)) → ReachedBy (keypad m)
    go (past, (d, s)) = record { calls = calls_of past; types = calls_types past d; there = calls_after past d ∙ as_the_sheet_says past ∙ s }

-- so a law over all lists of calls is a law over all such states
pub of_every : (P : Module → Type 0) → ((cs : List Call) → all callable cs ≡ true → P (machine.after ours cs)) → (m : Module) → Typed m → Said m → P (keypad m)
of_every P law m y e = let r = reached_by m y e in subst P r.there (law r.calls r.types)
