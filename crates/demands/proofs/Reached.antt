-- OUR CALLS AND THE SHEET: after every list of calls the module is the one that the sheet writes down for what has happened.
--
--    read_some, write_some        an access that is done has bytes
--    read_run, write_run          and no address that can't be accessed so; write-fit: and no bad byte for KBDSIZE
--    writes_after, reads_after    the bytes of an access, one by one
--    bytes_after                  the bytes that a read gives
--    called_after                 one call
--    reached                      EVERY LIST OF CALLS
--    reached_fitting              the bytes written fit, so that reached modules are sound
--    reached_sound                a reached module is sound; reached-said: so document 01's sentences hold of it
--    reached_typed                and it is as the struct's types say
--    read-done, held_done, line_done    so these calls are done
-- Assumes nothing.
use Prim.Native.Nat.{ℕ, zero, suc, ◌<◌}
use native.Mathlib.Omega.{arith}
use mathlib.Core.Path.{◌≡◌, refl, sym, ap, ◌∙◌, subst}
use mathlib.Core.Bool.{Bool, true, cond, not, ◌&&◌}
use mathlib.Core.List.{List, [], ◌∷◌, ◌++◌}
use borrow.Author.Tests.{le-leb, ltb-true, ne_eqb, eqb-false, not-false}
use lib.Dec.{eqb, leb, ltb}
use lib.ListN.{length}
use Rattle.words.specs.Words.{all}
use Rattle.words.proofs.Laws.{and_left, and_right, and_both, all_first, all_rest}
use Rattle.words.proofs.Lists.{by_test}
use Rattle.numbers.specs.Numbers.{Line, ◌gives◌, number_of, no_bytes, too_many, not_allowed, bad_size, unsound, sleeping}
use Rattle.numbers.proofs.Laws.{declining, line_false, lacks, never_given}
use Rattle.registers.specs.declared.Access.TheVariants.{Read, Write}
use Rattle.registers.specs.declared.Register.{Register}
use Rattle.registers.specs.Registers.{register_at, allowed}
use Rattle.registers.specs.Runs.{next, addresses, run_allowed}
use Rattle.judge.specs.Lines.{byte_fits, sizes_fit, sample_lines, access_lines, read_lines, write_lines, key_lines, pin_lines}
use Rattle.sheet.specs.Sheet as sheet
use Rattle.sheet.specs.Sheet.{Past, wrote, got}
use Rattle.state.specs.declared.Module.{Module}
use Rattle.state.specs.Module.{woken}
use Rattle.state.specs.Typed.{Typed}
use Rattle.sound.specs.Sound.{sound}
use Rattle.sound.specs.Said.{Said}
use Rattle.sound.proofs.Exactly.{sound_said}
use Rattle.scan.specs.Scan as scan
use Rattle.access.specs.Bytes.{written, byte_of, read_out}
use Rattle.access.specs.Accesses as access
use Rattle.calls.specs.Calls.{look_lines, held_lines, look_number, access_number, write_number, read_number, held_number, interrupt_number, pins_number, sampling, outcome, accessed, answer, reset_call, look_call, write_call, read_call, held_call, interrupt_call, pins_call}
use Rattle.demands.specs.Machine.{Call, reset, look, write, read, held, interrupt, pins, wrotes, gots, happened, noted, done, fits}
use Rattle.demands.specs.Machine as machine
use Rattle.demands.specs.Demands.{bytes_of}
use Rattle.demands.specs.Ours.{changing, asking, called, ours}
use Rattle.demands.specs.Shown.{after, shown, fitting}
use Rattle.demands.proofs.Simulation.{as_the_sheet_says}
use Rattle.demands.proofs.Answers.{byte_shown}
use Rattle.demands.proofs.Sound.{shown_sound, shown_typed}
use Rattle.demands.proofs.Sleep.{wrote_woken, reads_woken, bytes_woken, noted_cases}

-- ---- an access that is done
-- the lines before those of its own
abbrev judged : Module → List Line
judged m = not (sound m) gives unsound ∷ m.asleep gives sleeping ∷ []

-- the lines before that of the addresses
abbrev counted : Module → ℕ → List Line
counted m n = judged m ++ (eqb n 0 gives no_bytes ∷ ltb 32 n gives too_many ∷ [])

read_some : (m : Module) (a n : ℕ) → read_number m a n ≡ 0 → n ≡ 0 → ⊥
unfolding read_number access_number read_lines access_lines declining
read_some m a n h = eqb-false n 0 (line_false (judged m) (eqb n 0) no_bytes (ltb 32 n gives too_many ∷ not (run_allowed Read a n) gives not_allowed ∷ []) refl h)

write_some : (m : Module) (a : ℕ) (bs : List ℕ) → write_number m a bs ≡ 0 → length bs ≡ 0 → ⊥
unfolding write_number access_number write_lines access_lines declining
write_some m a bs h =
    let n = length bs in
    eqb-false n 0 (line_false (judged m) (eqb n 0) no_bytes (ltb 32 n gives too_many ∷ not (run_allowed Write a n) gives not_allowed ∷ not (sizes_fit a bs) gives bad_size ∷ []) refl h)

pub read_run : (m : Module) (a n : ℕ) → read_number m a n ≡ 0 → run_allowed Read a n ≡ true
unfolding read_number access_number read_lines access_lines declining
read_run m a n h = not-false (run_allowed Read a n) (line_false (counted m n) (not (run_allowed Read a n)) not_allowed [] refl h)

pub write_run : (m : Module) (a : ℕ) (bs : List ℕ) → write_number m a bs ≡ 0 → run_allowed Write a (length bs) ≡ true
unfolding write_number access_number write_lines access_lines declining
write_run m a bs h =
    let n = length bs in
    not-false (run_allowed Write a n) (line_false (counted m n) (not (run_allowed Write a n)) not_allowed (not (sizes_fit a bs) gives bad_size ∷ []) refl h)

-- ---- the bytes of an access
-- the panel is awake after each of them: of at least one it doesn't matter after which
writes_after : (a : ℕ) (bs : List ℕ) (past : Past) → (length bs ≡ 0 → ⊥) → woken (access.wrote (after past) a bs) ≡ after (wrotes a bs past)
unfolding access.wrote wrotes after
writes_after a [] past h = absurd (h refl)
writes_after a (b ∷ []) past h = refl
writes_after a (b ∷ c ∷ bs) past h =
    let m = written (after past) (register_at a) b in
    sym (ap woken (wrote_woken m (next a) (c ∷ bs))) ∙ writes_after (next a) (c ∷ bs) (wrote (register_at a) b ∷ past) (λ z. omega arith)

reads_after : (a n : ℕ) (past : Past) → (n ≡ 0 → ⊥) → woken (access.read_all (after past) a n) ≡ after (gots a n past)
unfolding access.read_all gots after
reads_after a zero past h = absurd (h refl)
reads_after a (suc zero) past h = refl
reads_after a (suc (suc n)) past h =
    let m = read_out (after past) (register_at a) in
    sym (ap woken (reads_woken m (next a) (suc n))) ∙ reads_after (next a) (suc n) (got (register_at a) ∷ past) (λ z. omega arith)

-- of a run that can be read
pub bytes_after : (a n : ℕ) (past : Past) → run_allowed Read a n ≡ true → access.bytes_read (after past) a n ≡ bytes_of a n past
unfolding access.bytes_read bytes_of after run_allowed addresses allowed
bytes_after a zero past e = refl
bytes_after a (suc n) past e =
    let can : ℕ → Bool = λ b. allowed Read (register_at b) in
    let r = register_at a in
    let byte : byte_of (after past) r ≡ sheet.byte_of r past =
    ap (λ (m : Module). byte_of m r) (as_the_sheet_says past) ∙ byte_shown r past (all_first can a (addresses (next a) n) e) in
    let rest : access.bytes_read (read_out (after past) r) (next a) n ≡ bytes_of (next a) n (got r ∷ past) =
    sym (bytes_woken (read_out (after past) r) (next a) n) ∙ bytes_after (next a) n (got r ∷ past) (all_rest can a (addresses (next a) n) e) in
    λ i. byte i ∷ rest i

-- ---- one call
module _ (m : Module) (past : Past) (e : m ≡ after past) (c : Call) where
  -- done, refused or declined otherwise, the module and the past go the same way
  access_way : (x : Module) (n : ℕ) → (n ≡ 0 → woken x ≡ after (happened c past)) → (accessed m x n).after ≡ after (noted n c past)
  unfolding accessed after
  access_way x n h =
      noted_cases (λ p. (accessed m x n).after ≡ after p) n c past (λ z. rw z (h z)) (λ z. rw z (ap woken e)) (λ z y. rw (ne_eqb n 0 z, ne_eqb n 27 y) e)

  -- so do they if no line gives 27
  other_way : (x : Module) (lines : List Line) → lacks sleeping lines ≡ true → x ≡ after (happened c past)
      → (outcome m x (number_of lines)).after ≡ after (noted (number_of lines) c past)
  unfolding outcome noted
  other_way x lines o h =
      let n = number_of lines in
      rw (ne_eqb n 27 (never_given sleeping lines o)) (by_test (λ t. cond t x m ≡ after (cond t (happened c past) past)) (eqb n 0) (λ _. h) (λ _. e))

  -- and a question adds nothing
  asked_way : (lines : List Line) → lacks sleeping lines ≡ true → m ≡ after (happened c past) → m ≡ after (noted (number_of lines) c past)
  unfolding outcome
  asked_way lines o h = sym (by_test (λ t. cond t m m ≡ m) (eqb (number_of lines) 0) (λ _. refl) (λ _. refl)) ∙ other_way m lines o h

module _ (m : Module) (past : Past) (e : m ≡ after past) where
  called_after : (c : Call) → (called m c).next ≡ after (noted (called m c).number c past)
  unfolding called changing asking reset_call look_call write_call read_call held_call interrupt_call pins_call outcome accessed answer happened noted after look_number look_lines sample_lines held_number held_lines key_lines interrupt_number pins_number pin_lines lacks
  called_after reset = refl
  called_after (look s) = other_way m past e (look s) (scan.looked m s) (look_lines m s) refl (ap (λ (x : Module). scan.looked x s) e)
  called_after (write a bs) =
      access_way m past e (write a bs) (access.wrote m a bs) (write_number m a bs)
      (λ z. ap (λ (x : Module). woken (access.wrote x a bs)) e ∙ writes_after a bs past (write_some m a bs z))
  called_after (read a out) =
      let n = length out in
      access_way m past e (read a out) (access.read_all m a n) (read_number m a n)
      (λ z. ap (λ (x : Module). woken (access.read_all x a n)) e ∙ reads_after a n past (read_some m a n z))
  called_after (held row col) = asked_way m past e (held row col) (held_lines m row col) refl e
  called_after interrupt = asked_way m past e interrupt (not (sound m) gives unsound ∷ []) refl e
  called_after (pins x) = other_way m past e (pins x) (sampling m x) (not (sound m) gives unsound ∷ pin_lines x) refl (ap (λ (y : Module). sampling y x) e)

-- ---- every list of calls
pub calls_after : (cs : List Call) → machine.after ours cs ≡ after (done ours cs)
unfolding machine.after done after
calls_after [] = refl
calls_after (c ∷ cs) = called_after (machine.after ours cs) (done ours cs) (calls_after cs) c

pub reached : (cs : List Call) → machine.after ours cs ≡ shown (done ours cs)
reached cs = calls_after cs ∙ as_the_sheet_says (done ours cs)

-- ---- the bytes written fit
fitting_reads : (a n : ℕ) (past : Past) → fitting past ≡ true → fitting (gots a n past) ≡ true
unfolding gots fitting
fitting_reads a zero past f = f
fitting_reads a (suc n) past f = fitting_reads (next a) n (got (register_at a) ∷ past) f

fitting_wrote : (r : Register) (b : ℕ) (past : Past) → ltb b 256 ≡ true → byte_fits r b ≡ true → fitting past ≡ true → fitting (wrote r b ∷ past) ≡ true
unfolding fitting
fitting_wrote r b past byte fit f =
    let low : b < 256 = ltb-true b 256 byte in
    and_both (leb b 0xFF && byte_fits r b) (fitting past) (and_both (leb b 0xFF) (byte_fits r b) (le-leb b 0xFF (omega arith)) fit) f

fitting_writes : (a : ℕ) (bs : List ℕ) (past : Past)
    → all (λ b. ltb b 256) bs ≡ true → sizes_fit a bs ≡ true → fitting past ≡ true → fitting (wrotes a bs past) ≡ true
unfolding wrotes sizes_fit
fitting_writes a [] past low fit f = f
fitting_writes a (b ∷ bs) past low fit f =
    fitting_writes (next a) bs (wrote (register_at a) b ∷ past)
    (all_rest (λ b. ltb b 256) b bs low) (and_right (byte_fits (register_at a) b) (sizes_fit (next a) bs) fit)
    (fitting_wrote (register_at a) b past (all_first (λ b. ltb b 256) b bs low) (and_left (byte_fits (register_at a) b) (sizes_fit (next a) bs) fit) f)

-- a write that is done has no bad byte for KBDSIZE
pub write_fit : (m : Module) (a : ℕ) (bs : List ℕ) → write_number m a bs ≡ 0 → sizes_fit a bs ≡ true
unfolding write_number access_number write_lines access_lines declining
write_fit m a bs h =
    not-false (sizes_fit a bs) (line_false (judged m ++ access_lines Write a (length bs)) (not (sizes_fit a bs)) bad_size [] refl h)

fitting_call : (m : Module) (past : Past) (c : Call) → fits c ≡ true → fitting past ≡ true → (called m c).number ≡ 0 → fitting (happened c past) ≡ true
unfolding called changing write_call accessed fits happened fitting
fitting_call m past reset t f z = refl
fitting_call m past (look s) t f z = f
fitting_call m past (write a bs) t f z = fitting_writes a bs past t (write_fit m a bs z) f
fitting_call m past (read a out) t f z = fitting_reads a (length out) past f
fitting_call m past (held row col) t f z = f
fitting_call m past interrupt t f z = f
fitting_call m past (pins x) t f z = f

pub reached_fitting : (cs : List Call) → all fits cs ≡ true → fitting (done ours cs) ≡ true
unfolding done fitting
reached_fitting [] t = refl
reached_fitting (c ∷ cs) t =
    let m = machine.after ours cs in
    let f = reached_fitting cs (all_rest fits c cs t) in
    noted_cases (λ p. fitting p ≡ true) (called m c).number c (done ours cs) (fitting_call m (done ours cs) c (all_first fits c cs t) f) (λ _. f) (λ _ _. f)

-- "Number 8 is given .. never for a state reached by calls from reset."
pub reached_sound : (cs : List Call) → all fits cs ≡ true → sound (machine.after ours cs) ≡ true
reached_sound cs t = ap sound (reached cs) ∙ shown_sound (done ours cs) (reached_fitting cs t)

pub reached_typed : (cs : List Call) → all fits cs ≡ true → Typed (machine.after ours cs)
reached_typed cs t = subst Typed (sym (reached cs)) (shown_typed (done ours cs) (reached_fitting cs t))

pub reached_said : (cs : List Call) → all fits cs ≡ true → Said (machine.after ours cs)
reached_said cs t = sound_said (machine.after ours cs) (reached_typed cs t) (reached_sound cs t)
