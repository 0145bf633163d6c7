-- WHAT A CALLER SEES after a list of calls is what the sheet says.
--
--    bytes_read_lem, bytes_observed    the bytes of a read that may be done, and of a done one
--    read_sleeps, write_sleeps     an access is declined with 27 exactly while the sheet says that the panel sleeps
--    read_done                     a read that its arguments allow is done while it doesn't
--    waking cs                     the calls that lead to the state once awake
--    waking_same, waking_awake     they alter nothing but the sleep, and the panel is awake after them; waiting-waking: the same codes wait
--    awake_bytes                   so the bytes of a read that its arguments allow are the sheet's
--    held_observed, line_observed  the answers to the questions
--    fetched_taken                 the codes really fetched are those that the sheet says were taken
--    seen_waiting                  those that a read of 15 would give are those that wait
-- Assumes nothing.
use Prim.Native.Nat.{ℕ, zero, suc, ◌+◌, ◌*◌, ◌/◌, ◌%◌, ◌≤◌}
use native.Mathlib.Omega.{arith}
use mathlib.Core.Path.{◌≡◌, refl, sym, ap, ◌∙◌}
use mathlib.Core.Bool.{Bool, true, false, cond, not, and-true}
use mathlib.Core.List.{List, [], ◌∷◌, ◌++◌, append_assoc, append-nil}
use borrow.Author.Tests.{eq-eqb, ne_eqb}
use lib.Dec.{eqb}
use lib.ListN.{length, get_or, take, drop, replicate}
use lib.Seq.{take_all, take-nil}
use Rattle.words.specs.Words.{all, bit}
use Rattle.words.proofs.Laws.{all_first, all_cons}
use Rattle.numbers.specs.Numbers.{Line, ◌gives◌, number_of, sleeping}
use Rattle.numbers.proofs.Laws.{line_no, lines_end, lacks}
use Rattle.keys.specs.Keys.{is_key, key_at, is_code}
use Rattle.keys.proofs.Laws.{key_yes}
use Rattle.registers.specs.declared.Access.TheVariants.{Read}
use Rattle.registers.specs.declared.Register.{Register}
use Rattle.registers.specs.declared.Register.TheVariants.{KBDBOUNCE, KBDSIZE, KBDRIS, KBDMIS, KBDIC, KBDMSK, KBDCODE, EVTCODE, RSTINTCLR, PIN, Unknown}
use Rattle.registers.specs.Registers.{address, register_at, allowed, ◌is◌}
use Rattle.registers.specs.Runs.{next, addresses, run_allowed}
use Rattle.judge.specs.Lines.{access_lines, read_lines, write_lines}
use Rattle.sheet.specs.Sheet as sheet
use Rattle.sheet.specs.Sheet.{Past, refused, wrote, got, beside, oldest, waiting}
use Rattle.sheet.specs.Ledger.{code_got, taken}
use Rattle.sheet.proofs.Facts.{waiting_most, waiting_codes, code_real, progress}
use Rattle.state.specs.declared.Module.{Module}
use Rattle.flags.specs.Flags.{line}
use Rattle.sound.specs.Sound.{sound}
use Rattle.access.specs.Accesses.{bytes_read}
use Rattle.calls.specs.Calls.{held_lines, access_number, write_number, read_number, held_number, interrupt_number, accessed, answer, write_call, read_call, read_buffer, held_call, interrupt_call}
use Rattle.calls.proofs.Laws.{sound_then, awake_then}
use Rattle.demands.specs.Machine.{Call, reset, look, write, read, held, interrupt, pins, wrotes, gots, happened, noted, done, fits, codes_in, covers, fetched_by, fetched, awake, seen}
use Rattle.demands.specs.Machine as machine
use Rattle.demands.specs.Demands.{bytes_of}
use Rattle.demands.specs.Ours.{changing, asking, called, ours}
use Rattle.demands.specs.Shown.{shown}
use Rattle.demands.proofs.Sleep.{access_asleep, noted_cases}
use Rattle.demands.proofs.Answers.{held_shown, line_shown}
use Rattle.demands.proofs.Reached.{read_run, bytes_after, calls_after, reached, reached_sound}

-- ---- a read
pub bytes_read_lem : (cs : List Call) (a n : ℕ) → run_allowed Read a n ≡ true → bytes_read (machine.after ours cs) a n ≡ bytes_of a n (done ours cs)
bytes_read_lem cs a n run = ap (λ (m : Module). bytes_read m a n) (calls_after cs) ∙ bytes_after a n (done ours cs) run

pub bytes_observed : (cs : List Call) (a : ℕ) (out : List ℕ) → (called (machine.after ours cs) (read a out)).number ≡ 0
    → (called (machine.after ours cs) (read a out)).buffer ≡ bytes_of a (length out) (done ours cs)
unfolding called changing read_call accessed read_buffer
bytes_observed cs a out e = rw e (bytes_read_lem cs a (length out) (read_run (machine.after ours cs) a (length out) e))

-- ---- the sleep
pub sleep_reached : (cs : List Call) → (machine.after ours cs).asleep ≡ sheet.asleep (done ours cs)
unfolding shown
sleep_reached cs = ap (λ (m : Module). m.asleep) (reached cs)

module _ (cs : List Call) (t : all fits cs ≡ true) where
  access_sleeps : (lines : List Line) → lacks sleeping lines ≡ true → eqb (access_number (machine.after ours cs) lines) 27 ≡ sheet.asleep (done ours cs)
  access_sleeps lines o = access_asleep (machine.after ours cs) lines o (reached_sound cs t) ∙ sleep_reached cs

  pub read_sleeps : (a : ℕ) (out : List ℕ) → eqb (called (machine.after ours cs) (read a out)).number 27 ≡ sheet.asleep (done ours cs)
  unfolding called changing read_call accessed read_number read_lines access_lines lacks
  read_sleeps a out = access_sleeps (read_lines a (length out)) refl

  pub write_sleeps : (a : ℕ) (bs : List ℕ) → eqb (called (machine.after ours cs) (write a bs)).number 27 ≡ sheet.asleep (done ours cs)
  unfolding called changing write_call accessed write_number write_lines access_lines lacks
  write_sleeps a bs = access_sleeps (write_lines a bs) refl

  -- a reached module is sound, so a read is declined by its sleep and its arguments only
  pub read_done : sheet.asleep (done ours cs) ≡ false → (a : ℕ) (out : List ℕ) → number_of (read_lines a (length out)) ≡ 0 → (called (machine.after ours cs) (read a out)).number ≡ 0
  unfolding called changing read_call accessed read_number
  read_done z a out e = awake_then (machine.after ours cs) (read_lines a (length out)) (reached_sound cs t) (sleep_reached cs ∙ z) ∙ e

-- ---- once awake
-- the calls that lead to the state once awake
abbrev pub waking : List Call → List Call
waking cs = read 0x10 [] ∷ cs

waking_fits : (cs : List Call) → all fits cs ≡ true → all fits (waking cs) ≡ true
unfolding fits
waking_fits cs t = all_cons fits (read 0x10 []) cs refl t

module _ (cs : List Call) where
  -- what a refusal doesn't alter
  waking_same : {A : Type 0} (f : Past → A) → ((past : Past) → f (beside refused ∷ past) ≡ f past) → f (done ours (waking cs)) ≡ f (done ours cs)
  unfolding done happened gots
  waking_same f h =
      let past = done ours cs in
      noted_cases (λ p. f p ≡ f past) (called (machine.after ours cs) (read 0x10 [])).number (read 0x10 []) past (λ _. refl) (λ _. h past) (λ _ _. refl)

  waking_awake : all fits cs ≡ true → sheet.asleep (done ours (waking cs)) ≡ false
  unfolding done happened gots sheet.asleep sheet.quiet_looks
  waking_awake t =
      let n = (called (machine.after ours cs) (read 0x10 [])).number in
      let e = sym (read_sleeps cs t 0x10 []) in
      noted_cases (λ p. sheet.asleep p ≡ false) n (read 0x10 []) (done ours cs) (λ z. e ∙ ap (λ (k : ℕ). eqb k 27) z) (λ _. refl) (λ _ z. e ∙ ne_eqb n 27 z)

  -- the bytes of a read that its arguments allow
  awake_bytes : all fits cs ≡ true → (a : ℕ) (out : List ℕ) → number_of (read_lines a (length out)) ≡ 0
      → (called (awake ours (machine.after ours cs)) (read a out)).buffer ≡ bytes_of a (length out) (done ours (waking cs))
  unfolding awake machine.after
  awake_bytes t a out e = bytes_observed (waking cs) a out (read_done (waking cs) (waking_fits cs t) (waking_awake t) a out e)

-- ---- the questions
held_done : (m : Module) (row col : ℕ) → sound m ≡ true → is_key row col ≡ true → held_number m row col ≡ 0
unfolding held_number held_lines
held_done m row col ok key = sound_then m (not (is_key row col) gives 7 ∷ []) ok ∙ line_no (not (is_key row col)) 7 [] (ap not key) ∙ lines_end

pub held_observed : (cs : List Call) → all fits cs ≡ true → (row col : ℕ) → row ≤ 7 → col ≤ 12
    → (called (machine.after ours cs) (held row col)).answer ≡ sheet.held (13 * row + col) (done ours cs)
unfolding called asking held_call answer key_at
held_observed cs t row col r c =
    let key : is_key row col ≡ true = key_yes row col r c in
    rw (held_done (machine.after ours cs) row col (reached_sound cs t) key, key)
    (ap (λ (m : Module). get_or m.held (13 * row + col) false) (reached cs) ∙ held_shown (done ours cs) (13 * row + col) (omega arith))

pub line_done : (m : Module) → sound m ≡ true → interrupt_number m ≡ 0
unfolding interrupt_number
line_done m ok = sound_then m [] ok ∙ lines_end

pub line_observed : (cs : List Call) → all fits cs ≡ true → (called (machine.after ours cs) interrupt).answer ≡ sheet.line (done ours cs)
unfolding called asking interrupt_call answer
line_observed cs t = rw (line_done (machine.after ours cs) (reached_sound cs t)) (ap line (reached cs) ∙ line_shown (done ours cs))

-- ---- the codes that were fetched
-- the byte that is read from a register, if it is EVTCODE, and not its empty mark
taken_got : (r : Register) (past : Past) → taken (got r ∷ past) ≡ taken past ++ cond (r is EVTCODE) (code_got (sheet.byte_of r past)) []
unfolding taken ◌is◌ address sheet.byte_of
taken_got KBDBOUNCE past = sym (append-nil (taken past))
taken_got KBDSIZE past = sym (append-nil (taken past))
taken_got KBDRIS past = sym (append-nil (taken past))
taken_got KBDMIS past = sym (append-nil (taken past))
taken_got KBDIC past = sym (append-nil (taken past))
taken_got KBDMSK past = sym (append-nil (taken past))
taken_got (KBDCODE n) past = sym (append-nil (taken past))
taken_got EVTCODE past = refl
taken_got RSTINTCLR past = sym (append-nil (taken past))
taken_got (PIN a) past = sym (append-nil (taken past))
taken_got Unknown past = sym (append-nil (taken past))

taken_gots : (a n : ℕ) (past : Past) → taken (gots a n past) ≡ taken past ++ codes_in a (bytes_of a n past)
unfolding gots bytes_of codes_in
taken_gots a zero past = sym (append-nil (taken past))
taken_gots a (suc n) past =
    taken_gots (next a) n (got (register_at a) ∷ past)
    ∙ rw (taken_got (register_at a) past)
    (append_assoc (taken past) (cond (register_at a is EVTCODE) (code_got (sheet.byte_of (register_at a) past)) []) (codes_in (next a) (bytes_of (next a) n (got (register_at a) ∷ past))))

covers_more : (b c : Bool) (l : List ℕ) → cond c [] (cond b [] l) ≡ cond (cond b true c) [] l
covers_more true true l = refl
covers_more true false l = refl
covers_more false c l = refl

taken_wrotes : (a : ℕ) (bs : List ℕ) (past : Past) → taken (wrotes a bs past) ≡ cond (covers a bs) [] (taken past)
unfolding wrotes covers taken
taken_wrotes a [] past = refl
taken_wrotes a (b ∷ bs) past = taken_wrotes (next a) bs (wrote (register_at a) b ∷ past) ∙ covers_more (register_at a is KBDSIZE) (covers (next a) bs) (taken past)

fetched_call : (cs : List Call) (c : Call) → fetched ours cs ≡ taken (done ours cs) → (called (machine.after ours cs) c).number ≡ 0
    → fetched_by c (called (machine.after ours cs) c).buffer (fetched ours cs) ≡ taken (happened c (done ours cs))
unfolding fetched_by happened taken
fetched_call cs reset i z = refl
fetched_call cs (look s) i z = i
fetched_call cs (write a bs) i z = ap (λ (l : List ℕ). cond (covers a bs) [] l) i ∙ sym (taken_wrotes a bs (done ours cs))
fetched_call cs (read a out) i z = (λ k. i k ++ codes_in a (bytes_observed cs a out z k)) ∙ sym (taken_gots a (length out) (done ours cs))
fetched_call cs (held row col) i z = i
fetched_call cs interrupt i z = i
fetched_call cs (pins x) i z = i

taken_noted : (n : ℕ) (c : Call) (past : Past) (l m : List ℕ) → (n ≡ 0 → m ≡ taken (happened c past)) → l ≡ taken past → cond (eqb n 0) m l ≡ taken (noted n c past)
unfolding taken
taken_noted n c past l m h i = noted_cases (λ p. cond (eqb n 0) m l ≡ taken p) n c past (λ z. rw z (h z)) (λ z. rw z i) (λ z _. rw (ne_eqb n 0 z) i)

-- "The codes taken from the queue since then (its empty mark is no code)"
pub fetched_taken : (cs : List Call) → fetched ours cs ≡ taken (done ours cs)
unfolding fetched done taken
fetched_taken [] = refl
fetched_taken (c ∷ cs) =
    let g = called (machine.after ours cs) c in
    let i = fetched_taken cs in
    taken_noted g.number c (done ours cs) (fetched ours cs) (fetched_by c g.buffer (fetched ours cs)) (fetched_call cs c i) i

-- ---- the codes that still wait
-- the oldest code, then those behind it
codes_first : (n : ℕ) (w : List ℕ) → all is_code w ≡ true → code_got (oldest w) ++ take n (drop 1 w) ≡ take (suc n) w
unfolding code_got oldest
codes_first n [] h = take-nil n
codes_first n (c ∷ w) h = rw (ne_eqb c 0x7F (code_real c (all_first is_code c w h)))

codes_behind : (n : ℕ) (past : Past) → codes_in 0x10 (bytes_of 0x10 n past) ≡ take n (waiting past)
unfolding codes_in bytes_of register_at next ◌is◌ address sheet.byte_of waiting
codes_behind zero past = refl
codes_behind (suc n) past = ap (λ (l : List ℕ). code_got (oldest (waiting past)) ++ l) (codes_behind n (got EVTCODE ∷ past)) ∙ codes_first n (waiting past) (waiting_codes past)

pub waiting_waking : (cs : List Call) → waiting (done ours (waking cs)) ≡ waiting (done ours cs)
unfolding waiting
waiting_waking cs = waking_same cs waiting (λ past. refl)

-- "those still waiting"
pub seen_waiting : (cs : List Call) → all fits cs ≡ true → seen ours (machine.after ours cs) ≡ waiting (done ours cs)
unfolding seen number_of read_lines access_lines run_allowed addresses all register_at next allowed
seen_waiting cs t =
    ap (codes_in 0x10) (awake_bytes cs t 0x10 (replicate 15 0) refl)
    ∙ codes_behind 15 (done ours (waking cs))
    ∙ take_all 15 (waiting (done ours (waking cs))) (waiting_most (done ours (waking cs)))
    ∙ waiting_waking cs

-- ---- single bytes
-- a byte of EVTCODE that is the empty mark
pub none_waits : (cs : List Call) → all fits cs ≡ true → (called (awake ours (machine.after ours cs)) (read 0x10 (0 ∷ []))).buffer ≡ 0x7F ∷ [] → waiting (done ours cs) ≡ []
unfolding number_of read_lines access_lines run_allowed addresses all register_at next allowed bytes_of
none_waits cs t e =
    let byte : sheet.byte_of EVTCODE (done ours (waking cs)) ∷ [] ≡ 0x7F ∷ [] = sym (awake_bytes cs t 0x10 (0 ∷ []) refl) ∙ e in
    sym (waiting_waking cs) ∙ progress (done ours (waking cs)) (cc byte)

-- a flag weighs at most its weight
weighs : (f : Bool) (w : ℕ) → cond f w 0 ≤ w
weighs true w = omega arith
weighs false w = omega arith

-- "bit 3 RELINT"
flags_relint : (rel revt rkl rs : Bool) → bit 3 (sheet.flags rel revt rkl rs) ≡ rel
unfolding bit sheet.flags
flags_relint true revt rkl rs = eq-eqb ((8 + cond revt 4 0 + cond rkl 2 0 + cond rs 1 0) / 8 % 2) 1 (omega (arith, weighs revt 4, weighs rkl 2, weighs rs 1))
flags_relint false revt rkl rs = ne_eqb ((0 + cond revt 4 0 + cond rkl 2 0 + cond rs 1 0) / 8 % 2) 1 (λ e. omega (arith, weighs revt 4, weighs rkl 2, weighs rs 1))

pub relint_observed : (cs : List Call) → all fits cs ≡ true → all (bit 3) (called (awake ours (machine.after ours cs)) (read 0x06 (0 ∷ []))).buffer ≡ sheet.relint (done ours cs)
unfolding number_of read_lines access_lines run_allowed addresses all register_at next allowed bytes_of sheet.byte_of sheet.ris sheet.relint
relint_observed cs t =
    let past = done ours (waking cs) in
    ap (all (bit 3)) (awake_bytes cs t 0x06 (0 ∷ []) refl)
    ∙ and-true (bit 3 (sheet.ris past))
    ∙ flags_relint (sheet.relint past) (sheet.revtint past) (sheet.rklint past) (sheet.rsint past)
    ∙ waking_same cs sheet.relint (λ past. refl)
