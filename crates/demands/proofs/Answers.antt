-- What can be seen of the module that the sheet writes down is what the sheet says.
--
--    held_shown       a key is held
--    waiting_shown    the codes that wait
--    ris_shown, mis_shown, line_shown, irqst_shown    the flags, the interrupt line and the IRQ status register
--    nth_same         the picture's register, worded in two ways
--    picture_shown    the picture
--    byte_shown       THE BYTE THAT A READ OF ANY REGISTER GIVES, if it can be read
-- Assumes nothing.
use Prim.Native.Nat.{ℕ, zero, suc, ◌+◌, ◌<◌}
use native.Mathlib.Omega.{arith}
use mathlib.Core.Path.{◌≡◌, refl, sym, ap, ◌∙◌}
use mathlib.Core.Bool.{Bool, true, false, cond, not, ◌||◌}
use mathlib.Core.List.{List, [], ◌∷◌, ◌++◌}
use borrow.Author.Tests.{lt-ltb}
use lib.Dec.{eqb}
use lib.ListN.{length, get_or}
use Rattle.words.specs.Words.{some, table}
use Rattle.words.proofs.Tables.{table_length, table_at}
use Rattle.keys.specs.Keys.{code}
use Rattle.registers.specs.declared.Register.{Register}
use Rattle.registers.specs.declared.Register.TheVariants.{KBDBOUNCE, KBDSIZE, KBDRIS, KBDMIS, KBDIC, KBDMSK, KBDCODE, EVTCODE, RSTINTCLR, PIN, Unknown}
use Rattle.registers.specs.Registers.{pin_reads, can_read}
use Rattle.sheet.specs.Sheet as sheet
use Rattle.sheet.specs.Sheet.{Past}
use Rattle.sheet.proofs.Facts.{nth_none, nth_first, nth_next}
use Rattle.state.specs.Module.{queue, queue_of}
use Rattle.state.specs.Queue.{waiting, waits, oldest}
use Rattle.flags.specs.Flags.{weigh, ris, mis, line, irqst}
use Rattle.picture.specs.Picture.{held_codes, more, nth, picture}
use Rattle.access.specs.Bytes.{byte_of}
use Rattle.demands.specs.Shown.{places, shown}
use Rattle.demands.proofs.Queue.{waiting_places}
use Rattle.demands.proofs.Pins.{raised_shown, pins_byte_shown}

pub held_shown : (past : Past) (k : ℕ) → k < 104 → get_or (shown past).held k false ≡ sheet.held k past
unfolding shown
held_shown past k h = table_at (λ k. sheet.held k past) 104 k false h

-- ---- the queue
pub waiting_shown : (past : Past) → waiting (queue_of (shown past)) ≡ sheet.waiting past
unfolding shown
waiting_shown past = waiting_places (sheet.waiting past) (sheet.relint past)

waits_some : (w : List ℕ) → waits (length w) ≡ some w
unfolding waits some
waits_some [] = refl
waits_some (c ∷ w) = lt-ltb 0 (suc (length w)) (omega arith)

oldest_places : (w : List ℕ) (r : Bool) → oldest (queue (places w) (length w) r) ≡ sheet.oldest w
unfolding oldest sheet.oldest places waits
oldest_places [] r = refl
oldest_places (c ∷ w) r = rw (lt-ltb 0 (suc (length w)) (omega arith))

-- ---- the flags and the line
pub ris_shown : (past : Past) → ris (shown past) ≡ sheet.ris past
unfolding ris weigh shown sheet.ris sheet.flags sheet.revtint
ris_shown past = rw (waits_some (sheet.waiting past))

pub mis_shown : (past : Past) → mis (shown past) ≡ sheet.mis past
unfolding mis weigh shown sheet.mis sheet.flags sheet.revtint
mis_shown past = rw (waits_some (sheet.waiting past))

pub line_shown : (past : Past) → line (shown past) ≡ sheet.line past
unfolding line sheet.line shown
line_shown past = λ i. sheet.porirq past || (not (eqb (mis_shown past i) 0) || raised_shown past i)

pub irqst_shown : (past : Past) → irqst (shown past) ≡ sheet.irqst past
unfolding irqst sheet.irqst weigh shown
irqst_shown past = λ i. cond (sheet.porirq past) 128 0 + cond (not (eqb (mis_shown past i) 0)) 64 0 + cond (raised_shown past i) 1 0

-- ---- the picture
more_some : (l : List ℕ) → more l ≡ cond (some l) 128 0
unfolding more some
more_some [] = refl
more_some (c ∷ l) = refl

pub nth_same : (n : ℕ) (l : List ℕ) → nth n l ≡ sheet.nth n l
unfolding nth
nth_same n [] = sym (nth_none n)
nth_same zero (c ∷ l) = ap (λ (m : ℕ). c + m) (more_some l) ∙ sym (nth_first c l)
nth_same (suc n) (c ∷ l) = nth_same n l ∙ sym (nth_next n c l)

-- one key more, behind the others
codes_snoc : (k : ℕ) (l : List Bool) (b : Bool) → held_codes k (l ++ (b ∷ [])) ≡ held_codes k l ++ cond b (code (k + length l) true ∷ []) []
unfolding held_codes
codes_snoc k [] true = let e : k + 0 ≡ k = omega arith in rw e
codes_snoc k [] false = refl
codes_snoc k (true ∷ l) b =
    let e : k + 1 + length l ≡ k + suc (length l) = omega arith in
    ap (λ (t : List ℕ). code k true ∷ t) (codes_snoc (k + 1) l b ∙ rw e)
codes_snoc k (false ∷ l) b =
    let e : k + 1 + length l ≡ k + suc (length l) = omega arith in
    codes_snoc (k + 1) l b ∙ rw e

codes_below : (n : ℕ) (past : Past) → held_codes 0 (table (λ k. sheet.held k past) n) ≡ sheet.held_below n past
unfolding table held_codes sheet.held_below
codes_below zero past = refl
codes_below (suc n) past =
    let e : 0 + n ≡ n = omega arith in
    codes_snoc 0 (table (λ k. sheet.held k past) n) (sheet.held n past) ∙ rw (codes_below n past, table_length (λ k. sheet.held k past) n, e)

pub picture_shown : (n : ℕ) (past : Past) → picture n (shown past).held ≡ sheet.picture n past
unfolding picture shown sheet.picture
picture_shown n past = ap (nth n) (codes_below 104 past) ∙ nth_same n (sheet.held_below 104 past)

-- ---- the registers
pin_shown : (a : ℕ) (past : Past) → pin_reads a ≡ true → byte_of (shown past) (PIN a) ≡ sheet.byte_of (PIN a) past
unfolding byte_of sheet.byte_of shown
pin_shown a past e = go (eqb a 0x91) refl
  where
    go : (t : Bool) → eqb a 0x91 ≡ t → byte_of (shown past) (PIN a) ≡ sheet.byte_of (PIN a) past
    go true f = rw f (irqst_shown past)
    go false f = rw f (pins_byte_shown past a e f)

pub byte_shown : (r : Register) (past : Past) → can_read r ≡ true → byte_of (shown past) r ≡ sheet.byte_of r past
unfolding byte_of sheet.byte_of shown
byte_shown KBDBOUNCE past e = refl
byte_shown KBDSIZE past e = refl
byte_shown KBDRIS past e = ris_shown past
byte_shown KBDMIS past e = mis_shown past
byte_shown KBDIC past e = refl
byte_shown KBDMSK past e = refl
byte_shown (KBDCODE n) past e = picture_shown n past
byte_shown EVTCODE past e = oldest_places (sheet.waiting past) (sheet.relint past)
byte_shown RSTINTCLR past e = refl
byte_shown (PIN a) past e = pin_shown a past e
byte_shown Unknown past e = refl
