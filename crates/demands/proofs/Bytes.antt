-- One byte: what it makes of the module that the sheet wrote down, once awake, is what the sheet writes down after it.
--
--    write_shown            A BYTE WRITTEN
--    seen_mark, seen_all    one picture register more is marked as read, and whether all four are
--    read_shown             A BYTE READ
-- Assumes nothing.
use Prim.Native.Nat.{ℕ, zero, suc, ◌-◌, ◌≤◌}
use native.Mathlib.Omega.{arith}
use mathlib.Core.Path.{◌≡◌, refl, ap, ◌∙◌}
use mathlib.Core.Bool.{Bool, true, false, ◌||◌}
use mathlib.Core.List.{List, [], ◌∷◌}
use borrow.Author.Tests.{ne_eqb, lt-ltb}
use lib.Dec.{eqb}
use lib.ListN.{length, set, drop}
use Rattle.words.specs.Words.{among, table}
use Rattle.pins.specs.declared.Pins.{Pins}
use Rattle.contact.specs.Contact.{samples, held_after, run_of}
use Rattle.registers.specs.declared.Register.{Register}
use Rattle.registers.specs.declared.Register.TheVariants.{KBDBOUNCE, KBDSIZE, KBDRIS, KBDMIS, KBDIC, KBDMSK, KBDCODE, EVTCODE, RSTINTCLR, PIN, Unknown}
use Rattle.registers.specs.Registers.{address, ◌is◌, pictured, ◌is_pin◌}
use Rattle.sheet.specs.Sheet.{Past, wrote, got, cleared, bounce, size, mask, history, held, waiting, relint, marks, rsint, rklint, kept_at, pin_samples, newest, pending, porirq, quiet_looks, asleep}
use Rattle.sheet.specs.Sheet as sheet
use Rattle.sheet.proofs.Facts.{waiting_most, never_all}
use Rattle.state.specs.Module.{Queue, queue, queue_of, with_queue, with_pins, woken, fresh, restarted, forgotten}
use Rattle.state.specs.Queue.{waits, taken}
use Rattle.picture.specs.Picture.{all_read, marked}
use Rattle.access.specs.Bytes.{written, read_out}
use Rattle.demands.specs.Shown.{run, places, pins_shown, shown}
use Rattle.demands.proofs.Queue.{places_shift}
use Rattle.demands.proofs.Pins.{written_shown}

pub write_shown : (r : Register) (b : ℕ) (past : Past) → woken (written (shown past) r b) ≡ shown (wrote r b ∷ past)
unfolding written shown pins_shown fresh restarted forgotten cleared address ◌is◌ ◌is_pin◌ bounce size mask history held waiting relint marks rsint rklint kept_at pin_samples newest pending porirq table run run_of samples held_after places among quiet_looks sheet.quiet asleep
write_shown KBDBOUNCE b past = refl
write_shown KBDSIZE b past = refl
write_shown KBDRIS b past = refl
write_shown KBDMIS b past = refl
write_shown KBDIC b past = refl
write_shown KBDMSK b past = refl
write_shown (KBDCODE n) b past = refl
write_shown EVTCODE b past = refl
write_shown RSTINTCLR b past = refl
write_shown (PIN a) b past = ap (λ (p : Pins). woken (with_pins (shown past) p)) (written_shown a b past)
write_shown Unknown b past = refl

-- ---- a byte of the picture
set_four : (a b c d : Bool) (n : ℕ) → set (a ∷ b ∷ c ∷ d ∷ []) n true ≡ (eqb 0 n || a) ∷ (eqb 1 n || b) ∷ (eqb 2 n || c) ∷ (eqb 3 n || d) ∷ []
set_four a b c d zero = refl
set_four a b c d (suc zero) = refl
set_four a b c d (suc (suc zero)) = refl
set_four a b c d (suc (suc (suc zero))) = refl
set_four a b c d (suc (suc (suc (suc n)))) =
    let m : ℕ = suc (suc (suc (suc n))) in
    rw (ne_eqb 0 m (λ e. omega arith), ne_eqb 1 m (λ e. omega arith), ne_eqb 2 m (λ e. omega arith), ne_eqb 3 m (λ e. omega arith))

pub seen_mark : (l : List ℕ) (n : ℕ) → set (table (λ i. among i l) 4) n true ≡ table (λ i. among i (n ∷ l)) 4
unfolding table among
seen_mark l n = set_four (among 0 l) (among 1 l) (among 2 l) (among 3 l) n

pub seen_all : (l : List ℕ) → all_read (table (λ i. among i l) 4) ≡ sheet.all_read l
unfolding table all_read sheet.all_read
seen_all l = refl

seen_none : forgotten ≡ table (λ i. among i []) 4
unfolding table among forgotten
seen_none = refl

mark_shown : (n : ℕ) (past : Past) (b : Bool) → sheet.all_read (n ∷ marks past) ≡ b → woken (marked (shown past) n) ≡ shown (got (KBDCODE n) ∷ past)
unfolding marked shown pins_shown address ◌is◌ bounce size mask history held waiting relint marks pictured rsint rklint kept_at pin_samples newest pending porirq run quiet_looks sheet.quiet asleep
mark_shown n past true e = rw (seen_mark (marks past) n, seen_all (n ∷ marks past), e, seen_none)
mark_shown n past false e = rw (seen_mark (marks past) n, seen_all (n ∷ marks past), e)

-- ---- a byte of the queue
queue_taken : (w : List ℕ) (r : Bool) → length w ≤ 15 → taken (queue (places w) (length w) r) ≡ queue (places (drop 1 w)) (length (drop 1 w)) r
unfolding taken waits
queue_taken [] r h = refl
queue_taken (c ∷ w) r h =
    let e : suc (length w) - 1 ≡ length w = omega arith in
    rw (lt-ltb 0 (suc (length w)) (omega arith), places_shift c w (omega arith), e)

-- a byte that is none of the picture changes the queue at most
other_shown : (r : Register) (past : Past) → pictured r ≡ [] → woken (with_queue (shown past) (queue_of (shown (got r ∷ past)))) ≡ shown (got r ∷ past)
unfolding shown pins_shown bounce size mask history held waiting relint marks rsint rklint kept_at pin_samples newest pending porirq run quiet_looks sheet.quiet asleep
other_shown r past e = rw (e, never_all past)

pub read_shown : (r : Register) (past : Past) → woken (read_out (shown past) r) ≡ shown (got r ∷ past)
unfolding read_out shown address ◌is◌ pictured waiting relint
read_shown KBDBOUNCE past = other_shown KBDBOUNCE past refl
read_shown KBDSIZE past = other_shown KBDSIZE past refl
read_shown KBDRIS past = other_shown KBDRIS past refl
read_shown KBDMIS past = other_shown KBDMIS past refl
read_shown KBDIC past = other_shown KBDIC past refl
read_shown KBDMSK past = other_shown KBDMSK past refl
read_shown (KBDCODE n) past = mark_shown n past (sheet.all_read (n ∷ marks past)) refl
read_shown EVTCODE past = ap (λ (q : Queue). woken (with_queue (shown past) q)) (queue_taken (waiting past) (relint past) (waiting_most past)) ∙ other_shown EVTCODE past refl
read_shown RSTINTCLR past = other_shown RSTINTCLR past refl
read_shown (PIN a) past = other_shown (PIN a) past refl
read_shown Unknown past = other_shown Unknown past refl
