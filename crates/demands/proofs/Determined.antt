-- DETERMINED: two outcomes that a call's contract in the source allows for the same arguments are equal.
--
--    Determined n ps r Post     so it is of the post-condition Post, of a call with n lifetimes, parameters ps and the result r
--    reset_determined, look_determined, write_determined, read_determined, held_determined, interrupt_determined, pins_determined, drive_determined
--    looks_determined
--    pack_determined, add_determined, check_determined, record_determined, play_determined
--
-- Each Post is what the toolchain makes of the `ensures` lines in crates/calls/src/ and crates/carry/src/: no definition of ours stands between.
-- Assumes nothing.
use Prim.Native.Nat.{ℕ}
use mathlib.Core.Path.{◌≡◌, refl, sym, ap, ◌∙◌}
use mathlib.Core.List.{List}
use contract.Lifetimes.{Lfts}
use denote.Triple.Clauses.{Lasts, at_exit}
use borrow.Fn.Kinds.{ParamKind, ResultKind, Dens, res_t, ended_of, Out}
use Rattle.std.specs.Prelude.{Result, Ok, Err}
use Rattle.numbers.specs.declared.Refusal.{Refusal}
use Rattle.numbers.proofs.Laws.{refused, number_one, told_one}
use Rattle.carry.specs.declared.call.Place.{Place}
use Rattle.carry.specs.Writer.{Packed, as_packed, Added, as_added}
use Rattle.calls.proofs.reset.Kinds as reset-kinds
use Rattle.calls.proofs.reset.Reads as reset
use Rattle.calls.proofs.look.Kinds as look-kinds
use Rattle.calls.proofs.look.Reads as look
use Rattle.calls.proofs.looks.Kinds as looks-kinds
use Rattle.calls.proofs.looks.Reads as looks
use Rattle.calls.proofs.write.Kinds as write-kinds
use Rattle.calls.proofs.write.Reads as write
use Rattle.calls.proofs.read.Kinds as read-kinds
use Rattle.calls.proofs.read.Reads as read
use Rattle.calls.proofs.held.Kinds as held-kinds
use Rattle.calls.proofs.held.Reads as held
use Rattle.calls.proofs.interrupt.Kinds as interrupt-kinds
use Rattle.calls.proofs.interrupt.Reads as interrupt
use Rattle.calls.proofs.pins.Kinds as pins-kinds
use Rattle.calls.proofs.pins.Reads as pins
use Rattle.calls.proofs.drive.Kinds as drive-kinds
use Rattle.calls.proofs.drive.Reads as drive
use Rattle.carry.proofs.writer.pack.Kinds as pack-kinds
use Rattle.carry.proofs.writer.pack.Reads as packs
use Rattle.carry.proofs.writer.add.Kinds as add-kinds
use Rattle.carry.proofs.writer.add.Reads as adds
use Rattle.carry.proofs.reader.check.Kinds as check-kinds
use Rattle.carry.proofs.reader.check.Reads as checks
use Rattle.carry.proofs.reader.record_at.Kinds as record-kinds
use Rattle.carry.proofs.reader.record_at.Reads as records
use Rattle.carry.proofs.player.play.Kinds as play-kinds
use Rattle.carry.proofs.player.play.Reads as plays

-- an outcome is the result x, which has number, next state and answer, and v, what everything lent holds at last
abbrev pub Determined : (n : ℕ) (ps : List (ParamKind n)) (r : ResultKind n) → Out n ps r → Type 0
Determined n ps r Post =
    (κs : Lfts n) (a : Dens κs ps) (x y : (res_t r κs).Denot) (v w : Lasts (ended_of n ps r) κs a)
    → Post κs a x (at_exit (ended_of n ps r) κs a v)
    → Post κs a y (at_exit (ended_of n ps r) κs a w)
    → (x ≡ y) × (v ≡ w)

-- "Every public call's contract determines its number, its next state and each byte of the lent buffer, for all arguments
-- and for declined calls too. Prove that two outcomes allowed for one call are equal"
pub reset_determined : Determined 0 reset-kinds.ps reset-kinds.r reset.Post
reset_determined κs a x y v w p q = (p ∙ sym q, refl)

pub look_determined : Determined 1 look-kinds.ps look-kinds.r look.Post
look_determined κs a x y v w p q = (p ∙ sym q, refl)

pub write_determined : Determined 1 write-kinds.ps write-kinds.r write.Post
write_determined κs a x y v w p q = (p ∙ sym q, refl)

-- the buffer, each byte of it, is all that is lent to be altered
pub read_determined : Determined 1 read-kinds.ps read-kinds.r read.Post
read_determined κs a x y v w p q = (p.0 ∙ sym q.0, λ i. (tt, (tt, ((p.1 ∙ sym q.1) i, tt))))

pub held_determined : Determined 0 held-kinds.ps held-kinds.r held.Post
held_determined κs a x y v w p q = (p ∙ sym q, refl)

pub interrupt_determined : Determined 0 interrupt-kinds.ps interrupt-kinds.r interrupt.Post
interrupt_determined κs a x y v w p q = (p ∙ sym q, refl)

pub pins_determined : Determined 0 pins-kinds.ps pins-kinds.r pins.Post
pins_determined κs a x y v w p q = (p ∙ sym q, refl)

pub drive_determined : Determined 0 drive-kinds.ps drive-kinds.r drive.Post
drive_determined κs a x y v w p q = (p ∙ sym q, refl)

-- blocks of looks: number, how many were done, and next state
pub looks_determined : Determined 1 looks-kinds.ps looks-kinds.r looks.Post
looks_determined κs a x y v w p q = (p ∙ sym q, refl)

-- what the writer tells is told of one outcome alone
packed_one : (x y : Result ℕ Refusal) → as_packed x ≡ as_packed y → x ≡ y
packed_one (Ok n) (Ok k) e = ap Ok (ap (λ (p : Packed). p.length) e)
packed_one (Ok n) (Err r) e = absurd (refused r (sym (ap (λ (p : Packed). p.number) e)))
packed_one (Err r) (Ok n) e = absurd (refused r (ap (λ (p : Packed). p.number) e))
packed_one (Err r) (Err s) e = ap Err (number_one r s (ap (λ (p : Packed). p.number) e))

added_one : (p : Place) (x y : Result Place Refusal) → as_added p x ≡ as_added p y → x ≡ y
added_one p (Ok n) (Ok k) e = ap Ok (λ i. record { byte = (e i).byte; bit = (e i).bit })
added_one p (Ok n) (Err r) e = absurd (refused r (sym (ap (λ (a : Added). a.number) e)))
added_one p (Err r) (Ok n) e = absurd (refused r (ap (λ (a : Added). a.number) e))
added_one p (Err r) (Err s) e = ap Err (number_one r s (ap (λ (a : Added). a.number) e))

-- packed lists: the buffer, each byte of it, is all that is lent to be altered
pub pack_determined : Determined 2 pack-kinds.ps pack-kinds.r packs.Post
pack_determined κs a x y v w p q = (packed_one x y (p.0 ∙ sym q.0), λ i. (tt, ((p.1 ∙ sym q.1) i, tt)))

pub add_determined : Determined 1 add-kinds.ps add-kinds.r adds.Post
add_determined κs a x y v w p q = (added_one a.1.1.0 x y (p.0 ∙ sym q.0), λ i. (tt, ((p.1 ∙ sym q.1) i, (tt, tt))))

pub check_determined : Determined 1 check-kinds.ps check-kinds.r checks.Post
check_determined κs a x y v w p q = (told_one x y (p ∙ sym q), refl)

pub record_determined : Determined 1 record-kinds.ps record-kinds.r records.Post
record_determined κs a x y v w p q = (p ∙ sym q, refl)

pub play_determined : Determined 1 play-kinds.ps play-kinds.r plays.Post
play_determined κs a x y v w p q = (p ∙ sym q, refl)
