-- WAKING: accesses do to a module that is woken what they do to the one that slept, and give the same bytes.
--
--    written_woken, read_woken, byte_woken    one byte
--    wrote_woken, reads_woken, bytes_woken    all bytes of an access
--    access_asleep                            of a sound module an access gives 27 exactly while it sleeps
--    noted_cases                              what is noted of a call: what it did, a refusal that woke, or nothing
-- Assumes nothing.
use Prim.Native.Nat.{ℕ, zero, suc}
use mathlib.Core.Path.{◌≡◌, refl, sym, ap, ◌∙◌}
use mathlib.Core.Bool.{true, false, cond}
use mathlib.Core.List.{List, [], ◌∷◌}
use borrow.Author.Tests.{ne_eqb, eqb-true, eqb-false}
use lib.Dec.{eqb}
use lib.ListN.{set}
use Rattle.words.proofs.Lists.{by_test}
use Rattle.numbers.specs.Numbers.{Line, sleeping}
use Rattle.numbers.proofs.Laws.{lacks, never_given}
use Rattle.registers.specs.declared.Register.{Register}
use Rattle.registers.specs.declared.Register.TheVariants.{KBDBOUNCE, KBDSIZE, KBDRIS, KBDMIS, KBDIC, KBDMSK, KBDCODE, EVTCODE, RSTINTCLR, PIN, Unknown}
use Rattle.registers.specs.Registers.{register_at}
use Rattle.registers.specs.Runs.{next}
use Rattle.sheet.specs.Sheet.{Past, refused, beside}
use Rattle.state.specs.declared.Module.{Module}
use Rattle.state.specs.Module.{fresh, restarted, with_rsint, with_seen, forgotten, woken}
use Rattle.flags.specs.Flags.{ris, mis, irqst}
use Rattle.picture.specs.Picture.{all_read, marked}
use Rattle.sound.specs.Sound.{sound}
use Rattle.access.specs.Bytes.{written, byte_of, read_out}
use Rattle.access.specs.Accesses.{wrote, read_all, bytes_read}
use Rattle.calls.specs.Calls.{access_number}
use Rattle.calls.proofs.Laws.{asleep_first, awake_then}
use Rattle.demands.specs.Machine.{Call, happened, noted}

-- ---- one byte
written_woken : (m : Module) (r : Register) (b : ℕ) → written (woken m) r b ≡ woken (written m r b)
unfolding written restarted fresh
written_woken m KBDBOUNCE b = refl
written_woken m KBDSIZE b = refl
written_woken m KBDRIS b = refl
written_woken m KBDMIS b = refl
written_woken m KBDIC b = refl
written_woken m KBDMSK b = refl
written_woken m (KBDCODE n) b = refl
written_woken m EVTCODE b = refl
written_woken m RSTINTCLR b = refl
written_woken m (PIN a) b = refl
written_woken m Unknown b = refl

marked_woken : (m : Module) (n : ℕ) → marked (woken m) n ≡ woken (marked m n)
unfolding marked
marked_woken m n =
    let seen = set m.seen n true in
    by_test (λ t. cond t (with_seen (with_rsint (woken m) false) forgotten) (with_seen (woken m) seen) ≡ woken (cond t (with_seen (with_rsint m false) forgotten) (with_seen m seen)))
    (all_read seen) (λ _. refl) (λ _. refl)

read_woken : (m : Module) (r : Register) → read_out (woken m) r ≡ woken (read_out m r)
unfolding read_out
read_woken m KBDBOUNCE = refl
read_woken m KBDSIZE = refl
read_woken m KBDRIS = refl
read_woken m KBDMIS = refl
read_woken m KBDIC = refl
read_woken m KBDMSK = refl
read_woken m (KBDCODE n) = marked_woken m n
read_woken m EVTCODE = refl
read_woken m RSTINTCLR = refl
read_woken m (PIN a) = refl
read_woken m Unknown = refl

byte_woken : (m : Module) (r : Register) → byte_of (woken m) r ≡ byte_of m r
unfolding byte_of ris mis irqst
byte_woken m KBDBOUNCE = refl
byte_woken m KBDSIZE = refl
byte_woken m KBDRIS = refl
byte_woken m KBDMIS = refl
byte_woken m KBDIC = refl
byte_woken m KBDMSK = refl
byte_woken m (KBDCODE n) = refl
byte_woken m EVTCODE = refl
byte_woken m RSTINTCLR = refl
byte_woken m (PIN a) = refl
byte_woken m Unknown = refl

-- ---- all bytes of an access
pub wrote_woken : (m : Module) (a : ℕ) (bs : List ℕ) → wrote (woken m) a bs ≡ woken (wrote m a bs)
unfolding wrote
wrote_woken m a [] = refl
wrote_woken m a (b ∷ bs) =
    let r = register_at a in
    ap (λ (x : Module). wrote x (next a) bs) (written_woken m r b) ∙ wrote_woken (written m r b) (next a) bs

pub reads_woken : (m : Module) (a n : ℕ) → read_all (woken m) a n ≡ woken (read_all m a n)
unfolding read_all
reads_woken m a zero = refl
reads_woken m a (suc n) =
    let r = register_at a in
    ap (λ (x : Module). read_all x (next a) n) (read_woken m r) ∙ reads_woken (read_out m r) (next a) n

pub bytes_woken : (m : Module) (a n : ℕ) → bytes_read (woken m) a n ≡ bytes_read m a n
unfolding bytes_read
bytes_woken m a zero = refl
bytes_woken m a (suc n) =
    let r = register_at a in
    let rest : bytes_read (read_out (woken m) r) (next a) n ≡ bytes_read (read_out m r) (next a) n =
    ap (λ (x : Module). bytes_read x (next a) n) (read_woken m r) ∙ bytes_woken (read_out m r) (next a) n in
    λ i. byte_woken m r i ∷ rest i

-- ---- the number
pub access_asleep : (m : Module) (lines : List Line) → lacks sleeping lines ≡ true → sound m ≡ true → eqb (access_number m lines) sleeping ≡ m.asleep
access_asleep m lines o ok =
    by_test (λ t. eqb (access_number m lines) sleeping ≡ t) m.asleep
    (λ z. ap (λ (n : ℕ). eqb n sleeping) (asleep_first m lines ok z))
    (λ z. ne_eqb (access_number m lines) sleeping (λ e. never_given sleeping lines o (sym (awake_then m lines ok z) ∙ e)))

-- ---- what is noted of a call
pub noted_cases : (P : Past → Type 0) (n : ℕ) (c : Call) (past : Past)
    → (n ≡ 0 → P (happened c past)) → (n ≡ 27 → P (beside refused ∷ past)) → ((n ≡ 0 → ⊥) → (n ≡ 27 → ⊥) → P past) → P (noted n c past)
unfolding noted
noted_cases P n c past whole woke still =
    by_test (λ t. P (cond t (happened c past) (cond (eqb n 27) (beside refused ∷ past) past))) (eqb n 0)
    (λ e. whole (eqb-true n 0 e))
    (λ e. by_test (λ t. P (cond t (beside refused ∷ past) past)) (eqb n 27) (λ f. woke (eqb-true n 27 f)) (λ f. still (eqb-false n 0 e) (eqb-false n 27 f)))
