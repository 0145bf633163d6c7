-- Laws of what a host hears.
--
--    all_so                    a test of a list that follows from another
--    take_least                the first items of a list's first items
--    heard_silent              of FF behind the bytes of a read a host hears nothing
--    not_codes, next_not       an address other than 0x10 is not that of EVTCODE, and if it can be read, the next one isn't either
--    heard_elsewhere, codes_elsewhere    so no code is in a read that begins elsewhere
--    driven b, code_driven     the byte b is not FF; no code is FF
--    heard_codes               of EVTCODE a host hears the codes among the bytes, if none is FF
--    bytes_waiting             the bytes of EVTCODE are the codes that wait, then empty marks
--    marks_none, marks_shared  empty marks are no codes, nor is what a list shares with them
--    shared_codes              SHARED-CODES: codes that are followed by empty marks are all among what a list that begins with them shares with that
-- Assumes nothing.
use Prim.Native.Nat.{ℕ, zero, suc, ◌+◌, ◌-◌, ◌≤◌}
use native.Mathlib.Omega.{arith}
use native.Mathlib.Numerals.{add-one}
use mathlib.Core.Path.{◌≡◌, refl, sym, ap, subst, ◌∙◌}
use mathlib.Core.Bool.{Bool, true, false, cond, not, ◌||◌, ◌&&◌}
use mathlib.Core.List.{List, [], ◌∷◌, ◌++◌}
use lib.Dec.{eqb, leb, ltb}
use lib.ListN.{length, take, drop, replicate}
use lib.Seq.{take-take, take_all}
use borrow.Author.Tests.{ne_eqb, eq-eqb, leb-true, leb-false, not-true}
use Rattle.words.specs.Words.{all}
use Rattle.words.proofs.Laws.{true_false, all_first, all_rest, all_cons}
use Rattle.words.proofs.Lists.{by_test, all_none, take_most}
use Rattle.keys.specs.Keys.{is_key, is_code}
use Rattle.registers.specs.declared.Access.TheVariants.{Read}
use Rattle.registers.specs.declared.Register.{Register}
use Rattle.registers.specs.declared.Register.TheVariants.{KBDBOUNCE, KBDSIZE, KBDRIS, KBDMIS, KBDIC, KBDMSK, KBDCODE, EVTCODE, RSTINTCLR, PIN, Unknown}
use Rattle.registers.specs.Registers.{pin_reads, pin_writes, pin_at, keypad_at, register_at, allowed, address, ◌is◌}
use Rattle.registers.specs.Runs.{next, addresses, run_allowed}
use Rattle.sheet.specs.Sheet as sheet
use Rattle.sheet.specs.Sheet.{Past, got, oldest, waiting}
use Rattle.sheet.specs.Ledger.{code_got}
use Rattle.demands.specs.Machine.{codes_in}
use Rattle.demands.specs.Demands.{bytes_of}
use Rattle.wire.specs.Wire.{least, shared}
use Rattle.wire.proofs.Laws.{shared_take}
use Rattle.bus.specs.Bus.{heard}

-- ---- lists
pub all_so : {A : Type 0} (f g : A → Bool) → ((x : A) → f x ≡ true → g x ≡ true) → (l : List A) → all f l ≡ true → all g l ≡ true
all_so f g h [] e = all_none g
all_so f g h (x ∷ l) e = all_cons g x l (h x (all_first f x l e)) (all_so f g h l (all_rest f x l e))

pub take_least : {A : Type 0} (n k : ℕ) (l : List A) → take n (take k l) ≡ take (least n k) l
unfolding least
take_least n k l =
    by_test (λ t. leb n k ≡ t → take n (take k l) ≡ take (cond t n k) l) (leb n k)
    (λ _ e. take-take n k l (leb-true n k e))
    (λ _ e. let h = leb-false n k e in let g = take_most k l in take_all n (take k l) (omega arith)) refl

-- ---- what is not heard
nothing_heard : (n j a : ℕ) → heard a (take n (replicate j 0xFF)) ≡ []
unfolding heard
nothing_heard zero j a = refl
nothing_heard (suc n) zero a = refl
nothing_heard (suc n) (suc j) a =
    let rest = nothing_heard n j (next a) in
    by_test (λ t. cond t [] [] ++ heard (next a) (take n (replicate j 0xFF)) ≡ []) (register_at a is EVTCODE) (λ _. rest) (λ _. rest)

pub heard_silent : (n j a : ℕ) (l : List ℕ) → heard a (take n (l ++ replicate j 0xFF)) ≡ heard a (take n l)
unfolding heard
heard_silent zero j a l = refl
heard_silent (suc n) j a [] = nothing_heard (suc n) j a
heard_silent (suc n) j a (b ∷ l) = ap (λ (r : List ℕ). cond (register_at a is EVTCODE) (cond (eqb b 0xFF) [] (code_got b)) [] ++ r) (heard_silent n j (next a) l)

-- ---- elsewhere
other : (t : Bool) (r s : Register) → r is EVTCODE ≡ false → s is EVTCODE ≡ false → cond t r s is EVTCODE ≡ false
other true r s e f = e
other false r s e f = f

not_codes : (a : ℕ) → (a ≡ 0x10 → ⊥) → register_at a is EVTCODE ≡ false
unfolding register_at ◌is◌ address
not_codes a h =
    let last : keypad_at a is EVTCODE ≡ false =
    other (eqb a 0x02) KBDBOUNCE _ refl
    (other (eqb a 0x03) KBDSIZE _ refl
    (other (eqb a 0x06) KBDRIS _ refl
    (other (eqb a 0x07) KBDMIS _ refl
    (other (eqb a 0x08) KBDIC _ refl
    (other (eqb a 0x09) KBDMSK _ refl
    (other (leb 0x0B a && leb a 0x0E) (KBDCODE (a - 0x0B)) _ refl
    (subst (λ t. cond t EVTCODE (cond (eqb a 0x84) RSTINTCLR Unknown) is EVTCODE ≡ false) (sym (ne_eqb a 0x10 h)) (other (eqb a 0x84) RSTINTCLR Unknown refl refl)))))))) in
    other (ltb a 0x91) (keypad_at a) (pin_at a) last (other (pin_reads a || pin_writes a) (PIN a) Unknown refl refl)

no_fifteen : (a : ℕ) → a ≡ 0x0F → allowed Read (register_at a) ≡ true → ⊥
unfolding allowed register_at
no_fifteen a e can = true_false (sym (rw e at can))

next_not : (a : ℕ) → (a ≡ 0x10 → ⊥) → allowed Read (register_at a) ≡ true → next a ≡ 0x10 → ⊥
unfolding next
next_not a h can =
    by_test (λ t. cond t a (a + 1) ≡ 0x10 → ⊥) (eqb a 0x10 || leb 0x100 a)
    (λ _ e. h e) (λ _ e. no_fifteen a (omega arith) can)

pub heard_elsewhere : (a : ℕ) (l : List ℕ) → (a ≡ 0x10 → ⊥) → run_allowed Read a (length l) ≡ true → heard a l ≡ []
unfolding heard run_allowed addresses
heard_elsewhere a [] h run = refl
heard_elsewhere a (b ∷ l) h run =
    let can : ℕ → Bool = λ b. allowed Read (register_at b) in
    rw (not_codes a h)
    (heard_elsewhere (next a) l (next_not a h (all_first can a (addresses (next a) (length l)) run)) (all_rest can a (addresses (next a) (length l)) run))

pub codes_elsewhere : (a : ℕ) (l : List ℕ) → (a ≡ 0x10 → ⊥) → run_allowed Read a (length l) ≡ true → codes_in a l ≡ []
unfolding codes_in run_allowed addresses
codes_elsewhere a [] h run = refl
codes_elsewhere a (b ∷ l) h run =
    let can : ℕ → Bool = λ b. allowed Read (register_at b) in
    rw (not_codes a h)
    (codes_elsewhere (next a) l (next_not a h (all_first can a (addresses (next a) (length l)) run)) (all_rest can a (addresses (next a) (length l)) run))

-- ---- at EVTCODE
-- a byte that the bus hands on as one
abbrev pub driven : ℕ → Bool
driven b = not (eqb b 0xFF)

pub code_driven : (c : ℕ) → is_code c ≡ true → driven c ≡ true
unfolding is_code is_key
code_driven c e =
    ap not (ne_eqb c 0xFF (λ f. let g : is_code 0xFF ≡ true = rw f at e in true_false (sym g)))

pub heard_codes : (l : List ℕ) → all driven l ≡ true → heard 0x10 l ≡ codes_in 0x10 l
unfolding heard codes_in register_at ◌is◌ address next
heard_codes [] h = refl
heard_codes (b ∷ l) h =
    rw (not-true (eqb b 0xFF) (all_first driven b l h)) (ap (λ (r : List ℕ). code_got b ++ r) (heard_codes l (all_rest driven b l h)))

-- the oldest code, then the bytes behind it
oldest_first : (n j : ℕ) (w rest : List ℕ) → ((i : ℕ) → n ≤ i → rest ≡ take n (drop 1 w ++ replicate i 0x7F)) → suc n ≤ j
    → oldest w ∷ rest ≡ take (suc n) (w ++ replicate j 0x7F)
unfolding oldest
oldest_first n zero w rest h l = absurd (omega arith)
oldest_first n (suc j) [] rest h l = ap (λ (r : List ℕ). 0x7F ∷ r) (h j (omega arith))
oldest_first n (suc j) (c ∷ w) rest h l = ap (λ (r : List ℕ). c ∷ r) (h (suc j) (omega arith))

pub bytes_waiting : (n : ℕ) (past : Past) (j : ℕ) → n ≤ j → bytes_of 0x10 n past ≡ take n (waiting past ++ replicate j 0x7F)
unfolding bytes_of register_at next ◌is◌ address sheet.byte_of waiting
bytes_waiting zero past j l = refl
bytes_waiting (suc n) past j l = oldest_first n j (waiting past) (bytes_of 0x10 n (got EVTCODE ∷ past)) (bytes_waiting n (got EVTCODE ∷ past)) l

-- empty marks are no codes
marks_none : (n j : ℕ) → codes_in 0x10 (take n (replicate j 0x7F)) ≡ []
unfolding codes_in register_at next ◌is◌ address code_got
marks_none zero j = refl
marks_none (suc n) zero = refl
marks_none (suc n) (suc j) = marks_none n j

marks_shared : (n j : ℕ) (l : List ℕ) → codes_in 0x10 (take (shared (take n (replicate j 0x7F)) l) l) ≡ []
marks_shared n j l =
    let k : List ℕ = take n (replicate j 0x7F) in
    ap (codes_in 0x10) (sym (shared_take k l) ∙ take_least (shared k l) n (replicate j 0x7F)) ∙ marks_none (least (shared k l) n) j

pub shared_codes : (n j : ℕ) (q r : List ℕ)
    → codes_in 0x10 (take (shared (take n (q ++ replicate j 0x7F)) (take n (q ++ r))) (take n (q ++ r))) ≡ codes_in 0x10 (take n (q ++ replicate j 0x7F))
unfolding codes_in register_at next ◌is◌ address shared
shared_codes zero j q r = refl
shared_codes (suc n) j [] r = marks_shared (suc n) j (take (suc n) r) ∙ sym (marks_none (suc n) j)
shared_codes (suc n) j (c ∷ q) r =
    let k = take n (q ++ replicate j 0x7F) in
    let l = take n (q ++ r) in
    rw (eq-eqb c c refl, add-one (shared k l)) (ap (λ (x : List ℕ). code_got c ++ x) (shared_codes n j q r))
