-- Keys out of the size, runs, and the codes that wait, for every past.
--
--    writes f past                 f is true of every byte written, with its register
--    byte_low, size_fits             the byte is below 256; if it is for KBDSIZE, it is acceptable
--    bounce_low, size_ok           if they all do, so do the settings
--    out_open_lem                      out of the size nothing is held and the run is 0
--    out_still, changed_in         so no key out of the size changes: one that changes is in it
--    run_low                       no run is above 254, if every byte written fits a byte
--    waiting_in                    every code that waits is of a key in the size
-- Assumes nothing.
use Prim.Native.Nat.{ℕ, ◌≤◌}
use native.Mathlib.Omega.{arith}
use mathlib.Core.Path.{◌≡◌, refl, sym, ap, ◌∙◌}
use mathlib.Core.Bool.{Bool, true, false, cond, ◌&&◌}
use mathlib.Core.List.{List, [], ◌∷◌, ◌++◌}
use borrow.Author.Tests.{le-leb, leb-true}
use lib.Dec.{leb}
use lib.ListN.{drop}
use Rattle.words.specs.Words.{◌if◌, ◌else◌, all}
use Rattle.words.proofs.Laws.{true_false, and_left, and_right, all_cons}
use Rattle.keys.specs.Keys.{key_of, acceptable, key_in, sample, hidden}
use Rattle.keys.proofs.Laws.{code_key, sample_out}
use Rattle.contact.specs.declared.Contact.{Contact}
use Rattle.contact.specs.Contact.{Seen, samples, held_after, run_of}
use Rattle.contact.proofs.Laws as contact
use Rattle.registers.specs.declared.Register.{Register}
use Rattle.registers.specs.declared.Register.TheVariants.{KBDBOUNCE, KBDSIZE, EVTCODE}
use Rattle.registers.specs.Registers.{◌is◌}
use Rattle.sheet.specs.Sheet.{Past, looked, wrote, got, beside, bounce, size, history, held, changed, changes, waiting}
use Rattle.words.proofs.Lists.{by_test, all_none, all_append, all_take, all_drop}
use Rattle.sheet.proofs.Contacts.{contact_of, contact_right}
use Rattle.sheet.proofs.Facts.{changes_all}

-- ---- the bytes written
unfoldable pub writes : (Register → ℕ → Bool) → Past → Bool
writes f [] = true
writes f (looked s ∷ past) = writes f past
writes f (wrote r b ∷ past) = f r b && writes f past
writes f (got r ∷ past) = writes f past
writes f (beside e ∷ past) = writes f past

unfoldable pub byte_low : Register → ℕ → Bool
byte_low r b = leb b 255

unfoldable pub size_fits : Register → ℕ → Bool
size_fits r b = acceptable b if r is KBDSIZE else true

pub bounce_low : (past : Past) → writes byte_low past ≡ true → bounce past ≤ 255
unfolding bounce writes byte_low
bounce_low [] h = omega arith
bounce_low (looked s ∷ past) h = bounce_low past h
bounce_low (wrote r b ∷ past) h =
    by_test (λ t. cond t b (bounce past) ≤ 255) (r is KBDBOUNCE)
    (λ e. leb-true b 255 (and_left (leb b 255) (writes byte_low past) h)) (λ e. bounce_low past (and_right (leb b 255) (writes byte_low past) h))
bounce_low (got r ∷ past) h = bounce_low past h
bounce_low (beside e ∷ past) h = bounce_low past h

-- "KBDSIZE is acceptable"
pub size_ok : (past : Past) → writes size_fits past ≡ true → acceptable (size past) ≡ true
unfolding size writes size_fits acceptable
size_ok [] h = refl
size_ok (looked s ∷ past) h = size_ok past h
size_ok (wrote r b ∷ past) h =
    by_test (λ t. cond t (acceptable b) true ≡ true → acceptable (cond t b (size past)) ≡ true) (r is KBDSIZE)
    (λ e f. f) (λ e f. size_ok past (and_right (size_fits r b) (writes size_fits past) h)) (and_left (size_fits r b) (writes size_fits past) h)
size_ok (got r ∷ past) h = size_ok past h
size_ok (beside e ∷ past) h = size_ok past h

-- ---- a key out of the size
abbrev rest : Contact
rest = record { held = false; run = 0; changed = false; settling = false }

-- an open contact that reads open, or is hidden, stays as it is
out_look : (s : List ℕ) (past : Past) (k : ℕ) → key_in (size past) k ≡ false → held k past ≡ false → run_of (held k past) (samples (history k past)) ≡ 0 → contact_of s past k ≡ rest
out_look s past k e h r = sym (contact_right s past k) ∙ rw (r, h, sample_out s (size past) k e) (contact.step_rests (hidden s (size past) k) (bounce past))

-- "A key out of the size is simply not held", and nothing of it is remembered
pub out_open_lem : (past : Past) (k : ℕ) → key_in (size past) k ≡ false → (held k past ≡ false) × (run_of (held k past) (samples (history k past)) ≡ 0)
unfolding size history held held_after run_of samples contact_of
out_open_lem [] k e = (refl, refl)
out_open_lem (looked s ∷ past) k e =
    let i = out_open_lem past k e in
    let c = out_look s past k e i.0 i.1 in
    (ap (λ (x : Contact). x.held) c, ap (λ (x : Contact). x.run) c)
out_open_lem (wrote r b ∷ past) k e =
    let h = history k past in
    by_test (λ t. key_in (cond t b (size past)) k ≡ false → (held_after (cond t [] h) ≡ false) × (run_of (held_after (cond t [] h)) (samples (cond t [] h)) ≡ 0)) (r is KBDSIZE)
    (λ w f. (refl, refl)) (λ w. out_open_lem past k) e
out_open_lem (got r ∷ past) k e = out_open_lem past k e
out_open_lem (beside x ∷ past) k e = out_open_lem past k e

pub out_still : (s : List ℕ) (past : Past) (k : ℕ) → key_in (size past) k ≡ false → changed k s past ≡ false
unfolding contact_of
out_still s past k e = let i = out_open_lem past k e in ap (λ (x : Contact). x.changed) (out_look s past k e i.0 i.1)

pub changed_in : (s : List ℕ) (past : Past) (k : ℕ) → changed k s past ≡ true → key_in (size past) k ≡ true
changed_in s past k e = by_test (λ t. t ≡ true) (key_in (size past) k) (λ f. refl) (λ f. true_false (sym e ∙ out_still s past k f))

-- ---- runs
abbrev seen_fits : Seen → Bool
seen_fits x = leb x.bounce 255

history_low : (past : Past) (k : ℕ) → writes byte_low past ≡ true → all seen_fits (history k past) ≡ true
unfolding history writes byte_low
history_low [] k h = all_none seen_fits
history_low (looked s ∷ past) k h =
    let x : Seen = record { bounce = bounce past; closed = sample s (size past) k } in
    by_test (λ t. all seen_fits (cond t (history k past) (x ∷ history k past)) ≡ true) (hidden s (size past) k) (λ e. history_low past k h)
    (λ e. all_cons seen_fits x (history k past) (le-leb (bounce past) 255 (bounce_low past h)) (history_low past k h))
history_low (wrote r b ∷ past) k h =
    by_test (λ t. all seen_fits (cond t [] (history k past)) ≡ true) (r is KBDSIZE) (λ e. all_none seen_fits) (λ e. history_low past k (and_right (leb b 255) (writes byte_low past) h))
history_low (got r ∷ past) k h = history_low past k h
history_low (beside e ∷ past) k h = history_low past k h

-- "no run is above 254"
pub run_low : (past : Past) (k : ℕ) → writes byte_low past ≡ true → run_of (held k past) (samples (history k past)) ≤ 254
unfolding held
run_low past k h = contact.run_low (history k past) (history_low past k h)

-- ---- the codes that wait
abbrev code_in : ℕ → ℕ → Bool
code_in size c = key_in size (key_of c)

-- "each a press or release code of a key in the size"
pub waiting_in : (past : Past) → all (λ c. key_in (size past) (key_of c)) (waiting past) ≡ true
unfolding size waiting
waiting_in [] = all_none (code_in 0x22)
waiting_in (looked s ∷ past) =
    all_take (code_in (size past)) 15 (waiting past ++ changes s past)
    (all_append (code_in (size past)) (waiting past) (changes s past) (waiting_in past)
    (changes_all s past (code_in (size past)) (λ k l e. rw (code_key k (sample s (size past) k) l) (changed_in s past k e))))
waiting_in (wrote r b ∷ past) =
    by_test (λ t. all (code_in (cond t b (size past))) (cond t [] (waiting past)) ≡ true) (r is KBDSIZE) (λ e. all_none (code_in b)) (λ e. waiting_in past)
waiting_in (got r ∷ past) =
    let old = waiting_in past in
    by_test (λ t. all (code_in (size past)) (cond t (drop 1 (waiting past)) (waiting past)) ≡ true) (r is EVTCODE) (λ e. all_drop (code_in (size past)) (waiting past) old) (λ e. old)
waiting_in (beside e ∷ past) = waiting_in past
