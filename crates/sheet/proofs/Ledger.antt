-- DEMAND 3, its first half, for every past.
--
--    count_waiting    how many wait is what was kept less what was taken
--    ledger           the codes taken, then those that wait, are the demanded changes less those that came when 15 waited
--    all_demanded     the arrivals are the demanded changes, each once and in order
--    none_lost        if none was lost, the codes taken and those that wait are all of them
-- Assumes nothing.
use Prim.Native.Nat.{ℕ, ◌+◌, ◌-◌, ◌≤◌}
use native.Mathlib.Omega.{arith}
use mathlib.Core.Path.{◌≡◌, refl, sym, ap, ◌∙◌}
use mathlib.Core.Bool.{true, cond}
use mathlib.Core.List.{List, [], ◌∷◌, ◌++◌, append_assoc, append-nil}
use borrow.Author.Tests.{ne_eqb}
use lib.ListN.{length, take, drop, length-append}
use Rattle.words.specs.Words.{all}
use Rattle.words.proofs.Laws.{all_first}
use Rattle.keys.specs.Keys.{is_code}
use Rattle.registers.specs.declared.Register.TheVariants.{KBDSIZE, EVTCODE}
use Rattle.registers.specs.Registers.{◌is◌}
use Rattle.sheet.specs.Sheet.{Past, looked, wrote, got, beside, changes, waiting, oldest, byte_of}
use Rattle.sheet.specs.Ledger.{code_got, taken, Arrival, arriving, codes, kept, lost, coming, arrivals, demanded}
use Rattle.words.proofs.Lists.{by_test, take_room}
use Rattle.sheet.proofs.Facts.{waiting_most, waiting_codes, code_real}
use Rattle.sheet.proofs.Arrivals.{codes_append, kept_append, codes_arriving, kept_arriving, all_kept}

pub count_waiting : (t w k : List ℕ) → t ++ w ≡ k → length k - length t ≡ length w
count_waiting t w k e = let f : length t + length w ≡ length k = sym (length-append t w) ∙ ap length e in omega arith

-- a look: what it adds to those that wait is what is kept of its changes
ledger_look : (t w cs : List ℕ) (a : List Arrival) → length w ≤ 15 → t ++ w ≡ kept a → t ++ take 15 (w ++ cs) ≡ kept (a ++ arriving (length (kept a) - length t) cs)
ledger_look t w cs a h e =
    rw (count_waiting t w (kept a) e, kept_append a (arriving (length w) cs), kept_arriving (length w) cs h, ← e, take_room 15 w cs h)
    (sym (append_assoc t w (take (15 - length w) cs)))

-- a byte read: the oldest code moves from those that wait to those that were taken
ledger_read : (t w : List ℕ) → all is_code w ≡ true → (t ++ code_got (oldest w)) ++ drop 1 w ≡ t ++ w
unfolding code_got oldest
ledger_read t [] h = append-nil (t ++ [])
ledger_read t (c ∷ w) h = rw (ne_eqb c 0x7F (code_real c (all_first is_code c w h))) (append_assoc t (c ∷ []) w)

-- "The codes taken from the queue since then (its empty mark is no code), followed by those still waiting, are exactly the changes
-- that the contacts' own history demands .., less only those that arrived when 15 were waiting."
pub ledger : (past : Past) → taken past ++ waiting past ≡ kept (arrivals past)
unfolding taken waiting arrivals coming kept byte_of
ledger [] = refl
ledger (looked s ∷ past) = ledger_look (taken past) (waiting past) (changes s past) (arrivals past) (waiting_most past) (ledger past)
ledger (wrote r b ∷ past) = by_test (λ t. cond t [] (taken past) ++ cond t [] (waiting past) ≡ kept (cond t [] (arrivals past))) (r is KBDSIZE) (λ e. refl) (λ e. ledger past)
ledger (got r ∷ past) =
    let t₀ = taken past in
    let w = waiting past in
    by_test (λ t. cond t (t₀ ++ code_got (oldest w)) t₀ ++ cond t (drop 1 w) w ≡ kept (arrivals past)) (r is EVTCODE)
    (λ e. ledger_read t₀ w (waiting_codes past) ∙ ledger past) (λ e. ledger past)
ledger (beside e ∷ past) = ledger past

-- "each once and in order"
pub all_demanded : (past : Past) → codes (arrivals past) ≡ demanded past
unfolding arrivals demanded codes coming
all_demanded [] = refl
all_demanded (looked s ∷ past) =
    codes_append (arrivals past) (coming (arrivals past) s past)
    ∙ rw (all_demanded past, codes_arriving (length (kept (arrivals past)) - length (taken past)) (changes s past))
all_demanded (wrote r b ∷ past) = by_test (λ t. codes (cond t [] (arrivals past)) ≡ cond t [] (demanded past)) (r is KBDSIZE) (λ e. refl) (λ e. all_demanded past)
all_demanded (got r ∷ past) = all_demanded past
all_demanded (beside e ∷ past) = all_demanded past

-- "If none arrived so": then the two lists are the same
pub none_lost : (past : Past) → lost (arrivals past) ≡ [] → taken past ++ waiting past ≡ demanded past
none_lost past h = ledger past ∙ all_kept (arrivals past) h ∙ all_demanded past
