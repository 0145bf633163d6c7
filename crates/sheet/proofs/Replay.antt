-- DEMAND 3, its second half, for every past.
--
--    held_changed, held_same      a key that changes at a look is then as its sample; one that doesn't is as it was
--    change_opposite              a key changes to the opposite of what it was
--    replay_before, replay_look   a key, replayed over the changes of keys before it, and over all of a look's
--    replay_demanded              replaying the demanded changes gives the keys held now
--    replay                       so if none was lost, the codes do
--    legal_demanded, legal_codes  and each press is of a key that is up, each release of one that is down
-- Assumes nothing.
use Prim.Native.Nat.{ℕ, zero, suc, ◌≤◌, ◌<◌}
use native.Mathlib.Nat.{le_refl, not-suc-le-zero}
use native.Mathlib.Decide.{ℕ_discrete}
use native.Mathlib.Omega.{arith}
use mathlib.Core.Path.{◌≡◌, refl, sym, ap, ◌∙◌}
use mathlib.Core.Bool.{Bool, true, false, cond, not}
use mathlib.Core.List.{List, [], ◌∷◌, ◌++◌}
use Rattle.words.proofs.Laws.{and_both}
use Rattle.keys.specs.Keys.{code, sample, hidden}
use Rattle.keys.specs.Replay.{replayed, legal_from, legal}
use Rattle.keys.proofs.Replay.{told_same, told_other, replayed_append, legal_append, legal_one}
use Rattle.contact.specs.Contact.{Seen, held_after}
use Rattle.contact.proofs.Laws.{sight_opposite, sight_turned, sight_kept}
use Rattle.registers.specs.declared.Register.TheVariants.{KBDSIZE}
use Rattle.registers.specs.Registers.{◌is◌}
use Rattle.sheet.specs.Sheet.{Past, looked, wrote, got, beside, bounce, size, history, held, changed, change, changes_below, changes, waiting}
use Rattle.sheet.specs.Ledger.{taken, lost, arrivals, demanded}
use Rattle.words.proofs.Lists.{by_test}
use Rattle.sheet.proofs.Ledger.{none_lost}

-- ---- one look
module _ (s : List ℕ) (past : Past) where
  -- the sample that key k has, if it has one
  abbrev newest : ℕ → Seen
  newest k = record { bounce = bounce past; closed = sample s (size past) k }

  pub change_opposite : (k : ℕ) → changed k s past ≡ true → sample s (size past) k ≡ not (held k past)
  unfolding changed history held
  change_opposite k = sight_opposite (hidden s (size past) k) (newest k) (history k past)

  pub held_changed : (k : ℕ) → changed k s past ≡ true → held k (looked s ∷ past) ≡ sample s (size past) k
  unfolding held history changed
  held_changed k = sight_turned (hidden s (size past) k) (newest k) (history k past)

  pub held_same : (k : ℕ) → changed k s past ≡ false → held k (looked s ∷ past) ≡ held k past
  unfolding held history changed
  held_same k = sight_kept (hidden s (size past) k) (newest k) (history k past)

  -- another key's change says nothing of key k
  replay_other : (k n : ℕ) (was : Bool) → n < 104 → (n ≡ k → ⊥) → replayed k was (change n s past) ≡ was
  unfolding change replayed
  replay_other k n was h d =
      by_test (λ t. replayed k was (cond t (code n (sample s (size past) n) ∷ []) []) ≡ was) (changed n s past) (λ e. told_other k n was (sample s (size past) n) h d) (λ e. refl)

  -- its own says how it is held now
  replay_own : (k : ℕ) → k < 104 → replayed k (held k past) (change k s past) ≡ held k (looked s ∷ past)
  unfolding change replayed
  replay_own k h =
      by_test (λ t. replayed k (held k past) (cond t (code k (sample s (size past) k) ∷ []) []) ≡ held k (looked s ∷ past)) (changed k s past)
      (λ e. told_same k (held k past) (sample s (size past) k) h ∙ sym (held_changed k e)) (λ e. sym (held_same k e))

  pub replay_before : (k n : ℕ) (was : Bool) → n ≤ 104 → n ≤ k → replayed k was (changes_below n s past) ≡ was
  unfolding changes_below replayed
  replay_before k zero was h l = refl
  replay_before k (suc n) was h l =
      replayed_append k was (changes_below n s past) (change n s past)
      ∙ rw (replay_before k n was (omega arith) (omega arith)) (replay_other k n was h (λ e. omega arith))

  replay_below : (k n : ℕ) → n ≤ 104 → k < n → replayed k (held k past) (changes_below n s past) ≡ held k (looked s ∷ past)
  unfolding changes_below
  replay_below k zero h l = absurd (not-suc-le-zero l)
  replay_below k (suc n) h l = replayed_append k (held k past) (changes_below n s past) (change n s past) ∙ go (ℕ_discrete n k) (replay_below k n (omega arith))
    where
      go : Dec (n ≡ k) → (k < n → replayed k (held k past) (changes_below n s past) ≡ held k (looked s ∷ past))
          → replayed k (replayed k (held k past) (changes_below n s past)) (change n s past) ≡ held k (looked s ∷ past)
      go (yes e) rest = rw (replay_before k n (held k past) (omega arith) (omega arith), e) (replay_own k (omega arith))
      go (no d) rest = rw (rest (omega (arith, d))) (replay_other k n (held k (looked s ∷ past)) h d)

  pub replay_look : (k : ℕ) → k < 104 → replayed k (held k past) (changes s past) ≡ held k (looked s ∷ past)
  unfolding changes
  replay_look k h = replay_below k 104 (le_refl 104) h

-- ---- all of them
pub replay_demanded : (past : Past) (k : ℕ) → k < 104 → replayed k false (demanded past) ≡ held k past
unfolding demanded held history replayed held_after
replay_demanded [] k h = refl
replay_demanded (looked s ∷ past) k h =
    replayed_append k false (demanded past) (changes s past) ∙ rw (replay_demanded past k h) (replay_look s past k h)
replay_demanded (wrote r b ∷ past) k h =
    by_test (λ t. replayed k false (cond t [] (demanded past)) ≡ held_after (cond t [] (history k past))) (r is KBDSIZE) (λ e. refl) (λ e. replay_demanded past k h)
replay_demanded (got r ∷ past) k h = replay_demanded past k h
replay_demanded (beside e ∷ past) k h = replay_demanded past k h

-- "If none arrived so, replaying the codes from no key held gives the keys held now."
pub replay : (past : Past) → lost (arrivals past) ≡ [] → (k : ℕ) → k < 104 → replayed k false (taken past ++ waiting past) ≡ held k past
replay past none k h = rw (none_lost past none) (replay_demanded past k h)

-- ---- legality
-- a look's changes, these keys being down before it
module _ (s : List ℕ) (past : Past) (down : ℕ → Bool) (same : (k : ℕ) → k < 104 → down k ≡ held k past) where
  legal_change : (k : ℕ) → k < 104 → legal_from (λ n. replayed n (down n) (changes_below k s past)) (change k s past) ≡ true
  unfolding change legal_from
  legal_change k h =
      let was : replayed k (down k) (changes_below k s past) ≡ held k past = replay_before s past k k (down k) (omega arith) (le_refl k) ∙ same k h in
      by_test (λ t. legal_from (λ n. replayed n (down n) (changes_below k s past)) (cond t (code k (sample s (size past) k) ∷ []) []) ≡ true) (changed k s past)
      (λ e. legal_one (λ n. replayed n (down n) (changes_below k s past)) k (sample s (size past) k) h (change_opposite s past k e ∙ ap not (sym was))) (λ e. refl)

  legal_below : (n : ℕ) → n ≤ 104 → legal_from down (changes_below n s past) ≡ true
  unfolding changes_below legal_from
  legal_below zero h = refl
  legal_below (suc k) h =
      legal_append down (changes_below k s past) (change k s past)
      ∙ and_both (legal_from down (changes_below k s past)) (legal_from (λ n. replayed n (down n) (changes_below k s past)) (change k s past)) (legal_below k (omega arith)) (legal_change k h)

pub legal_demanded : (past : Past) → legal (demanded past) ≡ true
unfolding demanded legal legal_from changes
legal_demanded [] = refl
legal_demanded (looked s ∷ past) =
    legal_append (λ k. false) (demanded past) (changes s past)
    ∙ and_both (legal (demanded past)) (legal_from (λ k. replayed k false (demanded past)) (changes s past)) (legal_demanded past)
    (legal_below s past (λ k. replayed k false (demanded past)) (replay_demanded past) 104 (le_refl 104))
legal_demanded (wrote r b ∷ past) = by_test (λ t. legal (cond t [] (demanded past)) ≡ true) (r is KBDSIZE) (λ e. refl) (λ e. legal_demanded past)
legal_demanded (got r ∷ past) = legal_demanded past
legal_demanded (beside e ∷ past) = legal_demanded past

-- if none was lost, each press is of a key that is up, each release of one that is down
pub legal_codes : (past : Past) → lost (arrivals past) ≡ [] → legal (taken past ++ waiting past) ≡ true
legal_codes past none = rw (none_lost past none) (legal_demanded past)
