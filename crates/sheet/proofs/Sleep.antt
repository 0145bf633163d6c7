-- THE SLEEP, on the sheet, for every past.
--
--    settling_run          a key is settling exactly when it has a run
--    out_settled           a key out of the size is never settling
--    changed_settled       a key that changes at a look isn't settling after it
--    hidden_settles        a key hidden at a look is settling after it exactly as before
--    settled_below, below_settled    no key below n is settling, as a statement about every key, and back
--    calm_exactly          a look is calm exactly when it has no change and no key is settling after it
--    look_wakes            after a look that isn't calm the row is empty
--    access_wakes          and after a byte was written or read
--    size_wakes            so it is after a restart
--    refused_wakes         and after an access that was declined because the panel slept
--    pins_keep             a sample of the pins leaves the row
--    looks_of past          how many looks are in a past
--    row_adds              a row gains at most the looks that come after it
--    row_short             a row is at most the looks since reset
--    row_refused           and at most those since the panel last refused an access
--    refused_awake         so it refuses none again before 255 looks
--    quiet_low             the count is at most 255
--    quiet_less            while the row is below 255, the count is the row and the panel is awake
--    quiet_asleep          from 255 on the count is 255 and the panel sleeps
--    quiet_sleeps          the panel sleeps exactly while the count is 255
--    look_counts           a calm look adds one to the count, up to 255; another sets it to 0
-- Assumes nothing.
use Prim.Native.Nat.{ℕ, zero, suc, ◌+◌, ◌<◌, ◌≤◌, min}
use native.Mathlib.Decide.{dec_lt, ℕ_discrete}
use native.Mathlib.Omega.{arith}
use mathlib.Core.Path.{◌≡◌, refl, sym, ap, ◌∙◌}
use mathlib.Core.Bool.{Bool, true, false, not, cond, ◌&&◌, ◌||◌}
use mathlib.Core.List.{List, [], ◌∷◌, ◌++◌, append-nil}
use borrow.Author.Tests.{le-leb, lt-leb, leb-true, ne_eqb, not-true}
use lib.Dec.{ltb, eqb}
use Rattle.words.specs.Words.{◌if◌, ◌else◌, some}
use Rattle.words.proofs.Laws.{true_false, and_left, and_right, and_both}
use Rattle.words.proofs.Lists.{by_test}
use Rattle.keys.specs.Keys.{key_in, sample, hidden}
use Rattle.contact.specs.declared.Contact.{Contact}
use Rattle.contact.specs.Contact.{samples, run_of, sight_of}
use Rattle.contact.proofs.Laws as contact
use Rattle.registers.specs.declared.Register.{Register}
use Rattle.registers.specs.declared.Register.TheVariants.{KBDSIZE}
use Rattle.sheet.specs.Sheet.{Past, looked, wrote, got, beside, sampled, refused, bounce, size, history, held, changed, changes, settling, settling_below, calm, quiet_looks, quiet, asleep}
use Rattle.sheet.proofs.Contacts.{contact_of, contact_right}
use Rattle.sheet.proofs.HiddenKeys.{hidden_keeps}
use Rattle.sheet.proofs.Sizes.{out_open_lem}

-- ---- a key that is settling
pub settling_run : (past : Past) (k : ℕ) → settling k past ≡ ltb 0 (run_of (held k past) (samples (history k past)))
unfolding settling
settling_run past k = contact.settling_run (held k past) (samples (history k past))

pub out_settled : (past : Past) (k : ℕ) → key_in (size past) k ≡ false → settling k past ≡ false
out_settled past k e = settling_run past k ∙ ap (ltb 0) (out_open_lem past k e).1

module _ (s : List ℕ) (past : Past) (k : ℕ) where
  pub changed_settled : changed k s past ≡ true → settling k (looked s ∷ past) ≡ false
  unfolding contact_of
  changed_settled e =
      let c = contact_right s past k in
      sym (ap (λ (x : Contact). x.settling) c)
      ∙ contact.changed_settled (held k past) (run_of (held k past) (samples (history k past))) (sight_of (hidden s (size past) k) (sample s (size past) k)) (bounce past)
      (ap (λ (x : Contact). x.changed) c ∙ e)

  pub hidden_settles : hidden s (size past) k ≡ true → settling k (looked s ∷ past) ≡ settling k past
  unfolding settling
  hidden_settles e = let h = hidden_keeps s past k e in rw (h.1.0, h.0)

-- ---- a calm look
none_left : (l : List ℕ) → not (some l) ≡ true → l ≡ []
unfolding some
none_left [] e = refl
none_left (x ∷ l) e = true_false (sym e)

left_none : (l : List ℕ) → l ≡ [] → not (some l) ≡ true
unfolding some
left_none l e = rw e

either_not : (a b : Bool) → (a || b) ≡ false → (a ≡ false) × (b ≡ false)
either_not false b e = (refl, e)
either_not true b e = true_false e

pub settled_below : (past : Past) (n : ℕ) → settling_below n past ≡ false → (k : ℕ) → k < n → settling k past ≡ false
unfolding settling_below
settled_below past zero e k h = absurd (omega arith)
settled_below past (suc n) e k h =
    let both = either_not (settling_below n past) (settling n past) e in
    go (ℕ_discrete k n) (settled_below past n both.0 k) both.1
  where
    go : Dec (k ≡ n) → (k < n → settling k past ≡ false) → settling n past ≡ false → settling k past ≡ false
    go (yes p) rest last = ap (λ (j : ℕ). settling j past) p ∙ last
    go (no p) rest last = rest (omega (arith, p))

pub below_settled : (past : Past) (n : ℕ) → ((k : ℕ) → k < n → settling k past ≡ false) → settling_below n past ≡ false
unfolding settling_below
below_settled past zero f = refl
below_settled past (suc n) f = rw (below_settled past n (λ k l. f k (omega arith)), f n (omega arith))

-- "with no change, no settling"
pub calm_exactly : (s : List ℕ) (past : Past)
    → (calm s past ≡ true → (changes s past ≡ []) × ((k : ℕ) → k < 104 → settling k (looked s ∷ past) ≡ false))
    × ((changes s past ≡ []) × ((k : ℕ) → k < 104 → settling k (looked s ∷ past) ≡ false) → calm s past ≡ true)
unfolding calm
calm_exactly s past = (apart, together)
  where
    still : Bool
    still = not (some (changes s past))

    settled : Bool
    settled = not (settling_below 104 (looked s ∷ past))

    apart : (still && settled) ≡ true → (changes s past ≡ []) × ((k : ℕ) → k < 104 → settling k (looked s ∷ past) ≡ false)
    apart e = (
      none_left (changes s past) (and_left still settled e),
      settled_below (looked s ∷ past) 104 (not-true (settling_below 104 (looked s ∷ past)) (and_right still settled e)),
    )

    together : (changes s past ≡ []) × ((k : ℕ) → k < 104 → settling k (looked s ∷ past) ≡ false) → (still && settled) ≡ true
    together h = and_both still settled (left_none (changes s past) h.0) (ap not (below_settled (looked s ∷ past) 104 h.1))

-- ---- the row
-- "one with a change or a contact settling wakes it"
pub look_wakes : (s : List ℕ) (past : Past) → calm s past ≡ false → quiet_looks (looked s ∷ past) ≡ 0
unfolding quiet_looks
look_wakes s past e = rw e

pub access_wakes : (r : Register) (b : ℕ) (past : Past) → (quiet_looks (wrote r b ∷ past) ≡ 0) × (quiet_looks (got r ∷ past) ≡ 0)
unfolding quiet_looks
access_wakes r b past = (refl, refl)

-- "A restart wakes it."
pub size_wakes : (b : ℕ) (past : Past) → quiet_looks (wrote KBDSIZE b ∷ past) ≡ 0
size_wakes b past = (access_wakes KBDSIZE b past).0

-- "An access is declined once and wakes it"
pub refused_wakes : (past : Past) → quiet_looks (beside refused ∷ past) ≡ 0
unfolding quiet_looks
refused_wakes past = refl

pub pins_keep : (x : ℕ) (past : Past) → quiet_looks (beside (sampled x) ∷ past) ≡ quiet_looks past
unfolding quiet_looks
pins_keep x past = refl

unfoldable pub looks_of : Past → ℕ
looks_of [] = 0
looks_of (looked s ∷ past) = looks_of past + 1
looks_of (wrote r b ∷ past) = looks_of past
looks_of (got r ∷ past) = looks_of past
looks_of (beside e ∷ past) = looks_of past

pub row_adds : (later past : Past) → quiet_looks (later ++ past) ≤ looks_of later + quiet_looks past
unfolding quiet_looks looks_of
row_adds [] past = omega arith
row_adds (looked s ∷ later) past =
    let h = row_adds later past in
    by_test (λ t. cond t (quiet_looks (later ++ past) + 1) 0 ≤ looks_of later + 1 + quiet_looks past) (calm s (later ++ past)) (λ _. omega arith) (λ _. omega arith)
row_adds (wrote r b ∷ later) past = omega arith
row_adds (got r ∷ later) past = omega arith
row_adds (beside (sampled x) ∷ later) past = row_adds later past
row_adds (beside refused ∷ later) past = omega arith

pub row_short : (past : Past) → quiet_looks past ≤ looks_of past
unfolding quiet_looks
row_short past = let h = rw (append-nil past) at (row_adds past []) in omega arith

pub row_refused : (later past : Past) → quiet_looks (later ++ (beside refused ∷ past)) ≤ looks_of later
row_refused later past = let h = row_adds later (beside refused ∷ past) in let w = refused_wakes past in omega arith

-- "An access is declined once"
pub refused_awake : (later past : Past) → asleep (later ++ (beside refused ∷ past)) ≡ true → 255 ≤ looks_of later
unfolding asleep
refused_awake later past e =
    let row = quiet_looks (later ++ (beside refused ∷ past)) in
    let h = row_refused later past in
    let l : 255 ≤ row = leb-true 255 row e in
    omega arith

-- ---- the count
-- "the count is at most 255"
pub quiet_low : (past : Past) → quiet past ≤ 255
unfolding quiet
quiet_low past = omega arith

pub quiet_less : (past : Past) → quiet_looks past < 255 → (quiet past ≡ quiet_looks past) × (asleep past ≡ false)
unfolding quiet asleep
quiet_less past h = (omega arith, lt-leb 255 (quiet_looks past) h)

pub quiet_asleep : (past : Past) → 255 ≤ quiet_looks past → (quiet past ≡ 255) × (asleep past ≡ true)
unfolding quiet asleep
quiet_asleep past h = (omega arith, le-leb 255 (quiet_looks past) h)

-- "and 255 exactly while asleep"
pub quiet_sleeps : (past : Past) → asleep past ≡ eqb (quiet past) 255
quiet_sleeps past = go (dec_lt (quiet_looks past) 255)
  where
    go : Dec (quiet_looks past < 255) → asleep past ≡ eqb (quiet past) 255
    go (yes h) = let q = quiet_less past h in q.1 ∙ sym (ne_eqb (quiet past) 255 (λ e. omega arith))
    go (no h) = let q = quiet_asleep past (omega (arith, h)) in q.1 ∙ sym (ap (λ (n : ℕ). eqb n 255) q.0)

pub look_counts : (s : List ℕ) (past : Past) → quiet (looked s ∷ past) ≡ (min 255 (quiet past + 1) if calm s past else 0)
unfolding quiet quiet_looks
look_counts s past =
    by_test (λ t. min 255 (cond t (quiet_looks past + 1) 0) ≡ cond t (min 255 (min 255 (quiet_looks past) + 1)) 0) (calm s past) (λ _. omega arith) (λ _. refl)
