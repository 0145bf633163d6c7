-- NEVER UNSOUND: the module that the sheet writes down is sound, and no change falls on a key out of the size.
--
--    bytes_fit, sizes_fit_lem    what `fitting` says of the bytes written, as the sheet's laws ask for it
--    key_shown, codes_shown, rest_shown    what is asked of the keys, the codes that wait, and the unused places
--    shown_sound        THE MODULE IS SOUND, if the bytes written fit
--    shown_typed        and is as the struct's types say
-- Assumes nothing.
use Prim.Native.Nat.{ℕ, ◌-◌, ◌<◌}
use native.Mathlib.Omega.{arith}
use mathlib.Core.Path.{◌≡◌, refl, ap, ◌∙◌}
use mathlib.Core.Bool.{Bool, true, false, not, ◌&&◌, ◌||◌}
use mathlib.Core.List.{[], ◌∷◌, ◌++◌}
use borrow.Author.Tests.{le-leb, eq-eqb, ltb-true}
use lib.Dec.{leb, ltb, eqb}
use lib.ListN.{length, get_or, replicate, length-append, length-replicate}
use lib.Seq.{drop-append_seam}
use Rattle.words.specs.Words.{all, among}
use Rattle.words.proofs.Laws.{and_left, and_right, and_both}
use Rattle.words.proofs.Tables.{table_at, table_length}
use Rattle.keys.specs.Keys.{key_in, key_of}
use Rattle.registers.specs.declared.Register.{Register}
use Rattle.sheet.specs.Sheet.{Past, looked, wrote, got, beside, size, held, waiting, marks}
use Rattle.words.proofs.Lists.{by_test, all_append, all_anywhere, all_replicate}
use Rattle.sheet.proofs.Facts.{waiting_most, waiting_bytes, never_all, mask_low}
use Rattle.sheet.proofs.Sleep.{quiet_low, quiet_sleeps}
use Rattle.sheet.proofs.Sizes.{writes, size_fits, bounce_low, size_ok, out_open_lem, run_low, waiting_in}
use Rattle.sheet.proofs.Sizes as sizes
use Rattle.judge.specs.Lines.{byte_fits}
use Rattle.state.specs.Module.{queue_of}
use Rattle.state.specs.Typed.{Typed}
use Rattle.sound.specs.Sound.{key_sound, codes_sound, rest_unused, sound, Sound}
use Rattle.sound.proofs.Laws.{facts_sound}
use Rattle.demands.specs.Shown.{run, places, shown, fitting}
use Rattle.demands.proofs.Bytes.{seen_all}
use Rattle.demands.proofs.Answers.{held_shown, waiting_shown}

-- ---- the bytes written
module _ (f : Register → ℕ → Bool) (asked : (r : Register) (b : ℕ) → (leb b 0xFF && byte_fits r b) ≡ true → f r b ≡ true) where
  fits_writes : (past : Past) → fitting past ≡ true → writes f past ≡ true
  unfolding fitting writes
  fits_writes [] e = refl
  fits_writes (looked s ∷ past) e = fits_writes past e
  fits_writes (wrote r b ∷ past) e =
      let fit = leb b 0xFF && byte_fits r b in
      and_both (f r b) (writes f past) (asked r b (and_left fit (fitting past) e)) (fits_writes past (and_right fit (fitting past) e))
  fits_writes (got r ∷ past) e = fits_writes past e
  fits_writes (beside x ∷ past) e = fits_writes past e

bytes_fit : (past : Past) → fitting past ≡ true → writes sizes.byte_low past ≡ true
unfolding sizes.byte_low
bytes_fit = fits_writes sizes.byte_low (λ r b e. and_left (leb b 0xFF) (byte_fits r b) e)

sizes_fit_lem : (past : Past) → fitting past ≡ true → writes size_fits past ≡ true
unfolding byte_fits size_fits
sizes_fit_lem = fits_writes size_fits (λ r b e. and_right (leb b 0xFF) (byte_fits r b) e)

-- ---- the keys
run_shown : (past : Past) (k : ℕ) → k < 104 → get_or (shown past).run k 0 ≡ run k past
unfolding shown
run_shown past k h = table_at (λ k. run k past) 104 k 0 h

key_sound_lem : (past : Past) (k : ℕ) → fitting past ≡ true → key_sound (size past) k (held k past) (run k past) ≡ true
unfolding key_sound run
key_sound_lem past k f =
    and_both _ _
    (by_test (λ b. (b || (not (held k past) && eqb (run k past) 0)) ≡ true) (key_in (size past) k) (λ e. refl)
    (λ e. let i = out_open_lem past k e in and_both _ _ (ap not i.0) (eq-eqb _ 0 i.1)))
    (le-leb _ 254 (run_low past k (bytes_fit past f)))

key_shown : (past : Past) → fitting past ≡ true → (k : ℕ) → k < 104 → key_sound (shown past).size k (get_or (shown past).held k false) (get_or (shown past).run k 0) ≡ true
unfolding shown
key_shown past f k h = (λ i. key_sound (size past) k (held_shown past k h i) (run_shown past k h i)) ∙ key_sound_lem past k f

-- ---- the queue
codes_shown : (past : Past) → codes_sound (shown past).size (queue_of (shown past)) ≡ true
unfolding codes_sound shown
codes_shown past = ap (all (λ c. key_in (size past) (key_of c))) (waiting_shown past) ∙ waiting_in past

rest_shown : (past : Past) → rest_unused (queue_of (shown past)) ≡ true
unfolding rest_unused shown places
rest_shown past =
    let n = 15 - length (waiting past) in
    ap (all (λ c. eqb c 0x7F)) (drop-append_seam (waiting past) (replicate n 0x7F)) ∙ all_replicate (λ c. eqb c 0x7F) n 0x7F refl

-- ---- all of it
facts : (past : Past) → fitting past ≡ true → Sound (shown past)
unfolding shown
facts past f =
    record {
      size = size_ok past (sizes_fit_lem past f);
      keys = key_shown past f;
      few = waiting_most past;
      codes = codes_shown past;
      rest = rest_shown past;
      mask = mask_low past;
      marks = seen_all (marks past) ∙ never_all past;
      counted = quiet_low past;
      asleep = quiet_sleeps past;
    }

pub shown_sound : (past : Past) → fitting past ≡ true → sound (shown past) ≡ true
shown_sound past f = facts_sound (shown past) (facts past f)

pub shown_typed : (past : Past) → fitting past ≡ true → Typed (shown past)
unfolding shown places
shown_typed past f =
    let w = waiting past in
    let n = 15 - length w in
    let most = waiting_most past in
    let long = length-replicate {A = ℕ} n 0x7F in
    let low : all (λ c. ltb c 256) (w ++ replicate n 0x7F) ≡ true = all_append (λ c. ltb c 256) w (replicate n 0x7F) (waiting_bytes past) (all_replicate (λ c. ltb c 256) n 0x7F refl) in
    record {
      keys = table_length (λ k. held k past) 104;
      runs = table_length (λ k. run k past) 104;
      places = length-append w (replicate n 0x7F) ∙ omega arith;
      bytes = λ i. ltb-true _ 256 (all_anywhere (λ c. ltb c 256) 0 refl (w ++ replicate n 0x7F) low i);
      bounce_low = bounce_low past (bytes_fit past f);
      marks = table_length (λ n. among n (marks past)) 4;
    }
