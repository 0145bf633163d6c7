-- A LOOK AT ONE KEY, on the sheet.
--
--    contact_of s past k    key k's contact after a look: how it is held, its run, whether it changed, and whether it is settling
--    contact_right         it is the contact's step, from how the key was held and its run
-- Assumes nothing.
use Prim.Native.Nat.{ℕ}
use mathlib.Core.Path.{◌≡◌}
use mathlib.Core.List.{List, ◌∷◌}
use Rattle.keys.specs.Keys.{sample, hidden}
use Rattle.contact.specs.declared.Contact.{Contact}
use Rattle.contact.specs.Contact.{samples, run_of, stepped, sight_of}
use Rattle.contact.proofs.Laws.{look_enough}
use Rattle.sheet.specs.Sheet.{Past, looked, bounce, size, history, held, changed, settling}

module _ (s : List ℕ) (past : Past) (k : ℕ) where
  unfoldable pub contact_of : Contact
  contact_of =
      record {
        held = held k (looked s ∷ past);
        run = run_of (held k (looked s ∷ past)) (samples (history k (looked s ∷ past)));
        changed = changed k s past;
        settling = settling k (looked s ∷ past);
      }

  -- what is held and the run are enough
  pub contact_right : stepped (held k past) (run_of (held k past) (samples (history k past))) (sight_of (hidden s (size past) k) (sample s (size past) k)) (bounce past) ≡ contact_of
  unfolding contact_of held history changed settling
  contact_right = look_enough (hidden s (size past) k) (record { bounce = bounce past; closed = sample s (size past) k }) (history k past)
