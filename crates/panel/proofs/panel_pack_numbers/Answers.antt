-- `panel::panel_pack_numbers` meets its contract: it tells how the writer ended, as three words.
use Prim.Native.Nat.{ℕ}
use mathlib.Core.Path.{◌≡◌, ap, ◌∙◌}
use Rattle.std.specs.Prelude.{Result, Ok, Err}
use Rattle.std.specs.Result.{result_unwrap_or}
use Rattle.numbers.specs.declared.Refusal.{Refusal}
use Rattle.numbers.specs.Refusals.{told}
use Rattle.carry.specs.Writer.{as_packed}
use Rattle.panel.specs.declared.Written.{Written}
use Rattle.panel.specs.Written.{of_packed}
use Rattle.panel.proofs.panel_pack_numbers.Goals as goal

in_words : (r : Result ℕ Refusal) (b n : ℕ) → b ≡ result_unwrap_or r 0 → n ≡ told r → ◌≡◌ {A = Written} (record { byte = b; bit = 0; number = n }) (of_packed (as_packed r))
unfolding of_packed
in_words (Ok x) b n e f i = record { byte = e i; bit = 0; number = f i }
in_words (Err r) b n e f i = record { byte = e i; bit = 0; number = f i }

pub returns : goal.returns
returns c =
    let packed = c.pack-length.ensures in
    (in_words _ _ _ c.unwrap_or.ensures (c.from.ensures ∙ c.told.ensures) ∙ ap of_packed packed.0, packed.1)
