-- `panel::panel_add_numbers` meets its contract: it tells how the writer ended with the call that the numbers tell, as three words.
use Prim.Native.Nat.{ℕ}
use mathlib.Core.Path.{◌≡◌, ap, ◌∙◌}
use lib.ListN.{length}
use Rattle.std.specs.Prelude.{Result, Ok, Err}
use Rattle.std.specs.Result.{result_unwrap_or}
use Rattle.numbers.specs.declared.Refusal.{Refusal}
use Rattle.numbers.specs.Refusals.{told}
use Rattle.carry.specs.declared.call.Call.{Call}
use Rattle.carry.specs.declared.call.Place.{Place}
use Rattle.carry.specs.Writer.{as_added, add_call, add_buffer}
use Rattle.panel.specs.declared.Written.{Written}
use Rattle.panel.specs.Written.{of_added}
use Rattle.panel.proofs.panel_add_numbers.Goals as goal

in_words : (p : Place) (r : Result Place Refusal) (q : Place) (b n : ℕ) → q ≡ result_unwrap_or r p → b ≡ q.bit → n ≡ told r
    → ◌≡◌ {A = Written} (record { byte = q.byte; bit = b; number = n }) (of_added (as_added p r))
unfolding of_added
in_words p (Ok x) q b n e g f i = record { byte = (e i).byte; bit = (g ∙ ap (λ (o : Place). o.bit) e) i; number = f i }
in_words p (Err r) q b n e g f i = record { byte = (e i).byte; bit = (g ∙ ap (λ (o : Place). o.bit) e) i; number = f i }

pub returns : goal.returns
returns c =
    let a = c.args in
    let call = c.call_at.ensures in
    let added = c.add-behind.ensures in (
      in_words _ _ _ _ _ c.unwrap_or-at.ensures c.from.ensures (c.from-2.ensures ∙ c.told.ensures)
          ∙ ap of_added added.0 ∙ ap (λ (k : Call). of_added (add_call k (length a.out.now) a.byte a.bit)) call,
      added.1 ∙ ap (λ (k : Call). add_buffer k a.out.now a.byte a.bit) call,
    )
