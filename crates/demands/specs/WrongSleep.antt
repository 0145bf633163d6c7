-- WRONG MACHINES THAT SLEEP: ours, with one thing wrong in each. None meets the demands: proofs/RefutedSleep.antt.
--
--    sleeps_at n    sleeps after n quiet looks; of n other than 255 it is wrong
--    refusing f g   ours, but that an access that is declined with 27 makes f of the module, and such a read g of the buffer
--    deaf           27 doesn't wake it
--    greedy         27 takes a code
--    filling        27 fills the buffer
--    restless       an access that is declined with 5 breaks the row of quiet looks
--    careless       a hidden contact never settles
use Rattle.std.specs.Prelude.{ℕ, ◌+◌, min, false, List, length, leb, eqb}
use Rattle.words.specs.Words.{◌if◌, ◌else◌}
use Rattle.keys.specs.Keys.{hidden}
use Rattle.contact.specs.declared.Contact.{Contact}
use Rattle.state.specs.declared.Module.{Module}
use Rattle.state.specs.Module.{sleep, with_sleep, woken, fresh}
use Rattle.scan.specs.Scan.{contact_at, calm}
use Rattle.access.specs.Accesses.{read_all, bytes_read}
use Rattle.demands.specs.Machine as machine
use Rattle.demands.specs.Machine.{Call, Gives, Machine, lent}
use Rattle.demands.specs.Ours.{called}
use Rattle.demands.specs.Wrong.{doing, looking}
use Rattle.demands.specs.WrongHidden.{looked_by}

-- ---- "The module sleeps after 255 looks in a row": after 254, or 256
-- our module, which is awake, and the quiet looks in a row beside it
pub record Napping : Type 0 where
  pub base : Module
  pub row : ℕ

-- what a call of an awake module gives, and the quiet looks in a row then
abbrev pub on : Gives Module → ℕ → Gives Napping
on g n = record { number = g.number; next = record { base = woken g.next; row = n }; buffer = g.buffer; answer = g.answer }

abbrev pub refusal : Napping → Call → Gives Napping
refusal σ c = record { number = 27; next = record { base = σ.base; row = 0 }; buffer = lent c; answer = false }

-- an access that is done breaks the row
abbrev pub accessing : ℕ → Napping → Call → Gives Napping
accessing n σ c = let g = called σ.base c in refusal σ c if leb n σ.row else on g (0 if eqb g.number 0 else σ.row)

unfoldable pub napped : ℕ → Napping → Call → Gives Napping
napped n σ machine.reset = on (called σ.base machine.reset) 0
napped n σ (machine.look s) =
    let g = called σ.base (machine.look s) in
    on g ((σ.row + 1 if calm σ.base s else 0) if eqb g.number 0 else σ.row)
napped n σ (machine.write a bs) = accessing n σ (machine.write a bs)
napped n σ (machine.read a out) = accessing n σ (machine.read a out)
napped n σ (machine.held row col) = on (called σ.base (machine.held row col)) σ.row
napped n σ machine.interrupt = on (called σ.base machine.interrupt) σ.row
napped n σ (machine.pins x) = on (called σ.base (machine.pins x)) σ.row

abbrev pub sleeps_at : ℕ → Machine
sleeps_at n =
    record {
      State = Napping;
      start = record { base = fresh; row = 0 };
      parts = λ σ. with_sleep σ.base (sleep (min 255 σ.row) (leb n σ.row));
      does = napped n;
    }

-- ---- "An access is declined once and wakes it"; "that refusal alters only the sleep state and the count"
unfoldable pub refused : (Module → Module) → (Module → ℕ → List ℕ → List ℕ) → Module → Call → Gives Module
refused f g m (machine.write a bs) =
    let x = called m (machine.write a bs) in
    record { number = x.number; next = f m if eqb x.number 27 else x.next; buffer = x.buffer; answer = x.answer }
refused f g m (machine.read a out) =
    let x = called m (machine.read a out) in
    record {
      number = x.number;
      next = f m if eqb x.number 27 else x.next;
      buffer = g m a out if eqb x.number 27 else x.buffer;
      answer = x.answer;
    }
refused f g m machine.reset = called m machine.reset
refused f g m (machine.look s) = called m (machine.look s)
refused f g m (machine.held row col) = called m (machine.held row col)
refused f g m machine.interrupt = called m machine.interrupt
refused f g m (machine.pins x) = called m (machine.pins x)

abbrev pub refusing : (Module → Module) → (Module → ℕ → List ℕ → List ℕ) → Machine
refusing f g = doing (refused f g)

abbrev pub deaf : Machine
deaf = refusing (λ m. m) (λ m a out. out)

abbrev pub greedy : Machine
greedy = refusing (λ m. woken (read_all m 0x10 1)) (λ m a out. out)

abbrev pub filling : Machine
filling = refusing (λ m. woken m) (λ m a out. bytes_read m a (length out))

-- ---- "no done access between them"
unfoldable pub broken : Module → Call → Gives Module
broken m c =
    let x = called m c in
    record { number = x.number; next = woken m if eqb x.number 5 else x.next; buffer = x.buffer; answer = x.answer }

abbrev pub restless : Machine
restless = doing broken

-- ---- "its newest existing sample"
unfoldable pub settled_hidden : Module → List ℕ → ℕ → Contact
settled_hidden m s k =
    let x = contact_at m s k in
    record { held = x.held; run = x.run; changed = x.changed; settling = false if hidden s m.size k else x.settling }

abbrev pub careless : Machine
careless = looking (looked_by settled_hidden)
