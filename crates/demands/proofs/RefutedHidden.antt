-- NO WRONG MACHINE OF specs/WrongHidden.antt MEETS THE DEMANDS: for each a short list of calls after which it is seen.
--
--    looked_by_lem               with our own contacts such a look is ours
--    rows                    a look with these samples of rows 0 and 1, the other rows open
--    Told, told              what is found of each machine, and what was to be found: ALL COMPUTED
--    before_refuted, ..      no wrong machine meets demand 3
--    raw_alike, raw_looked, raw_same    a row out of the size that hid its own keys couldn't be told: they are open, and stay so
-- Assumes nothing.
use Prim.Native.Nat.{ℕ, zero, suc, ◌/◌, ◌%◌, ◌<◌, ◌≤◌}
use native.Mathlib.Nat.{le_refl}
use native.Mathlib.Omega.{arith}
use native.Mathlib.Decide.{dec_lt}
use mathlib.Core.Path.{◌≡◌, refl, sym, ap, ◌∙◌}
use mathlib.Core.Bool.{Bool, true, false, not, ◌&&◌, ◌||◌, cond, or-true}
use mathlib.Core.List.{List, [], ◌∷◌, ◌++◌}
use lib.ListN.{get_or}
use lib.Dec.{ltb}
use borrow.Author.Tests.{lt-ltb, le-ltb}
use Rattle.words.specs.Words.{some, bit}
use Rattle.numbers.specs.Numbers.{number_of}
use Rattle.words.proofs.Lists.{by_test}
use Rattle.words.proofs.Tables.{table_same}
use Rattle.keys.specs.Keys.{row_of, code, in_size, key_in, sample, special, hidden}
use Rattle.keys.proofs.Laws.{special_row, special_col, sample_out}
use Rattle.contact.specs.declared.Contact.{Contact}
use Rattle.contact.proofs.Laws.{step_rests}
use Rattle.state.specs.declared.Module.{Module}
use Rattle.state.specs.Module.{sleep_of, with_keys, with_sleep}
use Rattle.state.specs.Sleep.{counted}
use Rattle.sound.specs.Sound.{sound}
use Rattle.sound.proofs.Laws.{sound_out}
use Rattle.scan.specs.Scan as scan
use Rattle.scan.proofs.Laws.{changed_sample, out_rests}
use Rattle.calls.specs.Calls.{look_lines, look_number, outcome, look_call, write_call, read_call, read_buffer, interrupt_call, pins_call}
use Rattle.demands.specs.Machine.{Call, reset, look, write, read, held, interrupt, pins}
use Rattle.demands.specs.Demands.{Demand3}
use Rattle.demands.specs.Ours.{changing, asking, called}
use Rattle.demands.specs.Wrong.{called_by}
use Rattle.demands.specs.WrongHidden.{changes_by, settles_by, contacts_by, looked_by, showing, matrix, raw, raw_hides, before, held_hides, held_hides_after, hidden_open, hidden_again, out_hides, hides_itself, hidden_changes}
use Rattle.demands.proofs.Failing.{LedgerWrong, no_ledger}
use Rattle.demands.proofs.Opened.{opened}

-- ---- ours, but for what a look makes of the contacts
changes_by_lem : (m : Module) (s : List ℕ) (n : ℕ) → changes_by scan.contact_at m s n ≡ scan.changes_below m s n
unfolding changes_by scan.changes_below
changes_by_lem m s zero = refl
changes_by_lem m s (suc k) = λ i. changes_by_lem m s k i ++ one i
  where
    one : cond (scan.contact_at m s k).changed (code k (scan.contact_at m s k).held ∷ []) [] ≡ cond (scan.contact_at m s k).changed (code k (sample s m.size k) ∷ []) []
    one =
        by_test (λ t. (scan.contact_at m s k).changed ≡ t → cond t (code k (scan.contact_at m s k).held ∷ []) [] ≡ cond t (code k (sample s m.size k) ∷ []) []) (scan.contact_at m s k).changed
        (λ e _. ap (λ (b : Bool). code k b ∷ []) (changed_sample m s k e)) (λ _ _. refl) refl

settles_by_lem : (m : Module) (s : List ℕ) (n : ℕ) → settles_by scan.contact_at m s n ≡ scan.settles_below m s n
unfolding settles_by scan.settles_below
settles_by_lem m s zero = refl
settles_by_lem m s (suc k) = ap (λ (b : Bool). b || (scan.contact_at m s k).settling) (settles_by_lem m s k)

pub looked_by_lem : (m : Module) (s : List ℕ) → looked_by scan.contact_at m s ≡ scan.looked m s
unfolding looked_by contacts_by scan.looked scan.contacts scan.calm scan.changes
looked_by_lem m s = rw (changes_by_lem m s 104, settles_by_lem m s 104)

-- ---- the calls, newest first
abbrev rows : ℕ → ℕ → Call
rows row0 row1 = look (row0 ∷ row1 ∷ 0 ∷ 0 ∷ 0 ∷ 0 ∷ 0 ∷ 0 ∷ [])

abbrev bounce : ℕ → Call
bounce d = write 0x02 (d ∷ [])

-- key 0.0 closed, while the special function contact of row 7, which is out of the size, is closed
abbrev far_off : Call
far_off = look (0x0001 ∷ 0 ∷ 0 ∷ 0 ∷ 0 ∷ 0 ∷ 0 ∷ 0x1000 ∷ [])

-- ---- what is found, and what was to be found; key 0.0 has the code 00, row 0's special function key 0C
record Told : Type 0 where
  before : LedgerWrong before (rows 0x1001 0 ∷ bounce 1 ∷ []) (0x00 ∷ 0x0C ∷ []) (0x0C ∷ [])
  held_hides : LedgerWrong held_hides (rows 0x1001 0 ∷ bounce 1 ∷ []) (0x00 ∷ 0x0C ∷ []) (0x0C ∷ [])
  held_hides_after : LedgerWrong held_hides_after (rows 0x0001 0 ∷ rows 0x1001 0 ∷ bounce 2 ∷ []) (0x00 ∷ []) []
  hidden_open : LedgerWrong hidden_open (rows 0x0001 0 ∷ rows 0x1001 0 ∷ rows 0x0001 0 ∷ bounce 2 ∷ []) [] (0x00 ∷ [])
  hidden_again : LedgerWrong hidden_again (rows 0x1001 0 ∷ rows 0x0001 0 ∷ bounce 2 ∷ []) (0x00 ∷ []) []
  out_hides : LedgerWrong out_hides (far_off ∷ bounce 1 ∷ []) [] (0x00 ∷ [])
  hides_itself : LedgerWrong hides_itself (rows 0x1000 0 ∷ bounce 1 ∷ []) [] (0x0C ∷ [])
  hidden_changes : LedgerWrong hidden_changes (rows 0x1001 0 ∷ bounce 2 ∷ rows 0x0001 0 ∷ rows 0x0001 0 ∷ bounce 3 ∷ []) (0x00 ∷ []) []

told : Told
unfolding opened
told =
    record {
      before = (refl, refl, refl, refl);
      held_hides = (refl, refl, refl, refl);
      held_hides_after = (refl, refl, refl, refl);
      hidden_open = (refl, refl, refl, refl);
      hidden_again = (refl, refl, refl, refl);
      out_hides = (refl, refl, refl, refl);
      hides_itself = (refl, refl, refl, refl);
      hidden_changes = (refl, refl, refl, refl);
    }

-- "Editors holding the jog key get twelve false presses."
pub before_refuted : Demand3 before → ⊥
before_refuted = no_ledger before _ _ _ told.before

pub held_hides_refuted : Demand3 held_hides → ⊥
held_hides_refuted = no_ledger held_hides _ _ _ told.held_hides

pub held_hides_after_refuted : Demand3 held_hides_after → ⊥
held_hides_after_refuted = no_ledger held_hides_after _ _ _ told.held_hides_after

pub hidden_open_refuted : Demand3 hidden_open → ⊥
hidden_open_refuted = no_ledger hidden_open _ _ _ told.hidden_open

pub hidden_again_refuted : Demand3 hidden_again → ⊥
hidden_again_refuted = no_ledger hidden_again _ _ _ told.hidden_again

pub out_hides_refuted : Demand3 out_hides → ⊥
out_hides_refuted = no_ledger out_hides _ _ _ told.out_hides

pub hides_itself_refuted : Demand3 hides_itself → ⊥
hides_itself_refuted = no_ledger hides_itself _ _ _ told.hides_itself

pub hidden_changes_refuted : Demand3 hidden_changes → ⊥
hidden_changes_refuted = no_ledger hidden_changes _ _ _ told.hidden_changes

-- ---- a row out of the size that hides its own keys
module _ (m : Module) (s : List ℕ) (ok : sound m ≡ true) where
  row_in : (k : ℕ) → k < 104 → row_of k < m.size / 16 → sample s m.size (special k) ≡ bit 12 (get_or s (row_of k) 0)
  unfolding sample key_in in_size
  row_in k h l =
      rw (special_row k h, special_col k h, lt-ltb (row_of k) (m.size / 16) l)
      (ap (λ (b : Bool). cond b (bit 12 (get_or s (row_of k) 0)) false) (or-true (ltb 12 (m.size % 16))))

  row_out : (k : ℕ) → m.size / 16 ≤ row_of k → key_in m.size k ≡ false
  unfolding key_in in_size
  row_out k l = rw (le-ltb (row_of k) (m.size / 16) l)

  pub raw_alike : (k : ℕ) → k < 104 → showing raw m s k ≡ scan.contact_at m s k
  unfolding showing raw scan.contact_at scan.sight hidden
  raw_alike k h = go (dec_lt (row_of k) (m.size / 16))
    where
      go : Dec (row_of k < m.size / 16) → showing raw m s k ≡ scan.contact_at m s k
      go (yes l) = rw (row_in k h l)
      go (no l) =
          let e = row_out k (omega arith) in
          let o = sound_out m ok k h e in
          rw (o.0, o.1, sample_out s m.size k e) (step_rests (matrix k && bit 12 (get_or s (row_of k) 0)) m.bounce) ∙ sym (out_rests m s k e o.0 o.1)

  below_alike : (n : ℕ) → n ≤ 104 → changes_by (showing raw) m s n ≡ changes_by scan.contact_at m s n
  unfolding changes_by
  below_alike zero l = refl
  below_alike (suc k) l = λ i. below_alike k (omega arith) i ++ cond (raw_alike k (omega arith) i).changed (code k (raw_alike k (omega arith) i).held ∷ []) []

  settles_alike : (n : ℕ) → n ≤ 104 → settles_by (showing raw) m s n ≡ settles_by scan.contact_at m s n
  unfolding settles_by
  settles_alike zero l = refl
  settles_alike (suc k) l = λ i. settles_alike k (omega arith) i || (raw_alike k (omega arith) i).settling

  contacts_alike : contacts_by (showing raw) m s ≡ contacts_by scan.contact_at m s
  unfolding contacts_by
  contacts_alike = λ i.
      with_sleep (with_keys m (table_same _ _ 104 (λ k h. ap (λ (x : Contact). x.held) (raw_alike k h)) i) (table_same _ _ 104 (λ k h. ap (λ (x : Contact). x.run) (raw_alike k h)) i))
      (counted (sleep_of m) (not (some (below_alike 104 (le_refl 104) i)) && not (settles_alike 104 (le_refl 104) i)))

  pub raw_looked : looked_by (showing raw) m s ≡ scan.looked m s
  unfolding looked_by
  raw_looked = rw (below_alike 104 (le_refl 104), contacts_alike) (looked_by_lem m s)

-- so that machine is ours
pub raw_same : (m : Module) (c : Call) → raw_hides.does m c ≡ called m c
unfolding called_by called changing asking outcome look_call write_call read_call read_buffer interrupt_call pins_call look_number look_lines number_of
raw_same m reset = refl
raw_same m (look s) = go (sound m) refl
  where
    go : (b : Bool) → sound m ≡ b → raw_hides.does m (look s) ≡ called m (look s)
    go true e = ap (λ (x : Module). changing (outcome m x (look_number m s)) []) (raw_looked m s e)
    go false e = rw e refl
raw_same m (write a bs) = refl
raw_same m (read a out) = refl
raw_same m (held row col) = refl
raw_same m interrupt = refl
raw_same m (pins x) = refl
