-- A session carried plays to the state of that session.
--
--    played_append      calls played in two parts
--    asleep_always      asleep every access gives 27; read-wakes: so a read of one byte stands for one that doesn't fit
--    noted_steps        a call's record, played, is the call: one that doesn't fit is declined, and a question alters nothing
--    recorded_plays     a session's records, played, lead to its state
--    recorded_fit       and they fit in a list
--    carries_sessions   whoever meets the statements of request E1 carries sessions
--    ours_carries_sessions    and ours does
-- Assumes nothing.
use Prim.Native.Nat.{ℕ, ◌≤◌}
use native.Mathlib.Omega.{arith}
use mathlib.Core.Path.{◌≡◌, refl, sym, ap, ◌∙◌}
use mathlib.Core.Bool.{Bool, true, false, not, cond}
use mathlib.Core.List.{List, [], ◌∷◌, ◌++◌}
use borrow.Author.Tests.{ne_eqb, eqb-true}
use lib.Dec.{eqb}
use lib.ListN.{length, take, drop}
use lib.Seq.{take-append_seam}
use Rattle.words.specs.Words.{all}
use Rattle.words.proofs.Laws.{true_false, and_left, all_first, all_rest}
use Rattle.words.proofs.Lists.{by_test, all_none, all_one, all_append}
use Rattle.numbers.specs.Numbers.{Line, ◌gives◌, number_of, done, not_allowed, bad_size, unsound, sleeping}
use Rattle.numbers.proofs.Laws.{line_yes, line_no, only, first_decides, lacks, never_given}
use Rattle.bits.specs.Bits.{below}
use Rattle.registers.specs.declared.Access.TheVariants.{Read, Write}
use Rattle.registers.specs.Runs.{run_allowed}
use Rattle.judge.specs.Lines.{sample_lines, access_lines, sizes_fit, read_lines, write_lines}
use Rattle.state.specs.declared.Module.{Module}
use Rattle.state.specs.Module.{fresh, woken}
use Rattle.sound.specs.Sound.{sound}
use Rattle.scan.specs.Scan.{looked}
use Rattle.access.specs.Accesses.{wrote, read_all}
use Rattle.calls.specs.declared.Done.{Done}
use Rattle.calls.specs.Calls.{look_lines, look_number, access_number, write_number, read_number, outcome, accessed, answer, held_call, interrupt_call, reset_call, look_call}
use Rattle.calls.specs.Calls.{write_call, read_call}
use Rattle.calls.proofs.Laws.{unsound_access, asleep_first, awake_then}
use Rattle.carry.specs.Carried as list
use Rattle.carry.specs.Carried.{Carried, count_fits, fits, packing}
use Rattle.carry.specs.Calls.{listed}
use Rattle.carry.specs.Writer.{count_lines, own_lines, writer_lines}
use Rattle.carry.specs.Player.{stepped, played_from}
use Rattle.carry.specs.Statements.{Carrier, Carries}
use Rattle.carry.specs.Statements as carry
use Rattle.carry.proofs.Fits as fit
use Rattle.carry.proofs.Meets.{ours_carries}
use Rattle.demands.specs.Machine.{Call, reset, look, write, read, held, interrupt, pins, after}
use Rattle.demands.specs.Ours.{changing, asking, called, ours}
use Rattle.demands.specs.Carrying.{typed, kept, access, noted, recorded, CarriesSessions}

pub played_append : (a b : List Carried) (m : Module) → played_from m (a ++ b) ≡ played_from (played_from m a) b
unfolding played_from
played_append [] b m = refl
played_append (c ∷ a) b m = played_append a b (stepped m c)

-- ---- a call that doesn't fit is declined

declined_still : (m x : Module) (n : ℕ) → (n ≡ done → ⊥) → (outcome m x n).after ≡ m
unfolding outcome
declined_still m x n h = rw (ne_eqb n 0 h)

behind_sound : (m : Module) (l : List Line) → (number_of l ≡ done → ⊥) → number_of (not (sound m) gives unsound ∷ l) ≡ done → ⊥
behind_sound m l h e = go (sound m) refl
  where
    go : (b : Bool) → sound m ≡ b → ⊥
    go true p = h (sym (line_no (not (sound m)) unsound l (ap not p)) ∙ e)
    go false p = let z : ◌≡◌ {A = ℕ} 8 0 = sym (line_yes (not (sound m)) unsound l (ap not p)) ∙ e in omega arith

more_declined : (k l : List Line) → (number_of k ≡ done → ⊥) → number_of (k ++ l) ≡ done → ⊥
more_declined k l h e = h (sym (first_decides k l h) ∙ e)

module _ (m : Module) where
  look_unfit : (s : List ℕ) → typed (look s) ≡ true → fits (list.look s) ≡ false → (called m (look s)).next ≡ m
  unfolding typed fit.typed called changing look_call look_number look_lines own_lines
  look_unfit s t h = declined_still m (looked m s) (look_number m s) (behind_sound m (sample_lines s) (fit.unfit_declined (list.look s) t h))

write_unfit : (a : ℕ) (bs : List ℕ) → typed (write a bs) ≡ true → fits (list.write a bs) ≡ false → number_of (write_lines a bs) ≡ done → ⊥
unfolding typed fit.typed write_lines access_lines own_lines count_lines
write_unfit a bs t h =
    more_declined (count_lines (length bs)) (not (run_allowed Write a (length bs)) gives not_allowed ∷ not (sizes_fit a bs) gives bad_size ∷ []) (fit.unfit_declined (list.write a bs) t h)

read_unfit : (a n : ℕ) → below 8 a ≡ true → fits (list.read a n) ≡ false → number_of (read_lines a n) ≡ done → ⊥
unfolding fit.typed read_lines access_lines own_lines count_lines
read_unfit a n t h = more_declined (count_lines n) (not (run_allowed Read a n) gives not_allowed ∷ []) (fit.unfit_declined (list.read a n) t h)

-- ---- an access that doesn't fit, made while the panel sleeps

module _ (m : Module) (l : List Line) where
  access_declined : (number_of l ≡ done → ⊥) → access_number m l ≡ done → ⊥
  access_declined h e = go (sound m) m.asleep refl refl
    where
      go : (b z : Bool) → sound m ≡ b → m.asleep ≡ z → ⊥
      go false z p q = let k : ◌≡◌ {A = ℕ} 8 0 = sym (unsound_access m l p) ∙ e in omega arith
      go true true p q = let k : ◌≡◌ {A = ℕ} 27 0 = sym (asleep_first m l p q) ∙ e in omega arith
      go true false p q = h (sym (awake_then m l p q) ∙ e)

  -- what an access asks for doesn't matter then
  asleep_always : lacks sleeping l ≡ true → access_number m l ≡ sleeping → (k : List Line) → access_number m k ≡ sleeping
  asleep_always o e k = go (sound m) m.asleep refl refl
    where
      go : (b z : Bool) → sound m ≡ b → m.asleep ≡ z → access_number m k ≡ sleeping
      go false z p q = let k : ◌≡◌ {A = ℕ} 8 27 = sym (unsound_access m l p) ∙ e in absurd (omega arith)
      go true true p q = asleep_first m k p q
      go true false p q = absurd (never_given sleeping l o (sym (awake_then m l p q) ∙ e))

  -- a read of one byte wakes as it does
  read_wakes : lacks sleeping l ≡ true → access_number m l ≡ sleeping → (a : ℕ) → (read_call m a 1).after ≡ woken m
  unfolding read_call accessed read_number
  read_wakes o e a = rw (asleep_always o e (read_lines a 1))

-- ---- a call's record is the call

kept_steps : (m n : Module) (c : Carried) → (fits c ≡ true → stepped m c ≡ n) → (fits c ≡ false → m ≡ n) → played_from m (kept c) ≡ n
unfolding kept played_from
kept_steps m n c h g = go (fits c) refl
  where
    go : (b : Bool) → fits c ≡ b → played_from m (cond (fits c) (c ∷ []) []) ≡ n
    go true e = rw e (h e)
    go false e = rw e (g e)

-- x is the state that the access leads to, if it is done
access_steps : (m x : Module) (l : List Line) (a : ℕ) (c : Carried) → lacks sleeping l ≡ true → (fits c ≡ false → number_of l ≡ done → ⊥)
    → stepped m c ≡ (accessed m x (access_number m l)).after → played_from m (access (access_number m l) a c) ≡ (accessed m x (access_number m l)).after
unfolding access played_from stepped accessed
access_steps m x l a c o h s =
    let n = access_number m l in
    let end = cond (eqb n done) (woken x) (cond (eqb n sleeping) (woken m) m) in
    by_test (λ t. played_from m (cond t (c ∷ []) (cond (eqb n sleeping) (list.read a 1 ∷ []) [])) ≡ end) (fits c) (λ _. s)
    (λ e. rw (ne_eqb n done (access_declined m l (h e)))
    (by_test (λ t. played_from m (cond t (list.read a 1 ∷ []) []) ≡ cond t (woken m) m) (eqb n sleeping) (λ z. read_wakes m l o (eqb-true n sleeping z) a) (λ _. refl)))

pub noted_steps : (m : Module) (c : Call) → typed c ≡ true → played_from m (noted (called m c).number c) ≡ (called m c).next
unfolding typed noted called changing asking held_call interrupt_call write_call read_call write_number read_number write_lines read_lines access_lines accessed answer fits stepped played_from lacks
noted_steps m reset t = kept_steps m reset_call.after list.reset (λ e. refl) (λ e. true_false e)
noted_steps m (look s) t = kept_steps m (look_call m s).after (list.look s) (λ e. refl) (λ e. sym (look_unfit m s t e))
noted_steps m (write a bs) t = access_steps m (wrote m a bs) (write_lines a bs) a (list.write a bs) refl (write_unfit a bs t) refl
noted_steps m (read a out) t = access_steps m (read_all m a (length out)) (read_lines a (length out)) a (list.read a (length out)) refl (read_unfit a (length out) t) refl
noted_steps m (held row col) t = refl
noted_steps m interrupt t = refl
noted_steps m (pins x) t = true_false (sym t)

pub recorded_plays : (cs : List Call) → all typed cs ≡ true → played_from fresh (recorded cs) ≡ after ours cs
unfolding recorded played_from after
recorded_plays [] t = refl
recorded_plays (c ∷ cs) t =
    let records = noted (called (after ours cs) c).number c in
    played_append (recorded cs) records fresh
    ∙ ap (λ (m : Module). played_from m records) (recorded_plays cs (all_rest typed c cs t))
    ∙ noted_steps (after ours cs) c (all_first typed c cs t)

-- ---- and fits in a list

kept_fits : (c : Carried) → all fits (kept c) ≡ true
unfolding kept
kept_fits c = go (fits c) refl
  where
    go : (b : Bool) → fits c ≡ b → all fits (cond (fits c) (c ∷ []) []) ≡ true
    go true e = rw e (all_one fits c e)
    go false e = rw e (all_none fits)

access_fits : (n a : ℕ) (c : Carried) → below 8 a ≡ true → all fits (access n a c) ≡ true
unfolding access fits count_fits
access_fits n a c t =
    let byte = list.read a 1 ∷ [] in
    by_test (λ b. all fits (cond b (c ∷ []) (cond (eqb n sleeping) byte [])) ≡ true) (fits c) (all_one fits c)
    (λ _. by_test (λ b. all fits (cond b byte []) ≡ true) (eqb n sleeping) (λ _. all_one fits (list.read a 1) (rw t)) (λ _. all_none fits))

noted_fits : (n : ℕ) (c : Call) → typed c ≡ true → all fits (noted n c) ≡ true
unfolding typed noted
noted_fits n reset t = kept_fits list.reset
noted_fits n (look s) t = kept_fits (list.look s)
noted_fits n (write a bs) t = access_fits n a (list.write a bs) (and_left (below 8 a) (all (below 8) bs) t)
noted_fits n (read a out) t = access_fits n a (list.read a (length out)) t
noted_fits n (held row col) t = all_none fits
noted_fits n interrupt t = all_none fits
noted_fits n (pins x) t = all_none fits

pub recorded_fit : (cs : List Call) → all typed cs ≡ true → all fits (recorded cs) ≡ true
unfolding recorded
recorded_fit [] t = all_none fits
recorded_fit (c ∷ cs) t =
    let n = (called (after ours cs) c).number in
    all_append fits (recorded cs) (noted n c) (recorded_fit cs (all_rest typed c cs t)) (noted_fits n c (all_first typed c cs t))

-- ---- the customer's sentence

-- played to this state
abbrev ended : Module → Done
ended m = record { after = m; number = done }

module _ (K : Carrier) (c : Carries K) (cs : List Call) (t : all typed cs ≡ true) (ws out : List ℕ) (e : listed ws ≡ recorded cs) (l : length (packing (recorded cs)) ≤ length out) where
  writes : (K.packs ws out).number ≡ done
  writes = only (writer_lines (listed ws) (length out)) (K.packs ws out).number (c.exact ws out) ∙ rw e (fit.writer_done (recorded cs) (length out) (recorded_fit cs t) l)

  front : take (K.packs ws out).length (K.leaves ws out) ≡ packing (recorded cs)
  front =
      let w = c.written ws out writes in
      rw (w.0, w.1, e) (take-append_seam (packing (recorded cs)) (drop (length (packing (recorded cs))) out))

  plays : K.plays (take (K.packs ws out).length (K.leaves ws out)) ≡ record { after = after ours cs; number = done }
  plays = ap K.plays front ∙ c.played (recorded cs) (recorded_fit cs t) ∙ ap ended (recorded_plays cs t)

pub carries_sessions : (K : Carrier) → Carries K → CarriesSessions K
carries_sessions K c = record { carried = λ cs t ws out e l. (writes K c cs t ws out e l, plays K c cs t ws out e l) }

pub ours_carries_sessions : CarriesSessions carry.ours
ours_carries_sessions = carries_sessions carry.ours ours_carries
