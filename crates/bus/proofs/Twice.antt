-- WHAT THE PART'S OWN CALLS FETCH.
--
--    waking_fetched     the access that a beginning makes while the panel sleeps fetches nothing
--    rouses_fit, rouses_fetched, rouses_waiting, rouses_empty    so it is of the calls of a beginning
--    twice_fit          a call that fits, made again if it is declined with 27, fits
--    read_twice         READ-TWICE: a read that its arguments allow, made again if it is declined with 27, fetches the codes that it gives now
--    twice_empty        and takes none of those that were fetched away
--    write_twice        what a write, made again if it is declined with 27, leaves of the codes that were fetched
-- Assumes nothing.
use Prim.Native.Nat.{ℕ}
use mathlib.Core.Path.{◌≡◌, refl, sym, ap, ◌∙◌}
use mathlib.Core.Bool.{Bool, true, false, cond, ◌&&◌}
use mathlib.Core.List.{List, [], ◌∷◌, ◌++◌, append-nil}
use lib.Dec.{eqb}
use lib.ListN.{length}
use borrow.Author.Tests.{eqb-true}
use Rattle.words.specs.Words.{all}
use Rattle.words.proofs.Laws.{all_cons}
use Rattle.words.proofs.Lists.{by_test}
use Rattle.numbers.specs.Numbers.{number_of}
use Rattle.judge.specs.Lines.{read_lines}
use Rattle.sheet.specs.Sheet as sheet
use Rattle.sheet.specs.Sheet.{waiting}
use Rattle.state.specs.declared.Module.{Module}
use Rattle.state.specs.Module.{woken}
use Rattle.access.specs.Accesses.{bytes_read}
use Rattle.calls.specs.Calls.{read_number, accessed, read_call, read_buffer}
use Rattle.demands.specs.Machine.{Call, write, read, after, done, noted, fits, codes_in, covers, fetched_by, fetched}
use Rattle.demands.specs.Ours.{changing, called, ours}
use Rattle.demands.proofs.Sleep.{bytes_woken}
use Rattle.demands.proofs.Observed.{waiting_waking, read_sleeps, read_done}
use Rattle.bus.specs.Bus.{restarts, emptied}
use Rattle.bus.specs.Ours.{waking, rouses, twice}

-- ---- the beginning
waking_buffer : (m : Module) → (called m waking).buffer ≡ []
unfolding called changing read_buffer bytes_read
waking_buffer m = by_test (λ b. cond {A = List ℕ} b [] [] ≡ []) (eqb (read_number m 0x10 0) 0) (λ _. refl) (λ _. refl)

module _ (cs : List Call) where
  waking_fetched : fetched ours (waking ∷ cs) ≡ fetched ours cs
  unfolding fetched fetched_by codes_in
  waking_fetched =
      let m = after ours cs in
      by_test (λ b. cond b (fetched ours cs ++ codes_in 0x10 (called m waking).buffer) (fetched ours cs) ≡ fetched ours cs) (eqb (called m waking).number 0)
      (λ _. ap (λ (l : List ℕ). fetched ours cs ++ codes_in 0x10 l) (waking_buffer m) ∙ append-nil (fetched ours cs)) (λ _. refl)

  module _ (n : ℕ) where
    pub rouses_fit : all fits cs ≡ true → all fits (rouses n ++ cs) ≡ true
    unfolding rouses fits
    rouses_fit t = by_test (λ b. all fits (cond b (waking ∷ []) [] ++ cs) ≡ true) (eqb n 27) (λ _. all_cons fits waking cs refl t) (λ _. t)

    pub rouses_fetched : fetched ours (rouses n ++ cs) ≡ fetched ours cs
    unfolding rouses
    rouses_fetched = by_test (λ b. fetched ours (cond b (waking ∷ []) [] ++ cs) ≡ fetched ours cs) (eqb n 27) (λ _. waking_fetched) (λ _. refl)

    pub rouses_waiting : waiting (done ours (rouses n ++ cs)) ≡ waiting (done ours cs)
    unfolding rouses
    rouses_waiting = by_test (λ b. waiting (done ours (cond b (waking ∷ []) [] ++ cs)) ≡ waiting (done ours cs)) (eqb n 27) (λ _. waiting_waking cs) (λ _. refl)

    pub rouses_empty : (l : List ℕ) → emptied ours cs (rouses n) l ≡ l
    unfolding rouses emptied restarts
    rouses_empty l = by_test (λ b. emptied ours cs (cond b (waking ∷ []) []) l ≡ l) (eqb n 27) (λ _. refl) (λ _. refl)

pub twice_fit : (cs : List Call) (c : Call) → fits c ≡ true → all fits cs ≡ true → all fits (twice (after ours cs) c ++ cs) ≡ true
unfolding twice
twice_fit cs c f t =
    let one = all_cons fits c cs f t in
    by_test (λ b. all fits (cond b (c ∷ c ∷ []) (c ∷ []) ++ cs) ≡ true) (eqb (called (after ours cs) c).number 27) (λ _. all_cons fits c (c ∷ cs) f one) (λ _. one)

-- ---- a read
module _ (cs : List Call) (a : ℕ) (out : List ℕ) where
  abbrev again : Call
  again = read a out

  -- the read is done
  done_fetched : (called (after ours cs) again).number ≡ 0 → fetched ours (again ∷ cs) ≡ fetched ours cs ++ codes_in a (bytes_read (after ours cs) a (length out))
  unfolding fetched fetched_by called changing read_call accessed read_buffer
  done_fetched e = rw e refl

  -- it is declined with 27
  module _ (e : (called (after ours cs) again).number ≡ 27) where
    declined_fetched : fetched ours (again ∷ cs) ≡ fetched ours cs
    unfolding fetched
    declined_fetched = rw e refl

    declined_wakes : after ours (again ∷ cs) ≡ woken (after ours cs)
    unfolding after called changing read_call accessed
    declined_wakes = rw e refl

    declined_awake : sheet.asleep (done ours (again ∷ cs)) ≡ false
    unfolding done noted sheet.asleep sheet.quiet_looks
    declined_awake = rw e refl

  pub twice_empty : (l : List ℕ) → emptied ours cs (twice (after ours cs) again) l ≡ l
  unfolding twice emptied restarts
  twice_empty l =
      by_test (λ b. emptied ours cs (cond b (again ∷ again ∷ []) (again ∷ [])) l ≡ l) (eqb (called (after ours cs) again).number 27) (λ _. refl) (λ _. refl)

module _ (cs : List Call) (t : all fits cs ≡ true) (a : ℕ) (out : List ℕ) (can : number_of (read_lines a (length out)) ≡ 0) where
  -- declined with 27 and made again
  second_fetched : (called (after ours cs) (read a out)).number ≡ 27
      → fetched ours (read a out ∷ read a out ∷ cs) ≡ fetched ours cs ++ codes_in a (bytes_read (after ours cs) a (length out))
  unfolding fits
  second_fetched e =
      let ds = read a out ∷ cs in
      done_fetched ds a out (read_done ds (all_cons fits (read a out) cs refl t) (declined_awake cs a out e) a out can)
      ∙ (λ i. declined_fetched cs a out e i ++ codes_in a (bytes_read (declined_wakes cs a out e i) a (length out)))
      ∙ ap (λ (l : List ℕ). fetched ours cs ++ codes_in a l) (bytes_woken (after ours cs) a (length out))

  pub read_twice : fetched ours (twice (after ours cs) (read a out) ++ cs) ≡ fetched ours cs ++ codes_in a (bytes_read (after ours cs) a (length out))
  unfolding twice
  read_twice =
      let c = read a out in
      let n = (called (after ours cs) c).number in
      by_test (λ b. fetched ours (cond b (c ∷ c ∷ []) (c ∷ []) ++ cs) ≡ fetched ours cs ++ codes_in a (bytes_read (after ours cs) a (length out))) (eqb n 27)
      (λ e. second_fetched (eqb-true n 27 e)) (λ e. done_fetched cs a out (read_done cs t (sym (read_sleeps cs t a out) ∙ e) a out can))

-- ---- a write
both_tests : (x y : Bool) (l : List ℕ) → cond (x && y) [] l ≡ cond y (cond x [] l) l
both_tests true true l = refl
both_tests true false l = refl
both_tests false true l = refl
both_tests false false l = refl

-- one write more
write_emptied : (cs new : List Call) (a : ℕ) (bs l : List ℕ) → emptied ours cs new l ≡ fetched ours (new ++ cs) → emptied ours cs (write a bs ∷ new) l ≡ fetched ours (write a bs ∷ new ++ cs)
unfolding emptied restarts fetched fetched_by
write_emptied cs new a bs l e =
    let n = (called (after ours (new ++ cs)) (write a bs)).number in
    both_tests (covers a bs) (eqb n 0) (emptied ours cs new l) ∙ ap (λ (k : List ℕ). cond (eqb n 0) (cond (covers a bs) [] k) k) e

module _ (cs : List Call) (a : ℕ) (bs : List ℕ) where
  pub write_twice : emptied ours cs (twice (after ours cs) (write a bs)) (fetched ours cs) ≡ fetched ours (twice (after ours cs) (write a bs) ++ cs)
  unfolding twice emptied
  write_twice =
      let c = write a bs in
      let one = write_emptied cs [] a bs (fetched ours cs) refl in
      by_test (λ b. emptied ours cs (cond b (c ∷ c ∷ []) (c ∷ [])) (fetched ours cs) ≡ fetched ours (cond b (c ∷ c ∷ []) (c ∷ []) ++ cs)) (eqb (called (after ours cs) c).number 27)
      (λ _. write_emptied cs (c ∷ []) a bs (fetched ours cs) one) (λ _. one)
