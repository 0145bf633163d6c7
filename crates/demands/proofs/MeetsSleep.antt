-- OUR PANEL SLEEPS AS THE SHEET SAYS, and no panel that does so declines twice. The demands are in specs/Sleep.antt.
--
--    ours_sleeps            27 exactly while the sheet says so, and the sheet's count
--    noted_row              a call adds at most one to the row of quiet looks, if it is a look, and else nothing
--    never_27_twice         after 27 no access gives it again before 255 looks were made, of any machine that sleeps as the sheet says
--    ours_never_27_twice    and of ours
--    never_27_twice_wide    the same over calls and blocks, of any machine with blocks that meets the demands
-- Assumes nothing.
use Prim.Native.Nat.{ℕ, zero, suc, ◌+◌, ◌≤◌}
use native.Mathlib.Omega.{arith}
use mathlib.Core.Path.{◌≡◌, sym, ap, ◌∙◌}
use mathlib.Core.Bool.{cond}
use mathlib.Core.List.{List, [], ◌∷◌, ◌++◌}
use borrow.Author.Tests.{leb-true}
use lib.Dec.{eqb}
use lib.ListN.{length, take, drop}
use Rattle.words.proofs.Lists.{by_test}
use Rattle.registers.specs.Registers.{register_at}
use Rattle.registers.specs.Runs.{next}
use Rattle.sheet.specs.Sheet as sheet
use Rattle.sheet.specs.Sheet.{Past, looked, wrote, got, calm, quiet_looks}
use Rattle.state.specs.declared.Module.{Module}
use Rattle.demands.specs.Machine.{Call, reset, look, write, read, held, interrupt, pins, Machine, after, wrotes, gots, happened, noted, done}
use Rattle.demands.specs.Sleep.{SleepDemand, looks_in, NotTwice, looks_among, NotTwiceWide}
use Rattle.demands.specs.Blocks.{Wide, BlockDemand, Act, call, block, lookeds, after_acts, past_of, DemandsWide}
use Rattle.demands.specs.Ours.{ours}
use Rattle.demands.specs.Shown.{shown}
use Rattle.demands.proofs.Blocks.{block_few}
use Rattle.demands.proofs.Reached.{reached}
use Rattle.demands.proofs.Sleep.{noted_cases}
use Rattle.demands.proofs.Observed.{sleep_reached, read_sleeps, write_sleeps}

quiet_reached : (cs : List Call) → (after ours cs).quiet ≡ sheet.quiet (done ours cs)
unfolding shown
quiet_reached cs = ap (λ (m : Module). m.quiet) (reached cs)

pub ours_sleeps : SleepDemand ours
ours_sleeps = record { reads = read_sleeps; writes = write_sleeps; count = λ cs t. quiet_reached cs; sleep = λ cs t. sleep_reached cs }

-- ---- declined once
wrotes_row : (a : ℕ) (bs : List ℕ) (past : Past) → quiet_looks (wrotes a bs past) ≤ quiet_looks past
unfolding wrotes quiet_looks
wrotes_row a [] past = omega arith
wrotes_row a (b ∷ bs) past = let h = wrotes_row (next a) bs (wrote (register_at a) b ∷ past) in omega arith

gots_row : (a n : ℕ) (past : Past) → quiet_looks (gots a n past) ≤ quiet_looks past
unfolding gots quiet_looks
gots_row a zero past = omega arith
gots_row a (suc n) past = let h = gots_row (next a) n (got (register_at a) ∷ past) in omega arith

look_row : (s : List ℕ) (past : Past) → quiet_looks (looked s ∷ past) ≤ quiet_looks past + 1
unfolding quiet_looks
look_row s past = by_test (λ t. cond t (quiet_looks past + 1) 0 ≤ quiet_looks past + 1) (calm s past) (λ _. omega arith) (λ _. omega arith)

happened_row : (c : Call) (past : Past) → quiet_looks (happened c past) ≤ looks_in (c ∷ []) + quiet_looks past
unfolding happened quiet_looks looks_in
happened_row reset past = omega arith
happened_row (look s) past = let h = look_row s past in omega arith
happened_row (write a bs) past = let h = wrotes_row a bs past in omega arith
happened_row (read a out) past = let h = gots_row a (length out) past in omega arith
happened_row (held row col) past = omega arith
happened_row interrupt past = omega arith
happened_row (pins x) past = omega arith

noted_row : (n : ℕ) (c : Call) (past : Past) → quiet_looks (noted n c past) ≤ looks_in (c ∷ []) + quiet_looks past
unfolding quiet_looks
noted_row n c past = noted_cases (λ p. quiet_looks p ≤ looks_in (c ∷ []) + quiet_looks past) n c past (λ _. happened_row c past) (λ _. omega arith) (λ _ _. omega arith)

-- 27 ends the row
refused_row : (n : ℕ) (c : Call) (past : Past) → n ≡ 27 → quiet_looks (noted n c past) ≡ 0
unfolding noted quiet_looks
refused_row n c past z = rw z

looks_more : (c : Call) (cs : List Call) → looks_in (c ∷ cs) ≡ looks_in (c ∷ []) + looks_in cs
unfolding looks_in
looks_more reset cs = omega arith
looks_more (look s) cs = omega arith
looks_more (write a bs) cs = omega arith
looks_more (read a out) cs = omega arith
looks_more (held row col) cs = omega arith
looks_more interrupt cs = omega arith
looks_more (pins x) cs = omega arith

-- a panel that sleeps has a row of 255
asleep_row : (n : ℕ) (past : Past) → n ≡ 27 → eqb n 27 ≡ sheet.asleep past → 255 ≤ quiet_looks past
unfolding sheet.asleep
asleep_row n past z e = leb-true 255 (quiet_looks past) (sym e ∙ ap (λ (k : ℕ). eqb k 27) z)

module _ (M : Machine) (cs : List Call) (c : Call) (z : (M.does (after M cs) c).number ≡ 27) where
  row_since : (ds : List Call) → quiet_looks (done M (ds ++ (c ∷ cs))) ≤ looks_in ds
  unfolding done looks_in
  row_since [] = let h = refused_row (M.does (after M cs) c).number c (done M cs) z in omega arith
  row_since (d ∷ ds) =
      let l = ds ++ (c ∷ cs) in
      let h = noted_row (M.does (after M l) d).number d (done M l) in
      let i = row_since ds in
      let j = looks_more d ds in
      omega arith

  -- n is the number of an access that is made then
  long_since : (ds : List Call) (n : ℕ) → n ≡ 27 → eqb n 27 ≡ sheet.asleep (done M (ds ++ (c ∷ cs))) → 255 ≤ looks_in ds
  long_since ds n y e =
      let h = asleep_row n (done M (ds ++ (c ∷ cs))) y e in
      let i = row_since ds in
      omega arith

pub never_27_twice : (M : Machine) → SleepDemand M → NotTwice M
never_27_twice M sleep =
    record {
      read_next = λ cs c ds t z a out y. long_since M cs c z ds (M.does (after M (ds ++ (c ∷ cs))) (read a out)).number y (sleep.reads (ds ++ (c ∷ cs)) t a out);
      write_next = λ cs c ds t z a bs y. long_since M cs c z ds (M.does (after M (ds ++ (c ∷ cs))) (write a bs)).number y (sleep.writes (ds ++ (c ∷ cs)) t a bs);
    }

-- "An access is declined once and wakes it"
pub ours_never_27_twice : NotTwice ours
ours_never_27_twice = never_27_twice ours ours_sleeps

-- ---- with blocks
lookeds_row : (n : ℕ) (s : List ℕ) (past : Past) → quiet_looks (lookeds n s past) ≤ n + quiet_looks past
unfolding lookeds
lookeds_row zero s past = omega arith
lookeds_row (suc n) s past =
    let t = take 8 s in
    let h = lookeds_row n (drop 8 s) (looked t ∷ past) in
    let i = look_row t past in
    omega arith

module _ (W : Wide) (d : BlockDemand W) (acts : List Act) (c : Call) (z : (W.calls.does (after_acts W acts) c).number ≡ 27) where
  row_since_acts : (later : List Act) → quiet_looks (past_of W (later ++ (call c ∷ acts))) ≤ looks_among later
  unfolding past_of looks_among
  row_since_acts [] = let h = refused_row (W.calls.does (after_acts W acts) c).number c (past_of W acts) z in omega arith
  row_since_acts (call e ∷ later) =
      let l = later ++ (call c ∷ acts) in
      let h = noted_row (W.calls.does (after_acts W l) e).number e (past_of W l) in
      let i = row_since_acts later in
      omega arith
  row_since_acts (block s ∷ later) =
      let l = later ++ (call c ∷ acts) in
      let h = lookeds_row (W.looks (after_acts W l) s).done s (past_of W l) in
      let i = row_since_acts later in
      let j = block_few W d (after_acts W l) s in
      omega arith

  long_since_acts : (later : List Act) (n : ℕ) → n ≡ 27 → eqb n 27 ≡ sheet.asleep (past_of W (later ++ (call c ∷ acts))) → 255 ≤ looks_among later
  long_since_acts later n y e =
      let h = asleep_row n (past_of W (later ++ (call c ∷ acts))) y e in
      let i = row_since_acts later in
      omega arith

pub never_27_twice_wide : (W : Wide) → BlockDemand W → DemandsWide W → NotTwiceWide W
never_27_twice_wide W d w =
    record {
      read_next = λ acts c later t z a out y.
          long_since_acts W d acts c z later (W.calls.does (after_acts W (later ++ (call c ∷ acts))) (read a out)).number y (w.sleep (later ++ (call c ∷ acts)) t a out).0;
      write_next = λ acts c later t z a bs y.
          long_since_acts W d acts c z later (W.calls.does (after_acts W (later ++ (call c ∷ acts))) (write a bs)).number y (w.sleep (later ++ (call c ∷ acts)) t a bs).1;
    }
