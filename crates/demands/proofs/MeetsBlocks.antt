-- OUR BLOCKS MEET THE DEMANDS. The demands are in specs/Blocks.antt, ours in specs/Ours.antt.
--
--    ours_blocks         a block gives what single looks give
--    ours_demand1_wide   DEMAND 1 WITH ITS EXCEPTIONS
--    ours_demands_wide   DEMANDS 2 AND 3, over every list of calls and blocks
--    ours_never_27_twice_wide    after 27 no access gives it again before 255 looks
--    block_number        A BLOCK'S NUMBER BY THE TABLE: 8, then 1, then 2
--    carries_acts        a session with blocks carried: it plays to its state
-- Assumes nothing.
use Prim.Native.Nat.{ℕ, zero, suc, ◌+◌, ◌*◌, ◌/◌, ◌%◌, ◌≤◌}
use native.Mathlib.Omega.{arith}
use mathlib.Core.Path.{◌≡◌, refl, sym, ap, ◌∙◌, subst}
use mathlib.Core.Bool.{Bool, true, false, cond, not, ◌&&◌}
use mathlib.Core.List.{List, [], ◌∷◌, ◌++◌}
use lib.ListN.{length, take, drop, length-drop}
use lib.Seq.{length-take-le, take_all, take-add}
use lib.Dec.{eqb}
use borrow.Author.Tests.{eqb-true}
use Rattle.words.specs.Words.{all}
use Rattle.words.proofs.Lists.{by_test}
use Rattle.numbers.specs.Numbers as numbers
use Rattle.numbers.specs.Numbers.{◌gives◌, not_eight, high_bits, unsound}
use Rattle.judge.specs.Lines.{high, sample_lines}
use Rattle.carry.specs.Carried.{packing}
use Rattle.carry.specs.Calls.{listed}
use Rattle.carry.specs.Statements as carry
use Rattle.state.specs.declared.Module.{Module}
use Rattle.state.specs.Typed.{Typed}
use Rattle.sound.specs.Sound.{sound}
use Rattle.scan.specs.Scan.{looked}
use Rattle.calls.specs.Blocks as calls
use Rattle.calls.specs.Blocks.{block_lines, looks_call}
use Rattle.calls.specs.Calls.{look_lines, look_number, outcome, look_call}
use Rattle.calls.proofs.Kept.{Judged, looked_kept}
use Rattle.demands.specs.Table.{◌⇒◌, First, Unsound, HighBits}
use Rattle.demands.specs.Sleep.{NotTwiceWide}
use Rattle.demands.specs.Blocks.{Block, none, one_more, singles, NotEights, block_rules, BlockDemand, Act, Demand1Wide, after_acts, DemandsWide, spelled}
use Rattle.demands.specs.Carrying.{typed, recorded}
use Rattle.demands.specs.Ours.{changing, called, ours, blocking, wide}
use Rattle.demands.proofs.Numbers.{◌then◌, lines_first, decide_ne}
use Rattle.demands.proofs.Numbers as rows
use Rattle.demands.proofs.Rows.{decide_high, unsound_decided}
use Rattle.demands.proofs.Blocks.{wide_demand1, wide_demands, spelled_same}
use Rattle.demands.proofs.Carrying.{ours_carries_sessions}
use Rattle.demands.proofs.MeetsSleep.{ours_sleeps, never_27_twice_wide}
use Rattle.demands.proofs.Meets.{ours_demand1, ours_never_unsound, ours_demand2, ours_demand3, ours_no_silent_loss}

-- ---- what single looks give
same_singles : (n : ℕ) (m : Module) (s : List ℕ) → blocking (calls.singles n m s) ≡ singles ours n m s
unfolding calls.singles singles blocking called changing
same_singles zero m s = refl
same_singles (suc n) m s =
    let one = look_call m (take 8 s) in
    let more = calls.one_more (calls.singles n one.after (drop 8 s)) in
    by_test (λ t. blocking (cond t more (calls.stopped m one.number)) ≡ cond t (blocking more) (none one.number m)) (eqb one.number 0) (λ _. refl) (λ _. refl)
    ∙ ap (λ (b : Block Module). cond (eqb one.number 0) (one_more b) (none one.number m)) (same_singles n one.after (drop 8 s))

block_gives : (m : Module) (s : List ℕ)
    → blocking (looks_call m s) ≡ cond (eqb (numbers.number_of (block_lines m s)) 0) (singles ours (length s / 8) m s) (none (numbers.number_of (block_lines m s)) m)
unfolding looks_call blocking
block_gives m s =
    let n = numbers.number_of (block_lines m s) in
    by_test (λ t. blocking (cond t (calls.singles (length s / 8) m s) (calls.stopped m n)) ≡ cond t (singles ours (length s / 8) m s) (none n m))
    (eqb n 0) (λ _. same_singles (length s / 8) m s) (λ _. refl)

block_exact : (m : Module) → Typed m → (s : List ℕ) → First (block_rules ours m s) (numbers.number_of (block_lines m s))
unfolding block_rules block_lines First
block_exact m t s = lines_first (unsound_decided m t then decide_ne (length s % 8) 0 then rows.none)

pub ours_blocks : BlockDemand wide
ours_blocks = record { refusal = λ m s. numbers.number_of (block_lines m s); exact = block_exact; gives = block_gives }

-- "demand 1's rule on declined calls gains this exception"
pub ours_demand1_wide : Demand1Wide wide
ours_demand1_wide = wide_demand1 wide ours_demand1 ours_blocks

-- "Demand 3 reads a block as its single looks."
pub ours_demands_wide : DemandsWide wide
ours_demands_wide = wide_demands wide ours_blocks ours_never_unsound ours_demand2 ours_demand3 ours_no_silent_loss ours_sleeps

-- E7: "An access is declined once"
pub ours_never_27_twice_wide : NotTwiceWide wide
ours_never_27_twice_wide = never_27_twice_wide wide ours_blocks ours_demands_wide

-- ---- a block's number
abbrev narrow : ℕ → Bool
narrow x = not (high x)

all_both : (a b : List ℕ) → all narrow (a ++ b) ≡ (all narrow a && all narrow b)
unfolding all
all_both [] b = refl
all_both (x ∷ a) b = by_test (λ t. (t && all narrow (a ++ b)) ≡ ((t && all narrow a) && all narrow b)) (narrow x) (λ _. all_both a b) (λ _. refl)

-- the samples of n looks more, behind those of one
eights_more : (n : ℕ) (s : List ℕ) → all narrow (take (8 * suc n) s) ≡ (all narrow (take 8 s) && all narrow (take (8 * n) (drop 8 s)))
eights_more n s =
    let e : 8 * suc n ≡ 8 + 8 * n = omega arith in
    ap (λ (j : ℕ). all narrow (take j s)) e ∙ ap (all narrow) (take-add 8 (8 * n) s) ∙ all_both (take 8 s) (take (8 * n) (drop 8 s))

-- the number of samples that are judged by their high bits alone
high_number : Bool → ℕ
high_number true = 0
high_number false = 2

look_number_lem : (m : Module) (t : List ℕ) → sound m ≡ true → length t ≡ 8 → (look_call m t).number ≡ high_number (all narrow t)
unfolding look_call outcome look_number look_lines sample_lines numbers.number_of high_number
look_number_lem m t ok eight = rw (ok, eight) (go (all narrow t))
  where
    go : (b : Bool) → numbers.number_of (not b gives high_bits ∷ []) ≡ high_number b
    go true = refl
    go false = refl

look_kept : (m : Module) (t : List ℕ) → Judged m → Judged (look_call m t).after
unfolding look_call outcome
look_kept m t j = by_test (λ b. Judged (cond b (looked m t) m)) (eqb (look_number m t) 0) (λ _. looked_kept m t j) (λ _. j)

singles_number : (n : ℕ) (m : Module) (s : List ℕ) → Judged m → 8 * n ≤ length s → (calls.singles n m s).number ≡ high_number (all narrow (take (8 * n) s))
unfolding calls.singles high_number all
singles_number zero m s j l = refl
singles_number (suc n) m s j l =
    let t = take 8 s in
    let e = look_number_lem m t j.ok (length-take-le 8 s (omega arith)) in
    let rest = calls.one_more (calls.singles n (look_call m t).after (drop 8 s)) in
    let more : (calls.singles n (look_call m t).after (drop 8 s)).number ≡ high_number (all narrow (take (8 * n) (drop 8 s))) =
    singles_number n (look_call m t).after (drop 8 s) (look_kept m t j) (rw (length-drop 8 s) (omega arith)) in
    rw (e, eights_more n s)
    (by_test (λ b. (cond (eqb (high_number b) 0) rest (calls.stopped m (high_number b))).number ≡ high_number (b && all narrow (take (8 * n) (drop 8 s)))) (all narrow t) (λ _. more) (λ _. refl))

-- the lines that a block's number is given by
block_table : Module → List ℕ → List numbers.Line
block_table m s = not (sound m) gives unsound ∷ not (eqb (length s % 8) 0) gives not_eight ∷ not (all narrow s) gives high_bits ∷ []

by_lines : (m : Module) → Typed m → (s : List ℕ) → (looks_call m s).number ≡ numbers.number_of (block_table m s)
unfolding looks_call block_lines numbers.number_of block_table high_number
by_lines m t s = go (sound m) (eqb (length s % 8) 0) refl refl
  where
    high_line : (b : Bool) → high_number b ≡ numbers.number_of (not b gives high_bits ∷ [])
    high_line true = refl
    high_line false = refl

    go : (a b : Bool) → sound m ≡ a → eqb (length s % 8) 0 ≡ b → (looks_call m s).number ≡ numbers.number_of (block_table m s)
    go false b e f = rw e
    go true false e f = rw (e, f)
    go true true e f =
        let z : length s % 8 ≡ 0 = eqb-true (length s % 8) 0 f in
        let whole : take (8 * (length s / 8)) s ≡ s = take_all (8 * (length s / 8)) s (omega arith) in
        rw (e, f) (singles_number (length s / 8) m s (record { keys = t.keys; runs = t.runs; places = t.places; low = t.bounce_low; ok = e }) (omega arith)
        ∙ ap (λ (l : List ℕ). high_number (all narrow l)) whole ∙ high_line (all narrow s))

-- "8 first, then 1 if the length isn't a multiple of eight"; a look of a sound module can stop by 2 alone
pub block_number : (m : Module) → Typed m → (s : List ℕ) → First (Unsound m ⇒ 8 ∷ NotEights s ⇒ 1 ∷ HighBits s ⇒ 2 ∷ []) (wide.looks m s).number
unfolding blocking block_table
block_number m t s =
    subst (First (Unsound m ⇒ 8 ∷ NotEights s ⇒ 1 ∷ HighBits s ⇒ 2 ∷ [])) (sym (by_lines m t s))
    (lines_first (unsound_decided m t then decide_ne (length s % 8) 0 then decide_high s then rows.none))

-- a block goes into a packed list look by look, and the list plays to the state of the session
pub carries_acts : (acts : List Act) → all typed (spelled wide acts) ≡ true → (ws out : List ℕ) → listed ws ≡ recorded (spelled wide acts)
    → length (packing (recorded (spelled wide acts))) ≤ length out
    → (((carry.ours).packs ws out).number ≡ numbers.done)
    × ((carry.ours).plays (take ((carry.ours).packs ws out).length ((carry.ours).leaves ws out)) ≡ record { after = after_acts wide acts; number = numbers.done })
carries_acts acts t ws out e l =
    subst (λ (m : Module). (((carry.ours).packs ws out).number ≡ numbers.done)
    × ((carry.ours).plays (take ((carry.ours).packs ws out).length ((carry.ours).leaves ws out)) ≡ record { after = m; number = numbers.done }))
    (sym (spelled_same wide ours_blocks acts).0) (ours_carries_sessions.carried (spelled wide acts) t ws out e l)
