-- A BLOCK IS ITS LOOKS, for any machine whose blocks meet their demand.
--
--    blocks_only         the demand allows one outcome of a block alone
--    singles_leads, singles_stopped    the looks of a block that are done, and the one that is declined
--    block_few           they are at most those that it has samples for
--    wide_demand1        DEMAND 1 WITH ITS EXCEPTIONS, of a machine that meets it for calls and whose blocks meet theirs
--    spelled_same        after acts the state, the past and the codes fetched are those after the calls that they are spelled
--    reads_as_looks      so what holds after every list of calls holds after every list of acts
--    wide_demands        DEMANDS 2 AND 3
-- Assumes nothing.
use Prim.Native.Nat.{ℕ, zero, suc, ◌+◌, ◌*◌, ◌/◌, ◌≤◌}
use native.Mathlib.Decide.{ℕ_discrete}
use native.Mathlib.Numerals.{add-one}
use native.Mathlib.Omega.{arith}
use mathlib.Core.Path.{◌≡◌, refl, sym, ap, ◌∙◌, subst}
use mathlib.Core.Logic.{◌⊎◌, inl, inr}
use mathlib.Core.Bool.{true, false, cond}
use mathlib.Core.List.{List, [], ◌∷◌, ◌++◌}
use lib.ListN.{length, take, drop}
use lib.Seq.{drop-drop}
use lib.Dec.{eqb}
use borrow.Author.Tests.{eqb-true}
use Rattle.words.specs.Words.{all, some, bit}
use Rattle.words.proofs.Laws.{all_first, all_rest, all_cons}
use Rattle.words.proofs.Lists.{by_test, all_none}
use Rattle.keys.specs.Replay.{replayed}
use Rattle.sheet.specs.Sheet as sheet
use Rattle.sheet.specs.Sheet.{Past, looked}
use Rattle.sheet.specs.Ledger.{kept, lost, arrivals, unreported}
use Rattle.state.specs.Typed.{Typed}
use Rattle.sound.specs.Said.{Said}
use Rattle.demands.specs.Machine as machine
use Rattle.demands.specs.Machine.{Call, look, write, read, held, interrupt, Machine, after, noted, done, happened, fits, awake, seen}
use Rattle.demands.specs.Demands.{Demand1, NeverUnsound, Demand2, Demand3, NoSilentLoss, bytes_of}
use Rattle.demands.specs.Blocks.{Block, Wide, none, one_more, singles, block_rules, BlockDemand, Act, call, block, Leads, number_of, Unaltered, Woken, Stopped, Demand1Wide}
use Rattle.demands.specs.Blocks.{lookeds, fit, after_acts, past_of, fetched, DemandsWide, looks_of, spelled}
use Rattle.demands.specs.Sleep.{SleepDemand}
use Rattle.demands.proofs.Numbers.{first_only}

-- ---- one outcome
module _ (M : Machine) where
  -- what the demand gives, n being the number before the first look
  abbrev given : M.State → List ℕ → ℕ → Block M.State
  given σ s n = cond (eqb n 0) (singles M (length s / 8) σ s) (none n σ)

  pub blocks_only : (f g : M.State → List ℕ → Block M.State) → BlockDemand (record { calls = M; looks = f }) → BlockDemand (record { calls = M; looks = g })
      → (σ : M.State) → Typed (M.parts σ) → (s : List ℕ) → f σ s ≡ g σ s
  blocks_only f g d e σ t s =
      d.gives σ s ∙ ap (given σ s) (first_only (block_rules M σ s) (d.refusal σ s) (e.refusal σ s) (d.exact σ t s) (e.exact σ t s)) ∙ sym (e.gives σ s)

  -- ---- demand 1
  singles_leads : (n : ℕ) (σ : M.State) (s : List ℕ) → Leads M (singles M n σ s).done σ s (singles M n σ s).next
  unfolding singles Leads
  singles_leads zero σ s = refl
  singles_leads (suc n) σ s =
      let one = M.does σ (look (take 8 s)) in
      let rest = singles M n one.next (drop 8 s) in
      by_test (λ t. eqb one.number 0 ≡ t → Leads M (cond t (one_more rest) (none one.number σ)).done σ s (cond t (one_more rest) (none one.number σ)).next)
      (eqb one.number 0)
      (λ _ e. rw (add-one rest.done) (eqb-true one.number 0 e, singles_leads n one.next (drop 8 s)))
      (λ _ e. refl) refl

  -- the look behind the done ones
  abbrev stopping : List ℕ → Block M.State → ℕ
  stopping s b = (M.does b.next (look (take 8 (drop (8 * b.done) s)))).number

  stopping_more : (s : List ℕ) (b : Block M.State) → stopping (drop 8 s) b ≡ stopping s (one_more b)
  stopping_more s b =
      let e : 8 + 8 * b.done ≡ 8 * (b.done + 1) = omega arith in
      let f : drop (8 * b.done) (drop 8 s) ≡ drop (8 * (b.done + 1)) s = drop-drop (8 * b.done) 8 s ∙ ap (λ (j : ℕ). drop j s) e in
      ap (λ (t : List ℕ). (M.does b.next (look (take 8 t))).number) f

  singles_stopped : (n : ℕ) (σ : M.State) (s : List ℕ) → ((singles M n σ s).number ≡ 0 → ⊥) → stopping s (singles M n σ s) ≡ (singles M n σ s).number
  unfolding singles
  singles_stopped zero σ s h = absurd (h refl)
  singles_stopped (suc n) σ s h =
      let one = M.does σ (look (take 8 s)) in
      let rest = singles M n one.next (drop 8 s) in
      by_test (λ t. ((cond t (one_more rest) (none one.number σ)).number ≡ 0 → ⊥)
      → stopping s (cond t (one_more rest) (none one.number σ)) ≡ (cond t (one_more rest) (none one.number σ)).number)
      (eqb one.number 0)
      (λ _ g. sym (stopping_more s rest) ∙ singles_stopped n one.next (drop 8 s) g)
      (λ _ g. refl) h

  -- a block was declined before its first look, or at one
  given_declined : (σ : M.State) (s : List ℕ) (n : ℕ) → ((given σ s n).number ≡ 0 → ⊥)
      → (((given σ s n).next ≡ σ) × ((given σ s n).done ≡ 0)) ⊎ (Leads M (given σ s n).done σ s (given σ s n).next × (stopping s (given σ s n) ≡ (given σ s n).number))
  given_declined σ s n h =
      let b = singles M (length s / 8) σ s in
      by_test (λ t. ((cond t b (none n σ)).number ≡ 0 → ⊥)
      → (((cond t b (none n σ)).next ≡ σ) × ((cond t b (none n σ)).done ≡ 0))
      ⊎ (Leads M (cond t b (none n σ)).done σ s (cond t b (none n σ)).next × (stopping s (cond t b (none n σ)) ≡ (cond t b (none n σ)).number)))
      (eqb n 0) (λ _ g. inr (singles_leads (length s / 8) σ s, singles_stopped (length s / 8) σ s g)) (λ _ g. inl (refl, refl)) h

  given_leads : (σ : M.State) (s : List ℕ) (n : ℕ) → Leads M (given σ s n).done σ s (given σ s n).next
  unfolding Leads
  given_leads σ s n =
      let b = singles M (length s / 8) σ s in
      by_test (λ t. Leads M (cond t b (none n σ)).done σ s (cond t b (none n σ)).next) (eqb n 0) (λ _. singles_leads (length s / 8) σ s) (λ _. refl)

  singles_few : (n : ℕ) (σ : M.State) (s : List ℕ) → (singles M n σ s).done ≤ n
  unfolding singles
  singles_few zero σ s = omega arith
  singles_few (suc n) σ s =
      let one = M.does σ (look (take 8 s)) in
      let rest = singles M n one.next (drop 8 s) in
      let few = singles_few n one.next (drop 8 s) in
      by_test (λ t. (cond t (one_more rest) (none one.number σ)).done ≤ suc n) (eqb one.number 0) (λ _. omega arith) (λ _. omega arith)

  given_few : (σ : M.State) (s : List ℕ) (n : ℕ) → (given σ s n).done ≤ length s / 8
  given_few σ s n =
      let b = singles M (length s / 8) σ s in
      by_test (λ t. (cond t b (none n σ)).done ≤ length s / 8) (eqb n 0) (λ _. singles_few (length s / 8) σ s) (λ _. omega arith)

module _ (W : Wide) (c : Demand1 W.calls) (d : BlockDemand W) where
  excepted : (σ : W.calls.State) (a : Act) → (number_of W σ a ≡ 0 → ⊥) → Unaltered W σ a ⊎ (Woken W σ a ⊎ Stopped W σ a)
  unfolding number_of Unaltered Woken Stopped
  excepted σ (call x) h = go (ℕ_discrete (W.calls.does σ x).number 27)
    where
      go : Dec ((W.calls.does σ x).number ≡ 27) → Unaltered W σ (call x) ⊎ (Woken W σ (call x) ⊎ Stopped W σ (call x))
      go (yes z) = inr (inl (z, c.refused σ x z))
      go (no z) = inl (c.declined σ x h z)
  excepted σ (block s) h =
      go (subst (λ (b : Block W.calls.State). (b.number ≡ 0 → ⊥) → ((b.next ≡ σ) × (b.done ≡ 0)) ⊎ (Leads W.calls b.done σ s b.next × (stopping W.calls s b ≡ b.number)))
      (sym (d.gives σ s)) (given_declined W.calls σ s (d.refusal σ s)) h)
    where
      go : Unaltered W σ (block s) ⊎ Stopped W σ (block s) → Unaltered W σ (block s) ⊎ (Woken W σ (block s) ⊎ Stopped W σ (block s))
      go (inl x) = inl x
      go (inr x) = inr (inr x)

  pub wide_demand1 : Demand1Wide W
  wide_demand1 = record { calls = c; blocks = d; declined = excepted }

-- ---- acts as calls
module _ (M : Machine) where
  done_look : (cs : List Call) (t : List ℕ) → (M.does (after M cs) (look t)).number ≡ 0 → looked t ∷ done M cs ≡ done M (look t ∷ cs)
  unfolding done noted happened
  done_look cs t z = rw z

  fetched_look : (cs : List Call) (t : List ℕ) → machine.fetched M cs ≡ machine.fetched M (look t ∷ cs)
  unfolding machine.fetched machine.fetched_by
  fetched_look cs t =
      by_test (λ b. machine.fetched M cs ≡ cond b (machine.fetched M cs) (machine.fetched M cs)) (eqb (M.does (after M cs) (look t)).number 0) (λ _. refl) (λ _. refl)

  -- looks that are all done, made after the calls cs
  leads_after : (n : ℕ) (s : List ℕ) (cs : List Call) (τ : M.State) → Leads M n (after M cs) s τ
      → (τ ≡ after M (looks_of n s cs)) × ((lookeds n s (done M cs) ≡ done M (looks_of n s cs)) × (machine.fetched M cs ≡ machine.fetched M (looks_of n s cs)))
  unfolding Leads looks_of lookeds after
  leads_after zero s cs τ h = (h, (refl, refl))
  leads_after (suc n) s cs τ h =
      let t = take 8 s in
      let r = leads_after n (drop 8 s) (look t ∷ cs) τ h.1 in
      (r.0, (ap (lookeds n (drop 8 s)) (done_look cs t h.0) ∙ r.1.0, fetched_look cs t ∙ r.1.1))

looks_fit : (n : ℕ) (s : List ℕ) (cs : List Call) → all fits cs ≡ true → all fits (looks_of n s cs) ≡ true
unfolding looks_of fits
looks_fit zero s cs h = h
looks_fit (suc n) s cs h = looks_fit n (drop 8 s) (look (take 8 s) ∷ cs) (all_cons fits (look (take 8 s)) cs refl h)

module _ (W : Wide) (d : BlockDemand W) where
  -- the looks of a block that were done lead to what it left
  block_leads : (σ : W.calls.State) (s : List ℕ) → Leads W.calls (W.looks σ s).done σ s (W.looks σ s).next
  block_leads σ s =
      subst (λ (b : Block W.calls.State). Leads W.calls b.done σ s b.next) (sym (d.gives σ s)) (given_leads W.calls σ s (d.refusal σ s))

  -- and are at most those that it has samples for
  pub block_few : (σ : W.calls.State) (s : List ℕ) → (W.looks σ s).done ≤ length s / 8
  block_few σ s = subst (λ (b : Block W.calls.State). b.done ≤ length s / 8) (sym (d.gives σ s)) (given_few W.calls σ s (d.refusal σ s))

  pub spelled_same : (acts : List Act)
      → (after_acts W acts ≡ after W.calls (spelled W acts))
      × ((past_of W acts ≡ done W.calls (spelled W acts)) × (fetched W acts ≡ machine.fetched W.calls (spelled W acts)))
  unfolding after_acts past_of fetched spelled after done machine.fetched
  spelled_same [] = (refl, (refl, refl))
  spelled_same (call c ∷ acts) =
      let h = spelled_same acts in
      let M = W.calls in (
        ap (λ (σ : M.State). (M.does σ c).next) h.0,
        (
          (λ i. noted (M.does (h.0 i) c).number c (h.1.0 i)),
          (λ i. cond (eqb (M.does (h.0 i) c).number 0) (machine.fetched_by c (M.does (h.0 i) c).buffer (h.1.1 i)) (h.1.1 i)),
        ),
      )
  spelled_same (block s ∷ acts) =
      let h = spelled_same acts in
      let b = W.looks (after_acts W acts) s in
      let r = leads_after W.calls b.done s (spelled W acts) b.next
      (subst (λ (σ : W.calls.State). Leads W.calls b.done σ s b.next) h.0 (block_leads (after_acts W acts) s)) in
      (r.0, (ap (lookeds b.done s) h.1.0 ∙ r.1.0, h.1.1 ∙ r.1.1))

  spelled_fit : (acts : List Act) → all fit acts ≡ true → all fits (spelled W acts) ≡ true
  unfolding spelled fit
  spelled_fit [] t = all_none fits
  spelled_fit (call c ∷ acts) t = all_cons fits c (spelled W acts) (all_first fit (call c) acts t) (spelled_fit acts (all_rest fit (call c) acts t))
  spelled_fit (block s ∷ acts) t = looks_fit (W.looks (after_acts W acts) s).done s (spelled W acts) (spelled_fit acts (all_rest fit (block s) acts t))

  pub reads_as_looks : (P : W.calls.State → Past → List ℕ → Type 0)
      → ((cs : List Call) → all fits cs ≡ true → P (after W.calls cs) (done W.calls cs) (machine.fetched W.calls cs))
      → (acts : List Act) → all fit acts ≡ true → P (after_acts W acts) (past_of W acts) (fetched W acts)
  reads_as_looks P h acts t =
      let e = spelled_same acts in
      subst (λ (σ : W.calls.State). P σ (past_of W acts) (fetched W acts)) (sym e.0)
      (subst (λ (past : Past). P (after W.calls (spelled W acts)) past (fetched W acts)) (sym e.1.0)
      (subst (P (after W.calls (spelled W acts)) (done W.calls (spelled W acts))) (sym e.1.1) (h (spelled W acts) (spelled_fit acts t))))

  pub wide_demands : NeverUnsound W.calls → Demand2 W.calls → Demand3 W.calls → NoSilentLoss W.calls → SleepDemand W.calls → DemandsWide W
  wide_demands u two three loss sleep =
      let M = W.calls in
      record {
        never = reads_as_looks (λ σ past codes. Said (M.parts σ)) u.never;
        bytes = reads_as_looks (λ σ past codes. (a : ℕ) (out : List ℕ) → (M.does σ (read a out)).number ≡ 0 → (M.does σ (read a out)).buffer ≡ bytes_of a (length out) past) (λ cs t. two.bytes cs);
        keys = reads_as_looks (λ σ past codes. (row col : ℕ) → row ≤ 7 → col ≤ 12 → (M.does σ (held row col)).answer ≡ sheet.held (13 * row + col) past) two.keys;
        line = reads_as_looks (λ σ past codes. (M.does σ interrupt).answer ≡ sheet.line past) two.line;
        ledger = reads_as_looks (λ σ past codes. codes ++ seen M σ ≡ kept (arrivals past)) three.ledger;
        progress = reads_as_looks (λ σ past codes. (M.does (awake M σ) (read 0x10 (0 ∷ []))).buffer ≡ 0x7F ∷ [] → codes ≡ kept (arrivals past)) three.progress;
        replay = reads_as_looks (λ σ past codes. lost (arrivals past) ≡ [] → (row col : ℕ) → row ≤ 7 → col ≤ 12
            → replayed (13 * row + col) false (codes ++ seen M σ) ≡ (M.does σ (held row col)).answer) three.replay;
        told = reads_as_looks (λ σ past codes. all (bit 3) (M.does (awake M σ) (read 0x06 (0 ∷ []))).buffer ≡ some (unreported past)) loss.told;
        sleep = reads_as_looks (λ σ past codes. (a : ℕ) (bytes : List ℕ)
            → (eqb (M.does σ (read a bytes)).number 27 ≡ sheet.asleep past) × (eqb (M.does σ (write a bytes)).number 27 ≡ sheet.asleep past))
            (λ cs t a bytes. (sleep.reads cs t a bytes, sleep.writes cs t a bytes));
      }
