-- A block's looks, as its walk meets them.
--
--    later k b                      the block b, with k looks done before it
--    ended m k n                    k looks are done, and the next gives the number n; m is the module that they left
--    front, behind                  the samples of the next look, and those behind them
--    no_more, next_done, next_stops      no look is left, the next is done, or declined
--    left n m s k                   what n looks give, k of them done, m being the module that these left
--    eight                          the eight samples of the next look, by where they lie
--    left_all                       before the first look
--    left_next, left_stop           a look is done, or declined
--    left_none                      after the last look
--    Walked m s x k r               k looks of the samples s are done, and have made x of m; r is what is left of s
--    walked_none, walked_next, walked_stop, walked_all    before the first look, a look is done, or declined, and after the last
--    told_apart                     what a block gives, told apart
--    looks_declined, looks_done     a block that is declined before its first look, and one that is not; block_sound: its state is sound
-- Assumes nothing.
use Prim.Native.Nat.{ℕ, suc, ◌+◌, ◌-◌, ◌*◌, ◌<◌, ◌/◌, ◌%◌}
use native.Mathlib.Omega.{arith}
use mathlib.Core.Path.{◌≡◌, refl, sym, ap, ◌∙◌, subst}
use mathlib.Core.Bool.{true, not}
use mathlib.Core.List.{List, [], ◌∷◌, ◌++◌}
use lib.Dec.{eqb}
use lib.ListN.{length, take, drop, length-append}
use lib.Seq.{take-append_seam, drop-append_seam, drop-drop}
use borrow.Author.Tests.{ne_eqb, not-false}
use Rattle.numbers.specs.Numbers.{◌gives◌, number_of, done, not_eight, unsound}
use Rattle.numbers.specs.declared.Refusal.{Refusal}
use Rattle.numbers.specs.Refusals.{number}
use Rattle.numbers.proofs.Laws.{declining, line_false, refused}
use Rattle.judge.specs.Lines.{sample_lines}
use Rattle.state.specs.declared.Module.{Module}
use Rattle.sound.specs.Sound.{sound}
use Rattle.scan.specs.Scan.{looked}
use Rattle.calls.specs.declared.Block.{Block}
use Rattle.calls.specs.Calls.{look_lines, look_number, outcome, look_call}
use Rattle.calls.specs.Blocks.{stopped, one_more, singles, block_lines, looks_call}
use Rattle.calls.proofs.Laws.{sound_then}
use Rattle.calls.proofs.Kept.{Judged, looked_kept}

abbrev pub later : ℕ → Block → Block
later k b = record { after = b.after; done = k + b.done; number = b.number }

abbrev pub ended : Module → ℕ → ℕ → Block
ended m k n = record { after = m; done = k; number = n }

later_first : (b : Block) → b ≡ later 0 b
later_first b = let e : b.done ≡ 0 + b.done = omega arith in λ i. ended b.after (e i) b.number

later_none : (k : ℕ) (m : Module) (n : ℕ) → later k (stopped m n) ≡ ended m k n
later_none k m n = let e : k + 0 ≡ k = omega arith in λ i. ended m (e i) n

later_more : (k : ℕ) (b : Block) → later k (one_more b) ≡ later (k + 1) b
later_more k b = let e : k + (b.done + 1) ≡ k + 1 + b.done = omega arith in λ i. ended b.after (e i) b.number

module _ (t r : List ℕ) (eight : length t ≡ 8) where
  front : take 8 (t ++ r) ≡ t
  front = ap (λ (n : ℕ). take n (t ++ r)) (sym eight) ∙ take-append_seam t r

  behind : drop 8 (t ++ r) ≡ r
  behind = ap (λ (n : ℕ). drop n (t ++ r)) (sym eight) ∙ drop-append_seam t r

  one_left : length (t ++ r) / 8 ≡ suc (length r / 8)
  one_left = omega (arith, length-append t r)

  module _ (m : Module) (ok : sound m ≡ true) where
    -- a sound module's look has its samples' number
    number_is : (look_call m t).number ≡ number_of (sample_lines t)
    unfolding look_call look_number look_lines outcome
    number_is = sound_then m (sample_lines t) ok

    after_is : done ≡ number_of (sample_lines t) → (look_call m t).after ≡ looked m t
    unfolding look_call outcome
    after_is z = rw (number_is ∙ sym z) refl

    next_is : singles (length (t ++ r) / 8) m (t ++ r) ≡ singles (suc (length r / 8)) m (t ++ r)
    next_is = ap (λ (j : ℕ). singles j m (t ++ r)) one_left

    next_done : done ≡ number_of (sample_lines t) → singles (length (t ++ r) / 8) m (t ++ r) ≡ one_more (singles (length r / 8) (looked m t) r)
    unfolding singles
    next_done z = next_is ∙ rw (front, behind, number_is ∙ sym z, after_is z) refl

    next_stops : (r' : Refusal) → number r' ≡ number_of (sample_lines t) → singles (length (t ++ r) / 8) m (t ++ r) ≡ stopped m (number r')
    unfolding singles
    next_stops r' z = next_is ∙ rw (front, number_is ∙ sym z, ne_eqb (number r') 0 (refused r')) refl

no_more : (m : Module) (r : List ℕ) → length r < 8 → singles (length r / 8) m r ≡ stopped m done
unfolding singles
no_more m r h = let e : length r / 8 ≡ 0 = omega arith in rw e refl

-- ---- looks that are left, by how many are done
unfoldable pub left : ℕ → Module → List ℕ → ℕ → Block
left n m s k = later k (singles (n - k) m (drop (8 * k) s))

pub eight : (s : List ℕ) (k : ℕ) → take (8 * k + 8 - 8 * k) (drop (8 * k) s) ≡ take 8 (drop (8 * k) s)
eight s k = let e : 8 * k + 8 - 8 * k ≡ 8 = omega arith in ap (λ (j : ℕ). take j (drop (8 * k) s)) e

pub left_all : (n : ℕ) (m : Module) (s : List ℕ) → singles n m s ≡ left n m s 0
unfolding left
left_all n m s =
    let b = singles n m s in
    let e : 0 + b.done ≡ b.done = omega arith in
    let f : n - 0 ≡ n = omega arith in
    (λ i. ended b.after (sym e i) b.number) ∙ ap (λ (j : ℕ). later 0 (singles j m s)) (sym f)

module _ (m : Module) (t : List ℕ) (j : ℕ) where
  first_done : (look_call m (take 8 t)).number ≡ 0 → singles (suc j) m t ≡ one_more (singles j (look_call m (take 8 t)).after (drop 8 t))
  unfolding singles
  first_done e = rw e

  first_declined : ((look_call m (take 8 t)).number ≡ 0 → ⊥) → singles (suc j) m t ≡ stopped m (look_call m (take 8 t)).number
  unfolding singles
  first_declined h = rw (ne_eqb (look_call m (take 8 t)).number 0 h)

module _ (n : ℕ) (m : Module) (s : List ℕ) (k : ℕ) (h : k < n) where
  some_left : left n m s k ≡ later k (singles (suc (n - (k + 1))) m (drop (8 * k) s))
  unfolding left
  some_left = let f : n - k ≡ suc (n - (k + 1)) = omega arith in ap (λ (j : ℕ). later k (singles j m (drop (8 * k) s))) f

  module _ (t : List ℕ) (e : t ≡ take 8 (drop (8 * k) s)) (ok : sound m ≡ true) where
    -- a sound module's look has its samples' number
    its_number : (look_call m (take 8 (drop (8 * k) s))).number ≡ number_of (sample_lines t)
    unfolding look_call look_number look_lines outcome
    its_number = sound_then m (sample_lines (take 8 (drop (8 * k) s))) ok ∙ ap (λ (u : List ℕ). number_of (sample_lines u)) (sym e)

    its_after : number_of (sample_lines t) ≡ 0 → (look_call m (take 8 (drop (8 * k) s))).after ≡ looked m t
    unfolding look_call outcome
    its_after z = rw (its_number ∙ z) (ap (looked m) (sym e))

    pub left_next : {x : Module} → number_of (sample_lines t) ≡ 0 → x ≡ looked m t → left n m s k ≡ left n x s (k + 1)
    unfolding left
    left_next {x} z on =
        let u = drop (8 * k) s in
        let f : 8 * k + 8 ≡ 8 * (k + 1) = omega arith in
        let g : drop 8 u ≡ drop (8 * (k + 1)) s = drop-drop 8 (8 * k) s ∙ ap (λ (j : ℕ). drop j s) f in
        let a : (look_call m (take 8 u)).after ≡ x = its_after z ∙ sym on in
        some_left ∙ ap (later k) (first_done m u (n - (k + 1)) (its_number ∙ z))
        ∙ later_more k (singles (n - (k + 1)) (look_call m (take 8 u)).after (drop 8 u))
        ∙ (λ i. later (k + 1) (singles (n - (k + 1)) (a i) (g i)))

    pub left_stop : (number_of (sample_lines t) ≡ 0 → ⊥) → left n m s k ≡ ended m k (number_of (sample_lines t))
    left_stop z =
        let u = drop (8 * k) s in
        some_left ∙ ap (later k) (first_declined m u (n - (k + 1)) (λ y. z (sym its_number ∙ y)))
        ∙ later_none k m (look_call m (take 8 u)).number ∙ ap (ended m k) its_number

pub left_none : (n : ℕ) (m : Module) (s : List ℕ) → left n m s n ≡ ended m n 0
unfolding left singles
left_none n m s = let f : n - n ≡ 0 = omega arith in ap (λ (j : ℕ). later n (singles j m (drop (8 * n) s))) f ∙ later_none n m 0

-- ---- along the walk
module _ (m : Module) (s : List ℕ) where
  pub record Walked (x : Module) (k : ℕ) (r : List ℕ) : Type 0 where
    pub kept : Judged x
    pub same : singles (length s / 8) m s ≡ later k (singles (length r / 8) x r)
    pub many : 8 * k + length r ≡ length s

  pub walked_none : (r : List ℕ) → r ≡ s → Judged m → Walked m 0 r
  walked_none r e j =
      record {
        kept = j;
        same = ap (λ (l : List ℕ). singles (length l / 8) m l) (sym e) ∙ later_first (singles (length r / 8) m r);
        many = omega (arith, ap length e);
      }

  module _ (x : Module) (k : ℕ) (r t r' : List ℕ) (w : Walked x k r) (e : r ≡ t ++ r') (eight : length t ≡ 8) where
    pub walked_next : (y : Module) (j : ℕ) → done ≡ number_of (sample_lines t) → y ≡ looked x t → j ≡ k + 1 → Walked y j r'
    walked_next y j z on n =
        record {
          kept = subst Judged (sym on) (looked_kept x t w.kept);
          same =
              w.same ∙ ap (λ (l : List ℕ). later k (singles (length l / 8) x l)) e ∙ ap (later k) (next_done t r' eight x w.kept.ok z)
              ∙ later_more k (singles (length r' / 8) (looked x t) r')
              ∙ (λ i. later (sym n i) (singles (length r' / 8) (sym on i) r'));
          many = let h = w.many in omega (arith, ap length e, length-append t r');
        }

    pub walked_stop : (q : Refusal) → number q ≡ number_of (sample_lines t) → ended x k (number q) ≡ singles (length s / 8) m s
    walked_stop q z =
        sym (w.same ∙ ap (λ (l : List ℕ). later k (singles (length l / 8) x l)) e ∙ ap (later k) (next_stops t r' eight x w.kept.ok q z) ∙ later_none k x (number q))

  pub walked_all : (x : Module) (k : ℕ) (r : List ℕ) → Walked x k r → length r < 8 → ended x (length s / 8) done ≡ singles (length s / 8) m s
  walked_all x k r w h =
      let h' = w.many in
      let e : k ≡ length s / 8 = omega arith in
      sym (w.same ∙ ap (later k) (no_more x r h) ∙ later_none k x done ∙ ap (λ (j : ℕ). ended x j done) e)

-- what a block gives, told apart
pub told_apart : {x : Module} {k j n : ℕ} (b : Block) → j ≡ k → ended x k n ≡ b → (n ≡ b.number) × (j ≡ b.done) × (x ≡ b.after)
told_apart b e h = (ap (λ (b : Block). b.number) h, e ∙ ap (λ (b : Block). b.done) h, ap (λ (b : Block). b.after) h)

module _ (m : Module) (s : List ℕ) where
  pub looks_declined : (r : Refusal) → number r ≡ number_of (block_lines m s) → ended m 0 (number r) ≡ looks_call m s
  unfolding looks_call
  looks_declined r e = rw (sym e, ne_eqb (number r) 0 (refused r)) refl

  pub looks_done : done ≡ number_of (block_lines m s) → singles (length s / 8) m s ≡ looks_call m s
  unfolding looks_call
  looks_done e = rw (sym e) refl

  -- the state is sound then
  pub block_sound : done ≡ number_of (block_lines m s) → sound m ≡ true
  unfolding block_lines declining
  block_sound e = not-false (sound m) (line_false [] (not (sound m)) unsound (not (eqb (length s % 8) 0) gives not_eight ∷ []) refl (sym e))
