-- The steps of a wire, by cases.
--
--    takes_cases    a byte comes: the address, that of a declined write, one to be written, or one that nothing waits for
--    gives_cases    a byte is asked for: there is one, or there is none
-- Assumes nothing.
use Prim.Native.Nat.{ℕ, ◌<◌}
use mathlib.Core.Path.{◌≡◌}
use mathlib.Core.Bool.{true, false, cond, ◌&&◌}
use lib.Dec.{eqb, ltb}
use lib.ListN.{get_or}
use borrow.Author.Tests.{eqb-true, eqb-false, ltb-true}
use Rattle.words.proofs.Laws.{and_left, and_right}
use Rattle.words.proofs.Lists.{by_test}
use Rattle.wire.specs.declared.Wire.{Wire}
use Rattle.wire.specs.Wire.{Handed, Kept, kept, named, one_more, take_byte, one_given, has_more, next_byte}

module _ (w : Wire) where
  pub takes_cases : (P : Wire → Type 0) (x : ℕ)
      → (w.doing ≡ 1 → P (named w x 2))
      → (w.doing ≡ 4 → P (named w x 0))
      → (w.doing ≡ 2 → w.count < 33 → P (one_more w x))
      → ((w.doing ≡ 1 → ⊥) → (w.doing ≡ 4 → ⊥) → P w)
      → P (take_byte w x).wire
  unfolding take_byte
  takes_cases P x names refused more else =
      let d = w.doing in
      let last : Kept = cond (eqb d 2 && ltb w.count 33) (kept (one_more w x) true) (kept w false) in
      by_test (λ t. P (cond t (kept (named w x 2) true) (cond (eqb d 4) (kept (named w x 0) false) last)).wire) (eqb d 1)
      (λ e. names (eqb-true d 1 e))
      (λ e. by_test (λ t. P (cond t (kept (named w x 0) false) last).wire) (eqb d 4)
      (λ f. refused (eqb-true d 4 f))
      (λ f. by_test (λ t. P (cond t (kept (one_more w x) true) (kept w false)).wire) (eqb d 2 && ltb w.count 33)
      (λ g. more (eqb-true d 2 (and_left (eqb d 2) (ltb w.count 33) g)) (ltb-true w.count 33 (and_right (eqb d 2) (ltb w.count 33) g)))
      (λ _. else (eqb-false d 1 e) (eqb-false d 4 f))))

  -- there is one to give
  some_left : has_more w ≡ true → (w.doing ≡ 3) × ((w.given < w.count) × (w.given < 33))
  unfolding has_more
  some_left e =
      let is = eqb w.doing 3 in
      let less = ltb w.given w.count in
      let room = ltb w.given 33 in
      let f = and_right is (less && room) e in
      (eqb-true w.doing 3 (and_left is (less && room) e), (ltb-true w.given w.count (and_left less room f), ltb-true w.given 33 (and_right less room f)))

  pub gives_cases : (P : Wire → ℕ → Type 0)
      → (w.doing ≡ 3 → w.given < w.count → w.given < 33 → P (one_given w) (get_or w.bytes w.given 0))
      → (has_more w ≡ false → P w 0xFF)
      → P (next_byte w).wire (next_byte w).byte
  unfolding next_byte
  gives_cases P some none =
      let one : Handed = record { wire = one_given w; byte = get_or w.bytes w.given 0 } in
      let silent : Handed = record { wire = w; byte = 0xFF } in
      by_test (λ t. P (cond t one silent).wire (cond t one silent).byte) (has_more w)
      (λ e. let f = some_left e in some f.0 f.1.0 f.1.1) none
