-- Which calls a list can hold: those that none of 1 to 4 declines.
--
--    typed c          the call's numbers are of their types: samples of 16 bits, an address and bytes of 8
--    fits_passes      a call that fits is passed by its lines
--    unfit_declined   a call that is typed and doesn't fit is declined by one
--    list_passes      calls that fit are all passed
--    writer_done      and are written if there is room
-- Assumes nothing.
use Prim.Native.Nat.{ℕ, zero, suc, ◌≤◌, ◌<◌}
use native.Mathlib.Omega.{arith}
use mathlib.Core.Path.{◌≡◌, refl, sym, ap, ◌∙◌}
use mathlib.Core.Bool.{Bool, true, false, not, ◌&&◌}
use mathlib.Core.List.{List, [], ◌∷◌}
use borrow.Author.Tests.{ltb-true, ltb-false, le-ltb, lt-ltb, le-leb, leb-true, leb-false, ne_eqb}
use lib.Dec.{eqb, leb, ltb}
use lib.ListN.{length}
use Rattle.words.specs.Words.{all}
use Rattle.words.proofs.Laws.{true_false, and_left, and_right, and_both, all_first, all_rest}
use Rattle.numbers.specs.Numbers.{Line, ◌gives◌, number_of, done, not_eight, high_bits, no_bytes, too_many, no_room}
use Rattle.numbers.proofs.Laws.{line_yes, line_no, lines_end, rest_decides}
use Rattle.judge.specs.Lines.{high, sample_lines}
use Rattle.judge.proofs.Laws.{high_no, high_yes}
use Rattle.bits.specs.Bits.{below}
use Rattle.carry.specs.Carried.{Carried, look, write, read, reset, count_fits, fits, packing}
use Rattle.carry.specs.Writer.{count_lines, own_lines, list_lines, writer_lines}
use Rattle.carry.proofs.Records.{own_declines}
use Rattle.carry.proofs.Writing.{list_declines}

unfoldable pub typed : Carried → Bool
typed (look samples) = all (below 16) samples
typed (write a bytes) = below 8 a && all (below 8) bytes
typed (read a n) = below 8 a
typed reset = true

-- ---- samples

low_sample : (x : ℕ) → below 13 x ≡ true → not (high x) ≡ true
unfolding below
low_sample x h = high_no x (ltb-true x 8192 h)

low_samples : (s : List ℕ) → all (below 13) s ≡ true → all (λ x. not (high x)) s ≡ true
unfolding all
low_samples [] h = refl
low_samples (x ∷ s) h = and_both (not (high x)) (all (λ x. not (high x)) s) (low_sample x (all_first (below 13) x s h)) (low_samples s (all_rest (below 13) x s h))

narrow : (x : ℕ) → below 16 x ≡ true → not (high x) ≡ true → below 13 x ≡ true
unfolding below
narrow x h g = go (ltb x 8192) refl
  where
    go : (b : Bool) → ltb x 8192 ≡ b → ltb x 8192 ≡ true
    go true e = e
    go false e = true_false (sym g ∙ high_yes x (ltb-false x 8192 e) (ltb-true x 65536 h))

narrow_all : (s : List ℕ) → all (below 16) s ≡ true → all (λ x. not (high x)) s ≡ true → all (below 13) s ≡ true
unfolding all
narrow_all [] h g = refl
narrow_all (x ∷ s) h g =
    let f : ℕ → Bool = λ x. not (high x) in
    and_both (below 13 x) (all (below 13) s) (narrow x (all_first (below 16) x s h) (all_first f x s g)) (narrow_all s (all_rest (below 16) x s h) (all_rest f x s g))

-- ---- one call

-- an access of n bytes
count_passes : (n : ℕ) → count_fits n ≡ true → number_of (count_lines n) ≡ done
unfolding count_fits count_lines
count_passes n h =
    let l = leb-true 1 n (and_left (leb 1 n) (leb n 32) h) in
    let g = leb-true n 32 (and_right (leb 1 n) (leb n 32) h) in
    line_no (eqb n 0) no_bytes (ltb 32 n gives too_many ∷ []) (ne_eqb n 0 (λ e. omega arith)) ∙ line_no (ltb 32 n) too_many [] (le-ltb 32 n g) ∙ lines_end

count_declined : (n : ℕ) → count_fits n ≡ false → number_of (count_lines n) ≡ done → ⊥
unfolding count_fits count_lines
count_declined zero h e = let z : ◌≡◌ {A = ℕ} 3 0 = sym (line_yes (eqb 0 0) no_bytes (ltb 32 0 gives too_many ∷ []) refl) ∙ e in omega arith
count_declined (suc n) h e = go (leb (suc n) 32) refl
  where
    go : (b : Bool) → leb (suc n) 32 ≡ b → ⊥
    go true g = true_false (sym (and_both (leb 1 (suc n)) (leb (suc n) 32) (le-leb 1 (suc n) (omega arith)) g) ∙ h)
    go false g =
        let l : 32 < suc n = leb-false (suc n) 32 g in
        let z : ◌≡◌ {A = ℕ} 4 0 =
        sym (line_no (eqb (suc n) 0) no_bytes (ltb 32 (suc n) gives too_many ∷ []) (ne_eqb (suc n) 0 (λ e. omega arith)) ∙ line_yes (ltb 32 (suc n)) too_many [] (lt-ltb 32 (suc n) l)) ∙ e in
        omega arith

look_declined : (s : List ℕ) → all (below 16) s ≡ true → (eqb (length s) 8 && all (below 13) s) ≡ false → number_of (sample_lines s) ≡ done → ⊥
unfolding sample_lines
look_declined s t h e = go (eqb (length s) 8) (all (λ x. not (high x)) s) refl refl
  where
    second : List Line
    second = not (all (λ x. not (high x)) s) gives high_bits ∷ []

    go : (a b : Bool) → eqb (length s) 8 ≡ a → all (λ x. not (high x)) s ≡ b → ⊥
    go false b p q = let z : ◌≡◌ {A = ℕ} 1 0 = sym (line_yes (not (eqb (length s) 8)) not_eight second (ap not p)) ∙ e in omega arith
    go true false p q =
        let z : ◌≡◌ {A = ℕ} 2 0 =
        sym (line_no (not (eqb (length s) 8)) not_eight second (ap not p) ∙ line_yes (not (all (λ x. not (high x)) s)) high_bits [] (ap not q)) ∙ e in
        omega arith
    go true true p q = true_false (sym (and_both (eqb (length s) 8) (all (below 13) s) p (narrow_all s t q)) ∙ h)

pub fits_passes : (c : Carried) → fits c ≡ true → number_of (own_lines c) ≡ done
unfolding fits own_lines sample_lines
fits_passes (look s) h =
    let n = and_left (eqb (length s) 8) (all (below 13) s) h in
    let l = low_samples s (and_right (eqb (length s) 8) (all (below 13) s) h) in
    line_no (not (eqb (length s) 8)) not_eight (not (all (λ x. not (high x)) s) gives high_bits ∷ []) (ap not n) ∙ line_no (not (all (λ x. not (high x)) s)) high_bits [] (ap not l) ∙ lines_end
fits_passes (write a bs) h =
    count_passes (length bs) (and_right (below 8 a) (count_fits (length bs)) (and_left (below 8 a && count_fits (length bs)) (all (below 8) bs) h))
fits_passes (read a n) h = count_passes n (and_right (below 8 a) (count_fits n) h)
fits_passes reset h = lines_end

pub unfit_declined : (c : Carried) → typed c ≡ true → fits c ≡ false → number_of (own_lines c) ≡ done → ⊥
unfolding fits own_lines typed
unfit_declined (look s) t h e = look_declined s t h e
unfit_declined (write a bs) t h e =
    let p = and_left (below 8 a) (all (below 8) bs) t in
    let q = and_right (below 8 a) (all (below 8) bs) t in
    count_declined (length bs) (unfit_count (below 8 a) (count_fits (length bs)) (all (below 8) bs) p q h) e
  where
    unfit_count : (a b c : Bool) → a ≡ true → c ≡ true → (a && b && c) ≡ false → b ≡ false
    unfit_count a true c p q h = true_false (sym (rw (p, q) refl) ∙ h)
    unfit_count a false c p q h = refl
unfit_declined (read a n) t h e = count_declined n (rw t at h) e
unfit_declined reset t h e = true_false h

-- ---- a list

pub list_passes : (cs : List Carried) → all fits cs ≡ true → number_of (list_lines cs) ≡ done
unfolding list_lines
list_passes [] h = lines_end
list_passes (c ∷ cs) h = rest_decides (own_lines c) (list_lines cs) (own_declines c) (fits_passes c (all_first fits c cs h)) ∙ list_passes cs (all_rest fits c cs h)

pub writer_done : (cs : List Carried) (room : ℕ) → all fits cs ≡ true → length (packing cs) ≤ room → number_of (writer_lines cs room) ≡ done
unfolding writer_lines
writer_done cs room h l =
    rest_decides (list_lines cs) (ltb room (length (packing cs)) gives no_room ∷ []) (list_declines cs) (list_passes cs h)
    ∙ line_no (ltb room (length (packing cs))) no_room [] (le-ltb room (length (packing cs)) l) ∙ lines_end
