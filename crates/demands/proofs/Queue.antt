-- Laws of the queue's places, for the list of codes that wait.
--
--    places_put, places_shift    a code is put behind those that wait, and the oldest is taken out
--    waiting_places              the codes that wait are read back from the places
--    came l r                    the queue once the codes l came, one after the other, r being RELINT before
--    came_few, came_over         if they are at most 15, all of them wait; one that comes when 15 wait sets RELINT
--    put_came, put_all_came       one code more comes, and several
-- Assumes nothing.
use Prim.Native.Nat.{ℕ, zero, suc, ◌+◌, ◌-◌, ◌≤◌, ◌<◌}
use native.Mathlib.Decide.{dec_lt}
use native.Mathlib.Omega.{arith}
use mathlib.Core.Path.{◌≡◌, refl, sym, ap, ◌∙◌}
use mathlib.Core.Bool.{Bool, true, ◌||◌, or-true, or-false}
use mathlib.Core.List.{List, [], ◌∷◌, ◌++◌, append_assoc, append-nil}
use borrow.Author.Tests.{lt-ltb, le-ltb}
use lib.Dec.{ltb}
use lib.ListN.{length, set, take, replicate, length-append}
use lib.Seq.{set-append_seam, append_snoc, take_all, take-append-le, take-append_seam, length-take-le}
use Rattle.state.specs.Module.{Queue, queue}
use Rattle.state.specs.Queue.{waiting, put, put_all, shifted}
use Rattle.state.proofs.Laws.{put_room, put_full}
use Rattle.demands.specs.Shown.{places}

length_snoc : (l : List ℕ) (c : ℕ) → length (l ++ (c ∷ [])) ≡ length l + 1
length_snoc l c = length-append l (c ∷ [])

places_put : (l : List ℕ) (c : ℕ) → length l < 15 → set (places l) (length l) c ≡ places (l ++ (c ∷ []))
unfolding places
places_put l c h =
    let e : 15 - length l ≡ suc (14 - length l) = omega arith in
    let f : 15 - (length l + 1) ≡ 14 - length l = omega arith in
    rw (length_snoc l c, f, e, set-append_seam l 0x7F _ c, append_snoc l c _)

replicate_snoc : (n x : ℕ) → replicate n x ++ (x ∷ []) ≡ x ∷ replicate n x
replicate_snoc zero x = refl
replicate_snoc (suc n) x = ap (λ (l : List ℕ). x ∷ l) (replicate_snoc n x)

pub places_shift : (c : ℕ) (l : List ℕ) → length l < 15 → shifted (places (c ∷ l)) ≡ places l
unfolding places shifted
places_shift c l h =
    let e : 15 - suc (length l) ≡ 14 - length l = omega arith in
    let f : 15 - length l ≡ suc (14 - length l) = omega arith in
    rw (e, f, append_assoc l (replicate (14 - length l) 0x7F) (0x7F ∷ []), replicate_snoc (14 - length l) 0x7F)

pub waiting_places : (l : List ℕ) (r : Bool) → waiting (queue (places l) (length l) r) ≡ l
unfolding waiting places
waiting_places l r = take-append_seam l (replicate (15 - length l) 0x7F)

-- the first 15 wait, and a code beyond them sets RELINT
unfoldable pub came : List ℕ → Bool → Queue
came l r = queue (places (take 15 l)) (length (take 15 l)) (r || ltb 15 (length l))

pub came_few : (l : List ℕ) (r : Bool) → length l ≤ 15 → came l r ≡ queue (places l) (length l) r
unfolding came
came_few l r h = rw (take_all 15 l h, le-ltb 15 (length l) h, or-false r)

came_over : (l : List ℕ) (c : ℕ) (r : Bool) → 15 ≤ length l → came (l ++ (c ∷ [])) r ≡ queue (places (take 15 l)) (length (take 15 l)) true
unfolding came
came_over l c r h = rw (take-append-le 15 l (c ∷ []) h, length_snoc l c, lt-ltb 15 (length l + 1) (omega arith), or-true r)

put_came : (l : List ℕ) (c : ℕ) (r : Bool) → put (came l r) c ≡ came (l ++ (c ∷ [])) r
unfolding came
put_came l c r = go (dec_lt (length l) 15)
  where
    go : Dec (length l < 15) → put (came l r) c ≡ came (l ++ (c ∷ [])) r
    go (yes h) =
        ap (λ (q : Queue). put q c) (came_few l r (omega arith))
        ∙ put_room (places l) (length l) r c h
        ∙ rw (places_put l c h, ← length_snoc l c) (sym (came_few (l ++ (c ∷ [])) r (rw (length_snoc l c) (omega arith))))
    go (no h) =
        put_full (places (take 15 l)) (length (take 15 l)) (r || ltb 15 (length l)) c (rw (length-take-le 15 l (omega (arith, h))) (omega arith))
        ∙ sym (came_over l c r (omega (arith, h)))

pub put_all_came : (l cs : List ℕ) (r : Bool) → put_all (came l r) cs ≡ came (l ++ cs) r
unfolding put_all
put_all_came l [] r = ap (λ (k : List ℕ). came k r) (sym (append-nil l))
put_all_came l (c ∷ cs) r =
    ap (λ (q : Queue). put_all q cs) (put_came l c r)
    ∙ put_all_came (l ++ (c ∷ [])) cs r
    ∙ ap (λ (k : List ℕ). came k r) (append_snoc l c cs)
