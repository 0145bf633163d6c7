-- Laws of the player.
--
--    lowered values i                        the first i of 32 numbers as bytes, then 0
--    lowered_none, lowered_next, lowered_all none of them; one more; all
--    look_count, write_count, read_count     a call that fits has at most 32 samples or bytes
--    step_look, step_write, ..               the step of each kind, as the call gives it
--    carried_told, told_fits                 the numbers of what is told tell it, and fit
--    play_on m o                              the module m after the calls o, if there are any to be had
--    play_front, play_end, play_more         playing from the front, at the end, and on behind a record
--    next_there                              in a list the next record is all there
--    play_over, play_next                    at the end all is played; playing on from the next boundary
--    play_done, play_declined                what the player hands back, by the check's number
--    played, not_played                      the state that the calls of a list give, one after the other; 20 for what is no list
-- Assumes nothing.
use Prim.Native.Nat.{ℕ, zero, suc, ◌+◌, ◌-◌, ◌%◌, ◌≤◌, ◌<◌}
use native.Mathlib.Nat.{sub-zero}
use native.Mathlib.Omega.{arith}
use mathlib.Core.Path.{◌≡◌, refl, sym, ap, ◌∙◌}
use mathlib.Core.Bool.{Bool, true, false, ◌&&◌}
use mathlib.Core.List.{List, [], ◌∷◌, map}
use mathlib.Core.Option.{Option, none, some}
use borrow.Author.Tests.{leb-true, eqb-true}
use lib.Dec.{eqb, leb}
use lib.ListN.{length, take, get_or, set, replicate, get_or-map}
use lib.Seq.{length-take-le}
use Rattle.words.specs.Words.{all}
use Rattle.words.proofs.Laws.{true_false, and_left, and_right}
use Rattle.words.proofs.Lists.{by_test}
use Rattle.words.proofs.Tables.{by_table, replaced, replaced_none, replaced_all, replaced_next}
use Rattle.numbers.specs.Refusals.{number}
use Rattle.numbers.specs.declared.Refusal.{Refusal}
use Rattle.numbers.proofs.Laws.{refused}
use Rattle.bits.specs.Bits.{below, spelled, bits_from}
use Rattle.bits.proofs.Laid.{from_front, from_more}
use Rattle.state.specs.declared.Module.{Module}
use Rattle.state.specs.Module.{fresh}
use Rattle.calls.specs.declared.Done.{Done}
use Rattle.calls.specs.Calls.{reset_call, look_call, write_call, read_call}
use Rattle.carry.specs.declared.call.Call.{Call}
use Rattle.carry.specs.declared.call.Place.{Place}
use Rattle.carry.specs.Places.{bits_to}
use Rattle.carry.specs.Carried.{Carried, count_fits, fits, size, told, ended, before, calls_of, unpack}
use Rattle.carry.specs.Calls.{firsts, low, carried, call_of}
use Rattle.carry.specs.Next.{Whole}
use Rattle.carry.specs.Reader.{is_list, check_number}
use Rattle.carry.specs.Player.{stepped, played_from, played_as, play_call}
use Rattle.carry.proofs.Laws.{boundary_read, fits_told}
use Rattle.carry.proofs.Lists.{firsts_length, firsts_take, is_look, is_write, is_read, is_reset, carried_fits}
use Rattle.carry.proofs.Reading.{list_cut, check_cut, check_list, check_exactly, whole_room, Boundary}

pub map_length : (f : ℕ → ℕ) (xs : List ℕ) → length (map f xs) ≡ length xs
map_length f [] = refl
map_length f (x ∷ xs) = ap suc (map_length f xs)

-- the first i of 32 numbers as bytes, then 0
unfoldable pub lowered : List ℕ → ℕ → List ℕ
lowered values i = replaced (λ k. low (get_or values k 0)) i (replicate 32 0)

module _ (values : List ℕ) where
  pub lowered_none : replicate 32 0 ≡ lowered values 0
  unfolding lowered
  lowered_none = sym (replaced_none (λ k. low (get_or values k 0)) (replicate 32 0))

  pub lowered_next : {out : List ℕ} {i : ℕ} → i < 32 → out ≡ lowered values i → set out i (get_or values i 0 % 256) ≡ lowered values (i + 1)
  unfolding lowered low
  lowered_next {i = i} h e = rw e (replaced_next (λ k. low (get_or values k 0)) (replicate 32 0) i h)

  pub lowered_all : length values ≡ 32 → lowered values 32 ≡ map low values
  unfolding lowered low
  lowered_all n =
      let f : ℕ → ℕ = λ k. low (get_or values k 0) in
      replaced_all f (replicate 32 0) 32 refl ∙ by_table 0 f 32 (map low values) (map_length low values ∙ n) (λ k h. sym (get_or-map low values k 0))

map_take : (f : ℕ → ℕ) (n : ℕ) (xs : List ℕ) → map f (take n xs) ≡ take n (map f xs)
map_take f zero xs = refl
map_take f (suc n) [] = refl
map_take f (suc n) (x ∷ xs) = ap (λ (l : List ℕ). f x ∷ l) (map_take f n xs)

fits_most : (n : ℕ) → count_fits n ≡ true → n ≤ 32
unfolding count_fits
fits_most n h = leb-true n 32 (and_right (leb 1 n) (leb n 32) h)

-- a call as numbers
module _ (c : Call) where
  module _ (h : fits (carried c) ≡ true) where
    pub look_count : c.kind % 4 ≡ 0 → c.count ≤ 32
    unfolding fits
    look_count e =
        let s = firsts c.count c.values in
        let f = rw (is_look c e) at h in
        let n = eqb-true (length s) 8 (and_left (eqb (length s) 8) (all (below 13) s) f) in
        omega (arith, firsts_length c.count c.values)

    pub write_count : c.kind % 4 ≡ 1 → c.count ≤ 32
    unfolding fits
    write_count e =
        let bs = map low (firsts c.count c.values) in
        let a = low c.first in
        let f = rw (is_write c e) at h in
        let n = and_right (below 8 a) (count_fits (length bs)) (and_left (below 8 a && count_fits (length bs)) (all (below 8) bs) f) in
        omega (arith, fits_most (length bs) n, map_length low (firsts c.count c.values) ∙ firsts_length c.count c.values)

    pub read_count : c.kind % 4 ≡ 2 → c.count ≤ 32
    unfolding fits
    read_count e =
        let f = rw (is_read c e) at h in
        fits_most c.count (and_right (below 8 (low c.first)) (count_fits c.count) f)

-- the step of each kind, as the calls give it
module _ (m : Module) (c : Call) where
  pub step_look : {after : Module} {n : ℕ} → c.kind % 4 ≡ 0 → c.count ≤ length c.values → n ≡ c.count
      → after ≡ (look_call m (take (n - 0) c.values)).after → after ≡ stepped m (carried c)
  unfolding stepped
  step_look e h f g = rw (is_look c e, firsts_take c.count c.values h) (rw (f, sub-zero c.count) at g)

  pub step_write : {after : Module} {n : ℕ} {bytes : List ℕ} → c.kind % 4 ≡ 1 → c.count ≤ length c.values → n ≡ c.count → bytes ≡ map low c.values
      → after ≡ (write_call m (c.first % 256) (take (n - 0) bytes)).after → after ≡ stepped m (carried c)
  unfolding stepped low
  step_write e h f b g = rw (is_write c e, firsts_take c.count c.values h, map_take low c.count c.values, ← b) (rw (f, sub-zero c.count) at g)

  pub step_read : {after : Module} {n : ℕ} → c.kind % 4 ≡ 2 → c.count ≤ 32 → n ≡ c.count
      → after ≡ (read_call m (c.first % 256) (length {A = ℕ} (take (n - 0) (replicate 32 0)))).after → after ≡ stepped m (carried c)
  unfolding stepped low
  step_read e h f g =
      let n = length-take-le {A = ℕ} c.count (replicate 32 0) h in
      rw (is_read c e) (rw (f, sub-zero c.count, n) at g)

  pub step_reset : {d : Done} → c.kind % 4 ≡ 3 → d ≡ reset_call → d.after ≡ stepped m (carried c)
  unfolding stepped
  step_reset k g = rw (is_reset c k) (ap (λ (d : Done). d.after) g)

-- the numbers of what is told tell it
pub carried_told : (bits : List Bool) → carried (call_of (told bits)) ≡ told bits
carried_told bits = carried_fits (told bits) (fits_told bits)

-- the module m after calls, if there are any to be had
unfoldable pub play_on : Module → Option (List Carried) → Module
play_on m none = fresh
play_on m (some cs) = played_from m cs

play_before : (m : Module) (c : Carried) (o : Option (List Carried)) → play_on m (before c o) ≡ play_on (stepped m c) o
unfolding play_on before played_from
play_before m c none = refl
play_before m c (some cs) = refl

fresh_played : (o : Option (List Carried)) → play_on fresh o ≡ (played_as o).after
unfolding play_on played_as
fresh_played none = refl
fresh_played (some cs) = refl

module _ (bytes : List ℕ) where
  pub play_front : (m : Module) → m ≡ fresh → play_on m (calls_of (bits_from bytes 0)) ≡ (played_as (unpack bytes)).after
  unfolding unpack
  play_front m e = rw (e, from_front bytes) (fresh_played (calls_of (spelled 8 bytes)))

  pub play_end : (m : Module) (p : ℕ) → ended (bits_from bytes p) ≡ true → play_on m (calls_of (bits_from bytes p)) ≡ m
  unfolding play_on played_from
  play_end m p e = rw (boundary_read (bits_from bytes p), e)

  pub play_more : (m : Module) (p s : ℕ) → Whole (bits_from bytes p) s
      → play_on m (calls_of (bits_from bytes p)) ≡ play_on (stepped m (told (bits_from bytes p))) (calls_of (bits_from bytes (p + s)))
  play_more m p s next =
      rw (boundary_read (bits_from bytes p), next.more, whole_room next, ← next.long, from_more bytes p s)
      (play_before m (told (bits_from bytes p)) (calls_of (bits_from bytes (p + s))))

-- in a list the next record is all there
next_whole : (bytes : List ℕ) (p s : ℕ) → is_list (calls_of (bits_from bytes p)) ≡ true → ended (bits_from bytes p) ≡ false
    → (s ≡ size (told (bits_from bytes p))) × (2 ≤ s) × (s ≤ 271) → Whole (bits_from bytes p) s
next_whole bytes p s h e n =
    let bits = bits_from bytes p in
    let whole =
    by_test (λ b. b ≡ true) (leb (size (told bits)) (length bits)) (λ l. refl) (λ l. true_false (sym h ∙ list_cut bits e l)) in
    record { more = e; long = n.0; room = rw (← n.0) at (leb-true (size (told bits)) (length bits) whole); least = n.1; most = n.2 }

module _ {bytes : List ℕ} {place : Place} (at : Boundary bytes place) {here : List Bool} (same : here ≡ bits_from bytes (bits_to place)) where
  -- what is_end and size answer in a list
  pub next_there : {e : Bool} {s : ℕ} → is_list (unpack bytes) ≡ true → e ≡ ended here → e ≡ false → (s ≡ size (told here)) × (2 ≤ s) × (s ≤ 271)
      → Whole (bits_from bytes (bits_to place)) s
  next_there {s = s} h told_end going long =
      next_whole bytes (bits_to place) s (at.list ∙ h) (sym (told_end ∙ ap ended same) ∙ going) (rw same at long)

  pub play_over : {e : Bool} (m : Module) {all : Module} → e ≡ ended here → e ≡ true → play_on m (calls_of (bits_from bytes (bits_to place))) ≡ all → m ≡ all
  play_over m told_end over h = sym (play_end bytes m (bits_to place) (sym (told_end ∙ ap ended same) ∙ over)) ∙ h

  -- what told and step answer
  pub play_next : {s : ℕ} (behind : Place) {c : Call} {n all : Module} (m : Module) → Whole (bits_from bytes (bits_to place)) s → bits_to behind ≡ bits_to place + s
      → c ≡ call_of (told here) → n ≡ stepped m (carried c) → play_on m (calls_of (bits_from bytes (bits_to place))) ≡ all
      → play_on n (calls_of (bits_from bytes (bits_to behind))) ≡ all
  play_next {s} behind {c = c} m next there f g h =
      let e : carried c ≡ told here = ap carried f ∙ carried_told here in
      rw (there, g, e, same) (sym (play_more bytes m (bits_to place) s next) ∙ h)

pub told_fits : {c : Call} (bits : List Bool) → c ≡ call_of (told bits) → fits (carried c) ≡ true
told_fits bits e = rw (e, carried_told bits) (fits_told bits)

-- what the player hands back
done_played : (o : Option (List Carried)) (x : Module) → is_list o ≡ true → x ≡ (played_as o).after → record { after = x; number = 0 } ≡ played_as o
unfolding is_list played_as
done_played none x h e = true_false (sym h)
done_played (some cs) x h e = rw e

none_played : (o : Option (List Carried)) → is_list o ≡ false → record { after = fresh; number = 20 } ≡ played_as o
unfolding is_list played_as
none_played none h = refl
none_played (some cs) h = true_false h

module _ (bytes : List ℕ) where
  pub play_done : {x : Module} → check_number bytes ≡ 0 → x ≡ (played_as (unpack bytes)).after → record { after = x; number = 0 } ≡ play_call bytes
  unfolding play_call
  play_done {x} e g = done_played (unpack bytes) x (check_list bytes e) g

  pub play_declined : {x : Module} (r : Refusal) → number r ≡ check_number bytes → x ≡ fresh → record { after = x; number = number r } ≡ play_call bytes
  unfolding play_call
  play_declined {x} r e g = go (is_list (unpack bytes)) refl
    where
      go : (b : Bool) → is_list (unpack bytes) ≡ b → record { after = x; number = number r } ≡ played_as (unpack bytes)
      go true h = absurd (refused r (e ∙ (check_exactly bytes).1 h))
      go false h = rw (g, e, check_cut bytes h) (none_played (unpack bytes) h)

-- "a player that runs a list from a fresh reset and ends in the state the single calls give"
pub played : (bytes : List ℕ) (cs : List Carried) → unpack bytes ≡ some cs → play_call bytes ≡ record { after = played_from fresh cs; number = 0 }
unfolding play_call played_as
played bytes cs h = rw h

-- "20 .. checked before any call is played"
pub not_played : (bytes : List ℕ) → unpack bytes ≡ none → play_call bytes ≡ record { after = fresh; number = 20 }
unfolding play_call played_as
not_played bytes h = rw h
