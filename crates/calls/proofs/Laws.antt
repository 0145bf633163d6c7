-- What a call tells and leaves, as its returns meet it.
--
--    unsound_first, sound_then        the first line of every call but reset: it isn't passed, or it is; unsound_access: it isn't, of an access
--    asleep_first, awake_then         the second line of every access
--    state_err, state_ok              a call is declined by its first line, by what was told of that; else its own lines decide
--    state_sound                      the state is sound then
--    access_err, access_ok            an access is declined by its first two
--    slept_unsound, slept_woken, slept_awake    what these do to the module
--    still_awake                      they leave it as it is, if they don't decline
--    woke n                           the state that a call hands back is awake
--    read_awake, write_awake          an access's own lines don't give 27
--    outcome_done, outcome_declined   a call that is done, and one that is declined
--    accessed_done, accessed_asleep, accessed_declined    an access that is done, one of a panel that sleeps, and one that is declined otherwise
--    answer_done, answer_declined     the same of a question
--    drive_done, drive_declined       the question what is driven
--    access_slept, access_declined, access_done    an access that is declined by its first two lines, or by its own, and one that is done
--    buffer_done, buffer_declined     the buffer after a read
-- Assumes nothing.
use Prim.Native.Nat.{ℕ}
use mathlib.Core.Path.{◌≡◌, refl, sym, ap, ◌∙◌}
use mathlib.Core.Bool.{Bool, true, false, not}
use mathlib.Core.List.{List, [], ◌∷◌}
use lib.ListN.{length}
use lib.Dec.{eqb}
use borrow.Author.Tests.{ne_eqb, not-false}
use Rattle.std.specs.Prelude.{Ok, Err}
use Rattle.words.specs.Words.{◌if◌, ◌else◌}
use Rattle.words.proofs.Lists.{by_test}
use Rattle.numbers.specs.Numbers.{Line, ◌gives◌, number_of, done, unsound, sleeping}
use Rattle.numbers.specs.declared.Refusal.{Refusal}
use Rattle.numbers.specs.Refusals.{number}
use Rattle.numbers.proofs.Laws.{line_yes, line_no, lines_end, declining, lacks, never_given, line_false, refused, err_first, ok_rest}
use Rattle.pins.specs.Pins.{driven, levels}
use Rattle.judge.specs.Lines.{access_lines, read_lines, write_lines}
use Rattle.state.specs.declared.Module.{Module}
use Rattle.state.specs.Module.{woken}
use Rattle.sound.specs.Sound.{sound}
use Rattle.access.specs.Accesses.{bytes_read}
use Rattle.calls.specs.declared.Done.{Done}
use Rattle.calls.specs.Lent.{Lent, Asked, Told}
use Rattle.calls.specs.Calls.{access_number, read_number, interrupt_number, outcome, accessed, answer, read_buffer, drive_of}

module _ (m : Module) (l : List Line) where
  pub unsound_first : sound m ≡ false → number_of (not (sound m) gives unsound ∷ l) ≡ unsound
  unsound_first e = line_yes (not (sound m)) unsound l (ap not e)

  pub sound_then : sound m ≡ true → number_of (not (sound m) gives unsound ∷ l) ≡ number_of l
  sound_then e = line_no (not (sound m)) unsound l (ap not e)

  pub unsound_access : sound m ≡ false → access_number m l ≡ unsound
  unfolding access_number
  unsound_access e = line_yes (not (sound m)) unsound _ (ap not e)

  pub asleep_first : sound m ≡ true → m.asleep ≡ true → access_number m l ≡ sleeping
  unfolding access_number
  asleep_first e z = line_no (not (sound m)) unsound _ (ap not e) ∙ line_yes m.asleep sleeping l z

  pub awake_then : sound m ≡ true → m.asleep ≡ false → access_number m l ≡ number_of l
  unfolding access_number
  awake_then e z = line_no (not (sound m)) unsound _ (ap not e) ∙ line_no m.asleep sleeping l z

  pub state_err : (r : Refusal) → number r ≡ interrupt_number m → number r ≡ number_of (not (sound m) gives unsound ∷ l)
  unfolding interrupt_number
  state_err r e = err_first (not (sound m) gives unsound ∷ []) l r e

  pub state_ok : done ≡ interrupt_number m → number_of l ≡ number_of (not (sound m) gives unsound ∷ l)
  unfolding interrupt_number declining
  state_ok e = ok_rest (not (sound m) gives unsound ∷ []) l refl e

  -- the module is sound then
  pub state_sound : done ≡ interrupt_number m → sound m ≡ true
  unfolding interrupt_number declining
  state_sound e = not-false (sound m) (line_false [] (not (sound m)) unsound [] refl (sym e))

  pub access_err : (r : Refusal) → number r ≡ access_number m [] → number r ≡ access_number m l
  unfolding access_number
  access_err r e = err_first (not (sound m) gives unsound ∷ m.asleep gives sleeping ∷ []) l r e

  pub access_ok : done ≡ access_number m [] → number_of l ≡ access_number m l
  unfolding access_number declining
  access_ok e = ok_rest (not (sound m) gives unsound ∷ m.asleep gives sleeping ∷ []) l refl e

-- what an access's first two lines do to the module
abbrev slept : Module → ℕ → Module
slept m n = woken m if eqb n sleeping else m

module _ (m : Module) where
  pub slept_unsound : (r : Refusal) → number r ≡ interrupt_number m → (number r ≡ access_number m []) × (m ≡ slept m (access_number m []))
  unfolding interrupt_number access_number
  slept_unsound r e = by_test (λ b. sound m ≡ b → (number r ≡ access_number m []) × (m ≡ slept m (access_number m []))) (sound m)
      (λ _ ok. absurd (refused r (e ∙ sound_then m [] ok ∙ lines_end)))
      (λ _ no. let n = unsound_access m [] no in (e ∙ line_yes _ 8 [] (ap not no) ∙ sym n, rw n refl)) refl

  module _ (ok : done ≡ interrupt_number m) where
    pub slept_woken : m.asleep ≡ true → {y : Module} → y ≡ woken m → (sleeping ≡ access_number m []) × (y ≡ slept m (access_number m []))
    slept_woken z e = let n = asleep_first m [] (state_sound m [] ok) z in (sym n, rw n e)

    pub slept_awake : m.asleep ≡ false → (done ≡ access_number m []) × (m ≡ slept m (access_number m []))
    slept_awake z = let n = awake_then m [] (state_sound m [] ok) z ∙ lines_end in (sym n, rw n refl)

  pub still_awake : (y : Module) → done ≡ access_number m [] → y ≡ slept m (access_number m []) → y ≡ m
  still_awake y z e = rw (sym z) at e

pub woke : (n : ℕ) {x y : Module} → x ≡ y → ◌≡◌ {A = Done} (record { after = x; number = n }) (record { after = y; number = n })
woke n e = ap (λ (m : Module). record { after = m; number = n }) e

module _ (a : ℕ) where
  pub read_awake : (n k : ℕ) → k ≡ number_of (read_lines a n) → k ≡ sleeping → ⊥
  unfolding read_lines access_lines lacks
  read_awake n k e z = never_given sleeping (read_lines a n) refl (sym e ∙ z)

  pub write_awake : (bs : List ℕ) (k : ℕ) → k ≡ number_of (write_lines a bs) → k ≡ sleeping → ⊥
  unfolding write_lines access_lines lacks
  write_awake bs k e z = never_given sleeping (write_lines a bs) refl (sym e ∙ z)

module _ (m : Module) (n : ℕ) where
  pub outcome_done : (x y : Module) → y ≡ x → done ≡ n → Lent (outcome m x n) (Ok tt) y
  unfolding outcome
  outcome_done x y e z = (z, rw (sym z) e)

  pub outcome_declined : (x : Module) (r : Refusal) → number r ≡ n → Lent (outcome m x n) (Err r) m
  unfolding outcome
  outcome_declined x r e = (e, rw (ne_eqb n 0 (λ z. refused r (e ∙ z))) refl)

  pub accessed_done : (x y : Module) → y ≡ x → n ≡ 0 → ◌≡◌ {A = Done} (record { after = woken y; number = 0 }) (accessed m x n)
  unfolding accessed
  accessed_done x y e z = rw (e, z) refl

  pub accessed_asleep : (x : Module) → n ≡ sleeping → ◌≡◌ {A = Done} (record { after = woken m; number = sleeping }) (accessed m x n)
  unfolding accessed
  accessed_asleep x z = rw z refl

  pub accessed_declined : (k : ℕ) (x : Module) → n ≡ k → (k ≡ 0 → ⊥) → (k ≡ sleeping → ⊥) → ◌≡◌ {A = Done} (record { after = m; number = k }) (accessed m x n)
  unfolding accessed
  accessed_declined k x e h z = rw (e, ne_eqb k 0 h, ne_eqb k sleeping z) refl

  pub answer_done : (x y : Bool) → y ≡ x → done ≡ n → Asked (answer m x n) (Ok y) m
  unfolding answer
  answer_done x y e z = (z, rw (sym z) e, refl)

  pub answer_declined : (x : Bool) (r : Refusal) → number r ≡ n → Asked (answer m x n) (Err r) m
  unfolding answer
  answer_declined x r e = (e, rw (ne_eqb n 0 (λ z. refused r (e ∙ z))) refl, refl)

  pub drive_done : (d l : ℕ) → d ≡ driven m.pins m.size → l ≡ levels m.pins m.size → done ≡ n → Told (drive_of m n) (Ok (record { driven = d; level = l })) m
  unfolding drive_of
  drive_done d l e f z = (z, rw (sym z) e, rw (sym z) f, refl)

  pub drive_declined : (r : Refusal) → number r ≡ n → Told (drive_of m n) (Err r) m
  unfolding drive_of
  drive_declined r e = let h = ne_eqb n 0 (λ z. refused r (e ∙ z)) in (e, rw h refl, rw h refl, refl)

module _ (m x y : Module) (l : List Line) where
  pub access_slept : (r : Refusal) → number r ≡ access_number m [] → y ≡ slept m (access_number m []) → Lent (accessed m x (access_number m l)) (Err r) y
  unfolding accessed
  access_slept r e s =
      let g = access_err m l r e in
      (g, s ∙ rw (ne_eqb (access_number m l) 0 (λ z. refused r (g ∙ z))) (ap (slept m) (sym e ∙ g)))

  module _ (ok : done ≡ access_number m []) where
    pub access_declined : (r : Refusal) → y ≡ slept m (access_number m []) → number r ≡ number_of l → (number r ≡ sleeping → ⊥) → Lent (accessed m x (access_number m l)) (Err r) y
    unfolding accessed
    access_declined r s e h =
        let g = e ∙ access_ok m l ok in
        (g, still_awake m y ok s ∙ rw (ne_eqb (access_number m l) 0 (λ z. refused r (g ∙ z)), ne_eqb (access_number m l) sleeping (λ z. h (g ∙ z))) refl)

    pub access_done : done ≡ number_of l → y ≡ woken x → Lent (accessed m x (access_number m l)) (Ok tt) y
    unfolding accessed
    access_done e w = let g = e ∙ access_ok m l ok in (g, w ∙ rw (sym g) refl)

module _ (m : Module) (a : ℕ) (out : List ℕ) where
  pub buffer_done : (l : List ℕ) → l ≡ bytes_read m a (length out) → done ≡ read_number m a (length out) → l ≡ read_buffer m a out
  unfolding read_buffer
  buffer_done l e z = e ∙ rw (sym z) refl

  pub buffer_declined : (r : Refusal) → number r ≡ read_number m a (length out) → out ≡ read_buffer m a out
  unfolding read_buffer
  buffer_declined r e = rw (ne_eqb (read_number m a (length out)) 0 (λ z. refused r (e ∙ z))) refl
