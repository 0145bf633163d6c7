-- NUMBER 9 IS GIVEN BY NO CALL, and the numbers are the same without its line.
--
--    falls_means          the old condition in words: some key out of the size changes
--    nine_never           it is false of every sound state, whatever the samples
--    same_without_nine    the old lines and the new give the same number, for every state and every list of samples
--    no_call_gives_nine   no call gives 9, whatever the state
-- Assumes nothing.
use Prim.Native.Nat.{ℕ, ◌<◌}
use native.Mathlib.Omega.{arith}
use mathlib.Core.Path.{◌≡◌, refl, sym, ap, ◌∙◌}
use mathlib.Core.Bool.{Bool, true, false, not, ◌||◌}
use mathlib.Core.List.{List, [], ◌∷◌, ◌++◌}
use Rattle.words.specs.Words.{all_below}
use Rattle.words.proofs.Laws.{true_false, all_below_lem, below_all}
use Rattle.words.proofs.Places.{fails_at}
use Rattle.numbers.specs.Numbers.{Line, ◌gives◌, number_of}
use Rattle.numbers.proofs.Laws.{lacks, never_given}
use Rattle.keys.specs.Keys.{key_in}
use Rattle.judge.specs.Lines.{sample_lines, access_lines, read_lines, write_lines, key_lines, pin_lines}
use Rattle.state.specs.declared.Module.{Module}
use Rattle.sound.specs.Sound.{sound}
use Rattle.sound.proofs.Laws.{sound_out}
use Rattle.scan.specs.Scan.{contact_at}
use Rattle.scan.proofs.Laws.{out_rests}
use Rattle.calls.specs.Calls.{look_lines, held_lines, look_number, access_number, write_number, read_number, held_number, interrupt_number, pins_number}
use Rattle.calls.specs.Calls.{outcome, accessed, answer, reset_call, look_call, write_call, read_call, held_call, interrupt_call, pins_call}
use Rattle.demands.specs.Machine.{Call, reset, look, write, read, held, interrupt, pins}
use Rattle.demands.specs.Ours.{changing, asking, called}
use Rattle.demands.specs.Retired.{falls, old_lines}
use Rattle.demands.proofs.Numbers.{Decides, refused}

-- neither in the size nor without a change
out_changed : (a b : Bool) → (a || not b) ≡ false → (a ≡ false) × (b ≡ true)
out_changed true b e = true_false e
out_changed false true e = (refl, refl)
out_changed false false e = true_false e

-- "a change falls on a key out of the size"
pub falls_means : (m : Module) (s : List ℕ) → Decides (falls m s) ((k : ℕ) × ((k < 104) × ((key_in m.size k ≡ false) × ((contact_at m s k).changed ≡ true))))
unfolding falls
falls_means m s =
    let f : ℕ → Bool = λ k. key_in m.size k || not (contact_at m s k).changed in
    refused (all_below f 104)
    (λ e. let r = fails_at f 104 e in (r.0, (r.1.0, out_changed (key_in m.size r.0) (contact_at m s r.0).changed r.1.1)))
    (λ e h. true_false (sym (all_below_lem f 104 e h.0 h.1.0) ∙ rw (h.1.1.0, h.1.1.1)))

module _ (m : Module) (s : List ℕ) (ok : sound m ≡ true) where
  still : (k : ℕ) → k < 104 → (b : Bool) → key_in m.size k ≡ b → (key_in m.size k || not (contact_at m s k).changed) ≡ true
  still k h true e = rw e
  still k h false e = let out = sound_out m ok k h e in rw (e, out_rests m s k e out.0 out.1)

  pub nine_never : falls m s ≡ false
  unfolding falls
  nine_never = ap not (below_all (λ k. key_in m.size k || not (contact_at m s k).changed) 104 (λ k h. still k h (key_in m.size k) refl))

-- a line that is false, behind lacks, gives nothing
late_false : (l : List Line) (n : ℕ) → number_of (l ++ (false gives n ∷ [])) ≡ number_of l
unfolding number_of
late_false [] n = refl
late_false ((true gives k) ∷ l) n = refl
late_false ((false gives k) ∷ l) n = late_false l n

pub same_without_nine : (m : Module) (s : List ℕ) → number_of (old_lines m s) ≡ look_number m s
unfolding old_lines look_number look_lines number_of
same_without_nine m s = go (sound m) refl
  where
    go : (b : Bool) → sound m ≡ b → number_of (old_lines m s) ≡ look_number m s
    go true e = rw (e, nine_never m s e) (late_false (sample_lines s) 9)
    go false e = rw e refl

pub no_call_gives_nine : (m : Module) (c : Call) → (called m c).number ≡ 9 → ⊥
unfolding called changing asking reset_call look_call write_call read_call held_call interrupt_call pins_call outcome accessed answer lacks
    look_number access_number write_number read_number held_number interrupt_number pins_number look_lines held_lines key_lines sample_lines read_lines write_lines access_lines pin_lines
no_call_gives_nine m reset e = omega arith
no_call_gives_nine m (look s) e = never_given 9 _ refl e
no_call_gives_nine m (write a bs) e = never_given 9 _ refl e
no_call_gives_nine m (read a out) e = never_given 9 _ refl e
no_call_gives_nine m (held row col) e = never_given 9 _ refl e
no_call_gives_nine m interrupt e = never_given 9 _ refl e
no_call_gives_nine m (pins x) e = never_given 9 _ refl e
