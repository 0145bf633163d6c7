-- Laws on what C is told.
--
--    part_within       the part that an answer leads to doesn't end before it begins
--    number_told       the number of an answer is that which the module tells of its own
--    standing_told, part_told, handed_told    what is put together of an answer, by its parts, is what C is told of it
-- Assumes nothing.
use Prim.Native.Nat.{ℕ, ◌-◌, ◌≤◌}
use native.Mathlib.Omega.{arith}
use mathlib.Core.Path.{◌≡◌, refl, ◌∙◌}
use mathlib.Core.List.{List}
use Rattle.std.specs.Prelude.{Result, Ok, Err}
use Rattle.std.specs.Result.{result_unwrap_or}
use Rattle.numbers.specs.declared.Refusal.{Refusal}
use Rattle.numbers.specs.Refusals.{told}
use Rattle.undo.specs.declared.Stand as found
use Rattle.undo.specs.declared.Stand.TheVariants as found-
use Rattle.undo.specs.declared.Walked as handed
use Rattle.undo.specs.Answers.{Stand, Group, Open, Nothing, Declined, answered, walked}
use Rattle.undo.specs.Stands.{values_of, stands, first_in, end_in}
use Rattle.undo.proofs.Exact.{stretch_within}
use Rattle.groups.specs.Told.{kind_of, of_stand, part_of, of_walked}

pub part_within : (trim : ℕ) (s : List ℕ) (p : ℕ) (x : Stand) → x ≡ stands trim s p → first_in x ≤ end_in x
unfolding first_in end_in
part_within trim s p (Group f e) h = (stretch_within trim s p (Group f e) h f e refl).0
part_within trim s p (Open q) h = omega arith
part_within trim s p Nothing h = omega arith
part_within trim s p (Declined n) h = omega arith

pub number_told : (x : Result found.Stand Refusal) → told x ≡ (values_of (answered x)).number
unfolding values_of
number_told (Ok (found-.Group f e)) = refl
number_told (Ok (found-.Open p)) = refl
number_told (Ok found-.Nothing) = refl
number_told (Err r) = refl

module _ (x : Result found.Stand Refusal) (n : ℕ) (e : n ≡ told x) where
  pub standing_told : (y : Result found.Stand Refusal) → x ≡ y
      → record { number = n; kind = kind_of (answered y); first = (values_of (answered y)).first; end = (values_of (answered y)).end } ≡ of_stand (answered x)
  unfolding of_stand
  standing_told y h = rw (← h) (λ i. record { number = (e ∙ number_told x) i; kind = kind_of (answered x); first = (values_of (answered x)).first; end = (values_of (answered x)).end })

  pub part_told : (f l : ℕ) → f ≡ first_in (answered x) → l ≡ end_in (answered x) - first_in (answered x) → record { number = n; first = f; length = l } ≡ part_of (answered x)
  unfolding part_of
  part_told f l h k = λ i. record { number = (e ∙ number_told x) i; first = h i; length = k i }

pub handed_told : (x : Result handed.Walked Refusal) (n : ℕ) (w : handed.Walked) → n ≡ told x → w ≡ result_unwrap_or x record { groups = 0; tail = 0 }
    → record { number = n; groups = w.groups; tail = w.tail } ≡ of_walked (walked x)
unfolding of_walked
handed_told (Ok v) n w e h = λ i. record { number = e i; groups = (h i).groups; tail = (h i).tail }
handed_told (Err r) n w e h = λ i. record { number = e i; groups = (h i).groups; tail = (h i).tail }
