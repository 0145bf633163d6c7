-- Words that let a definition be read aloud.
--
--    A if T else B    A when T is true, else B
--    every l          every Bool of the list l is true
--    all f l          f is true of every item of the list l
--    all_below f n    f is true of every number below n
--    among n l        the number n is in the list l
--    some l           the list l has an item
--    within lo hi a   lo ≤ a ≤ hi
--    bit c b          bit c of the number b is 1
--    without c f b    the flag f, cleared if bit c of the byte b is 1
--    table f n        the list f 0, f 1, .. of n items
use Rattle.std.specs.Prelude.{ℕ, zero, suc, ◌/◌, ◌%◌, ◌^◌, Bool, true, false, cond, ◌&&◌, ◌||◌, List, [], ◌∷◌, ◌++◌, leb, eqb}

infixl 6 ◌if◌
infixl 5 ◌else◌
abbrev pub ◌if◌ : {A : Type 0} → A → Bool → A → A
◌if◌ a t b = cond t a b

abbrev pub ◌else◌ : {A : Type 0} → (A → A) → A → A
◌else◌ f b = f b

unfoldable pub every : List Bool → Bool
every [] = true
every (b ∷ l) = b && every l

unfoldable pub all : {A : Type 0} → (A → Bool) → List A → Bool
all f [] = true
all f (x ∷ l) = f x && all f l

unfoldable pub all_below : (ℕ → Bool) → ℕ → Bool
all_below f zero = true
all_below f (suc n) = all_below f n && f n

unfoldable pub among : ℕ → List ℕ → Bool
among n [] = false
among n (x ∷ l) = eqb n x || among n l

unfoldable pub some : {A : Type 0} → List A → Bool
some [] = false
some (x ∷ l) = true

abbrev pub within : ℕ → ℕ → ℕ → Bool
within lo hi a = leb lo a && leb a hi

unfoldable pub bit : ℕ → ℕ → Bool
bit c b = eqb (b / 2 ^ c % 2) 1

unfoldable pub without : ℕ → Bool → ℕ → Bool
without c f b = false if bit c b else f

unfoldable pub table : {A : Type 0} → (ℕ → A) → ℕ → List A
table f zero = []
table f (suc n) = table f n ++ (f n ∷ [])
