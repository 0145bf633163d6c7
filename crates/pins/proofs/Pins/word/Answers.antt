-- `pins::Pins::word` meets its contract, by its invariant; the word so far is below 2 ^ 18.
use Prim.Native.Nat.{ℕ, ◌+◌, ◌-◌, ◌<◌}
use mathlib.Core.Path.{◌≡◌, refl, sym, ap, ◌∙◌}
use mathlib.Core.Bool.{Bool, true, false}
use mir.Val.{bool_byte}
use native.Mathlib.Omega.{arith}
use lib.ListN.{drop}
use borrow.Author.Rules.{rules}
use Rattle.words.specs.Words.{◌if◌, ◌else◌, table}
use Rattle.words.specs.Bits.{binary}
use Rattle.pins.specs.Rules as rule
use Rattle.pins.specs.Pins.{bit_of}
use Rattle.pins.proofs.Laws.{word_none, word_next, word_below}
use Rattle.pins.proofs.Pins.word.Goals as goal
use Rattle.pins.proofs.Pins.word.Goals.{After-from}

pub loop-pin-init : goal.loop-pin-init
loop-pin-init c = sym (word_none _)

told : (b : Bool) → bool_byte b ≡ (1 if b else 0)
told true = refl
told false = refl

low : (c : After-from) → c.loop-pin.word < 262144
low c =
    let a = c.args in
    let p = a.self.now in
    rw c.loop-pin.invariant (word_below (bit_of a.what p.kept p.edge p.level a.size) c.loop-pin.pin c.loop-pin-test.true)

pub overflow_mul-word : goal.overflow_mul-word
overflow_mul-word c = let h = low c in search rules

pub overflow_add-word : goal.overflow_add-word
overflow_add-word c = let h = low c in search rules

pub loop-pin-preserved : goal.loop-pin-preserved
loop-pin-preserved c =
    let a = c.args in
    let l = c.loop-pin in
    let p = a.self.now in
    let f = bit_of a.what p.kept p.edge p.level a.size in
    let more : l.pin ≡ l.pin - 1 + 1 = omega (arith, c.loop-pin-test.true) in
    let rest = l.invariant ∙ ap (λ (n : ℕ). binary (drop n (table f 19))) more in
    rw (c.from.ensures, c.bit_of.ensures, rest, told (f (l.pin - 1))) (word_next f (l.pin - 1) (omega arith))

pub returns : goal.returns
unfolding rule.word
returns c =
    let a = c.args in
    let p = a.self.now in
    let none : c.loop-pin.pin ≡ 0 = omega arith in
    c.loop-pin.invariant ∙ ap (λ (n : ℕ). binary (drop n (table (bit_of a.what p.kept p.edge p.level a.size) 19))) none
