-- `pins::Pins::is_raised` meets its contract: `any` asks every pin.
use mathlib.Core.Path.{refl, ◌∙◌}
use mathlib.Core.Bool.{Bool, ◌&&◌}
use Prim.Native.Nat.{ℕ}
use borrow.Author.Rules.{rules}
use Rattle.std.proofs.lemmas.Iterator.{YieldsList-from_range}
use Rattle.std.proofs.lemmas.Iterator.Search.{any_from_yields_List}
use Rattle.pins.specs.Rules.{IE}
use Rattle.pins.specs.Pins.{kept_in, flag_in, raised}
use Rattle.pins.proofs.Laws.{some_any}
use Rattle.pins.proofs.Pins.is_raised.Goals as goal

pub returns : goal.returns
unfolding raised
returns c =
    let p = c.args.self.now in
    let f : ℕ → Bool = λ i. flag_in p.edge i && IE (kept_in p.kept) i in
    any_from_yields_List f _ _ c.any.result c.any.ensures.ran (YieldsList-from_range 0 19 19 refl refl) (λ x b q k. search rules) ∙ some_any f
