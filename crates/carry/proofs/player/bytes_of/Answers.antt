use Rattle.std.proofs.Common.{arith, rules, ◌≡◌, length, sym, ◌∙◌}
use Rattle.std.proofs.lemmas.List.{ext_get_or, get_or-map}
use Rattle.carry.specs.Calls.{low}
use Rattle.carry.proofs.Playing.{map_length}
use Rattle.carry.proofs.player.bytes_of.Goals as goal

pub returns : goal.returns
unfolding low
returns c =
    let values = c.args.values.now in
    let b = c.loop-i.invariant.long in
    let v : length values ≡ 32 = search rules in
    ext_get_or 0 _ _ (b ∙ sym (map_length low values ∙ v)) (λ k h. c.loop-i.invariant.low k (omega arith) ∙ sym (get_or-map low values k 0 0 (omega arith)))
