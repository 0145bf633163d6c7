-- `picture::but_first` meets its contract: the lowest bit that is 1 is there, and its weight goes.
use borrow.Author.Rules.{rules}
use Rattle.words.proofs.Bits.{one_shifted}
use Rattle.picture.specs.Masks.{first_of, but_first}
use Rattle.picture.proofs.Rows.{first_place, first_in_lem}
use Rattle.picture.proofs.but_first.Goals as goal

pub overflow_cast-result : goal.overflow_cast-result
unfolding first_of
overflow_cast-result c = let low = first_place c.args.mask (search rules) (search rules) in search rules

pub overflow_shl-result : goal.overflow_shl-result
unfolding first_of
overflow_shl-result c = first_place c.args.mask (search rules) (search rules)

pub overflow_sub-result : goal.overflow_sub-result
unfolding first_of
overflow_sub-result c =
    let m = c.args.mask in
    rw (one_shifted (first_of m) 16 (first_place m (search rules) (search rules))) (first_in_lem m (search rules) (search rules))

pub returns : goal.returns
unfolding first_of but_first
returns c = let m = c.args.mask in rw (one_shifted (first_of m) 16 (first_place m (search rules) (search rules)))
