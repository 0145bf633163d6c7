-- `bits::put` meets its contract: the bytes that the number touches are stored, one, two or three.
use native.Mathlib.Omega.{arith}
use lib.ListN.{length-set}
use borrow.Author.Rules.{rules}
use Rattle.bits.proofs.Laid.{all_bytes}
use Rattle.bits.proofs.Stores.{put_one, put_two, put_three}
use Rattle.bits.proofs.put.Goals as goal

pub returns-then-bit-width-le8 : goal.returns-then-bit-width-le8
returns-then-bit-width-le8 c =
    let a = c.args in
    let b = all_bytes a.out.now (λ i. (c.slice_known-1.given i).fits) in
    put_one a.out.now a.place a.width a.x b (search rules) c.joined-all.ensures.0 (search rules) (search rules)

pub bounds-out-at-3 : goal.bounds-out-at-3
bounds-out-at-3 c = simp length-set (omega arith)

pub returns-then-bit-width-le16 : goal.returns-then-bit-width-le16
returns-then-bit-width-le16 c =
    let a = c.args in
    let b = all_bytes a.out.now (λ i. (c.slice_known-1.given i).fits) in
    put_two a.out.now a.place a.width a.x b (search rules) c.joined-all.ensures.0 (search rules) (search rules)

pub bounds-out-at-4 : goal.bounds-out-at-4
bounds-out-at-4 c = simp length-set (omega arith)

pub returns : goal.returns
returns c =
    let a = c.args in
    let b = all_bytes a.out.now (λ i. (c.slice_known-1.given i).fits) in
    put_three a.out.now a.place a.width a.x b (search rules) c.joined-all.ensures.0 (search rules) (search rules)
