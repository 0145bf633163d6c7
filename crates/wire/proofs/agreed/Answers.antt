-- `wire::agreed` meets its contract: the bytes are compared with those that a read of as many gives.
use native.Mathlib.Omega.{arith}
use Rattle.wire.proofs.Laws.{run_blank, agreed_is}
use Rattle.wire.proofs.agreed.Goals as goal

pub peek-requires : goal.peek-requires
peek-requires c = run_blank _ _ (omega arith) c.requires.1

pub returns : goal.returns
returns c = (agreed_is _ _ _ _ _ (omega arith) c.peek.ensures c.shared.ensures.0, c.shared.ensures.1)
