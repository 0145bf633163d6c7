-- `Page::hexadecimal` meets its contract: one digit to four, by the number's size.
use Rattle.std.proofs.Common.{arith}
use Rattle.text.proofs.Laws.{two_bytes, hex_one, hex_two, hex_three, hex_four}
use Rattle.text.proofs.page.Page.hexadecimal.Goals as goal

pub returns-then-number-lt16 : goal.returns-then-number-lt16
returns-then-number-lt16 c =
    let b = two_bytes _ (omega arith) _ c.to_be_bytes.ensures in
    (hex_one _ _ 0 _ b.1 c.if-number-lt16.true _ c.digit.ensures.0, omega arith)

pub returns-then-number-lt256 : goal.returns-then-number-lt256
returns-then-number-lt256 c =
    let b = two_bytes _ (omega arith) _ c.to_be_bytes.ensures in
    (hex_two _ _ 0 _ b.1 c.if-number-lt16.false c.if-number-lt256.true _ c.hex.ensures.0, omega arith)

pub returns-then-number-lt4096 : goal.returns-then-number-lt4096
returns-then-number-lt4096 c =
    let b = two_bytes _ (omega arith) _ c.to_be_bytes.ensures in (
      hex_three _ _ _ _ b.1 c.if-number-lt16.false b.0 c.if-number-lt256.false c.if-number-lt4096.true _ _ c.digit-then-number-lt4096.ensures.0 c.hex-then-number-lt4096.ensures.0,
      omega arith,
    )

pub returns-else-number-lt4096 : goal.returns-else-number-lt4096
returns-else-number-lt4096 c =
    let b = two_bytes _ (omega arith) _ c.to_be_bytes.ensures in (
      hex_four _ _ _ _ b.1 c.if-number-lt16.false b.0 c.if-number-lt256.false c.if-number-lt4096.false _ _ c.hex-else-number-lt4096.ensures.0 c.hex-else-number-lt4096-2.ensures.0,
      omega arith,
    )
