-- `value_of` meets its contract: the wrapped differences tell the three ranges.
-- Assumes nothing.
use Rattle.std.proofs.Common.{arith}
use Rattle.hex_digit.proofs.DigitLaws.{is-decimal, is-letter, is-other}
use Rattle.hex_digit.proofs.value_of.Goals as goal

pub returns-then-decimal-lt10 : goal.returns-then-decimal-lt10
returns-then-decimal-lt10 c = omega (arith, is-decimal c.args.c (omega arith) (omega arith))

pub returns-then-letter-lt6 : goal.returns-then-letter-lt6
returns-then-letter-lt6 c = omega (arith, is-letter c.args.c (omega arith) (omega arith))

pub returns-else-letter-lt6 : goal.returns-else-letter-lt6
returns-else-letter-lt6 c = is-other c.args.c (λ h. omega arith) (λ h. omega arith)
