-- The digits written: a tenth of a number is below it, so the calls end. Assumes nothing.
use Rattle.type_text.proofs.Writer.+put_decimal.Given as goal

abbrev pub decreases-put_decimal : goal.decreases-put_decimal
decreases-put_decimal l = l.n
