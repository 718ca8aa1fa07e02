-- The digits counted: a tenth of a number is below it, so the calls end. Assumes nothing.
use Rattle.type_text.proofs.+decimal_length.Given as goal

abbrev pub decreases-decimal_length : goal.decreases-decimal_length
decreases-decimal_length l = l.n
