use Rattle.sm_words.proofs.operations.+decimal_sum.Given as goal

abbrev pub decreases-decimal_sum : goal.decreases-decimal_sum
decreases-decimal_sum l = l.digits
