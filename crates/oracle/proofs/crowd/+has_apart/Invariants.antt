-- Each call wants one value less.
use Rattle.oracle.proofs.crowd.+has_apart.Given as goal

abbrev pub decreases-has_apart : goal.decreases-has_apart
decreases-has_apart l = l.wanted
