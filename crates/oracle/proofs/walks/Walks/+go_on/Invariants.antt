-- Each call has one leg less to go.
use Rattle.oracle.proofs.walks.Walks.+go_on.Given as goal

abbrev pub decreases-go_on : goal.decreases-go_on
decreases-go_on g l = l.more
