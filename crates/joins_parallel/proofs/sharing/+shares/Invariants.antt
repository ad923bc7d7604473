use Rattle.std.proofs.Common.{◌+◌, ◌-◌, ◌*◌}
use Rattle.joins_parallel.proofs.sharing.+shares.Given as goal

abbrev pub decreases-change_from : goal.decreases-change_from
decreases-change_from g l = 4 * l.count

abbrev pub decreases-change_both : goal.decreases-change_both
decreases-change_both g l = 4 * (l.lower + l.upper) - 1

abbrev pub decreases-change_both-front : goal.decreases-change_both-front
decreases-change_both-front g l = 4 * l.lower + 1

abbrev pub decreases-change_both-back : goal.decreases-change_both-back
decreases-change_both-back g l = 4 * l.upper + 1
