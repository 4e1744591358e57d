-- Calls that stand inside one another: the room falls from one list of steps to the next, and between two the functions have an order.
use Rattle.std.proofs.Common.{◌+◌, ◌*◌, length}
use Rattle.fn_summary.proofs.bodies.+walking.Given as goal

abbrev pub decreases-run : goal.decreases-run
decreases-run l = 10 * l.room + 0

abbrev pub decreases-branch : goal.decreases-branch
decreases-branch l = 10 * l.room + 1

abbrev pub decreases-block : goal.decreases-block
decreases-block l = 10 * l.room + 1

abbrev pub decreases-pass : goal.decreases-pass
decreases-pass l = 10 * l.room + 1

abbrev pub decreases-turn : goal.decreases-turn
decreases-turn l = 10 * l.room + 2

abbrev pub decreases-turns : goal.decreases-turns
decreases-turns l = 10 * l.room + 3

abbrev pub decreases-settle : goal.decreases-settle
decreases-settle l = 10 * l.room + 4

abbrev pub decreases-settle_again : goal.decreases-settle_again
decreases-settle_again l = 10 * l.room + 5

abbrev pub decreases-repeat : goal.decreases-repeat
decreases-repeat l = 10 * l.room + 6

abbrev pub decreases-run_step : goal.decreases-run_step
decreases-run_step l = 10 * l.room + 7

abbrev pub decreases-block-loop-rest : goal.decreases-block-loop-rest
decreases-block-loop-rest l = length l.left.items
