use Rattle.std.proofs.Common.{◌-◌}
use Rattle.log_demo.proofs.chains.tell_records.Given as goal

abbrev pub decreases-loop-position : goal.decreases-loop-position
decreases-loop-position l = l.chain.end - l.position
