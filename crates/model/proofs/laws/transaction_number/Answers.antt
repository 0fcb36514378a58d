use Rattle.model.proofs.Back.{written_reads}
use Rattle.model.proofs.Opsback.{ops_read}
use Rattle.model.proofs.Readback.{commit_read, clearing_read, front_passes}
use Rattle.model.proofs.Checked.{checks_again}
use Rattle.model.proofs.Commits.{commit_says}
use Rattle.model.proofs.Puts.{writes_put, held_stand}
use Rattle.model.proofs.Kept.{commit_kept, commit_leaves}
use Rattle.model.proofs.Steadily.{steady_kept}
use Rattle.model.proofs.Begins.{replay_steady}
use Rattle.model.proofs.Found.{search_says}
use Rattle.model.proofs.Finds.{search_finds}
use Rattle.model.proofs.Laid.{lays_bytes, laid_says}
use Rattle.model.proofs.laws.transaction_number.Goals as goal

pub returns-clause-laws : goal.returns-clause-laws
returns-clause-laws c = record {
  written = written_reads;
  ops = ops_read;
  says = commit_says;
  commit = commit_read;
  clearing_one = clearing_read;
  put = writes_put;
  stand = held_stand;
  checks = checks_again;
  fronts = front_passes;
  kept = commit_kept;
  leaves = commit_leaves;
  steady = steady_kept;
  begins = replay_steady;
  search = search_says;
  finds = search_finds;
  lays_each = lays_bytes;
  laid_last = laid_says;
}
