use Rattle.account.proofs.Determined.{step_determined, run_determined}
use Rattle.account.proofs.Exact.{file_exact, lodge_exact}
use Rattle.account.proofs.Kept.{run_kept}
use Rattle.account.proofs.account_laws.Goals as goal

pub returns : goal.returns
returns c = record {
  step = step_determined;
  run = run_determined;
  file = file_exact;
  lodge = lodge_exact;
  kept = run_kept;
}
