use Rattle.record_laws.proofs.Progress.{before_window, fewer_pending}
use Rattle.record_laws.proofs.laws.law_progress.Goals as goal

pub returns : goal.returns
returns c = record { before = before_window; fewer = fewer_pending }
