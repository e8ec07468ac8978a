use Rattle.record_laws.proofs.Touched.{edited_once, edited_again, untouched, stale_edited}
use Rattle.record_laws.proofs.laws.law_touched.Goals as goal

pub returns : goal.returns
returns c = record { one = edited_once; more = edited_again; untouched = untouched; stale = stale_edited }
