use Rattle.record_laws.proofs.Numbers.{named_at, named_more}
use Rattle.record_laws.proofs.laws.law_numbers.Goals as goal

pub returns : goal.returns
returns c = record { at = λ names pairs i t below apart. named_at names pairs i t apart below; more = named_more }
