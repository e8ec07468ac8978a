use Rattle.board_laws.proofs.Regions.{regroups, swept}
use Rattle.board_laws.proofs.laws.law_one_region.Goals as goal

pub returns : goal.returns
returns c = record { regroups = regroups; swept = swept }
