use Rattle.edit_laws.proofs.After.{valid_after, frame_after, further, after_more, accepts_more}
use Rattle.edit_laws.proofs.laws.law_after.Goals as goal

pub returns : goal.returns
returns c = record { valid = valid_after; further = further; frame = frame_after; more = after_more; accepts = accepts_more }
