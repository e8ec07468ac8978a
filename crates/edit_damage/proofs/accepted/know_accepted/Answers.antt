-- The deck is valid and the edit rises, by their types.
use Rattle.edit_damage.proofs.accepted.know_accepted.Goals as goal

pub returns : goal.returns
returns c = λ free. record { valid = c.stop.ensures.valid; rises = c.know_rising.ensures; free = free }
