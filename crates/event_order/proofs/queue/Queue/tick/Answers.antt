-- A near device has its tick there, and any other its tick among the far ones.
use Rattle.std.proofs.Common.{◌≡◌, ℕ, Option, ◌∙◌, sym, ap}
use Rattle.std.specs.FinMap as map
use Rattle.event_order.proofs.Joined.{either, get_part}
use Rattle.event_order.proofs.queue.Queue.tick.Goals as goal

pub returns-in-Some : goal.returns-in-Some
returns-in-Some c = sym (get_part c.self.inside.near c.self.inside.far c.args.self.now c.args.device c.self.view_is ∙ ap (λ o. either o (map.get c.self.inside.far c.args.device)) (sym c.in-Some.ensures))

pub returns-in-None : goal.returns-in-None
returns-in-None c = c.tick-in-None.ensures ∙ sym (get_part c.self.inside.near c.self.inside.far c.args.self.now c.args.device c.self.view_is ∙ ap (λ o. either o (map.get c.self.inside.far c.args.device)) (sym c.in-None.ensures))
