use Rattle.std.proofs.Common.{rules, arith, ◌≡◌, ◌∷◌, [], Some, sym, ap, ◌∙◌}
use Rattle.std.proofs.lemmas.Grind.{common_steps}
use Rattle.turnstile.proofs.Moves.{open_allowed}
use Rattle.turnstile.proofs.turnstile.Turnstile.lay.Goals as goal

pub new-requires : goal.new-requires
new-requires g c =
    let value = c.args.value in
    let items : c.push.new.self.items ≡ Some c.args.value ∷ [] = search rules in
    let label : c.of-about.result.value ≡ c.args.value = search rules in
    rw (items, label) (open_allowed g.V.Turns.turns g.V.Turns.maker g.V.Turns.label value c.requires)
