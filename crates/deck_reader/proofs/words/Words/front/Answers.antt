use Rattle.std.proofs.Common.{◌∙◌, length, take, ap, arith}
use Rattle.std.proofs.lemmas.List.{length-take-le, length-drop}
use Rattle.deck_reader.proofs.WordLemmas.{take-drop-take}
use Rattle.deck_reader.proofs.words.Words.front.Goals as goal

pub returns : goal.returns
returns c =
    let ws = c.self.inside.card.now.words in
    let left = length-drop c.self.inside.at (take c.self.inside.end ws) in
    let all = length-take-le c.self.inside.end ws c.self.invariant.1 in
    take-drop-take ws c.self.inside.at c.args.count c.self.inside.end (omega (arith, left, all, ap length c.self.view_is))
    ∙ ap (take c.args.count) c.self.view_is
