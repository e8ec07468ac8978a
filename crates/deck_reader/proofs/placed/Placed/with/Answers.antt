use Rattle.std.proofs.Common.{◌∙◌, ◌++◌, ◌∷◌, [], ap}
use Rattle.std.specs.Prelude.{zip}
use Rattle.deck_reader.proofs.PlacedLemmas.{zip-push}
use Rattle.deck_reader.proofs.placed.Placed.with.Goals as goal

pub returns : goal.returns
returns c =
    let p = c.self.inside in
    (λ i. zip (c.in_ok-push.ensures.items i) (c.in_ok-push-2.ensures.items i))
    ∙ zip-push p.lines.items p.elements.items c.args.line c.args.element c.self.invariant
    ∙ ap (λ placed. placed ++ (c.args.line, c.args.element) ∷ []) c.self.view_is
