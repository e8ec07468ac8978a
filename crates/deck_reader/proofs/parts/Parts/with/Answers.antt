use Rattle.std.proofs.Common.{◌≡◌, ◌∙◌, ◌++◌, ◌∷◌, [], false, map, is_some, sym, ap}
use Rattle.std.proofs.lemmas.List.{map-append}
use Rattle.semantics.specs.Deck.{look_up}
use Rattle.deck_cards.specs.Part.{part_of}
use Rattle.deck_cards.proofs.Once.{look_up_is, found_is}
use Rattle.deck_reader.proofs.IndexLemmas.{insert_new}
use Rattle.deck_reader.proofs.parts.Parts.with.Goals as goal

pub returns : goal.returns
returns c =
    let parts = c.self.inside.parts.entries in
    let name = c.args.name in
    let new : is_some (look_up name parts) ≡ false =
    ap is_some (sym (look_up_is name parts)) ∙ found_is part_of name parts ∙ ap (λ parts. is_some (look_up name parts)) c.self.view_is ∙ c.requires in
    ap (map (λ p. (p.0, part_of p.1))) (c.in_ok-insert.ensures.entries ∙ insert_new parts name c.args.part new)
    ∙ map-append (λ p. (p.0, part_of p.1)) parts ((name, c.args.part) ∷ [])
    ∙ ap (λ parts. parts ++ (name, part_of c.args.part) ∷ []) c.self.view_is
