use Rattle.std.proofs.Common.{◌≡◌, ◌∙◌, [], ◌∷◌, ◌++◌, Some, not, true, map, take, slice_get, ap, sym}
use Rattle.std.specs.List.{list_any}
use Rattle.std.specs.Option.{option_map}
use Rattle.std.specs.Str.{bytes_eq}
use Rattle.std.proofs.lemmas.List.{take_more, map-append, take-map}
use Rattle.std.proofs.lemmas.Option.{slice_get-map, slice_get-get_or}
use Rattle.semantics.specs.Deck.{name_of}
use Rattle.deck_cards.proofs.Finding.{none_before}
use Rattle.deck_cards.proofs.apply.names_of.Goals as goal

pub loop-element-preserved : goal.loop-element-preserved
loop-element-preserved c =
    let es = c.args.elements.now in
    let i = c.loop-element.element-index in
    let x = c.element-item.result in
    let n = name_of x in
    let front = take_more es i x c.loop-element-test.true ∙ ap (λ y. take i es ++ y ∷ []) (sym c.element-item.is) in
    let at : slice_get (map name_of es) i ≡ Some n = slice_get-map name_of es i ∙ ap (option_map name_of) (slice_get-get_or es i x c.loop-element-test.true ∙ ap Some (sym c.element-item.is)) in
    let new = none_before (map name_of es) i n c.requires at in
    let free = ap (λ l. list_any (bytes_eq n) l) (c.loop-element.invariant ∙ sym (take-map name_of i es)) ∙ new in
    c.in_ok-insert.ensures.keys (c.in_ok-insert.ensures.fresh ∙ ap (λ m. not (list_any (bytes_eq m) c.loop-element.names.keys)) c.name.ensures ∙ ap not free)
    ∙ (λ k. c.loop-element.invariant k ++ c.name.ensures k ∷ [])
    ∙ sym (ap (map name_of) front ∙ map-append name_of (take i es) (x ∷ []))
