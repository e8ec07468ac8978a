use Rattle.std.proofs.Common.{◌≡◌, ◌∙◌, List, ℕ, Bool, Some, map, ap, sym}
use Rattle.std.specs.List.{list_any}
use Rattle.std.specs.Str.{bytes_eq}
use Rattle.semantics.specs.declared.element.Element.{Element}
use Rattle.semantics.specs.Deck.{name_of}
use Rattle.deck_cards.specs.declared.edit_refusal.EditRefusal.TheVariants.{DuplicateName}
use Rattle.deck_cards.specs.Causes.{when, is_named}
use Rattle.deck_cards.proofs.Once.{any_map}
use Rattle.deck_cards.proofs.apply.check_name.Goals as goal

asked : (es : List Element) (n m : List ℕ) (keys : List (List ℕ)) (r : Bool) → keys ≡ map name_of es → m ≡ n → r ≡ list_any (bytes_eq m) keys → is_named es n ≡ r
asked es n m keys r same is has = sym (any_map (bytes_eq n) name_of es) ∙ (λ i. list_any (bytes_eq (sym is i)) (sym same i)) ∙ sym has

pub returns-then-contains : goal.returns-then-contains
returns-then-contains c =
    let n = name_of c.args.element.now in
    let named = asked c.args.kept.now.elements n c.name-name.result.now c.element_names.result.now.keys c.contains.result c.element_names.ensures c.name-name.ensures c.contains.ensures in
    (λ i. when ((named ∙ c.if-contains.true) i) (DuplicateName n)) ∙ ap (λ m. Some (DuplicateName m)) (sym (c.in_ok-copy.ensures ∙ c.name-name.ensures))

pub returns : goal.returns
returns c =
    let n = name_of c.args.element.now in
    let named = asked c.args.kept.now.elements n c.name-name.result.now c.element_names.result.now.keys c.contains.result c.element_names.ensures c.name-name.ensures c.contains.ensures in
    λ i. when ((named ∙ c.if-contains.false) i) (DuplicateName n)
