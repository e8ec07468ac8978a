-- Only the element of its name can have its form.
use Rattle.std.proofs.Common.{◌∙◌}
use Rattle.edit_damage.proofs.Alike.{named_at_place, none_named_same}
use Rattle.edit_damage.proofs.same.has_element.Goals as goal

pub returns-in-None : goal.returns-in-None
returns-in-None c = none_named_same c.args.element.now c.args.deck.now.elements c.name.result.now c.in-None.ensures.none c.name.ensures

pub returns-in-Some : goal.returns-in-Some
returns-in-Some c =
    c.is_same.ensures
    ∙ named_at_place c.args.element.now c.element.result.now c.args.deck.now.elements c.in-Some.place c.name.result.now c.have_names.ensures c.element.ensures c.in-Some.ensures.found c.name.ensures
