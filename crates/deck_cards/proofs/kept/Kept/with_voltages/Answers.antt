use Rattle.std.proofs.Common.{◌≡◌, ◌∙◌, ℕ, ℤ, true, List, [], map, fold, ap, subst, sym}
use Rattle.std.specs.Arc.{arc_value}
use Rattle.std.specs.List.{flat_map}
use Rattle.semantics.specs.declared.element.Element.{Element}
use Rattle.semantics.specs.Deck.{DeckValue, ends_of, name_of, nodes, with_node}
use Rattle.semantics.specs.Valid.{is_valid}
use Rattle.deck_cards.specs.declared.facts.NodeFacts.{NodeFacts}
use Rattle.deck_cards.specs.declared.frame.Frame.{Frame}
use Rattle.deck_cards.specs.Cards.{framed}
use Rattle.deck_cards.specs.Facts.{IsIndex, known}
use Rattle.deck_cards.proofs.kept.Kept.with_voltages.Goals as goal

-- what is kept of elements stays where the initial voltages are others
moved : (f g : Frame) (i j : List (List ℕ × ℤ)) (es fs : List Element) (ns ms ks ls : List (List ℕ)) (row now : List NodeFacts) → fs ≡ es → ms ≡ ns → ls ≡ ks → now ≡ row
    → IsIndex (framed f i es) ns ks row → is_valid (framed g j fs) ≡ true → IsIndex (framed g j fs) ms ls now
unfolding nodes
moved f g i j es fs ns ms ks ls row now same names keys facts old valid = record {
  valid = valid;
  names = names ∙ old.names ∙ ap (map name_of) (sym same);
  table = record {
    names = keys ∙ old.table.names ∙ ap (λ l. fold with_node [] (flat_map ends_of l)) (sym same);
    facts = facts ∙ old.table.facts ∙ ap (λ l. map (known l) (fold with_node [] (flat_map ends_of l))) (sym same);
  };
}

pub invariant_of-result : goal.invariant_of-result
invariant_of-result c =
    let same = ap (λ v. v.items) c.in_ok-try_clone-2.ensures in
    let put = ap (λ m. m.entries) c.in_ok-new.ensures.ok in
    let is = (λ k. framed (c.in_ok-try_clone.ensures k) (put k) (same k)) ∙ ap (λ (d : DeckValue). record d { initial = c.args.initial.entries }) c.self.view_is in
    moved (arc_value c.self.inside.frame) (arc_value c.in_ok-try_clone.field-0) (arc_value c.self.inside.initial).entries (arc_value c.in_ok-new.field-0).entries _ _ _ _ _ _ _ _ same (ap (λ s. s.keys) c.in_ok-try_clone-3.ensures) (ap (λ s. s.keys) c.in_ok-try_clone-4.ensures) (ap (λ v. v.items) c.in_ok-try_clone-5.ensures)
    c.self.invariant (subst (λ d. is_valid d ≡ true) (sym is) c.requires)
