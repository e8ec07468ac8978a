use Rattle.std.proofs.Common.{◌∙◌, ◌++◌, ◌∷◌, [], Ok, Err, if◌then◌else◌, ap, sym, inl, inr}
use Rattle.std.specs.List.{list_any, flat_map}
use Rattle.std.specs.Str.{bytes_eq}
use Rattle.semantics.specs.Deck.{name_of}
use Rattle.semantics.specs.Valid.{driven_of}
use Rattle.deck_cards.specs.Causes.{first_that}
use Rattle.deck_reader.specs.Circuit.{elements_of}
use Rattle.deck_cards.specs.declared.which.Which.TheVariants.{Nodes}
use Rattle.deck_reader.specs.declared.why.DeckWhy.TheVariants.{Limit}
use Rattle.deck_reader.proofs.CircuitLemmas.{named_by, indexed_more, indexed, with_placed-at}
use Rattle.deck_reader.proofs.circuit.Circuit.with_placed.Goals as goal

pub note_element-requires : goal.note_element-requires
note_element-requires c =
    let inside = c.self.inside in
    record {
      named = named_by inside.placed c.args.self inside.names.keys (name_of c.args.element) c.self.invariant.named c.self.view_is ∙ c.requires.named;
      grounded = c.requires.grounded;
      fresh =
          ap (λ ks. first_that (λ n. list_any (bytes_eq n) ks) (driven_of c.args.element)) (c.self.invariant.drives ∙ ap (λ l. flat_map driven_of (elements_of l)) c.self.view_is)
          ∙ c.requires.driven;
    }

pub returns-then-is_over : goal.returns-then-is_over
returns-then-is_over c =
    let inside = c.self.inside in
    elim c.one_too_many.ensures [
      | inl memory ↦ inl memory
      | inr is ↦ inr (
          with_placed-at inside.placed c.args.self c.args.line c.args.element c.note_element.new.nodes.keys inside.nodes.keys c.is_over.result
          c.self.view_is c.self.invariant.nodes c.in_ok-note_element.ensures.nodes c.is_over.ensures
          ∙ ap (λ b. if b then Err (Limit Nodes (name_of c.args.element)) else Ok (c.args.self ++ (c.args.line, c.args.element) ∷ [])) c.if-is_over.true
          ∙ ap Err (sym is))
    ]

pub invariant_of-result : goal.invariant_of-result
invariant_of-result c =
    let inside = c.self.inside in
    let noted = c.in_ok-note_element.ensures in
    indexed _ _ _ _ _ _ _ _ (indexed_more inside.placed c.args.line c.args.element inside.names.keys inside.driven.keys inside.nodes.keys c.self.invariant)
    c.in_ok-with.ensures noted.names noted.driven noted.nodes

pub returns : goal.returns
returns c =
    let inside = c.self.inside in
    with_placed-at inside.placed c.args.self c.args.line c.args.element c.note_element.new.nodes.keys inside.nodes.keys c.is_over.result
    c.self.view_is c.self.invariant.nodes c.in_ok-note_element.ensures.nodes c.is_over.ensures
    ∙ ap (λ b. if b then Err (Limit Nodes (name_of c.args.element)) else Ok (c.args.self ++ (c.args.line, c.args.element) ∷ [])) c.if-is_over.false
    ∙ ap Ok (ap (λ l. l ++ (c.args.line, c.args.element) ∷ []) (sym c.self.view_is) ∙ sym c.in_ok-with.ensures)
