use Rattle.std.proofs.Common.{◌≡◌, ◌∙◌, ℕ, ◌+◌, ◌<◌, ◌≤◌, List, [], ◌∷◌, ◌++◌, length, take, drop, get_or, map, None, refl, sym, ap, subst}
use Rattle.std.specs.List.{flat_map}
use Rattle.std.specs.Option.{option_or}
use Rattle.std.proofs.lemmas.List.{take_more, map-append, append-nil}
use Rattle.std.proofs.lemmas.List.Concat.{flat_map-append}
use Rattle.semantics.specs.declared.element.Element.{Element}
use Rattle.semantics.specs.Deck.{DeckValue, name_of}
use Rattle.semantics.specs.Valid.{driven_of}
use Rattle.deck_cards.specs.Answers.{Answers}
use Rattle.deck_cards.specs.Cards.{deck_of}
use Rattle.deck_cards.specs.Causes.{add_cause, adding_cause}
use Rattle.deck_cards.proofs.Firsts.{dropped, none_left, handed_on, refuses_first}
use Rattle.deck_cards.proofs.adding.add_each.Goals as goal

-- the causes from a place on
step : (d : DeckValue) (es : List Element) (i : ℕ) (e : Element) → i < length es → e ≡ get_or es i e
    → adding_cause d (take i es) (drop i es) ≡ option_or (add_cause d (take i es) e) (adding_cause d (take (i + 1) es) (drop (i + 1) es))
unfolding adding_cause
step d es i e within at =
    ap (adding_cause d (take i es)) (dropped es i e e within at)
    ∙ ap (λ l. option_or (add_cause d (take i es) e) (adding_cause d l (drop (i + 1) es))) (sym (take_more es i e within ∙ ap (λ x. take i es ++ x ∷ []) (sym at)))

last : (d : DeckValue) (before : List Element) → adding_cause d before [] ≡ None
unfolding adding_cause
last d before = refl

pub returns-in_err-add-clause-cause : goal.returns-in_err-add-clause-cause
returns-in_err-add-clause-cause c =
    let d = deck_of c.args.cards.now in
    let es = c.args.cards.now.elements.items in
    let i = c.loop-element.element-index in
    let x = c.element-item.result in
    let e = c.in_err-add.field-0.0 in
    let within = subst (λ l. i < length l) c.deref-element-items.ensures.value c.loop-element-test.true in
    let at = c.element-item.is ∙ ap (λ l. get_or l i x) c.deref-element-items.ensures.value in
    subst (Answers c.from_residual-in_err-add.result) (sym (c.loop-element.invariant.cause ∙ step d es i x within at))
    (handed_on c.from_residual-in_err-add.result e _ c.from_residual-in_err-add.ensures.1 (refuses_first e _ _ (c.in_err-add.ensures.cause (take i es) c.loop-element.invariant.names c.loop-element.invariant.driven)))

pub loop-element-preserved : goal.loop-element-preserved
loop-element-preserved c =
    let d = deck_of c.args.cards.now in
    let es = c.args.cards.now.elements.items in
    let i = c.loop-element.element-index in
    let x = c.element-item.result in
    let within = subst (λ l. i < length l) c.deref-element-items.ensures.value c.loop-element-test.true in
    let at = c.element-item.is ∙ ap (λ l. get_or l i x) c.deref-element-items.ensures.value in
    let front = take_more es i x within ∙ ap (λ y. take i es ++ y ∷ []) (sym at) in
    let none = c.in_ok-add.ensures.cause (take i es) c.loop-element.invariant.names c.loop-element.invariant.driven in
    record {
      names = c.in_ok-add.ensures.names ∙ ap (λ l. l ++ name_of x ∷ []) c.loop-element.invariant.names ∙ sym (ap (map name_of) front ∙ map-append name_of (take i es) (x ∷ []));
      driven = c.in_ok-add.ensures.driven ∙ ap (λ l. l ++ driven_of x) c.loop-element.invariant.driven
          ∙ sym (ap (flat_map driven_of) front ∙ flat_map-append driven_of (take i es) (x ∷ []) ∙ ap (λ l. flat_map driven_of (take i es) ++ l) (append-nil (driven_of x)));
      cause = c.loop-element.invariant.cause ∙ step d es i x within at ∙ ap (λ o. option_or o (adding_cause d (take (i + 1) es) (drop (i + 1) es))) none;
    }

pub returns-clause-cause : goal.returns-clause-cause
returns-clause-cause c =
    let d = deck_of c.args.cards.now in
    let es = c.args.cards.now.elements.items in
    let i = c.loop-element.element-index in
    let end = subst (λ l. length l ≤ i) c.deref-element-items.ensures.value c.loop-element-test.false in
    c.loop-element.invariant.cause ∙ ap (adding_cause d (take i es)) (none_left es i end) ∙ last d (take i es)
