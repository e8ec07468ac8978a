use Rattle.std.proofs.Common.{◌≡◌, ℕ, not, List, [], ◌∷◌, map, Option, refl, sym, ◌∙◌, ap, subst}
use Rattle.std.specs.List.{flat_map, list_any}
use Rattle.std.specs.Option.{option_map}
use Rattle.std.specs.Str.{bytes_eq}
use Rattle.semantics.specs.declared.element.Element.{Element}
use Rattle.semantics.specs.Deck.{DeckValue, name_of}
use Rattle.semantics.specs.Valid.{driven_of, has_part, is_grounded}
use Rattle.deck_cards.specs.declared.edit_refusal.EditRefusal.{EditRefusal}
use Rattle.deck_cards.specs.declared.edit_refusal.EditRefusal.TheVariants.{DuplicateName, NoSuchModel, NotGrounded, TwoDrivers}
use Rattle.deck_cards.specs.Answers.{Answers}
use Rattle.deck_cards.specs.Cards.{deck_of}
use Rattle.deck_cards.specs.Causes.{when, first_of, first_that, part_name, add_cause}
use Rattle.deck_cards.proofs.Firsts.{handed_on, refuses_first, refuses_next, answers_next, or_none}
use Rattle.deck_cards.proofs.Once.{any_map}
use Rattle.deck_cards.proofs.adding.add.Goals as goal

-- the four causes, by the names and the driven nodes of the elements before
by_names : DeckValue → List (List ℕ) → List (List ℕ) → Element → Option EditRefusal
by_names d names driven e = first_of (
    when (list_any (bytes_eq (name_of e)) names) (DuplicateName (name_of e))
    ∷ when (not (has_part d e)) (NoSuchModel (part_name e))
    ∷ when (not (is_grounded e)) (NotGrounded (name_of e))
    ∷ option_map TwoDrivers (first_that (λ n. list_any (bytes_eq n) driven) (driven_of e))
    ∷ [])

same_cause : (d : DeckValue) (before : List Element) (e : Element) (names driven : List (List ℕ)) → names ≡ map name_of before → driven ≡ flat_map driven_of before
    → by_names d names driven e ≡ add_cause d before e
unfolding by_names add_cause
same_cause d before e names driven is_names is_driven = λ i. first_of (
    when ((ap (list_any (bytes_eq (name_of e))) is_names ∙ any_map (bytes_eq (name_of e)) name_of before) i) (DuplicateName (name_of e))
    ∷ when (not (has_part d e)) (NoSuchModel (part_name e))
    ∷ when (not (is_grounded e)) (NotGrounded (name_of e))
    ∷ option_map TwoDrivers (first_that (λ n. list_any (bytes_eq n) (is_driven i)) (driven_of e))
    ∷ [])

pub returns-in_err-add_name-clause-cause : goal.returns-in_err-add_name-clause-cause
unfolding by_names
returns-in_err-add_name-clause-cause c = λ before names driven.
    subst (Answers c.from_residual.result) (same_cause (deck_of c.args.cards.now) before c.args.element.now c.args.names.now.keys c.args.driven.now.keys names driven)
    (handed_on c.from_residual.result c.in_err-add_name.field-0.0 (by_names (deck_of c.args.cards.now) c.args.names.now.keys c.args.driven.now.keys c.args.element.now) c.from_residual.ensures.1
    (refuses_first c.in_err-add_name.field-0.0 _ _ c.in_err-add_name.ensures.cause))

pub returns-in_err-check_part-clause-cause : goal.returns-in_err-check_part-clause-cause
unfolding by_names
returns-in_err-check_part-clause-cause c = λ before names driven.
    let r = c.from_residual-in_err-check_part.result in
    let e = c.in_err-check_part.field-0.0 in
    subst (Answers r) (same_cause (deck_of c.args.cards.now) before c.args.element.now c.args.names.now.keys c.args.driven.now.keys names driven)
    (handed_on r e (by_names (deck_of c.args.cards.now) c.args.names.now.keys c.args.driven.now.keys c.args.element.now) c.from_residual-in_err-check_part.ensures.1
    (refuses_next e _ _ c.in_ok-add_name.ensures.cause (refuses_first e _ _ (c.in_err-check_part.ensures (deck_of c.args.cards.now) refl))))

pub returns-in_err-check_grounded-clause-cause : goal.returns-in_err-check_grounded-clause-cause
unfolding by_names
returns-in_err-check_grounded-clause-cause c = λ before names driven.
    let r = c.from_residual-in_err-check_grounded.result in
    let e = c.in_err-check_grounded.field-0.0 in
    subst (Answers r) (same_cause (deck_of c.args.cards.now) before c.args.element.now c.args.names.now.keys c.args.driven.now.keys names driven)
    (handed_on r e (by_names (deck_of c.args.cards.now) c.args.names.now.keys c.args.driven.now.keys c.args.element.now) c.from_residual-in_err-check_grounded.ensures.1
    (refuses_next e _ _ c.in_ok-add_name.ensures.cause (refuses_next e _ _ (c.in_ok-check_part.ensures (deck_of c.args.cards.now) refl) (refuses_first e _ _ c.in_err-check_grounded.ensures))))

pub returns-clause-cause : goal.returns-clause-cause
unfolding by_names
returns-clause-cause c = λ before names driven.
    let r = c.add_driven.result in
    subst (Answers r) (same_cause (deck_of c.args.cards.now) before c.args.element.now c.args.names.now.keys c.args.driven.now.keys names driven)
    (answers_next r _ _ c.in_ok-add_name.ensures.cause (answers_next r _ _ (c.in_ok-check_part.ensures (deck_of c.args.cards.now) refl) (answers_next r _ _ c.in_ok-check_grounded.ensures
    (subst (Answers r) (sym (or_none (option_map TwoDrivers (first_that (λ n. list_any (bytes_eq n) c.args.driven.now.keys) (driven_of c.args.element.now))))) c.add_driven.ensures.cause))))
