use Rattle.std.proofs.Common.{◌≡◌, ◌∙◌, IsTrue, true, None, Result, subst, sym}
use Rattle.std.specs.Result.{IsErrAnd}
use Rattle.std.specs.List.{list_all}
use Rattle.std.proofs.lemmas.List.Folds.{list_all-map}
use Rattle.semantics.specs.Deck.{DeckValue}
use Rattle.semantics.specs.Valid.{is_valid, is_part, in_limits}
use Rattle.deck_cards.specs.declared.edit_refusal.EditRefusal.{EditRefusal}
use Rattle.deck_cards.specs.declared.settled.Settled.{Settled}
use Rattle.deck_cards.specs.Answers.{Refuses, Answers}
use Rattle.deck_cards.specs.Cards.{deck_of}
use Rattle.deck_cards.specs.Causes.{deck_cause}
use Rattle.deck_cards.specs.Part.{part_of}
use Rattle.deck_cards.specs.Settled.{settled}
use Rattle.deck_cards.proofs.Firsts.{handed_on}
use Rattle.deck_cards.proofs.Once.{once}
use Rattle.deck_cards.proofs.Validity.{none_valid, valid_none}
use Rattle.deck_cards.proofs.deck.Deck.of.Goals as goal

-- what is refused for a cause of the cards is refused for that of the parts
told : {A : Type 0} (r : Result A EditRefusal) (e : EditRefusal) (d s : DeckValue) → d ≡ s → IsErrAnd r (λ x. x ≡ e) → Refuses e (deck_cause d) → Answers r (deck_cause s)
told r e d s same is h = handed_on r e (deck_cause s) is (subst (λ x. Refuses e (deck_cause x)) same h)

-- a valid deck is refused for want of memory alone
never : {A : Type 0} (r : Result A EditRefusal) (s : DeckValue) → Answers r (deck_cause s) → IsTrue (is_valid s) → Answers r None
never r s h valid = subst (Answers r) (valid_none s valid) h

pub returns-in_err-names-clause-cause : goal.returns-in_err-names-clause-cause
returns-in_err-names-clause-cause c =
    told c.from_residual-in_err-names.result c.in_err-names.field-0.0 (deck_of c.in_ok-cards.cards) (settled c.args.parts) c.in_ok-cards.ensures
    c.from_residual-in_err-names.ensures.1 c.in_err-names.ensures.cause

pub returns-in_err-names-clause-complete : goal.returns-in_err-names-clause-complete
returns-in_err-names-clause-complete c = never c.from_residual-in_err-names.result (settled c.args.parts) (returns-in_err-names-clause-cause c)

-- ---- the deck

valid : (cards : Settled) (parts : DeckValue) → deck_of cards ≡ settled parts → deck_cause (deck_of cards) ≡ None → list_all (λ p. is_part (part_of p.1)) cards.parts.entries ≡ true
    → list_all in_limits cards.elements.items ≡ true → is_valid (deck_of cards) ≡ true
valid cards parts same none each elements =
    let apart = once (deck_of cards) parts same in
    none_valid (deck_of cards) none apart.0 (list_all-map (λ p. is_part p.1) (λ p. (p.0, part_of p.1)) cards.parts.entries ∙ each) apart.1 elements

pub of-requires-2 : goal.of-requires-2
of-requires-2 c = record { valid = valid c.in_ok-cards.cards c.args.parts c.in_ok-cards.ensures c.in_ok-names.ensures.cause c.in_ok-names.ensures.parts c.in_ok-names.ensures.elements; names = c.in_ok-names.ensures.names; table = c.in_ok-names.ensures.table }

pub returns-clause-deck : goal.returns-clause-deck
returns-clause-deck c = c.in_ok-keeping.ensures ∙ c.in_ok-of.ensures ∙ c.in_ok-cards.ensures

pub returns-clause-valid : goal.returns-clause-valid
returns-clause-valid c = subst (λ d. is_valid d ≡ true) (sym (c.in_ok-keeping.ensures ∙ c.in_ok-of.ensures))
    (valid c.in_ok-cards.cards c.args.parts c.in_ok-cards.ensures c.in_ok-names.ensures.cause c.in_ok-names.ensures.parts c.in_ok-names.ensures.elements)

pub returns-clause-cause : goal.returns-clause-cause
returns-clause-cause c = subst (λ d. deck_cause d ≡ None) c.in_ok-cards.ensures c.in_ok-names.ensures.cause
