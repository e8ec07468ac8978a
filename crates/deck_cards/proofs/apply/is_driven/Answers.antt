use Rattle.std.proofs.Common.{◌≡◌, ◌∙◌, ℕ, ◌+◌, Bool, ◌||◌, List, [], ◌∷◌, ◌++◌, drop, refl, ap, sym}
use Rattle.std.specs.List.{list_any, flat_map}
use Rattle.std.specs.Str.{bytes_eq}
use Rattle.std.proofs.lemmas.List.Folds.{list_any-append}
use Rattle.semantics.specs.declared.element.Element.{Element}
use Rattle.semantics.specs.Valid.{driven_of}
use Rattle.deck_cards.specs.Causes.{is_driven}
use Rattle.deck_cards.proofs.Firsts.{dropped, none_left}
use Rattle.deck_cards.proofs.apply.is_driven.Goals as goal

each : List ℕ → Element → Bool
each n e = list_any (bytes_eq n) (driven_of e)

any_flat : (n : List ℕ) (es : List Element) → list_any (λ e. list_any (bytes_eq n) (driven_of e)) es ≡ is_driven es n
any_flat n [] = refl
any_flat n (e ∷ es) = (λ i. list_any (bytes_eq n) (driven_of e) || any_flat n es i) ∙ sym (list_any-append (bytes_eq n) (driven_of e) (flat_map driven_of es))

pub returns-then-drives : goal.returns-then-drives
returns-then-drives c =
    let n = c.args.node.now in
    let es = c.args.elements.now in
    let i = c.loop-element.element-index in
    let x = c.element-item.result in
    sym (sym (any_flat n es) ∙ c.loop-element.invariant ∙ ap (list_any (λ e. list_any (bytes_eq n) (driven_of e))) (dropped es i x x c.loop-element-test.true c.element-item.is)
    ∙ (λ k. (sym c.drives.ensures ∙ c.if-drives.true) k || list_any (λ e. list_any (bytes_eq n) (driven_of e)) (drop (i + 1) es)))

pub loop-element-preserved : goal.loop-element-preserved
loop-element-preserved c =
    let n = c.args.node.now in
    let es = c.args.elements.now in
    let i = c.loop-element.element-index in
    let x = c.element-item.result in
    c.loop-element.invariant ∙ ap (list_any (λ e. list_any (bytes_eq n) (driven_of e))) (dropped es i x x c.loop-element-test.true c.element-item.is)
    ∙ (λ k. (sym c.drives.ensures ∙ c.if-drives.false) k || list_any (λ e. list_any (bytes_eq n) (driven_of e)) (drop (i + 1) es))

pub returns : goal.returns
returns c =
    let n = c.args.node.now in
    let es = c.args.elements.now in
    sym (sym (any_flat n es) ∙ c.loop-element.invariant ∙ ap (list_any (λ e. list_any (bytes_eq n) (driven_of e))) (none_left es c.loop-element.element-index c.loop-element-test.false))
