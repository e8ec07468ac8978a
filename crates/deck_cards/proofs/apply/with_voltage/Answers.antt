use Rattle.std.proofs.Common.{◌≡◌, ◌∙◌, ◌++◌, ◌∷◌, [], fold, SFits, w64, ap, subst, sym, rules}
use Rattle.std.specs.Result.{IfOk}
use Rattle.std.proofs.lemmas.Int.{to_z-of_z}
use Rattle.std.proofs.lemmas.List.Sums.{fold-append}
use Rattle.deck_cards.specs.Settled.{put, put_all}
use Rattle.deck_cards.proofs.Once.{puts_apart}
use Rattle.deck_cards.proofs.apply.with_voltage.Goals as goal

pub returns : goal.returns
returns c =
    let vs = c.args.voltages.now.entries in
    let fits : SFits w64 c.args.volts = search rules in
    let pairs = c.in_ok-push.ensures.items ∙ (λ i. c.in_ok-pairs.ensures i ++ (c.in_ok-copy.ensures i, to_z-of_z w64 c.args.volts fits i) ∷ []) in
    let is = ap put_all pairs ∙ fold-append put [] vs ((c.args.node.now, c.args.volts) ∷ []) ∙ ap (λ qs. put qs (c.args.node.now, c.args.volts)) (puts_apart [] vs c.requires) in
    subst (λ qs. IfOk c.each_once.result (λ new. new.entries ≡ qs)) is c.each_once.ensures
