use Rattle.std.proofs.Common.{◌∙◌, sym, subst, arith, Some}
use Rattle.std.specs.Option.{option_map}
use Rattle.deck_cards.specs.declared.which.Which.TheVariants.{Volts}
use Rattle.deck_reader.specs.declared.why.DeckWhy.TheVariants.{Limit}
use Rattle.deck_reader.specs.Voltages.{IsSeen}
use Rattle.deck_reader.proofs.VoltageLemmas.{drop-back, seen_none, seen_again, seen_small, seen_large}
use Rattle.deck_reader.proofs.initial.voltage_limit.Goals as goal

pub loop-left-init : goal.loop-left-init
loop-left-init c = record { within = omega arith; seen = seen_none c.args.voltages.now _ c.new-later.ensures.empty }

pub loop-left-preserved-then-not-is_small : goal.loop-left-preserved-then-not-is_small
loop-left-preserved-then-not-is_small c =
    let all = c.args.voltages.now in
    let step = drop-back all c.loop-left.left c.index-voltages-left.result (omega arith) c.loop-left.invariant.within c.index-voltages-left.is in
    record {
      within = omega arith;
      seen = subst (λ vs. IsSeen vs c.note_name.new.names.keys (Some (Limit Volts c.index-voltages-left.result.0))) (sym step)
          (seen_large c.index-voltages-left.result _ c.loop-left.later.keys _ _ c.loop-left.invariant.seen c.in_ok-note_name.ensures
          (sym c.is_named.ensures ∙ c.if-not-is_named.true) (sym c.is_small.ensures ∙ c.if-not-is_small.true));
    }

pub loop-left-preserved-else-not-is_small : goal.loop-left-preserved-else-not-is_small
loop-left-preserved-else-not-is_small c =
    let all = c.args.voltages.now in
    let step = drop-back all c.loop-left.left c.index-voltages-left.result (omega arith) c.loop-left.invariant.within c.index-voltages-left.is in
    record {
      within = omega arith;
      seen = subst (λ vs. IsSeen vs c.note_name.new.names.keys (option_map (λ n. Limit Volts n.now) c.loop-left.found)) (sym step)
          (seen_small c.index-voltages-left.result _ c.loop-left.later.keys _ _ c.loop-left.invariant.seen c.in_ok-note_name.ensures
          (sym c.is_named.ensures ∙ c.if-not-is_named.true) (sym c.is_small.ensures ∙ c.if-not-is_small.false));
    }

pub loop-left-preserved : goal.loop-left-preserved
loop-left-preserved c =
    let all = c.args.voltages.now in
    let step = drop-back all c.loop-left.left c.index-voltages-left.result (omega arith) c.loop-left.invariant.within c.index-voltages-left.is in
    record {
      within = omega arith;
      seen = subst (λ vs. IsSeen vs c.loop-left.later.keys (option_map (λ n. Limit Volts n.now) c.loop-left.found)) (sym step)
          (seen_again c.index-voltages-left.result _ c.loop-left.later.keys _ c.loop-left.invariant.seen (sym c.is_named.ensures ∙ c.if-not-is_named.false));
    }
