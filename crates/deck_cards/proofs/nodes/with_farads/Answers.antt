use Rattle.std.proofs.Common.{◌∙◌, ◌++◌, length, take, drop, ap, sym}
use Rattle.std.specs.List.{each_same}
use Rattle.std.proofs.Math.Seq.{take-append_seam}
use Rattle.std.proofs.lemmas.List.{length-map}
use Rattle.deck_cards.proofs.nodes.with_farads.Goals as goal

pub returns : goal.returns
returns c f was =
    let keys = c.args.names.now.keys in
    let new = c.add_farads.new.facts in
    let old = c.deref_mut.ensures.value ∙ each_same c.args.facts.now.items c.in_ok-new.new.items c.in_ok-new.ensures.cases.0 ∙ was in
    let made = c.add_farads.ensures f old in
    let long = sym c.deref_mut.ensures.len ∙ ap length old ∙ length-map keys f ∙ sym (ap length made ∙ length-map keys _) in
    ap (λ k. take k (new ++ drop (length new) c.in_ok-new.new.items)) long ∙ take-append_seam new (drop (length new) c.in_ok-new.new.items) ∙ made
