use Rattle.std.proofs.Common.{◌∙◌, sym}
use Rattle.deck_reader.proofs.CircuitLemmas.{is_clear}
use Rattle.deck_reader.proofs.circuit.Circuit.with_element.Goals as goal

pub with_placed-requires : goal.with_placed-requires
with_placed-requires c =
    let clear = is_clear c.args.self c.args.element (sym c.in_ok-why.ensures ∙ c.in-None.is) in
    record { named = clear.named; grounded = clear.grounded; driven = clear.free }
