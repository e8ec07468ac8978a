-- The two ends gain what the device gains.
use Rattle.std.proofs.Common.{◌≡◌, ℕ, ℤ, cond, get_or, pos, ◌+ℤ◌, ◌-ℤ◌, to_z, of_z, sym, ap, ◌∙◌, arith}
use Rattle.std.specs.Int.{w128}
use Rattle.std.proofs.lemmas.Int.{ints, to_z-of_z, fits_signed_from_abs}
use Rattle.window_run.specs.Net.{Net, leads_to}
use Rattle.window_run.specs.Circuit.{net_of}
use Rattle.window_run.proofs.Flows.{through}
use Rattle.window_run.proofs.flow.let_flow.Goals as goal

pub returns-clause-rates : goal.returns-clause-rates
returns-clause-rates c = λ i.
    let net : Net = net_of c.args.circuit.now in
    let k : ℕ = c.args.device in
    let gain : ℤ = c.args.gain in
    let kept : to_z w128 (of_z w128 gain) ≡ gain = to_z-of_z w128 gain (fits_signed_from_abs w128 gain (omega (arith, c.requires.gain))) in
    let less : to_z w128 (of_z w128 ((pos 0) -ℤ gain)) ≡ (pos 0) -ℤ gain = to_z-of_z w128 ((pos 0) -ℤ gain) (fits_signed_from_abs w128 ((pos 0) -ℤ gain) (omega (arith, ints, c.requires.gain))) in
    let one : get_or c.give.new.rates i (pos 0) ≡ get_or c.args.rates.now i (pos 0) +ℤ (cond (leads_to i (net.first k)) ((pos 0) -ℤ gain) (pos 0)) = rw (kept, less, c.ends-first.ensures.first) at (c.in_ok-give.ensures.rates i) in
    let two : get_or c.give-2.new.rates i (pos 0) ≡ get_or c.give.new.rates i (pos 0) +ℤ (cond (leads_to i (net.second k)) gain (pos 0)) = rw (kept, c.ends-first.ensures.second) at (c.in_ok-give-2.ensures.rates i) in
    two ∙ ap (λ z. z +ℤ (cond (leads_to i (net.second k)) gain (pos 0))) one ∙ through (leads_to i (net.second k)) (leads_to i (net.first k)) (get_or c.args.rates.now i (pos 0)) gain
