-- Both products and their sum fit 128 bits, so the casts change nothing.
use Rattle.std.proofs.Common.{◌≡◌, ◌-◌, ℕ, ℤ, refl, ◌∙◌, arith, rules, FitsSigned}
use mir.Syntax.{w64, w128}
use Rattle.std.proofs.lemmas.Int.{to_z-of_z}
use Rattle.semantics.specs.Source.{between}
use Rattle.circuit_model.proofs.Sources.{weight_kept, line_fits}
use Rattle.circuit_model.proofs.source.between.Goals as goal

pub overflow_add-result : goal.overflow_add-result
overflow_add-result c =
    let p : ℕ × ℤ = c.args.from.now in
    let q : ℕ × ℤ = c.args.to.now in
    let t : ℕ = c.args.tick in
    let low_fits : FitsSigned w64 p.1 = search rules in
    let high_fits : FitsSigned w64 q.1 = search rules in
    let low : c.from.result ≡ p.1 = c.from.ensures ∙ to_z-of_z w64 p.1 low_fits in
    let high : c.from-3.result ≡ q.1 = c.from-3.ensures ∙ to_z-of_z w64 q.1 high_fits in
    rw (low, high, weight_kept p.1 c.from-2.result (q.0 - t) c.requires.from (omega arith) c.from-2.ensures, weight_kept q.1 c.from-4.result (t - p.0) c.requires.to (omega arith) c.from-4.ensures)
    (line_fits p q t c.requires.short c.requires.ahead c.requires.from c.requires.to)

pub returns : goal.returns
returns c =
    let p : ℕ × ℤ = c.args.from.now in
    let q : ℕ × ℤ = c.args.to.now in
    let t : ℕ = c.args.tick in
    let low_fits : FitsSigned w64 p.1 = search rules in
    let high_fits : FitsSigned w64 q.1 = search rules in
    let low : c.from.result ≡ p.1 = c.from.ensures ∙ to_z-of_z w64 p.1 low_fits in
    let high : c.from-3.result ≡ q.1 = c.from-3.ensures ∙ to_z-of_z w64 q.1 high_fits in
    rw (
      low,
      high,
      weight_kept p.1 c.from-2.result (q.0 - t) c.requires.from (omega arith) c.from-2.ensures,
      weight_kept q.1 c.from-4.result (t - p.0) c.requires.to (omega arith) c.from-4.ensures,
      to_z-of_z w128 (between p q t).num (line_fits p q t c.requires.short c.requires.ahead c.requires.from c.requires.to),
    ) refl
