use Rattle.std.proofs.Common.{◌≡◌, ◌∙◌, [], length, sym, ap, arith}
use Rattle.std.specs.List.{position_from}
use Rattle.std.specs.Str.{bytes_eq}
use Rattle.std.proofs.lemmas.List.{nil_from_length}
use Rattle.deck_reader.proofs.words.Words.find.Goals as goal

pub returns-clause-place : goal.returns-clause-place
returns-clause-place c =
    let left : length c.loop-place.words ≡ 0 = omega (arith, c.loop-place.invariant.1, c.loop-place-test.false, c.len-place-end.ensures) in
    let none : c.loop-place.words ≡ [] = nil_from_length c.loop-place.words left in
    ap (position_from (λ word. bytes_eq word c.args.text.now) c.loop-place.place) (sym none) ∙ sym c.loop-place.invariant.0
