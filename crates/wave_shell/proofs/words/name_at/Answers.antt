use Rattle.std.proofs.Common.{◌-◌, length, Some, string_bytes, sym, ap, ◌∙◌, arith}
use Rattle.std.proofs.lemmas.List.{length-append}
use Rattle.wave_shell.proofs.Names.{in_back}
use Rattle.wave_shell.proofs.words.name_at.Goals as goal

pub returns-else-place-front : goal.returns-else-place-front
returns-else-place-front c =
    in_back string_bytes c.args.front.now c.args.back.now c.args.place (c.args.place - length c.args.front.now)
    c.index-back-place.result
    (omega arith) (omega (arith, length-append c.args.front.now c.args.back.now))
    ∙ ap (λ text. Some text) (ap string_bytes (sym c.index-back-place.is) ∙ sym c.as_str-else-place-front.ensures.value)
