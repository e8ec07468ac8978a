-- The words behind the name are those of the source, and their fault is that of the line.
use Rattle.std.proofs.Common.{rules, drop, ◌≡◌, ◌<◌, length, ◌∷◌}
use Rattle.wave_script.proofs.CardSays.{wave_err}
use Rattle.wave_script.proofs.edits.wave_line.Goals as goal

pub returns-in-Err : goal.returns-in-Err
returns-in-Err c =
    let e : drop 1 c.args.line.now.words ≡ c.in_ok-name.name ∷ c.next.new.self = search rules in
    let some : 0 < length c.next.new.self = search rules in
    rw c.card_why.ensures (wave_err c.args.line.now c.next.new.self c.in_ok-name.name c.in-Err.why e some (c.in-Err.ensures {u = tt}))
