-- The files are those of as many names as there are.
use Rattle.std.proofs.Common.{◌∙◌, map, option_map, string_bytes, ap, sym, arith}
use Rattle.wave_shell.specs.Words.{names_of}
use Rattle.wave_shell.proofs.Names.{unfit, one_named, two_named, none_named}
use Rattle.wave_shell.proofs.words.files.Goals as goal

pub returns-in_err-front : goal.returns-in_err-front
returns-in_err-front c = ap (option_map names_of) c.from_residual.ensures
    ∙ sym (unfit (map string_bytes c.args.words.now) (c.in_err-front.ensures {u = tt}))

pub returns-in-1 : goal.returns-in-1
returns-in-1 c = sym (one_named string_bytes (map string_bytes c.args.words.now) c.in_ok-front.front.now
    c.in_ok-front.back.now c.name_at.result.now (c.in_ok-front.ensures {u = tt}) (omega arith) c.name_at.ensures)

pub returns-in-2 : goal.returns-in-2
returns-in-2 c = sym (two_named string_bytes (map string_bytes c.args.words.now) c.in_ok-front.front.now
    c.in_ok-front.back.now c.name_at-in-2.result.now c.name_at-in-2-2.result.now (c.in_ok-front.ensures {u = tt})
    (omega arith) c.name_at-in-2.ensures c.name_at-in-2-2.ensures)

pub returns-in_default : goal.returns-in_default
returns-in_default c = sym (none_named string_bytes (map string_bytes c.args.words.now) c.in_ok-front.front.now
    c.in_ok-front.back.now (c.in_ok-front.ensures {u = tt}) (λ e. omega arith) (λ e. omega arith))
