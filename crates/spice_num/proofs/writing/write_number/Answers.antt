-- The text is that of the number, and such a text reads back.
use Rattle.std.proofs.Common.{◌≡◌, Ok, rules, string_bytes}
use Rattle.std.proofs.lemmas.Result.{IfOk-weaker}
use Rattle.spice_num.specs.Number.{number_of, number_text}
use Rattle.spice_num.proofs.Written.{written_reads}
use Rattle.spice_num.proofs.writing.write_number.Goals as goal

pub returns-clause-reads_back : goal.returns-clause-reads_back
returns-clause-reads_back c =
    IfOk-weaker c.format.result
    (λ s. string_bytes s ≡ number_text c.args.value c.args.unit)
    (λ s. number_of c.args.unit (string_bytes s) ≡ Ok c.args.value)
    (λ s e. rw e (written_reads c.args.value c.args.unit c.requires))
    (search rules)
