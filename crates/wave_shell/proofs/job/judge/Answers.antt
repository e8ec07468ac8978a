-- Each way out of reading gives what the words and the bytes give.
use Rattle.std.proofs.Common.{◌≡◌, List, ℕ, Option, Some, Result, Ok, Err, map, sym, ap, subst}
use Rattle.std.specs.Prelude.{string_bytes, IfSome}
use Rattle.std.specs.Option.{option_map}
use Rattle.wave_script.specs.declared.command.Command.{Command}
use Rattle.wave_shell.specs.declared.refusal.Stop.{Stop}
use Rattle.wave_shell.specs.declared.job.Job.{Job}
use Rattle.wave_shell.specs.Program.{judged_script}
use Rattle.wave_shell.specs.Words.{FilesValue, files, names_of}
use Rattle.wave_shell.specs.Endings.{JudgesFile, JudgesWords}
use Rattle.wave_shell.proofs.Judging.{unfit, deck_stops, deck_alone, script_passes, script_stops, handed_on}
use Rattle.wave_shell.proofs.job.judge.Goals as goal

pub returns-in_default-clause-judged : goal.returns-in_default-clause-judged
returns-in_default-clause-judged g c =
    unfit (g.S.Shelf.bytes c.args.shelf.now) (g.S.Shelf.faults c.args.shelf.now) (g.S.Shelf.faults c.args.shelf.now)
    (map string_bytes c.args.words.now) (sym c.in_default.ensures)

pub returns-in_err-deck-clause-judged : goal.returns-in_err-deck-clause-judged
returns-in_err-deck-clause-judged g c =
    let b : List ℕ → Option (List ℕ) = g.S.Shelf.bytes c.args.shelf.now in
    let f : List ℕ → ℕ = g.S.Shelf.faults c.args.shelf.now in
    let last : List ℕ → ℕ = g.S.Shelf.faults c.read_deck.new.shelf in
    let words : List (List ℕ) = map string_bytes c.args.words.now in
    let named : FilesValue = names_of c.in-Some.files in
    let at : files words ≡ Some named = sym c.in-Some.ensures in
    let ends = c.in_err-deck.ensures {u = tt} in
    handed_on c.from_residual.result c.in_err-deck.field-0.0 (λ (r : Result Job Stop). JudgesWords b f last words r)
    c.from_residual.ensures.1
    (deck_stops b f last words named c.in_err-deck.field-0.0 at ends.judged ends.kind)

pub returns-in_default-script-clause-judged : goal.returns-in_default-script-clause-judged
returns-in_default-script-clause-judged g c =
    let b : List ℕ → Option (List ℕ) = g.S.Shelf.bytes c.args.shelf.now in
    let words : List (List ℕ) = map string_bytes c.args.words.now in
    let named : FilesValue = names_of c.in-Some.files in
    let at : files words ≡ Some named = sym c.in-Some.ensures in
    deck_alone b (g.S.Shelf.faults c.args.shelf.now) (g.S.Shelf.faults c.read_deck.new.shelf) words named
    c.in_ok-deck.deck at (ap (option_map (λ name. name.now)) c.in_default-script.is)
    (c.in_ok-deck.ensures {u = tt}).judged

pub returns-in_err-script-clause-judged : goal.returns-in_err-script-clause-judged
returns-in_err-script-clause-judged g c =
    let b : List ℕ → Option (List ℕ) = g.S.Shelf.bytes c.args.shelf.now in
    let f : List ℕ → ℕ = g.S.Shelf.faults c.args.shelf.now in
    let last : List ℕ → ℕ = g.S.Shelf.faults c.read_lines.new.shelf in
    let words : List (List ℕ) = map string_bytes c.args.words.now in
    let named : FilesValue = names_of c.in-Some.files in
    let name : List ℕ = c.in-Some-script.name.now in
    let at : files words ≡ Some named = sym c.in-Some.ensures in
    let ends = c.in_err-script.ensures {u = tt} in
    handed_on c.from_residual-in_err-script.result c.in_err-script.field-0.0
    (λ (r : Result Job Stop). JudgesWords b f last words r) c.from_residual-in_err-script.ensures.1
    (script_stops b f last (g.S.Shelf.faults c.read_deck.new.shelf name) words named name c.in_ok-deck.deck
    c.in_err-script.field-0.0 at (ap (option_map (λ n. n.now)) c.in-Some-script.is)
    (c.in_ok-deck.ensures {u = tt}).judged
    (c.read_deck.ensures.later name)
    (subst (λ (o : Option (List ℕ)). JudgesFile {A = List (ℕ × Command)} judged_script o
    (g.S.Shelf.faults c.read_deck.new.shelf name) (last name) (Err c.in_err-script.field-0.0))
    (c.read_deck.ensures.bytes name) ends.judged)
    ends.kind)

pub returns-clause-judged : goal.returns-clause-judged
returns-clause-judged g c =
    let b : List ℕ → Option (List ℕ) = g.S.Shelf.bytes c.args.shelf.now in
    let words : List (List ℕ) = map string_bytes c.args.words.now in
    let named : FilesValue = names_of c.in-Some.files in
    let name : List ℕ = c.in-Some-script.name.now in
    let at : files words ≡ Some named = sym c.in-Some.ensures in
    script_passes b (g.S.Shelf.faults c.args.shelf.now) (g.S.Shelf.faults c.read_lines.new.shelf) words named name
    c.in_ok-deck.deck c.in_ok-script.script at
    (ap (option_map (λ n. n.now)) c.in-Some-script.is) (c.in_ok-deck.ensures {u = tt}).judged
    (subst (λ (o : Option (List ℕ)). IfSome o (λ text. judged_script text ≡ Ok c.in_ok-script.script))
    (c.read_deck.ensures.bytes name) (c.in_ok-script.ensures {u = tt}).judged)
