-- What the words of a line say, from its first word and those behind it.
use Rattle.std.proofs.Common.{◌≡◌, ◌⊎◌, ◌∙◌, List, ◌∷◌, drop, Some, Result, Ok, Err, inl, inr, refl, sym, ap}
use Rattle.deck_reader.specs.Words.{Word}
use Rattle.wave_script.specs.declared.command.Command.{Command}
use Rattle.wave_script.specs.declared.why.ScriptWhy.{ScriptWhy}
use Rattle.wave_script.specs.declared.why.ScriptWhy.TheVariants.{Memory}
use Rattle.wave_script.specs.Pins.{Bound}
use Rattle.wave_script.specs.Lines.{command_of, command_in}

pub command_in_ok : (pins : Bound) (words rest : List Word) (first : Word) (command : Command) → words ≡ first ∷ rest
    → command_of pins first (drop 1 words) ≡ Ok command → command_in pins words ≡ Ok (Some command)
unfolding command_in
command_in_ok pins words rest first command e h =
    let said : command_of pins first rest ≡ Ok command = ap (λ ws. command_of pins first (drop 1 ws)) (sym e) ∙ h in
    rw (e, said) refl

pub command_in_err : (pins : Bound) (words rest : List Word) (first : Word) (why : ScriptWhy) → words ≡ first ∷ rest
    → (why ≡ Memory) ⊎ (command_of pins first (drop 1 words) ≡ Err why) → (why ≡ Memory) ⊎ (command_in pins words ≡ Err why)
unfolding command_in
command_in_err pins words rest first why e (inl m) = inl m
command_in_err pins words rest first why e (inr h) =
    let said : command_of pins first rest ≡ Err why = ap (λ ws. command_of pins first (drop 1 ws)) (sym e) ∙ h in
    inr (rw (e, said) refl)
