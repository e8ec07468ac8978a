-- The words before `pwl` one after another.
use Rattle.std.proofs.Common.{◌≡◌, ◌∙◌, ◌+◌, ℕ, suc, Bool, true, false, not, ◌||◌, if◌then◌else◌, List, [], ◌∷◌, take, Option, Some, None, refl, ap, arith}
use Rattle.std.specs.Prelude.{find, zip, is_ok}
use Rattle.std.specs.List.{position_or_len}
use Rattle.std.specs.Option.{option_map}
use Rattle.spice_num.specs.declared.units.Unit.TheVariants.{Volt}
use Rattle.spice_num.specs.Number.{number_of}
use Rattle.deck_reader.specs.Words.{Word}
use Rattle.deck_reader.specs.Sources.{is_dc, is_pwl, before_pwl, is_foreign, foreign_word}

-- the first foreign word, where the word in front of these is `dc` or not
unfoldable pub foreign_from : Bool → List Word → Option Word
foreign_from after_dc [] = None
foreign_from after_dc (word ∷ words) =
    if is_pwl word then None
    else if is_dc word then foreign_from true words
    else if after_dc || is_ok (number_of Volt word) then foreign_from false words
    else Some word

-- the same with that word
abbrev behind : Word → List Word → List Word → Option Word
behind front words before = option_map (λ pair. pair.1) (find is_foreign (zip (front ∷ before) before))

behind_is : (front : Word) (words : List Word) → behind front words (before_pwl words) ≡ foreign_from (is_dc front) words
unfolding foreign_from
behind_is front [] = refl
behind_is front (word ∷ words) = by (is_pwl word) (1 + position_or_len is_pwl words) (omega arith) (behind_is word words)
  where
    told : (dc after ok : Bool) → behind word words (before_pwl words) ≡ foreign_from dc words
        → option_map (λ (pair : Word × Word). pair.1) (if not (dc || (after || ok)) then Some (front, word) else find is_foreign (zip (word ∷ before_pwl words) (before_pwl words)))
        ≡ (if dc then foreign_from true words else if after || ok then foreign_from false words else Some word)
    told true after ok rest = rest
    told false true ok rest = rest
    told false false true rest = rest
    told false false false rest = refl

    by : (pwl : Bool) (k : ℕ) → k ≡ suc (position_or_len is_pwl words) → behind word words (before_pwl words) ≡ foreign_from (is_dc word) words
        → behind front (word ∷ words) (take (if not pwl then k else 0) (word ∷ words))
        ≡ (if pwl then None else if is_dc word then foreign_from true words else if is_dc front || is_ok (number_of Volt word) then foreign_from false words else Some word)
    by true k more rest = refl
    by false k more rest = ap (λ m. behind front (word ∷ words) (take m (word ∷ words))) more ∙ told (is_dc word) (is_dc front) (is_ok (number_of Volt word)) rest

pub foreign_is : (words : List Word) → foreign_word words ≡ foreign_from false words
unfolding foreign_word
foreign_is words = behind_is [] words
