-- What a line of a script says, from what the words of a card say.
use Rattle.std.proofs.Common.{◌≡◌, ◌⊎◌, ℕ, ℤ, ◌<◌, ◌∙◌, List, [], ◌∷◌, length, drop, Result, Ok, Err, inl, inr, refl, sym, ap, arith}
use Rattle.std.proofs.lemmas.List.{drop-drop}
use Rattle.semantics.specs.declared.element.Element.{Element}
use Rattle.deck_cards.specs.declared.edit.Edit.TheVariants.{SetWave, Add}
use Rattle.deck_reader.specs.declared.why.DeckWhy.{DeckWhy}
use Rattle.deck_reader.specs.declared.why.DeckWhy.TheVariants as deck
use Rattle.deck_reader.specs.Words.{Word}
use Rattle.deck_reader.specs.Numbers.{◌>>=◌}
use Rattle.deck_reader.specs.Sources.{source_points, wave_of}
use Rattle.deck_reader.specs.Elements.{element}
use Rattle.deck_reader.specs.Lines.{element_at, wave_at}
use Rattle.deck_lexer.specs.Cards.{Card}
use Rattle.deck_reader.proofs.InversionLemmas.{ok_same}
use Rattle.wave_script.specs.declared.command.Command.{Command}
use Rattle.wave_script.specs.declared.command.Command.TheVariants.{Edit}
use Rattle.wave_script.specs.declared.why.ScriptWhy.{ScriptWhy}
use Rattle.wave_script.specs.declared.why.ScriptWhy.TheVariants.{Memory}
use Rattle.wave_script.specs.Answers.{card_why, in_script}
use Rattle.wave_script.specs.Edits.{wave_line, add_line}

-- where the words of a card say this, or have this fault
told_ok : {A B C : Type 0} (said : Result A DeckWhy) (f : A → B) (g : B → C) (x : B)
    → ◌≡◌ {A = Result B DeckWhy} (said >>= (λ a. Ok (f a))) (Ok x) → ◌≡◌ {A = Result C ScriptWhy} (in_script said >>= (λ a. Ok (g (f a)))) (Ok (g x))
told_ok (Ok a) f g x h = ap (λ y. Ok (g y)) (ok_same (f a) x h)
told_ok (Err e) f g x h = absurd (cc)

told_err : {A B C : Type 0} (said : Result A DeckWhy) (f : A → B) (g : A → Result C ScriptWhy) (why : DeckWhy)
    → ◌≡◌ {A = Result B DeckWhy} (said >>= (λ a. Ok (f a))) (Err why) → ◌≡◌ {A = Result C ScriptWhy} (in_script said >>= g) (Err (card_why why))
told_err (Ok a) f g why h = absurd (cc)
told_err (Err e) f g why h =
    let same : e ≡ why = cc in
    ap (λ w. Err (card_why w)) same

-- ---- wave

wave_says : (ws rest : List Word) (name : Word) → drop 1 ws ≡ name ∷ rest → 0 < length rest
    → wave_line (drop 1 ws) ≡ (in_script (source_points (drop 2 ws)) >>= (λ points. Ok (Edit (SetWave name (wave_of points)))))
unfolding wave_line
wave_says ws [] name e some = absurd (omega arith)
wave_says ws (word ∷ rest) name e some =
    let behind : drop 2 ws ≡ word ∷ rest = sym (drop-drop 1 1 ws) ∙ ap (drop 1) e in
    rw (e, behind) refl

pub wave_ok : (line : Card) (rest : List Word) (name : Word) (wave : List (ℕ × ℤ)) → drop 1 line.words ≡ name ∷ rest → 0 < length rest
    → wave_at line 2 ≡ Ok wave → wave_line (drop 1 line.words) ≡ Ok (Edit (SetWave name wave))
unfolding wave_at
wave_ok line rest name wave e some h =
    wave_says line.words rest name e some ∙ told_ok (source_points (drop 2 line.words)) wave_of (λ w. Edit (SetWave name w)) wave h

pub wave_err : (line : Card) (rest : List Word) (name : Word) (why : DeckWhy) → drop 1 line.words ≡ name ∷ rest → 0 < length rest
    → (why ≡ deck.Memory) ⊎ (wave_at line 2 ≡ Err why) → (card_why why ≡ Memory) ⊎ (wave_line (drop 1 line.words) ≡ Err (card_why why))
unfolding wave_at
wave_err line rest name why e some (inl m) = inl (ap card_why m)
wave_err line rest name why e some (inr h) = inr (wave_says line.words rest name e some ∙ told_err (source_points (drop 2 line.words)) wave_of _ why h)

-- ---- add

add_says : (ws : List Word) → 0 < length ws → add_line ws ≡ (in_script (element ws) >>= (λ e. Ok (Edit (Add e))))
unfolding add_line
add_says [] some = absurd (omega arith)
add_says (word ∷ words) some = refl

pub add_ok : (line : Card) (e : Element) → 0 < length (drop 1 line.words) → element_at line 1 ≡ Ok e → add_line (drop 1 line.words) ≡ Ok (Edit (Add e))
unfolding element_at
add_ok line e some h = add_says (drop 1 line.words) some ∙ ap (λ said. in_script said >>= (λ e. Ok (Edit (Add e)))) h

pub add_err : (line : Card) (why : DeckWhy) → 0 < length (drop 1 line.words) → (why ≡ deck.Memory) ⊎ (element_at line 1 ≡ Err why)
    → (card_why why ≡ Memory) ⊎ (add_line (drop 1 line.words) ≡ Err (card_why why))
unfolding element_at
add_err line why some (inl m) = inl (ap card_why m)
add_err line why some (inr h) = inr (add_says (drop 1 line.words) some ∙ ap (λ said. in_script said >>= (λ e. Ok (Edit (Add e)))) h)
