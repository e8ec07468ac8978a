-- The values of `grain`, word by word: whether the word before is a `grain` that takes this one.
use Rattle.std.proofs.Common.{◌≡◌, ℤ, Bool, true, false, not, ◌&&◌, if◌then◌else◌, List, [], ◌∷◌, fold, Option, Some, None, is_none, Result, Ok, Err, refl, sym, ◌∙◌, ap}
use Rattle.std.specs.Option.{option_map}
use Rattle.spice_num.specs.declared.units.Unit.TheVariants.{Volt}
use Rattle.deck_reader.specs.declared.why.DeckWhy.{DeckWhy}
use Rattle.deck_reader.specs.declared.why.DeckWhy.TheVariants.{WrongWords}
use Rattle.deck_reader.specs.Words.{Word}
use Rattle.deck_reader.specs.Numbers.{number, numbers, ◌>>=◌}
use Rattle.deck_reader.specs.Dots.{is_grain_key, grain_values, last_of, options}

-- whether the last word is a `grain` that has no value
unfoldable pub wants_value : Bool → List Word → Bool
wants_value behind_grain [] = behind_grain
wants_value behind_grain (word ∷ words) = wants_value (not behind_grain && is_grain_key word) words

pub wants_is : (words : List Word) → is_none (grain_values words) ≡ wants_value false words
unfolding grain_values wants_value
wants_is [] = refl
wants_is (word ∷ []) = by (is_grain_key word)
  where
    by : (grain : Bool) → is_none {T = List Word} (if grain then None else Some []) ≡ (not false && grain)
    by true = refl
    by false = refl
wants_is (word ∷ next ∷ words) = by (is_grain_key word) (wants_is words) (wants_is (next ∷ words))
  where
    skipped : (values : Option (List Word)) → is_none (option_map (λ vs. next ∷ vs) values) ≡ is_none values
    skipped None = refl
    skipped (Some vs) = refl

    by : (grain : Bool) → is_none (grain_values words) ≡ wants_value false words → is_none (grain_values (next ∷ words)) ≡ wants_value false (next ∷ words)
        → is_none (if grain then option_map (λ vs. next ∷ vs) (grain_values words) else grain_values (next ∷ words)) ≡ wants_value (not false && grain) (next ∷ words)
    by true behind here = skipped (grain_values words) ∙ behind
    by false behind here = here

-- the last grain, where this one stands before
unfoldable pub grain_behind : Option ℤ → Bool → List Word → Result (Option ℤ) DeckWhy
grain_behind last behind_grain [] = Ok last
grain_behind last behind_grain (word ∷ words) =
    if behind_grain
    then (do
      z ← number Volt word
      grain_behind (Some z) false words)
    else grain_behind last (is_grain_key word) words

-- the last of these numbers, where this one stands before
last_behind : Option ℤ → List Word → Result (Option ℤ) DeckWhy
last_behind last values = numbers Volt values >>= (λ zs. Ok (fold (λ before z. Some z) last zs))

last_behind-next : (last : Option ℤ) (value : Word) (values : List Word) → last_behind last (value ∷ values) ≡ (number Volt value >>= (λ z. last_behind (Some z) values))
unfolding last_behind numbers
last_behind-next last value values = by (number Volt value)
  where
    inner : (z : ℤ) (zs : Result (List ℤ) DeckWhy)
        → ((zs >>= (λ rest. Ok (z ∷ rest))) >>= (λ all. Ok (fold (λ before y. Some y) last all))) ≡ (zs >>= (λ rest. Ok (fold (λ before y. Some y) (Some z) rest)))
    inner z (Ok rest) = refl
    inner z (Err why) = refl

    by : (r : Result ℤ DeckWhy)
        → ((r >>= (λ z. numbers Volt values >>= (λ rest. Ok (z ∷ rest)))) >>= (λ all. Ok (fold (λ before y. Some y) last all))) ≡ (r >>= (λ z. last_behind (Some z) values))
    by (Ok z) = inner z (numbers Volt values)
    by (Err why) = refl

grain_is : (last : Option ℤ) (words values : List Word) → grain_values words ≡ Some values → grain_behind last false words ≡ last_behind last values
unfolding grain_values grain_behind last_behind numbers
grain_is last [] values is = by values is
  where
    by : (vs : List Word) → grain_values [] ≡ Some vs → Ok last ≡ last_behind last vs
    by [] same = refl
    by (v ∷ vs) same = absurd (cc)
grain_is last (word ∷ []) values is = by (is_grain_key word) values is
  where
    by : (grain : Bool) (vs : List Word) → (if grain then None else Some []) ≡ Some vs → Ok last ≡ last_behind last vs
    by true vs same = absurd (cc)
    by false [] same = refl
    by false (v ∷ vs) same = absurd (cc)
grain_is last (word ∷ next ∷ words) values is =
    by (is_grain_key word) (λ z vs known. grain_is (Some z) words vs known) (λ same. grain_is last (next ∷ words) values same) is
  where
    step : (r : Result ℤ DeckWhy) (vs : List Word) → ((z : ℤ) → grain_behind (Some z) false words ≡ last_behind (Some z) vs)
        → (r >>= (λ z. grain_behind (Some z) false words)) ≡ (r >>= (λ z. last_behind (Some z) vs))
    step (Ok z) vs same = same z
    step (Err why) vs same = refl

    taken : (inner : Option (List Word)) → grain_values words ≡ inner → option_map (λ vs. next ∷ vs) inner ≡ Some values
        → ((z : ℤ) (vs : List Word) → grain_values words ≡ Some vs → grain_behind (Some z) false words ≡ last_behind (Some z) vs)
        → (number Volt next >>= (λ z. grain_behind (Some z) false words)) ≡ last_behind last values
    taken None known same behind = absurd (cc)
    taken (Some vs) known same behind =
        let all : next ∷ vs ≡ values = cc in
        step (number Volt next) vs (λ z. behind z vs known) ∙ sym (last_behind-next last next vs) ∙ ap (last_behind last) all

    by : (grain : Bool) → ((z : ℤ) (vs : List Word) → grain_values words ≡ Some vs → grain_behind (Some z) false words ≡ last_behind (Some z) vs)
        → (grain_values (next ∷ words) ≡ Some values → grain_behind last false (next ∷ words) ≡ last_behind last values)
        → (if grain then option_map (λ vs. next ∷ vs) (grain_values words) else grain_values (next ∷ words)) ≡ Some values
        → grain_behind last grain (next ∷ words) ≡ last_behind last values
    by true behind here same = taken (grain_values words) refl same behind
    by false behind here same = here same

-- the last grain of words of which each `grain` has its value
pub options_is : (words : List Word) → is_none (grain_values words) ≡ false → options words ≡ grain_behind None false words
unfolding options last_behind
options_is words valued = by (grain_values words) refl valued
  where
    said : Option (List Word) → Result (Option ℤ) DeckWhy
    said values = elim values [ None ↦ Err WrongWords | Some vs ↦ numbers Volt vs >>= (λ grains. Ok (last_of grains)) ]

    by : (values : Option (List Word)) → grain_values words ≡ values → is_none values ≡ false → said (grain_values words) ≡ grain_behind None false words
    by None known valued' = absurd (cc)
    by (Some vs) known valued' = ap said known ∙ sym (grain_is None words vs known)
