-- Voltages that are looked at from the last to the first.
use Rattle.std.proofs.Common.{◌≡◌, ℕ, ℤ, suc, ◌-◌, ◌<◌, ◌≤◌, Bool, true, false, ◌&&◌, ◌||◌, if◌then◌else◌, List, [], ◌∷◌, ◌++◌, length, drop, get_or, fold, Option, Some, None, is_some, Result, Ok, Err, ◌⊎◌, inl, inr, refl, sym, ◌∙◌, ap, subst, arith}
use Rattle.std.specs.List.{list_all, list_any}
use Rattle.std.specs.Result.{IsErrAnd}
use Rattle.std.specs.Str.{bytes_eq}
use Rattle.std.proofs.Math.Seq.{drop-cons}
use Rattle.std.proofs.lemmas.List.{drop_all}
use Rattle.std.proofs.lemmas.List.Folds.{list_any-append}
use Rattle.semantics.proofs.Nodes.{same-bytes_eq}
use Rattle.semantics.specs.Deck.{look_up}
use Rattle.semantics.specs.Valid.{small_volts}
use Rattle.deck_cards.specs.declared.which.Which.TheVariants.{Volts}
use Rattle.deck_reader.specs.declared.why.DeckWhy.{DeckWhy}
use Rattle.deck_reader.specs.declared.why.DeckWhy.TheVariants.{WrongWords, Limit, Memory}
use Rattle.deck_reader.specs.Words.{Word}
use Rattle.deck_reader.specs.Told.{voltage_limit, with_initial}
use Rattle.deck_cards.specs.Settled.{put}
use Rattle.deck_reader.specs.Numbers.{◌>>=◌, Gives}
use Rattle.deck_reader.specs.Dots.{are_triples, voltage, voltages_of, initial}
use Rattle.deck_reader.specs.Voltages.{IsSeen, held}
use Rattle.deck_reader.proofs.InversionLemmas.{ok_same}

-- where all are small, none is outside its limit
none_large : (voltages : List (Word × ℤ)) → list_all (λ p. small_volts p.1) voltages ≡ true → voltage_limit voltages ≡ None
unfolding voltage_limit
none_large [] all = refl
none_large (p ∷ voltages) all = by (is_some (look_up p.0 voltages)) (small_volts p.1) (list_all (λ q. small_volts q.1) voltages) all (none_large voltages)
  where
    by : (again small rest : Bool) → (small && rest) ≡ true → (rest ≡ true → voltage_limit voltages ≡ None)
        → (if again || small then voltage_limit voltages else Some (Limit Volts p.0)) ≡ None
    by true true true all' ih = ih refl
    by false true true all' ih = ih refl
    by again true false all' ih = absurd (cc)
    by again false rest all' ih = absurd (cc)

-- one more voltage of a card
pub held-next : (before : List (Word × ℤ)) (small : Bool) (key name volts : Word) (words : List Word) (p : Word × ℤ) → voltage name volts ≡ Ok p
    → held before small (key ∷ name ∷ volts ∷ words) ≡ held (put before p) (small && small_volts p.1) words
unfolding held voltages_of
held-next before small key name volts words p is = ap (λ v. (v >>= (λ q. voltages_of words >>= (λ qs. Ok (q ∷ qs)))) >>= whole) is ∙ by (voltages_of words)
  where
    whole : List (Word × ℤ) → Result (List (Word × ℤ) × Bool) DeckWhy
    whole vs = Ok (fold put before vs, small && list_all (λ q. small_volts q.1) vs)

    rest : List (Word × ℤ) → Result (List (Word × ℤ) × Bool) DeckWhy
    rest vs = Ok (fold put (put before p) vs, (small && small_volts p.1) && list_all (λ q. small_volts q.1) vs)

    moved : (a b c : Bool) → (a && (b && c)) ≡ ((a && b) && c)
    moved true b c = refl
    moved false b c = refl

    by : (said : Result (List (Word × ℤ)) DeckWhy) → (said >>= (λ qs. Ok (p ∷ qs))) >>= whole ≡ said >>= rest
    by (Ok vs) = ap (λ b. Ok (fold put (put before p) vs, b)) (moved small (small_volts p.1) (list_all (λ q. small_volts q.1) vs))
    by (Err why) = refl

-- a card of which a word is a bad number has none of its voltages
pub held-bad : (before : List (Word × ℤ)) (small : Bool) (words : List Word) (why : DeckWhy) → held before small words ≡ Err why → voltages_of words ≡ Err why
unfolding held
held-bad before small words why is = by (voltages_of words) is
  where
    whole : List (Word × ℤ) → Result (List (Word × ℤ) × Bool) DeckWhy
    whole vs = Ok (fold put before vs, small && list_all (λ q. small_volts q.1) vs)

    by : (said : Result (List (Word × ℤ)) DeckWhy) → said >>= whole ≡ Err why → said ≡ Err why
    by (Ok vs) h = absurd (cc)
    by (Err e) h = cc

-- what is held, where each word is a number
pub held-good : (before : List (Word × ℤ)) (words : List Word) (after : List (Word × ℤ)) (small : Bool) → held before true words ≡ Ok (after, small)
    → (vs : List (Word × ℤ)) × (voltages_of words ≡ Ok vs) × (fold put before vs ≡ after) × (list_all (λ q. small_volts q.1) vs ≡ small)
unfolding held
held-good before words after small is = by (voltages_of words) refl is
  where
    whole : List (Word × ℤ) → Result (List (Word × ℤ) × Bool) DeckWhy
    whole vs = Ok (fold put before vs, true && list_all (λ q. small_volts q.1) vs)

    by : (said : Result (List (Word × ℤ)) DeckWhy) → voltages_of words ≡ said → said >>= whole ≡ Ok (after, small)
        → (vs : List (Word × ℤ)) × (voltages_of words ≡ Ok vs) × (fold put before vs ≡ after) × (list_all (λ q. small_volts q.1) vs ≡ small)
    by (Ok vs) said h =
        let pair = ok_same (fold put before vs, list_all (λ (q : Word × ℤ). small_volts q.1) vs) (after, small) h in
        (vs, said, ap (λ p. p.0) pair, ap (λ p. p.1) pair)
    by (Err e) said h = absurd (cc)

-- an error that is handed on
pub hands_on : {A : Type 0} (r : Result A DeckWhy) (e : DeckWhy) (said : Result A DeckWhy) → IsErrAnd r (λ x. x ≡ e) → (e ≡ Memory) ⊎ (said ≡ Err e) → Gives r said
hands_on (Ok x) e said h g = absurd h
hands_on (Err x) e said h g = subst (λ y. (y ≡ Memory) ⊎ (said ≡ Err y)) (sym h) g

pub wrong_words : (before : List (Word × ℤ)) (words : List Word) → are_triples words ≡ false → with_initial before words ≡ Err WrongWords
unfolding with_initial initial
wrong_words before words none = ap (λ b. (if b then voltages_of words else Err WrongWords) >>= rest) none
  where
    rest : List (Word × ℤ) → Result (List (Word × ℤ)) DeckWhy
    rest voltages = elim (voltage_limit voltages) [ Some why ↦ Err why | None ↦ Ok (fold put before voltages) ]

pub bad_voltages : (before : List (Word × ℤ)) (words : List Word) (why : DeckWhy) → are_triples words ≡ true → (why ≡ Memory) ⊎ (voltages_of words ≡ Err why)
    → (why ≡ Memory) ⊎ (with_initial before words ≡ Err why)
unfolding with_initial initial
bad_voltages before words why triples (inl memory) = inl memory
bad_voltages before words why triples (inr is) = inr (λ i. (if triples i then is i else Err WrongWords) >>= rest)
  where
    rest : List (Word × ℤ) → Result (List (Word × ℤ)) DeckWhy
    rest voltages = elim (voltage_limit voltages) [ Some why ↦ Err why | None ↦ Ok (fold put before voltages) ]

pub bad_held : (before : List (Word × ℤ)) (words : List Word) (why : DeckWhy) → are_triples words ≡ true → (why ≡ Memory) ⊎ (held before true words ≡ Err why)
    → (why ≡ Memory) ⊎ (with_initial before words ≡ Err why)
bad_held before words why triples (inl memory) = inl memory
bad_held before words why triples (inr is) = bad_voltages before words why triples (inr (held-bad before true words why is))

pub good_voltages : (before : List (Word × ℤ)) (words : List Word) (vs : List (Word × ℤ)) (limit : Option DeckWhy) → are_triples words ≡ true → voltages_of words ≡ Ok vs → voltage_limit vs ≡ limit
    → with_initial before words ≡ elim limit [ Some why ↦ Err why | None ↦ Ok (fold put before vs) ]
unfolding with_initial initial
good_voltages before words vs limit triples is within =
    (λ i. (if triples i then is i else Err WrongWords) >>= rest) ∙ ap (λ (o : Option DeckWhy). elim o [ Some why ↦ Err why | None ↦ Ok (fold put before vs) ]) within
  where
    rest : List (Word × ℤ) → Result (List (Word × ℤ)) DeckWhy
    rest voltages = elim (voltage_limit voltages) [ Some why ↦ Err why | None ↦ Ok (fold put before voltages) ]

-- all that were read are small
pub small_held : (before : List (Word × ℤ)) (words : List Word) (after : List (Word × ℤ)) → are_triples words ≡ true → held before true words ≡ Ok (after, true) → with_initial before words ≡ Ok after
small_held before words after triples is =
    let good = held-good before words after true is in
    good_voltages before words good.0 None triples good.1 (none_large good.0 good.3) ∙ ap Ok good.2

-- none that is not small is looked at
pub unlimited_held : (before : List (Word × ℤ)) (words : List Word) (after vs : List (Word × ℤ)) (small : Bool) → are_triples words ≡ true → held before true words ≡ Ok (after, small)
    → voltages_of words ≡ Ok vs → voltage_limit vs ≡ None → with_initial before words ≡ Ok after
unlimited_held before words after vs small triples is said none =
    let good = held-good before words after small is in
    let same : good.0 ≡ vs = ok_same good.0 vs (sym good.1 ∙ said) in
    good_voltages before words vs None triples said none ∙ ap (λ l. Ok (fold put before l)) (sym same) ∙ ap Ok good.2

-- one place further to the front
pub drop-back : {X : Type 0} (xs : List X) (i : ℕ) (x : X) → 0 < i → i ≤ length xs → x ≡ get_or xs (i - 1) x → drop (i - 1) xs ≡ x ∷ drop i xs
drop-back xs i x some within is =
    let next : suc (i - 1) ≡ i = omega arith in
    drop-cons xs (i - 1) x (omega arith) ∙ (λ j. sym is j ∷ drop (next j) xs)

-- whether a name is given something by one more
named_more : (n : Word) (p : Word × ℤ) (voltages : List (Word × ℤ)) → is_some (look_up n (p ∷ voltages)) ≡ (bytes_eq n p.0 || is_some (look_up n voltages))
named_more n p voltages = by (bytes_eq n p.0)
  where
    by : (b : Bool) → is_some (elim (if b then Some p.1 else None) [ None ↦ look_up n voltages | Some y ↦ Some y ]) ≡ (b || is_some (look_up n voltages))
    by true = refl
    by false = refl

any-push : (n name : Word) (names : List Word) → list_any (bytes_eq n) (names ++ name ∷ []) ≡ (bytes_eq n name || list_any (bytes_eq n) names)
any-push n name names = list_any-append (bytes_eq n) names (name ∷ []) ∙ ends (list_any (bytes_eq n) names) (bytes_eq n name)
  where
    ends : (a b : Bool) → (a || (b || false)) ≡ (b || a)
    ends true true = refl
    ends true false = refl
    ends false true = refl
    ends false false = refl

pub seen_none : (voltages : List (Word × ℤ)) (names : List Word) → names ≡ [] → IsSeen (drop (length voltages) voltages) names None
unfolding voltage_limit
seen_none voltages names none =
    let all : drop (length voltages) voltages ≡ [] = drop_all (length voltages) voltages (omega arith) in
    record { later = λ n. ap (list_any (bytes_eq n)) none ∙ ap (λ vs. is_some (look_up n vs)) (sym all); first = ap voltage_limit all }

-- a voltage whose name stands again is not looked at
pub seen_again : (p : Word × ℤ) (voltages : List (Word × ℤ)) (names : List Word) (limit : Option DeckWhy) → IsSeen voltages names limit
    → list_any (bytes_eq p.0) names ≡ true → IsSeen (p ∷ voltages) names limit
unfolding voltage_limit
seen_again p voltages names limit seen again = record {
  later = λ n. by n (bytes_eq n p.0) refl ∙ sym (named_more n p voltages);
  first = ap (λ b. if b || small_volts p.1 then voltage_limit voltages else Some (Limit Volts p.0)) (sym (seen.later p.0) ∙ again) ∙ seen.first;
}
  where
    by : (n : Word) (b : Bool) → bytes_eq n p.0 ≡ b → list_any (bytes_eq n) names ≡ (bytes_eq n p.0 || is_some (look_up n voltages))
    by n true same = ap (λ m. list_any (bytes_eq m) names) (same-bytes_eq n p.0 same) ∙ again ∙ ap (λ b. b || is_some (look_up n voltages)) (sym same)
    by n false same = seen.later n ∙ ap (λ b. b || is_some (look_up n voltages)) (sym same)

seen_new : (p : Word × ℤ) (voltages : List (Word × ℤ)) (names more : List Word) (limit : Option DeckWhy) → IsSeen voltages names limit
    → more ≡ names ++ p.0 ∷ [] → (n : Word) → list_any (bytes_eq n) more ≡ is_some (look_up n (p ∷ voltages))
seen_new p voltages names more limit seen is n =
    ap (list_any (bytes_eq n)) is ∙ any-push n p.0 names ∙ ap (λ b. bytes_eq n p.0 || b) (seen.later n) ∙ sym (named_more n p voltages)

-- one of a new name, in its limit or not
pub seen_small : (p : Word × ℤ) (voltages : List (Word × ℤ)) (names more : List Word) (limit : Option DeckWhy) → IsSeen voltages names limit
    → more ≡ names ++ p.0 ∷ [] → list_any (bytes_eq p.0) names ≡ false → small_volts p.1 ≡ true → IsSeen (p ∷ voltages) more limit
unfolding voltage_limit
seen_small p voltages names more limit seen is new small = record {
  later = seen_new p voltages names more limit seen is;
  first = (λ i. if (sym (seen.later p.0) ∙ new) i || small i then voltage_limit voltages else Some (Limit Volts p.0)) ∙ seen.first;
}

pub seen_large : (p : Word × ℤ) (voltages : List (Word × ℤ)) (names more : List Word) (limit : Option DeckWhy) → IsSeen voltages names limit
    → more ≡ names ++ p.0 ∷ [] → list_any (bytes_eq p.0) names ≡ false → small_volts p.1 ≡ false → IsSeen (p ∷ voltages) more (Some (Limit Volts p.0))
unfolding voltage_limit
seen_large p voltages names more limit seen is new large = record {
  later = seen_new p voltages names more limit seen is;
  first = λ i. if (sym (seen.later p.0) ∙ new) i || large i then voltage_limit voltages else Some (Limit Volts p.0);
}
