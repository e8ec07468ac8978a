-- Lists that are made from the first to the last, one behind the other.
use Rattle.std.proofs.Common.{◌≡◌, ℤ, List, [], ◌∷◌, ◌++◌, Result, Ok, Err, refl, sym, ◌∙◌, ap}
use Rattle.std.proofs.lemmas.List.{append-nil, append_assoc}
use Rattle.spice_num.specs.declared.units.Unit.{Unit as NumUnit}
use Rattle.deck_reader.specs.declared.why.DeckWhy.{DeckWhy}
use Rattle.deck_reader.specs.Words.{Word}
use Rattle.deck_reader.specs.Numbers.{number, numbers, ◌>>=◌}
use Rattle.deck_reader.specs.Sources.{point, points_of}
use Rattle.deck_reader.specs.Dots.{voltage, voltages_of}

-- what is said behind these
unfoldable pub behind : {A : Type 0} → List A → Result (List A) DeckWhy → Result (List A) DeckWhy
behind before (Ok xs) = Ok (before ++ xs)
behind before (Err why) = Err why

pub behind-start : {A : Type 0} (said : Result (List A) DeckWhy) → said ≡ behind [] said
unfolding behind
behind-start (Ok xs) = refl
behind-start (Err why) = refl

pub behind_nothing : {A : Type 0} (before : List A) → behind before (Ok []) ≡ Ok before
unfolding behind
behind_nothing before = ap Ok (append-nil before)

behind-next : {A : Type 0} (before : List A) (first : Result A DeckWhy) (x : A) (rest : Result (List A) DeckWhy) → first ≡ Ok x
    → behind before (first >>= (λ y. rest >>= (λ ys. Ok (y ∷ ys)))) ≡ behind (before ++ x ∷ []) rest
unfolding behind
behind-next {A = A} before first x rest is = ap (λ r. behind before (r >>= (λ y. rest >>= (λ ys. Ok (y ∷ ys))))) is ∙ by rest
  where
    by : (said : Result (List A) DeckWhy) → behind before (said >>= (λ ys. Ok (x ∷ ys))) ≡ behind (before ++ x ∷ []) said
    by (Ok ys) = ap Ok (sym (append_assoc before (x ∷ []) ys))
    by (Err why) = refl

-- one more number
pub numbers_next : (unit : NumUnit) (before : List ℤ) (word : Word) (words : List Word) (z : ℤ) → number unit word ≡ Ok z
    → behind before (numbers unit (word ∷ words)) ≡ behind (before ++ z ∷ []) (numbers unit words)
unfolding numbers
numbers_next unit before word words z is = behind-next before (number unit word) z (numbers unit words) is

-- one more point
pub points-next : (before : List (ℤ × ℤ)) (time volts : Word) (words : List Word) (p : ℤ × ℤ) → point time volts ≡ Ok p
    → behind before (points_of (time ∷ volts ∷ words)) ≡ behind (before ++ p ∷ []) (points_of words)
unfolding points_of
points-next before time volts words p is = behind-next before (point time volts) p (points_of words) is

-- one more voltage
pub voltages-next : (before : List (Word × ℤ)) (key name volts : Word) (words : List Word) (v : Word × ℤ) → voltage name volts ≡ Ok v
    → behind before (voltages_of (key ∷ name ∷ volts ∷ words)) ≡ behind (before ++ v ∷ []) (voltages_of words)
unfolding voltages_of
voltages-next before key name volts words v is = behind-next before (voltage name volts) v (voltages_of words) is
