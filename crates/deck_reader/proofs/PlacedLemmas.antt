-- Lists of one length, each item of the one beside that of the other; and the first item of a list that gives something.
use Rattle.std.proofs.Common.{◌≡◌, ℕ, zero, suc, ◌<◌, ◌+◌, List, [], ◌∷◌, ◌++◌, drop, length, get_or, slice_get, Option, Some, refl, sym, ap, arith}
use Rattle.std.specs.Prelude.{zip}
use Rattle.std.specs.Option.{option_or}
use Rattle.std.proofs.lemmas.Option.{get_or_from_slice_get}
use Rattle.semantics.specs.Deck.{first_some}
use Rattle.deck_cards.proofs.Firsts.{first_at}

pub zip-push : {K V : Type 0} (ks : List K) (vs : List V) (k : K) (v : V) → length ks ≡ length vs → zip (ks ++ k ∷ []) (vs ++ v ∷ []) ≡ zip ks vs ++ (k, v) ∷ []
zip-push [] [] k v same = refl
zip-push [] (w ∷ vs) k v same = absurd (omega (arith, same))
zip-push (l ∷ ks) [] k v same = absurd (omega (arith, same))
zip-push (l ∷ ks) (w ∷ vs) k v same = ap (λ ps. (l, w) ∷ ps) (zip-push ks vs k v (omega (arith, same)))

pub zip-length : {K V : Type 0} (ks : List K) (vs : List V) → length ks ≡ length vs → length vs ≡ length (zip ks vs)
zip-length [] [] same = refl
zip-length [] (w ∷ vs) same = absurd (omega (arith, same))
zip-length (l ∷ ks) [] same = absurd (omega (arith, same))
zip-length (l ∷ ks) (w ∷ vs) same = ap suc (zip-length ks vs (omega (arith, same)))

pub zip-at : {K V : Type 0} (ks : List K) (vs : List V) (i : ℕ) (k : K) (v : V) → length ks ≡ length vs → i < length vs → k ≡ get_or ks i k → v ≡ get_or vs i v
    → slice_get (zip ks vs) i ≡ Some (k, v)
zip-at [] [] i k v same within first second = absurd (omega (arith, within))
zip-at [] (w ∷ vs) i k v same within first second = absurd (omega (arith, same))
zip-at (l ∷ ks) [] i k v same within first second = absurd (omega (arith, same))
zip-at (l ∷ ks) (w ∷ vs) zero k v same within first second = λ i. Some (sym first i, sym second i)
zip-at (l ∷ ks) (w ∷ vs) (suc i) k v same within first second = zip-at ks vs i k v (omega (arith, same)) (omega (arith, within)) first second

-- the first of a tail that gives something, by its first item
pub first-step : {A B : Type 0} (f : A → Option B) (xs : List A) (i : ℕ) (x : A) → i < length xs → slice_get xs i ≡ Some x → first_some f (drop i xs) ≡ option_or (f x) (first_some f (drop (i + 1) xs))
first-step f xs i x within at = first_at f xs i x x within (sym (get_or_from_slice_get xs i x x at))
