-- What an answer that is Ok was made of.
use Rattle.std.proofs.Common.{◌≡◌, Bool, true, false, if◌then◌else◌, List, [], ◌∷◌, ◌++◌, Option, Some, None, Result, Ok, Err, refl, ◌⊎◌, inl, inr}
use Rattle.std.specs.List.{list_all}
use Rattle.std.proofs.lemmas.Bool.{and_parts, and_from}
use Rattle.deck_reader.specs.Numbers.{◌>>=◌}

-- the first step of a chain, and the rest of it
pub steps : {A B E : Type 0} (r : Result A E) (f : A → Result B E) (y : B) → r >>= f ≡ Ok y → (x : A) × (r ≡ Ok x) × (f x ≡ Ok y)
steps (Ok x) f y is = (x, refl, is)
steps (Err e) f y is = absurd (cc)

-- where a test decides over an error
pub passes : {A E : Type 0} (b : Bool) (e : E) (r : Result A E) (y : A) → (if b then Err e else r) ≡ Ok y → (b ≡ false) × (r ≡ Ok y)
passes true e r y is = absurd (cc)
passes false e r y is = (refl, is)

pub holds : {A E : Type 0} (b : Bool) (e : E) (x y : A) → (if b then Ok x else Err e) ≡ Ok y → (b ≡ true) × (x ≡ y)
holds true e x y is = (refl, cc)
holds false e x y is = absurd (cc)

-- where a fault decides
pub faultless : {A E : Type 0} (o : Option E) (r : Result A E) (y : A) → ◌≡◌ {A = Result A E} (elim o [ Some why ↦ Err why | None ↦ r ]) (Ok y) → (o ≡ None) × (r ≡ Ok y)
faultless (Some why) r y is = absurd (cc)
faultless None r y is = (refl, is)

pub one_of : {X : Type 0} (b : Bool) (x y z : X) → (if b then x else y) ≡ z → (x ≡ z) ⊎ (y ≡ z)
one_of true x y z is = inl is
one_of false x y z is = inr is

pub ok_same : {A E : Type 0} (x y : A) → ◌≡◌ {A = Result A E} (Ok x) (Ok y) → x ≡ y
ok_same x y is = cc

-- one more that passes
pub all_push : {X : Type 0} (p : X → Bool) (xs : List X) (x : X) → list_all p xs ≡ true → p x ≡ true → list_all p (xs ++ x ∷ []) ≡ true
all_push p [] x all one = and_from (p x) true one refl
all_push p (y ∷ xs) x all one =
    let parts = and_parts (p y) (list_all p xs) all in
    and_from (p y) (list_all p (xs ++ x ∷ [])) parts.0 (all_push p xs x parts.1 one)
