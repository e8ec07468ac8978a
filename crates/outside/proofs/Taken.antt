-- The bytes of a name that are taken piece by piece.
use Rattle.std.proofs.Common.{◌≡◌, ℕ, ◌+◌, ◌<◌, ◌≤◌, List, [], ◌++◌, length, take, Option, None, Some, IfSome, refl, sym, ◌∙◌, ap, ap₂, subst, subst₂, arith, length-append, length-take, length-take-le, take-add, take_all}
use Rattle.outside.specs.Content.{GivesFrom, GivesNoneOnlyAtEnd}

-- what was taken is a front of the told bytes
pub record Taken (told : Option (List ℕ)) (taken : List ℕ) : Type 0 where
  pub front : IfSome told (λ xs. taken ≡ take (length taken) xs)

pub taken_none : (told : Option (List ℕ)) → Taken told []
taken_none None = record { front = tt }
taken_none (Some xs) = record { front = refl }

more : (told : Option (List ℕ)) (taken buf : List ℕ) (n : ℕ) → n ≤ length buf → Taken told taken → GivesFrom told (length taken) n buf → Taken told (taken ++ take n buf)
more None taken buf n fits so_far given = record { front = tt }
more (Some xs) taken buf n fits so_far given =
    let size : length (taken ++ take n buf) ≡ length taken + n = omega (arith, length-append taken (take n buf), length-take-le n buf fits) in
    record { front = ap₂ (λ (a b : List ℕ). a ++ b) so_far.front given ∙ sym (take-add (length taken) n xs) ∙ ap (λ (k : ℕ). take k xs) (sym size) }

-- what a call gives, put behind
pub taken_more : (told now : Option (List ℕ)) (taken buf next : List ℕ) (at n : ℕ) → now ≡ told → at ≡ length taken → next ≡ taken ++ take n buf → n ≤ length buf → Taken told taken → GivesFrom now at n buf → Taken told next
taken_more told now taken buf next at n same place is fits so_far given =
    subst (λ (l : List ℕ). Taken told l) (sym is) (more told taken buf n fits so_far (subst₂ (λ (o : Option (List ℕ)) (k : ℕ). GivesFrom o k n buf) same place given))

pub taken_all : (told : Option (List ℕ)) (taken buf : List ℕ) → 0 < length buf → Taken told taken → GivesNoneOnlyAtEnd told (length taken) 0 buf → IfSome told (λ xs. taken ≡ xs)
taken_all None taken buf room so_far end = tt
taken_all (Some xs) taken buf room so_far end = so_far.front ∙ take_all (length taken) xs (end refl room)

pub taken_long : (told : Option (List ℕ)) (taken : List ℕ) (limit : ℕ) → Taken told taken → limit < length taken → IfSome told (λ xs. limit < length xs)
taken_long None taken limit so_far long = tt
taken_long (Some xs) taken limit so_far long = omega (arith, length-take (length taken) xs, ap length so_far.front, long)
