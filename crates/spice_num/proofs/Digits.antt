-- Digits at the front of a text, and the number that they write.
use Rattle.std.proofs.Common.{◌≡◌, ℕ, ◌+◌, ◌-◌, ◌*◌, ◌<◌, ◌≤◌, min, true, false, List, [], ◌∷◌, ◌++◌, length, refl, arith, ◌∙◌, sym, ap, one-add, take, drop, get_or}
use Rattle.std.proofs.lemmas.List.{take_rest}
use Rattle.std.proofs.lemmas.Bool.Decides.{nat_tests}
use Rattle.std.specs.Char.{is_ascii_digit, digit_value}
use Rattle.std.specs.List.{take_while}
use Rattle.std.specs.Str.Parse.{digits_value, digits_value_after}
use Rattle.spice_num.specs.Parts.{drop_while}

-- a cap on the number before changes nothing under the same cap
pub capped_after : (m x : ℕ) (ds : List ℕ) → min m (digits_value_after 10 (min m x) ds) ≡ min m (digits_value_after 10 x ds)
capped_after m x [] = omega arith
capped_after m x (c ∷ cs) =
    let one = capped_after m (min m x * 10 + digit_value c) cs in
    let other = capped_after m (x * 10 + digit_value c) cs in
    let same : min m (min m x * 10 + digit_value c) ≡ min m (x * 10 + digit_value c) = omega arith in
    sym one ∙ ap (λ n. min m (digits_value_after 10 n cs)) same ∙ other

is_digit : (c : ℕ) → 48 ≤ c → c ≤ 57 → (is_ascii_digit c ≡ true) × (digit_value c ≡ c - 48)
is_digit c low high = (grind (arith, nat_tests), grind (arith, nat_tests))

-- what follows the first byte, as a pattern gives it
abbrev behind_first : List ℕ → List ℕ
behind_first xs = take (length xs - 1) (drop 1 xs)

pub take_digit : (xs : List ℕ) → 0 < length xs → 48 ≤ get_or xs 0 0 → get_or xs 0 0 ≤ 57 → take_while is_ascii_digit xs ≡ get_or xs 0 0 ∷ take_while is_ascii_digit (behind_first xs)
take_digit [] some low high = absurd (omega arith)
take_digit (c ∷ cs) some low high = rw (take_rest (c ∷ cs) 1, (is_digit c low high).0, one-add) refl

pub drop_digit : (xs : List ℕ) → 0 < length xs → 48 ≤ get_or xs 0 0 → get_or xs 0 0 ≤ 57 → drop_while is_ascii_digit xs ≡ drop_while is_ascii_digit (behind_first xs)
drop_digit [] some low high = absurd (omega arith)
drop_digit (c ∷ cs) some low high = rw (take_rest (c ∷ cs) 1, (is_digit c low high).0, one-add) refl

pub read_digit : (m v w : ℕ) (xs : List ℕ) → 0 < length xs → 48 ≤ get_or xs 0 0 → get_or xs 0 0 ≤ 57 → w ≡ min m (min m (v * 10) + (get_or xs 0 0 - 48)) → min m (digits_value_after 10 w (take_while is_ascii_digit (behind_first xs))) ≡ min m (digits_value_after 10 v (take_while is_ascii_digit xs))
read_digit m v w xs some low high e =
    let ds = take_while is_ascii_digit (behind_first xs) in
    let c = get_or xs 0 0 in
    let value : digit_value c ≡ c - 48 = (is_digit c low high).1 in
    let same : w ≡ min m (v * 10 + digit_value c) = omega arith in
    rw (take_digit xs some low high, same) (capped_after m (v * 10 + digit_value c) ds)

no_digit : (c : ℕ) → (48 ≤ c → c ≤ 57 → ⊥) → is_ascii_digit c ≡ false
no_digit c h = grind (arith, nat_tests)

pub take_none : (xs : List ℕ) → (0 < length xs → 48 ≤ get_or xs 0 0 → get_or xs 0 0 ≤ 57 → ⊥) → take_while is_ascii_digit xs ≡ []
take_none [] h = refl
take_none (c ∷ cs) h =
    let no : is_ascii_digit c ≡ false = no_digit c (h (omega arith)) in
    rw no refl

digits_value_after-append : (n : ℕ) (xs ys : List ℕ) → digits_value_after 10 n (xs ++ ys) ≡ digits_value_after 10 (digits_value_after 10 n xs) ys
digits_value_after-append n [] ys = refl
digits_value_after-append n (x ∷ xs) ys = digits_value_after-append (n * 10 + digit_value x) xs ys

-- digits that follow a number that is cut to the cap
pub capped_append : (m w v : ℕ) (xs ys : List ℕ) → w ≡ min m (digits_value 10 xs) → v ≡ min m (digits_value_after 10 w ys) → v ≡ min m (digits_value 10 (xs ++ ys))
capped_append m w v xs ys e f =
    rw (f, e, digits_value_after-append 0 xs ys) (capped_after m (digits_value 10 xs) ys)
