-- The parts of a number's text: a sign, digits with a point, an exponent and a tail, each as long as it can be.
use Rattle.std.specs.Prelude.{ℕ, Bool, false, ◌||◌, ◌&&◌, if◌then◌else◌, List, [], ◌∷◌, ◌++◌, drop, codes, ℤ, pos, neg_ℤ}
use Rattle.std.specs.Char.{eq_ignore_ascii_case, is_ascii_digit}
use Rattle.std.specs.List.{starts_with, take_while, prefix_len}
use Rattle.std.specs.Str.Parse.{digits_value}

-- what a list has behind the elements that take_while takes
abbrev pub drop_while : {X : Type 0} → (X → Bool) → List X → List X
drop_while p xs = drop (prefix_len p xs) xs

-- the text begins with the word, where capital letters count as small ones
abbrev pub begins : List ℕ → List ℕ → Bool
begins text word = starts_with eq_ignore_ascii_case text word

-- a minus sign stands first
abbrev pub is_negative : List ℕ → Bool
is_negative text = begins text (codes "-")

-- the text without its sign
abbrev pub unsigned : List ℕ → List ℕ
unsigned text = if begins text (codes "+") || begins text (codes "-") then drop 1 text else text

-- the number of this sign and size
abbrev pub signed : Bool → ℕ → ℤ
signed negative size = if negative then neg_ℤ (pos size) else pos size

-- the digits that stand first, and what stands behind them
abbrev pub digits_of : List ℕ → List ℕ
digits_of text = take_while is_ascii_digit text

abbrev pub after_digits : List ℕ → List ℕ
after_digits text = drop_while is_ascii_digit text

-- the digits behind a point that stands first, and what stands behind the point and them
abbrev pub fraction_of : List ℕ → List ℕ
fraction_of text = if begins text (codes ".") then digits_of (drop 1 text) else []

abbrev pub after_fraction : List ℕ → List ℕ
after_fraction text = if begins text (codes ".") then after_digits (drop 1 text) else text

-- the digits that stand first, with at most one point among, before or behind them
abbrev pub mantissa_digits : List ℕ → List ℕ
mantissa_digits text = digits_of text ++ fraction_of (after_digits text)

-- a digit stands first
abbrev pub begins_with_digit : List ℕ → Bool
begins_with_digit [] = false
begins_with_digit (c ∷ cs) = is_ascii_digit c

-- `e`, a sign or none, and at least one digit stand first
abbrev pub has_exponent : List ℕ → Bool
has_exponent text = begins text (codes "e") && begins_with_digit (unsigned (drop 1 text))

-- the exponent that stands first, or 0, and what stands behind it; an `e` without a digit is no exponent
abbrev pub exponent_of : List ℕ → ℤ
exponent_of text =
    if has_exponent text
    then signed (is_negative (drop 1 text)) (digits_value 10 (digits_of (unsigned (drop 1 text))))
    else pos 0

abbrev pub after_exponent : List ℕ → List ℕ
after_exponent text = if has_exponent text then after_digits (unsigned (drop 1 text)) else text

-- a sign, the digits before the point and behind it, an exponent and a tail
pub record Parts : Type 0 where
  pub negative : Bool
  pub whole : List ℕ
  pub fraction : List ℕ
  pub exponent : ℤ
  pub tail : List ℕ

-- the parts of a text
unfoldable pub parts_of : List ℕ → Parts
parts_of text =
    let after_sign = unsigned text in
    let after_whole = after_digits after_sign in
    let after_point = after_fraction after_whole in
    record {
      negative = is_negative text;
      whole = digits_of after_sign;
      fraction = fraction_of after_whole;
      exponent = exponent_of after_point;
      tail = after_exponent after_point;
    }
