-- Two texts of one length are the same but for capital letters where they are so byte by byte.
use Rattle.std.proofs.Common.{◌≡◌, ℕ, true, List, [], ◌∷◌, length, take, map, refl}
use Rattle.std.proofs.lemmas.Bool.{eq-eqb, eqb-true, and_parts}
use Rattle.std.proofs.lemmas.Bool.Decides.{same_from_decides}
use Rattle.std.specs.Char.{eq_ignore_ascii_case, to_ascii_lowercase}
use Rattle.std.specs.Cmp.Lexicographic.{pointwise}
use Rattle.spice_num.specs.Parts.{begins}
use Rattle.spice_num.proofs.reading.begins.Goals as goal

same_letters : (xs ys : List ℕ) → map to_ascii_lowercase xs ≡ map to_ascii_lowercase ys → pointwise eq_ignore_ascii_case ys xs ≡ true
same_letters [] [] h = refl
same_letters [] (y ∷ ys) h = cc
same_letters (x ∷ xs) [] h = cc
same_letters (x ∷ xs) (y ∷ ys) h =
    let first : to_ascii_lowercase y ≡ to_ascii_lowercase x = cc in
    let rest : map to_ascii_lowercase xs ≡ map to_ascii_lowercase ys = cc in
    rw (eq-eqb (to_ascii_lowercase y) (to_ascii_lowercase x) first) (same_letters xs ys rest)

letters_same : (xs ys : List ℕ) → pointwise eq_ignore_ascii_case ys xs ≡ true → map to_ascii_lowercase xs ≡ map to_ascii_lowercase ys
letters_same [] [] h = refl
letters_same [] (y ∷ ys) h = cc
letters_same (x ∷ xs) [] h = cc
letters_same (x ∷ xs) (y ∷ ys) h =
    let both = and_parts (eq_ignore_ascii_case y x) (pointwise eq_ignore_ascii_case ys xs) h in
    let first = eqb-true (to_ascii_lowercase y) (to_ascii_lowercase x) both.0 in
    let rest = letters_same xs ys both.1 in
    cc

pub returns-then-text-word : goal.returns-then-text-word
returns-then-text-word c =
    let front = take (length c.args.word.now) c.args.text.now in
    same_from_decides _ (begins c.args.text.now c.args.word.now) c.eq_ignore_ascii_case.ensures.test (letters_same front c.args.word.now, same_letters front c.args.word.now)
