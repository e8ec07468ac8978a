-- The bits behind the marks of 256 places.
use Rattle.std.proofs.Common.{◌≡◌, ◌≢◌, ℕ, ◌+◌, ◌-◌, ◌/◌, ◌%◌, ◌^◌, ◌<◌, ◌≤◌, List, length, get_or, refl, sym, ap, ◌∙◌, arith, inl, inr, ⊎_elim}
use Rattle.std.proofs.Math.ListN.{set}
use Rattle.std.proofs.lemmas.Bool.{eq-eqb, ne_eqb, cases_eq, cases_lt}
use Rattle.std.proofs.lemmas.List.{get_or-set_other}
use Rattle.std.proofs.lemmas.Grind.{get_or-set_at}
use Rattle.std.specs.Int.{bit_at, trailing_zeros, w128}
use Rattle.std.proofs.lemmas.Nat.{shr-shr, shr_le}
use Rattle.std.proofs.lemmas.Nat.Bits.{bit_at-trailing_zeros, bit_at-zero, bit_at_above}
use Rattle.event_order.specs.Marks.{mark_at, MarksOnly, IsNextMark}

same_place : (a b : ℕ) → a / 128 ≡ b / 128 → a % 128 ≡ b % 128 → a ≡ b
same_place a b d m = omega arith

-- one word is written, and one bit of it has changed
pub write_one : (marks : List ℕ) (place n v : ℕ) → length marks ≡ 2 → place < 256 → bit_at n (place % 128) ≡ v →
    ((i : ℕ) → i < 128 → i ≢ place % 128 → bit_at n i ≡ bit_at (get_or marks (place / 128) 0) i) → MarksOnly marks (set marks (place / 128) n) place v
unfolding mark_at
write_one marks place n v two small here others other low = ⊎_elim
    (λ same.
    let read : get_or (set marks (place / 128) n) (other / 128) 0 ≡ n = get_or-set_at marks (place / 128) (other / 128) n 0 same (omega arith) in
    ⊎_elim
    (λ bit. rw (read, eq-eqb other place (same_place other place same bit), bit) here)
    (λ bit. rw (read, ne_eqb other place (λ e. bit (ap (λ x. x % 128) e)), same) (others (other % 128) (omega arith) bit))
    (cases_eq (other % 128) (place % 128)))
    (λ apart. rw (get_or-set_other marks (place / 128) (other / 128) n 0 apart, ne_eqb other place (λ e. apart (ap (λ x. x / 128) e))) refl)
    (cases_eq (other / 128) (place / 128))

both_bits : (n : ℕ) → n ≡ 1 → n ≡ 0 → ⊥
both_bits n one none = omega arith

shifted : (n b i : ℕ) → bit_at (n / 2 ^ b) i ≡ bit_at n (b + i)
shifted n b i = ap (λ x. x % 2) (shr-shr n b i)

-- the mark so far on, by the words: in the word of this place, in the other, and in the word of this place again
read_ahead : (marks : List ℕ) (place k : ℕ) → place < 256 → place % 128 + k < 128 → mark_at marks ((place + k) % 256) ≡ bit_at (get_or marks (place / 128) 0) (place % 128 + k)
unfolding mark_at
read_ahead marks place k small near =
    let word : (place + k) % 256 / 128 ≡ place / 128 = omega arith in
    let bit : (place + k) % 256 % 128 ≡ place % 128 + k = omega arith in
    rw (word, bit) refl

read_other : (marks : List ℕ) (place k : ℕ) → place < 256 → 128 ≤ place % 128 + k → place % 128 + k < 256 →
    mark_at marks ((place + k) % 256) ≡ bit_at (get_or marks (1 - place / 128) 0) (place % 128 + k - 128)
unfolding mark_at
read_other marks place k small far near =
    let word : (place + k) % 256 / 128 ≡ 1 - place / 128 = omega arith in
    let bit : (place + k) % 256 % 128 ≡ place % 128 + k - 128 = omega arith in
    rw (word, bit) refl

read_behind : (marks : List ℕ) (place k : ℕ) → place < 256 → 256 ≤ place % 128 + k → k < 256 →
    mark_at marks ((place + k) % 256) ≡ bit_at (get_or marks (place / 128) 0) (place % 128 + k - 256)
unfolding mark_at
read_behind marks place k small far near =
    let word : (place + k) % 256 / 128 ≡ place / 128 = omega arith in
    let bit : (place + k) % 256 % 128 ≡ place % 128 + k - 256 = omega arith in
    rw (word, bit) refl

clear_ahead : (marks : List ℕ) (place : ℕ) → place < 256 → get_or marks (place / 128) 0 / 2 ^ (place % 128) ≡ 0 →
    (k : ℕ) → place % 128 + k < 128 → mark_at marks ((place + k) % 256) ≡ 0
clear_ahead marks place small none k near =
    read_ahead marks place k small near ∙ sym (shifted (get_or marks (place / 128) 0) (place % 128) k) ∙ ap (λ n. bit_at n k) none ∙ bit_at-zero k

clear_other : (marks : List ℕ) (place : ℕ) → place < 256 → get_or marks (1 - place / 128) 0 ≡ 0 →
    (k : ℕ) → 128 ≤ place % 128 + k → place % 128 + k < 256 → mark_at marks ((place + k) % 256) ≡ 0
clear_other marks place small none k far near =
    read_other marks place k small far near ∙ ap (λ n. bit_at n (place % 128 + k - 128)) none ∙ bit_at-zero (place % 128 + k - 128)

pub found_ahead : (marks : List ℕ) (place : ℕ) → place < 256 → get_or marks (place / 128) 0 < 2 ^ 128 → (get_or marks (place / 128) 0 / 2 ^ (place % 128) ≡ 0 → ⊥) →
    IsNextMark marks place (trailing_zeros w128 (get_or marks (place / 128) 0 / 2 ^ (place % 128)))
found_ahead marks place small fits some =
    let here = get_or marks (place / 128) 0 in
    let ahead = here / 2 ^ (place % 128) in
    let at : ℕ = trailing_zeros w128 ahead in
    let ahead_fits : ahead < 2 ^ 128 = omega (arith, shr_le here (place % 128)) in
    let lowest = bit_at-trailing_zeros w128 ahead (omega arith) ahead_fits in
    let bit : bit_at here (place % 128 + at) ≡ 1 = sym (shifted here (place % 128) at) ∙ lowest.1 in
    let near : place % 128 + at < 128 = elim (cases_lt (place % 128 + at) 128) [
      | inl l ↦ l
      | inr g ↦ absurd (both_bits _ bit (bit_at_above here 128 (place % 128 + at) fits g))
    ] in
    record {
      below = omega arith;
      marked = read_ahead marks place at small near ∙ bit;
      before = λ less h. read_ahead marks place less small (omega arith) ∙ sym (shifted here (place % 128) less) ∙ lowest.2 less h;
    }

pub found_other : (marks : List ℕ) (place : ℕ) → place < 256 → get_or marks (1 - place / 128) 0 < 2 ^ 128 →
    get_or marks (place / 128) 0 / 2 ^ (place % 128) ≡ 0 → (get_or marks (1 - place / 128) 0 ≡ 0 → ⊥) →
    IsNextMark marks place (128 - place % 128 + trailing_zeros w128 (get_or marks (1 - place / 128) 0))
found_other marks place small fits none some =
    let other = get_or marks (1 - place / 128) 0 in
    let at : ℕ = trailing_zeros w128 other in
    let lowest = bit_at-trailing_zeros w128 other (omega arith) fits in
    let low : at < 128 = lowest.0 in
    let far : place % 128 + (128 - place % 128 + at) - 128 ≡ at = omega arith in
    record {
      below = omega arith;
      marked = read_other marks place (128 - place % 128 + at) small (omega arith) (omega arith) ∙ ap (bit_at other) far ∙ lowest.1;
      before = λ less h. elim (cases_lt (place % 128 + less) 128) [
        | inl l ↦ clear_ahead marks place small none less l
        | inr g ↦ read_other marks place less small g (omega arith) ∙ lowest.2 (place % 128 + less - 128) (omega arith)
      ];
    }

pub found_behind : (marks : List ℕ) (place : ℕ) → place < 256 → get_or marks (place / 128) 0 < 2 ^ 128 →
    get_or marks (place / 128) 0 / 2 ^ (place % 128) ≡ 0 → get_or marks (1 - place / 128) 0 ≡ 0 → (get_or marks (place / 128) 0 ≡ 0 → ⊥) →
    IsNextMark marks place (256 - place % 128 + trailing_zeros w128 (get_or marks (place / 128) 0))
found_behind marks place small fits none none_other some =
    let here = get_or marks (place / 128) 0 in
    let at : ℕ = trailing_zeros w128 here in
    let lowest = bit_at-trailing_zeros w128 here (omega arith) fits in
    let low : at < place % 128 = elim (cases_lt at (place % 128)) [
      | inl l ↦ l
      | inr g ↦
          let back : place % 128 + (at - place % 128) ≡ at = omega arith in
          let clear : bit_at here (place % 128 + (at - place % 128)) ≡ 0 =
          sym (shifted here (place % 128) (at - place % 128)) ∙ ap (λ n. bit_at n (at - place % 128)) none ∙ bit_at-zero (at - place % 128) in
          absurd (both_bits _ lowest.1 (ap (bit_at here) (sym back) ∙ clear))
    ] in
    let far : place % 128 + (256 - place % 128 + at) - 256 ≡ at = omega arith in
    record {
      below = omega arith;
      marked = read_behind marks place (256 - place % 128 + at) small (omega arith) (omega arith) ∙ ap (bit_at here) far ∙ lowest.1;
      before = λ less h. elim (cases_lt (place % 128 + less) 128) [
        | inl l ↦ clear_ahead marks place small none less l
        | inr g ↦ elim (cases_lt (place % 128 + less) 256) [
          | inl m ↦ clear_other marks place small none_other less g m
          | inr b ↦ read_behind marks place less small b (omega arith) ∙ lowest.2 (place % 128 + less - 256) (omega arith)
        ]
      ];
    }

pub none_marked : (marks : List ℕ) (place : ℕ) → place < 256 → get_or marks (place / 128) 0 ≡ 0 → get_or marks (1 - place / 128) 0 ≡ 0 →
    (other : ℕ) → other < 256 → mark_at marks other ≡ 0
unfolding mark_at
none_marked marks place small here there other low = ⊎_elim
    (λ same. ap (λ word. bit_at (get_or marks word 0) (other % 128)) same ∙ ap (λ n. bit_at n (other % 128)) here ∙ bit_at-zero (other % 128))
    (λ apart. let word : other / 128 ≡ 1 - place / 128 = omega arith in
    ap (λ w. bit_at (get_or marks w 0) (other % 128)) word ∙ ap (λ n. bit_at n (other % 128)) there ∙ bit_at-zero (other % 128))
    (cases_eq (other / 128) (place / 128))
