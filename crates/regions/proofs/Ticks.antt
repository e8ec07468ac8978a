-- Which ticks are in a set, by the places of its spans.
use Rattle.std.proofs.Common.{◌≡◌, ◌≢◌, ℕ, zero, suc, ◌<◌, ◌≤◌, leb, ltb, Bool, true, false, ◌||◌, List, [], ◌∷◌, ◌++◌, length, get_or, refl, sym, ap, ◌∙◌, arith, ⊎_elim, inl, inr}
use Rattle.std.specs.Prelude.{◌⊎◌}
use Rattle.std.specs.List.Sorted.{IsNonDecreasingBy}
use Rattle.std.proofs.lemmas.Bool.{and_from, and_parts, cases_eq, false_from_ne_true, false≢true, le-leb, leb-true, lt-ltb, ltb-true, or_cases, or_left, or_right}
use Rattle.std.proofs.lemmas.List.{get_or_default}
use Rattle.regions.specs.declared.span.Span.{Span}
use Rattle.regions.specs.Spans.{IsAt, IsSpans, has, no_span, span_of, within}

pub within_from : (from until t : ℕ) → from ≤ t → t < until → within from until t ≡ true
within_from from until t h k = and_from (leb from t) (ltb t until) (le-leb from t h) (lt-ltb t until k)

pub within_parts : (from until t : ℕ) → within from until t ≡ true → (from ≤ t) × (t < until)
within_parts from until t e = (let p = and_parts (leb from t) (ltb t until) e in (leb-true from t p.0, ltb-true t until p.1))

pub has_at : (ss : List Span) (k t : ℕ) → k < length ss → IsAt ss k t → has ss t ≡ true
has_at [] k t h e = absurd (omega (arith, h))
has_at (s ∷ ss) zero t h e = or_left (within s.from s.until t) (has ss t) (within_from s.from s.until t e.0 e.1)
has_at (s ∷ ss) (suc k) t h e = or_right (within s.from s.until t) (has ss t) (has_at ss k t (omega (arith, h)) e)

pub has_where : (ss : List Span) (t : ℕ) → has ss t ≡ true → (k : ℕ) × (k < length ss) × IsAt ss k t
has_where [] t e = absurd (false≢true e)
has_where (s ∷ ss) t e = ⊎_elim
    (λ (here : within s.from s.until t ≡ true). (zero, omega arith, within_parts s.from s.until t here))
    (λ (later : has ss t ≡ true). let r = has_where ss t later in (suc r.0, omega (arith, r.1), r.2))
    (or_cases (within s.from s.until t) (has ss t) e)

pub has_not : (ss : List Span) (t : ℕ) → ((k : ℕ) → k < length ss → IsAt ss k t → ⊥) → has ss t ≡ false
has_not ss t none = false_from_ne_true (has ss t) (λ e. let r = has_where ss t e in none r.0 r.1 r.2)

pub has_append : (xs ys : List Span) (t : ℕ) → has (xs ++ ys) t ≡ (has xs t || has ys t)
has_append [] ys t = refl
has_append (x ∷ xs) ys t = ap (λ b. within x.from x.until t || b) (has_append xs ys t) ∙ sym (or_assoc (within x.from x.until t) (has xs t) (has ys t))
  where
    or_assoc : (a b c : Bool) → ((a || b) || c) ≡ (a || (b || c))
    or_assoc true b c = refl
    or_assoc false b c = refl

pub same_answer : (a b : Bool) → (a ≡ true → b ≡ true) → (b ≡ true → a ≡ true) → a ≡ b
same_answer true b f g = sym (f refl)
same_answer false true f g = absurd (false≢true (g refl))
same_answer false false f g = refl

-- ---- order

pub some_at : (ss : List Span) (k : ℕ) → IsSpans ss → k < length ss → (span_of ss k).from < (span_of ss k).until
some_at ss k s h = s.some k no_span h

-- an earlier span ends before a later begins; of the same, it ends where it ends
pub until_le : (ss : List Span) (i j : ℕ) → IsSpans ss → i ≤ j → j < length ss → (span_of ss i).until ≤ (span_of ss j).until
until_le ss i j s h k = ⊎_elim
    (λ (e : i ≡ j). rw e (omega arith))
    (λ (n : i ≢ j). let apart = s.apart i j (omega (arith, h, n)) k in let some = some_at ss j s k in omega (arith, apart, some))
    (cases_eq i j)

pub from_le : (ss : List Span) (i j : ℕ) → IsSpans ss → i ≤ j → j < length ss → (span_of ss i).from ≤ (span_of ss j).from
from_le ss i j s h k = ⊎_elim
    (λ (e : i ≡ j). rw e (omega arith))
    (λ (n : i ≢ j). let apart = s.apart i j (omega (arith, h, n)) k in let some = some_at ss i s (omega (arith, h, k)) in omega (arith, apart, some))
    (cases_eq i j)

at_any : (xs : List Span) (i : ℕ) (d : Span) → i < length xs → get_or xs i d ≡ span_of xs i
at_any xs i d h = sym (get_or_default xs i no_span d h)

pub untils_rise : (ss : List Span) → IsSpans ss → IsNonDecreasingBy (λ (s : Span). s.until) ss
untils_rise ss s = λ i j d h k. rw (at_any ss i d (omega (arith, h, k)), at_any ss j d k) (until_le ss i j s h k)

pub froms_rise : (ss : List Span) → IsSpans ss → IsNonDecreasingBy (λ (s : Span). s.from) ss
froms_rise ss s = λ i j d h k. rw (at_any ss i d (omega (arith, h, k)), at_any ss j d k) (from_le ss i j s h k)

-- the tick is in no span but that at this place, before which all end by then, while it ends later
pub only_there : (ss : List Span) (k j t : ℕ) → IsSpans ss → k < length ss → t < (span_of ss k).until → ((i : ℕ) → i < k → (span_of ss i).until ≤ t) → j < length ss → IsAt ss j t → j ≡ k
only_there ss k j t s inside ends before h at = ⊎_elim
    (λ (e : j ≡ k). e)
    (λ (n : j ≢ k). absurd (either n))
    (cases_eq j k)
  where
    later : k < j → ⊥
    later b = let apart = s.apart k j b h in omega (arith, apart, at.0, ends)

    earlier : j < k → ⊥
    earlier b = let e = before j b in omega (arith, e, at.1)

    either : j ≢ k → ⊥
    either n = ⊎_elim (λ (b : k < j). later b) (λ (b : j < k). earlier b) (order k j (λ e. n (sym e)))
      where
        order : (a b : ℕ) → a ≢ b → (a < b) ⊎ (b < a)
        order zero zero n = absurd (n refl)
        order zero (suc b) n = inl (omega arith)
        order (suc a) zero n = inr (omega arith)
        order (suc a) (suc b) n = ⊎_elim (λ (h : a < b). inl (omega (arith, h))) (λ (h : b < a). inr (omega (arith, h))) (order a b (λ e. n (ap suc e)))
