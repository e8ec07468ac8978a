-- Two sets in one: their spans one after another, each as it begins.
use Rattle.std.proofs.Common.{◌≡◌, ℕ, ◌+◌, ◌-◌, ◌<◌, ◌≤◌, Bool, true, false, ◌||◌, List, [], ◌∷◌, ◌++◌, length, take, drop, set, refl, sym, ap, ◌∙◌, arith}
use Rattle.std.specs.Prelude.{max}
use Rattle.std.proofs.lemmas.List.{drop-set, drop_all, take-append-drop, take-set, take_all, take_more}
use Rattle.std.proofs.lemmas.List.Elements.{All-append, All-cons, All-drop, All-nil, All-take}
use Rattle.regions.specs.declared.span.Span.{Span}
use Rattle.regions.specs.Spans.{BeginBy, IsBoth, IsNext, IsSpans, IsWith, has, no_span, span_of, within}
use Rattle.regions.proofs.Ticks.{from_le, has_append, until_le}
use Rattle.regions.proofs.Parts.{Fits, put, put_spans}
use Rattle.regions.proofs.Changes.{added}

-- ---- one span more

later : (spans : List Span) (a b : ℕ) → a ≤ b → BeginBy a spans → BeginBy b spans
later spans a b h by = λ i d k. (let low = by i d k in omega (arith, h, low))

put_order : (ss : List Span) (first last tick : ℕ) (s : Span) → s.from ≤ tick → BeginBy tick ss → BeginBy tick (put ss first last (s ∷ []))
put_order ss first last tick s low by = All-append (λ x. x.from ≤ tick) (take first ss) (s ∷ drop last ss) (All-take (λ x. x.from ≤ tick) first ss by) (All-cons (λ x. x.from ≤ tick) s (drop last ss) low (All-drop (λ x. x.from ≤ tick) last ss by))

set_put : (ss : List Span) (n : ℕ) (s : Span) → 0 < n → n ≤ length ss → set ss (n - 1) s ≡ put ss (n - 1) n (s ∷ [])
set_put ss n s some by =
    let e : (n - 1) + 1 ≡ n = omega (arith, some) in
    sym (take-append-drop (n - 1) (set ss (n - 1) s)) ∙ rw (take-set ss (n - 1) s, drop-set ss (n - 1) s (omega (arith, some, by)), e) refl

append_put : (ss : List Span) (n : ℕ) (s : Span) → n ≡ length ss → ss ++ (s ∷ []) ≡ put ss n n (s ∷ [])
append_put ss n s count = rw (take_all n ss (omega (arith, count)), drop_all n ss (omega (arith, count))) refl

-- it begins in the last span or where that ends
pub joined_with : (ss : List Span) (n : ℕ) (span s : Span) → IsSpans ss → span.from < span.until → BeginBy span.from ss → n ≡ length ss → 0 < n →
    span.from ≤ (span_of ss (n - 1)).until → s.from ≡ (span_of ss (n - 1)).from → s.until ≡ max (span_of ss (n - 1)).until span.until → IsWith span ss (set ss (n - 1) s)
joined_with ss n span s spans some order count pos near from until = rw (set_put ss n s pos (omega (arith, count))) (record {
  spans = put_spans ss (n - 1) n (s ∷ []) spans both.0;
  order = put_order ss (n - 1) n span.from s (omega (arith, from, low)) order;
  ticks = both.1;
})
  where
    low : (span_of ss (n - 1)).from ≤ span.from
    low = order (n - 1) no_span (omega (arith, count, pos))

    both : Fits ss (n - 1) n (s ∷ []) × ((t : ℕ) → has (put ss (n - 1) n (s ∷ [])) t ≡ (has ss t || within span.from span.until t))
    both = added ss (n - 1) n span.from span.until s spans some (omega (arith, count)) (omega (arith, count))
        (λ k h. (let apart = spans.apart k (n - 1) h (omega (arith, count, pos)) in omega (arith, apart, low)))
        (λ k h i. (let ends = until_le ss (n - 1) k spans h i in omega (arith, ends, near)))
        (λ k h. (let begins = order k no_span (omega (arith, h, count)) in omega (arith, begins, some)))
        (λ k h i. absurd (omega (arith, h, i, count)))
        ((λ h. (omega (arith, from, low), omega (arith, until))), (λ h. absurd (omega (arith, h, pos))))

-- it begins behind all
pub appended_with : (ss : List Span) (span : Span) → IsSpans ss → span.from < span.until → BeginBy span.from ss →
    (0 < length ss → (span_of ss (length ss - 1)).until < span.from) → IsWith span ss (ss ++ (span ∷ []))
appended_with ss span spans some order behind = rw (append_put ss (length ss) span refl) (record {
  spans = put_spans ss (length ss) (length ss) (span ∷ []) spans both.0;
  order = put_order ss (length ss) (length ss) span.from span (omega arith) order;
  ticks = both.1;
})
  where
    both : Fits ss (length ss) (length ss) (span ∷ []) × ((t : ℕ) → has (put ss (length ss) (length ss) (span ∷ [])) t ≡ (has ss t || within span.from span.until t))
    both = added ss (length ss) (length ss) span.from span.until span spans some (omega arith) (omega arith)
        (λ k h. (let ends = until_le ss k (length ss - 1) spans (omega (arith, h)) (omega (arith, h)) in let last = behind (omega (arith, h)) in omega (arith, ends, last)))
        (λ k h i. absurd (omega (arith, h, i)))
        (λ k h. (let begins = order k no_span h in omega (arith, begins, some)))
        (λ k h i. absurd (omega (arith, h, i)))
        ((λ h. absurd (omega (arith, h))), (λ h. (refl, refl)))

-- ---- two sets

-- these spans have the ticks of the spans before a place in each set, and none begins behind what comes next
pub record IsMerged (one other both : List Span) (place other_place : ℕ) : Type 0 where
  pub by : place ≤ length one
  pub other_by : other_place ≤ length other
  pub spans : IsSpans both
  pub order : place < length one → BeginBy (span_of one place).from both
  pub other_order : other_place < length other → BeginBy (span_of other other_place).from both
  pub ticks : (t : ℕ) → has both t ≡ (has (take place one) t || has (take other_place other) t)

pub none_merged : (one other : List Span) → IsMerged one other [] 0 0
none_merged one other = record {
  by = omega arith;
  other_by = omega arith;
  spans = record { some = All-nil (λ s. s.from < s.until); apart = λ i j h k. absurd (omega (arith, k)) };
  order = λ h. All-nil (λ s. s.from ≤ (span_of one 0).from);
  other_order = λ h. All-nil (λ s. s.from ≤ (span_of other 0).from);
  ticks = λ t. refl;
}

pub all_merged : (one other both : List Span) (place other_place : ℕ) → length one ≤ place → length other ≤ other_place → IsMerged one other both place other_place → IsBoth one other both
all_merged one other both place other_place h k m = record {
  spans = m.spans;
  ticks = λ t. (rw (take_all place one h, take_all other_place other k) at m.ticks t);
}

swapped : (one other both : List Span) (place other_place : ℕ) → IsMerged one other both place other_place → IsMerged other one both other_place place
swapped one other both place other_place m = record {
  by = m.other_by;
  other_by = m.by;
  spans = m.spans;
  order = m.other_order;
  other_order = m.order;
  ticks = λ t. m.ticks t ∙ either (has (take place one) t) (has (take other_place other) t);
}
  where
    either : (a b : Bool) → (a || b) ≡ (b || a)
    either true true = refl
    either true false = refl
    either false true = refl
    either false false = refl

pub one_merged : (one other both new : List Span) (place other_place : ℕ) → IsSpans one → IsMerged one other both place other_place → IsNext one place other other_place → IsWith (span_of one place) both new → IsMerged one other new (place + 1) other_place
one_merged one other both new place other_place spans m next with = record {
  by = omega (arith, next.inside);
  other_by = m.other_by;
  spans = with.spans;
  order = λ k. later new (span_of one place).from (span_of one (place + 1)).from (from_le one place (place + 1) spans (omega arith) k) with.order;
  other_order = λ k. later new (span_of one place).from (span_of other other_place).from (next.first k) with.order;
  ticks = λ t. with.ticks t ∙ ap (λ b. b || within (span_of one place).from (span_of one place).until t) (m.ticks t)
      ∙ between (has (take place one) t) (has (take other_place other) t) (within (span_of one place).from (span_of one place).until t)
      ∙ ap (λ b. b || has (take other_place other) t) (sym (one_more t));
}
  where
    one_more : (t : ℕ) → has (take (place + 1) one) t ≡ (has (take place one) t || (within (span_of one place).from (span_of one place).until t || false))
    one_more t = ap (λ xs. has xs t) (take_more one place no_span next.inside) ∙ has_append (take place one) (span_of one place ∷ []) t

    between : (a b w : Bool) → ((a || b) || w) ≡ ((a || (w || false)) || b)
    between true b w = refl
    between false true true = refl
    between false true false = refl
    between false false true = refl
    between false false false = refl

pub other_merged : (one other both new : List Span) (place other_place : ℕ) → IsSpans other → IsMerged one other both place other_place → IsNext other other_place one place → IsWith (span_of other other_place) both new → IsMerged one other new place (other_place + 1)
other_merged one other both new place other_place spans m next with =
    swapped other one new (other_place + 1) place (one_merged other one both new other_place place spans (swapped one other both place other_place m) next with)
