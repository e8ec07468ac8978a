-- Other spans in place of those from one place to another.
use Rattle.std.proofs.Common.{◌≡◌, ℕ, zero, suc, ◌+◌, ◌-◌, ◌<◌, ◌≤◌, true, ◌||◌, List, ◌++◌, length, length-append, take, drop, refl, arith, ⊎_elim, inl, inr}
use Rattle.std.specs.Prelude.{◌⊎◌}
use Rattle.std.specs.List.{All}
use Rattle.std.proofs.lemmas.Bool.{or_cases, or_left, or_right}
use Rattle.std.proofs.lemmas.List.{get_or_append_left, get_or-append_right, get_or-take, get_or-drop, length-take-le, length-drop}
use Rattle.std.proofs.lemmas.List.Elements.{All-append, All-drop, All-get_or, All-take}
use Rattle.regions.specs.declared.span.Span.{Span}
use Rattle.regions.specs.Spans.{IsAt, IsSpans, has, no_span, span_of}
use Rattle.regions.proofs.Ticks.{has_append, has_at, has_where}

pub le_or_lt : (a b : ℕ) → (a ≤ b) ⊎ (b < a)
le_or_lt zero b = inl (omega arith)
le_or_lt (suc a) zero = inr (omega arith)
le_or_lt (suc a) (suc b) = ⊎_elim (λ (h : a ≤ b). inl (omega (arith, h))) (λ (h : b < a). inr (omega (arith, h))) (le_or_lt a b)

-- ---- spans put after spans

abbrev pub Apart : List Span → List Span → Type 0
Apart xs ys = (i j : ℕ) → i < length xs → j < length ys → (span_of xs i).until < (span_of ys j).from

left : (xs ys : List Span) (i : ℕ) → i < length xs → span_of (xs ++ ys) i ≡ span_of xs i
left xs ys i h = get_or_append_left xs ys no_span i h

right : (xs ys : List Span) (i : ℕ) → length xs ≤ i → span_of (xs ++ ys) i ≡ span_of ys (i - length xs)
right xs ys i h = get_or-append_right xs ys (length xs) i no_span refl h

pub join : (xs ys : List Span) → IsSpans xs → IsSpans ys → Apart xs ys → IsSpans (xs ++ ys)
join xs ys x y apart = record {
  some = All-append (λ s. s.from < s.until) xs ys x.some y.some;
  apart = λ i j h k.
      let sum = rw (length-append xs ys) at k in
      ⊎_elim
      (λ (jr : length xs ≤ j). ⊎_elim
      (λ (ir : length xs ≤ i). rw (right xs ys i ir, right xs ys j jr) (y.apart (i - length xs) (j - length xs) (omega (arith, h, ir)) (omega (arith, sum, jr))))
      (λ (il : i < length xs). rw (left xs ys i il, right xs ys j jr) (apart i (j - length xs) il (omega (arith, sum, jr))))
      (le_or_lt (length xs) i))
      (λ (jl : j < length xs). rw (left xs ys i (omega (arith, h, jl)), left xs ys j jl) (x.apart i j h jl))
      (le_or_lt (length xs) j);
}

front : (ss : List Span) (n : ℕ) → IsSpans ss → n ≤ length ss → IsSpans (take n ss)
front ss n s h = record {
  some = All-take (λ s. s.from < s.until) n ss s.some;
  apart = λ i j b k.
      let inside = rw (length-take-le n ss h) at k in
      rw (get_or-take n ss i no_span (omega (arith, b, inside)), get_or-take n ss j no_span inside) (s.apart i j b (omega (arith, inside, h)));
}

back : (ss : List Span) (n : ℕ) → IsSpans ss → IsSpans (drop n ss)
back ss n s = record {
  some = All-drop (λ s. s.from < s.until) n ss s.some;
  apart = λ i j b k.
      let count = length-drop n ss in
      rw (get_or-drop n ss i no_span, get_or-drop n ss j no_span) (s.apart (n + i) (n + j) (omega (arith, b)) (omega (arith, k, count)));
}

-- these spans fit between those before the first place and those from the last on
pub record Fits (ss : List Span) (first last : ℕ) (with : List Span) : Type 0 where
  pub order : first ≤ last
  pub by : last ≤ length ss
  pub spans : IsSpans with
  pub after : (k : ℕ) → k < first → All (λ s. (span_of ss k).until < s.from) with
  pub before : (k : ℕ) → last ≤ k → k < length ss → All (λ s. s.until < (span_of ss k).from) with

abbrev pub put : List Span → ℕ → ℕ → List Span → List Span
put ss first last with = take first ss ++ (with ++ drop last ss)

pub put_spans : (ss : List Span) (first last : ℕ) (with : List Span) → IsSpans ss → Fits ss first last with → IsSpans (put ss first last with)
put_spans ss first last with s f =
    join (take first ss) (with ++ drop last ss) (front ss first s (omega (arith, f.order, f.by))) (join with (drop last ss) f.spans (back ss last s) tail) head
  where
    inside : (j : ℕ) → j < length (drop last ss) → last + j < length ss
    inside j h = let count = length-drop last ss in omega (arith, h, count)

    tail : Apart with (drop last ss)
    tail i j h k = rw (get_or-drop last ss j no_span) (All-get_or (λ (s : Span). s.until < (span_of ss (last + j)).from) with i no_span h (f.before (last + j) (omega arith) (inside j k)))

    count : length (take first ss) ≡ first
    count = length-take-le first ss (omega (arith, f.order, f.by))

    head : Apart (take first ss) (with ++ drop last ss)
    head i j h k =
        let low : i < first = rw count at h in
        let sum = rw (length-append with (drop last ss)) at k in
        rw (get_or-take first ss i no_span low) (⊎_elim
        (λ (b : length with ≤ j). rw (right with (drop last ss) j b, get_or-drop last ss (j - length with) no_span) (s.apart i (last + (j - length with)) (omega (arith, low, f.order)) (inside (j - length with) (omega (arith, sum, b)))))
        (λ (a : j < length with). rw (left with (drop last ss) j a) (All-get_or (λ (s : Span). (span_of ss i).until < s.from) with j no_span a (f.after i low)))
        (le_or_lt (length with) j))

-- which ticks it has then
pub put_into : (ss : List Span) (first last : ℕ) (with : List Span) (t : ℕ) → first ≤ length ss → ((k : ℕ) × (k < length ss) × ((k < first) ⊎ (last ≤ k)) × IsAt ss k t) ⊎ (has with t ≡ true) → has (put ss first last with) t ≡ true
put_into ss first last with t by some = rw (has_append (take first ss) (with ++ drop last ss) t, has_append with (drop last ss) t) (⊎_elim
    (λ (old : (k : ℕ) × (k < length ss) × ((k < first) ⊎ (last ≤ k)) × IsAt ss k t). ⊎_elim
    (λ (low : old.0 < first). or_left (has (take first ss) t) (has with t || has (drop last ss) t) (has_at (take first ss) old.0 t (rw (length-take-le first ss by) low) (rw (get_or-take first ss old.0 no_span low) old.3)))
    (λ (high : last ≤ old.0). or_right (has (take first ss) t) (has with t || has (drop last ss) t) (or_right (has with t) (has (drop last ss) t)
    (has_at (drop last ss) (old.0 - last) t (let count = length-drop last ss in omega (arith, count, old.1, high)) (let e : last + (old.0 - last) ≡ old.0 = omega (arith, high) in rw (get_or-drop last ss (old.0 - last) no_span, e) old.3))))
    old.2)
    (λ (new : has with t ≡ true). or_right (has (take first ss) t) (has with t || has (drop last ss) t) (or_left (has with t) (has (drop last ss) t) new))
    some)

pub put_from : (ss : List Span) (first last : ℕ) (with : List Span) (t : ℕ) → first ≤ length ss → has (put ss first last with) t ≡ true → ((k : ℕ) × (k < length ss) × ((k < first) ⊎ (last ≤ k)) × IsAt ss k t) ⊎ (has with t ≡ true)
put_from ss first last with t by e =
    let both = rw (has_append (take first ss) (with ++ drop last ss) t, has_append with (drop last ss) t) at e in
    ⊎_elim
    (λ (f : has (take first ss) t ≡ true). let r = has_where (take first ss) t f in
    let low = rw (length-take-le first ss by) at r.1 in
    inl (r.0, omega (arith, low, by), inl low, (rw (get_or-take first ss r.0 no_span low) at r.2)))
    (λ (rest : (has with t || has (drop last ss) t) ≡ true). ⊎_elim
    (λ (new : has with t ≡ true). inr new)
    (λ (b : has (drop last ss) t ≡ true). let r = has_where (drop last ss) t b in
    inl (last + r.0, (let count = length-drop last ss in omega (arith, count, r.1)), inr (omega arith), (rw (get_or-drop last ss r.0 no_span) at r.2)))
    (or_cases (has with t) (has (drop last ss) t) rest))
    (or_cases (has (take first ss) t) (has with t || has (drop last ss) t) both)
